use Rattle.solve_runs.proofs.Common.{◌∙◌, ap, ℕ, subst, map, option_map, string_bytes, List, Option, None, Some, Global, asked, from_number, over_journal, IsReadAs}
use Rattle.solve_words.specs.declared.command.Command.{Command}
use Rattle.solve_runs.proofs.Paths.{demonstration_unnamed, journal_named, nothing_named}
use Rattle.solve_runs.proofs.words.journal_path.Goals as goal

pub returns-in_ok-from_str-in-Some-Search : goal.returns-in_ok-from_str-in-Some-Search
returns-in_ok-from_str-in-Some-Search c =
    let words : List (List ℕ) = map (string_bytes {Z = Global}) c.args.words.now in
    let s = c.in-Some-Search in
    let reads : IsReadAs words (Some (over_journal s.journal.now s.field-0-1 s.field-0-2 s.field-0-3 s.field-0-4 s.field-0-5)) = subst (λ (o : Option Command). IsReadAs words (option_map asked o)) (s.is ∙ ap (λ (x : Command). Some x) s.field-0-is) c.in_ok-journal.ensures.reads in
    journal_named words s.journal.now s.field-0-1 s.field-0-2 s.field-0-3 s.field-0-4 s.field-0-5 _ reads (ap (λ (path : List ℕ). Some path) c.in_ok-from_str-in-Some-Search.ensures.ok)

pub returns-in-Some-Demo : goal.returns-in-Some-Demo
returns-in-Some-Demo c =
    let words : List (List ℕ) = map (string_bytes {Z = Global}) c.args.words.now in
    let s = c.in-Some-Demo in
    let reads : IsReadAs words (Some (from_number s.field-0-0 s.field-0-1)) = subst (λ (o : Option Command). IsReadAs words (option_map asked o)) (s.is ∙ ap (λ (x : Command). Some x) s.field-0-is) c.in_ok-journal.ensures.reads in
    demonstration_unnamed words s.field-0-0 s.field-0-1 reads

pub returns-in-None : goal.returns-in-None
returns-in-None c =
    let words : List (List ℕ) = map (string_bytes {Z = Global}) c.args.words.now in
    let reads : IsReadAs words None = subst (λ (o : Option Command). IsReadAs words (option_map asked o)) c.in-None.is c.in_ok-journal.ensures.reads in
    nothing_named words reads
