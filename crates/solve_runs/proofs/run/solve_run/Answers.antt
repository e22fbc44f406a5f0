use Rattle.solve_runs.proofs.Common.{ap, refl, sym, ℕ, subst, map, option_map, Option, Some, None, string_bytes, List, Global, IfSome, asked, from_number, Asks, IsReadAs, IsWithin, met_of, IsUncalled}
use Rattle.solve_words.specs.declared.command.Command.{Command as Spoken}
use Rattle.solve_runs.proofs.Ending.{uncalled}
use Rattle.solve_runs.proofs.Explaining.{asks_read, explains_turned, no_command, none_in, read_asked, unasked, unknown, unread_of}
use Rattle.solve_runs.proofs.Telling.{Element}
use Rattle.solve_runs.proofs.run.solve_run.Goals as goal

pub run_command-requires-clause-within : goal.run_command-requires-clause-within
run_command-requires-clause-within g c κs within =
    let s = c.in-Ok-Some in
    subst (λ (o : Option Spoken). IfSome o (λ command. IsWithin (asked command))) s.field-0-is s.ensures.within

pub returns-in-Ok-Some-clause-status : goal.returns-in-Ok-Some-clause-status
returns-in-Ok-Some-clause-status g c =
    let s = c.in-Ok-Some in
    let words : List (List ℕ) = map (string_bytes {Z = Global}) c.args.words.now in
    let reads : IsReadAs words (Some (asked s.command)) = subst (λ (o : Option Spoken). IsReadAs words (option_map asked o)) s.field-0-is s.ensures.reads in
    explains_turned _ (Asks words) (asked s.command) refl (λ a same. asks_read words (asked s.command) a reads same) _ c.run_command.ensures.status

pub returns-in-Ok-Some-clause-unread : goal.returns-in-Ok-Some-clause-unread
returns-in-Ok-Some-clause-unread g c = λ unread.
    let s = c.in-Ok-Some in
    let words : List (List ℕ) = map (string_bytes {Z = Global}) c.args.words.now in
    let reads : IsReadAs words (Some (asked s.command)) = subst (λ (o : Option Spoken). IsReadAs words (option_map asked o)) s.field-0-is s.ensures.reads in
    c.run_command.ensures.unread (unread_of words (asked s.command) _ reads unread)

pub returns-in-Ok-Some-clause-beside : goal.returns-in-Ok-Some-clause-beside
returns-in-Ok-Some-clause-beside g c = λ number steps asks.
    let s = c.in-Ok-Some in
    let words : List (List ℕ) = map (string_bytes {Z = Global}) c.args.words.now in
    let reads : IsReadAs words (Some (asked s.command)) = subst (λ (o : Option Spoken). IsReadAs words (option_map asked o)) s.field-0-is s.ensures.reads in
    c.run_command.ensures.beside number steps (sym (read_asked words (asked s.command) (from_number number steps) reads asks))

pub returns-in-Ok-None-clause-status : goal.returns-in-Ok-None-clause-status
returns-in-Ok-None-clause-status g c =
    let words : List (List ℕ) = map (string_bytes {Z = Global}) c.args.words.now in
    let reads : IsReadAs words None = subst (λ (o : Option Spoken). IsReadAs words (option_map asked o)) c.in-Ok-None.field-0-is c.in-Ok-None.ensures.reads in
    let heard : Element c.args.advisers.items → ℕ = λ a. (goal.Adviser-dyn g (a.vtable, a.value)).told a.value in
    let e = c.early.ensures in
    unasked _ _ e.0 e.3 (none_in _ _ e.4) (ap (map heard) e.1) (no_command words reads)

pub returns-in-Err-clause-status : goal.returns-in-Err-clause-status
returns-in-Err-clause-status g c =
    let K = g.D.Disk in
    let heard : Element c.args.advisers.items → ℕ = λ a. (goal.Adviser-dyn g (a.vtable, a.value)).told a.value in
    let e = c.unopened.ensures in
    unknown _ _ e.0 e.3 (none_in _ _ e.4) (ap (λ v. map heard v.items) e.1)
    (subst (λ d. IsUncalled (met_of K.reads K.images K.images_since K.calls K.faults c.args.disk d)) (sym e.2) (uncalled K.reads K.images K.images_since K.calls K.faults c.args.disk))
