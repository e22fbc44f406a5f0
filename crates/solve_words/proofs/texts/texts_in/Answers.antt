use Rattle.solve_words.proofs.Common.{◌≡◌, ◌≢◌, ◌∙◌, sym, ap, subst, refl, true, false, List, [], map, string_bytes, codes, Global, false≢true, fault_of, is_simple_and_free, is_simple, matches_of, kind_of, first_of, one_of, rows_of, Text, App, app_of, first_value-rows, list_any-map, one_text-rows, has_separator, is_separator, options_app, local, table, thorough, turns}
use Rattle.clap.specs.declared.error.kind.ErrorKind.TheVariants as kind
use Rattle.clap.specs.Matches.{found_of, one_text}
use Rattle.solve_words.proofs.Finding.{fault_found, flag_found, has_fault, separator_found, texts_found}
use Rattle.solve_words.proofs.Giving.{said_by, same_given}
use Rattle.solve_words.proofs.texts.texts_in.Goals as goal

simple : is_simple options_app ≡ true
simple = refl

free : is_simple_and_free options_app ≡ true
free = refl

pub returns-then-has_separator : goal.returns-then-has_separator
returns-then-has_separator c =
    separator_found (map (string_bytes {Z = Global}) c.args.words.now) (sym (c.has_separator.ensures ∙ list_any-map is_separator (string_bytes {Z = Global}) c.args.words.now) ∙ c.if-has_separator.true)

pub returns-in-Ok : goal.returns-in-Ok
returns-in-Ok c =
    let words : List Text = map (string_bytes {Z = Global}) c.args.words.now in
    let plain : has_separator words ≡ false = sym (c.has_separator.ensures ∙ list_any-map is_separator (string_bytes {Z = Global}) c.args.words.now) ∙ c.if-has_separator.false in
    let is : app_of c.in_ok-options.field-0 ≡ options_app = c.in_ok-options.ensures in
    let none : fault_of options_app words ≡ [] = subst (λ (a : App). fault_of a words ≡ []) is (c.in-Ok.ensures.kinds (ap is_simple_and_free is ∙ free)) in
    let rows : rows_of (found_of c.in-Ok.matches) ≡ matches_of options_app words = (c.in-Ok.ensures.matches (ap is_simple is ∙ simple)).0 ∙ ap (λ (a : App). matches_of a words) is in
    let found = found_of c.in-Ok.matches in
    texts_found words _ plain none (same_given _ (said_by (matches_of options_app words))
    (c.get_str.ensures ∙ first_value-rows found (codes "JOURNAL") ∙ ap (first_of (codes "JOURNAL")) rows)
    (c.get_str-in-Ok.ensures ∙ first_value-rows found (codes "workers") ∙ ap (first_of (codes "workers")) rows)
    (c.get_str-in-Ok-2.ensures ∙ first_value-rows found (codes "steps") ∙ ap (first_of (codes "steps")) rows)
    (c.get_str-in-Ok-3.ensures ∙ first_value-rows found (codes "demo") ∙ ap (first_of (codes "demo")) rows)
    (flag_found table words plain none c.get_flag.result (one_text found (codes "table")) (one_text-rows found (codes "table") ∙ ap (one_of (codes "table")) rows) c.get_flag.ensures.value c.get_flag.ensures.other)
    (flag_found local words plain none c.get_flag-in-Ok.result (one_text found (codes "local")) (one_text-rows found (codes "local") ∙ ap (one_of (codes "local")) rows) c.get_flag-in-Ok.ensures.value c.get_flag-in-Ok.ensures.other)
    (flag_found thorough words plain none c.get_flag-in-Ok-2.result (one_text found (codes "thorough")) (one_text-rows found (codes "thorough") ∙ ap (one_of (codes "thorough")) rows) c.get_flag-in-Ok-2.ensures.value c.get_flag-in-Ok-2.ensures.other)
    (flag_found turns words plain none c.get_flag-in-Ok-3.result (one_text found (codes "turns")) (one_text-rows found (codes "turns") ∙ ap (one_of (codes "turns")) rows) c.get_flag-in-Ok-3.ensures.value c.get_flag-in-Ok-3.ensures.other))

pub returns : goal.returns
returns c =
    let words : List Text = map (string_bytes {Z = Global}) c.args.words.now in
    let is : app_of c.in_ok-options.field-0 ≡ options_app = c.in_ok-options.ensures in
    let other : kind_of c.in-Err.fault ≢ kind.OutOfMemory = λ e.
    let same : c.kind.result ≡ kind.OutOfMemory = c.kind.ensures ∙ e in
    absurd (false≢true (sym c.if-eq.false ∙ (rw same at c.eq.ensures))) in
    let some = has_fault (fault_of (app_of c.in_ok-options.field-0) words) c.in-Err.fault (c.in-Err.ensures.kinds (ap is_simple_and_free is ∙ free)) other in
    fault_found words (λ none. some (ap (λ (a : App). fault_of a words) is ∙ none))
