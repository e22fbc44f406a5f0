-- The breaks of a row, one more at a time.
use Rattle.rota_sheets.proofs.Common.{◌≡◌, ℕ, ◌+◌, ◌<◌, ◌≤◌, Option, None, Some, List, [], ◌∷◌, ◌++◌, length, get_or, map, take, sym, ap, ◌∙◌, refl, IsSomeAnd, slice_get, option_map_or, map_more, take_all, Rule, Row, Shift, Problem, shift_list, slot_of, TakenBreak, breaks_of_row, taken_break}
use Rattle.break_rules.specs.declared.Break.{Break}

-- the first breaks of a row
abbrev pub first_breaks : Problem → Row → ℕ → List TakenBreak
first_breaks i r k = option_map_or (λ x. map (taken_break i x.0 r) (take k r.breaks)) (slice_get (shift_list i) r.shift) []
