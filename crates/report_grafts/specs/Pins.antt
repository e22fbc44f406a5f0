-- Cuts that fix how many duties each shift has on each day, and leave their breaks open. Source: this project's profile.
use Rattle.std.specs.Prelude.{◌≡◌, ◌↔◌, ℕ, ◌<◌, IsTrue, IsFalse, List, [], ◌∷◌, length, if◌then◌else◌}
use Rattle.std.specs.List.{flat_map}
use Rattle.shift_instance.specs.declared.Duty.{Duty}
use Rattle.shift_instance.specs.Problem.{Problem, shift_list, below}
use Rattle.shift_instance.specs.Rota.{lists_of, heads_on}
use Rattle.head_splits.specs.declared.Cut.{Cut}
use Rattle.head_splits.specs.declared.Side.TheVariants.{AtMost, AtLeast}
use Rattle.head_splits.specs.Cuts.{meets, whole_class}
use Rattle.head_splits.specs.Bound.{is_nil}

-- a shift has so many duties on a day: no more, and no fewer
abbrev pub pins_on : ℕ → ℕ → ℕ → List Cut
pins_on s day heads =
    record { class = whole_class s day; side = AtMost; m = heads } ∷ record { class = whole_class s day; side = AtLeast; m = heads } ∷ []

-- a shift has on each day as many duties as in a rota; one without a legal break list has no duty anyway
abbrev pub pins_of_shift : Problem → List Duty → ℕ → List Cut
pins_of_shift i rota s =
    if is_nil (lists_of i s) then [] else flat_map (λ day. pins_on s day (heads_on rota s day)) (below i.days)

-- so has each shift
abbrev pub pins_of : Problem → List Duty → List Cut
pins_of i rota = flat_map (pins_of_shift i rota) (below (length (shift_list i)))

-- two rotas have equally many duties of each shift with a legal break list on each day
abbrev pub HaveSameHeads : Problem → List Duty → List Duty → Type 0
HaveSameHeads i rota other =
    (s day : ℕ) → s < length (shift_list i) → IsFalse (is_nil (lists_of i s)) → day < i.days → heads_on rota s day ≡ heads_on other s day

-- a rota meets the cuts that fix the duties of another exactly where it has as many of each shift on each day
abbrev pub PinsFixHeads : Type 0
PinsFixHeads = (i : Problem) (rota other : List Duty) → IsTrue (meets rota (pins_of i other)) ↔ HaveSameHeads i rota other
