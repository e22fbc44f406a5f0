-- Rows with the same duty, and lists over one more number.
use Rattle.std.proofs.Common.{◌≡◌, ℕ, ◌+◌, Bool, List, [], ◌∷◌, ◌++◌, map, ap, ◌∙◌}
use Rattle.std.specs.Prelude.{◌↔◌, IsTrue}
use Rattle.std.proofs.lemmas.List.{map-append}
use Rattle.break_rules.specs.declared.Break.{Break}
use Rattle.break_rules.proofs.Lists.{same_tests}
use Rattle.shift_instance.specs.declared.Duty.{Duty}
use Rattle.shift_instance.specs.declared.Row.{Row}
use Rattle.shift_instance.specs.Problem.{below}
use Rattle.shift_instance.specs.Rota.{same_duty, duty_of}
use Rattle.shift_instance.proofs.Alike.{same_duty_decides}
use Rattle.shift_instance.proofs.Ranges.{below_next}

-- two rows of the same shift and day have the same duty where their breaks are the same
pub alike_is : (a b : Row) (r : Bool) → IsTrue r ↔ (a.breaks ≡ b.breaks) → a.shift ≡ b.shift → a.day ≡ b.day → r ≡ same_duty (duty_of a) (duty_of b)
alike_is a b r h s d =
    same_tests r (same_duty (duty_of a) (duty_of b))
    (λ t. (same_duty_decides (duty_of a) (duty_of b)).1
    (ap (λ (n : ℕ). let x : Duty = record { shift = n; day = a.day; breaks = a.breaks } in x) s
    ∙ ap (λ (n : ℕ). let x : Duty = record { shift = b.shift; day = n; breaks = a.breaks } in x) d
    ∙ ap (λ (list : List Break). let x : Duty = record { shift = b.shift; day = b.day; breaks = list } in x) (h.0 t)))
    (λ t. h.1 (ap (λ (x : Duty). x.breaks) ((same_duty_decides (duty_of a) (duty_of b)).0 t)))

pub map_below_more : {X : Type 0} (f : ℕ → X) (n : ℕ) → map f (below (n + 1)) ≡ map f (below n) ++ f n ∷ []
map_below_more f n = ap (map f) (below_next n) ∙ map-append f (below n) (n ∷ [])
