-- A guarded text is read as the text that was guarded.
use Rattle.std.proofs.Common.{◌≡◌, ℕ, Bool, true, false, List, [], ◌∷◌, refl, ap, arith, if◌then◌else◌}
use Rattle.table_records.specs.Guarding.{begins_guarded, guarded, unguarded}

-- a text that is guarded
comes_off : (first : ℕ) (rest : List ℕ) → begins_guarded first ≡ true → unguarded (39 ∷ first ∷ rest) ≡ first ∷ rest
comes_off first rest e = ap (λ (b : Bool). if b then first ∷ rest else 39 ∷ first ∷ rest) e

-- a text that isn't, since it begins with no guard either
stays : (first : ℕ) (rest : List ℕ) → begins_guarded first ≡ false → unguarded (first ∷ rest) ≡ first ∷ rest
stays first [] e = refl
stays first (second ∷ rest) e = grind arith

pub come_off : (text : List ℕ) → unguarded (guarded text) ≡ text
come_off [] = refl
come_off (first ∷ rest) = by_first (begins_guarded first) refl
  where
    by_first : (b : Bool) → begins_guarded first ≡ b → unguarded (if b then 39 ∷ first ∷ rest else first ∷ rest) ≡ first ∷ rest
    by_first true e = comes_off first rest e
    by_first false e = stays first rest e
