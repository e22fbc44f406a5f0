-- What other breaks of a duty leave as it is, and moves that make a plan more even one after another.
use Rattle.descents.proofs.Common.{◌≡◌, ◌⊎◌, inl, inr, ℕ, zero, suc, cond, ◌+◌, ◌<◌, ◌≤◌, ◌&&◌, ◌==◌, List, [], ◌∷◌, ◌++◌, None, refl, sym, ap, ◌∙◌, subst, arith, Break, first_cause, no_cause, Duty, Problem, cost, count_of, heads_on, is_on, rota_of, alike_from_counts, without, with_pushed, with_removed, duty, Rebreak, Drafting, AreSameDuties, move_causes, moved, IsEvenedBy, IsEvener, unevenness}
use Rattle.descents.proofs.Descents.{some_by_test}
use Rattle.descents.proofs.Tries.{cost_at}

-- other breaks of a duty leave the duties of each shift on each day as many as they are
pub rebroken_heads : (i : Problem) (rota new : List Duty) (s day : ℕ) (from to : List Break) → first_cause (move_causes i rota (Rebreak s day from to)) ≡ None → AreSameDuties new (moved i (Rebreak s day from to) rota)
    → (a b : ℕ) → heads_on new a b ≡ heads_on rota a b
rebroken_heads i rota new s day from to accepted same a b =
    let n = no_cause (move_causes i rota (Rebreak s day from to)) accepted in
    let old = duty s day from in
    let there : 0 < count_of rota old = some_by_test (count_of rota old) n.1.1.1.0 in
    let x : heads_on new a b ≡ heads_on (without old rota ++ duty s day to ∷ []) a b = alike_from_counts new (without old rota ++ duty s day to ∷ []) same (is_on a b) in
    let y : heads_on (without old rota ++ duty s day to ∷ []) a b ≡ heads_on (without old rota) a b + cond ((s == a) && (day == b)) 1 0 = (with_pushed (without old rota) (duty s day to)).each (is_on a b) in
    let z : heads_on rota a b ≡ heads_on (without old rota) a b + cond ((s == a) && (day == b)) 1 0 = (with_removed rota old there).each (is_on a b) in
    x ∙ y ∙ sym z

-- other breaks that were tried and make the plan more even and no dearer
pub evener_tried : (i : Problem) (old mid : Drafting) (s day : ℕ) (from to : List Break) (before after uneven even : ℕ) → old.instance ≡ i → mid.instance ≡ old.instance
    → first_cause (move_causes i (rota_of old.rows) (Rebreak s day from to)) ≡ None → AreSameDuties (rota_of mid.rows) (moved i (Rebreak s day from to) (rota_of old.rows))
    → before ≡ cost old.instance (rota_of old.rows) → after ≡ cost mid.instance (rota_of mid.rows) → after ≤ before
    → uneven ≡ unevenness i (rota_of old.rows) → even ≡ unevenness i (rota_of mid.rows) → even < uneven → IsEvener i (rota_of old.rows) (rota_of mid.rows)
evener_tried i old mid s day from to before after uneven even e f accepted same b a l u v m =
    let x : before ≡ cost i (rota_of old.rows) = cost_at i old before e b in
    let y : after ≡ cost i (rota_of mid.rows) = cost_at i mid after (f ∙ e) a in
    record {
      cheap = omega arith;
      evener = omega arith;
      heads = rebroken_heads i (rota_of old.rows) (rota_of mid.rows) s day from to accepted same;
    }

pub evened_more : (i : Problem) (old mid new : Drafting) (start left : ℕ) → IsEvenedBy i old mid start left → new.instance ≡ mid.instance → 0 < left → IsEvener i (rota_of mid.rows) (rota_of new.rows) → (after : ℕ) → after + 1 ≡ left
    → IsEvenedBy i old new start after
evened_more i old mid new start left h e some more after one =
    let a : cost i (rota_of mid.rows) ≤ cost i (rota_of old.rows) = h.cheap in
    let b : cost i (rota_of new.rows) ≤ cost i (rota_of mid.rows) = more.cheap in
    let c : unevenness i (rota_of mid.rows) + start ≤ unevenness i (rota_of old.rows) + left = h.evener in
    let d : unevenness i (rota_of new.rows) < unevenness i (rota_of mid.rows) = more.evener in
    let l : left ≤ start = h.down in
    record {
      instance = e ∙ h.instance;
      cheap = omega arith;
      evener = omega arith;
      heads = λ s day. more.heads s day ∙ h.heads s day;
      down = omega arith;
    }

pub evened_same : (i : Problem) (old mid new : Drafting) (start left : ℕ) → IsEvenedBy i old mid start left → new ≡ mid → IsEvenedBy i old new start left
evened_same i old mid new start left h e = record {
  instance = ap (λ (v : Drafting). v.instance) e ∙ h.instance;
  cheap = (let a : cost i (rota_of mid.rows) ≤ cost i (rota_of old.rows) = h.cheap in let b : cost i (rota_of new.rows) ≡ cost i (rota_of mid.rows) = ap (λ (v : Drafting). cost i (rota_of v.rows)) e in omega arith);
  evener = (let a : unevenness i (rota_of mid.rows) + start ≤ unevenness i (rota_of old.rows) + left = h.evener in let b : unevenness i (rota_of new.rows) ≡ unevenness i (rota_of mid.rows) = ap (λ (v : Drafting). unevenness i (rota_of v.rows)) e in omega arith);
  heads = λ s day. ap (λ (v : Drafting). heads_on (rota_of v.rows) s day) e ∙ h.heads s day;
  down = h.down;
}

-- what is known of a plan that costs no more than another, by what the other costs
pub from_dearer : (P : Type 0) (a b c n : ℕ) → b ≤ c → P ⊎ (a + n ≤ b) → P ⊎ (a + n ≤ c)
from_dearer P a b c n h (inl p) = inl p
from_dearer P a b c n h (inr l) = inr (omega arith)

pub above_zero : (n : ℕ) → (n ≡ 0 → ⊥) → 0 < n
above_zero zero h = absurd (h refl)
above_zero (suc n) h = omega arith

pub evened_at : (i : Problem) (old new : Drafting) (start left after : ℕ) → after ≡ left → IsEvenedBy i old new start left → IsEvenedBy i old new start after
evened_at i old new start left after e h = subst (λ (n : ℕ). IsEvenedBy i old new start n) (sym e) h
