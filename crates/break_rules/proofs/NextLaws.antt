-- What the breaks that may come next are, and in which order.
use Rattle.break_rules.proofs.Common.{◌≡◌, inl, ℕ, true, ◌&&◌, List, [], ◌∷◌, ◌++◌, drop, refl, sym, ap, ◌∙◌, subst, list_all, list_any, zip, and_from, Break, Rule, Spot, same_break, is_less_break, breaks_between, may_follow, nexts_of, spot_of, is_walk, Has, Sorted}
use Rattle.break_rules.proofs.Lists.{any_at, any_some, same_tests}
use Rattle.break_rules.proofs.LegalLists.{same_break_decides}
use Rattle.break_rules.proofs.Ordered.{Sorted-filter, Sorted-breaks, IsLessBreak}
use Rattle.break_rules.proofs.Steps.{has_next, from_next}
use Rattle.break_rules.proofs.Reaching.{is_walk-more}

pub next_exact : (rule : Rule) (len : ℕ) (spot : Spot) (b : Break) → list_any (same_break b) (nexts_of rule len spot) ≡ may_follow rule len spot.offset spot.used b
next_exact rule len spot b =
    same_tests (list_any (same_break b) (nexts_of rule len spot)) (may_follow rule len spot.offset spot.used b)
    (λ h. let s = any_some (same_break b) (nexts_of rule len spot) h in
    from_next rule len spot b (subst (λ (x : Break). Has (nexts_of rule len spot) x) (sym ((same_break_decides b s.0).0 s.2)) s.1))
    (λ h. any_at (same_break b) (nexts_of rule len spot) b (has_next rule len spot b h) ((same_break_decides b b).1 refl))

rising : (xs : List Break) → Sorted IsLessBreak xs → list_all (λ (p : Break × Break). is_less_break p.0 p.1) (zip xs (drop 1 xs)) ≡ true
rising [] s = refl
rising (x ∷ []) s = refl
rising (x ∷ y ∷ ys) s = and_from (is_less_break x y) (list_all (λ (p : Break × Break). is_less_break p.0 p.1) (zip (y ∷ ys) ys)) (s.0 y (inl refl)) (rising (y ∷ ys) s.1)

pub next_rising : (rule : Rule) (len : ℕ) (spot : Spot) → list_all (λ (p : Break × Break). is_less_break p.0 p.1) (zip (nexts_of rule len spot) (drop 1 (nexts_of rule len spot))) ≡ true
next_rising rule len spot =
    rising (nexts_of rule len spot) (Sorted-filter IsLessBreak (may_follow rule len spot.offset spot.used) (breaks_between spot.offset len) (Sorted-breaks spot.offset len))

pub walk_step : (rule : Rule) (len : ℕ) (list : List Break) (b : Break) → is_walk rule len (list ++ b ∷ []) ≡ (is_walk rule len list && list_any (same_break b) (nexts_of rule len (spot_of rule list)))
walk_step rule len list b = is_walk-more rule len list b ∙ ap (λ t. is_walk rule len list && t) (sym (next_exact rule len (spot_of rule list) b))
