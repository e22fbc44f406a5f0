-- The legal lists are those that are legal, in rising order.
use Rattle.break_rules.proofs.Common.{◌≡◌, inl, ℕ, true, List, [], ◌∷◌, drop, refl, sym, subst, list_all, list_any, zip, and_from, Break, Rule, same_list, is_less_list, is_legal, legal_lists, Has, Sorted}
use Rattle.break_rules.proofs.Lists.{any_at, any_some, same_tests}
use Rattle.break_rules.proofs.LegalLists.{Has-legal_lists, from_legal_lists, same_list_decides}
use Rattle.break_rules.proofs.Ordered.{Sorted-legal_lists, IsLess}

pub any_legal : (rule : Rule) (len : ℕ) (list : List Break) → list_any (same_list list) (legal_lists rule len) ≡ is_legal rule len list
any_legal rule len list =
    same_tests (list_any (same_list list) (legal_lists rule len)) (is_legal rule len list)
    (λ h. let s = any_some (same_list list) (legal_lists rule len) h in
    from_legal_lists rule len list (subst (λ (x : List Break). Has (legal_lists rule len) x) (sym ((same_list_decides list s.0).0 s.2)) s.1))
    (λ h. any_at (same_list list) (legal_lists rule len) list (Has-legal_lists rule len list h) ((same_list_decides list list).1 refl))

rising : (xs : List (List Break)) → Sorted IsLess xs → list_all (λ (p : List Break × List Break). is_less_list p.0 p.1) (zip xs (drop 1 xs)) ≡ true
rising [] s = refl
rising (x ∷ []) s = refl
rising (x ∷ y ∷ ys) s = and_from (is_less_list x y) (list_all (λ (p : List Break × List Break). is_less_list p.0 p.1) (zip (y ∷ ys) ys)) (s.0 y (inl refl)) (rising (y ∷ ys) s.1)

pub legal_rising : (rule : Rule) (len : ℕ) → list_all (λ (p : List Break × List Break). is_less_list p.0 p.1) (zip (legal_lists rule len) (drop 1 (legal_lists rule len))) ≡ true
legal_rising rule len = rising (legal_lists rule len) (Sorted-legal_lists rule len)
