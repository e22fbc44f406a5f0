-- A table that has the ranges of some cuts has those of one more, once the range of its class is narrowed by it.
use Rattle.head_splits.proofs.Common.{◌≡◌, inl, inr, ℕ, Bool, true, false, cond, ◌&&◌, ◌==◌, List, [], ◌∷◌, ◌++◌, refl, sym, ap, ◌∙◌, Some, unwrap_or, cases_Bool, fold_push, same_list, Problem, Place, RangeTable, Class, Cut, same_class, raised, lowered, low, high, class_at, same_place, range_in, AreRanges}
use Rattle.indexmap.specs.IndexMap.{get}
use Rattle.head_splits.proofs.Duality.{same_class_is}

and_assoc : (a b c : Bool) → ((a && b) && c) ≡ (a && (b && c))
and_assoc true b c = refl
and_assoc false b c = refl

same_at : (k q : Place) → same_class (class_at k) (class_at q) ≡ same_place k q
same_at k q = and_assoc (k.shift == q.shift) (k.day == q.day) (same_list k.prefix.items q.prefix.items)

module _ (i : Problem) (cuts : List Cut) (cut : Cut) where
  -- the range of a class, and that after one more cut on it
  abbrev range_of : Class → ℕ × ℕ
  range_of class = (low cuts class, high i cuts class)

  abbrev pub range_after : Class → ℕ × ℕ
  range_after class = (raised cut.side cut.m (low cuts class), lowered cut.side cut.m (high i cuts class))

  range_more : (class : Class) (b : Bool) → same_class cut.class class ≡ b
      → ◌≡◌ {A = ℕ × ℕ} (low (cuts ++ cut ∷ []) class, high i (cuts ++ cut ∷ []) class) (cond b (range_after class) (range_of class))
  range_more class b e =
      ap (λ (n : ℕ). (n, high i (cuts ++ cut ∷ []) class)) (fold_push (λ n d. cond (same_class d.class class) (raised d.side d.m n) n) 0 cuts cut)
      ∙ ap (λ (n : ℕ). (cond (same_class cut.class class) (raised cut.side cut.m (low cuts class)) (low cuts class), n)) (fold_push (λ n d. cond (same_class d.class class) (lowered d.side d.m n) n) i.heads cuts cut)
      ∙ ap (λ (b : Bool). (cond b (raised cut.side cut.m (low cuts class)) (low cuts class), cond b (lowered cut.side cut.m (high i cuts class)) (high i cuts class))) e
      ∙ pairs b
    where
      pairs : (b : Bool) → ◌≡◌ {A = ℕ × ℕ} (cond b (raised cut.side cut.m (low cuts class)) (low cuts class), cond b (lowered cut.side cut.m (high i cuts class)) (high i cuts class))
          (cond b (range_after class) (range_of class))
      pairs true = refl
      pairs false = refl

  pub narrowed : (t n : RangeTable) (k : Place) (range : ℕ × ℕ) → AreRanges i cuts t → class_at k ≡ cut.class → n.heads ≡ t.heads → range ≡ range_after (class_at k)
      → ((q : Place) → get same_place n.ranges q ≡ cond (same_place k q) (Some range) (get same_place t.ranges q))
      → AreRanges i (cuts ++ cut ∷ []) n
  narrowed t n k range are is heads after update q =
      let class = class_at q in
      let test : same_class cut.class class ≡ same_place k q = ap (λ c. same_class c class) (sym is) ∙ same_at k q in
      let found : range_in n q ≡ unwrap_or (cond (same_place k q) (Some range) (get same_place t.ranges q)) (0, t.heads) =
      ap (λ h. unwrap_or (get same_place n.ranges q) (0, h)) heads ∙ ap (λ o. unwrap_or o (0, t.heads)) (update q) in
      elim (cases_Bool (same_place k q)) [
        | inl e ↦
            let one : class_at k ≡ class = same_class_is (class_at k) class (same_at k q ∙ e) in
            found ∙ ap (λ b. unwrap_or (cond b (Some range) (get same_place t.ranges q)) (0, t.heads)) e
            ∙ after ∙ ap range_after one ∙ sym (range_more class true (test ∙ e))
        | inr e ↦
            found ∙ ap (λ b. unwrap_or (cond b (Some range) (get same_place t.ranges q)) (0, t.heads)) e
            ∙ are q ∙ sym (range_more class false (test ∙ e))
      ]
