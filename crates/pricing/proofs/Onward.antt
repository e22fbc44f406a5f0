-- The best lists that go on from some breaks, and what covers them.
use Rattle.pricing.proofs.Common.{◌≡◌, ◌⊎◌, inl, inr, ℤ, true, false, List, [], ◌∷◌, ◌++◌, refl, sym, ap, ◌∙◌, subst, append_assoc, append-nil, Option, false≢true, Break, is_legal, is_live, IsRule, Has, Has-append_cases, live_rest, no_longer_list, rest_first, live_back, live_legal, Priced, Found, IsLegal, Covers, CoversFrom, AreBestAround}
use Rattle.pricing.proofs.Beyond.{covers_next}

module _ (p : Priced) (front : List Break) where
  -- none go on from breaks with which no legal list begins
  pub around_dead : (lists : List (List Break)) → IsRule p.rule → is_live p.rule p.len front ≡ false → lists ≡ [] → AreBestAround p front lists
  around_dead lists r dead none =
      subst (AreBestAround p front) (sym none)
      (record {
        well_formed = r;
        legal = λ list m. absurd m;
        onward = λ b live. absurd (false≢true (sym dead ∙ live_back p.rule p.len front b live));
        itself = λ legal. absurd (false≢true (sym dead ∙ live_legal p.rule p.len front legal));
      })

  -- none go on from a legal list but itself
  pub around_legal : (lists : List (List Break)) → IsRule p.rule → is_legal p.rule p.len front ≡ true → lists ≡ front ∷ [] → AreBestAround p front lists
  around_legal lists r whole only =
      subst (AreBestAround p front) (sym only)
      (record {
        well_formed = r;
        legal = λ list m. elim m [ inl s ↦ subst (IsLegal p) s whole | inr none ↦ absurd none ];
        onward = λ b live. absurd (longer b live);
        itself = λ legal. inl refl;
      })
    where
      some : (b : Break) (bs : List Break) → b ∷ bs ≡ [] → ⊥
      some b bs e = absurd (cc)

      longer : (b : Break) → is_live p.rule p.len (front ++ b ∷ []) ≡ true → ⊥
      longer b live =
          let rest = live_rest p.rule p.len (front ++ b ∷ []) live in
          some b rest.0 (no_longer_list p.rule p.len front (b ∷ rest.0) whole (ap (is_legal p.rule p.len) (sym (append_assoc front (b ∷ []) rest.0)) ∙ rest.1))

  -- what covers these lists covers each legal list that leaves all prefixes directly behind the breaks
  pub covers_around : (entries : List (List Break × ℤ)) (best : Option Found) (lists : List (List Break)) → AreBestAround p front lists → ((list : List Break) → Has lists list → Covers p entries best list) → CoversFrom p entries best front
  covers_around entries best lists around covers = by
    where
      by : CoversFrom p entries best front
      by [] legal leaving = covers (front ++ []) (subst (Has lists) (sym (append-nil front)) (around.itself (ap (is_legal p.rule p.len) (sym (append-nil front)) ∙ legal)))
      by (b ∷ bs) legal leaving =
          let first = rest_first p.rule p.len front b bs legal in
          let w = around.onward b first.0 in
          covers_next p entries best front b (front ++ b ∷ []) w.0 around.well_formed refl w.2 (covers w.0 w.1) bs legal leaving

-- one list fewer that is left
pub left_or_covered : (all now next : List (List Break)) (x : List Break) (P Q : List Break → Type 0) → now ≡ next ++ x ∷ [] → ((l : List Break) → Has all l → Has now l ⊎ P l) → ((l : List Break) → P l → Q l) → Q x
    → (l : List Break) → Has all l → Has next l ⊎ Q l
left_or_covered all now next x P Q is before keep here l m =
    elim (before l m) [
      | inl h ↦ elim (Has-append_cases next (x ∷ []) l (subst (λ k. Has k l) is h)) [
        | inl a ↦ inl a
        | inr e ↦ elim e [ inl s ↦ inr (subst Q s here) | inr none ↦ absurd none ]
      ]
      | inr c ↦ inr (keep l c)
    ]
