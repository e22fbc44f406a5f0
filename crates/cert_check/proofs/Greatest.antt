-- The greatest worth of a rest, one first break after another.
use Rattle.cert_check.proofs.Common.{◌≡◌, ◌⊎◌, inl, inr, ℤ, ◌+ℤ◌, ◌≤ℤ◌, true, List, [], ◌∷◌, ◌++◌, refl, sym, ap, ◌∙◌, subst, arith, append_assoc, append-nil, ℕ, Option, Some, None, int_max, ints, clamps, Break, Rule, is_legal, is_live, nexts_of, spot_of, Has-append_cases, Has-append_left, Has-append_right, Has-filter, live_rest, no_longer_list, rest_first, live_nexts, Completes, Through, IsGreatest, IsGreatestOf, greater_of}

max_cases : (x y : ℤ) → ((int_max x y ≡ x) × (y ≤ℤ x)) ⊎ ((int_max x y ≡ y) × (x ≤ℤ y))
max_cases x y = grind (arith, ints, clamps)

module _ (rule : Rule) (len : ℕ) (list : List Break) where
  pub longer : (b : Break) (bs : List Break) → is_legal rule len ((list ++ b ∷ []) ++ bs) ≡ is_legal rule len (list ++ b ∷ bs)
  longer b bs = ap (is_legal rule len) (append_assoc list (b ∷ []) bs)

  through_cases : (done : List Break) (b : Break) (other : List Break) → Through rule len list (done ++ b ∷ []) other
      → Through rule len list done other ⊎ ((bs : List Break) × (other ≡ b ∷ bs) × Completes rule len (list ++ b ∷ []) bs)
  through_cases done b other h =
      elim (Has-append_cases done (b ∷ []) h.0 h.3) [
        | inl before ↦ inl (h.0, h.1, h.2, before, h.4)
        | inr last ↦ elim last [
          | inl e ↦ let same : other ≡ b ∷ h.1 = h.2 ∙ ap (λ (x : Break). x ∷ h.1) (sym e) in inr (h.1, same, longer b h.1 ∙ subst (Completes rule len list) same h.4)
          | inr none ↦ absurd none
        ]
      ]

  through_before : (done : List Break) (b : Break) (other : List Break) → Through rule len list done other → Through rule len list (done ++ b ∷ []) other
  through_before done b other h = (h.0, h.1, h.2, Has-append_left done (b ∷ []) h.0 h.3, h.4)

  through_last : (done : List Break) (b : Break) (bs : List Break) → Completes rule len (list ++ b ∷ []) bs → Through rule len list (done ++ b ∷ []) (b ∷ bs)
  through_last done b bs h = (b, bs, refl, Has-append_right done (b ∷ []) b (inl refl), sym (longer b bs) ∙ h)

  -- what can be had behind one break more
  module _ (worth behind : List Break → ℤ) (done : List Break) (b : Break) (w c v : ℤ)
      (best : IsGreatest (Completes rule len (list ++ b ∷ [])) behind w)
      (more : (bs : List Break) → Completes rule len (list ++ b ∷ []) bs → worth (b ∷ bs) ≡ c +ℤ behind bs) (is : v ≡ c +ℤ w) where
    last_reached : (list' : List Break) × Through rule len list (done ++ b ∷ []) list' × (worth list' ≡ v)
    last_reached =
        let r = best.reached in
        let one : worth (b ∷ r.0) ≡ c +ℤ behind r.0 = more r.0 r.1 in
        let two : behind r.0 ≡ w = r.2 in
        (b ∷ r.0, through_last done b r.0 r.1, omega (arith, ints))

    last_least : (bs : List Break) → Completes rule len (list ++ b ∷ []) bs → worth (b ∷ bs) ≤ℤ v
    last_least bs h =
        let one : worth (b ∷ bs) ≡ c +ℤ behind bs = more bs h in
        let two : behind bs ≤ℤ w = best.greatest bs h in
        omega (arith, ints)

    pub greatest_more : (so_far : Option ℤ) → IsGreatestOf (Through rule len list done) worth so_far → IsGreatest (Through rule len list (done ++ b ∷ [])) worth (greater_of so_far v)
    greatest_more None none = record {
      reached = last_reached;
      greatest = λ other h. elim (through_cases done b other h) [
        | inl s ↦ absurd (none other s)
        | inr t ↦ subst (λ (o : List Break). worth o ≤ℤ v) (sym t.1) (last_least t.0 t.2)
      ];
    }
    greatest_more (Some u) g = elim (max_cases u v) [
      | inl first ↦ record {
        reached = (g.reached.0, through_before done b g.reached.0 g.reached.1, g.reached.2 ∙ sym first.0);
        greatest = λ other h. subst (λ (z : ℤ). worth other ≤ℤ z) (sym first.0) (elim (through_cases done b other h) [
          | inl s ↦ g.greatest other s
          | inr t ↦ let low : worth (b ∷ t.0) ≤ℤ v = last_least t.0 t.2 in let up : v ≤ℤ u = first.1 in subst (λ (o : List Break). worth o ≤ℤ u) (sym t.1) (omega (arith, ints))
        ]);
      }
      | inr second ↦ record {
        reached = (last_reached.0, last_reached.1, last_reached.2 ∙ sym second.0);
        greatest = λ other h. subst (λ (z : ℤ). worth other ≤ℤ z) (sym second.0) (elim (through_cases done b other h) [
          | inl s ↦ let low : worth other ≤ℤ u = g.greatest other s in let up : u ≤ℤ v = second.1 in let both : worth other ≤ℤ v = omega (arith, ints) in both
          | inr t ↦ subst (λ (o : List Break). worth o ≤ℤ v) (sym t.1) (last_least t.0 t.2)
        ]);
      }
    ]

  -- no break yet
  pub greatest_none : (worth : List Break → ℤ) → IsGreatestOf (Through rule len list []) worth None
  greatest_none worth = λ other h. absurd h.3

  -- a rest that completes a list is empty, or begins with a live next break
  rest_cases : (rest : List Break) → Completes rule len list rest → (rest ≡ []) ⊎ Through rule len list (live_nexts rule len list) rest
  rest_cases [] h = inl refl
  rest_cases (b ∷ bs) h =
      let f = rest_first rule len list b bs h in
      inr (b, bs, refl, Has-filter (λ b. is_live rule len (list ++ b ∷ [])) (nexts_of rule len (spot_of rule list)) b f.1 f.0, h)

  -- all breaks that may come next: where there are some
  pub greatest_some : (worth : List Break → ℤ) (v : ℤ) → IsGreatestOf (Through rule len list (live_nexts rule len list)) worth (Some v) → IsGreatest (Completes rule len list) worth v
  greatest_some worth v g = record {
    reached = (g.reached.0, g.reached.1.4, g.reached.2);
    greatest = λ other h. elim (rest_cases other h) [
      | inl empty ↦
          let whole : is_legal rule len list ≡ true = sym (ap (is_legal rule len) (ap (λ (r : List Break). list ++ r) empty ∙ append-nil list)) ∙ h in
          let t = g.reached.1 in
          let nil : g.reached.0 ≡ [] = no_longer_list rule len list g.reached.0 whole t.4 in
          absurd (not_nil t.0 t.1 (sym t.2 ∙ nil))
      | inr t ↦ g.greatest other t
    ];
  }
    where
      not_nil : (b : Break) (bs : List Break) → (b ∷ bs) ≡ [] → ⊥
      not_nil b bs e = cc

  -- and where there is none, the list itself is legal
  pub legal_alone : (worth : List Break → ℤ) → is_live rule len list ≡ true → IsGreatestOf (Through rule len list (live_nexts rule len list)) worth None → Completes rule len list []
  legal_alone worth live none =
      let r = live_rest rule len list live in
      elim (rest_cases r.0 r.1) [
        | inl empty ↦ subst (Completes rule len list) empty r.1
        | inr t ↦ absurd (none r.0 t)
      ]

  pub greatest_alone : (worth : List Break → ℤ) (v : ℤ) → Completes rule len list [] → worth [] ≡ v → IsGreatest (Completes rule len list) worth v
  greatest_alone worth v h is = record {
    reached = ([], h, is);
    greatest = λ other k.
        let whole : is_legal rule len list ≡ true = sym (ap (is_legal rule len) (append-nil list)) ∙ h in
        subst (λ (o : List Break). worth o ≤ℤ v) (sym (no_longer_list rule len list other whole k)) (let low : worth [] ≤ℤ v = omega (arith, ints) in low);
  }
