-- Calls on a folder, one after another, and a file that they put in place.
use Rattle.std.proofs.Common.{◌≡◌, ◌⊎◌, inl, inr, ⊎_elim, ℕ, true, List, sym, ◌∙◌, ap, subst, Option, Some, None, is_some}
use Rattle.std.proofs.lemmas.Bool.{cases_eq, true≢false, false≢true}
use Rattle.planning_words.specs.Folder.{Held, Goes, ChangesWhole, Places, IsSame, GoesItsWay, OnTheWay}

-- calls after others, of whose end more is known
pub then_goes : (A B C pA pB pC : Held → Type 0) (R S T : Held → Held → Type 0) (E : Held → Type 0)
    → Goes A B pA pB R → ((h : Held) → B h → E h) → Goes B C pB pC S
    → ((h0 h1 : Held) → R h0 h1 → T h0 h1) → ((h0 h1 h2 : Held) → R h0 h1 → E h1 → S h1 h2 → T h0 h2) → Goes A C pA pC T
then_goes A B C pA pB pC R S T E first known second weaker both =
    let join : (h : Held) → ((mid : Held) × B mid × S mid h) → ((was : Held) × A was × T was h) = λ h m.
    let f = first.holds m.0 m.1 in (f.0, f.1, both f.0 m.0 h f.2 (known m.0 m.1) m.2) in
    record {
      holds = λ h now. join h (second.holds h now);
      moments = λ h left. ⊎_elim
          (λ was. ⊎_elim (λ before. inl before) (λ m. inr (m.0, m.1, weaker m.0 h m.2)) (first.moments h was))
          (λ m. inr (join h m)) (second.moments h left);
    }

pub not_none : {A : Type 0} (o : Option (List ℕ)) → o ≡ None → is_some o ≡ true → A
not_none None none some = absurd (false≢true some)
not_none (Some x) none some = absurd (true≢false (ap is_some none))

-- a file on its way
pub way_more : (a f b g c h : Option (List ℕ)) → GoesItsWay a f b g → GoesItsWay b g c h → GoesItsWay a f c h
way_more a f b g c h first second = ⊎_elim
    (λ (p : (g ≡ f) × (f ≡ None → b ≡ a)). ⊎_elim
    (λ (q : (h ≡ g) × (g ≡ None → c ≡ b)). inl (q.0 ∙ p.0, λ none. q.1 (p.0 ∙ none) ∙ p.1 none))
    (λ (q : (h ≡ None) × (c ≡ g) × (is_some g ≡ true)). inr (q.0, q.1 ∙ p.0, sym (ap is_some p.0) ∙ q.2)) second)
    (λ (p : (g ≡ None) × (b ≡ f) × (is_some f ≡ true)). ⊎_elim
    (λ (q : (h ≡ g) × (g ≡ None → c ≡ b)). inr (q.0 ∙ p.0, q.1 p.0 ∙ p.1, p.2))
    (λ (q : (h ≡ None) × (c ≡ g) × (is_some g ≡ true)). not_none g p.0 q.2) second)
    first

-- all files on their way
pub all_more : (h0 h1 h2 : Held) → OnTheWay h0 h1 → OnTheWay h1 h2 → OnTheWay h0 h2
all_more h0 h1 h2 r s = record {
  files = λ k. way_more (h0.whole k) (h0.fresh k) (h1.whole k) (h1.fresh k) (h2.whole k) (h2.fresh k) (r.files k) (s.files k);
  marker = s.marker ∙ r.marker;
}

pub same_way : (h0 h1 : Held) → IsSame h0 h1 → OnTheWay h0 h1
same_way h0 h1 s = record { files = λ k. inl (s.freshes k, λ none. s.wholes k); marker = s.marker }

pub keep_way : (file : ℕ) (h0 h1 : Held) → is_some (h0.fresh file) ≡ true → ChangesWhole file h0 h1 → OnTheWay h0 h1
keep_way file h0 h1 some s = record {
  files = λ k. ⊎_elim
      (λ (same : k ≡ file). inl (s.freshes k, λ none. not_none (h0.fresh k) none (subst (λ (j : ℕ). is_some (h0.fresh j) ≡ true) (sym same) some)))
      (λ (other : k ≡ file → ⊥). inl (s.freshes k, λ none. s.others k other)) (cases_eq k file);
  marker = s.marker;
}

pub place_way : (file : ℕ) (h0 h1 : Held) → is_some (h0.fresh file) ≡ true → Places file h0 h1 → OnTheWay h0 h1
place_way file h0 h1 some s = record {
  files = λ k. ⊎_elim
      (λ (same : k ≡ file). subst (λ (j : ℕ). GoesItsWay (h0.whole j) (h0.fresh j) (h1.whole j) (h1.fresh j)) (sym same) (inr (s.none, s.own, some)))
      (λ (other : k ≡ file → ⊥). inl (s.freshes k other, λ none. s.wholes k other)) (cases_eq k file);
  marker = s.marker;
}

pub either_way : (file : ℕ) (h0 h1 : Held) → is_some (h0.fresh file) ≡ true → IsSame h0 h1 ⊎ Places file h0 h1 → OnTheWay h0 h1
either_way file h0 h1 some step = ⊎_elim (same_way h0 h1) (place_way file h0 h1 some) step

-- a file that stands under its other name is put in place
module _ (A B C D pA pB pC pD : Held → Type 0) (file : ℕ) where
  pub placed_one : Goes A B pA pB IsSame → ((h : Held) → B h → is_some (h.fresh file) ≡ true) → Goes B C pB pC (ChangesWhole file)
      → Goes C D pC pD (λ h0 h1. IsSame h0 h1 ⊎ Places file h0 h1) → Goes A D pA pD OnTheWay
  placed_one looks some keeps places =
      let Stands : Held → Type 0 = λ h. is_some (h.fresh file) ≡ true in
      let kept = then_goes A B C pA pB pC IsSame (ChangesWhole file) OnTheWay Stands looks some keeps same_way
      (λ h0 h1 h2 r e s. all_more h0 h1 h2 (same_way h0 h1 r) (keep_way file h1 h2 e s)) in
      let still : (h : Held) → C h → is_some (h.fresh file) ≡ true = λ h now. let m = keeps.holds h now in ap is_some (m.2.freshes file) ∙ some m.0 m.1 in
      then_goes A C D pA pC pD OnTheWay (λ h0 h1. IsSame h0 h1 ⊎ Places file h0 h1) OnTheWay Stands kept still places (λ h0 h1 r. r)
      (λ h0 h1 h2 r e s. all_more h0 h1 h2 r (either_way file h1 h2 e s))
