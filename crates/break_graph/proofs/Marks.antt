-- The marks of a walk's spots, from the opening spot on.
use Rattle.break_graph.proofs.Common.{◌≡◌, ◌⊎◌, inl, inr, ℕ, zero, suc, ◌+◌, ◌*◌, ◌<◌, ◌≤◌, Bool, true, false, List, [], ◌∷◌, ◌++◌, refl, sym, ap, ◌∙◌, subst, arith, slice_index_or, sum_by, AllClonesOf, and_parts, cases_lt, Break, Rule, IsRule, place_of, end_of_all, may_follow, nexts_of, spot_of, is_walk, Has, has_next, is_walk-more, later_place, walk_small, IsMarked, AreMarked}

-- a table of copies of `false` has no mark
pub none_marked : (clones : Bool → Bool → Type 0) (table : List Bool) → ((y : Bool) → clones false y → y ≡ false) → AllClonesOf clones false table → (place : ℕ) → slice_index_or table place false ≡ false
none_marked clones [] same all place = refl
none_marked clones (y ∷ ys) same all zero = elim all.0 [ inl e ↦ e | inr c ↦ same y c ]
none_marked clones (y ∷ ys) same all (suc k) = none_marked clones ys same all.1 k

-- a list is empty or has a last break
pub last_cases : (list : List Break) → (list ≡ []) ⊎ ((front : List Break) × (b : Break) × (list ≡ front ++ b ∷ []))
last_cases [] = inl refl
last_cases (c ∷ cs) = elim (last_cases cs) [
  | inl e ↦ inr ([], c, ap (λ (l : List Break). c ∷ l) e)
  | inr r ↦ inr (c ∷ r.0, r.1, ap (λ (l : List Break). c ∷ l) r.2)
]

-- a walk with a last break
pub walk_front : (rule : Rule) (len : ℕ) (list : List Break) (b : Break) → is_walk rule len (list ++ b ∷ []) ≡ true
    → (is_walk rule len list ≡ true) × Has (nexts_of rule len (spot_of rule list)) b
walk_front rule len list b h =
    let p = and_parts (is_walk rule len list) (may_follow rule len (end_of_all list) (sum_by (λ b. b.len) list) b) (sym (is_walk-more rule len list b) ∙ h) in
    (p.0, has_next rule len (spot_of rule list) b p.1)

pub later : (rule : Rule) (len : ℕ) (list : List Break) (b : Break) → IsRule rule → is_walk rule len (list ++ b ∷ []) ≡ true
    → place_of len (spot_of rule (list ++ b ∷ [])) < place_of len (spot_of rule list)
later rule len list b r h = later_place rule len list b r h (walk_front rule len list b h).1

pub place_small : (rule : Rule) (len : ℕ) (list : List Break) → IsRule rule → is_walk rule len list ≡ true → place_of len (spot_of rule list) < 256 * (len + 1)
place_small rule len list r h = let s = walk_small rule len list r h in omega arith

-- the walks from spots of a place or above are marked one break on
abbrev pub AreMarkedBehind : Rule → ℕ → ℕ → List Bool → Type 0
AreMarkedBehind rule len from table = (list : List Break) (b : Break) → is_walk rule len (list ++ b ∷ []) ≡ true → from ≤ place_of len (spot_of rule list) → IsMarked rule len table (list ++ b ∷ [])

pub all_marked : (rule : Rule) (len : ℕ) (table : List Bool) → IsMarked rule len table [] → AreMarkedBehind rule len 0 table → AreMarked rule len table
all_marked rule len table opening behind list walk = elim (last_cases list) [
  | inl e ↦ subst (IsMarked rule len table) (sym e) opening
  | inr r ↦ subst (IsMarked rule len table) (sym r.2) (behind r.0 r.1 (sym (ap (is_walk rule len) r.2) ∙ walk) (omega arith))
]

-- a walk's place is marked when all places above it have been looked at
pub marked_here : (rule : Rule) (len place : ℕ) (table : List Bool) (list : List Break) → IsRule rule → IsMarked rule len table [] → AreMarkedBehind rule len (place + 1) table
    → is_walk rule len list ≡ true → place_of len (spot_of rule list) ≡ place → IsMarked rule len table list
marked_here rule len place table list r opening behind walk at = elim (last_cases list) [
  | inl e ↦ subst (IsMarked rule len table) (sym e) opening
  | inr s ↦
      let more : is_walk rule len (s.0 ++ s.1 ∷ []) ≡ true = sym (ap (is_walk rule len) s.2) ∙ walk in
      let before = later rule len s.0 s.1 r more in
      let same : place_of len (spot_of rule (s.0 ++ s.1 ∷ [])) ≡ place = sym (ap (λ (l : List Break). place_of len (spot_of rule l)) s.2) ∙ at in
      subst (IsMarked rule len table) (sym s.2) (behind s.0 s.1 more (omega arith))
]

-- one place more
pub marked_more : (rule : Rule) (len place : ℕ) (table new : List Bool) → IsRule rule → IsMarked rule len table [] → AreMarkedBehind rule len (place + 1) table
    → ((other : ℕ) → slice_index_or table other false ≡ true → slice_index_or new other false ≡ true)
    → ((list : List Break) (b : Break) → place_of len (spot_of rule list) ≡ place → IsMarked rule len table list → is_walk rule len (list ++ b ∷ []) ≡ true → IsMarked rule len new (list ++ b ∷ []))
    → AreMarkedBehind rule len place new
marked_more rule len place table new r opening behind kept marks list b walk from =
    elim (cases_lt place (place_of len (spot_of rule list))) [
      | inl l ↦ kept (place_of len (spot_of rule (list ++ b ∷ []))) (behind list b walk (omega arith))
      | inr g ↦
          let at : place_of len (spot_of rule list) ≡ place = omega arith in
          marks list b at (marked_here rule len place table list r opening behind (walk_front rule len list b walk).0 at) walk
    ]

-- no walk stands above all places
pub none_behind : (rule : Rule) (len : ℕ) (table : List Bool) → IsRule rule → AreMarkedBehind rule len (256 * (len + 1)) table
none_behind rule len table r list b walk from = let s = place_small rule len list r (walk_front rule len list b walk).0 in absurd (omega arith)
