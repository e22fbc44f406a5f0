-- What a walk over the legal duties below a class finds, from what it finds below the class's extensions.
use Rattle.head_splits.proofs.Common.{◌≡◌, inl, inr, ℕ, zero, suc, ◌+◌, ◌-◌, ◌<◌, ◌≤◌, Bool, true, false, cond, not, ◌||◌, ◌==◌, List, [], ◌∷◌, ◌++◌, map, filter, length, take, drop, refl, sym, ap, ◌∙◌, subst, arith, append_assoc, append-nil, nat_lt, nat_le, Option, Some, None, Result, Ok, Err, eq-eqb, eqb-true, slice_get, is_some, IsSomeAnd, IfOk, option_map_or, option_or, flat_map, find, cases_Bool, false≢true, leb-true, lt-ltb, leb-false, ltb-false, ltb-true, le-ltb, flat_map-append, map-append, take_all, take-append-le, take-append-drop, length-append, find-append, flat_map-map, Break, Rule, is_legal, legal_lists, begins_with, begins_rest, Has, Has-map, from_map, from_filter, any_at, any_some, Has-below, from_below, find_none, WalkWay, Walks, AreWaysOn, Shift, Duty, Row, Problem, shift_list, below, lists_of, Cut, low, high, prefixes, class_of, is_closed, is_fixed, fixed_count, row_of, lists_below, duties_below, is_open, rows_of, IsWalked, AreWalksOf, StandsOn, IsClear}
use Rattle.std.specs.Prelude.{slice_index_or}
use Rattle.std.proofs.lemmas.List.Elements.{filter-append}
use Rattle.std.proofs.Math.Seq.{take-append_seam}
use Rattle.list_walks.specs.declared.steps.Standing.{Standing}
use Rattle.head_splits.proofs.ListsBelow.{below_list, below_whole, below_parts}

-- what a fact of some value says
pub known : {X : Type 0} (o : Option X) (P : X → Type 0) → IsSomeAnd o P → (x : X) × (o ≡ Some x) × P x
known None P h = absurd h
known (Some x) P h = (x, refl, h)

filter_none : {X : Type 0} (p : X → Bool) (xs : List X) → ((x : X) → Has xs x → p x ≡ false) → filter p xs ≡ []
filter_none p [] h = refl
filter_none p (x ∷ xs) h = ap (λ b. cond b (x ∷ filter p xs) (filter p xs)) (h x (inl refl)) ∙ filter_none p xs (λ y m. h y (inr m))

map-flat_map : {X Y Z : Type 0} (f : Y → Z) (g : X → List Y) (xs : List X) → map f (flat_map g xs) ≡ flat_map (λ x. map f (g x)) xs
map-flat_map f g [] = refl
map-flat_map f g (x ∷ xs) = map-append f (g x) (flat_map g xs) ∙ ap (λ zs. map f (g x) ++ zs) (map-flat_map f g xs)

-- both clauses of an answer
pub both_ok : {T E : Type 0} (r : Result T E) (P Q R : T → Type 0) → IfOk r P → IfOk r Q → ((x : T) → P x → Q x → R x) → IfOk r R
both_ok (Ok x) P Q R p q h = h x p q
both_ok (Err e) P Q R p q h = tt

pub map_ok : {T E : Type 0} (r : Result T E) (P Q : T → Type 0) → IfOk r P → ((x : T) → P x → Q x) → IfOk r Q
map_ok (Ok x) P Q p h = h x p
map_ok (Err e) P Q p h = tt

pub no_some : {X : Type 0} (o : Option X) → is_some o ≡ false → o ≡ None
no_some None h = refl
no_some (Some x) h = absurd (false≢true (sym h))

pub index_get : {X : Type 0} (xs : List X) (k : ℕ) (a : X) → k < length xs → slice_get xs k ≡ Some (slice_index_or xs k a)
index_get [] k a h = absurd (omega arith)
index_get (x ∷ xs) zero a h = refl
index_get (x ∷ xs) (suc k) a h = index_get xs k a (omega arith)

pub flat_map_taken : {X Y : Type 0} (f : X → List Y) (xs : List X) (k : ℕ) (a : X) → k < length xs → flat_map f (take (k + 1) xs) ≡ flat_map f (take k xs) ++ f (slice_index_or xs k a)
flat_map_taken f [] k a h = absurd (omega arith)
flat_map_taken f (x ∷ xs) zero a h = append-nil (f x)
flat_map_taken f (x ∷ xs) (suc k) a h = ap (λ n. flat_map f (take n (x ∷ xs))) (let e : suc k + 1 ≡ suc (k + 1) = omega arith in e) ∙ ap (λ ys. f x ++ ys) (flat_map_taken f xs k a (omega arith)) ∙ sym (append_assoc (f x) (flat_map f (take k xs)) (f (slice_index_or xs k a)))

pub flat_map_split : {X Y : Type 0} (f : X → List Y) (xs : List X) (k : ℕ) → flat_map f xs ≡ flat_map f (take k xs) ++ flat_map f (drop k xs)
flat_map_split f xs k = ap (flat_map f) (sym (take-append-drop k xs)) ∙ flat_map-append f (take k xs) (drop k xs)

-- what is left where the last element goes
pub popped : {X : Type 0} (xs : List X) (x : X) (old rest : List X) (n : ℕ) → old ≡ xs ++ x ∷ [] → n ≡ length old → rest ≡ take (n - 1) old → rest ≡ xs
popped xs x old rest n e long is =
    let both : length old ≡ length xs + 1 = ap length e ∙ length-append xs (x ∷ []) in
    is ∙ ap (λ k. take k old) (let k : n - 1 ≡ length xs = omega arith in k) ∙ ap (take (length xs)) e ∙ take-append_seam xs (x ∷ [])

module _ (i : Problem) (cuts : List Cut) where
  -- ---- walks one after another

  pub none_walked : (rows : List Row) → IsWalked i cuts [] None rows rows
  none_walked rows = record { first = refl; rows = λ e. sym (append-nil rows) }

  pub rows_of-append : (ds es : List Duty) → rows_of i cuts (ds ++ es) ≡ rows_of i cuts ds ++ rows_of i cuts es
  rows_of-append ds es =
      ap (map (λ d. row_of d (fixed_count i cuts d))) (filter-append (λ d. nat_lt 0 (fixed_count i cuts d)) ds es)
      ∙ map-append (λ d. row_of d (fixed_count i cuts d)) (filter (λ d. nat_lt 0 (fixed_count i cuts d)) ds) (filter (λ d. nat_lt 0 (fixed_count i cuts d)) es)

  pub more_walked : (ds es : List Duty) (found : Option Duty) (before mid after : List Row) → IsWalked i cuts ds None before mid → IsWalked i cuts es found mid after → IsWalked i cuts (ds ++ es) found before after
  more_walked ds es found before mid after h g = record {
    first = g.first ∙ ap (λ o. option_or o (find (is_open i cuts) es)) h.first ∙ sym (find-append (is_open i cuts) ds es);
    rows = λ none. g.rows none ∙ ap (λ rs. rs ++ rows_of i cuts es) (h.rows refl) ∙ append_assoc before (rows_of i cuts ds) (rows_of i cuts es)
        ∙ ap (λ rs. before ++ rs) (sym (rows_of-append ds es));
  }

  -- where an open duty is found the walk needn't go on
  pub stop_walked : (ds rest : List Duty) (found : Option Duty) (before after : List Row) → is_some found ≡ true → IsWalked i cuts ds found before after → IsWalked i cuts (ds ++ rest) found before after
  stop_walked ds rest None before after some h = absurd (false≢true some)
  stop_walked ds rest (Some d) before after some h = record {
    first = ap (λ o. option_or o (find (is_open i cuts) rest)) h.first ∙ sym (find-append (is_open i cuts) ds rest);
    rows = λ none. let e : ◌≡◌ {A = Option Duty} (Some d) None = none in cc;
  }

  -- ---- the duties below a class

  module _ (s day : ℕ) where
    abbrev pub duty : List Break → Duty
    duty list = record { shift = s; day = day; breaks = list }

    lists_below_is : (walks : Walks) (list : List Break) → AreWalksOf i s walks → lists_below i s list ≡ below_list walks.rule walks.len list
    lists_below_is walks list h =
        let x = known (slice_get (shift_list i) s) (λ x. (walks.rule ≡ x.1) × (walks.len ≡ x.0.len)) h in
        ap (λ o. filter (λ l. begins_with l list) (option_map_or (λ (x : Shift × Rule). legal_lists x.1 x.0.len) o [])) x.1
        ∙ ap (λ r. below_list r x.0.0.len list) (sym x.2.0) ∙ ap (λ n. below_list walks.rule n list) (sym x.2.1)

    -- where a list has no ways on, it is the only one, and else those of its ways follow one another
    pub whole_duties : (walks : Walks) (at : Standing) (list : List Break) (ways : List WalkWay) → StandsOn i s walks at list → AreWaysOn walks at list ways → (length ways == 0) ≡ true
        → duties_below i s day list ≡ duty list ∷ []
    whole_duties walks at list ways h on none =
        let legal : is_legal walks.rule walks.len list ≡ true = sym on.ends ∙ none in
        ap (map duty) (lists_below_is walks list h.0 ∙ below_whole walks.rule walks.len list legal)

    pub part_duties : (walks : Walks) (at : Standing) (list : List Break) (ways : List WalkWay) → StandsOn i s walks at list → AreWaysOn walks at list ways → (length ways == 0) ≡ false
        → duties_below i s day list ≡ flat_map (λ (w : WalkWay). duties_below i s day (list ++ w.stop ∷ [])) ways
    part_duties walks at list ways h on some =
        let rule = walks.rule in
        let len = walks.len in
        let part : is_legal rule len list ≡ false = sym on.ends ∙ some in
        let lists : lists_below i s list ≡ flat_map (λ b. below_list rule len (list ++ b ∷ [])) (map (λ (w : WalkWay). w.stop) ways) =
        lists_below_is walks list h.0 ∙ below_parts rule len list part ∙ ap (flat_map (λ b. below_list rule len (list ++ b ∷ []))) (sym on.stops) in
        ap (map duty) lists
        ∙ ap (map duty) (flat_map-map (λ b. below_list rule len (list ++ b ∷ [])) (λ (w : WalkWay). w.stop) ways)
        ∙ map-flat_map duty (λ (w : WalkWay). below_list rule len (list ++ w.stop ∷ [])) ways
        ∙ flat_map_same (λ (w : WalkWay). map duty (below_list rule len (list ++ w.stop ∷ []))) (λ (w : WalkWay). duties_below i s day (list ++ w.stop ∷ [])) ways
        (λ w. ap (map duty) (sym (lists_below_is walks (list ++ w.stop ∷ []) h.0)))
      where
        flat_map_same : {X Y : Type 0} (f g : X → List Y) (xs : List X) → ((x : X) → f x ≡ g x) → flat_map f xs ≡ flat_map g xs
        flat_map_same f g [] h = refl
        flat_map_same f g (x ∷ xs) h = ap (λ ys. ys ++ flat_map f xs) (h x) ∙ ap (λ ys. g x ++ ys) (flat_map_same f g xs h)

    -- ---- a class without room, and one of a whole list

    closed_duty : (list : List Break) → high i cuts (class_of s day list) ≡ 0 → (d : Duty) → Has (duties_below i s day list) d → is_closed i cuts d ≡ true
    closed_duty list none d m =
        let l = from_map duty (lists_below i s list) d m in
        let b = from_filter (λ l. begins_with l list) (lists_of i s) l.0 l.1 in
        let e : l.0 ≡ list ++ drop (length list) l.0 = begins_rest l.0 list b.1 in
        let front : take (length list) l.0 ≡ list = ap (take (length list)) e ∙ take-append_seam list (drop (length list) l.0) in
        let long : length l.0 ≡ length list + length (drop (length list) l.0) = ap length e ∙ length-append list (drop (length list) l.0) in
        let test : List Break → Bool = λ prefix. high i cuts (class_of s day prefix) == 0 in
        subst (λ d. is_closed i cuts d ≡ true) l.2
        (any_at test (prefixes l.0) list
        (subst (Has (prefixes l.0)) front (Has-map (λ n. take n l.0) (below (length l.0 + 1)) (length list) (Has-below (length l.0 + 1) (length list) (omega arith))))
        (eq-eqb _ 0 none))

    pub closed_walked : (list : List Break) (rows : List Row) → high i cuts (class_of s day list) ≡ 0 → IsWalked i cuts (duties_below i s day list) None rows rows
    closed_walked list rows none = record {
      first = sym (find_none (is_open i cuts) (duties_below i s day list) (λ d m. ap (λ b. not (b || is_fixed i cuts d)) (closed_duty list none d m)));
      rows = λ e. sym (append-nil rows) ∙ ap (λ rs. rows ++ map (λ d. row_of d (fixed_count i cuts d)) rs)
          (sym (filter_none (λ d. nat_lt 0 (fixed_count i cuts d)) (duties_below i s day list) (λ d m. ap (λ b. nat_lt 0 (cond b 0 (low cuts (class_of d.shift d.day d.breaks)))) (closed_duty list none d m))));
    }

    -- room for a list and its proper prefixes
    roomy : (list : List Break) → IsClear i cuts s day list → 0 < high i cuts (class_of s day list) → (n : ℕ) → n < length list + 1 → 0 < high i cuts (class_of s day (take n list))
    roomy list clear room n l =
        elim (cases_Bool (nat_lt n (length list))) [
          | inl t ↦ clear n (ltb-true _ _ t)
          | inr f ↦ let past : length list ≤ n = ltb-false _ _ f in subst (λ p. 0 < high i cuts (class_of s day p)) (sym (take_all n list past)) room
        ]

    pub clear_more : (list : List Break) (b : Break) → IsClear i cuts s day list → 0 < high i cuts (class_of s day list) → IsClear i cuts s day (list ++ b ∷ [])
    clear_more list b clear room n l =
        let long : length (list ++ b ∷ []) ≡ length list + 1 = length-append list (b ∷ []) in
        subst (λ p. 0 < high i cuts (class_of s day p)) (sym (take-append-le n list (b ∷ []) (omega arith))) (roomy list clear room n (omega arith))

    not_closed : (list : List Break) → IsClear i cuts s day list → 0 < high i cuts (class_of s day list) → is_closed i cuts (duty list) ≡ false
    not_closed list clear room =
        elim (cases_Bool (is_closed i cuts (duty list))) [
          | inl t ↦
              let p = any_some (λ prefix. high i cuts (class_of s day prefix) == 0) (prefixes list) t in
              let n = from_map (λ n. take n list) (below (length list + 1)) p.0 p.1 in
              let some : 0 < high i cuts (class_of s day p.0) = subst (λ q. 0 < high i cuts (class_of s day q)) n.2 (roomy list clear room n.0 (from_below (length list + 1) n.0 n.1)) in
              let none : high i cuts (class_of s day p.0) ≡ 0 = eqb-true _ 0 p.2 in
              absurd (omega arith)
          | inr f ↦ f
        ]

    -- a whole list is passed by its own number
    pub whole_walked : (list : List Break) (found : Option Duty) (before after : List Row) → IsClear i cuts s day list → 0 < high i cuts (class_of s day list)
        → duties_below i s day list ≡ duty list ∷ []
        → found ≡ cond (nat_lt (low cuts (class_of s day list)) (high i cuts (class_of s day list))) (Some (duty list)) None
        → (found ≡ None → after ≡ before ++ cond (nat_lt 0 (low cuts (class_of s day list))) (row_of (duty list) (low cuts (class_of s day list)) ∷ []) [])
        → IsWalked i cuts (duties_below i s day list) found before after
    whole_walked list found before after clear room only is rows =
        let closed = not_closed list clear room in
        let l = low cuts (class_of s day list) in
        let h = high i cuts (class_of s day list) in
        let fixed : is_open i cuts (duty list) ≡ nat_lt l h = ap (λ b. not (b || nat_le h l)) closed ∙ not_le h l in
        let count : fixed_count i cuts (duty list) ≡ l = ap (λ b. cond b 0 l) closed in
        subst (λ ds. IsWalked i cuts ds found before after) (sym only) (record {
          first = is ∙ ap (λ b. cond b (Some (duty list)) None) (sym fixed);
          rows = λ none. rows none ∙ ap (λ rs. before ++ rs) (ap (λ n. cond (nat_lt 0 n) (row_of (duty list) n ∷ []) []) (sym count) ∙ cond_map (λ d. row_of d (fixed_count i cuts d)) (nat_lt 0 (fixed_count i cuts (duty list))) (duty list));
        })
      where
        not_le : (a b : ℕ) → not (nat_le a b) ≡ nat_lt b a
        not_le a b =
            elim (cases_Bool (nat_le a b)) [
              | inl t ↦ ap not t ∙ sym (le-ltb _ _ (leb-true _ _ t))
              | inr f ↦ ap not f ∙ sym (lt-ltb _ _ (leb-false _ _ f))
            ]

        cond_map : {X Y : Type 0} (f : X → Y) (b : Bool) (x : X) → cond b (f x ∷ []) [] ≡ map f (cond b (x ∷ []) [])
        cond_map f true x = refl
        cond_map f false x = refl

    -- a list with the break of a way stands where the way leads
    pub stands_next : (walks : Walks) (at : Standing) (list : List Break) (ways : List WalkWay) (k : ℕ) (w : WalkWay) → StandsOn i s walks at list → AreWaysOn walks at list ways → slice_get ways k ≡ Some w
        → (walks.len - w.at.spot.offset < walks.len - at.spot.offset) × StandsOn i s walks w.at (list ++ w.stop ∷ [])
    stands_next walks at list ways k w h on is = (on.nearer k w is, (h.0, on.stand k w is))
