-- The free nodes of a book, as they are listed.
use Rattle.search_book.proofs.Common.{◌≡◌, ◌≢◌, ◌⊎◌, inl, inr, ℕ, zero, suc, ◌+◌, ◌<◌, ◌≤◌, Bool, true, false, cond, ◌&&◌, ◌||◌, ◌==◌, not, nat_lt, List, [], ◌∷◌, length, set, replicate, refl, sym, ap, ◌∙◌, subst, arith, eq-eqb, Option, Some, None, slice_get, IfSome, MatchOption, option_and_then, option_map_or, filter, list_all, list_any, and_from, and_parts, cases_Bool, cases_eq, cases_lt, eqb-true, false≢true, lt-ltb, ltb-true, not-true, or_cases, or_left, or_right, Node, has_node, is_before, is_listed, with_entry, Entry, OpenView, Rises, floor_of_node, is_free, IsNext, NoneIsFree, Book, is_finished, is_node_and, is_open, full_hands, empty_hands, hand, is_node, AreApart, hand_set, hand_some, with_open, Follows, HoldsOpen, ListsAllFree, ListsBelow, ListsFree, ListsOnlyFree}
use Rattle.std.specs.Option.{is_some}
use Rattle.std.proofs.lemmas.List.Filters.{length-filter_both}
use Rattle.std.proofs.lemmas.List.Sums.{sum_by-cons}
use Rattle.open_nodes.proofs.Orders.{before_cases, first_or_after, is_it, it_is, it_itself, listed_filter, listed_with, not_there, once_listed}
use Rattle.search_core.proofs.FewNodes.{sum_set}
use Rattle.search_book.proofs.Handing.{is_there, AreUnsplit}

-- whether a node is there and open
abbrev pub opens : Book → ℕ → Bool
opens b k = is_node_and b k (is_open b)

-- whether a node is in a hand
abbrev pub held : List (Option ℕ) → ℕ → Bool
held hands k = list_any (is_node k) hands

-- ---- nodes that may be taken

pub free_parts : (b : Book) (hands : List (Option ℕ)) (k : ℕ) → is_free b hands k ≡ true → (opens b k ≡ true) × (held hands k ≡ false)
free_parts b hands k free = let p = and_parts (opens b k) (not (held hands k)) free in (p.0, not-true (held hands k) p.1)

pub free_from : (b : Book) (hands : List (Option ℕ)) (k : ℕ) → opens b k ≡ true → held hands k ≡ false → is_free b hands k ≡ true
free_from b hands k opened alone = and_from (opens b k) (not (held hands k)) opened (ap not alone)

-- an open node has a floor below the best cost
open_low : (b : Book) (k : ℕ) → opens b k ≡ true → floor_of_node b k < b.cost
open_low b k h = at (slice_get b.nodes k) h
  where
    at : (o : Option Node) → option_map_or (is_open b) o false ≡ true → option_map_or (λ (n : Node). n.floor) o 0 < b.cost
    at None e = absurd (false≢true e)
    at (Some n) e = ltb-true n.floor b.cost (and_parts (not n.split) (nat_lt n.floor b.cost) e).1

-- ---- nodes in hands

is_the_node : (j : ℕ) (h : Option ℕ) → is_node j h ≡ true → h ≡ Some j
is_the_node j None e = absurd (false≢true e)
is_the_node j (Some x) e = ap Some (eqb-true x j e)

pub held_by : (hands : List (Option ℕ)) (j : ℕ) → held hands j ≡ true → (w : ℕ) × (hand hands w ≡ Some j)
held_by [] j e = absurd (false≢true e)
held_by (z ∷ hands) j e =
    elim (or_cases (is_node j z) (held hands j) e) [
      | inl here ↦ (zero, is_the_node j z here)
      | inr rest ↦ let r = held_by hands j rest in (suc r.0, r.1)
    ]

held_at : (hands : List (Option ℕ)) (w j : ℕ) → slice_get hands w ≡ Some (Some j) → held hands j ≡ true
held_at [] w j e = absurd (cc)
held_at (z ∷ hands) zero j e =
    let same : z ≡ Some j = cc (e) in
    or_left (is_node j z) (held hands j) (ap (is_node j) same ∙ eq-eqb j j refl)
held_at (z ∷ hands) (suc w) j e = or_right (is_node j z) (held hands j) (held_at hands w j e)

pub held_in : (hands : List (Option ℕ)) (w j : ℕ) → hand hands w ≡ Some j → held hands j ≡ true
held_in hands w j e = held_at hands w j (hand_some hands w j e)

pub not_held : (hands : List (Option ℕ)) (j : ℕ) → ((w : ℕ) → hand hands w ≡ Some j → ⊥) → held hands j ≡ false
not_held hands j none =
    elim (cases_Bool (held hands j)) [
      | inl e ↦ absurd (let r = held_by hands j e in none r.0 r.1)
      | inr e ↦ e
    ]

in_none : (hands : List (Option ℕ)) (j w : ℕ) → held hands j ≡ false → hand hands w ≡ Some j → ⊥
in_none hands j w none e = false≢true (sym none ∙ held_in hands w j e)

-- a hand that is emptied holds what it held no more, and the others hold what they held
pub emptied_held : (hands : List (Option ℕ)) (w j : ℕ) → held hands j ≡ false → held (set hands w None) j ≡ false
emptied_held hands w j none =
    not_held (set hands w None) j (λ v e. elim (hand_set hands w v None j e) [ inl a ↦ absurd (cc (a.1)) | inr a ↦ in_none hands j v none a.1 ])

pub emptied_node : (hands : List (Option ℕ)) (w x : ℕ) → AreApart hands → hand hands w ≡ Some x → held (set hands w None) x ≡ false
emptied_node hands w x apart at =
    not_held (set hands w None) x (λ v e. elim (hand_set hands w v None x e) [ inl a ↦ absurd (cc (a.1)) | inr a ↦ a.0 (apart v w x a.1 at) ])

set_elsewhere : {X : Type 0} (xs : List X) (w v : ℕ) (y : X) → v ≢ w → slice_get (set xs w y) v ≡ slice_get xs v
set_elsewhere [] w v y h = refl
set_elsewhere (x ∷ xs) zero zero y h = absurd (h refl)
set_elsewhere (x ∷ xs) zero (suc v) y h = refl
set_elsewhere (x ∷ xs) (suc w) zero y h = refl
set_elsewhere (x ∷ xs) (suc w) (suc v) y h = set_elsewhere xs w v y (λ e. h (ap suc e))

-- what isn't held once a hand is emptied was held by that hand alone
pub emptied_only : (hands : List (Option ℕ)) (w j : ℕ) → (hand hands w ≡ Some j → ⊥) → held (set hands w None) j ≡ false → held hands j ≡ false
emptied_only hands w j other none =
    not_held hands j (λ v e.
    elim (cases_eq v w) [
      | inl same ↦ other (subst (λ z. hand hands z ≡ Some j) same e)
      | inr apart ↦ in_none (set hands w None) j v none (ap (option_and_then (λ (h : Option ℕ). h)) (set_elsewhere hands w v None apart) ∙ e)
    ])

-- a hand that takes a node holds that, and the others hold what they held
pub taken_held : (hands : List (Option ℕ)) (w k j : ℕ) → k ≢ j → held hands j ≡ false → held (set hands w (Some k)) j ≡ false
taken_held hands w k j apart none =
    not_held (set hands w (Some k)) j (λ v e.
    elim (hand_set hands w v (Some k) j e) [
      | inl a ↦ apart (let both = a.1 in cc (both))
      | inr a ↦ in_none hands j v none a.1
    ])

set_there : {X : Type 0} (xs : List X) (w : ℕ) (y : X) → w < length xs → slice_get (set xs w y) w ≡ Some y
set_there [] w y h = absurd (omega (arith, h))
set_there (x ∷ xs) zero y h = refl
set_there (x ∷ xs) (suc w) y h = set_there xs w y (omega (arith, h))

pub taken_only : (hands : List (Option ℕ)) (w k j : ℕ) → w < length hands → hand hands w ≡ None → held (set hands w (Some k)) j ≡ false → (k ≢ j) × (held hands j ≡ false)
taken_only hands w k j low empty none = (
  λ same. in_none (set hands w (Some k)) j w none (ap (option_and_then (λ (h : Option ℕ). h)) (set_there hands w (Some k) low) ∙ ap Some same),
  not_held hands j (λ v e.
      elim (cases_eq v w) [
        | inl here ↦ let both : Some j ≡ None = sym (subst (λ z. hand hands z ≡ Some j) here e) ∙ empty in absurd (cc (both))
        | inr apart ↦ in_none (set hands w (Some k)) j v none (ap (option_and_then (λ (h : Option ℕ). h)) (set_elsewhere hands w v (Some k) apart) ∙ e)
      ]),
)

-- ---- a list with a node, where that is open

open_added : (t : Bool) (e : Entry) (entries : List Entry) (f j : ℕ) → is_listed (cond t (with_entry e entries) entries) f j ≡ true → ((t ≡ true) × (e ≡ (f, j))) ⊎ (is_listed entries f j ≡ true)
open_added true e entries f j h =
    elim (or_cases (is_it f j e) (is_listed entries f j) (sym (listed_with e entries f j) ∙ h)) [ inl a ↦ inl (refl, it_is f j e a) | inr a ↦ inr a ]
open_added false e entries f j h = inr h

open_keeps : (t : Bool) (e : Entry) (entries : List Entry) (f j : ℕ) → is_listed entries f j ≡ true → is_listed (cond t (with_entry e entries) entries) f j ≡ true
open_keeps true e entries f j h = listed_with e entries f j ∙ or_right (is_it f j e) (is_listed entries f j) h
open_keeps false e entries f j h = h

open_has : (t : Bool) (e : Entry) (entries : List Entry) → t ≡ true → is_listed (cond t (with_entry e entries) entries) e.0 e.1 ≡ true
open_has true e entries h = listed_with e entries e.0 e.1 ∙ or_left (is_it e.0 e.1 e) (is_listed entries e.0 e.1) (it_itself e)
open_has false e entries h = absurd (false≢true h)

-- what stands in it is that node, open and with its floor, or stood there before
pub with_open_cases : (b : Book) (entries : List Entry) (k f j : ℕ) → is_listed (with_open b entries k) f j ≡ true → ((k ≡ j) × (opens b j ≡ true) × (floor_of_node b j ≡ f)) ⊎ (is_listed entries f j ≡ true)
with_open_cases b entries k f j h =
    elim (open_added (opens b k) (floor_of_node b k, k) entries f j h) [
      | inl a ↦
          let same : k ≡ j = ap (λ (e : Entry). e.1) a.1 in
          let floor : floor_of_node b k ≡ f = ap (λ (e : Entry). e.0) a.1 in
          inl (same, subst (λ z. opens b z ≡ true) same a.0, ap (floor_of_node b) (sym same) ∙ floor)
      | inr a ↦ inr a
    ]

pub with_open_keeps : (b : Book) (entries : List Entry) (k f j : ℕ) → is_listed entries f j ≡ true → is_listed (with_open b entries k) f j ≡ true
with_open_keeps b entries k f j h = open_keeps (opens b k) (floor_of_node b k, k) entries f j h

pub with_open_has : (b : Book) (entries : List Entry) (k : ℕ) → opens b k ≡ true → is_listed (with_open b entries k) (floor_of_node b k) k ≡ true
with_open_has b entries k h = open_has (opens b k) (floor_of_node b k, k) entries h

pub listed_as : (b c : Book) (hands : List (Option ℕ)) (entries others : List Entry) → c ≡ b → others ≡ entries → ListsOnlyFree b hands entries → ListsAllFree b hands entries → ListsFree c hands others
listed_as b c hands entries others same is only all =
    subst (λ (l : List Entry). ListsFree c hands l) (sym is) (subst (λ (d : Book). ListsFree d hands entries) (sym same) (record { only = only; all = all }))

-- ---- at the opening

none_in : (n k : ℕ) → held (replicate n None) k ≡ false
none_in zero k = refl
none_in (suc n) k = none_in n k

pub all_below : (b : Book) (entries : List Entry) → ListsBelow b (length b.nodes) entries → ListsFree b empty_hands entries
all_below b entries l = record {
  only = λ f k h. let r = l.only f k h in (free_from b empty_hands k r.1 (none_in 16 k), r.2);
  all = λ k free. let p = free_parts b empty_hands k free in l.all k (is_there b k (is_open b) p.0) p.0;
}

pub one_below : (b : Book) (n : ℕ) (entries : List Entry) → ListsBelow b n entries → ListsBelow b (n + 1) (with_open b entries n)
one_below b n entries l = record {
  only = λ f k h.
      elim (with_open_cases b entries n f k h) [
        | inl a ↦ let same = a.0 in (omega (arith, same), a.1, a.2)
        | inr a ↦ let r = l.only f k a in let low = r.0 in (omega (arith, low), r.1, r.2)
      ];
  all = λ k low opened.
      elim (cases_lt k n) [
        | inl less ↦ with_open_keeps b entries n (floor_of_node b k) k (l.all k less opened)
        | inr most ↦
            let same : n ≡ k = omega (arith, low, most) in
            subst (λ z. is_listed (with_open b entries n) (floor_of_node b z) z ≡ true) same (with_open_has b entries n (subst (λ z. opens b z ≡ true) (sym same) opened))
      ];
}

pub new_below : (b : Book) (n : ℕ) (entries : List Entry) → ListsBelow b n entries → has_node entries n ≡ false
new_below b n entries l =
    not_there entries n (λ f.
    elim (cases_Bool (is_listed entries f n)) [
      | inl h ↦ let r = l.only f n h in let low = r.0 in absurd (omega (arith, low))
      | inr h ↦ h
    ])

-- ---- the node to take

module _ (b : Book) (hands : List (Option ℕ)) (entries : List Entry) (only : ListsOnlyFree b hands entries) (all : ListsAllFree b hands entries) where
  -- a node in a hand isn't listed
  pub held_absent : (w k : ℕ) → hand hands w ≡ Some k → has_node entries k ≡ false
  held_absent w k at =
      not_there entries k (λ f.
      elim (cases_Bool (is_listed entries f k)) [
        | inl h ↦ absurd (in_none hands k w (free_parts b hands k (only f k h).0).1 at)
        | inr h ↦ h
      ])

  pub none_free : entries ≡ [] → NoneIsFree b hands
  none_free empty = λ k.
      elim (cases_Bool (is_free b hands k)) [
        | inl free ↦ absurd (false≢true (ap (λ (l : List Entry). is_listed l (floor_of_node b k) k) (sym empty) ∙ all k free))
        | inr none ↦ none
      ]

  module _ (f k : ℕ) (rest : List Entry) (is : entries ≡ (f, k) ∷ rest) (rises : Rises entries) where
    listed_first : is_listed entries f k ≡ true
    listed_first = ap (λ (l : List Entry). is_listed l f k) is ∙ or_left (is_it f k (f, k)) (is_listed rest f k) (it_itself (f, k))

    pub first_free : is_free b hands k ≡ true
    first_free = (only f k listed_first).0

    pub first_floor : floor_of_node b k ≡ f
    first_floor = (only f k listed_first).1

    rising : Rises ((f, k) ∷ rest)
    rising = subst Rises is rises

    pub first_next : IsNext b hands k
    first_next = record {
      free = first_free;
      least = λ j free.
          let there : is_listed ((f, k) ∷ rest) (floor_of_node b j) j ≡ true = subst (λ (l : List Entry). is_listed l (floor_of_node b j) j ≡ true) is (all j free) in
          let mine = first_floor in
          elim (first_or_after (f, k) rest (floor_of_node b j) j rising there) [
            | inl same ↦
                let one : f ≡ floor_of_node b j = ap (λ (e : Entry). e.0) same in
                let two : k ≡ j = ap (λ (e : Entry). e.1) same in
                inr (mine ∙ one, omega (arith, two))
            | inr later ↦ elim (before_cases (f, k) (floor_of_node b j, j) later) [
              | inl less ↦ inl (subst (λ n. n < floor_of_node b j) (sym mine) less)
              | inr tie ↦ let less = tie.1 in inr (mine ∙ tie.0, omega (arith, less))
            ]
          ];
    }

    -- once it is taken
    pub taken_lists : (w : ℕ) → w < length hands → hand hands w ≡ None → ListsFree b (set hands w (Some k)) rest
    taken_lists w low empty = record {
      only = λ g j h.
          let there : is_listed entries g j ≡ true = ap (λ (l : List Entry). is_listed l g j) is ∙ or_right (is_it g j (f, k)) (is_listed rest g j) h in
          let r = only g j there in
          let p = free_parts b hands j r.0 in
          let apart : k ≢ j = λ same.
          let floor : f ≡ g = sym first_floor ∙ ap (floor_of_node b) same ∙ r.1 in
          let gone : is_listed rest f k ≡ false = once_listed (f, k) rest rising in
          false≢true (sym gone ∙ ap (λ (n : ℕ). is_listed rest n k) floor ∙ ap (is_listed rest g) same ∙ h) in
          (free_from b (set hands w (Some k)) j p.0 (taken_held hands w k j apart p.1), r.1);
      all = λ j free.
          let p = free_parts b (set hands w (Some k)) j free in
          let q = taken_only hands w k j low empty p.1 in
          let there : is_listed ((f, k) ∷ rest) (floor_of_node b j) j ≡ true = subst (λ (l : List Entry). is_listed l (floor_of_node b j) j ≡ true) is (all j (free_from b hands j p.0 q.1)) in
          elim (or_cases (is_it (floor_of_node b j) j (f, k)) (is_listed rest (floor_of_node b j) j) there) [
            | inl here ↦ absurd (q.0 (ap (λ (e : Entry). e.1) (it_is (floor_of_node b j) j (f, k) here)))
            | inr later ↦ later
          ];
    }

  -- ---- a worker lets go of what it holds

  pub yielded_lists : (w x : ℕ) → AreApart hands → hand hands w ≡ Some x → ListsFree b (set hands w None) (with_open b entries x)
  yielded_lists w x apart at = record {
    only = λ f j h.
        elim (with_open_cases b entries x f j h) [
          | inl a ↦ (free_from b (set hands w None) j a.1 (subst (λ z. held (set hands w None) z ≡ false) a.0 (emptied_node hands w x apart at)), a.2)
          | inr a ↦ let r = only f j a in let p = free_parts b hands j r.0 in (free_from b (set hands w None) j p.0 (emptied_held hands w j p.1), r.1)
        ];
    all = λ j free.
        let p = free_parts b (set hands w None) j free in
        elim (cases_eq x j) [
          | inl same ↦ subst (λ z. is_listed (with_open b entries x) (floor_of_node b z) z ≡ true) same (with_open_has b entries x (subst (λ z. opens b z ≡ true) (sym same) p.0))
          | inr other ↦
              let mine : hand hands w ≡ Some j → ⊥ = λ e. other (let both : Some x ≡ Some j = sym at ∙ e in cc (both)) in
              with_open_keeps b entries x (floor_of_node b j) j (all j (free_from b hands j p.0 (emptied_only hands w j mine p.1)))
        ];
  }

  pub idle_lists : (w : ℕ) → hand hands w ≡ None → ListsFree b (set hands w None) entries
  idle_lists w none = record {
    only = λ f j h. let r = only f j h in let p = free_parts b hands j r.0 in (free_from b (set hands w None) j p.0 (emptied_held hands w j p.1), r.1);
    all = λ j free.
        let p = free_parts b (set hands w None) j free in
        let mine : hand hands w ≡ Some j → ⊥ = λ e. let both : Some j ≡ None = sym e ∙ none in cc (both) in
        all j (free_from b hands j p.0 (emptied_only hands w j mine p.1));
  }

  -- ---- a step is followed

  -- a listed node has a floor below the best cost, and is there
  pub listed_low : (f k : ℕ) → is_listed entries f k ≡ true → (f < b.cost) × (k < length b.nodes)
  listed_low f k h =
      let r = only f k h in
      let p = free_parts b hands k r.0 in
      (subst (λ n. n < b.cost) r.1 (open_low b k p.0), is_there b k (is_open b) p.0)

-- ---- a book that follows another, beside one node

module _ (b c : Book) (x : ℕ) (after : Follows x 2 b c) where
  floor_same : (j : ℕ) → j ≢ x → j < length b.nodes → floor_of_node c j ≡ floor_of_node b j
  floor_same j other low = ap (λ (o : Option Node). option_map_or (λ (n : Node). n.floor) o 0) (after.others j other low)

  opens_back : (j : ℕ) → j ≢ x → j < length b.nodes → opens c j ≡ true → opens b j ≡ true
  opens_back j other low h = at (slice_get b.nodes j) (ap (λ (o : Option Node). option_map_or (is_open c) o false) (sym (after.others j other low)) ∙ h)
    where
      less : c.cost ≤ b.cost
      less = after.cost

      at : (o : Option Node) → option_map_or (is_open c) o false ≡ true → option_map_or (is_open b) o false ≡ true
      at None e = absurd (false≢true e)
      at (Some n) e =
          let p = and_parts (not n.split) (nat_lt n.floor c.cost) e in
          let under : n.floor < c.cost = ltb-true n.floor c.cost p.1 in
          and_from (not n.split) (nat_lt n.floor b.cost) p.0 (lt-ltb n.floor b.cost (omega (arith, under, less)))

  opens_forth : (j : ℕ) → j ≢ x → j < length b.nodes → opens b j ≡ true → floor_of_node b j < c.cost → opens c j ≡ true
  opens_forth j other low h under = ap (λ (o : Option Node). option_map_or (is_open c) o false) (after.others j other low) ∙ at (slice_get b.nodes j) h under
    where
      at : (o : Option Node) → option_map_or (is_open b) o false ≡ true → option_map_or (λ (n : Node). n.floor) o 0 < c.cost → option_map_or (is_open c) o false ≡ true
      at None e l = absurd (false≢true e)
      at (Some n) e l =
          let p = and_parts (not n.split) (nat_lt n.floor b.cost) e in
          and_from (not n.split) (nat_lt n.floor c.cost) p.0 (lt-ltb n.floor c.cost l)

  -- the nodes listed once a step is followed
  abbrev pub followed : List Entry → List Entry
  followed entries = with_open c (with_open c (filter (λ e. nat_lt e.0 c.cost) entries) (length b.nodes)) (length b.nodes + 1)

  module _ (hands : List (Option ℕ)) (entries : List Entry) (only : ListsOnlyFree b hands entries) (all : ListsAllFree b hands entries) (w : ℕ) (apart : AreApart hands) (at : hand hands w ≡ Some x) (unsplit : AreUnsplit b hands) (closed : opens c x ≡ false) where
    held_there : (j : ℕ) → held hands j ≡ true → j < length b.nodes
    held_there j h = let r = held_by hands j h in is_there b j (λ n. not n.split) (unsplit r.0 j r.1)

    new_alone : (j : ℕ) → length b.nodes ≤ j → held (set hands w None) j ≡ false
    new_alone j high =
        emptied_held hands w j (elim (cases_Bool (held hands j)) [
          | inl h ↦ let low = held_there j h in absurd (omega (arith, low, high))
          | inr h ↦ h
        ])

    abbrev low_entries : List Entry
    low_entries = filter (λ e. nat_lt e.0 c.cost) entries

    low_only : (f j : ℕ) → is_listed low_entries f j ≡ true → (is_free c (set hands w None) j ≡ true) × (floor_of_node c j ≡ f)
    low_only f j h =
        let p = and_parts (nat_lt f c.cost) (is_listed entries f j) (sym (listed_filter (λ e. nat_lt e.0 c.cost) entries f j) ∙ h) in
        let r = only f j p.1 in
        let q = free_parts b hands j r.0 in
        let under : f < c.cost = ltb-true f c.cost p.0 in
        let other : j ≢ x = λ same. in_none hands j w q.1 (at ∙ ap Some (sym same)) in
        let there : j < length b.nodes = is_there b j (is_open b) q.0 in
        let opened : opens c j ≡ true = opens_forth j other there q.0 (subst (λ n. n < c.cost) (sym r.1) under) in
        (free_from c (set hands w None) j opened (emptied_held hands w j q.1), floor_same j other there ∙ r.1)

    new_only : (k f j : ℕ) → length b.nodes ≤ k → (k ≡ j) × (opens c j ≡ true) × (floor_of_node c j ≡ f) → (is_free c (set hands w None) j ≡ true) × (floor_of_node c j ≡ f)
    new_only k f j high a = let same = a.0 in (free_from c (set hands w None) j a.1 (new_alone j (omega (arith, same, high))), a.2)

    pub followed_lists : ListsFree c (set hands w None) (followed entries)
    followed_lists = record {
      only = λ f j h.
          elim (with_open_cases c (with_open c low_entries (length b.nodes)) (length b.nodes + 1) f j h) [
            | inl a ↦ new_only (length b.nodes + 1) f j (omega arith) a
            | inr a ↦ elim (with_open_cases c low_entries (length b.nodes) f j a) [
              | inl d ↦ new_only (length b.nodes) f j (omega arith) d
              | inr d ↦ low_only f j d
            ]
          ];
      all = λ j free.
          let p = free_parts c (set hands w None) j free in
          let other : j ≢ x = λ same. false≢true (sym closed ∙ ap (opens c) (sym same) ∙ p.0) in
          let mine : hand hands w ≡ Some j → ⊥ = λ e. other (let both : Some j ≡ Some x = sym e ∙ at in cc (both)) in
          let there : j < length c.nodes = is_there c j (is_open c) p.0 in
          let most = after.most in
          elim (cases_lt j (length b.nodes)) [
            | inl low ↦
                let opened : opens b j ≡ true = opens_back j other low p.0 in
                let listed : is_listed entries (floor_of_node b j) j ≡ true = all j (free_from b hands j opened (emptied_only hands w j mine p.1)) in
                let floor : floor_of_node c j ≡ floor_of_node b j = floor_same j other low in
                let under : floor_of_node b j < c.cost = subst (λ n. n < c.cost) floor (open_low c j p.0) in
                let kept : is_listed low_entries (floor_of_node b j) j ≡ true = listed_filter (λ e. nat_lt e.0 c.cost) entries (floor_of_node b j) j ∙ and_from (nat_lt (floor_of_node b j) c.cost) (is_listed entries (floor_of_node b j) j) (lt-ltb (floor_of_node b j) c.cost under) listed in
                subst (λ n. is_listed (followed entries) n j ≡ true) (sym floor)
                (with_open_keeps c (with_open c low_entries (length b.nodes)) (length b.nodes + 1) (floor_of_node b j) j (with_open_keeps c low_entries (length b.nodes) (floor_of_node b j) j kept))
            | inr high ↦ elim (cases_eq j (length b.nodes)) [
              | inl first ↦
                  with_open_keeps c (with_open c low_entries (length b.nodes)) (length b.nodes + 1) (floor_of_node c j) j
                  (subst (λ z. is_listed (with_open c low_entries z) (floor_of_node c j) j ≡ true) first (with_open_has c low_entries j p.0))
              | inr later ↦
                  let second : j ≡ length b.nodes + 1 = omega (arith, high, later, there, most) in
                  subst (λ z. is_listed (with_open c (with_open c low_entries (length b.nodes)) z) (floor_of_node c j) j ≡ true) second (with_open_has c (with_open c low_entries (length b.nodes)) j p.0)
            ]
          ];
    }

-- ---- how a step is followed

pub filter_all : (p : Entry → Bool) (entries : List Entry) → ((f k : ℕ) → is_listed entries f k ≡ true → p (f, k) ≡ true) → filter p entries ≡ entries
filter_all p [] h = refl
filter_all p (e ∷ entries) h = go (p e) (h e.0 e.1 (or_left (is_it e.0 e.1 e) (is_listed entries e.0 e.1) (it_itself e))) (filter_all p entries (λ f k there. h f k (or_right (is_it f k e) (is_listed entries f k) there)))
  where
    go : (a : Bool) → a ≡ true → filter p entries ≡ entries → cond a (e ∷ filter p entries) (filter p entries) ≡ e ∷ entries
    go true is rest = ap (λ (l : List Entry). e ∷ l) rest
    go false is rest = absurd (false≢true is)

abbrev pub AreLow : ℕ → ℕ → List Entry → Type 0
AreLow best count entries = (f k : ℕ) → is_listed entries f k ≡ true → (f < best) × (k < count)

pub low_stays : (best cost count : ℕ) (entries : List Entry) → AreLow best count entries → best ≤ cost → filter (λ e. nat_lt e.0 cost) entries ≡ entries
low_stays best cost count entries low most = filter_all (λ e. nat_lt e.0 cost) entries (λ f k h. let r = low f k h in let l = r.0 in lt-ltb f cost (omega (arith, l, most)))

pub filtered_low : (best cost count : ℕ) (entries : List Entry) → AreLow best count entries → AreLow best count (filter (λ e. nat_lt e.0 cost) entries)
filtered_low best cost count entries low f k h = low f k (and_parts (nat_lt f cost) (is_listed entries f k) (sym (listed_filter (λ e. nat_lt e.0 cost) entries f k) ∙ h)).1

pub low_new : (best count : ℕ) (entries : List Entry) → AreLow best count entries → has_node entries count ≡ false
low_new best count entries low =
    not_there entries count (λ f.
    elim (cases_Bool (is_listed entries f count)) [
      | inl h ↦ let r = low f count h in let l = r.1 in absurd (omega (arith, l))
      | inr h ↦ h
    ])

pub low_next : (b : Book) (best count : ℕ) (entries : List Entry) → AreLow best count entries → has_node (with_open b entries count) (count + 1) ≡ false
low_next b best count entries low =
    not_there (with_open b entries count) (count + 1) (λ f.
    elim (cases_Bool (is_listed (with_open b entries count) f (count + 1))) [
      | inl h ↦ elim (with_open_cases b entries count f (count + 1) h) [
        | inl a ↦ let same = a.0 in absurd (omega (arith, same))
        | inr a ↦ let r = low f (count + 1) a in let l = r.1 in absurd (omega (arith, l))
      ]
      | inr h ↦ h
    ])

-- ---- whether a node is open

some_open : (p : Node → Bool) (nodes : List Node) (k : ℕ) → option_map_or p (slice_get nodes k) false ≡ true → list_all (λ n. not (p n)) nodes ≡ false
some_open p [] k h = absurd (false≢true h)
some_open p (n ∷ nodes) zero h = ap (λ (t : Bool). not t && list_all (λ m. not (p m)) nodes) h
some_open p (n ∷ nodes) (suc k) h = last (not (p n)) (some_open p nodes k h)
  where
    last : (a : Bool) → list_all (λ m. not (p m)) nodes ≡ false → (a && list_all (λ m. not (p m)) nodes) ≡ false
    last true e = e
    last false e = refl

open_some : (p : Node → Bool) (nodes : List Node) → list_all (λ n. not (p n)) nodes ≡ false → (k : ℕ) × (option_map_or p (slice_get nodes k) false ≡ true)
open_some p [] h = absurd (false≢true (sym h))
open_some p (n ∷ nodes) h = go (p n) refl h (λ rest. open_some p nodes rest)
  where
    go : (a : Bool) → p n ≡ a → (not a && list_all (λ m. not (p m)) nodes) ≡ false → (list_all (λ m. not (p m)) nodes ≡ false → (k : ℕ) × (option_map_or p (slice_get nodes k) false ≡ true)) → (k : ℕ) × (option_map_or p (slice_get (n ∷ nodes) k) false ≡ true)
    go true is e later = (zero, is)
    go false is e later = let r = later e in (suc r.0, r.1)

pub unfinished : (b : Book) (k : ℕ) → opens b k ≡ true → is_finished b ≡ false
unfinished b k h = some_open (is_open b) b.nodes k h

pub finished : (b : Book) (hands : List (Option ℕ)) (entries : List Entry) → ListsAllFree b hands entries → entries ≡ [] → (HoldsOpen b hands → ⊥) → is_finished b ≡ true
finished b hands entries all empty none =
    elim (cases_Bool (is_finished b)) [
      | inl e ↦ e
      | inr e ↦
          let r = open_some (is_open b) b.nodes e in
          elim (cases_Bool (held hands r.0)) [
            | inl h ↦ absurd (let v = held_by hands r.0 h in none (v.0, r.0, v.1, r.1))
            | inr h ↦ absurd (false≢true (ap (λ (l : List Entry). is_listed l (floor_of_node b r.0) r.0) (sym empty) ∙ all r.0 (free_from b hands r.0 r.1 h)))
          ]
    ]

pub first_listed : (b : Book) (hands : List (Option ℕ)) (entries : List Entry) → ListsOnlyFree b hands entries → (o : Option Entry) → o ≡ slice_get entries 0 → is_some o ≡ true → is_finished b ≡ false
first_listed b hands [] only o is some = absurd (false≢true (sym (ap is_some is) ∙ some))
first_listed b hands (e ∷ entries) only o is some =
    unfinished b e.1 (free_parts b hands e.1 (only e.0 e.1 (or_left (is_it e.0 e.1 e) (is_listed entries e.0 e.1) (it_itself e))).0).0

empty_listed : (entries : List Entry) (o : Option Entry) → o ≡ slice_get entries 0 → is_some o ≡ false → entries ≡ []
empty_listed [] o is none = refl
empty_listed (e ∷ entries) o is none = absurd (false≢true (sym none ∙ ap is_some is))

-- where none is listed, no node is open unless a hand holds one
pub finished_else : (b : Book) (hands : List (Option ℕ)) (entries : List Entry) → ListsAllFree b hands entries → (o : Option Entry) → o ≡ slice_get entries 0 → is_some o ≡ false → (holds : Bool)
    → (holds ≡ true → HoldsOpen b hands) → (holds ≡ false → HoldsOpen b hands → ⊥) → not holds ≡ is_finished b
finished_else b hands entries all o is same true some spares = let h = some refl in sym (unfinished b h.1 h.3)
finished_else b hands entries all o is same false some spares = sym (finished b hands entries all (empty_listed entries o is same) (spares refl))

-- ---- how many hands are full

abbrev fill : Option ℕ → ℕ
fill h = cond (is_some h) 1 0

at_hand : (hands : List (Option ℕ)) (w : ℕ) → w < length hands → hand hands w ≡ None → slice_get hands w ≡ Some None
at_hand [] w low empty = absurd (omega (arith, low))
at_hand (z ∷ hands) zero low empty = ap Some empty
at_hand (z ∷ hands) (suc w) low empty = at_hand hands w (omega (arith, low)) empty

pub take_fills : (hands : List (Option ℕ)) (w k : ℕ) → w < length hands → hand hands w ≡ None → full_hands (set hands w (Some k)) ≡ full_hands hands + 1
take_fills hands w k low empty =
    let e : full_hands (set hands w (Some k)) + 0 ≡ full_hands hands + 1 = sum_set fill hands w None (Some k) (at_hand hands w low empty) in
    omega (arith, e)

pub empty_fills : (hands : List (Option ℕ)) (w x : ℕ) → hand hands w ≡ Some x → full_hands (set hands w None) + 1 ≡ full_hands hands
empty_fills hands w x at =
    let e : full_hands (set hands w None) + 1 ≡ full_hands hands + 0 = sum_set fill hands w (Some x) None (hand_some hands w x at) in
    omega (arith, e)

pub idle_fills : (hands : List (Option ℕ)) (w : ℕ) → w < length hands → hand hands w ≡ None → full_hands (set hands w None) ≡ full_hands hands
idle_fills hands w low empty =
    let e : full_hands (set hands w None) + 0 ≡ full_hands hands + 0 = sum_set fill hands w None None (at_hand hands w low empty) in
    omega (arith, e)

pub most_full : (hands : List (Option ℕ)) → full_hands hands ≤ length hands
most_full [] = omega arith
most_full (None ∷ hands) = omega (arith, most_full hands)
most_full (Some x ∷ hands) =
    let e : full_hands (Some x ∷ hands) ≡ 1 + full_hands hands = sum_by-cons fill (Some x) hands in
    omega (arith, e, most_full hands)

-- the nodes listed once a step is followed, as they are read
pub followed_as : (b c told : Book) (x : ℕ) (after : Follows x 2 b c) (entries before new : List Entry) (count : ℕ) → told ≡ c → before ≡ entries → count ≡ length b.nodes
    → new ≡ with_open told (with_open told (filter (λ e. nat_lt e.0 told.cost) before) count) (count + 1) → new ≡ followed b c x after entries
followed_as b c told x after entries before new count same kept many is =
    is
    ∙ ap (λ (d : Book). with_open d (with_open d (filter (λ (e : Entry). nat_lt e.0 d.cost) before) count) (count + 1)) same
    ∙ ap (λ (l : List Entry). with_open c (with_open c (filter (λ (e : Entry). nat_lt e.0 c.cost) l) count) (count + 1)) kept
    ∙ ap (λ (n : ℕ). with_open c (with_open c (filter (λ (e : Entry). nat_lt e.0 c.cost) entries) n) (n + 1)) many

-- ---- whether a hand holds an open node

abbrev pub opens_held : Book → List (Option ℕ) → ℕ → Bool
opens_held b hands w = option_map_or (λ k. is_node_and b k (is_open b)) (hand hands w) false

open_of : (b : Book) (h : Option ℕ) → option_map_or (λ k. is_node_and b k (is_open b)) h false ≡ true → (k : ℕ) × (h ≡ Some k) × (opens b k ≡ true)
open_of b None e = absurd (false≢true e)
open_of b (Some k) e = (k, refl, e)

-- ---- a worker lets go of what it holds, if it holds something

pub yielded_all : (b : Book) (hands : List (Option ℕ)) (entries : List Entry) → ListsOnlyFree b hands entries → ListsAllFree b hands entries → (w : ℕ) → AreApart hands → (h : Option ℕ) (new : List Entry) → h ≡ hand hands w
    → MatchOption h (new ≡ entries) (λ k. new ≡ with_open b entries k) → ListsFree b (set hands w None) new
yielded_all b hands entries only all w apart None new is same = subst (ListsFree b (set hands w None)) (sym same) (idle_lists b hands entries only all w (sym is))
yielded_all b hands entries only all w apart (Some x) new is same = subst (ListsFree b (set hands w None)) (sym same) (yielded_lists b hands entries only all w x apart (sym is))

pub yielded_room : (hands : List (Option ℕ)) (w : ℕ) → w < length hands → (h : Option ℕ) (old new : ℕ) → h ≡ hand hands w → full_hands hands ≤ old → MatchOption h (new ≡ old) (λ _. old ≤ new + 1) → full_hands (set hands w None) ≤ new
yielded_room hands w low None old new is room same = omega (arith, room, same, idle_fills hands w low (sym is))
yielded_room hands w low (Some x) old new is room same = omega (arith, room, same, empty_fills hands w x (sym is))

pub hand_room : (hands : List (Option ℕ)) (w : ℕ) (h : Option ℕ) (spare : ℕ) → h ≡ hand hands w → full_hands hands ≤ spare → IfSome h (λ _. 0 < spare)
hand_room hands w None spare is room = tt
hand_room hands w (Some x) spare is room = omega (arith, room, empty_fills hands w x (sym is))

pub hand_absent : (b : Book) (hands : List (Option ℕ)) (entries : List Entry) → ListsOnlyFree b hands entries → ListsAllFree b hands entries → (w : ℕ) (h : Option ℕ) → h ≡ hand hands w → IfSome h (λ k. has_node entries k ≡ false)
hand_absent b hands entries only all w None is = tt
hand_absent b hands entries only all w (Some x) is = held_absent b hands entries only all w x (sym is)

-- ---- nodes at a new best cost

-- the nodes below a cost, with no less room
abbrev pub IsBelow : OpenView → ℕ → OpenView → Type 0
IsBelow old cost new = (new.entries ≡ filter (λ e. nat_lt e.0 cost) old.entries) × (old.spare ≤ new.spare)

pub dropped_below : (old new n : OpenView) (cost told : ℕ) → n ≡ new → told ≡ cost → new.entries ≡ filter (λ e. nat_lt e.0 told) old.entries → new.spare + length new.entries ≡ old.spare + length old.entries → IsBelow old cost n
dropped_below old new n cost told same is left spare =
    let p : Entry → Bool = λ e. nat_lt e.0 told in
    let both : length (filter p old.entries) + length (filter (λ e. not (p e)) old.entries) ≡ length old.entries = length-filter_both p (λ e. not (p e)) (λ _. refl) old.entries in
    let long : length new.entries ≡ length (filter p old.entries) = ap length left in
    let room : n.spare ≡ new.spare = ap (λ (v : OpenView). v.spare) same in
    (ap (λ (v : OpenView). v.entries) same ∙ left ∙ ap (λ (m : ℕ). filter (λ (e : Entry). nat_lt e.0 m) old.entries) is, omega (arith, both, long, spare, room))

pub kept_below : (old n : OpenView) (best count cost told : ℕ) → n ≡ old → told ≡ cost → AreLow best count old.entries → best ≤ told → IsBelow old cost n
kept_below old n best count cost told same is low most =
    let room : n.spare ≡ old.spare = ap (λ (v : OpenView). v.spare) same in
    (ap (λ (v : OpenView). v.entries) same ∙ sym (low_stays best cost count old.entries low (omega (arith, most, is))), omega (arith, room))

pub below_low : (old n : OpenView) (best count cost : ℕ) → AreLow best count old.entries → IsBelow old cost n → AreLow best count n.entries
below_low old n best count cost low below = subst (AreLow best count) (sym below.0) (filtered_low best cost count old.entries low)
