-- The best rest of a list that stands at a node, by the edges of the node.
use Rattle.pricing.proofs.Common.{◌≡◌, ◌≢◌, inl, inr, ℕ, suc, ◌+◌, ◌*◌, ◌<◌, ◌≤◌, ℤ, pos, ◌+ℤ◌, ◌-ℤ◌, ◌≤ℤ◌, true, false, ◌&&◌, ◌==◌, List, [], ◌∷◌, ◌++◌, length, map, refl, sym, ap, ◌∙◌, subst, arith, append_assoc, append-nil, Some, FitsSigned, get_or, slice_get, int_eq, w64, unsigned_abs, ints, fits_signed_from_abs, fold-append, false≢true, cases_Bool, or_left, ne_eqb, cases_lt, get_or-append, get_or-append_seam, Decides-int_eq, Break, Rule, end_of, is_legal, is_live, is_less_break, is_less_list, same_break, IsRule, end_of_all, nexts_of, spot_of, Has, Sorted, Has-append_cases, Has-map, from_map, Has-filter, no_longer_list, Sorted-filter, Sorted-breaks, IsLessBreak, rest_first, has_middle, bounds, from_next, Edge, Node, IsGraph, StandsAt, node_at, sum_at, price_in, AreSums, resumes, earned_from, Completes, IsBestRest, IsValue, AreValues, reach_of, AreFit, IsMostReached, IsFirstWith, LeadsOn, rest_worth, IsBestTail, earned_more, earned_end, earned_small, spaced_rest, resumes_behind, abs_add}
use Rattle.pricing.proofs.Best.{Behind, best_more, best_allowed, not_less, less_rests}

module _ (rule : Rule) (len : ℕ) (list : List Break) (b : Break) where
  longer : (bs : List Break) → is_legal rule len ((list ++ b ∷ []) ++ bs) ≡ is_legal rule len (list ++ b ∷ bs)
  longer bs = ap (is_legal rule len) (append_assoc list (b ∷ []) bs)

  -- a rest that begins with a break earns the stretch before it and what is earned behind it
  pub worth_more : (sums : List ℤ) (bs : List Break) → IsRule rule → Completes rule len list (b ∷ bs)
      → rest_worth sums rule len list (b ∷ bs) ≡ (sum_at sums b.start -ℤ sum_at sums (resumes rule (end_of_all list))) +ℤ rest_worth sums rule len (list ++ b ∷ []) bs
  worth_more sums bs r c =
      let end : end_of_all (list ++ b ∷ []) ≡ end_of b = fold-append (λ (at : ℕ) (c : Break). end_of c) 0 list (b ∷ []) in
      let next = bounds rule len _ _ b (from_next rule len (spot_of rule list) b (rest_first rule len list b bs c).1) in
      let some : 0 < end_of b = omega (arith, next.some) in
      earned_more sums rule len (resumes rule (end_of_all list)) b bs (spaced_rest rule len list (b ∷ bs) r c)
      ∙ ap (λ k. (sum_at sums b.start -ℤ sum_at sums (resumes rule (end_of_all list))) +ℤ earned_from (price_in sums) rule len k bs)
      (sym (ap (resumes rule) end ∙ resumes_behind rule (end_of b) some))

  -- the best rest that begins with a break, by the best behind it
  pub chosen_via : (sums : List ℤ) (v : ℤ) (tail : List Break) → IsRule rule → IsBestRest (Completes rule len (list ++ b ∷ [])) (rest_worth sums rule len (list ++ b ∷ [])) v tail
      → IsBestRest (Behind (Completes rule len list) b) (λ bs. rest_worth sums rule len list (b ∷ bs)) ((sum_at sums b.start -ℤ sum_at sums (resumes rule (end_of_all list))) +ℤ v) tail
  chosen_via sums v tail r t =
      let c : ℤ = sum_at sums b.start -ℤ sum_at sums (resumes rule (end_of_all list)) in
      best_allowed (Completes rule len (list ++ b ∷ [])) (Behind (Completes rule len list) b) (λ bs. rest_worth sums rule len list (b ∷ bs)) (c +ℤ v) tail
      (λ bs h. sym (longer bs) ∙ h) (λ bs h. longer bs ∙ h)
      (best_more (Completes rule len (list ++ b ∷ [])) (rest_worth sums rule len (list ++ b ∷ [])) (λ bs. rest_worth sums rule len list (b ∷ bs)) v (c +ℤ v) c tail
      (λ bs h. worth_more sums bs r (sym (longer bs) ∙ h)) refl t)

-- a break of a list in rising order is less than each behind it
less_behind_it : (xs : List Break) (b : Break) (ys : List Break) → Sorted IsLessBreak (xs ++ b ∷ ys) → (y : Break) → Has ys y → is_less_break b y ≡ true
less_behind_it [] b ys s y m = s.0 y m
less_behind_it (z ∷ zs) b ys s y m = less_behind_it zs b ys s.1 y m

pub map-append : {X Y : Type 0} (f : X → Y) (xs ys : List X) → map f (xs ++ ys) ≡ map f xs ++ map f ys
map-append f [] ys = refl
map-append f (x ∷ xs) ys = ap (λ l. f x ∷ l) (map-append f xs ys)

-- an element stands at some place
pub has_place : {X : Type 0} (xs : List X) (x : X) → Has xs x → (i : ℕ) × (slice_get xs i ≡ Some x)
has_place [] x m = absurd m
has_place (y ∷ ys) x m = elim m [ inl e ↦ (0, ap Some e) | inr t ↦ let r = has_place ys x t in (suc r.0, r.1) ]

pub some_has : {X : Type 0} (xs : List X) (x : X) → Has xs x → (length xs == 0) ≡ false
some_has [] x m = absurd m
some_has (y ∷ ys) x m = ne_eqb (length (y ∷ ys)) 0 (λ e. let z : suc (length ys) ≡ 0 = e in omega arith)

-- two best rests have one worth
pub same_worth : (Ok : List Break → Type 0) (worth : List Break → ℤ) (v w : ℤ) (xs ys : List Break) → IsBestRest Ok worth v xs → IsBestRest Ok worth w ys → v ≡ w
same_worth Ok worth v w xs ys a b =
    let one : worth xs ≡ v = a.is_worth in
    let two : worth ys ≡ w = b.is_worth in
    let up : worth ys ≤ℤ v = a.greatest ys b.allowed in
    let down : worth xs ≤ℤ w = b.greatest xs a.allowed in
    omega (arith, ints)

first_with : (reach : Edge → ℤ) (edges : List Edge) (most : ℤ) (e : Edge) → Has edges e → reach e ≡ most → IsFirstWith reach edges most
first_with reach [] most e m h = absurd m
first_with reach (x ∷ xs) most e m h =
    elim (cases_Bool (int_eq (reach x) most)) [
      | inl t ↦ record { before = []; edge = x; after = xs; whole = refl; reaches = (Decides-int_eq (reach x) most).0 t; none = λ y n. absurd n }
      | inr f ↦
          let other : reach x ≡ most → ⊥ = λ s. false≢true (sym f ∙ (Decides-int_eq (reach x) most).1 s) in
          elim m [
            | inl s ↦ absurd (other (ap reach s ∙ h))
            | inr t ↦
                let r = first_with reach xs most e t h in
                record {
                  before = x ∷ r.before;
                  edge = r.edge;
                  after = r.after;
                  whole = ap (λ l. x ∷ l) r.whole;
                  reaches = r.reaches;
                  none = λ y n g. elim n [ inl s ↦ other (ap reach s ∙ g) | inr u ↦ r.none y u g ];
                }
          ]
    ]

module _ (rule : Rule) (len : ℕ) (sums : List ℤ) (nodes : List Node) (k : ℕ) (values : List ℤ) (list : List Break)
    (r : IsRule rule) (g : IsGraph rule len nodes) (s : AreSums len sums) (known : AreValues rule len sums nodes k values) (st : StandsAt rule len nodes k list) where
  -- the sum of the prices before the first offset that counts as work again
  abbrev pub start_sum : ℤ
  start_sum = sum_at sums (resumes rule (end_of_all list))

  pub behind : (e : Edge) → Has (node_at nodes k).edges e → StandsAt rule len nodes e.next (list ++ e.stop ∷ [])
  behind e m = let p = has_place (node_at nodes k).edges e m in g.behind k p.0 e list st p.1

  value_behind : (e : Edge) → Has (node_at nodes k).edges e → IsValue rule len sums (list ++ e.stop ∷ []) (sum_at values e.next)
  value_behind e m = let p = has_place (node_at nodes k).edges e m in known e.next (list ++ e.stop ∷ []) (g.back k p.0 e st.within p.1) (behind e m)

  unfinished : (e : Edge) → Has (node_at nodes k).edges e → is_legal rule len list ≡ false
  unfinished e m = sym (g.ends k list st) ∙ some_has (node_at nodes k).edges e m

  empty_legal : Completes rule len list [] → is_legal rule len list ≡ true
  empty_legal h = sym (ap (is_legal rule len) (append-nil list)) ∙ h

  -- a rest goes on by some edge, and earns no more than that edge reaches
  through : (x : Break) (xs : List Break) → Completes rule len list (x ∷ xs)
      → (e : Edge) × Has (node_at nodes k).edges e × (e.stop ≡ x) × ((rest_worth sums rule len list (x ∷ xs) +ℤ start_sum) ≤ℤ reach_of sums values e)
  through x xs h =
      let first = rest_first rule len list x xs h in
      let live : Has (map (λ e. e.stop) (node_at nodes k).edges) x =
      subst (λ l. Has l x) (sym (g.edges k list st)) (Has-filter (λ b. is_live rule len (list ++ b ∷ [])) (nexts_of rule len (spot_of rule list)) x first.1 first.0) in
      let t = from_map (λ (e : Edge). e.stop) (node_at nodes k).edges x live in
      let v = value_behind t.0 t.1 in
      let b = chosen_via rule len list t.0.stop sums (sum_at values t.0.next) v.0 r v.1 in
      let most : rest_worth sums rule len list (t.0.stop ∷ xs) ≤ℤ ((sum_at sums t.0.stop.start -ℤ start_sum) +ℤ sum_at values t.0.next) =
      b.greatest xs (subst (λ (y : Break). Completes rule len list (y ∷ xs)) (sym t.2) h) in
      let whole : (rest_worth sums rule len list (t.0.stop ∷ xs) +ℤ start_sum) ≤ℤ reach_of sums values t.0 = omega (arith, ints) in
      (t.0, t.1, t.2, subst (λ (y : Break). (rest_worth sums rule len list (y ∷ xs) +ℤ start_sum) ≤ℤ reach_of sums values t.0) t.2 whole)

  -- what the edges reach fits
  pub fits : AreFit (reach_of sums values) (node_at nodes k).edges
  fits e m =
      let v = value_behind e m in
      let worth : rest_worth sums rule len (list ++ e.stop ∷ []) v.0 ≡ sum_at values e.next = v.1.is_worth in
      let own = earned_small sums rule len (resumes rule (end_of_all (list ++ e.stop ∷ []))) v.0 s in
      let short : len ≤ 65535 = s.short in
      let small : unsigned_abs (sum_at values e.next) ≤ 10000000000 * 65535 = subst (λ (z : ℤ). unsigned_abs z ≤ 10000000000 * 65535) worth (omega arith) in
      let both = abs_add (sum_at sums e.stop.start) (sum_at values e.next) (10000000000 * 65536) (10000000000 * 65535) (s.size e.stop.start) small in
      fits_signed_from_abs w64 (reach_of sums values e) (omega arith)

  -- the first edge that reaches the most begins the best rest
  pub first_best : (m : ℤ) (f : IsFirstWith (reach_of sums values) (node_at nodes k).edges m) → ((x : Edge) → Has (node_at nodes k).edges x → reach_of sums values x ≤ℤ m)
      → (tail : List Break) → IsBestTail rule len sums (list ++ f.edge.stop ∷ []) tail
      → IsBestRest (Completes rule len list) (rest_worth sums rule len list) (m -ℤ start_sum) (f.edge.stop ∷ tail)
  first_best m f most tail t =
      let e = f.edge in
      let has : Has (node_at nodes k).edges e = subst (λ l. Has l e) (sym f.whole) (has_middle f.before f.after e) in
      let v = value_behind e has in
      let same : t.0 ≡ sum_at values e.next = same_worth _ _ t.0 (sum_at values e.next) tail v.0 t.1 v.1 in
      let b = chosen_via rule len list e.stop sums t.0 tail r t.1 in
      let reaches : reach_of sums values e ≡ m = f.reaches in
      let value : (sum_at sums e.stop.start -ℤ start_sum) +ℤ t.0 ≡ m -ℤ start_sum = omega (arith, ints) in
      record {
        allowed = b.allowed;
        is_worth = b.is_worth ∙ value;
        greatest = greatest;
        least = least m f has most tail t b value;
      }
    where
      greatest : (other : List Break) → Completes rule len list other → rest_worth sums rule len list other ≤ℤ (m -ℤ start_sum)
      greatest [] h = absurd (false≢true (sym (unfinished f.edge (subst (λ l. Has l f.edge) (sym f.whole) (has_middle f.before f.after f.edge))) ∙ empty_legal h))
      greatest (x ∷ xs) h =
          let t = through x xs h in
          let low : (rest_worth sums rule len list (x ∷ xs) +ℤ start_sum) ≤ℤ reach_of sums values t.0 = t.3 in
          let high : reach_of sums values t.0 ≤ℤ m = most t.0 t.1 in
          omega (arith, ints)

      least : (m : ℤ) (f : IsFirstWith (reach_of sums values) (node_at nodes k).edges m) → Has (node_at nodes k).edges f.edge → ((x : Edge) → Has (node_at nodes k).edges x → reach_of sums values x ≤ℤ m)
          → (tail : List Break) → (t : IsBestTail rule len sums (list ++ f.edge.stop ∷ []) tail)
          → IsBestRest (Behind (Completes rule len list) f.edge.stop) (λ bs. rest_worth sums rule len list (f.edge.stop ∷ bs)) ((sum_at sums f.edge.stop.start -ℤ start_sum) +ℤ t.0) tail
          → (sum_at sums f.edge.stop.start -ℤ start_sum) +ℤ t.0 ≡ m -ℤ start_sum
          → (other : List Break) → Completes rule len list other → rest_worth sums rule len list other ≡ m -ℤ start_sum → is_less_list other (f.edge.stop ∷ tail) ≡ false
      least m f has most tail t b value [] h w = absurd (false≢true (sym (unfinished f.edge has) ∙ empty_legal h))
      least m f has most tail t b value (x ∷ xs) h w =
          let o = through x xs h in
          let low : (rest_worth sums rule len list (x ∷ xs) +ℤ start_sum) ≤ℤ reach_of sums values o.0 = o.3 in
          let high : reach_of sums values o.0 ≤ℤ m = most o.0 o.1 in
          let w' : rest_worth sums rule len list (x ∷ xs) ≡ m -ℤ start_sum = w in
          let reaches : reach_of sums values o.0 ≡ m = omega (arith, ints) in
          let rising : Sorted IsLessBreak (map (λ (e : Edge). e.stop) f.before ++ f.edge.stop ∷ map (λ (e : Edge). e.stop) f.after) =
          subst (Sorted IsLessBreak) (sym (g.edges k list st) ∙ ap (map (λ (e : Edge). e.stop)) f.whole ∙ map-append (λ (e : Edge). e.stop) f.before (f.edge ∷ f.after))
          (Sorted-filter IsLessBreak _ _ (Sorted-filter IsLessBreak _ _ (Sorted-breaks (spot_of rule list).offset len))) in
          elim (Has-append_cases f.before (f.edge ∷ f.after) o.0 (subst (λ l. Has l o.0) f.whole o.1)) [
            | inl p ↦ absurd (f.none o.0 p reaches)
            | inr q ↦ elim q [
              | inl same ↦
                  let is : f.edge.stop ≡ x = ap (λ (e : Edge). e.stop) same ∙ o.2 in
                  let h' : Completes rule len list (f.edge.stop ∷ xs) = subst (λ (y : Break). Completes rule len list (y ∷ xs)) (sym is) h in
                  subst (λ (y : Break). is_less_list (y ∷ xs) (f.edge.stop ∷ tail) ≡ false) is
                  (less_rests f.edge.stop xs tail (b.least xs h' (ap (λ (y : Break). rest_worth sums rule len list (y ∷ xs)) is ∙ w ∙ sym value)))
              | inr after ↦
                  let l : is_less_break f.edge.stop o.0.stop ≡ true = less_behind_it (map (λ (e : Edge). e.stop) f.before) f.edge.stop (map (λ (e : Edge). e.stop) f.after) rising o.0.stop (Has-map (λ (e : Edge). e.stop) f.after o.0 after) in
                  let l' : is_less_break f.edge.stop x ≡ true = subst (λ (y : Break). is_less_break f.edge.stop y ≡ true) o.2 l in
                  not_less (f.edge.stop ∷ tail) (x ∷ xs) (or_left (is_less_break f.edge.stop x) (same_break f.edge.stop x && is_less_list tail xs) l')
            ]
          ]

  -- the value of a node is the most that its edges reach, from where work begins again
  pub value_by_edges : (m : ℤ) → IsMostReached (reach_of sums values) (node_at nodes k).edges m → IsValue rule len sums list (m -ℤ start_sum)
  value_by_edges m h =
      let f = first_with (reach_of sums values) (node_at nodes k).edges m h.reached.0 h.reached.1 h.reached.2 in
      let v = value_behind f.edge (subst (λ l. Has l f.edge) (sym f.whole) (has_middle f.before f.after f.edge)) in
      (f.edge.stop ∷ v.0, first_best m f h.greatest v.0 (sum_at values f.edge.next, v.1))

  -- no edge reaches more than the value
  pub reaches_most : (v : ℤ) → IsValue rule len sums list v → (e : Edge) → Has (node_at nodes k).edges e → reach_of sums values e ≤ℤ (v +ℤ start_sum)
  reaches_most v own e m =
      let t = value_behind e m in
      let b = chosen_via rule len list e.stop sums (sum_at values e.next) t.0 r t.1 in
      let worth : rest_worth sums rule len list (e.stop ∷ t.0) ≡ (sum_at sums e.stop.start -ℤ start_sum) +ℤ sum_at values e.next = b.is_worth in
      let most : rest_worth sums rule len list (e.stop ∷ t.0) ≤ℤ v = own.1.greatest (e.stop ∷ t.0) b.allowed in
      omega (arith, ints)

  -- where no edge reaches the value the list is legal
  pub legal_without : (v : ℤ) → IsValue rule len sums list v → ((e : Edge) → Has (node_at nodes k).edges e → reach_of sums values e ≡ v +ℤ start_sum → ⊥) → is_legal rule len list ≡ true
  legal_without v own none = by own.0 own.1
    where
      by : (rest : List Break) → IsBestRest (Completes rule len list) (rest_worth sums rule len list) v rest → is_legal rule len list ≡ true
      by [] b = empty_legal b.allowed
      by (x ∷ xs) b =
          let t = through x xs b.allowed in
          let low : (rest_worth sums rule len list (x ∷ xs) +ℤ start_sum) ≤ℤ reach_of sums values t.0 = t.3 in
          let worth : rest_worth sums rule len list (x ∷ xs) ≡ v = b.is_worth in
          let high : reach_of sums values t.0 ≤ℤ (v +ℤ start_sum) = reaches_most v own t.0 t.1 in
          absurd (none t.0 t.1 (let e : reach_of sums values t.0 ≡ v +ℤ start_sum = omega (arith, ints) in e))

  -- the first edge that reaches the value leads on
  pub leads_by : (v : ℤ) → IsValue rule len sums list v → (f : IsFirstWith (reach_of sums values) (node_at nodes k).edges (v +ℤ start_sum)) → LeadsOn rule len sums nodes list f.edge
  leads_by v own f = record {
    behind = behind f.edge (subst (λ l. Has l f.edge) (sym f.whole) (has_middle f.before f.after f.edge));
    best = λ tail t.
        let back : (v +ℤ start_sum) -ℤ start_sum ≡ v = omega (arith, ints) in
        (v, subst (λ z. IsBestRest (Completes rule len list) (rest_worth sums rule len list) z (f.edge.stop ∷ tail)) back (first_best (v +ℤ start_sum) f (reaches_most v own) tail t));
  }

-- a legal list has the empty rest alone
pub best_at_end : (rule : Rule) (len : ℕ) (sums : List ℤ) (list : List Break) → IsRule rule → is_legal rule len list ≡ true
    → IsBestRest (Completes rule len list) (rest_worth sums rule len list) (sum_at sums len -ℤ sum_at sums (resumes rule (end_of_all list))) []
best_at_end rule len sums list r h =
    let from = resumes rule (end_of_all list) in
    let empty : Completes rule len list [] = ap (is_legal rule len) (append-nil list) ∙ h in
    let worth : rest_worth sums rule len list [] ≡ sum_at sums len -ℤ sum_at sums from = earned_end sums rule len from (spaced_rest rule len list [] r empty) in
    let only : (other : List Break) → Completes rule len list other → other ≡ [] = λ other k. no_longer_list rule len list other h k in
    record {
      allowed = empty;
      is_worth = worth;
      greatest = λ other k. subst (λ (l : List Break). rest_worth sums rule len list l ≤ℤ (sum_at sums len -ℤ sum_at sums from)) (sym (only other k)) (let w : rest_worth sums rule len list [] ≤ℤ (sum_at sums len -ℤ sum_at sums from) = omega (arith, ints) in w);
      least = λ other k g. subst (λ (l : List Break). is_less_list l [] ≡ false) (sym (only other k)) refl;
    }

pub value_at_end : (rule : Rule) (len : ℕ) (sums : List ℤ) (list : List Break) → IsRule rule → is_legal rule len list ≡ true → IsValue rule len sums list (sum_at sums len -ℤ sum_at sums (resumes rule (end_of_all list)))
value_at_end rule len sums list r h = ([], best_at_end rule len sums list r h)

-- a value is small
pub value_size : (rule : Rule) (len : ℕ) (sums : List ℤ) (list : List Break) (v : ℤ) → AreSums len sums → IsValue rule len sums list v → unsigned_abs v ≤ 10000000000 * 65535
value_size rule len sums list v s h =
    let own = earned_small sums rule len (resumes rule (end_of_all list)) h.0 s in
    let short : len ≤ 65535 = s.short in
    subst (λ (z : ℤ). unsigned_abs z ≤ 10000000000 * 65535) h.1.is_worth (omega arith)

pub value_small : (rule : Rule) (len : ℕ) (sums : List ℤ) (list : List Break) (v : ℤ) → AreSums len sums → IsValue rule len sums list v → FitsSigned w64 v
value_small rule len sums list v s h = let small = value_size rule len sums list v s h in fits_signed_from_abs w64 v (omega arith)

-- one node more
pub values_more : (rule : Rule) (len : ℕ) (sums : List ℤ) (nodes : List Node) (k : ℕ) (values : List ℤ) (x : ℤ) → length values ≡ k → AreValues rule len sums nodes k values
    → ((list : List Break) → StandsAt rule len nodes k list → IsValue rule len sums list x) → AreValues rule len sums nodes (k + 1) (values ++ x ∷ [])
values_more rule len sums nodes k values x many known here j list less st =
    elim (cases_lt j k) [
      | inl l ↦ subst (IsValue rule len sums list) (sym (get_or-append values (x ∷ []) (pos 0) j (omega arith))) (known j list l st)
      | inr g ↦
          let same : j ≡ k = omega arith in
          subst (IsValue rule len sums list) (sym (ap (λ n. get_or (values ++ x ∷ []) n (pos 0)) (same ∙ sym many) ∙ get_or-append_seam values x [] (pos 0)))
          (here list (subst (λ n. StandsAt rule len nodes n list) same st))
    ]

pub behind_node : (rule : Rule) (len : ℕ) (nodes : List Node) (k : ℕ) (list : List Break) → IsGraph rule len nodes → StandsAt rule len nodes k list → (e : Edge) → Has (node_at nodes k).edges e → StandsAt rule len nodes e.next (list ++ e.stop ∷ [])
behind_node rule len nodes k list g st e m = let p = has_place (node_at nodes k).edges e m in g.behind k p.0 e list st p.1
