-- What tables say of the best list, and what stays when prices change.
use Rattle.pricing.proofs.Common.{◌≡◌, ℕ, zero, suc, ◌+◌, ◌-◌, ◌<◌, ◌≤◌, ℤ, ◌+ℤ◌, ◌≤ℤ◌, true, false, nat_le, List, [], ◌∷◌, length, fold, refl, sym, ap, ◌∙◌, subst, arith, Option, Some, None, slice_get, All, arc_value, count_by, unsigned_abs, and_parts, Break, Rule, end_of, may_follow, is_walk_from, end_of_all, Spot, bounds, Node, node_at, Duty, Shift, shift_list, slots, is_list_of, IsBest, worth, earned, ArePricesOf, AreSmallPrices, price_in, Found, KeptSearch, OverGraph, ByLayers, IsBestFound, Tabled, MeanTheSame, IsShiftOf, repriced, NameNone, NameNoneAbove, AreStepsUpTo, AreTables, AreValuesAbove, AreKeptAbove, AreRestsKept, IsGraphKept, IsFoundAt, IsLastChange, nodes_of}
use Rattle.pricing.proofs.Changes.{length-repriced, small_repriced, some_named, last_within}
use Rattle.pricing.proofs.Reached.{steps_within}
use Rattle.pricing.proofs.Reused.{values_above}
use Rattle.pricing.proofs.Worths.{best_is, list_is, found_some}

-- the best list is so at other bonuses that mean the same
pub best_at_same : (t : Tabled) (bonus : List (List Break × ℤ)) (list : List Break) (value : ℤ) → MeanTheSame t.bonus bonus → IsBest t.instance t.shift t.day t.prices t.bonus list value → IsBest t.instance t.shift t.day t.prices bonus list value
best_at_same t bonus list value same b =
    let duty : List Break → Duty = λ l. record { shift = t.shift; day = t.day; breaks = l } in
    let worths : (l : List Break) → worth t.instance t.prices t.bonus (duty l) ≡ worth t.instance t.prices bonus (duty l) = λ l. ap (λ (z : ℤ). earned t.instance t.prices (duty l) +ℤ z) (same.sums l) in
    record {
      legal = b.legal;
      is_worth = b.is_worth ∙ worths list;
      greatest = λ other h. subst (λ (z : ℤ). z ≤ℤ value) (worths other) (b.greatest other h);
      least = λ other h e. b.least other h (worths other ∙ e);
    }

pub some_got : {X : Type 0} (xs : List X) (i : ℕ) → i < length xs → (x : X) × (slice_get xs i ≡ Some x)
some_got [] i l = absurd (omega arith)
some_got (x ∷ xs) zero l = (x, refl)
some_got (x ∷ xs) (suc i) l = some_got xs i (omega arith)

-- the graph that is kept with right values
pub graph_kept : (rule : Rule) (len : ℕ) (sums : List ℤ) (kept : KeptSearch) → AreRestsKept rule len sums kept → IsGraphKept rule len kept
graph_kept rule len sums (OverGraph graph values) rests = rests.graph
graph_kept rule len sums ByLayers rests = tt

-- the kept values behind an offset stay right where the prices there stay
rests_above : (rule : Rule) (len last : ℕ) (sums other : List ℤ) (kept : KeptSearch) → ((o : ℕ) → last < o → o < len → price_in other o ≡ price_in sums o) → AreRestsKept rule len sums kept → AreKeptAbove rule len other last kept
rests_above rule len last sums other (OverGraph graph values) same rests = values_above rule len last sums other values.items (arc_value graph) same rests.known
rests_above rule len last sums other ByLayers same rests = tt

module _ (t : Tabled) (lists : List (List Break)) (kept : KeptSearch) (best : Option Found) (h : AreTables t lists kept best) where
  pub best_some : (f : Found) → best ≡ Some f → IsBest t.instance t.shift t.day t.prices t.bonus f.list f.value
  best_some f is =
      let s = some_got (shift_list t.instance) t.shift h.shift in
      let x = s.0 in
      let found = h.found x s.1 in
      best_is t.instance t.shift t.day t.prices found.sums x s.1 (h.short x s.1) found.sums_of t.bonus f.list f.value
      (found_some (record { rule = x.1; len = x.0.len; sums = found.sums }) t.bonus best f is found.is_best)

  pub best_none : best ≡ None → (list : List Break) → is_list_of t.instance t.shift list ≡ false
  best_none is list =
      let s = some_got (shift_list t.instance) t.shift h.shift in
      let x = s.0 in
      let found = h.found x s.1 in
      list_is t.instance t.shift t.day t.prices found.sums x s.1 (h.short x s.1) found.sums_of list
      ∙ subst (IsBestFound (record { rule = x.1; len = x.0.len; sums = found.sums }) t.bonus) is found.is_best list

  module _ (changes : List (ℕ × ℤ)) where
    pub count_after : length (repriced t.prices changes) ≡ slots t.instance
    count_after = length-repriced t.prices changes ∙ h.count

    pub small_after : All (λ change. unsigned_abs change.1 ≤ 10000000000) changes → AreSmallPrices (repriced t.prices changes)
    small_after small = small_repriced t.prices changes h.small small

    -- the graph that is kept is the shift's
    pub graph_after : (x : Shift × Rule) → IsShiftOf t.instance t.shift x → IsGraphKept x.1 x.0.len kept
    graph_after x e = let found = h.found x e in graph_kept x.1 x.0.len found.sums kept found.rests

    -- the values behind the last change are kept
    pub kept_after : (last : ℕ) (x : Shift × Rule) → IsShiftOf t.instance t.shift x → IsLastChange t.instance x.0 t.day t.prices (repriced t.prices changes) x.0.len (Some last)
        → (other : List ℤ) → ArePricesOf t.instance x.0 t.day (repriced t.prices changes) other → AreKeptAbove x.1 x.0.len other last kept
    kept_after last x e change other of =
        let found = h.found x e in
        rests_above x.1 x.0.len last found.sums other kept (λ o above inside. of o inside ∙ change.2 o above inside ∙ sym (found.sums_of o inside)) found.rests

    -- where no price of the duties changed all of it is kept
    pub same_after : All (λ change. unsigned_abs change.1 ≤ 10000000000) changes → ((x : Shift × Rule) → IsShiftOf t.instance t.shift x → IsLastChange t.instance x.0 t.day t.prices (repriced t.prices changes) x.0.len None)
        → AreTables (record { instance = t.instance; shift = t.shift; day = t.day; prices = repriced t.prices changes; bonus = t.bonus }) lists kept best
    same_after small none = record {
      shift = h.shift;
      count = count_after;
      small = small_after small;
      beginnings = h.beginnings;
      short = h.short;
      found = λ x e. let found = h.found x e in record { sums = found.sums; sums_of = λ o inside. found.sums_of o inside ∙ sym (none x e o inside); rests = found.rests; is_best = found.is_best };
    }

    -- what was found anew
    pub anew_after : All (λ change. unsigned_abs change.1 ≤ 10000000000) changes → (kept' : KeptSearch) (best' : Option Found)
        → ((x : Shift × Rule) → IsShiftOf t.instance t.shift x → IsFoundAt t.instance x t.day (repriced t.prices changes) t.bonus kept' best')
        → AreTables (record { instance = t.instance; shift = t.shift; day = t.day; prices = repriced t.prices changes; bonus = t.bonus }) lists kept' best'
    anew_after small kept' best' found = record {
      shift = h.shift;
      count = count_after;
      small = small_after small;
      beginnings = h.beginnings;
      short = h.short;
      found = found;
    }

    -- where something changed some slot of the duties is named
    pub none_named : (x : Shift × Rule) (last : ℕ) → IsLastChange t.instance x.0 t.day t.prices (repriced t.prices changes) x.0.len (Some last) → NameNone t.instance x.0 t.day changes → ⊥
    none_named x last change none = some_named t.instance x.0 t.day t.prices changes last change none

    -- the steps up to the last change
    pub steps_after : (x : Shift × Rule) → IsShiftOf t.instance t.shift x → (last bound old new : ℕ) → IsLastChange t.instance x.0 t.day t.prices (repriced t.prices changes) x.0.len (Some last)
        → NameNoneAbove t.instance x.0 t.day changes bound → new ≤ old + (count_by (λ n. nat_le n.spot.offset last) (nodes_of kept) + length lists) → AreStepsUpTo x.1 x.0.len bound t.bonus (new - old)
    steps_after x e last bound old new change none steps =
        steps_within x.1 x.0.len last bound kept t.bonus t.bonus lists old new (graph_after x e) (last_within t.instance x.0 t.day t.prices changes last bound change none) h.beginnings (λ front leads. leads) steps

-- a walk ends within its shift
walk_within : (rule : Rule) (len offset used : ℕ) (list : List Break) → is_walk_from rule len offset used list ≡ true → offset ≤ len → fold (λ at b. end_of b) offset list ≤ len
walk_within rule len offset used [] w l = l
walk_within rule len offset used (b ∷ bs) w l =
    let p = and_parts (may_follow rule len offset used b) (is_walk_from rule len (end_of b) (used + b.len) bs) w in
    let f = bounds rule len offset used b p.0 in
    walk_within rule len (end_of b) (used + b.len) bs p.1 (omega (arith, f.tail))

-- so no node stands behind it
none_above : (rule : Rule) (len : ℕ) (sums : List ℤ) (nodes : List Node) (kept : List ℤ) → AreValuesAbove rule len sums nodes len kept
none_above rule len sums nodes kept k list above st =
    let end : (node_at nodes k).spot.offset ≡ end_of_all list = ap (λ (s : Spot). s.offset) st.spot in
    let within : end_of_all list ≤ len = walk_within rule len 0 0 list st.walk (omega arith) in
    absurd (omega (arith, above, end, within))

-- and all that is kept of nodes there is right
pub none_kept_above : (rule : Rule) (len : ℕ) (sums : List ℤ) (kept : KeptSearch) → AreKeptAbove rule len sums len kept
none_kept_above rule len sums (OverGraph graph values) = none_above rule len sums (arc_value graph) values.items
none_kept_above rule len sums ByLayers = tt
