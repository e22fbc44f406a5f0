-- The shifts of a shift list.
use Rattle.shift_instance.proofs.Common.{◌≡◌, ℕ, zero, suc, ◌+◌, ◌<◌, ◌≤◌, List, [], ◌∷◌, map, length, get_or, refl, sym, ap, ◌∙◌, subst, arith, inl, inr, Option, Some, None, slice_get, IsSomeAnd, mul-le-mul_right, enumerate_from, Rule, Has, from_flat_map, from_map, from_range, Shift, Kind, IsValid, IsKind, IsShift, first_cause, rule_causes, Problem, shift_list, shifts_of_kind, from_to, slots, day_slots, slot_of}
use Rattle.std.specs.Prelude.{◌*◌, ◌%◌, ◌-◌}

-- an element that stands at a place
pub some_at : {X : Type 0} (xs : List X) (k : ℕ) → k < length xs → (x : X) × (slice_get xs k ≡ Some x)
some_at [] k h = absurd (omega arith)
some_at (x ∷ xs) zero h = (x, refl)
some_at (x ∷ xs) (suc k) h = let small : k < length xs = omega arith in some_at xs k small

pub map_at : {X Y : Type 0} (f : X → Y) (xs : List X) (k : ℕ) (x : X) (d : Y) → slice_get xs k ≡ Some x → get_or (map f xs) k d ≡ f x
map_at f [] k x d e = absurd (cc)
map_at f (y ∷ xs) zero x d e = let s : y ≡ x = cc in ap f s
map_at f (y ∷ xs) (suc k) x d e = map_at f xs k x d e

pub Has_at : {X : Type 0} (xs : List X) (k : ℕ) (x : X) → slice_get xs k ≡ Some x → Has xs x
Has_at [] k x e = absurd (cc)
Has_at (y ∷ xs) zero x e = let s : y ≡ x = cc in inl s
Has_at (y ∷ xs) (suc k) x e = inr (Has_at xs k x e)

pub get_or_some : {X : Type 0} (xs : List X) (k : ℕ) (x d : X) → slice_get xs k ≡ Some x → (k < length xs) × (get_or xs k d ≡ x)
get_or_some [] k x d e = absurd (cc)
get_or_some (y ∷ xs) zero x d e = let s : y ≡ x = cc in (omega arith, s)
get_or_some (y ∷ xs) (suc k) x d e = let r = get_or_some xs k x d e in (omega arith, r.1)

-- numbered elements are those that stand at their numbers
numbered : {X : Type 0} (from : ℕ) (xs : List X) (p : ℕ × X) → Has (enumerate_from from xs) p → (k : ℕ) × (p.0 ≡ from + k) × (slice_get xs k ≡ Some p.1)
numbered from [] p h = absurd h
numbered {X} from (x ∷ xs) p h =
    elim h [
      | inl e ↦ (0, ap (λ (q : ℕ × X). q.0) (sym e) ∙ omega arith, ap (λ (q : ℕ × X). Some q.1) e)
      | inr t ↦ let r = numbered (from + 1) xs p t in (suc r.0, omega (arith, r.1), r.2)
    ]

-- what a shift of the list has from its type
pub record HasKind (i : Problem) (x : Shift × Rule) (k : Kind) : Type 0 where
  pub at : slice_get i.kinds x.0.kind ≡ Some k
  pub rule : x.1 ≡ k.rule
  pub first_start : k.start_min ≤ x.0.start
  pub last_start : x.0.start < k.start_min + (k.start_max + 1 - k.start_min)
  pub least : k.len_min ≤ x.0.len
  pub greatest : x.0.len < k.len_min + (k.len_max + 1 - k.len_min)

pub kind_of : (i : Problem) (x : Shift × Rule) → Has (shift_list i) x → (k : Kind) × HasKind i x k
kind_of i x h =
    let t = from_flat_map shifts_of_kind (enumerate_from 0 i.kinds) x h in
    let n = numbered 0 i.kinds t.0 t.1 in
    let a = from_flat_map (λ start. map (λ len. (record { kind = t.0.0; start = start; len = len }, t.0.1.rule)) (from_to t.0.1.len_min t.0.1.len_max)) (from_to t.0.1.start_min t.0.1.start_max) x t.2 in
    let b = from_map (λ len. (record { kind = t.0.0; start = a.0; len = len }, t.0.1.rule)) (from_to t.0.1.len_min t.0.1.len_max) x a.2 in
    let e : t.0.0 ≡ x.0.kind = ap (λ (q : Shift × Rule). q.0.kind) b.2 in
    let m : n.0 ≡ x.0.kind = omega arith in
    let l : b.0 ≡ x.0.len = ap (λ (q : Shift × Rule). q.0.len) b.2 in
    let s : a.0 ≡ x.0.start = ap (λ (q : Shift × Rule). q.0.start) b.2 in
    let r = from_range t.0.1.len_min (t.0.1.len_max + 1 - t.0.1.len_min) b.0 b.1 in
    let low : t.0.1.len_min ≤ b.0 = r.0 in
    let high : b.0 < t.0.1.len_min + (t.0.1.len_max + 1 - t.0.1.len_min) = r.1 in
    let q = from_range t.0.1.start_min (t.0.1.start_max + 1 - t.0.1.start_min) a.0 a.1 in
    let first : t.0.1.start_min ≤ a.0 = q.0 in
    let last : a.0 < t.0.1.start_min + (t.0.1.start_max + 1 - t.0.1.start_min) = q.1 in (
      t.0.1,
      record {
        at = subst (λ (j : ℕ). slice_get i.kinds j ≡ Some t.0.1) m n.2;
        rule = sym (ap (λ (q : Shift × Rule). q.1) b.2);
        first_start = omega arith;
        last_start = omega arith;
        least = omega arith;
        greatest = omega arith;
      },
    )

kind_within : (i : Problem) → IsValid i → (n : ℕ) (k : Kind) → slice_get i.kinds n ≡ Some k → IsKind i k
kind_within i valid n k e = let at = get_or_some i.kinds n k k e in subst (λ q. IsKind i q) at.1 (valid.kinds n k at.0)

-- each shift of the list is within the ranges
pub shift_within : (i : Problem) → IsValid i → (x : Shift × Rule) → Has (shift_list i) x → IsShift i x.0
shift_within i valid x h =
    let k = kind_of i x h in
    let is = kind_within i valid x.0.kind k.0 k.1.at in
    let early : k.0.start_max < 2 * day_slots i = is.early in
    let short : k.0.len_max ≤ day_slots i = is.short in
    let some : 1 ≤ k.0.len_min = is.some_length in
    let starts : k.0.start_min ≤ k.0.start_max = is.starts in
    let lengths : k.0.len_min ≤ k.0.len_max = is.lengths in
    let a : x.0.start < k.0.start_min + (k.0.start_max + 1 - k.0.start_min) = k.1.last_start in
    let b : k.0.len_min ≤ x.0.len = k.1.least in
    let c : x.0.len < k.0.len_min + (k.0.len_max + 1 - k.0.len_min) = k.1.greatest in
    record { kind = (get_or_some i.kinds x.0.kind k.0 k.0 k.1.at).0; early = omega arith; some_length = omega arith; short = omega arith }

-- no shift is longer than the planning period
pub shift_short : (i : Problem) → IsValid i → (x : Shift × Rule) → Has (shift_list i) x → x.0.len ≤ slots i
shift_short i valid x h =
    let within = shift_within i valid x h in
    let short : x.0.len ≤ day_slots i = within.short in
    let some : 0 < i.days = valid.some_days in
    let day : 1 * day_slots i ≤ i.days * day_slots i = mul-le-mul_right (day_slots i) some in
    omega arith

-- the rule of each shift of the list is well formed
pub rule_passes : (i : Problem) → IsValid i → (x : Shift × Rule) → Has (shift_list i) x → first_cause (rule_causes x.1) ≡ None
rule_passes i valid x h =
    let k = kind_of i x h in
    ap (λ r. first_cause (rule_causes r)) k.1.rule ∙ (kind_within i valid x.0.kind k.0 k.1.at).passes

-- a fact of the element that an option holds
pub is_some_and_from : {X : Type 0} (o : Option X) (P : X → Type 0) (x : X) → o ≡ Some x → P x → IsSomeAnd o P
is_some_and_from {X} o P x e p = subst (λ (q : Option X). IsSomeAnd q P) (sym e) p

pub is_some_and_at : {X : Type 0} (o : Option X) (P : X → Type 0) (x : X) → o ≡ Some x → IsSomeAnd o P → P x
is_some_and_at {X} o P x e p = subst (λ (q : Option X). IsSomeAnd q P) e p

-- what stands at a place of the stored shifts
pub shift_found : (i j : Problem) (shifts : List Shift) (s : ℕ) (y : Shift) → i ≡ j → shifts ≡ map (λ x. x.0) (shift_list i) → s < length (shift_list j) → y ≡ get_or shifts s y → IsSomeAnd (slice_get (shift_list j) s) (λ x. y ≡ x.0)
shift_found i j shifts s y same listed small read =
    let x = some_at (shift_list j) s small in
    let e : shifts ≡ map (λ x. x.0) (shift_list j) = subst (λ q. shifts ≡ map (λ x. x.0) (shift_list q)) same listed in
    is_some_and_from _ (λ x. y ≡ x.0) x.0 x.1 (read ∙ ap (λ xs. get_or xs s y) e ∙ map_at (λ x. x.0) (shift_list j) s x.0 y x.1)

-- what stands at a place of the stored shifts is within the ranges
pub found_within : (j : Problem) (s : ℕ) (y : Shift) → IsValid j → s < length (shift_list j) → IsSomeAnd (slice_get (shift_list j) s) (λ x. y ≡ x.0) → IsShift j y
found_within j s y valid small found =
    let x = some_at (shift_list j) s small in
    let e : y ≡ x.0.0 = is_some_and_at _ (λ x. y ≡ x.0) x.0 x.1 found in
    subst (λ q. IsShift j q) (sym e) (shift_within j valid x.0 (Has_at (shift_list j) s x.0 x.1))

-- the rule of a shift is that of its type
pub rule_found : (i j : Problem) (s : ℕ) (y : Shift) → i ≡ j → s < length (shift_list j) → IsSomeAnd (slice_get (shift_list j) s) (λ x. y ≡ x.0) → (y.kind < length i.kinds) × ((kind : Kind) → kind ≡ get_or i.kinds y.kind kind → IsSomeAnd (slice_get (shift_list j) s) (λ x. kind.rule ≡ x.1))
rule_found i j s y same small found =
    let x = some_at (shift_list j) s small in
    let e : y ≡ x.0.0 = is_some_and_at _ (λ x. y ≡ x.0) x.0 x.1 found in
    let k = kind_of j x.0 (Has_at (shift_list j) s x.0 x.1) in
    let at : slice_get i.kinds y.kind ≡ Some k.0 = ap (λ (q : Problem). slice_get q.kinds y.kind) same ∙ ap (λ (q : Shift). slice_get j.kinds q.kind) e ∙ k.1.at in (
      (get_or_some i.kinds y.kind k.0 k.0 at).0,
      λ kind read. is_some_and_from _ (λ x. kind.rule ≡ x.1) x.0 x.1 (ap (λ (q : Kind). q.rule) (read ∙ (get_or_some i.kinds y.kind k.0 kind at).1) ∙ sym k.1.rule),
    )

-- the rule that stands at a place of the shift list is well formed
pub found_passes : (j : Problem) (s : ℕ) (r : Rule) → IsValid j → s < length (shift_list j) → IsSomeAnd (slice_get (shift_list j) s) (λ x. r ≡ x.1) → first_cause (rule_causes r) ≡ None
found_passes j s r valid small found =
    let x = some_at (shift_list j) s small in
    let e : r ≡ x.0.1 = is_some_and_at _ (λ x. r ≡ x.1) x.0 x.1 found in
    ap (λ q. first_cause (rule_causes q)) e ∙ rule_passes j valid x.0 (Has_at (shift_list j) s x.0 x.1)
