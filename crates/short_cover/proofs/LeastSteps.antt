-- The least cover of one slot more.
use Rattle.short_cover.proofs.Common.{◌≡◌, ℕ, ◌+◌, ◌<◌, ◌≤◌, Bool, true, false, cond, nat_le, nat_lt, Option, None, Some, List, [], ◌∷◌, ◌++◌, All, Contains, sym, ap, ◌∙◌, subst, arith, refl, add-one, append-nil, IfSome, option_map_or, le-ltb, leb-false, leb-true, lt-ltb, Duty, Problem, need_at, cover, LeastCover, IsLeastAmong, IsLeastCover, wanted_slots}
use Rattle.std.specs.List.{range_with_len}
use Rattle.std.proofs.lemmas.List.Elements.{All-nil, All-push, All-same, All-weaker, Contains-append_left, Contains-push, filter-append}
use Rattle.shift_instance.proofs.Ranges.{range_next}

-- a slot with its need and its cover
abbrev pub cover_at : Problem → List Duty → ℕ → LeastCover
cover_at i rota t = record { slot = t; wanted = need_at i t; working = cover i rota t }

-- the least cover of so many slots from a first one on, which lies before the next of them
pub record IsLeastSoFar (i : Problem) (rota : List Duty) (first k : ℕ) (found : Option LeastCover) : Type 0 where
  pub least : IsLeastAmong i rota (range_with_len first k) found
  pub before : IfSome found (λ known. known.slot < first + k)

-- the slots in which somebody is wanted, with one slot more
wanted_more : (i : Problem) (first k : ℕ) → wanted_slots i (range_with_len first (k + 1)) ≡ wanted_slots i (range_with_len first k) ++ cond (nat_lt 0 (need_at i (first + k))) ((first + k) ∷ []) []
wanted_more i first k =
    ap (λ (n : ℕ). wanted_slots i (range_with_len first n)) (add-one k)
    ∙ ap (wanted_slots i) (range_next first k)
    ∙ filter-append (λ t. nat_lt 0 (need_at i t)) (range_with_len first k) ((first + k) ∷ [])

wanted_one_more : (i : Problem) (first k : ℕ) → 0 < need_at i (first + k) → wanted_slots i (range_with_len first (k + 1)) ≡ wanted_slots i (range_with_len first k) ++ (first + k) ∷ []
wanted_one_more i first k h =
    wanted_more i first k
    ∙ ap (λ (b : Bool). wanted_slots i (range_with_len first k) ++ cond b ((first + k) ∷ []) []) (lt-ltb 0 (need_at i (first + k)) h)

wanted_no_more : (i : Problem) (first k : ℕ) → need_at i (first + k) ≤ 0 → wanted_slots i (range_with_len first (k + 1)) ≡ wanted_slots i (range_with_len first k)
wanted_no_more i first k h =
    wanted_more i first k
    ∙ ap (λ (b : Bool). wanted_slots i (range_with_len first k) ++ cond b ((first + k) ∷ []) []) (le-ltb 0 (need_at i (first + k)) h)
    ∙ append-nil (wanted_slots i (range_with_len first k))

same_slots : (i : Problem) (rota : List Duty) (ts us : List ℕ) (found : LeastCover) → wanted_slots i us ≡ wanted_slots i ts → IsLeastCover i rota ts found → IsLeastCover i rota us found
same_slots i rota ts us found e h = record {
  among = subst (λ (ws : List ℕ). Contains ws found.slot) (sym e) h.among;
  wanted = h.wanted;
  working = h.working;
  fewest = All-same (λ t. found.working ≤ cover i rota t) (wanted_slots i us) (wanted_slots i ts) e h.fewest;
  earliest = All-same (λ t. cover i rota t ≤ found.working → found.slot ≤ t) (wanted_slots i us) (wanted_slots i ts) e h.earliest;
}

-- one slot more in which nobody is wanted
pub least_unwanted : (i : Problem) (rota : List Duty) (first k : ℕ) (found : Option LeastCover) → need_at i (first + k) ≤ 0 → IsLeastSoFar i rota first k found → IsLeastSoFar i rota first (k + 1) found
least_unwanted i rota first k None none h = record { least = wanted_no_more i first k none ∙ h.least; before = h.before }
least_unwanted i rota first k (Some known) none h = record {
  least = same_slots i rota (range_with_len first k) (range_with_len first (k + 1)) known (wanted_no_more i first k none) h.least;
  before = (let old : known.slot < first + k = h.before in omega arith);
}

-- the slot more is the least, where all others have more at work
take_new : (i : Problem) (rota : List Duty) (first k : ℕ) → 0 < need_at i (first + k) → All (λ t. cover i rota (first + k) < cover i rota t) (wanted_slots i (range_with_len first k))
    → IsLeastCover i rota (range_with_len first (k + 1)) (cover_at i rota (first + k))
take_new i rota first k some more =
    let ws : List ℕ = wanted_slots i (range_with_len first k) in
    let t : ℕ = first + k in
    let e = wanted_one_more i first k some in
    let Fewest : ℕ → Type 0 = λ s. cover i rota t ≤ cover i rota s in
    let Earliest : ℕ → Type 0 = λ s. cover i rota s ≤ cover i rota t → t ≤ s in
    record {
      among = subst (λ (us : List ℕ). Contains us t) (sym e) (Contains-push ws t);
      wanted = refl;
      working = refl;
      fewest = All-same Fewest _ (ws ++ t ∷ []) e (All-push Fewest ws t (All-weaker (λ s. cover i rota t < cover i rota s) Fewest (λ s h. omega arith) ws more) (omega arith));
      earliest = All-same Earliest _ (ws ++ t ∷ []) e (All-push Earliest ws t (All-weaker (λ s. cover i rota t < cover i rota s) Earliest (λ s h le. absurd (omega arith)) ws more) (λ le. omega arith));
    }

-- the least so far stays so, where the slot more has as many at work
keep_old : (i : Problem) (rota : List Duty) (first k : ℕ) (known : LeastCover) → 0 < need_at i (first + k) → known.working ≤ cover i rota (first + k) → known.slot < first + k
    → IsLeastCover i rota (range_with_len first k) known → IsLeastCover i rota (range_with_len first (k + 1)) known
keep_old i rota first k known some few old h =
    let ws : List ℕ = wanted_slots i (range_with_len first k) in
    let t : ℕ = first + k in
    let e = wanted_one_more i first k some in
    let Fewest : ℕ → Type 0 = λ s. known.working ≤ cover i rota s in
    let Earliest : ℕ → Type 0 = λ s. cover i rota s ≤ known.working → known.slot ≤ s in
    record {
      among = subst (λ (us : List ℕ). Contains us known.slot) (sym e) (Contains-append_left ws (t ∷ []) known.slot h.among);
      wanted = h.wanted;
      working = h.working;
      fewest = All-same Fewest _ (ws ++ t ∷ []) e (All-push Fewest ws t h.fewest few);
      earliest = All-same Earliest _ (ws ++ t ∷ []) e (All-push Earliest ws t h.earliest (λ le. omega arith));
    }

-- one slot more in which somebody is wanted: it is the least where it has fewer at work
pub least_wanted : (i : Problem) (rota : List Duty) (first k : ℕ) (found : Option LeastCover) → 0 < need_at i (first + k) → IsLeastSoFar i rota first k found
    → IsLeastSoFar i rota first (k + 1) (Some (option_map_or (λ known. cond (nat_le known.working (cover i rota (first + k))) known (cover_at i rota (first + k))) found (cover_at i rota (first + k))))
least_wanted i rota first k None some h = record {
  least = take_new i rota first k some (All-same (λ t. cover i rota (first + k) < cover i rota t) (wanted_slots i (range_with_len first k)) [] h.least (All-nil (λ t. cover i rota (first + k) < cover i rota t)));
  before = omega arith;
}
least_wanted i rota first k (Some known) some h = by (nat_le known.working (cover i rota (first + k))) refl
  where
    by : (b : Bool) → nat_le known.working (cover i rota (first + k)) ≡ b → IsLeastSoFar i rota first (k + 1) (Some (cond b known (cover_at i rota (first + k))))
    by true e = record {
      least = keep_old i rota first k known some (leb-true known.working (cover i rota (first + k)) e) h.before h.least;
      before = (let old : known.slot < first + k = h.before in omega arith);
    }
    by false e =
        let fewer : cover i rota (first + k) < known.working = leb-false known.working (cover i rota (first + k)) e in
        record {
          least = take_new i rota first k some (All-weaker (λ s. known.working ≤ cover i rota s) (λ s. cover i rota (first + k) < cover i rota s) (λ s le. omega arith) (wanted_slots i (range_with_len first k)) h.least.fewest);
          before = omega arith;
        }
