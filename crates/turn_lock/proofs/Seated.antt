-- What contracts see of a seat, beside what it is at the lock's table.
use Rattle.turn_lock.proofs.Common.{◌≡◌, ℕ, zero, suc, ◌+◌, ◌-◌, ◌*◌, ◌<◌, ◌^◌, List, [], ◌∷◌, ◌++◌, All, length, map, sym, refl, ap, ◌∙◌, subst, arith, Option, Some, None, append_assoc, length-append, Me, TableId, Pass, Part, View, of_number, AddsAtMostOne, IsPrefix, new_seat, new_seats, SeatView, dealer, dealt, drew, entered, first_of, fresh_from, gathers, making, part_of, seen_as, AreKnown, Fits, IsInside, IsOutside}
use Rattle.std.proofs.lemmas.List.Elements.{All-cons, All-nil, All-pop, All-push, All-same, All-weaker}

module _ {R : Type 0} where
  pub outside_as : (number left : ℕ) (views : List (View R)) (v : View R) → views ≡ v ∷ [] → v.kind ≡ 1 → v.stage ≡ 0 → v.parts ≡ 1 → v.number ≡ number → v.left ≡ left → IsOutside number left views
  outside_as number left views v is a b c d e = subst (λ (l : List (View R)). IsOutside number left l) (sym is) (refl, a, b, c, d, e)

  pub first_is : (views : List (View R)) (v : View R) → views ≡ v ∷ [] → first_of views ≡ v
  first_is views v is = ap first_of is

  pub inside_as : {T : Type 0} (number left t : ℕ) (m : Me (Option T) (View R)) (u : View R) (log : List Pass) → m ≡ (entered (drew u t) log, (0, None) ∷ []) → u.kind ≡ 1 → u.parts ≡ 1 → u.number ≡ number → u.left ≡ left → 0 < left → IsInside number left m
  inside_as {T} number left t m u log is a b c d some_left = subst (λ (x : Me (Option T) (View R)). IsInside number left x) (sym is) (refl, a, refl, b, c, omega arith)

  -- ---- seats that are made

  pub seats_snoc : (lock : TableId) (root : Option R) (first count : ℕ) → new_seats lock root first count ++ new_seat lock root (first + count) ∷ [] ≡ new_seats lock root first (suc count)
  seats_snoc lock root first zero = ap (λ (k : ℕ). new_seat lock root k ∷ []) (omega arith)
  seats_snoc lock root first (suc count) =
      ap (λ (l : List (SeatView R)). new_seat lock root first ∷ l)
      (subst (λ (k : ℕ). new_seats lock root (suc first) count ++ new_seat lock root k ∷ [] ≡ new_seats lock root (suc first) (suc count)) (omega arith) (seats_snoc lock root (suc first) count))

  -- seats that are made, with one more
  pub made_more : (lock : TableId) (root : Option R) (count next : ℕ) (old new : List (SeatView R)) (s : SeatView R) → next ≡ suc count → old ≡ new_seats lock root 0 count → new ≡ old ++ s ∷ [] → s ≡ new_seat lock root count
      → new ≡ new_seats lock root 0 next
  made_more lock root count next old new s next_is was more is =
      more ∙ ap (λ (l : List (SeatView R)). l ++ s ∷ []) was ∙ ap (λ (x : SeatView R). new_seats lock root 0 count ++ x ∷ []) is
      ∙ subst (λ (k : ℕ). new_seats lock root 0 count ++ new_seat lock root k ∷ [] ≡ new_seats lock root 0 (suc count)) (omega arith) (seats_snoc lock root 0 count)
      ∙ ap (λ (k : ℕ). new_seats lock root 0 k) (sym next_is)

  pub seen_at : (a b : TableId) (number left : ℕ) (v : View R) → a ≡ b → seen_as a number left v ≡ seen_as b number left v
  seen_at a b number left v same = ap (λ (t : TableId). seen_as t number left v) same

  -- a seat that has given one of the others its number
  pub dealt_on : (root : Option R) (last first others next less : ℕ) → next ≡ suc first → others ≡ suc less → dealer (making root last first others) ≡ making root last next less
  dealt_on root last first others next less next_is is =
      subst (λ (k : ℕ). dealer (making root last first k) ≡ making root last next less) (sym is)
      (let left : (suc less + 1) * 2 ^ 56 - 2 ^ 56 ≡ (less + 1) * 2 ^ 56 = omega arith in let parts : suc less + 1 - 1 ≡ less + 1 = omega arith in
      (λ i. record { kind = 1; root = root; number = last; stage = 0; ticket = 0; left = left i; known = []; mine = []; heard = []; parts = parts i; others = fresh_from root (suc first) less })
      ∙ ap (λ (k : ℕ). making root last k less) (sym next_is))

  pub dealt_outside : (r : Option R) (last first others less : ℕ) (v : View R) (views : List (View R)) → v ≡ making r last first others → others ≡ suc less → views ≡ dealt v ∷ [] → IsOutside first (2 ^ 56) views
  dealt_outside r last first others less v views is some_left there =
      let now : v ≡ making r last first (suc less) = is ∙ ap (λ (k : ℕ). making r last first k) some_left in
      subst (λ (l : List (View R)). IsOutside first (2 ^ 56) l) (sym (there ∙ ap (λ (u : View R). dealt u ∷ []) now)) (refl, refl, refl, refl, refl, refl)

  pub dealt_seen : (lock : TableId) (r : Option R) (last first others less : ℕ) (v : View R) (views : List (View R)) → v ≡ making r last first others → others ≡ suc less → views ≡ dealt v ∷ []
      → seen_as lock first (2 ^ 56) (first_of views) ≡ new_seat lock r first
  dealt_seen lock r last first others less v views is some_left there =
      let now : v ≡ making r last first (suc less) = is ∙ ap (λ (k : ℕ). making r last first k) some_left in
      ap (λ (l : List (View R)). seen_as lock first (2 ^ 56) (first_of l)) (there ∙ ap (λ (u : View R). dealt u ∷ []) now)

  pub last_outside : (r : Option R) (last first others : ℕ) (v : View R) (views : List (View R)) → v ≡ making r last first others → others ≡ 0 → views ≡ v ∷ [] → IsOutside last (2 ^ 56) views
  last_outside r last first others v views is none_left there =
      let now : v ≡ making r last first 0 = is ∙ ap (λ (k : ℕ). making r last first k) none_left in
      subst (λ (l : List (View R)). IsOutside last (2 ^ 56) l) (sym (there ∙ ap (λ (u : View R). u ∷ []) now)) (refl, refl, refl, refl, refl, omega arith)

  pub last_seen : (lock : TableId) (r : Option R) (last first others : ℕ) (v : View R) (views : List (View R)) → v ≡ making r last first others → others ≡ 0 → views ≡ v ∷ []
      → seen_as lock last (2 ^ 56) (first_of views) ≡ new_seat lock r last
  last_seen lock r last first others v views is none_left there =
      let now : v ≡ making r last first 0 = is ∙ ap (λ (k : ℕ). making r last first k) none_left in
      ap (λ (l : List (View R)). seen_as lock last (2 ^ 56) (first_of l)) (there ∙ ap (λ (u : View R). u ∷ []) now)

  -- ---- a seat that is inside, and what contracts see of it

  pub leave_adds : (v : View R) (lock : TableId) (number left : ℕ) (s : SeatView R) (passes : List Pass) → seen_as lock number left v ≡ s → v.number ≡ number → AddsAtMostOne s.number s.known passes → AddsAtMostOne v.number v.known passes
  leave_adds v lock number left s passes seen num adds =
      subst (λ (n : ℕ). AddsAtMostOne n v.known passes) (sym num) (subst (λ (x : SeatView R). AddsAtMostOne x.number x.known passes) (sym seen) adds)

  -- ---- seats that are taken in

  -- what contracts see of a seat, and what is kept of it where it is taken in, are the same
  abbrev pub part_seen : SeatView R → Part R
  part_seen s = record { root = s.root; number = s.number; known = s.known; mine = s.mine }

  -- a view has taken in all seats but those that are left
  pub record IsGathered (lock : TableId) (seats : ℕ) (all left : List (SeatView R)) (v : View R) : Type 0 where
    pub gone : List (SeatView R)
    pub own : SeatView R
    pub more : List (Part R)
    pub order : all ≡ left ++ (gone ++ own ∷ [])
    pub kind : v.kind ≡ 1
    pub stage : v.stage ≡ 0
    pub parts : v.parts + length left ≡ seats
    pub locks : All (λ (s : SeatView R). s.lock ≡ lock) left
    pub own_is : part_of v ≡ part_seen own
    pub others : v.others ≡ map part_seen gone ++ more

  pub gather_first : (lock : TableId) (seats : ℕ) (all left : List (SeatView R)) (s : SeatView R) (v : View R) → all ≡ left ++ s ∷ [] → length all ≡ seats → All (λ (x : SeatView R). x.lock ≡ lock) all
      → v.kind ≡ 1 → v.stage ≡ 0 → v.parts ≡ 1 → part_of v ≡ part_seen s → IsGathered lock seats all left v
  gather_first lock seats all left s v order count locks kind stage part seen = record {
    gone = [];
    own = s;
    more = v.others;
    order = order;
    kind = kind;
    stage = stage;
    parts = omega (arith, part, count, ap (λ (l : List (SeatView R)). length l) order, length-append left (s ∷ []));
    locks = (All-pop (λ (x : SeatView R). x.lock ≡ lock) all left (Some s) order locks).0;
    own_is = seen;
    others = refl;
  }

  pub gather_next : (lock : TableId) (seats : ℕ) (all old left : List (SeatView R)) (s : SeatView R) (v w : View R) → IsGathered lock seats all old v → old ≡ left ++ s ∷ [] → w.parts ≡ 1 → part_of w ≡ part_seen s
      → IsGathered lock seats all left (gathers v w)
  gather_next lock seats all old left s v w h order part seen = record {
    gone = s ∷ h.gone;
    own = h.own;
    more = h.more;
    order = h.order ∙ ap (λ (l : List (SeatView R)). l ++ (h.gone ++ h.own ∷ [])) order ∙ append_assoc left (s ∷ []) (h.gone ++ h.own ∷ []);
    kind = h.kind;
    stage = h.stage;
    parts = omega (arith, part, h.parts, ap (λ (l : List (SeatView R)). length l) order, length-append left (s ∷ []));
    locks = (All-pop (λ (x : SeatView R). x.lock ≡ lock) old left (Some s) order h.locks).0;
    own_is = h.own_is;
    others = λ i. seen i ∷ h.others i;
  }

  pub gather_next_as : (lock : TableId) (seats : ℕ) (all old left : List (SeatView R)) (s : SeatView R) (v w u : View R) → u ≡ gathers v w → IsGathered lock seats all old v → old ≡ left ++ s ∷ [] → w.parts ≡ 1 → part_of w ≡ part_seen s
      → IsGathered lock seats all left u
  gather_next_as lock seats all old left s v w u is h order part seen =
      subst (λ (x : View R). IsGathered lock seats all left x) (sym is) (gather_next lock seats all old left s v w h order part seen)

  -- a seat that is taken out of a list of seats at one lock
  pub popped_lock : (lock : TableId) (all left : List (SeatView R)) (s : SeatView R) → all ≡ left ++ s ∷ [] → All (λ (x : SeatView R). x.lock ≡ lock) all → s.lock ≡ lock
  popped_lock lock all left s order locks = (All-pop (λ (x : SeatView R). x.lock ≡ lock) all left (Some s) order locks).1

  pub part_is : (lock : TableId) (number left : ℕ) (w v : View R) (s : SeatView R) → w ≡ v → w.number ≡ number → seen_as lock number left w ≡ s → part_of v ≡ part_seen s
  part_is lock number left w v s same num seen =
      ap (λ (x : View R). part_of x) (sym same) ∙ (λ i. record { root = w.root; number = num i; known = w.known; mine = w.mine }) ∙ ap (λ (x : SeatView R). part_seen x) seen

  -- what holds of each seat at the end
  abbrev pub Agrees : R → List Pass → SeatView R → Type 0
  Agrees key log s = (Some key ≡ s.root) × (of_number s.number log ≡ s.mine) × IsPrefix s.known log

  all_agree : (key : R) (log : List Pass) (gone : List (SeatView R)) (more : List (Part R)) → AreKnown key log (map part_seen gone ++ more) → All (Agrees key log) gone
  all_agree key log [] more h = All-nil (Agrees key log)
  all_agree key log (s ∷ gone) more h = All-cons (Agrees key log) s gone (sym h.0.0, h.0.2, h.0.1) (all_agree key log gone more h.1)

  pub agree : (key : R) (log : List Pass) (lock : TableId) (seats : ℕ) (all : List (SeatView R)) (v : View R) → IsGathered lock seats all [] v → Fits key log v → All (Agrees key log) all
  agree key log lock seats all v h f =
      let some_kind : 0 < v.kind = omega (arith, h.kind) in
      let own : Agrees key log h.own =
      subst (λ (p : Part R). (Some key ≡ p.root) × (of_number p.number log ≡ p.mine) × IsPrefix p.known log) h.own_is (sym (f.root some_kind), f.mine h.kind, f.known some_kind) in
      let gone : All (Agrees key log) h.gone = all_agree key log h.gone h.more (subst (λ (l : List (Part R)). AreKnown key log l) h.others (f.others h.kind)) in
      All-same (Agrees key log) all (h.gone ++ h.own ∷ []) h.order (All-push (Agrees key log) h.gone h.own gone own)

  pub agree_root : (key : R) (log : List Pass) (all : List (SeatView R)) → All (Agrees key log) all → All (λ (s : SeatView R). Some key ≡ s.root) all
  agree_root key log all h = All-weaker (Agrees key log) (λ (s : SeatView R). Some key ≡ s.root) (λ s a. a.0) all h

  pub agree_mine : (key : R) (log : List Pass) (all : List (SeatView R)) → All (Agrees key log) all → All (λ (s : SeatView R). of_number s.number log ≡ s.mine) all
  agree_mine key log all h = All-weaker (Agrees key log) (λ (s : SeatView R). of_number s.number log ≡ s.mine) (λ s a. a.1) all h

  pub agree_known : (key : R) (log : List Pass) (all : List (SeatView R)) → All (Agrees key log) all → All (λ (s : SeatView R). IsPrefix s.known log) all
  agree_known key log all h = All-weaker (Agrees key log) (λ (s : SeatView R). IsPrefix s.known log) (λ s a. a.2) all h
