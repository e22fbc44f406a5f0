-- Each core of each run is sound, and a crash keeps what is acknowledged.
use Rattle.search_core.proofs.Common.{◌≡◌, ◌≢◌, ◌⊎◌, inl, inr, ℕ, zero, suc, ◌≤◌, Bool, true, false, ◌&&◌, ◌==◌, not, List, [], ◌∷◌, ◌++◌, length, take, drop, set, replicate, refl, sym, ap, ◌∙◌, subst, arith, nat_le, nat_lt, Option, Some, None, eq-eqb, slice_get, is_none, option_map_or, option_and_then, list_all, list_any, and_parts, leb-true, eqb-true, false≢true, not-true, take-append-drop, length-append, take-take, length-take, any_none, Problem, Post, Plan, Priced, Split, Settled, Event, Take, Commit, Yield, Crash, Book, opening, is_open, is_node_and, priced, divided, settled, is_better, step, book_after, book_of, Core, start, empty_hands, hand, is_node, is_of, may_take, may_commit, happens, run, AreApart, HoldsApart, IsSoundCore, IsFront, Node, Has-slice_get}
use Rattle.search_core.proofs.Sound.{cond_some, bind_some, at_node_some, fold_sound}

-- ---- folds of joined posts

pub book_after-append : (i : Problem) (b : Book) (xs ys : List Post) → book_after i b (xs ++ ys) ≡ option_and_then (λ c. book_after i c ys) (book_after i b xs)
book_after-append i b [] ys = refl
book_after-append i b (x ∷ xs) ys =
    elim (step i b x) as (λ o. option_and_then (λ next. book_after i next (xs ++ ys)) o ≡ option_and_then (λ c. book_after i c ys) (option_and_then (λ next. book_after i next xs) o))
    [ None ↦ refl | Some c ↦ book_after-append i c xs ys ]

-- where posts fold, so do the first of them
pub front_folds : (i : Problem) (xs ys : List Post) (c : Book) → book_of i (xs ++ ys) ≡ Some c → (b : Book) × (book_of i xs ≡ Some b) × (book_after i b ys ≡ Some c)
front_folds i xs ys c e = bind_some (λ b. book_after i b ys) (book_of i xs) c (sym (book_after-append i (opening i) xs ys) ∙ e)

-- ---- hands

pub slice_get_set : {X : Type 0} (xs : List X) (w v : ℕ) (y x : X) → slice_get (set xs w y) v ≡ Some x → ((v ≡ w) × (y ≡ x)) ⊎ ((v ≢ w) × (slice_get xs v ≡ Some x))
slice_get_set [] w v y x e = absurd (cc)
slice_get_set (z ∷ xs) zero zero y x e = let same : y ≡ x = cc in inl (refl, same)
slice_get_set (z ∷ xs) zero (suc v) y x e = inr (λ q. absurd (omega arith), e)
slice_get_set (z ∷ xs) (suc w) zero y x e = inr (λ q. absurd (omega arith), e)
slice_get_set (z ∷ xs) (suc w) (suc v) y x e =
    elim (slice_get_set xs w v y x e) [
      | inl p ↦ inl (ap suc p.0, p.1)
      | inr p ↦ inr (λ q. p.0 (let r : v ≡ w = omega arith in r), p.1)
    ]

pub hand_some : (hands : List (Option ℕ)) (w x : ℕ) → hand hands w ≡ Some x → slice_get hands w ≡ Some (Some x)
hand_some hands w x e =
    let r = bind_some (λ (h : Option ℕ). h) (slice_get hands w) x e in r.1 ∙ ap (λ (h : Option ℕ). Some h) r.2

pub hand_set : (hands : List (Option ℕ)) (w v : ℕ) (h : Option ℕ) (x : ℕ) → hand (set hands w h) v ≡ Some x → ((v ≡ w) × (h ≡ Some x)) ⊎ ((v ≢ w) × (hand hands v ≡ Some x))
hand_set hands w v h x e =
    elim (slice_get_set hands w v h (Some x) (hand_some (set hands w h) v x e))
    [ inl p ↦ inl p | inr p ↦ inr (p.0, ap (option_and_then (λ (h : Option ℕ). h)) p.1) ]

pub no_hand : (n w x : ℕ) → hand (replicate n None) w ≡ Some x → ⊥
no_hand zero w x e = cc
no_hand (suc n) zero x e = cc
no_hand (suc n) (suc w) x e = no_hand n w x e

-- hands stay apart where one is emptied, and where one takes a node that is in no hand
pub empty_apart : AreApart empty_hands
empty_apart = λ v w x p q. absurd (no_hand 16 v x p)

pub emptied_apart : (hands : List (Option ℕ)) (w : ℕ) → AreApart hands → AreApart (set hands w None)
emptied_apart hands w h u v x p q =
    elim (hand_set hands w u None x p) [
      | inl a ↦ absurd (cc (a.1))
      | inr a ↦ elim (hand_set hands w v None x q) [ inl c ↦ absurd (cc (c.1)) | inr c ↦ h u v x a.1 c.1 ]
    ]

in_no_hand : (hands : List (Option ℕ)) (k v : ℕ) → list_any (is_node k) hands ≡ false → hand hands v ≡ Some k → ⊥
in_no_hand hands k v free q = false≢true (sym (any_none (is_node k) hands (Some k) free (Has-slice_get hands v (Some k) (hand_some hands v k q))) ∙ eq-eqb k k refl)

pub taken_apart : (hands : List (Option ℕ)) (w k : ℕ) → AreApart hands → list_any (is_node k) hands ≡ false → AreApart (set hands w (Some k))
taken_apart hands w k h free u v x p q =
    elim (hand_set hands w u (Some k) x p) [
      | inl a ↦ elim (hand_set hands w v (Some k) x q) [
        | inl f ↦ a.0 ∙ sym f.0
        | inr f ↦ let e : x ≡ k = cc (a.1) in absurd (in_no_hand hands k v free (subst (λ z. hand hands v ≡ Some z) e f.1))
      ]
      | inr a ↦ elim (hand_set hands w v (Some k) x q) [
        | inl f ↦ let e : x ≡ k = cc (f.1) in absurd (in_no_hand hands k u free (subst (λ z. hand hands u ≡ Some z) e a.1))
        | inr f ↦ h u v x a.1 f.1
      ]
    ]

-- ---- nodes that are unsplit

abbrev is_unsplit : Book → ℕ → Bool
is_unsplit b x = is_node_and b x (λ n. not n.split)

pub slice_get_other : {X : Type 0} (xs : List X) (k y : ℕ) (z : X) → y ≢ k → slice_get (set xs k z) y ≡ slice_get xs y
slice_get_other [] k y z h = refl
slice_get_other (x ∷ xs) zero zero z h = absurd (h refl)
slice_get_other (x ∷ xs) zero (suc y) z h = refl
slice_get_other (x ∷ xs) (suc k) zero z h = refl
slice_get_other (x ∷ xs) (suc k) (suc y) z h = slice_get_other xs k y z (λ e. h (ap suc e))

pub slice_get_front : {X : Type 0} (xs ys : List X) (k : ℕ) (x : X) → slice_get xs k ≡ Some x → slice_get (xs ++ ys) k ≡ Some x
slice_get_front [] ys k x e = absurd (cc)
slice_get_front (y ∷ xs) ys zero x e = e
slice_get_front (y ∷ xs) ys (suc k) x e = slice_get_front xs ys k x e

node_some : (p : Node → Bool) (o : Option Node) → option_map_or p o false ≡ true → (n : Node) × (o ≡ Some n) × (p n ≡ true)
node_some p None h = absurd (false≢true h)
node_some p (Some n) h = (n, refl, h)

-- a post for one node leaves each other node unsplit
pub step_keeps : (i : Problem) (b c : Book) (post : Post) (w x y : ℕ) → is_of w x post ≡ true → y ≢ x → step i b post ≡ Some c → is_unsplit b y ≡ true → is_unsplit c y ≡ true
step_keeps i b c (Plan worker rows n) w x y o ne e u =
    let r = cond_some (is_better i b rows n) (record b { best = rows; cost = n }) c e in
    subst (λ d. is_unsplit d y ≡ true) r.1 u
step_keeps i b c (Priced worker k prices) w x y o ne e u =
    let r = at_node_some b c k (priced i b k prices) e in
    let q = cond_some _ _ r.2 r.3 in
    let at : k ≡ x = eqb-true k x (and_parts (worker == w) (k == x) o).1 in
    subst (λ d. is_unsplit d y ≡ true) r.4
    (subst (λ (nodes : List Node). option_map_or (λ (n : Node). not n.split) (slice_get nodes y) false ≡ true) q.1
    (ap (λ (m : Option Node). option_map_or (λ (n : Node). not n.split) m false) (slice_get_other b.nodes k y _ (λ (s : y ≡ k). ne (s ∙ at))) ∙ u))
step_keeps i b c (Split worker k class m) w x y o ne e u =
    let r = at_node_some b c k (divided i b k class m) e in
    let q = cond_some _ _ r.2 r.3 in
    let at : k ≡ x = eqb-true k x (and_parts (worker == w) (k == x) o).1 in
    let n = node_some (λ n. not n.split) (slice_get b.nodes y) u in
    subst (λ d. is_unsplit d y ≡ true) r.4
    (subst (λ (nodes : List Node). option_map_or (λ (n : Node). not n.split) (slice_get nodes y) false ≡ true) q.1
    (ap (λ (m : Option Node). option_map_or (λ (n : Node). not n.split) m false)
    (slice_get_front _ _ y n.0 (slice_get_other b.nodes k y _ (λ (s : y ≡ k). ne (s ∙ at)) ∙ n.1)) ∙ n.2))
step_keeps i b c (Settled worker k) w x y o ne e u =
    let r = at_node_some b c k (settled i b k) e in
    let q = cond_some _ _ r.2 r.3 in
    let at : k ≡ x = eqb-true k x (and_parts (worker == w) (k == x) o).1 in
    subst (λ d. is_unsplit d y ≡ true) r.4
    (subst (λ (nodes : List Node). option_map_or (λ (n : Node). not n.split) (slice_get nodes y) false ≡ true) q.1
    (ap (λ (m : Option Node). option_map_or (λ (n : Node). not n.split) m false) (slice_get_other b.nodes k y _ (λ (s : y ≡ k). ne (s ∙ at))) ∙ u))

-- so do posts in order
pub posts_keep : (i : Problem) (b c : Book) (posts : List Post) (w x y : ℕ) → list_all (is_of w x) posts ≡ true → y ≢ x → book_after i b posts ≡ Some c → is_unsplit b y ≡ true → is_unsplit c y ≡ true
posts_keep i b c [] w x y o ne e u = let same : b ≡ c = cc in subst (λ d. is_unsplit d y ≡ true) same u
posts_keep i b c (post ∷ posts) w x y o ne e u =
    let p = and_parts (is_of w x post) (list_all (is_of w x) posts) o in
    let r = bind_some (λ next. book_after i next posts) (step i b post) c e in
    posts_keep i r.0 c posts w x y p.1 ne r.2 (step_keeps i b r.0 post w x y p.0 ne r.1 u)

book_some : (p : Book → Bool) (o : Option Book) → option_map_or p o false ≡ true → (b : Book) × (o ≡ Some b) × (p b ≡ true)
book_some p None h = absurd (false≢true h)
book_some p (Some n) h = (n, refl, h)

number_some : (p : ℕ → Bool) (o : Option ℕ) → option_map_or p o false ≡ true → (x : ℕ) × (o ≡ Some x) × (p x ≡ true)
number_some p None h = absurd (false≢true h)
number_some p (Some n) h = (n, refl, h)

open_unsplit : (b : Book) (k : ℕ) → is_node_and b k (is_open b) ≡ true → is_unsplit b k ≡ true
open_unsplit b k h =
    let n = node_some (is_open b) (slice_get b.nodes k) h in
    ap (λ (m : Option Node). option_map_or (λ (n : Node). not n.split) m false) n.1 ∙ (and_parts (not n.0.split) (nat_lt n.0.floor b.cost) n.2).0

-- ---- each event keeps a core sound

pub dropped : (b : Book) (hands : List (Option ℕ)) (w : ℕ) → HoldsApart b hands → HoldsApart b (set hands w None)
dropped b hands w h = record {
  distinct = emptied_apart hands w h.distinct;
  unsplit = λ v x p. elim (hand_set hands w v None x p) [ inl a ↦ absurd (cc (a.1)) | inr a ↦ h.unsplit v x a.1 ];
}

pub event_sound : (i : Problem) (c d : Core) (event : Event) → IsSoundCore i c → happens i c event ≡ Some d → IsSoundCore i d
event_sound i c d (Take w k) s e =
    let r = cond_some (may_take i c w k) (record { history = c.history; acked = length c.history; hands = set c.hands w (Some k) }) d e in
    let p3 = and_parts (nat_lt w 16 && is_none (hand c.hands w) && option_map_or (λ b. is_node_and b k (is_open b)) (book_of i c.history) false) (not (list_any (is_node k) c.hands)) r.0 in
    let p2 = and_parts (nat_lt w 16 && is_none (hand c.hands w)) (option_map_or (λ b. is_node_and b k (is_open b)) (book_of i c.history) false) p3.0 in
    let free : list_any (is_node k) c.hands ≡ false = not-true (list_any (is_node k) c.hands) p3.1 in
    let b = book_some (λ b. is_node_and b k (is_open b)) (book_of i c.history) p2.1 in
    let same : b.0 ≡ s.book = cc (b.1, s.folds) in
    subst (IsSoundCore i) r.1 (record {
      book = s.book;
      folds = s.folds;
      sound = s.sound;
      hands = record {
        distinct = taken_apart c.hands w k s.hands.distinct free;
        unsplit = λ v x p.
            elim (hand_set c.hands w v (Some k) x p) [
              | inl a ↦ let e : k ≡ x = cc (a.1) in subst (λ z. is_unsplit s.book z ≡ true) e (open_unsplit s.book k (subst (λ z. is_node_and z k (is_open z) ≡ true) same b.2))
              | inr a ↦ s.hands.unsplit v x a.1
            ];
      };
      acked = omega arith;
    })
event_sound i c d (Commit w posts) s e =
    let r = cond_some (option_map_or (may_commit i c w posts) (hand c.hands w) false) (record { history = c.history ++ posts; acked = length c.history; hands = set c.hands w None }) d e in
    let x = number_some (may_commit i c w posts) (hand c.hands w) r.0 in
    let p = and_parts (list_all (is_of w x.0) posts) (option_map_or (λ b. not (is_node_and b x.0 (is_open b))) (book_of i (c.history ++ posts)) false) x.2 in
    let b = book_some (λ b. not (is_node_and b x.0 (is_open b))) (book_of i (c.history ++ posts)) p.1 in
    let f = front_folds i c.history posts b.0 b.1 in
    let same : f.0 ≡ s.book = cc (f.1, s.folds) in
    let after : book_after i s.book posts ≡ Some b.0 = subst (λ z. book_after i z posts ≡ Some b.0) same f.2 in
    let left = dropped s.book c.hands w s.hands in
    subst (IsSoundCore i) r.1 (record {
      book = b.0;
      folds = b.1;
      sound = fold_sound i (c.history ++ posts) b.0 b.1;
      hands = record {
        distinct = left.distinct;
        unsplit = λ v y q.
            elim (hand_set c.hands w v None y q) [
              | inl a ↦ absurd (cc (a.1))
              | inr a ↦ posts_keep i s.book b.0 posts w x.0 y p.0 (λ z. a.0 (s.hands.distinct v w x.0 (subst (λ n. hand c.hands v ≡ Some n) z a.1) x.1)) after (s.hands.unsplit v y a.1)
            ];
      };
      acked = omega (arith, length-append c.history posts);
    })
event_sound i c d (Yield w) s e =
    let r = cond_some (nat_lt w 16) (record { history = c.history; acked = length c.history; hands = set c.hands w None }) d e in
    subst (IsSoundCore i) r.1 (record { book = s.book; folds = s.folds; sound = s.sound; hands = dropped s.book c.hands w s.hands; acked = omega arith })
event_sound i c d (Crash keep) s e =
    let r = cond_some (nat_le c.acked keep && nat_le keep (length c.history)) (record { history = take keep c.history; acked = keep; hands = empty_hands }) d e in
    let p = and_parts (nat_le c.acked keep) (nat_le keep (length c.history)) r.0 in
    let within : keep ≤ length c.history = leb-true _ _ p.1 in
    let f = front_folds i (take keep c.history) (drop keep c.history) s.book (ap (book_of i) (take-append-drop keep c.history) ∙ s.folds) in
    subst (IsSoundCore i) r.1 (record {
      book = f.0;
      folds = f.1;
      sound = fold_sound i (take keep c.history) f.0 f.1;
      hands = record { distinct = λ u v x p q. absurd (no_hand 16 u x p); unsplit = λ v x p. absurd (no_hand 16 v x p) };
      acked = omega (arith, length-take keep c.history);
    })

pub run_sound : (i : Problem) (c d : Core) (events : List Event) → IsSoundCore i c → run i c events ≡ Some d → IsSoundCore i d
run_sound i c d [] s e = let same : c ≡ d = cc in subst (IsSoundCore i) same s
run_sound i c d (event ∷ events) s e =
    let r = bind_some (λ next. run i next events) (happens i c event) d e in
    run_sound i r.0 d events (event_sound i c r.0 event s r.1) r.2

start_sound : (i : Problem) → IsSoundCore i start
start_sound i = record {
  book = opening i;
  folds = refl;
  sound = fold_sound i [] (opening i) refl;
  hands = record { distinct = λ u v x p q. absurd (no_hand 16 u x p); unsplit = λ v x p. absurd (no_hand 16 v x p) };
  acked = omega arith;
}

-- each core of each run is sound
pub every_run : (i : Problem) (events : List Event) (c : Core) → run i start events ≡ Some c → IsSoundCore i c
every_run i events c e = run_sound i start c events (start_sound i) e

-- a crash leaves a beginning of the posts that has all that were acknowledged
pub crash_front : (i : Problem) (c d : Core) (keep : ℕ) → happens i c (Crash keep) ≡ Some d → IsFront (take c.acked c.history) d.history × IsFront d.history c.history
crash_front i c d keep h =
    let r = cond_some (nat_le c.acked keep && nat_le keep (length c.history)) (record { history = take keep c.history; acked = keep; hands = empty_hands }) d h in
    let p = and_parts (nat_le c.acked keep) (nat_le keep (length c.history)) r.0 in
    let least : c.acked ≤ keep = leb-true _ _ p.0 in
    let all : take keep c.history ≡ d.history = ap (λ (x : Core). x.history) r.1 in (
      (drop c.acked d.history, subst (λ xs. xs ++ drop c.acked d.history ≡ d.history) (sym (ap (take c.acked) all) ∙ take-take c.acked keep c.history least) (take-append-drop c.acked d.history)),
      (drop keep c.history, ap (λ xs. xs ++ drop keep c.history) (sym all) ∙ take-append-drop keep c.history),
    )

pub crash_keeps : (i : Problem) (events : List Event) (c d : Core) (keep : ℕ) → run i start events ≡ Some c → happens i c (Crash keep) ≡ Some d → IsFront (take c.acked c.history) d.history × IsFront d.history c.history
crash_keeps i events c d keep e h = crash_front i c d keep h
