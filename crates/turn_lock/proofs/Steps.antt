-- Each step of the ticket lock keeps its rule.
use Rattle.turn_lock.proofs.Common.{◌≡◌, ◌≢◌, ◌⊎◌, ℕ, zero, suc, ◌+◌, ◌-◌, ◌%◌, ◌^◌, ◌<◌, ◌≤◌, eqb, List, [], ◌∷◌, ◌++◌, drop, length, get_or, set, sym, refl, ap, ◌∙◌, subst, inl, inr, ⊎_elim, arith, Option, Some, length-set, get_or-set_same, get_or-set_other, append-nil, ne_eqb, eq-eqb, some, none, some-injective, some-ne-none, get_elem?, State, Me, keeps, takes, gives, stepped, Allows, Splits, Joins, opening, Seen, Final, Pass, Part, View, of_number, IsPrefix, after_turn, claims, dealer, dealt, drew, entered, first_view, for_seat, fresh, fresh_from, gathers, hears, left_view, making, note_of, one_if, spent, times_in, total, AreKnown, At, Compared, Fits, GoesInside, IsHome, IsOut, IsRuled}
use mathlib.Core.Logic.{dite}
use native.Mathlib.Decide.{ℕ_discrete}
use lib.Seq.{set-get_or}
use Rattle.std.proofs.Math.Seq.{drop-append_seam}
use Rattle.atomic_table.proofs.Lists.{at_set, at_snoc, at_longer, set_again, set_here, set_else}
use Rattle.turn_lock.proofs.Histories.{comparable, differs, grows, of_number-append, other_stays, own_new, parts_grow, set_at, total_at, total_set, total_snoc, total_two, New}

own_counts : (n : ℕ) → one_if (eqb n n) ≡ 1
own_counts n = ap one_if (eq-eqb n n refl)

module _ {R : Type 0} where
  claims_is : (n : ℕ) (v : View R) → v.kind ≡ 1 → claims n v ≡ one_if (eqb v.number n) + times_in n v.others
  claims_is n v e = ap (λ (k : ℕ). for_seat k (one_if (eqb v.number n) + times_in n v.others)) e

  -- the two cases of a view after a change of one
  after : (views : List (View R)) (id : ℕ) (w : View R) (P : ℕ → View R → Type 0) → P id w → ((j : ℕ) (u : View R) → j ≢ id → At views j u → P j u) → (j : ℕ) (u : View R) → At (set views id w) j u → P j u
  after views id w P mine others j u e =
      ⊎_elim (λ (t : (j ≡ id) × (w ≡ u)). subst (λ (y : ℕ × View R). P y.0 y.1) (λ i. (sym t.0 i, t.1 i)) mine) (λ (t : (j ≢ id) × (get_elem? views j ≡ some u)). others j u t.0 t.1) (at_set views id j w u e)

  each_set : (views : List (View R)) (id : ℕ) (w : View R) (Q : View R → Type 0) → Q w → (j : ℕ) (u : View R) → At (set views id w) j u → At views j u ⊎ Q u
  each_set views id w Q q j u e =
      ⊎_elim (λ (t : (j ≡ id) × (w ≡ u)). inr (subst Q t.1 q)) (λ (t : (j ≢ id) × (get_elem? views j ≡ some u)). inl t.1) (at_set views id j w u e)

  each_snoc : (views : List (View R)) (w : View R) (Q : View R → Type 0) → Q w → (j : ℕ) (u : View R) → At (views ++ w ∷ []) j u → At views j u ⊎ Q u
  each_snoc views w Q q j u e = ⊎_elim (λ (was : get_elem? views j ≡ some u). inl was) (λ (same : w ≡ u). inr (subst Q same q)) (at_snoc views w u j e)

  -- whoever is inside stays where one that is outside changes
  inside_set : (views : List (View R)) (id : ℕ) (v w : View R) → At views id v → v.stage ≡ 0 → (j : ℕ) (u : View R) → At views j u → u.stage ≡ 2 → At (set views id w) j u
  inside_set views id v w at out j u e two =
      set_else views id j w
      (λ (same : j ≡ id). let is : u ≡ v = some-injective u v (sym e ∙ subst (λ (i : ℕ). get_elem? views i ≡ some v) (sym same) at) in
      let st : u.stage ≡ v.stage = ap (λ (x : View R). x.stage) is in omega arith)
      ∙ e

  numbers_set : (views : List (View R)) (id : ℕ) (v w : View R) → At views id v → ((n : ℕ) → claims n w ≡ claims n v) → ((n : ℕ) → total (claims n) views ≤ 1) → (n : ℕ) → total (claims n) (set views id w) ≤ 1
  numbers_set views id v w at same all n =
      let sum : total (claims n) (set views id w) + claims n v ≡ total (claims n) views + claims n w = total_set (claims n) views id v w at in
      let e : claims n w ≡ claims n v = same n in
      let h : total (claims n) views ≤ 1 = all n in omega arith

  parts_set : (views : List (View R)) (id : ℕ) (v w : View R) → At views id v → w.parts ≡ v.parts → total (λ (x : View R). x.parts) (set views id w) ≡ total (λ (x : View R). x.parts) views
  parts_set views id v w at same =
      let sum : total (λ (x : View R). x.parts) (set views id w) + v.parts ≡ total (λ (x : View R). x.parts) views + w.parts = total_set (λ (x : View R). x.parts) views id v w at in omega arith

  -- the parts of a lock that is made
  fresh_known : (key : R) (first count : ℕ) → AreKnown key [] (fresh_from (Some key) first count)
  fresh_known key first zero = tt
  fresh_known key first (suc count) = ((refl, ([], refl), refl), fresh_known key (suc first) count)

  fresh_times : (root : Option R) (n first count : ℕ) → n < first → times_in n (fresh_from root first count) ≡ 0
  fresh_times root n first zero low = refl
  fresh_times root n first (suc count) low =
      let miss : one_if (eqb first n) ≡ 0 = ap one_if (ne_eqb first n (λ e. omega arith)) in
      let rest : times_in n (fresh_from root (suc first) count) ≡ 0 = fresh_times root n (suc first) count (omega arith) in omega arith

  -- each number from the first on stands there once, and no other
  fresh_once : (root : Option R) (n first count : ℕ) → times_in n (fresh_from root first count) ≤ 1
  fresh_once root n first zero = omega arith
  fresh_once root n first (suc count) = dite (ℕ_discrete first n)
      (λ (same : first ≡ n).
      let hit : one_if (eqb first n) ≡ 1 = ap one_if (eq-eqb first n same) in
      let rest : times_in n (fresh_from root (suc first) count) ≡ 0 = fresh_times root n (suc first) count (omega arith) in omega arith)
      (λ (ne : first ≢ n).
      let miss : one_if (eqb first n) ≡ 0 = ap one_if (ne_eqb first n ne) in
      let rest : times_in n (fresh_from root (suc first) count) ≤ 1 = fresh_once root n (suc first) count in omega arith)

  fresh_below : (root : Option R) (n first count : ℕ) → first + count ≤ n → times_in n (fresh_from root first count) ≡ 0
  fresh_below root n first zero high = refl
  fresh_below root n first (suc count) high =
      let miss : one_if (eqb first n) ≡ 0 = ap one_if (ne_eqb first n (λ e. omega arith)) in
      let rest : times_in n (fresh_from root (suc first) count) ≡ 0 = fresh_below root n (suc first) count (omega arith) in omega arith

  -- a view that makes a lock stands for each number once
  making_once : (root : Option R) (n last : ℕ) → claims n (making root last 0 last) ≤ 1
  making_once root n last = dite (ℕ_discrete last n)
      (λ (same : last ≡ n).
      let hit : one_if (eqb last n) ≡ 1 = ap one_if (eq-eqb last n same) in
      let rest : times_in n (fresh_from root 0 last) ≡ 0 = fresh_below root n 0 last (omega arith) in omega arith)
      (λ (ne : last ≢ n).
      let miss : one_if (eqb last n) ≡ 0 = ap one_if (ne_eqb last n ne) in
      let rest : times_in n (fresh_from root 0 last) ≤ 1 = fresh_once root n 0 last in omega arith)

  first_only : (w : View R) (i : ℕ) (v : View R) → get_elem? (w ∷ []) i ≡ some v → (i ≡ 0) × (w ≡ v)
  first_only w zero v e = (refl, some-injective w v e)
  first_only w (suc i) v e = absurd (some-ne-none v (sym e))

module _ {R T : Type 0} (root : T → R) (passes : T → List Pass) where
  abbrev Lefts : List (View R) → ℕ
  Lefts views = total (λ v. v.left) views

  abbrev Parts : List (View R) → ℕ
  Parts views = total (λ v. v.parts) views

  abbrev at_state : List ℕ → List (mathlib.Core.Option.Option (Option T)) → List (View R) → State (Option T) (View R)
  at_state ws hs vs = record { words = ws; homes = hs; views = vs }

  -- the start
  pub opens : (r : R) (value : T) (seats : ℕ) → root value ≡ r → passes value ≡ [] → 0 < seats → seats ≤ 16 → IsRuled root passes r seats (opening (0 ∷ 0 ∷ []) (Some value ∷ []) (first_view r seats))
  opens r value seats e none_yet some_seats sixteen = let w : View R = first_view r seats in record {
    two_words = refl;
    log = [];
    order = omega arith;
    room = omega arith;
    drawn = λ by v at busy. let st : w.stage ≡ v.stage = ap (λ (u : View R). u.stage) (first_only w by v at).1 in absurd (omega arith);
    apart = λ by v other u a b _ _ _. (first_only w by v a).0 ∙ sym (first_only w other u b).0;
    served = λ by v at is2. let st : w.stage ≡ v.stage = ap (λ (u : View R). u.stage) (first_only w by v at).1 in absurd (omega arith);
    numbers = λ n. let once : claims n w ≤ 1 = making_once (Some r) n (seats - 1) in omega arith;
    parts = omega arith;
    fits = λ by v at. subst (λ (u : View R). Fits r [] u) (first_only w by v at).1 record {
      root = λ _. refl;
      known = λ _. ([], refl);
      mine = λ _. refl;
      inside = λ _. refl;
      seated = λ _. refl;
      heard = ([], refl);
      part = λ _. omega arith;
      others = λ _. fresh_known r 0 (seats - 1);
    };
    slot = inl ((λ by v at is2. let st : w.stage ≡ v.stage = ap (λ (u : View R). u.stage) (first_only w by v at).1 in omega arith), (value, refl, e, none_yet));
  }

  pub opens_as : (r : R) (value : T) (seats : ℕ) (slots : List (Option T)) → slots ≡ Some value ∷ [] → root value ≡ r → passes value ≡ [] → 0 < seats → seats ≤ 16 → IsRuled root passes r seats (opening (0 ∷ 0 ∷ []) slots (first_view r seats))
  opens_as r value seats slots is e none_yet some_seats sixteen =
      subst (λ (l : List (Option T)). IsRuled root passes r seats (opening (0 ∷ 0 ∷ []) l (first_view r seats))) (sym is) (opens r value seats e none_yet some_seats sixteen)

  -- a seat that is outside draws a ticket
  pub draws : (key : R) (seats id : ℕ) (v : View R) → v.kind ≡ 1 → v.stage ≡ 0 → 0 < v.left
      → Allows (IsRuled root passes key seats) 1 id (v, []) 0 (λ n. (n + 1) % 2 ^ 64) (λ r m. m ≡ (drew v r, []))
  draws key seats id v seat out left s h wide at _ =
      let n : ℕ = get_or s.words 0 0 in
      let w = drew v n in
      let long : length s.words ≡ 2 = h.two_words in
      let sum : Lefts (set s.views id w) + v.left ≡ Lefts s.views + (v.left - 1) = total_set (λ u. u.left) s.views id v w at in
      let room : n + Lefts s.views ≤ 2 ^ 60 = h.room in
      let order : get_or s.words 1 0 ≤ n = h.order in
      let plus : (n + 1) % 2 ^ 64 ≡ n + 1 = omega arith in
      let tkt : get_or (set s.words 0 ((n + 1) % 2 ^ 64)) 0 0 ≡ n + 1 = get_or-set_same s.words 0 ((n + 1) % 2 ^ 64) 0 (omega arith) ∙ plus in
      let srv : get_or (set s.words 0 ((n + 1) % 2 ^ 64)) 1 0 ≡ get_or s.words 1 0 = get_or-set_other s.words 0 1 ((n + 1) % 2 ^ 64) 0 (λ e. omega arith) in
      let mine = h.fits id v at in (
        w,
        keeps,
        tt,
        record {
          two_words = length-set s.words 0 ((n + 1) % 2 ^ 64) ∙ h.two_words;
          log = h.log;
          order = omega arith;
          room = omega arith;
          drawn = after s.views id w (λ j u. 0 < u.stage → (get_or (set s.words 0 ((n + 1) % 2 ^ 64)) 1 0 ≤ u.ticket) × (u.ticket < get_or (set s.words 0 ((n + 1) % 2 ^ 64)) 0 0))
              (λ _. (omega arith, omega arith))
              (λ j u ne e busy. let d = h.drawn j u e busy in let d₀ = d.0 in let d₁ = d.1 in (omega arith, omega arith));
          apart = λ j u k x e f. after s.views id w (λ j u. 0 < u.stage → 0 < x.stage → u.ticket ≡ x.ticket → j ≡ k)
              (λ _ busy same. after s.views id w (λ k x. 0 < x.stage → n ≡ x.ticket → id ≡ k) (λ _ _. refl) (λ k x ne g b q. let d = h.drawn k x g b in let d₁ = d.1 in absurd (omega arith)) k x f busy same)
              (λ j u ne e busy. after s.views id w (λ k x. 0 < x.stage → u.ticket ≡ x.ticket → j ≡ k) (λ _ q. let d = h.drawn j u e busy in let d₁ = d.1 in absurd (omega arith)) (λ k x ne g b q. h.apart j u k x e g busy b q) k x f)
              j u e;
          served = after s.views id w (λ j u. u.stage ≡ 2 → u.ticket ≡ get_or (set s.words 0 ((n + 1) % 2 ^ 64)) 1 0) (λ e. absurd (omega arith)) (λ j u ne e is. h.served j u e is ∙ sym srv);
          numbers = numbers_set s.views id v w at (λ _. refl) h.numbers;
          parts = parts_set s.views id v w at refl ∙ h.parts;
          fits = after s.views id w (λ j u. Fits key h.log u)
              record { root = mine.root; known = mine.known; mine = mine.mine; inside = λ e. absurd (omega arith); seated = λ _. seat; heard = mine.heard; part = mine.part; others = mine.others }
              (λ j u ne e. h.fits j u e);
          slot = ⊎_elim
              (λ (f : IsHome root passes key h.log s). inl (after s.views id w (λ j u. u.stage ≢ 2) (λ e. omega arith) (λ j u ne e. f.0 j u e), f.1))
              (λ (o : IsOut root passes s). inr (o.0, o.1, inside_set s.views id v w at out o.0 o.1 o.2 o.3, o.3, o.4))
              h.slot;
        },
        refl,
      )

  stays : (key : R) (seats id : ℕ) (v : View R) (s : State (Option T) (View R)) → IsRuled root passes key seats s → At s.views id v → IsRuled root passes key seats (stepped s 1 (get_or s.words 1 0) id [] v keeps)
  stays key seats id v s h at =
      subst (λ (ws : List ℕ). IsRuled root passes key seats (at_state ws s.homes (set s.views id v))) (sym (set-get_or s.words 1 0))
      (subst (λ (l : List (View R)). IsRuled root passes key seats (at_state s.words s.homes l)) (sym (set_again s.views id v at)) h)

  -- a seat with a ticket looks at the serving word, and goes inside where it finds its ticket
  pub looks : (key : R) (seats id : ℕ) (v : View R) → v.kind ≡ 1 → v.stage ≡ 1
      → Allows (IsRuled root passes key seats) 1 id (v, []) 1 (λ n. n) (λ r m. (r ≡ v.ticket → GoesInside root passes (v, []) m) × (r ≢ v.ticket → m ≡ (v, [])))
  looks key seats id v seat waits s h wide at _ = let n : ℕ = get_or s.words 1 0 in dite (ℕ_discrete n v.ticket)
      (λ hit.
      let home : IsHome root passes key h.log s = ⊎_elim (λ f. f) (λ (o : IsOut root passes s). let two = o.3 in
      let same = h.apart o.0 o.1 id v o.2 at (omega arith) (omega arith) (h.served o.0 o.1 o.2 o.3 ∙ hit) in
      let is : o.1 ≡ v = some-injective o.1 v (sym o.2 ∙ subst (λ (i : ℕ). get_elem? s.views i ≡ some v) (sym same) at) in
      let st = ap (λ (u : View R). u.stage) is in absurd (omega arith)) h.slot in
      let value = home.1.0 in
      let is_log : passes value ≡ h.log = home.1.3 in
      let w = entered v (passes value) in
      let mine = h.fits id v at in
      let kind_some : 0 < v.kind = omega arith in
      let sum : Lefts (set s.views id w) + v.left ≡ Lefts s.views + v.left = total_set (λ u. u.left) s.views id v w at in
      let room : get_or s.words 0 0 + Lefts s.views ≤ 2 ^ 60 = h.room in (
        w,
        takes 0 (Some value),
        home.1.1,
        subst (λ (ws : List ℕ). IsRuled root passes key seats (at_state ws (set s.homes 0 none) (set s.views id w))) (sym (set-get_or s.words 1 0)) record {
          two_words = h.two_words;
          log = h.log;
          order = h.order;
          room = omega arith;
          drawn = after s.views id w (λ j u. 0 < u.stage → (get_or s.words 1 0 ≤ u.ticket) × (u.ticket < get_or s.words 0 0)) (λ _. h.drawn id v at (omega arith)) (λ j u ne e busy. h.drawn j u e busy);
          apart = λ j u k x e f. after s.views id w (λ j u. 0 < u.stage → 0 < x.stage → u.ticket ≡ x.ticket → j ≡ k)
              (λ _ busy same. after s.views id w (λ k x. 0 < x.stage → v.ticket ≡ x.ticket → id ≡ k) (λ _ _. refl) (λ k x ne g b q. h.apart id v k x at g (omega arith) b q) k x f busy same)
              (λ j u ne e busy. after s.views id w (λ k x. 0 < x.stage → u.ticket ≡ x.ticket → j ≡ k) (λ _ q. h.apart j u id v e at busy (omega arith) q) (λ k x ne g b q. h.apart j u k x e g busy b q) k x f)
              j u e;
          served = after s.views id w (λ j u. u.stage ≡ 2 → u.ticket ≡ get_or s.words 1 0) (λ _. sym hit) (λ j u ne e is. h.served j u e is);
          numbers = numbers_set s.views id v w at (λ _. refl) h.numbers;
          parts = parts_set s.views id v w at refl ∙ h.parts;
          fits = after s.views id w (λ j u. Fits key h.log u)
              record { root = mine.root; known = λ _. ([], sym is_log ∙ sym (append-nil (passes value))); mine = mine.mine; inside = λ _. is_log; seated = λ _. seat; heard = mine.heard; part = mine.part; others = mine.others }
              (λ j u ne e. h.fits j u e);
          slot = inr (id, w, set_at s.views id v w at, refl, set_here s.homes 0 none (omega arith));
        },
        (
          (λ _. (
            value,
            refl,
            mine.root kind_some ∙ ap (λ (r : R). Some r) (sym home.1.2),
            subst (λ (l : List Pass). IsPrefix v.known l) (sym is_log) (mine.known kind_some),
            ap (of_number v.number) is_log ∙ mine.mine seat,
          )),
          λ miss. absurd (miss hit),
        ),
      ))
      (λ miss. (v, keeps, tt, stays key seats id v s h at, ((λ hit. absurd (miss hit)), λ _. refl)))

  -- what another view is stays, where the history grows by a turn of a number that it doesn't stand for
  other_fits : (key : R) (n : ℕ) (log new : List Pass) (u : View R) → New n new → u.stage ≢ 2 → (u.kind ≡ 1 → claims n u ≡ 0) → Fits key log u → Fits key (log ++ new) u
  other_fits key n log new u fresh out unclaimed f = record {
    root = f.root;
    known = λ k. grows u.known log new (f.known k);
    mine = λ k. let all : claims n u ≡ 0 = unclaimed k in let is = claims_is n u k in let own : one_if (eqb u.number n) ≡ 0 = omega arith in other_stays n u.number log new fresh (differs u.number n own) ∙ f.mine k;
    inside = λ two. absurd (out two);
    seated = f.seated;
    heard = grows u.heard log new f.heard;
    part = f.part;
    others = λ k. let all : claims n u ≡ 0 = unclaimed k in let is = claims_is n u k in let parts : times_in n u.others ≡ 0 = omega arith in parts_grow key n log new u.others fresh parts (f.others k);
  }

  -- the seat that is inside puts a value of its root back, whose passes are those that it found and at most one more of its own, and serves the next
  pub advances : (key : R) (seats id : ℕ) (v : View R) (value : T) (new : List Pass) → v.kind ≡ 1 → v.stage ≡ 2 → v.root ≡ Some (root value) → New v.number new → passes value ≡ v.known ++ new
      → Allows (IsRuled root passes key seats) 1 id (v, (0, Some value) ∷ []) 1 (λ n. (n + 1) % 2 ^ 64) (λ r m. m ≡ (left_view v (passes value) new, []))
  advances key seats id v value new seat inside_ root_is fresh all s h wide at _ =
      let n : ℕ = get_or s.words 1 0 in
      let t : ℕ = get_or s.words 0 0 in
      let w = left_view v (passes value) new in
      let long : length s.words ≡ 2 = h.two_words in
      let mine = h.fits id v at in
      let kind_some : 0 < v.kind = omega arith in
      let known_is : v.known ≡ h.log = mine.inside inside_ in
      let grown : passes value ≡ h.log ++ new = all ∙ ap (λ (l : List Pass). l ++ new) known_is in
      let here : v.ticket ≡ n = h.served id v at inside_ in
      let d = h.drawn id v at (omega arith) in
      let d₁ : v.ticket < t = d.1 in
      let room : t + Lefts s.views ≤ 2 ^ 60 = h.room in
      let sum : Lefts (set s.views id w) + v.left ≡ Lefts s.views + v.left = total_set (λ u. u.left) s.views id v w at in
      let plus : (n + 1) % 2 ^ 64 ≡ n + 1 = omega arith in
      let srv : get_or (set s.words 1 ((n + 1) % 2 ^ 64)) 1 0 ≡ n + 1 = get_or-set_same s.words 1 ((n + 1) % 2 ^ 64) 0 (omega arith) ∙ plus in
      let tkt : get_or (set s.words 1 ((n + 1) % 2 ^ 64)) 0 0 ≡ t = get_or-set_other s.words 1 0 ((n + 1) % 2 ^ 64) 0 (λ e. omega arith) in
      let only : (j : ℕ) (u : View R) → j ≢ id → At s.views j u → 0 < u.stage → u.ticket ≢ n = λ j u ne e busy q. ne (h.apart j u id v e at busy (omega arith) (q ∙ sym here)) in
      let keyed : Some key ≡ Some (root value) = sym (mine.root kind_some) ∙ root_is in
      let same_root : root value ≡ key = cc in
      let own : claims v.number v ≡ one_if (eqb v.number v.number) + times_in v.number v.others = claims_is v.number v seat in
      let one : one_if (eqb v.number v.number) ≡ 1 = own_counts v.number in
      let once : total (claims v.number) s.views ≤ 1 = h.numbers v.number in
      let here_once : claims v.number v ≤ total (claims v.number) s.views = total_at (claims v.number) s.views id v at in
      let none_else : (j : ℕ) (u : View R) → j ≢ id → At s.views j u → claims v.number u ≡ 0 = λ j u ne e. let both : claims v.number u + claims v.number v ≤ total (claims v.number) s.views = total_two (claims v.number) s.views j id u v ne e at in omega arith in (
        w,
        gives,
        tt,
        record {
          two_words = length-set s.words 1 ((n + 1) % 2 ^ 64) ∙ h.two_words;
          log = passes value;
          order = omega arith;
          room = omega arith;
          drawn = after s.views id w (λ j u. 0 < u.stage → (get_or (set s.words 1 ((n + 1) % 2 ^ 64)) 1 0 ≤ u.ticket) × (u.ticket < get_or (set s.words 1 ((n + 1) % 2 ^ 64)) 0 0))
              (λ busy. absurd (omega arith))
              (λ j u ne e busy. let x = h.drawn j u e busy in let x₀ = x.0 in let x₁ = x.1 in let y = only j u ne e busy in (omega arith, omega arith));
          apart = λ j u k x e f. after s.views id w (λ j u. 0 < u.stage → 0 < x.stage → u.ticket ≡ x.ticket → j ≡ k)
              (λ none. absurd (omega arith))
              (λ j u ne e busy. after s.views id w (λ k x. 0 < x.stage → u.ticket ≡ x.ticket → j ≡ k) (λ none q. absurd (omega arith)) (λ k x ne g b q. h.apart j u k x e g busy b q) k x f)
              j u e;
          served = after s.views id w (λ j u. u.stage ≡ 2 → u.ticket ≡ get_or (set s.words 1 ((n + 1) % 2 ^ 64)) 1 0) (λ e. absurd (omega arith)) (λ j u ne e is. absurd (only j u ne e (omega arith) (h.served j u e is)));
          numbers = numbers_set s.views id v w at (λ _. refl) h.numbers;
          parts = parts_set s.views id v w at refl ∙ h.parts;
          fits = after s.views id w (λ j u. Fits key (passes value) u)
              record {
                root = mine.root;
                known = λ _. ([], sym (append-nil (passes value)));
                mine = λ _. ap (of_number v.number) grown ∙ of_number-append v.number h.log new ∙ ap (λ (l : List Pass). l ++ of_number v.number new) (mine.mine seat) ∙ ap (λ (l : List Pass). v.mine ++ l) (own_new v.number new fresh);
                inside = λ e. absurd (omega arith);
                seated = λ busy. absurd (omega arith);
                heard = subst (λ (l : List Pass). IsPrefix v.heard l) (sym grown) (grows v.heard h.log new mine.heard);
                part = mine.part;
                others = λ k. subst (λ (l : List Pass). AreKnown key l v.others) (sym grown) (parts_grow key v.number h.log new v.others fresh (omega arith) (mine.others k));
              }
              (λ j u ne e. subst (λ (l : List Pass). Fits key l u) (sym grown) (other_fits key v.number h.log new u fresh (λ two. only j u ne e (omega arith) (h.served j u e two)) (λ _. none_else j u ne e) (h.fits j u e)));
          slot = inl (
            after s.views id w (λ j u. u.stage ≢ 2) (λ e. omega arith) (λ j u ne e is. only j u ne e (omega arith) (h.served j u e is)),
            (value, set_here s.homes 0 (some (Some value)) (omega arith), same_root, refl),
          );
        },
        refl,
      )

  -- the rule after a change of views alone, where each view is one that was there or is outside, and whoever is inside stays
  still : (key : R) (seats : ℕ) (s : State (Option T) (View R)) (h : IsRuled root passes key seats s) (vs : List (View R))
      → Lefts vs ≤ Lefts s.views → ((n : ℕ) → total (claims n) vs ≤ total (claims n) s.views) → Parts vs ≡ Parts s.views
      → ((j : ℕ) (u : View R) → At vs j u → At s.views j u ⊎ ((u.stage ≡ 0) × Fits key h.log u))
      → ((j : ℕ) (u : View R) → At s.views j u → u.stage ≡ 2 → At vs j u)
      → IsRuled root passes key seats (at_state s.words s.homes vs)
  still key seats s h vs lefts counts same each inside_ =
      let was : (j : ℕ) (u : View R) → At vs j u → 0 < u.stage → At s.views j u = λ j u e busy. ⊎_elim (λ (w : At s.views j u). w) (λ (q : (u.stage ≡ 0) × Fits key h.log u). let out = q.0 in absurd (omega arith)) (each j u e) in
      let room : get_or s.words 0 0 + Lefts s.views ≤ 2 ^ 60 = h.room in
      record {
        two_words = h.two_words;
        log = h.log;
        order = h.order;
        room = omega arith;
        drawn = λ j u e busy. h.drawn j u (was j u e busy) busy;
        apart = λ j u k x e f b c q. h.apart j u k x (was j u e b) (was k x f c) b c q;
        served = λ j u e two. h.served j u (was j u e (omega arith)) two;
        numbers = λ n. let less : total (claims n) vs ≤ total (claims n) s.views = counts n in let once : total (claims n) s.views ≤ 1 = h.numbers n in omega arith;
        parts = same ∙ h.parts;
        fits = λ j u e. ⊎_elim (λ (w : At s.views j u). h.fits j u w) (λ (q : (u.stage ≡ 0) × Fits key h.log u). q.1) (each j u e);
        slot = ⊎_elim
            (λ (f : IsHome root passes key h.log s). inl ((λ j u e two. f.0 j u (was j u e (omega arith)) two), f.1))
            (λ (o : IsOut root passes s). inr (o.0, o.1, inside_ o.0 o.1 o.2 o.3, o.3, o.4))
            h.slot;
      }

  spent_fits : (key : R) (log : List Pass) → Fits key log spent
  spent_fits key log = record {
    root = λ k. absurd (omega arith);
    known = λ k. absurd (omega arith);
    mine = λ k. absurd (omega arith);
    inside = λ k. absurd (omega arith);
    seated = λ k. absurd (omega arith);
    heard = (log, refl);
    part = λ k. absurd (omega arith);
    others = λ k. absurd (omega arith);
  }

  -- the first seat gives the first of the others its number
  pub deals : (key : R) (seats id : ℕ) (w : View R) (p : Part R) (ps : List (Part R)) → w.kind ≡ 1 → w.stage ≡ 0 → 1 < w.parts → 2 ^ 56 ≤ w.left
      → Splits (IsRuled root passes key seats) id (record w { others = p ∷ ps }) (dealer (record w { others = p ∷ ps })) (dealt (record w { others = p ∷ ps }))
  deals key seats id w p ps seat out parts left s h at =
      let v : View R = record w { others = p ∷ ps } in
      let a : View R = dealer v in
      let b : View R = dealt v in
      let mine = h.fits id v at in
      let known = mine.others seat in
      let lefts : Lefts (set s.views id a) + w.left ≡ Lefts s.views + (w.left - 2 ^ 56) = total_set (λ u. u.left) s.views id v a at in
      let lefts' : Lefts (set s.views id a ++ b ∷ []) ≡ Lefts (set s.views id a) + 2 ^ 56 = total_snoc (λ u. u.left) (set s.views id a) b in
      let all : Parts (set s.views id a) + w.parts ≡ Parts s.views + (w.parts - 1) = total_set (λ u. u.parts) s.views id v a at in
      let all' : Parts (set s.views id a ++ b ∷ []) ≡ Parts (set s.views id a) + 1 = total_snoc (λ u. u.parts) (set s.views id a) b in
      still key seats s h (set s.views id a ++ b ∷ []) (omega arith)
      (λ n.
      let sum : total (claims n) (set s.views id a) + claims n v ≡ total (claims n) s.views + claims n a = total_set (claims n) s.views id v a at in
      let sum' : total (claims n) (set s.views id a ++ b ∷ []) ≡ total (claims n) (set s.views id a) + claims n b = total_snoc (claims n) (set s.views id a) b in
      let was : claims n v ≡ one_if (eqb w.number n) + (one_if (eqb p.number n) + times_in n ps) = claims_is n v seat in
      let is : claims n a ≡ one_if (eqb w.number n) + times_in n ps = claims_is n a seat in
      let new : claims n b ≡ one_if (eqb p.number n) + 0 = refl in omega arith)
      (omega arith)
      (λ j u e. ⊎_elim
      (λ (was : At (set s.views id a) j u). each_set s.views id a (λ x. (x.stage ≡ 0) × Fits key h.log x)
      (out, record { root = mine.root; known = mine.known; mine = mine.mine; inside = mine.inside; seated = mine.seated; heard = mine.heard; part = λ _. omega arith; others = λ _. known.1 }) j u was)
      (λ (q : (u.stage ≡ 0) × Fits key h.log u). inr q)
      (each_snoc (set s.views id a) b (λ x. (x.stage ≡ 0) × Fits key h.log x)
      (refl, record { root = λ _. known.0.0; known = λ _. known.0.1; mine = λ _. known.0.2; inside = λ e. absurd (omega arith); seated = λ busy. absurd (omega arith); heard = (h.log, refl); part = λ _. omega arith; others = λ _. tt }) j u e))
      (λ j u e two. at_longer (set s.views id a) (b ∷ []) j u (inside_set s.views id v a at out j u e two))

  -- a seat takes in another for good
  pub gathers_in : (key : R) (seats id : ℕ) (v : View R) (other : ℕ) (w : View R) → v.kind ≡ 1 → v.stage ≡ 0 → w.kind ≡ 1 → w.stage ≡ 0 → Joins (IsRuled root passes key seats) id v other w (gathers v w) spent
  gathers_in key seats id v other w seat out seat_too out_too s h at ne there =
      let a : View R = gathers v w in
      let mine = h.fits id v at in
      let was_there : At s.views other w = ⊎_elim (λ (t : (other ≡ id) × (a ≡ w)). absurd (ne t.0)) (λ (t : (¬ (other ≡ id)) × (get_elem? s.views other ≡ some w)). t.1) (at_set s.views id other a w there) in
      let theirs = h.fits other w was_there in
      let lefts : Lefts (set s.views id a) + v.left ≡ Lefts s.views + v.left = total_set (λ u. u.left) s.views id v a at in
      let lefts' : Lefts (set (set s.views id a) other spent) + w.left ≡ Lefts (set s.views id a) + 0 = total_set (λ u. u.left) (set s.views id a) other w spent there in
      let all : Parts (set s.views id a) + v.parts ≡ Parts s.views + (v.parts + w.parts) = total_set (λ u. u.parts) s.views id v a at in
      let all' : Parts (set (set s.views id a) other spent) + w.parts ≡ Parts (set s.views id a) + 0 = total_set (λ u. u.parts) (set s.views id a) other w spent there in
      still key seats s h (set (set s.views id a) other spent) (omega arith)
      (λ n.
      let sum : total (claims n) (set s.views id a) + claims n v ≡ total (claims n) s.views + claims n a = total_set (claims n) s.views id v a at in
      let sum' : total (claims n) (set (set s.views id a) other spent) + claims n w ≡ total (claims n) (set s.views id a) + 0 = total_set (claims n) (set s.views id a) other w spent there in
      let was : claims n v ≡ one_if (eqb v.number n) + times_in n v.others = claims_is n v seat in
      let theirs : claims n w ≡ one_if (eqb w.number n) + times_in n w.others = claims_is n w seat_too in
      let is : claims n a ≡ one_if (eqb v.number n) + (one_if (eqb w.number n) + times_in n v.others) = claims_is n a seat in omega arith)
      (omega arith)
      (λ j u e. ⊎_elim
      (λ (was : At (set s.views id a) j u). each_set s.views id a (λ x. (x.stage ≡ 0) × Fits key h.log x)
      (out, record { root = mine.root; known = mine.known; mine = mine.mine; inside = mine.inside; seated = mine.seated; heard = mine.heard; part = λ k. let some_part = mine.part k in omega arith; others = λ k. ((theirs.root (omega arith), theirs.known (omega arith), theirs.mine seat_too), mine.others k) }) j u was)
      (λ (q : (u.stage ≡ 0) × Fits key h.log u). inr q)
      (each_set (set s.views id a) other spent (λ x. (x.stage ≡ 0) × Fits key h.log x) (refl, spent_fits key h.log) j u e))
      (λ j u e two. inside_set (set s.views id a) other w spent there out_too j u (inside_set s.views id v a at out j u e two) two)

  -- a seat gives a note of what it knows
  pub notes : (key : R) (seats id : ℕ) (v : View R) → v.kind ≡ 1 → Splits (IsRuled root passes key seats) id v v (note_of v)
  notes key seats id v seat s h at =
      let b : View R = note_of v in
      let mine = h.fits id v at in
      let kind_some : 0 < v.kind = omega arith in
      let lefts : Lefts (s.views ++ b ∷ []) ≡ Lefts s.views + 0 = total_snoc (λ u. u.left) s.views b in
      let all : Parts (s.views ++ b ∷ []) ≡ Parts s.views + 0 = total_snoc (λ u. u.parts) s.views b in
      subst (λ (l : List (View R)). IsRuled root passes key seats (at_state s.words s.homes (l ++ b ∷ []))) (sym (set_again s.views id v at))
      (still key seats s h (s.views ++ b ∷ []) (omega arith)
      (λ n. let sum : total (claims n) (s.views ++ b ∷ []) ≡ total (claims n) s.views + 0 = total_snoc (claims n) s.views b in omega arith)
      (omega arith)
      (λ j u e. each_snoc s.views b (λ x. (x.stage ≡ 0) × Fits key h.log x)
      (refl, record { root = λ _. mine.root kind_some; known = λ _. mine.known kind_some; mine = λ k. absurd (omega arith); inside = λ k. absurd (omega arith); seated = λ k. absurd (omega arith); heard = (h.log, refl); part = λ k. absurd (omega arith); others = λ k. absurd (omega arith) }) j u e)
      (λ j u e two. at_longer s.views (b ∷ []) j u e))

  -- a seat takes a note in
  pub joins : (key : R) (seats id : ℕ) (v : View R) (other : ℕ) (w : View R) → v.kind ≡ 1 → v.stage ≡ 0 → w.kind ≡ 2 → w.stage ≡ 0 → w.parts ≡ 0 → Joins (IsRuled root passes key seats) id v other w (hears v w) spent
  joins key seats id v other w seat out note out_too no_part s h at ne there =
      let a : View R = hears v w in
      let mine = h.fits id v at in
      let was_there : At s.views other w = ⊎_elim (λ (t : (other ≡ id) × (a ≡ w)). absurd (ne t.0)) (λ (t : (¬ (other ≡ id)) × (get_elem? s.views other ≡ some w)). t.1) (at_set s.views id other a w there) in
      let theirs = h.fits other w was_there in
      let lefts : Lefts (set s.views id a) + v.left ≡ Lefts s.views + v.left = total_set (λ u. u.left) s.views id v a at in
      let lefts' : Lefts (set (set s.views id a) other spent) + w.left ≡ Lefts (set s.views id a) + 0 = total_set (λ u. u.left) (set s.views id a) other w spent there in
      let all : Parts (set s.views id a) + v.parts ≡ Parts s.views + v.parts = total_set (λ u. u.parts) s.views id v a at in
      let all' : Parts (set (set s.views id a) other spent) + w.parts ≡ Parts (set s.views id a) + 0 = total_set (λ u. u.parts) (set s.views id a) other w spent there in
      still key seats s h (set (set s.views id a) other spent) (omega arith)
      (λ n.
      let sum : total (claims n) (set s.views id a) + claims n v ≡ total (claims n) s.views + claims n v = total_set (claims n) s.views id v a at in
      let sum' : total (claims n) (set (set s.views id a) other spent) + claims n w ≡ total (claims n) (set s.views id a) + 0 = total_set (claims n) (set s.views id a) other w spent there in omega arith)
      (omega arith)
      (λ j u e. ⊎_elim
      (λ (was : At (set s.views id a) j u). each_set s.views id a (λ x. (x.stage ≡ 0) × Fits key h.log x)
      (out, record { root = mine.root; known = mine.known; mine = mine.mine; inside = mine.inside; seated = mine.seated; heard = theirs.known (omega arith); part = mine.part; others = mine.others }) j u was)
      (λ (q : (u.stage ≡ 0) × Fits key h.log u). inr q)
      (each_set (set s.views id a) other spent (λ x. (x.stage ≡ 0) × Fits key h.log x) (refl, spent_fits key h.log) j u e))
      (λ j u e two. inside_set (set s.views id a) other w spent there out_too j u (inside_set s.views id v a at out j u e two) two)

  -- and knows the longer of two histories
  learns : (key : R) (seats id : ℕ) (v : View R) (known : List Pass) (s : State (Option T) (View R)) (h : IsRuled root passes key seats s) → v.kind ≡ 1 → v.stage ≡ 0 → At s.views id v → IsPrefix known h.log
      → IsRuled root passes key seats (stepped s 1 (get_or s.words 1 0) id [] (record v { known = known; heard = [] }) keeps)
  learns key seats id v known s h seat out at front =
      let a : View R = record v { known = known; heard = [] } in
      let mine = h.fits id v at in
      let lefts : Lefts (set s.views id a) + v.left ≡ Lefts s.views + v.left = total_set (λ u. u.left) s.views id v a at in
      subst (λ (ws : List ℕ). IsRuled root passes key seats (at_state ws s.homes (set s.views id a))) (sym (set-get_or s.words 1 0))
      (still key seats s h (set s.views id a) (omega arith)
      (λ n. let sum : total (claims n) (set s.views id a) + claims n v ≡ total (claims n) s.views + claims n v = total_set (claims n) s.views id v a at in omega arith)
      (parts_set s.views id v a at refl)
      (each_set s.views id a (λ x. (x.stage ≡ 0) × Fits key h.log x)
      (out, record { root = mine.root; known = λ _. front; mine = mine.mine; inside = λ two. absurd (omega arith); seated = mine.seated; heard = (h.log, refl); part = mine.part; others = mine.others }))
      (inside_set s.views id v a at out))

  pub compares : (key : R) (seats id : ℕ) (v : View R) → v.kind ≡ 1 → v.stage ≡ 0 → Allows (IsRuled root passes key seats) 1 id (v, []) 1 (λ n. n) (λ r m. Compared v m.0 × (m.1 ≡ []))
  compares key seats id v seat out s h wide at _ =
      let mine = h.fits id v at in
      let known : IsPrefix v.known h.log = mine.known (omega arith) in
      ⊎_elim
      (λ (p : IsPrefix v.known v.heard). (record v { known = v.heard; heard = [] }, keeps, tt, learns key seats id v v.heard s h seat out at mine.heard, ((refl, inl (p, refl)), refl)))
      (λ (p : IsPrefix v.heard v.known). (record v { heard = [] }, keeps, tt, learns key seats id v v.known s h seat out at known, ((refl, inr (p, refl)), refl)))
      (comparable v.known v.heard h.log known mine.heard)

  -- a lock whose seats are all in one, which is outside, has its value at home
  pub closes : (key : R) (seats id : ℕ) (v : View R) (ws : List ℕ) (xs : List (Option T)) → v.stage ≡ 0 → v.parts ≡ seats → Final (Seen (IsRuled root passes key seats) id v) ws xs
      → (value : T) × (get_elem? xs 0 ≡ some (Some value)) × (root value ≡ key) × Fits key (passes value) v
  closes key seats id v ws xs out whole f =
      let s = f.0 in let h = f.1.0 in let at = f.1.1 in
      let home : IsHome root passes key h.log s = ⊎_elim (λ (q : IsHome root passes key h.log s). q) (λ (o : IsOut root passes s).
      let two = o.3 in
      let fits = h.fits o.0 o.1 o.2 in
      let some_part : 0 < o.1.parts = fits.part (fits.seated (omega arith)) in
      let all : Parts s.views ≡ seats = h.parts in
      dite (ℕ_discrete o.0 id)
      (λ (same : o.0 ≡ id). let is : o.1 ≡ v = some-injective o.1 v (sym o.2 ∙ subst (λ (i : ℕ). get_elem? s.views i ≡ some v) (sym same) at) in let st : o.1.stage ≡ v.stage = ap (λ (u : View R). u.stage) is in absurd (omega arith))
      (λ (ne : o.0 ≢ id). let both : o.1.parts + v.parts ≤ Parts s.views = total_two (λ u. u.parts) s.views o.0 id o.1 v ne o.2 at in absurd (omega arith))) h.slot in
      (home.1.0, f.4 0 (Some home.1.0) home.1.1, home.1.2, subst (λ (l : List Pass). Fits key l v) (sym home.1.3) (h.fits id v at))

  -- ---- the steps, at a seat that is known by equations

  pub draws_as : (key : R) (seats id n : ℕ) (m : Me (Option T) (View R)) → n ≡ 1 → m.1 ≡ [] → m.0.kind ≡ 1 → m.0.stage ≡ 0 → 0 < m.0.left
      → Allows (IsRuled root passes key seats) n id m 0 (λ k. (k + 1) % 2 ^ 64) (λ r x. x ≡ (drew m.0 r, []))
  draws_as key seats id n m one e a b c =
      subst (λ (k : ℕ). Allows (IsRuled root passes key seats) k id m 0 (λ k. (k + 1) % 2 ^ 64) (λ r x. x ≡ (drew m.0 r, []))) (sym one)
      (subst (λ (y : Me (Option T) (View R)). Allows (IsRuled root passes key seats) 1 id y 0 (λ k. (k + 1) % 2 ^ 64) (λ r x. x ≡ (drew y.0 r, []))) (λ i. (m.0, sym e i)) (draws key seats id m.0 a b c))

  pub looks_as : (key : R) (seats id n : ℕ) (m : Me (Option T) (View R)) → n ≡ 1 → m.1 ≡ [] → m.0.kind ≡ 1 → m.0.stage ≡ 1
      → Allows (IsRuled root passes key seats) n id m 1 (λ k. k) (λ r x. (r ≡ m.0.ticket → GoesInside root passes m x) × (r ≢ m.0.ticket → x ≡ m))
  looks_as key seats id n m one e a b =
      subst (λ (k : ℕ). Allows (IsRuled root passes key seats) k id m 1 (λ k. k) (λ r x. (r ≡ m.0.ticket → GoesInside root passes m x) × (r ≢ m.0.ticket → x ≡ m))) (sym one)
      (subst (λ (y : Me (Option T) (View R)). Allows (IsRuled root passes key seats) 1 id y 1 (λ k. k) (λ r x. (r ≡ y.0.ticket → GoesInside root passes y x) × (r ≢ y.0.ticket → x ≡ y))) (λ i. (m.0, sym e i)) (looks key seats id m.0 a b))

  abbrev head_value : Option T → List (ℕ × Option T) → Option T
  head_value d [] = d
  head_value d (x ∷ xs) = x.1

  pub advances_as : (key : R) (seats id n : ℕ) (m : Me (Option T) (View R)) (v : View R) (value : T) (more : List (ℕ × Option T)) (new : List Pass) → n ≡ 1 → m ≡ (v, (0, Some value) ∷ more) → more ≡ [] → v.kind ≡ 1 → v.stage ≡ 2
      → v.root ≡ Some (root value) → New v.number new → passes value ≡ v.known ++ new
      → Allows (IsRuled root passes key seats) n id m 1 (λ k. (k + 1) % 2 ^ 64) (λ r x. (y : T) → m.1 ≡ (0, Some y) ∷ [] → x ≡ (after_turn m.0 (passes y), []))
  advances_as key seats id n m v value more new one e none_more a b c d all =
      let now : m ≡ (v, (0, Some value) ∷ []) = e ∙ ap (λ (l : List (ℕ × Option T)). (v, (0, Some value) ∷ l)) none_more in
      subst (λ (k : ℕ). Allows (IsRuled root passes key seats) k id m 1 (λ k. (k + 1) % 2 ^ 64) (λ r x. (y : T) → m.1 ≡ (0, Some y) ∷ [] → x ≡ (after_turn m.0 (passes y), []))) (sym one)
      (subst (λ (z : Me (Option T) (View R)). Allows (IsRuled root passes key seats) 1 id z 1 (λ k. (k + 1) % 2 ^ 64) (λ r x. (y : T) → z.1 ≡ (0, Some y) ∷ [] → x ≡ (after_turn z.0 (passes y), []))) (sym now)
      (λ s h wide at small. let q = advances key seats id v value new a b c d all s h wide at small in (
        q.0,
        q.1,
        q.2,
        q.3,
        λ y is. let held : Some value ≡ Some y = ap (λ (l : List (ℕ × Option T)). head_value (Some value) l) is in let same : value ≡ y = cc in
            q.4 ∙ ap (λ (z : View R × List (ℕ × Option T)). z) (λ i. (left_view v (passes (same i)) (tail_is y same i), [])),
      ))
      )
    where
      tail_is : (y : T) → value ≡ y → new ≡ drop (length v.known) (passes y)
      tail_is y same = sym (ap (λ (z : T). drop (length v.known) (passes z)) (sym same) ∙ ap (λ (l : List Pass). drop (length v.known) l) all ∙ drop-append_seam v.known new)

  pub joins_as : (key : R) (seats id : ℕ) (v : View R) (other : ℕ) (w u : View R) → v.kind ≡ 1 → v.stage ≡ 0 → w ≡ note_of u → Joins (IsRuled root passes key seats) id v other w (hears v w) spent
  joins_as key seats id v other w u seat out is = joins key seats id v other w seat out (ap (λ (x : View R). x.kind) is) (ap (λ (x : View R). x.stage) is) (ap (λ (x : View R). x.parts) is)

  pub compares_as : (key : R) (seats id n : ℕ) (m : Me (Option T) (View R)) (v : View R) → n ≡ 1 → m ≡ (v, []) → v.kind ≡ 1 → v.stage ≡ 0 → Allows (IsRuled root passes key seats) n id m 1 (λ k. k) (λ r x. Compared m.0 x.0 × (x.1 ≡ []))
  compares_as key seats id n m v one e a b =
      subst (λ (k : ℕ). Allows (IsRuled root passes key seats) k id m 1 (λ k. k) (λ r x. Compared m.0 x.0 × (x.1 ≡ []))) (sym one)
      (subst (λ (y : Me (Option T) (View R)). Allows (IsRuled root passes key seats) 1 id y 1 (λ k. k) (λ r x. Compared y.0 x.0 × (x.1 ≡ []))) (sym e) (compares key seats id v a b))

  pub deals_as : (key : R) (seats id : ℕ) (v : View R) (r : Option R) (last first others less : ℕ) → v ≡ making r last first others → others ≡ suc less → Splits (IsRuled root passes key seats) id v (dealer v) (dealt v)
  deals_as key seats id v r last first others less is some_left =
      let now : v ≡ making r last first (suc less) = is ∙ ap (λ (k : ℕ). making r last first k) some_left in
      subst (λ (u : View R). Splits (IsRuled root passes key seats) id u (dealer u) (dealt u)) (sym now)
      (deals key seats id (making r last first (suc less)) (fresh r first) (fresh_from r (suc first) less) refl refl (omega arith) (omega arith))
