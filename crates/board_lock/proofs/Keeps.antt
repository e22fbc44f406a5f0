-- Each step of the lock keeps its rule.
use Rattle.board_lock.proofs.Common.{◌≡◌, ◌≢◌, ℕ, zero, suc, eqb, List, [], ◌∷◌, ◌++◌, length, get_or, set, sym, refl, ap, ◌∙◌, subst, inl, inr, ⊎_elim, arith, Option, Some, None, length-set, get_or-set_same, State, Me, Act, keeps, takes, gives, Valid, carried_after, stepped, opening, Allows, Splits, Seen, Final}
use mathlib.Core.Logic.{dite}
use mathlib.Core.Option.{some, none, some-injective, some-ne-none}
use native.Mathlib.Decide.{ℕ_discrete}
use lib.ListN.{get_elem?}
use lib.Seq.{set-get_or}
use prog.Atomic.{either}
use Rattle.atomic_table.specs.Table.{step}
use Rattle.atomic_table.proofs.Lists.{at_set, at_snoc, set_again, set_here, at_longer, exchanged}
use Rattle.board_lock.specs.declared.view.View.{View}
use Rattle.board_lock.specs.Locking.{outside, inside, retired, AllOutside, OneAt, Guarded, IsFree, IsTaken, IsRetired, Tried}

set_at : {A : Type 0} (l : List A) (i : ℕ) (a b : A) → get_elem? l i ≡ some a → get_elem? (set l i b) i ≡ some b
set_at [] i a b e = absurd (some-ne-none a (sym e))
set_at (x ∷ xs) zero a b e = refl
set_at (x ∷ xs) (suc i) a b e = set_at xs i a b e

module _ {R : Type 0} where
  -- a view that is not outside is the one
  who : (seat k id : ℕ) (views : List (View R)) (v : View R) → OneAt seat k views → get_elem? views id ≡ some v → v.stage ≢ 0 → id ≡ seat
  who seat k id views v o at busy = dite (ℕ_discrete id seat) (λ e. e) (λ ne. absurd (busy (o.1 id v at ne)))

  -- and has the stage of the one
  stage_is : (seat k id : ℕ) (views : List (View R)) (v : View R) → OneAt seat k views → get_elem? views id ≡ some v → v.stage ≢ 0 → v.stage ≡ k
  stage_is seat k id views v o at busy =
      let same : id ≡ seat = who seat k id views v o at busy in
      let there : get_elem? views seat ≡ some v = subst (λ (i : ℕ). get_elem? views i ≡ some v) same at in
      ap (λ (u : View R). u.stage) (some-injective v o.0.0 (sym there ∙ o.0.1)) ∙ o.0.2

  one_snoc : (seat k : ℕ) (views : List (View R)) (v : View R) → v.stage ≡ 0 → OneAt seat k views → OneAt seat k (views ++ v ∷ [])
  one_snoc seat k views v out o = (
    (o.0.0, at_longer views (v ∷ []) seat o.0.0 o.0.1, o.0.2),
    λ i w e ne. ⊎_elim (λ was. o.1 i w was ne) (λ (same : v ≡ w). subst (λ (u : View R). u.stage ≡ 0) same out) (at_snoc views v w i e),
  )

  -- the one goes on to another stage
  one_set : (seat k id : ℕ) (views : List (View R)) (v w : View R) → OneAt seat k views → get_elem? views id ≡ some v → id ≡ seat → OneAt id w.stage (set views id w)
  one_set seat k id views v w o at same = (
    (w, set_at views id v w at, refl),
    λ i u e ne. ⊎_elim (λ (t : (i ≡ id) × (w ≡ u)). absurd (ne t.0)) (λ (t : (i ≢ id) × (get_elem? views i ≡ some u)). o.1 i u t.1 (λ q. ne (q ∙ sym same))) (at_set views id i w u e),
  )

  -- the first goes inside
  one_first : (id : ℕ) (views : List (View R)) (v w : View R) → AllOutside views → get_elem? views id ≡ some v → OneAt id w.stage (set views id w)
  one_first id views v w o at = (
    (w, set_at views id v w at, refl),
    λ i u e ne. ⊎_elim (λ (t : (i ≡ id) × (w ≡ u)). absurd (ne t.0)) (λ (t : (i ≢ id) × (get_elem? views i ≡ some u)). o i u t.1) (at_set views id i w u e),
  )

  -- the one goes outside
  none_left : (seat k id : ℕ) (views : List (View R)) (v w : View R) → OneAt seat k views → get_elem? views id ≡ some v → id ≡ seat → w.stage ≡ 0 → AllOutside (set views id w)
  none_left seat k id views v w o at same out i u e =
      ⊎_elim (λ (t : (i ≡ id) × (w ≡ u)). subst (λ (x : View R). x.stage ≡ 0) t.1 out) (λ (t : (i ≢ id) × (get_elem? views i ≡ some u)). o.1 i u t.1 (λ q. t.0 (q ∙ sym same))) (at_set views id i w u e)

  roots_set : (key : R) (id : ℕ) (views : List (View R)) (w : View R) → ((i : ℕ) (v : View R) → get_elem? views i ≡ some v → v.root ≡ key) → w.root ≡ key
      → (i : ℕ) (v : View R) → get_elem? (set views id w) i ≡ some v → v.root ≡ key
  roots_set key id views w r h i u e =
      ⊎_elim (λ (t : (i ≡ id) × (w ≡ u)). subst (λ (x : View R). x.root ≡ key) t.1 h) (λ (t : (i ≢ id) × (get_elem? views i ≡ some u)). r i u t.1) (at_set views id i w u e)

  first_view : (w : View R) (i : ℕ) (v : View R) → get_elem? (w ∷ []) i ≡ some v → w ≡ v
  first_view w zero v e = some-injective w v e
  first_view w (suc i) v e = absurd (some-ne-none v (sym e))

module _ {R T : Type 0} (root : T → R) where
  abbrev St : Type 0
  St = State (Option T) (View R)

  abbrev at_state : List ℕ → List (mathlib.Core.Option.Option (Option T)) → List (View R) → St
  at_state ws hs vs = record { words = ws; homes = hs; views = vs }

  -- the start
  pub opens : (r : R) (value : T) → root value ≡ r → Guarded root r (opening (0 ∷ []) (Some value ∷ []) (outside r))
  opens r value e = record {
    one_word = refl;
    roots = λ i v at. ap (λ (x : View R). x.root) (sym (first_view (outside r) i v at));
    state = inl (refl, (λ i v at. ap (λ (x : View R). x.stage) (sym (first_view (outside r) i v at))), (value, refl, e));
  }

  -- a seat that is outside may be copied
  pub splits : (key : R) (id : ℕ) (v : View R) → v.stage ≡ 0 → Splits (Guarded root key) id v v v
  splits key id v out s g at = subst (λ (l : List (View R)). Guarded root key (at_state s.words s.homes (l ++ v ∷ []))) (sym (set_again s.views id v at)) record {
    one_word = g.one_word;
    roots = λ i w e. ⊎_elim (λ was. g.roots i w was) (λ (same : v ≡ w). subst (λ (u : View R). u.root ≡ key) same (g.roots id v at)) (at_snoc s.views v w i e);
    state = ⊎_elim
        (λ (f : IsFree root key s). inl (f.0, (λ i w e. ⊎_elim (λ was. f.1 i w was) (λ (same : v ≡ w). subst (λ (u : View R). u.stage ≡ 0) same out) (at_snoc s.views v w i e)), f.2))
        (λ rest. inr (⊎_elim
        (λ (t : IsTaken root s). inl (t.0, (t.1.0, one_snoc t.1.0 1 s.views v out t.1.1), t.2))
        (λ (t : IsRetired root s). inr (t.0, (t.1.0, one_snoc t.1.0 2 s.views v out t.1.1), t.2)) rest))
        g.state;
  }

  -- a step that changes nothing
  stays : (key : R) (id : ℕ) (v : View R) (s : St) → Guarded root key s → get_elem? s.views id ≡ some v → Guarded root key (stepped s 0 (get_or s.words 0 0) id [] v keeps)
  stays key id v s g at =
      subst (λ (ws : List ℕ). Guarded root key (at_state ws s.homes (set s.views id v))) (sym (set-get_or s.words 0 0))
      (subst (λ (l : List (View R)). Guarded root key (at_state s.words s.homes l)) (sym (set_again s.views id v at)) g)

  -- a seat that is outside may try the word
  pub tries : (key : R) (id : ℕ) (v : View R) → v.stage ≡ 0
      → Allows (Guarded root key) 1 id (v, []) 0 (λ n. either (eqb n 0) 1 n) (Tried root (step 1 0 0 1 none) (v, []))
  tries key id v out s g wide at _ =
      let n : ℕ = get_or s.words 0 0 in
      let long : length s.words ≡ 1 = g.one_word in
      let F : ℕ → Type 0 = λ m. (w : View R) × (a : Act (Option T)) × Valid s.homes [] a × Guarded root key (stepped s 0 m id [] w a) × Tried root (step 1 0 0 1 none) (v, []) n (w, carried_after [] a) in
      let free : n ≡ 0 → IsFree root key s = λ hit. ⊎_elim (λ f. f) (λ rest. ⊎_elim (λ (t : IsTaken root s). let one = t.0 in absurd (omega arith)) (λ (t : IsRetired root s). let one = t.0 in absurd (omega arith)) rest) g.state in
      exchanged n 0 1 F
      (λ hit. let f = free hit in let mine = g.roots id v at in (
        inside v.root,
        takes 0 (Some f.2.0),
        f.2.1,
        record {
          one_word = length-set s.words 0 1 ∙ g.one_word;
          roots = roots_set key id s.views (inside v.root) g.roots mine;
          state = inr (inl (get_or-set_same s.words 0 1 0 (omega arith), (id, one_first id s.views v (inside v.root) f.1 at), set_here s.homes 0 none (omega arith)));
        },
        ((λ _. (refl, (f.2.0, refl, f.2.2 ∙ sym mine))), λ miss. absurd (miss hit)),
      ))
      (λ miss. (v, keeps, tt, stays key id v s g at, ((λ hit. absurd (miss hit)), λ _. refl)))

  -- where the seat is inside, the lock is taken by it
  taken : (key : R) (id : ℕ) (v : View R) (s : St) → Guarded root key s → get_elem? s.views id ≡ some v → v.stage ≡ 1 → (seat : ℕ) × OneAt seat 1 s.views × (id ≡ seat)
  taken key id v s g at is =
      let busy : v.stage ≢ 0 = λ e. omega arith in
      ⊎_elim
      (λ (f : IsFree root key s). absurd (busy (f.1 id v at)))
      (λ rest. ⊎_elim
      (λ (t : IsTaken root s). (t.1.0, t.1.1, who t.1.0 1 id s.views v t.1.1 at busy))
      (λ (t : IsRetired root s). let two = stage_is t.1.0 2 id s.views v t.1.1 at busy in absurd (omega arith)) rest)
      g.state

  -- the seat that is inside frees the word, with a value of its root in the slot
  pub frees : (key : R) (id : ℕ) (v : View R) (value : T) → v.stage ≡ 1 → root value ≡ v.root
      → Allows (Guarded root key) 1 id (v, (0, Some value) ∷ []) 0 (λ _. 0) (λ _ n. n ≡ (outside v.root, []))
  frees key id v value is e s g wide at _ =
      let t = taken key id v s g at is in let mine = g.roots id v at in let long : length s.words ≡ 1 = g.one_word in (
        outside v.root,
        gives,
        tt,
        record {
          one_word = length-set s.words 0 0 ∙ g.one_word;
          roots = roots_set key id s.views (outside v.root) g.roots mine;
          state = inl (get_or-set_same s.words 0 0 0 (omega arith), none_left t.0 1 id s.views v (outside v.root) t.1 at t.2 refl, (value, set_here s.homes 0 (some (Some value)) (omega arith), e ∙ mine));
        },
        refl,
      )

  -- or retires the lock, with nothing in the slot
  pub retires : (key : R) (id : ℕ) (v : View R) → v.stage ≡ 1
      → Allows (Guarded root key) 1 id (v, (0, None) ∷ []) 0 (λ _. 1) (λ _ n. n ≡ (retired v.root, []))
  retires key id v is s g wide at _ =
      let t = taken key id v s g at is in let mine = g.roots id v at in let long : length s.words ≡ 1 = g.one_word in (
        retired v.root,
        gives,
        tt,
        record {
          one_word = length-set s.words 0 1 ∙ g.one_word;
          roots = roots_set key id s.views (retired v.root) g.roots mine;
          state = inr (inr (get_or-set_same s.words 0 1 0 (omega arith), (id, one_set t.0 1 id s.views v (retired v.root) t.1 at t.2), set_here s.homes 0 (some None) (omega arith)));
        },
        refl,
      )

  -- the slot of a retired lock is empty
  pub ends : (key : R) (id : ℕ) (v : View R) (ws : List ℕ) (xs : List (Option T)) → v.stage ≡ 2 → Final (Seen (Guarded root key) id v) ws xs → get_elem? xs 0 ≡ some None
  ends key id v ws xs done f =
      let s = f.0 in let at = f.1.1 in
      let busy : v.stage ≢ 0 = λ e. omega arith in
      ⊎_elim
      (λ (q : IsFree root key s). absurd (busy (q.1 id v at)))
      (λ rest. ⊎_elim
      (λ (t : IsTaken root s). let one = stage_is t.1.0 1 id s.views v t.1.1 at busy in absurd (omega arith))
      (λ (t : IsRetired root s). f.4 0 None t.2) rest)
      f.1.0.state

  -- the steps, at a seat that is known by equations
  pub tries_as : (key : R) (id n : ℕ) (m : Me (Option T) (View R)) → n ≡ 1 → m.1 ≡ [] → m.0.stage ≡ 0
      → Allows (Guarded root key) n id m 0 (λ k. either (eqb k 0) 1 k) (Tried root (step n 0 0 1 none) m)
  tries_as key id n m one e out =
      subst (λ (k : ℕ). Allows (Guarded root key) k id m 0 (λ x. either (eqb x 0) 1 x) (Tried root (step k 0 0 1 none) m)) (sym one)
      (subst (λ (x : Me (Option T) (View R)). Allows (Guarded root key) 1 id x 0 (λ y. either (eqb y 0) 1 y) (Tried root (step 1 0 0 1 none) x)) (λ i. (m.0, sym e i)) (tries key id m.0 out))

  pub frees_as : (key : R) (id n : ℕ) (m : Me (Option T) (View R)) (v : View R) (value : T) (more : List (ℕ × Option T)) → n ≡ 1 → m ≡ (v, (0, Some value) ∷ more) → more ≡ [] → v.stage ≡ 1 → root value ≡ v.root
      → Allows (Guarded root key) n id m 0 (λ _. 0) (λ _ x. x ≡ (outside m.0.root, []))
  frees_as key id n m v value more one e none_more is root_is =
      let now : m ≡ (v, (0, Some value) ∷ []) = e ∙ ap (λ (l : List (ℕ × Option T)). (v, (0, Some value) ∷ l)) none_more in
      subst (λ (k : ℕ). Allows (Guarded root key) k id m 0 (λ _. 0) (λ _ x. x ≡ (outside m.0.root, []))) (sym one)
      (subst (λ (y : Me (Option T) (View R)). Allows (Guarded root key) 1 id y 0 (λ _. 0) (λ _ x. x ≡ (outside y.0.root, []))) (sym now) (frees key id v value is root_is))

  pub retires_as : (key : R) (id n : ℕ) (m : Me (Option T) (View R)) → n ≡ 1 → m.1 ≡ (0, None) ∷ [] → m.0.stage ≡ 1
      → Allows (Guarded root key) n id m 0 (λ _. 1) (λ _ x. x ≡ (retired m.0.root, []))
  retires_as key id n m one e is =
      subst (λ (k : ℕ). Allows (Guarded root key) k id m 0 (λ _. 1) (λ _ x. x ≡ (retired m.0.root, []))) (sym one)
      (subst (λ (y : Me (Option T) (View R)). Allows (Guarded root key) 1 id y 0 (λ _. 1) (λ _ x. x ≡ (retired y.0.root, []))) (λ i. (m.0, sym e i)) (retires key id m.0 is))
