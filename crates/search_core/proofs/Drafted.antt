-- Drafts with one post more.
use Rattle.search_core.proofs.Common.{◌≡◌, ℕ, ◌<◌, ◌≤◌, ◌^◌, Bool, true, false, cond, List, [], ◌∷◌, ◌++◌, length, refl, sym, ◌∙◌, ap, subst, arith, nat_lt, Option, None, Some, IsTrue, option_map_or, append-nil, Problem, are_legal_rows, IsValid, Costing, IsCosted, Class, Cut, Prices, are_prices, bound_of, low, high, Node, settled_floor, is_live_class, is_settled, Post, Plan, Priced, Split, Settled, CanSpellPost, CanSpellPrices, Book, book_after, step, value_of, followed_by, plan_posts, where_open, StepDraft, best_with, floor_with, IsAfter, IsDraft, Makes}
use Rattle.std.specs.Prelude.{max}
use Rattle.head_splits.proofs.Priced.{priced}
use Rattle.search_core.proofs.Appends.{makes_fold, makes_push}
use Rattle.search_core.proofs.Drafts.{plan_stage, plan_step, price_stage, price_step, price_value, settled_stage, settled_step, split_stage, split_step, then_is, where_is}
use Rattle.search_core.proofs.Fits.{class_fits, rows_fit}
use Rattle.search_core.proofs.Spelled.{prices_spell}

module _ (i : Problem) (b : Book) (k : ℕ) (cuts : List Cut) (posts : List Post) (d new : StepDraft) (dr : IsDraft i b k cuts posts d false) where
  push : (post : Post) (value : ℕ) (more : List Post) (s : Bool) (n : Book) → step i dr.state.after post ≡ Some n → value ≡ value_of i dr.state.after post → CanSpellPost post
      → new.posts.items ≡ d.posts.items ++ post ∷ [] → new.values.items ≡ d.values.items ++ value ∷ [] → more ≡ posts ++ post ∷ [] → IsAfter i b k cuts more new.best new.floor s → IsDraft i b k cuts more new s
  push post value more s n st v f items numbers is after =
      let made : book_after i b posts ≡ Some dr.made.0 = ap (book_after i b) (sym dr.posts_are) ∙ makes_fold i b d.posts.items d.values.items dr.made.0 dr.made.1 in
      let same : dr.made.0 ≡ dr.state.after = let both : Some dr.made.0 ≡ Some dr.state.after = sym made ∙ dr.state.folds in cc (both) in
      let makes : Makes i b d.posts.items d.values.items dr.state.after = subst (Makes i b d.posts.items d.values.items) same dr.made.1 in
      record {
        posts_are = items ∙ ap (λ (l : List Post). l ++ post ∷ []) dr.posts_are ∙ sym is;
        made = (n, subst (λ (l : List Post). Makes i b l new.values.items n) (sym items) (subst (λ (ns : List ℕ). Makes i b (d.posts.items ++ post ∷ []) ns n) (sym numbers) (makes_push i b d.posts.items d.values.items dr.state.after n post value makes st v f)));
        state = after;
      }

  -- nothing is drafted
  stay : (more : List Post) (s : Bool) → new ≡ d → more ≡ posts ++ [] → IsAfter i b k cuts more new.best new.floor s → IsDraft i b k cuts more new s
  stay more s same is after = record {
    posts_are = ap (λ (x : StepDraft). x.posts.items) same ∙ dr.posts_are ∙ sym (append-nil posts) ∙ sym is;
    made = subst (λ (x : StepDraft). (c : Book) × Makes i b x.posts.items x.values.items c) (sym same) dr.made;
    state = after;
  }

  where_more : (post : Post) (t : Bool) → nat_lt d.floor d.best ≡ t → followed_by i b posts (where_open k post) ≡ posts ++ cond t (post ∷ []) []
  where_more post t opens = sym (where_is i b k cuts posts d.best d.floor dr.state post) ∙ ap (λ (u : Bool). posts ++ cond u (post ∷ []) []) opens

  plan_more : (w : ℕ) (p : Costing) (t : Bool) → nat_lt p.cost d.best ≡ t → followed_by i b posts (plan_posts w (Some p)) ≡ posts ++ cond t (Plan w p.rows p.cost ∷ []) []
  plan_more w p t cheaper =
      let cost_is = ap (λ (c : Book). c.cost) (then_is i b k cuts posts d.best d.floor dr.state) ∙ sym dr.state.best_is in
      ap (λ (n : ℕ). posts ++ cond (nat_lt p.cost n) (Plan w p.rows p.cost ∷ []) []) cost_is ∙ ap (λ (u : Bool). posts ++ cond u (Plan w p.rows p.cost ∷ []) []) cheaper

  pub drafts_plan : (w : ℕ) (p : Costing) → IsValid i → p.instance ≡ i → IsCosted p → nat_lt p.cost d.best ≡ true
      → new.posts.items ≡ d.posts.items ++ Plan w p.rows p.cost ∷ [] → new.values.items ≡ d.values.items ++ p.cost ∷ [] → new.best ≡ p.cost → new.floor ≡ d.floor
      → IsDraft i b k cuts (followed_by i b posts (plan_posts w (Some p))) new false
  drafts_plan w p valid same costed cheaper items numbers best floor =
      let more = followed_by i b posts (plan_posts w (Some p)) in
      let stage = plan_stage i b k cuts posts d.best d.floor w (Some p) dr.state costed same in
      let number : best_with (Some p) d.best ≡ new.best = ap (λ (t : Bool). cond t p.cost d.best) cheaper ∙ sym best in
      let legal = subst (λ (j : Problem). are_legal_rows j p.rows ≡ true) same costed.legal in
      push (Plan w p.rows p.cost) p.cost more false _ (plan_step i b k cuts posts d.best d.floor w p dr.state costed same cheaper) refl (rows_fit i p.rows valid legal) items numbers (plan_more w p true cheaper)
      (subst (λ (n : ℕ). IsAfter i b k cuts more n new.floor false) number (subst (λ (n : ℕ). IsAfter i b k cuts more (best_with (Some p) d.best) n false) (sym floor) stage))

  pub drafts_no_plan : (w : ℕ) (p : Costing) → p.instance ≡ i → IsCosted p → nat_lt p.cost d.best ≡ false → new ≡ d → IsDraft i b k cuts (followed_by i b posts (plan_posts w (Some p))) new false
  drafts_no_plan w p same costed dearer is =
      let more = followed_by i b posts (plan_posts w (Some p)) in
      let stage = plan_stage i b k cuts posts d.best d.floor w (Some p) dr.state costed same in
      let number : best_with (Some p) d.best ≡ new.best = ap (λ (t : Bool). cond t p.cost d.best) dearer ∙ ap (λ (x : StepDraft). x.best) (sym is) in
      stay more false is (plan_more w p false dearer)
      (subst (λ (n : ℕ). IsAfter i b k cuts more n new.floor false) number (subst (λ (n : ℕ). IsAfter i b k cuts more (best_with (Some p) d.best) n false) (ap (λ (x : StepDraft). x.floor) (sym is)) stage))

  pub drafts_nothing : (w : ℕ) → new ≡ d → IsDraft i b k cuts (followed_by i b posts (plan_posts w None)) new false
  drafts_nothing w is =
      stay (posts ++ []) false is refl
      (subst (λ (x : StepDraft). IsAfter i b k cuts (posts ++ []) x.best x.floor false) (sym is) (plan_stage i b k cuts posts d.best d.floor w None dr.state tt tt))

  pub prices_fit : (prices : Prices) → IsValid i → IsTrue (are_prices i cuts prices) → length cuts < 2 ^ 32 → CanSpellPrices prices
  prices_fit prices valid passes few =
      let p = priced i cuts prices passes in
      let spell = prices_spell i cuts prices valid passes in
      ((omega (arith, p.slot_count, valid.few_slots), spell.0), (omega (arith, p.cut_count, few), spell.1))

  pub drafts_prices : (w : ℕ) (prices : Prices) (bound : ℕ) → IsValid i → IsTrue (are_prices i cuts prices) → bound ≡ bound_of i cuts prices → length cuts < 2 ^ 32 → nat_lt d.floor d.best ≡ true
      → new.posts.items ≡ d.posts.items ++ Priced w k prices ∷ [] → new.values.items ≡ d.values.items ++ bound ∷ [] → new.best ≡ d.best → new.floor ≡ max d.floor bound
      → IsDraft i b k cuts (followed_by i b posts (where_open k (Priced w k prices))) new false
  drafts_prices w prices bound valid passes exact few opens items numbers best floor =
      let more = followed_by i b posts (where_open k (Priced w k prices)) in
      let stage = price_stage i b k cuts posts d.best d.floor w prices bound dr.state passes exact in
      let number : floor_with bound d.best d.floor ≡ new.floor = ap (λ (t : Bool). cond t (max d.floor bound) d.floor) opens ∙ sym floor in
      push (Priced w k prices) bound more false _ (price_step i b k cuts posts d.best d.floor w prices dr.state passes) (price_value i b k cuts posts d.best d.floor prices bound dr.state exact) (prices_fit prices valid passes few) items numbers (where_more (Priced w k prices) true opens)
      (subst (λ (n : ℕ). IsAfter i b k cuts more n new.floor false) (sym best) (subst (λ (n : ℕ). IsAfter i b k cuts more d.best n false) number stage))

  -- where the node isn't open
  pub drafts_no_prices : (w : ℕ) (prices : Prices) (bound : ℕ) → IsTrue (are_prices i cuts prices) → bound ≡ bound_of i cuts prices → nat_lt d.floor d.best ≡ false → new ≡ d → IsDraft i b k cuts (followed_by i b posts (where_open k (Priced w k prices))) new false
  drafts_no_prices w prices bound passes exact closed is =
      let more = followed_by i b posts (where_open k (Priced w k prices)) in
      let stage = price_stage i b k cuts posts d.best d.floor w prices bound dr.state passes exact in
      let number : floor_with bound d.best d.floor ≡ d.floor = ap (λ (t : Bool). cond t (max d.floor bound) d.floor) closed in
      stay more false is (where_more (Priced w k prices) false closed)
      (subst (λ (x : StepDraft). IsAfter i b k cuts more x.best x.floor false) (sym is) (subst (λ (n : ℕ). IsAfter i b k cuts more d.best n false) number stage))

  pub drafts_split : (w : ℕ) (class : Class) (m : ℕ) → IsValid i → IsTrue (is_live_class i class) → low cuts class ≤ m → m < high i cuts class → nat_lt d.floor d.best ≡ true
      → new.posts.items ≡ d.posts.items ++ Split w k class m ∷ [] → new.values.items ≡ d.values.items ++ d.floor ∷ [] → new.best ≡ d.best → new.floor ≡ d.floor
      → (s : Bool) × IsDraft i b k cuts (followed_by i b posts (where_open k (Split w k class m))) new s
  drafts_split w class m valid live least most opens items numbers best floor =
      let more = followed_by i b posts (where_open k (Split w k class m)) in
      let a = dr.state in
      let s : Bool = nat_lt d.floor d.best in
      let stage = split_stage i b k cuts posts d.best d.floor w class m a live least most in
      let value : d.floor ≡ value_of i a.after (Split w k class m) = a.floor_is ∙ sym (ap (λ (o : Option Node). option_map_or (λ n. n.floor) o 0) a.at) in (
        s,
        push (Split w k class m) d.floor more s _ (split_step i b k cuts posts d.best d.floor w class m a live least most opens) value (class_fits i class valid live) items numbers (where_more (Split w k class m) true opens)
            (subst (λ (n : ℕ). IsAfter i b k cuts more n new.floor s) (sym best) (subst (λ (n : ℕ). IsAfter i b k cuts more d.best n s) (sym floor) stage)),
      )

  pub drafts_no_split : (w : ℕ) (class : Class) (m : ℕ) → IsTrue (is_live_class i class) → low cuts class ≤ m → m < high i cuts class → nat_lt d.floor d.best ≡ false → new ≡ d → (s : Bool) × IsDraft i b k cuts (followed_by i b posts (where_open k (Split w k class m))) new s
  drafts_no_split w class m live least most closed is =
      let more = followed_by i b posts (where_open k (Split w k class m)) in
      let s : Bool = nat_lt d.floor d.best in
      let stage = split_stage i b k cuts posts d.best d.floor w class m dr.state live least most in
      (s, stay more s is (where_more (Split w k class m) false closed) (subst (λ (x : StepDraft). IsAfter i b k cuts more x.best x.floor s) (sym is) stage))

  pub drafts_settled : (w f : ℕ) → IsTrue (is_settled i cuts) → f ≡ settled_floor i cuts → nat_lt d.floor d.best ≡ true
      → new.posts.items ≡ d.posts.items ++ Settled w k ∷ [] → new.values.items ≡ d.values.items ++ f ∷ [] → new.best ≡ d.best → new.floor ≡ f
      → (s : Bool) × IsDraft i b k cuts (followed_by i b posts (where_open k (Settled w k))) new s
  drafts_settled w f is exact opens items numbers best floor =
      let more = followed_by i b posts (where_open k (Settled w k)) in
      let a = dr.state in
      let stage = settled_stage i b k cuts posts d.best d.floor w f a is exact in
      let number : cond (nat_lt d.floor d.best) f d.floor ≡ new.floor = ap (λ (t : Bool). cond t f d.floor) opens ∙ sym floor in
      let value : f ≡ value_of i a.after (Settled w k) = exact ∙ ap (settled_floor i) (sym a.cuts_are) ∙ sym (ap (λ (o : Option Node). option_map_or (λ n. settled_floor i n.cuts) o 0) a.at) in (
        false,
        push (Settled w k) f more false _ (settled_step i b k cuts posts d.best d.floor w a is) value tt items numbers (where_more (Settled w k) true opens)
            (subst (λ (n : ℕ). IsAfter i b k cuts more n new.floor false) (sym best) (subst (λ (n : ℕ). IsAfter i b k cuts more d.best n false) number stage)),
      )

  pub drafts_no_settled : (w f : ℕ) → IsTrue (is_settled i cuts) → f ≡ settled_floor i cuts → nat_lt d.floor d.best ≡ false → new ≡ d → (s : Bool) × IsDraft i b k cuts (followed_by i b posts (where_open k (Settled w k))) new s
  drafts_no_settled w f is exact closed same =
      let more = followed_by i b posts (where_open k (Settled w k)) in
      let stage = settled_stage i b k cuts posts d.best d.floor w f dr.state is exact in
      let number : cond (nat_lt d.floor d.best) f d.floor ≡ d.floor = ap (λ (t : Bool). cond t f d.floor) closed in (
        false,
        stay more false same (where_more (Settled w k) false closed)
            (subst (λ (x : StepDraft). IsAfter i b k cuts more x.best x.floor false) (sym same) (subst (λ (n : ℕ). IsAfter i b k cuts more d.best n false) number stage)),
      )
