-- Records that were read, folded one after another.
use Rattle.recovery.proofs.Common.{◌≡◌, ℕ, zero, suc, ◌+◌, ◌<◌, ◌≤◌, List, [], ◌∷◌, ◌++◌, length, map, take, drop, get_or, refl, sym, ap, ◌∙◌, subst, append_assoc, arith, Option, Some, Vec, Global, slice_get, IfErr, IfOk, IsSomeAnd, MatchResult, Result, Ok, Err, AllZip, append-nil, length-append, take_all, get_or_from_slice_get, slice_get_read, Problem, Cut, PriceWidth, Post, SpellsBy, one_list_by, none_spelled, Book, opening, StateView, Takes, Why, RebuildFault, NoMemory, fault_at, RecordStops, TakesRecord, nodes_of, AreFoundIn, all_posts, posts_in, AreAllFound, AreReads, IsReadOf, Outcome, MakeBookBy, RefusesBy}
use Rattle.shift_instance.proofs.Shifts.{get_or_some}
use Rattle.post_codec.specs.Fields.{IsFaultOf}
use Rattle.recovery.proofs.Rebuilt.{rebuilt_more, rebuilt_stops, Rebuilt}
use Rattle.recovery.proofs.Unspelled.{never_rejected}

-- ---- lists side by side

pub zip_of : {A B : Type 0} (R : A → B → Type 0) (xs : List A) (ys : List B) → length ys ≡ length xs → ((k : ℕ) (y : B) → slice_get ys k ≡ Some y → IsSomeAnd (slice_get xs k) (λ x. R x y)) → AllZip R xs ys
zip_of R [] [] len each = tt
zip_of R [] (y ∷ ys) len each = absurd (omega (arith, len))
zip_of R (x ∷ xs) [] len each = absurd (omega (arith, len))
zip_of R (x ∷ xs) (y ∷ ys) len each = (each zero y refl, zip_of R xs ys (omega (arith, len)) (λ k z e. each (suc k) z e))

-- what stands beside the seam of a list
pub zip_seam : {A B : Type 0} (R : A → B → Type 0) (xs : List A) (ys zs : List B) (y : B) → AllZip R xs (ys ++ y ∷ zs) → (x : A) × (slice_get xs (length ys) ≡ Some x) × R x y
zip_seam R [] [] zs y z = absurd z
zip_seam R [] (w ∷ ys) zs y z = absurd z
zip_seam R (x ∷ xs) [] zs y z = (x, refl, z.0)
zip_seam R (x ∷ xs) (w ∷ ys) zs y z = zip_seam R xs ys zs y z.1

pub seam_zip : {A B : Type 0} (R : A → B → Type 0) (xs ws : List A) (x : A) (ys : List B) → AllZip R (xs ++ x ∷ ws) ys → (y : B) × (slice_get ys (length xs) ≡ Some y) × R x y
seam_zip R [] ws x [] z = absurd z
seam_zip R [] ws x (y ∷ ys) z = (y, refl, z.0)
seam_zip R (w ∷ xs) ws x [] z = absurd z
seam_zip R (w ∷ xs) ws x (y ∷ ys) z = seam_zip R xs ws x ys z.1

-- what stands at a place of a part of a list
pub get_within : {X : Type 0} (n : ℕ) (xs : List X) (k : ℕ) (x : X) → slice_get (take n xs) k ≡ Some x → slice_get xs k ≡ Some x
get_within zero xs k x e = absurd (cc)
get_within (suc n) [] k x e = absurd (cc)
get_within (suc n) (y ∷ xs) zero x e = e
get_within (suc n) (y ∷ xs) (suc k) x e = get_within n xs k x e

pub get_behind : {X : Type 0} (n : ℕ) (xs : List X) (k : ℕ) (x : X) → slice_get (drop n xs) k ≡ Some x → slice_get xs (n + k) ≡ Some x
get_behind zero xs k x e = ap (λ m. slice_get xs m) (omega arith) ∙ e
get_behind (suc n) [] k x e = absurd (cc)
get_behind {X} (suc n) (y ∷ xs) k x e =
    let next : suc n + k ≡ suc (n + k) = omega arith in
    ap (λ m. slice_get (y ∷ xs) m) next ∙ get_behind n xs k x e

pub all_posts-append : (xs ys : List Outcome) → all_posts (xs ++ ys) ≡ all_posts xs ++ all_posts ys
all_posts-append [] ys = refl
all_posts-append (x ∷ xs) ys = ap (λ (l : List Post). posts_in x ++ l) (all_posts-append xs ys) ∙ sym (append_assoc (posts_in x) (all_posts xs) (all_posts ys))

module _ (w : PriceWidth) where
  -- ---- a record more

  record_taken : (outcome : Outcome) (old new : StateView) (bytes : List ℕ) → IsReadOf w bytes outcome → MatchResult outcome (λ posts. Takes old posts.items new) (λ _. ⊥) → TakesRecord w old bytes new × (new.history ≡ old.history ++ posts_in outcome)
  record_taken (Ok posts) old new bytes spells takes = (record { posts = posts.items; spells = spells; takes = takes }, takes.grows)
  record_taken (Err fault) old new bytes spells takes = absurd takes

  -- a state made of the records before a part of them, by the number of the part's first, and of the first of the part, as they were read, with others left
  pub record Folding (i : Problem) (records : List (Vec ℕ Global)) (from : ℕ) (first : List Post) (all passed left : List Outcome) (number : ℕ) (now : StateView) : Type 0 where
    pub rebuilt : Rebuilt w i (map (λ (r : Vec ℕ Global). r.items) (take (from + number) records)) now
    pub history : now.history ≡ first ++ all_posts passed
    pub split : passed ++ left ≡ all
    pub count : number ≡ length passed

  pub folding_starts : (i : Problem) (records : List (Vec ℕ Global)) (from : ℕ) (all left : List Outcome) (now : StateView) → left ≡ all → now.instance ≡ i → MakeBookBy w i (map (λ (r : Vec ℕ Global). r.items) (take from records)) now.history now.book
      → Folding i records from now.history all [] left 0 now
  folding_starts i records from all left now whole same made = record {
    rebuilt = subst (λ n. Rebuilt w i (map (λ (r : Vec ℕ Global). r.items) (take n records)) now) (omega arith) (record { same = same; made = made });
    history = sym (append-nil now.history);
    split = whole;
    count = refl;
  }

  -- the part of the records that was read so
  abbrev pub ReadsFrom : List (Vec ℕ Global) → ℕ → List Outcome → Type 0
  ReadsFrom records from all = AreReads w (take (length all) (drop from records)) all

  -- a part was read so where each of its records was
  pub reads_of : (records part left : List (Vec ℕ Global)) (from n : ℕ) (all : List Outcome)
      → left ≡ drop from records → part ≡ take n left → length part ≡ n → length all ≡ length part → ((k : ℕ) (o : Outcome) → slice_get all k ≡ Some o → IsSomeAnd (slice_get part k) (λ r. IsReadOf w r.items o)) → ReadsFrom records from all
  reads_of records part left from n all behind front long count each =
      let same : part ≡ take (length all) (drop from records) = front ∙ ap (λ m. take m left) (sym (count ∙ long)) ∙ ap (λ (l : List (Vec ℕ Global)). take (length all) l) behind in
      subst (λ (l : List (Vec ℕ Global)). AreReads w l all) same (zip_of (λ (r : Vec ℕ Global) (o : Outcome). IsReadOf w r.items o) part all count each)

  -- the record at which a fold is, and how it was read
  pub folding_at : (i : Problem) (records : List (Vec ℕ Global)) (from : ℕ) (first : List Post) (all passed left next : List Outcome) (number : ℕ) (now : StateView) (outcome : Outcome)
      → ReadsFrom records from all → Folding i records from first all passed left number now → left ≡ outcome ∷ next → (r : Vec ℕ Global) × (from + number < length records) × (r ≡ get_or records (from + number) r) × IsReadOf w r.items outcome
  folding_at i records from first all passed left next number now outcome reads f e =
      let part : List (Vec ℕ Global) = take (length all) (drop from records) in
      let whole : passed ++ outcome ∷ next ≡ all = ap (λ (l : List Outcome). passed ++ l) (sym e) ∙ f.split in
      let z = zip_seam (λ (r : Vec ℕ Global) (o : Outcome). IsReadOf w r.items o) part passed next outcome (subst (λ (l : List Outcome). AreReads w part l) (sym whole) reads) in
      let there : slice_get part number ≡ Some z.0 = ap (λ n. slice_get part n) f.count ∙ z.1 in
      let g = get_or_some records (from + number) z.0 z.0 (get_behind from records number z.0 (get_within (length all) (drop from records) number z.0 there)) in
      (z.0, g.0, sym g.1, z.2)

  pub folding_more : (i : Problem) (records : List (Vec ℕ Global)) (from : ℕ) (first : List Post) (all passed left next : List Outcome) (number : ℕ) (mid new : StateView) (outcome : Outcome)
      → ReadsFrom records from all → Folding i records from first all passed left number mid → left ≡ outcome ∷ next → MatchResult outcome (λ posts. Takes mid posts.items new) (λ _. ⊥)
      → Folding i records from first all (passed ++ outcome ∷ []) next (number + 1) new
  folding_more i records from first all passed left next number mid new outcome reads f e takes =
      let r = folding_at i records from first all passed left next number mid outcome reads f e in
      let t = record_taken outcome mid new (r.0).items r.3 takes in
      let further : (from + number) + 1 ≡ from + (number + 1) = omega arith in
      record {
        rebuilt =
            subst (λ n. Rebuilt w i (map (λ (v : Vec ℕ Global). v.items) (take n records)) new) further
            (rebuilt_more w (λ (v : Vec ℕ Global). v.items) i records (from + number) r.0 mid new r.1 r.2 f.rebuilt t.0);
        history =
            t.1
            ∙ ap (λ (l : List Post). l ++ posts_in outcome) f.history
            ∙ append_assoc first (all_posts passed) (posts_in outcome)
            ∙ ap (λ (l : List Post). first ++ l) (sym (all_posts-append passed (outcome ∷ []) ∙ ap (λ (l : List Post). all_posts passed ++ l) (append-nil (posts_in outcome))));
        split = append_assoc passed (outcome ∷ []) next ∙ ap (λ (l : List Outcome). passed ++ l) (sym e) ∙ f.split;
        count = omega (arith, f.count, length-append passed (outcome ∷ []));
      }

  pub folding_stops : (i : Problem) (records : List (Vec ℕ Global)) (from : ℕ) (first : List Post) (all passed left next : List Outcome) (number : ℕ) (mid : StateView) (outcome : Outcome) (why : Why)
      → ReadsFrom records from all → Folding i records from first all passed left number mid → left ≡ outcome ∷ next → ((bytes : List ℕ) → IsReadOf w bytes outcome → RecordStops w i mid.book bytes why)
      → RefusesBy w i (map (λ (r : Vec ℕ Global). r.items) records) (fault_at (from + number) why)
  folding_stops i records from first all passed left next number mid outcome why reads f e stops =
      let r = folding_at i records from first all passed left next number mid outcome reads f e in
      rebuilt_stops w (λ (v : Vec ℕ Global). v.items) i records (from + number) r.0 mid why r.1 r.2 f.rebuilt (stops (r.0).items r.3)

  -- ---- what is known of the record at which a fold is

  pub folding_found : (i : Problem) (records : List (Vec ℕ Global)) (from : ℕ) (first : List Post) (nodes : List (List Cut)) (all passed left next : List Outcome) (number : ℕ) (now : StateView) (outcome : Outcome) (bounds : List (Vec (Option ℕ) Global))
      → AreAllFound i nodes all bounds → Folding i records from first all passed left number now → left ≡ outcome ∷ next → (found : Vec (Option ℕ) Global) × (slice_get bounds number ≡ Some found) × AreFoundIn i nodes (posts_in outcome) found.items
  folding_found i records from first nodes all passed left next number now outcome bounds are f e =
      let whole : passed ++ outcome ∷ next ≡ all = ap (λ (l : List Outcome). passed ++ l) (sym e) ∙ f.split in
      let z = seam_zip (λ (o : Outcome) (found : Vec (Option ℕ) Global). AreFoundIn i nodes (posts_in o) found.items) passed next outcome bounds (subst (λ (l : List Outcome). AreAllFound i nodes l bounds) (sym whole) are) in
      (z.0, ap (λ n. slice_get bounds n) f.count ∙ z.1, z.2)

  pub folding_tree : (i : Problem) (records : List (Vec ℕ Global)) (from : ℕ) (first : List Post) (nodes : List (List Cut)) (all passed left next : List Outcome) (number : ℕ) (now : StateView) (outcome : Outcome)
      → nodes ≡ nodes_of (first ++ all_posts all) → Folding i records from first all passed left number now → left ≡ outcome ∷ next → (rest : List Post) × (nodes ≡ nodes_of ((now.history ++ posts_in outcome) ++ rest))
  folding_tree i records from first nodes all passed left next number now outcome tree f e =
      let whole : passed ++ outcome ∷ next ≡ all = ap (λ (l : List Outcome). passed ++ l) (sym e) ∙ f.split in
      let behind : List Post = posts_in outcome ++ all_posts next in (
        all_posts next,
        tree
            ∙ ap (λ (l : List Outcome). nodes_of (first ++ all_posts l)) (sym whole)
            ∙ ap (λ (l : List Post). nodes_of (first ++ l)) (all_posts-append passed (outcome ∷ next))
            ∙ ap nodes_of (sym (append_assoc first (all_posts passed) behind))
            ∙ ap (λ (l : List Post). nodes_of (l ++ behind)) (sym f.history)
            ∙ ap nodes_of (sym (append_assoc now.history (posts_in outcome) (all_posts next))),
      )

  -- a bound that stands in a buffer at the place of a record is one of its posts
  pub found_here : (i : Problem) (nodes : List (List Cut)) (outcome : Outcome) (bounds : List (Vec (Option ℕ) Global)) (number : ℕ) (read : Vec (Option ℕ) Global) (slice : List (Option ℕ))
      → ((found : Vec (Option ℕ) Global) × (slice_get bounds number ≡ Some found) × AreFoundIn i nodes (posts_in outcome) found.items) → read ≡ get_or bounds number read → slice ≡ read.items
      → IfOk outcome (λ posts. AreFoundIn i nodes posts.items slice)
  found_here i nodes outcome bounds number read slice found is same =
      let alike : read ≡ found.0 = is ∙ get_or_from_slice_get bounds number found.0 read found.1 in
      each outcome (subst (λ (l : List (Option ℕ)). AreFoundIn i nodes (posts_in outcome) l) (sym (same ∙ ap (λ (v : Vec (Option ℕ) Global). v.items) alike)) found.2)
    where
      each : (o : Outcome) → AreFoundIn i nodes (posts_in o) slice → IfOk o (λ posts. AreFoundIn i nodes posts.items slice)
      each (Ok posts) h = h
      each (Err fault) h = tt

  pub tree_here : (nodes : List (List Cut)) (history : List Post) (outcome : Outcome) → ((rest : List Post) × (nodes ≡ nodes_of ((history ++ posts_in outcome) ++ rest)))
      → IfOk outcome (λ posts. (rest : List Post) × (nodes ≡ nodes_of ((history ++ posts.items) ++ rest)))
  tree_here nodes history (Ok posts) h = h
  tree_here nodes history (Err fault) h = tt

  -- ---- all records of a part

  pub folding_done : (i : Problem) (records : List (Vec ℕ Global)) (from : ℕ) (first : List Post) (all passed left : List Outcome) (number : ℕ) (now : StateView)
      → Folding i records from first all passed left number now → length left ≡ 0 → (passed ≡ all) × Rebuilt w i (map (λ (r : Vec ℕ Global). r.items) (take (from + length all) records)) now
  folding_done i records from first all passed [] number now f none =
      let done : passed ≡ all = sym (append-nil passed) ∙ f.split in
      (done, subst (λ n. Rebuilt w i (map (λ (r : Vec ℕ Global). r.items) (take (from + n) records)) now) (f.count ∙ ap length done) f.rebuilt)
  folding_done i records from first all passed (outcome ∷ left) number now f none = absurd (omega (arith, none))

  -- the posts of a part behind those before it
  pub folding_grown : (i : Problem) (records : List (Vec ℕ Global)) (from : ℕ) (first : List Post) (all passed left : List Outcome) (number : ℕ) (now : StateView)
      → Folding i records from first all passed left number now → length left ≡ 0 → now.history ≡ first ++ all_posts all
  folding_grown i records from first all passed left number now f none =
      let done = folding_done i records from first all passed left number now f none in
      f.history ∙ ap (λ (l : List Outcome). first ++ all_posts l) done.0

  -- all records are taken once as many are as there are
  pub all_made : (i : Problem) (records : List (Vec ℕ Global)) (to : ℕ) (posts : List Post) (b : Book) → length records ≤ to → MakeBookBy w i (map (λ (r : Vec ℕ Global). r.items) (take to records)) posts b
      → MakeBookBy w i (map (λ (r : Vec ℕ Global). r.items) records) posts b
  all_made i records to posts b all made = subst (λ (l : List (Vec ℕ Global)). MakeBookBy w i (map (λ (r : Vec ℕ Global). r.items) l) posts b) (take_all to records all) made

  -- what the records up to a number make: a state, and a tree of its posts' nodes
  abbrev pub FrontMade : Problem → List (Vec ℕ Global) → ℕ → StateView → List (List Cut) → Type 0
  FrontMade i records to now tree =
      (now.instance ≡ i)
      × (to ≤ length records)
      × MakeBookBy w i (map (λ (r : Vec ℕ Global). r.items) (take to records)) now.history now.book
      × (tree ≡ nodes_of now.history)

  pub front_starts : (i : Problem) (records : List (Vec ℕ Global)) (now : StateView) (tree : List (List Cut)) → now ≡ record { instance = i; history = []; book = opening i; spare = 0 } → tree ≡ [] ∷ [] → FrontMade i records 0 now tree
  front_starts i records now tree e t = subst (λ (v : StateView). FrontMade i records 0 v tree) (sym e) (refl, omega arith, record { spell = none_spelled; make = refl }, t)

  -- ---- what is read

  pub read_is : (bytes : List ℕ) (outcome : Outcome) → IfOk outcome (λ posts. SpellsBy w bytes posts.items) → IfErr outcome (IsFaultOf w bytes) → IsReadOf w bytes outcome
  read_is bytes (Ok posts) found fault = found
  read_is bytes (Err why) found fault = fault

  -- what holds of the element at a place
  pub some_there : {X : Type 0} (xs : List X) (k : ℕ) (x : X) (P : X → Type 0) → k < length xs → x ≡ get_or xs k x → P x → IsSomeAnd (slice_get xs k) P
  some_there {X} xs k x P less is p = subst (λ (o : Option X). IsSomeAnd o P) (sym (slice_get_read xs (length xs) k x refl less is)) p

  -- records that make a book are rejected by running out of memory alone
  pub none_rejected : {X : Type 0} (i : Problem) (records : List (List ℕ)) (r : Result X RebuildFault) → IfErr r (RefusesBy w i records) → (posts : List Post) (b : Book) → MakeBookBy w i records posts b → IfErr r (λ fault. fault ≡ NoMemory)
  none_rejected i records (Ok s) refused posts b m = tt
  none_rejected i records (Err fault) refused posts b m = never_rejected w (one_list_by w) i records posts b fault m refused
