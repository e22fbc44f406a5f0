-- The records of a journal, and the batches of posts that they spell.
use Rattle.search_book.proofs.Common.{◌≡◌, ◌≢◌, ℕ, suc, ◌+◌, ◌-◌, ◌*◌, ◌<◌, ◌≤◌, List, [], ◌∷◌, ◌++◌, length, take, drop, refl, sym, ◌∙◌, ap, subst, arith, length-append, Option, None, Some, IfSome, IsSome, OnSome, AllZip, take-append-drop, append-nil, append_assoc, flat_map-append, Rose, StandsFor, IsStored, JournalView, canonical_text, Post, Spells, Problem, bytes_of, book_of, Shutting, DiskFault, Full, front_folds, HoldsBatches, IsKeptPosts, ShutOf, PostLogView, bytes_used, joined, SpellPosts, HoldsPrefix, IsRecorded, ShutIn, zip_length, zip_take, zip_append, zip_right}
use Rattle.search_book.proofs.Used.{used_more}

-- ---- batches, joined
pub joined_both : (xs ys : List (List Post)) → joined (xs ++ ys) ≡ joined xs ++ joined ys
joined_both xs ys = flat_map-append (λ (l : List Post). l) xs ys

pub joined_more : (batches : List (List Post)) (posts : List Post) → joined (batches ++ posts ∷ []) ≡ joined batches ++ posts
joined_more batches posts = joined_both batches (posts ∷ []) ∙ ap (λ (l : List Post). joined batches ++ l) (append-nil posts)

pub joined_front : (k : ℕ) (batches : List (List Post)) → joined (take k batches) ++ joined (drop k batches) ≡ joined batches
joined_front k batches = sym (joined_both (take k batches) (drop k batches)) ∙ ap joined (take-append-drop k batches)

-- ---- records
take_past : {X : Type 0} (xs ys : List X) (k : ℕ) → xs ++ take k ys ≡ take (length xs + k) (xs ++ ys)
take_past [] ys k = let none : k ≡ 0 + k = omega arith in ap (λ (n : ℕ). take n ys) none
take_past (x ∷ xs) ys k = let one : suc (length xs) + k ≡ suc (length xs + k) = omega arith in ap (λ l. x ∷ l) (take_past xs ys k) ∙ ap (λ (n : ℕ). take n (x ∷ (xs ++ ys))) (sym one)

module _ (first : ℕ) (opening : List Post) where
  -- at the opening
  pub recorded_first : (records : List (List ℕ)) → length records ≡ first → SpellPosts records opening → IsRecorded records first opening []
  recorded_first records count s = record { front = records; rest = []; all = append-nil records; count = count; opened = s; since = tt }

  -- some records more, each with its batch
  pub recorded_more : (records more : List (List ℕ)) (batches added : List (List Post)) → IsRecorded records first opening batches → AllZip Spells more added → IsRecorded (records ++ more) first opening (batches ++ added)
  recorded_more records more batches added r z = record {
    front = r.front;
    rest = r.rest ++ more;
    all = sym (append_assoc r.front r.rest more) ∙ ap (λ (l : List (List ℕ)). l ++ more) r.all;
    count = r.count;
    opened = r.opened;
    since = zip_append Spells r.rest more batches added r.since z;
  }

  -- the first of the records
  pub recorded_take : (records : List (List ℕ)) (batches : List (List Post)) (k : ℕ) → IsRecorded records first opening batches → IsRecorded (take (first + k) records) first opening (take k batches)
  recorded_take records batches k r = record {
    front = r.front;
    rest = take k r.rest;
    all = take_past r.front r.rest k ∙ ap (λ (n : ℕ). take (n + k) (r.front ++ r.rest)) r.count ∙ ap (take (first + k)) r.all;
    count = r.count;
    opened = r.opened;
    since = zip_take Spells k r.rest batches r.since;
  }

  pub recorded_count : (records : List (List ℕ)) (batches : List (List Post)) → IsRecorded records first opening batches → length records ≡ first + length batches
  recorded_count records batches r =
      let all : length records ≡ length r.front + length r.rest = ap length (sym r.all) ∙ length-append r.front r.rest in
      omega (arith, r.count, zip_length Spells r.rest batches r.since)

  -- they spell all the posts
  pub recorded_spells : (records : List (List ℕ)) (batches : List (List Post)) → IsRecorded records first opening batches → SpellPosts records (opening ++ joined batches)
  recorded_spells records batches r = record {
    batches = r.opened.batches ++ batches;
    spelled = subst (λ (l : List (List ℕ)). AllZip Spells l (r.opened.batches ++ batches)) r.all (zip_append Spells r.front r.rest r.opened.batches batches r.opened.spelled r.since);
    all = joined_both r.opened.batches batches ∙ ap (λ (l : List Post). l ++ joined batches) r.opened.all;
  }

-- ---- bytes
pub bytes_are : (posts : List Post) (bytes : List ℕ) → 0 < length posts → Spells bytes posts → 5 + length bytes ≡ bytes_of posts
bytes_are [] bytes some s = absurd (omega arith)
bytes_are (p ∷ posts) bytes some s = ap (λ (l : List ℕ). 5 + length l) s.is

pub used_with : (head : List ℕ) (records : List (List ℕ)) (posts : List Post) (bytes : List ℕ) → 0 < length posts → Spells bytes posts → bytes_used head (records ++ bytes ∷ []) ≡ bytes_used head records + bytes_of posts
used_with head records posts bytes some s =
    let size : 5 + length bytes ≡ bytes_of posts = bytes_are posts bytes some s in
    omega (arith, used_more head records bytes)

-- ---- what a crash may leave, in posts
pub some_of : {X : Type 0} (o : Option X) → IsSome o → (x : X) × (o ≡ Some x)
some_of None s = absurd (cc (s))
some_of (Some x) s = (x, refl)

front_of_run : (limit : ℕ) (i : Problem) (head : List ℕ) (run : List (List ℕ)) (opening : List Post) (batches : List (List Post)) (first b : ℕ) (file : List ℕ) → head ≡ canonical_text i → IsRecorded run first opening batches → IsSome (book_of i (opening ++ joined batches)) → HoldsPrefix limit head run (first + b) file → HoldsBatches limit i opening batches b file
front_of_run limit i head run opening batches first b file is r folds front =
    let k : ℕ = front.count - first in
    let count : front.count ≡ first + k = omega (arith, front.at_least) in
    let all = some_of (book_of i (opening ++ joined batches)) folds in
    let first_posts : List Post = opening ++ joined (take k batches) in
    let parts : first_posts ++ joined (drop k batches) ≡ opening ++ joined batches = append_assoc opening (joined (take k batches)) (joined (drop k batches)) ∙ ap (λ (l : List Post). opening ++ l) (joined_front k batches) in
    let part = front_folds i first_posts (joined (drop k batches)) all.0 (ap (book_of i) parts ∙ all.1) in
    let records : List (List ℕ) = take (first + k) run in
    record {
      count = k;
      at_least = omega (arith, front.at_least);
      at_most = omega (arith, front.at_most, recorded_count first opening run batches r);
      holds = record {
        used = bytes_used (canonical_text i) records;
        journal = record {
          records = records;
          spells = recorded_spells first opening records (take k batches) (recorded_take first opening run batches k r);
          stands = subst (λ (h : List ℕ). StandsFor limit h records file) is (subst (λ (n : ℕ). StandsFor limit head (take n run) file) count front.holds);
          ends = refl;
        };
      };
      book = part.0;
      folds = part.1;
    }

pub posts_last : (reads : Option (List ℕ)) (since : ℕ → List ℕ → Type 0) (start limit : ℕ) (i : Problem) (head : List ℕ) (records flight : List (List ℕ)) (opening : List Post) (batches in_flight : List (List Post)) (first added : ℕ)
    → head ≡ canonical_text i → IsRecorded records first opening batches → AllZip Spells flight in_flight → IsSome (book_of i (opening ++ joined (batches ++ in_flight))) → length batches ≡ added
    → OnSome reads ((b : ℕ) (image : List ℕ) → b ≤ added → since (start + 4 * b) image → HoldsPrefix limit head (records ++ flight) (first + b) image)
    → OnSome reads ((b : ℕ) (image : List ℕ) → b ≤ length batches → since (start + 4 * b) image → HoldsBatches limit i opening (batches ++ in_flight) b image)
posts_last None since start limit i head records flight opening batches in_flight first added is r z folds same lasts = tt
posts_last (Some file) since start limit i head records flight opening batches in_flight first added is r z folds same lasts = λ b image le left.
    front_of_run limit i head (records ++ flight) opening (batches ++ in_flight) first b image is (recorded_more first opening records flight batches in_flight r z) folds (lasts b image (omega (arith, le, same)) left)

-- ---- the disk of a running log
pub kept_posts : {D : Type 0} (images : D → List ℕ → Type 0) (log : PostLogView D) (journal : JournalView) (o : Option (List ℕ)) → journal.head ≡ canonical_text log.instance → journal.limit ≡ log.limit → log.used ≡ bytes_used journal.head journal.records → SpellPosts journal.records log.history → IfSome o (IsStored journal (images log.disk)) → IfSome o (IsKeptPosts images log)
kept_posts images log journal None is most used s stored = tt
kept_posts images log journal (Some file) is most used s stored = record {
  only = stored.only;
  journal = record {
    records = journal.records;
    spells = s;
    stands = subst (λ (h : List ℕ). StandsFor log.limit h journal.records file) is (subst (λ (l : ℕ). StandsFor l journal.head journal.records file) most stored.stands);
    ends = used ∙ ap (λ (h : List ℕ). bytes_used h journal.records) is;
  };
}

-- ---- why a log of posts is shut
pub shut_of : (limit before now : ℕ) (flight : List (List ℕ)) (in_flight : List (List Post)) (shut : Option Shutting) → ShutIn limit flight shut → AllZip Spells flight in_flight → (flight ≢ [] → Rose before now) → ShutOf limit before now in_flight shut
shut_of limit before now flight in_flight None by z cause = zip_right Spells flight in_flight z by
shut_of limit before now flight in_flight (Some DiskFault) by z cause = cause by
shut_of limit before now flight in_flight (Some (Full end most)) by z cause = (zip_right Spells flight in_flight z by.0, by.1, by.2)
