-- The files of a migration.
use Rattle.migrate_runs.proofs.Common.{inl, inr, ⊎_elim, ℕ, ◌+◌, ◌<◌, List, length, refl, subst, Option, None, Some, IfSome, OnSome, HoldsThroughout, OnlyLooks, weaker, then_run, JOURNAL_MAX, IsUnfinishedOr, StandsFor, StoodFor, IsCarried, IsEarlierOr, IsEarlierOrSame, IsOldBook, IsSameBook, IsUnfinishedOrSame}

-- a file that stands for what was carried over stands for the posts of the old file
pub same_book : (before : Option (List ℕ)) (head : List ℕ) (records : List (List ℕ)) (count : ℕ) → IsCarried before head records count → (image : List ℕ) → StandsFor JOURNAL_MAX head records image → IfSome before (λ file. IsSameBook file image (length records) count)
same_book None head records count carried image stands = tt
same_book (Some file) head records count carried image stands = record {
  instance = carried.instance;
  posts = carried.posts;
  old = record { instance = carried.valid; records = carried.old; stood = subst (λ (h : List ℕ). StoodFor JOURNAL_MAX h carried.old file) carried.text carried.stood; book = carried.before; make = carried.make };
  new = record { records = records; stands = subst (λ (h : List ℕ). StandsFor JOURNAL_MAX h records image) carried.text stands; book = carried.now; make = carried.make_now };
  alike = carried.alike;
  counted = refl;
  posted = carried.counted;
}

pub unfinished_or_same : (before : Option (List ℕ)) (head : List ℕ) (records : List (List ℕ)) (count : ℕ) → IsCarried before head records count → (image : List ℕ) → IsUnfinishedOr JOURNAL_MAX head records image → IsUnfinishedOrSame before image
unfinished_or_same before head records count carried image (inl less) = inl less
unfinished_or_same before head records count carried image (inr stands) = inr (length records, count, same_book before head records count carried image stands)

-- at each moment of a run
pub same_moments : {D : Type 0} (calls : D → ℕ) (since : D → ℕ → List ℕ → Type 0) (images : List ℕ → Type 0) (old new : D) (reads before : Option (List ℕ)) (head : List ℕ) (records : List (List ℕ)) (count : ℕ) → IsCarried before head records count
    → OnSome reads (HoldsThroughout calls since old new (IsEarlierOr images (IsUnfinishedOr JOURNAL_MAX head records))) → OnSome reads (HoldsThroughout calls since old new (IsEarlierOrSame images before))
same_moments calls since images old new None before head records count carried run = run
same_moments calls since images old new (Some file) before head records count carried run =
    weaker calls since old new (IsEarlierOr images (IsUnfinishedOr JOURNAL_MAX head records)) (IsEarlierOrSame images before)
    (λ c so. ⊎_elim (λ was. inl was) (λ such. inr (unfinished_or_same before head records count carried c such)) so) run

pub same_later : (old new : ℕ) (since : List ℕ → Type 0) (reads before : Option (List ℕ)) (head : List ℕ) (records : List (List ℕ)) (count : ℕ) → IsCarried before head records count
    → OnSome reads (old + 2 < new → (image : List ℕ) → since image → IsUnfinishedOr JOURNAL_MAX head records image) → OnSome reads (old + 2 < new → (image : List ℕ) → since image → IsUnfinishedOrSame before image)
same_later old new since None before head records count carried later = later
same_later old new since (Some file) before head records count carried later =
    λ more image left. unfinished_or_same before head records count carried image (later more image left)

-- calls that only look, and then an installation
then_by : {D : Type 0} (images : List ℕ → Type 0) (since : D → ℕ → List ℕ → Type 0) (calls : D → ℕ) (old mid new : D) (P : List ℕ → Type 0) (o : Option (List ℕ)) → OnSome o (HoldsThroughout calls since mid new P) → OnSome o (HoldsThroughout calls since old mid images)
    → OnSome o (HoldsThroughout calls since old new (IsEarlierOr images P))
then_by images since calls old mid new P None run moments = run
then_by images since calls old mid new P (Some file) run moments =
    then_run calls since old mid new (IsEarlierOr images P) (weaker calls since old mid images (IsEarlierOr images P) (λ c was. inl was) moments) (weaker calls since mid new P (IsEarlierOr images P) (λ c so. inr so) run)

pub looked_then : {D : Type 0} (reads : D → Option (List ℕ)) (images : D → List ℕ → Type 0) (since : D → ℕ → List ℕ → Type 0) (calls : D → ℕ) (old mid new : D) (P : List ℕ → Type 0) → OnlyLooks reads images since calls old mid
    → OnSome (reads mid) (HoldsThroughout calls since mid new P) → OnSome (reads old) (HoldsThroughout calls since old new (IsEarlierOr (images old) P))
looked_then reads images since calls old mid new P looks run =
    then_by (images old) since calls old mid new P (reads old) (subst (λ (o : Option (List ℕ)). OnSome o (HoldsThroughout calls since mid new P)) looks.same run) looks.moments
