-- A file stands for one header and one list of records, and then it is no fault.
use Rattle.gated_journal.proofs.Common.{◌≡◌, ◌≢◌, inl, inr, ⊎_elim, ℕ, ◌+◌, ◌<◌, ◌^◌, List, [], ◌∷◌, ◌++◌, length, get_or, take, drop, refl, sym, ◌∙◌, ap, arith, append_assoc, length-append, take_at, drop_at, mark_of, framed, gated, spelled_in, StandsFor, StandsIn, IsUnfinished, size_of, IsCut, IsNoneIn, IsNoJournal, IsOldVersion, IsDamagedIn, IsDamagedAt}
use Rattle.std.proofs.lemmas.Nat.{from_le_bytes-to_le_bytes_4}
use Rattle.gated_journal.proofs.Spelling.{length-framed}

-- the length that a frame begins with
pub size-framed : (a x : List ℕ) → length a < 2 ^ 32 → size_of (framed a ++ x) ≡ length a
size-framed a x short = from_le_bytes-to_le_bytes_4 (length a) short

pub framed_once : (a b x y : List ℕ) → length a < 2 ^ 32 → length b < 2 ^ 32 → framed a ++ x ≡ framed b ++ y → (a ≡ b) × (x ≡ y)
framed_once a b x y short short' same =
    let size : length a ≡ length b = sym (size-framed a x short) ∙ ap size_of same ∙ size-framed b y short' in
    let tail : a ++ x ≡ b ++ y = ap (drop 4) same in (
      sym (take_at a x (length a) refl) ∙ ap (take (length a)) tail ∙ take_at b y (length a) (sym size),
      sym (drop_at a x (length a) refl) ∙ ap (drop (length a)) tail ∙ drop_at b y (length a) (sym size),
    )

-- a record, and what is behind it
open_split : (a : List ℕ) (r : List (List ℕ)) (end : List ℕ) → gated (a ∷ r) ++ end ≡ 1 ∷ (framed a ++ (gated r ++ end))
open_split a r end = append_assoc (1 ∷ framed a) (gated r) end

length-open : (a : List ℕ) (r : List (List ℕ)) (end : List ℕ) → length (gated (a ∷ r) ++ end) ≡ 5 + length a + length (gated r ++ end)
length-open a r end = ap length (open_split a r end) ∙ omega (arith, length-append (framed a) (gated r ++ end), length-framed a)

pub gated_once : (r r' : List (List ℕ)) (g g' : ℕ) (t t' : List ℕ) → length (gated r ++ g ∷ t) < 2 ^ 32 → g ≢ 1 → g' ≢ 1 → gated r ++ g ∷ t ≡ gated r' ++ g' ∷ t' → r ≡ r'
gated_once [] [] g g' t t' short shut shut' same = refl
gated_once [] (b ∷ r') g g' t t' short shut shut' same = absurd (shut (ap (λ (l : List ℕ). get_or l 0 0) same))
gated_once (a ∷ r) [] g g' t t' short shut shut' same = absurd (shut' (sym (ap (λ (l : List ℕ). get_or l 0 0) same)))
gated_once (a ∷ r) (b ∷ r') g g' t t' short shut shut' same =
    let split : framed a ++ (gated r ++ g ∷ t) ≡ framed b ++ (gated r' ++ g' ∷ t') = ap (drop 1) (sym (open_split a r (g ∷ t)) ∙ same ∙ open_split b r' (g' ∷ t')) in
    let long = length-open a r (g ∷ t) in
    let once = framed_once a b (gated r ++ g ∷ t) (gated r' ++ g' ∷ t') (omega (arith, long)) (omega (arith, long, ap length same, length-open b r' (g' ∷ t'))) split in
    let rest : r ≡ r' = gated_once r r' g g' t t' (omega (arith, long)) shut shut' once.1 in
    λ i. once.0 i ∷ rest i

-- what is behind the mark
behind_mark : (digit : ℕ) (head : List ℕ) (records : List (List ℕ)) (end : List ℕ) → drop 8 (spelled_in digit head records ++ end) ≡ framed head ++ (gated records ++ end)
behind_mark digit head records end = append_assoc (framed head) (gated records) end

length-spelled : (digit : ℕ) (head : List ℕ) (records : List (List ℕ)) (end : List ℕ) → length (spelled_in digit head records ++ end) ≡ 12 + length head + length (gated records ++ end)
length-spelled digit head records end =
    ap length (append_assoc (mark_of digit ++ framed head) (gated records) end) ∙ omega (arith, length-append head (gated records ++ end))

pub stands_once_in : (digit limit : ℕ) (head head' : List ℕ) (records records' : List (List ℕ)) (file : List ℕ) → limit < 2 ^ 32 → StandsIn digit limit head records file → StandsIn digit limit head' records' file → (head ≡ head') × (records ≡ records')
stands_once_in digit limit head head' records records' file small one other =
    let end = one.gate ∷ one.rest in
    let end' = other.gate ∷ other.rest in
    let same : spelled_in digit head records ++ end ≡ spelled_in digit head' records' ++ end' = sym one.spells ∙ other.spells in
    let split : framed head ++ (gated records ++ end) ≡ framed head' ++ (gated records' ++ end') = sym (behind_mark digit head records end) ∙ ap (drop 8) same ∙ behind_mark digit head' records' end' in
    let long = length-spelled digit head records end in
    let long' = length-spelled digit head' records' end' in
    let once = framed_once head head' (gated records ++ end) (gated records' ++ end') (omega (arith, small, one.within, ap length one.spells, long)) (omega (arith, small, other.within, ap length other.spells, long')) split in
    (once.0, gated_once records records' one.gate other.gate one.rest other.rest (omega (arith, small, one.within, ap length one.spells, long)) one.closed other.closed once.1)

-- it begins as a journal
pub stands_journal_in : (digit limit : ℕ) (head : List ℕ) (records : List (List ℕ)) (file : List ℕ) → limit < 2 ^ 32 → StandsIn digit limit head records file → IsNoneIn digit file → ⊥
stands_journal_in digit limit head records file small stands (inl short) = omega (arith, short, ap length stands.spells, length-spelled digit head records (stands.gate ∷ stands.rest))
stands_journal_in digit limit head records file small stands (inr (inl other)) = other (ap (take 8) stands.spells)
stands_journal_in digit limit head records file small stands (inr (inr past)) =
    let end = stands.gate ∷ stands.rest in
    let long = length-spelled digit head records end in
    let size : size_of (drop 8 file) ≡ length head =
    ap (λ (l : List ℕ). size_of (drop 8 l)) stands.spells ∙ ap size_of (behind_mark digit head records end) ∙ size-framed head (gated records ++ end) (omega (arith, small, stands.within, ap length stands.spells, long)) in
    omega (arith, past, size, ap length stands.spells, long)

-- and isn't cut off
gated_whole : (r r' : List (List ℕ)) (g : ℕ) (t end : List ℕ) (first : List (List ℕ)) → length (gated r ++ g ∷ t) < 2 ^ 32 → g ≢ 1 → gated r ++ g ∷ t ≡ gated r' ++ end → IsCut first end → ⊥
gated_whole [] [] g t [] first short shut same cut = omega (arith, ap length same)
gated_whole [] [] g t (x ∷ end) first short shut same cut = shut (ap (λ (l : List ℕ). get_or l 0 0) same ∙ cut.0)
gated_whole [] (b ∷ r') g t end first short shut same cut = shut (ap (λ (l : List ℕ). get_or l 0 0) same)
gated_whole (a ∷ r) [] g t [] first short shut same cut = omega (arith, ap length same)
gated_whole (a ∷ r) [] g t (x ∷ end) first short shut same cut =
    let tail : end ≡ framed a ++ (gated r ++ g ∷ t) = ap (drop 1) (sym same ∙ open_split a r (g ∷ t)) in
    let long = length-open a r (g ∷ t) in
    let size : size_of end ≡ length a = ap size_of tail ∙ size-framed a (gated r ++ g ∷ t) (omega (arith, short, long)) in
    let behind = length-append (gated r) (g ∷ t) in
    ⊎_elim (λ less. omega (arith, less, ap length same, long, behind)) (λ less. omega (arith, less, size, ap length same, long, behind)) cut.1
gated_whole (a ∷ r) (b ∷ r') g t end first short shut same cut =
    let split : framed a ++ (gated r ++ g ∷ t) ≡ framed b ++ (gated r' ++ end) = ap (drop 1) (sym (open_split a r (g ∷ t)) ∙ same ∙ open_split b r' end) in
    let long = length-open a r (g ∷ t) in
    let once = framed_once a b (gated r ++ g ∷ t) (gated r' ++ end) (omega (arith, long, short)) (omega (arith, long, short, ap length same, length-open b r' end)) split in
    gated_whole r r' g t end first (omega (arith, long, short)) shut once.1 cut

pub stands_whole_in : (digit limit : ℕ) (head : List ℕ) (records : List (List ℕ)) (file : List ℕ) (at : ℕ) → limit < 2 ^ 32 → StandsIn digit limit head records file → IsDamagedIn digit limit file at → ⊥
stands_whole_in digit limit head records file at small stands (inl long) = omega (arith, long.0, stands.within)
stands_whole_in digit limit head records file at small stands (inr damage) =
    let cut = damage.1.1 in
    let head' = damage.1.0 in
    let end = stands.gate ∷ stands.rest in
    let same : spelled_in digit head records ++ end ≡ spelled_in digit head' cut.records ++ cut.rest = sym stands.spells ∙ cut.spells in
    let split : framed head ++ (gated records ++ end) ≡ framed head' ++ (gated cut.records ++ cut.rest) = sym (behind_mark digit head records end) ∙ ap (drop 8) same ∙ behind_mark digit head' cut.records cut.rest in
    let long = length-spelled digit head records end in
    let long' = length-spelled digit head' cut.records cut.rest in
    let once = framed_once head head' (gated records ++ end) (gated cut.records ++ cut.rest) (omega (arith, small, stands.within, ap length stands.spells, long)) (omega (arith, small, stands.within, ap length stands.spells, ap length same, long', long)) split in
    gated_whole records cut.records stands.gate stands.rest cut.rest cut.records (omega (arith, small, stands.within, ap length stands.spells, long)) stands.closed once.1 cut.cut

-- the same in the version that is written now
pub stands_once : (limit : ℕ) (head head' : List ℕ) (records records' : List (List ℕ)) (file : List ℕ) → limit < 2 ^ 32 → StandsFor limit head records file → StandsFor limit head' records' file → (head ≡ head') × (records ≡ records')
stands_once = stands_once_in 50

pub stands_journal : (limit : ℕ) (head : List ℕ) (records : List (List ℕ)) (file : List ℕ) → limit < 2 ^ 32 → StandsFor limit head records file → IsNoJournal file → ⊥
stands_journal = stands_journal_in 50

pub stands_whole : (limit : ℕ) (head : List ℕ) (records : List (List ℕ)) (file : List ℕ) (at : ℕ) → limit < 2 ^ 32 → StandsFor limit head records file → IsDamagedAt limit file at → ⊥
stands_whole = stands_whole_in 50

-- the two marks differ
pub stands_mark : (digit limit : ℕ) (head : List ℕ) (records : List (List ℕ)) (file : List ℕ) → StandsIn digit limit head records file → take 8 file ≡ mark_of digit
stands_mark digit limit head records file stands = ap (take 8) stands.spells

pub other_mark : (file : List ℕ) → take 8 file ≡ mark_of 50 → take 8 file ≡ mark_of 49 → ⊥
other_mark file new old = omega (arith, ap (λ (l : List ℕ). get_or l 6 0) (sym new ∙ old))

pub stands_new : (limit : ℕ) (head : List ℕ) (records : List (List ℕ)) (file : List ℕ) → StandsFor limit head records file → IsOldVersion file → ⊥
stands_new limit head records file stands old = other_mark file (stands_mark 50 limit head records file stands) old

-- what an unfinished file doesn't begin with
no_mark : (digit : ℕ) (file : List ℕ) → IsUnfinished file → take 8 file ≡ mark_of digit → ⊥
no_mark digit [] (inl short) is = omega (arith, ap length is)
no_mark digit (a ∷ []) (inl short) is = omega (arith, ap length is)
no_mark digit (a ∷ b ∷ file) (inl short) is = omega (arith, short)
no_mark digit [] (inr other) is = omega (arith, ap length is)
no_mark digit (a ∷ file) (inr other) is = other (ap (λ (x : ℕ). x ∷ []) (ap (λ (l : List ℕ). get_or l 0 0) is))

pub unfinished_refused : (file : List ℕ) → IsUnfinished file → IsNoJournal file × (IsOldVersion file → ⊥)
unfinished_refused file so = (inr (inl (no_mark 50 file so)), no_mark 49 file so)
