-- The bytes that runs of reads take and runs of writes give.
use Rattle.plan_base.proofs.Common.{◌≡◌, ⊎_elim, ℕ, ◌+◌, ◌<◌, ◌≤◌, List, [], ◌++◌, length, take, drop, sym, ◌∙◌, ap, arith, append_assoc, length-append, append-nil, drop-drop, take-append-drop, ReadsAt, Option, None, Some, IfSome, Result, Ok, Err, OnErr, Consumes, Appends, IsAtEnd, Keeps}
use Rattle.std.proofs.Math.Seq.{take-add}
use Rattle.std.proofs.Math.ListN.{drop_of_length-le}

pub none_consumed : (a : Option (List ℕ)) (bs : List ℕ) → bs ≡ [] → Consumes a a bs
none_consumed None bs none = tt
none_consumed (Some xs) bs none = ap (λ (l : List ℕ). l ++ xs) (sym none)

pub more_consumed : (a b c : Option (List ℕ)) (bs cs : List ℕ) → Consumes a b bs → Consumes b c cs → Consumes a c (bs ++ cs)
more_consumed None b c bs cs first second = tt
more_consumed (Some xs) None c bs cs first second = absurd first
more_consumed (Some xs) (Some ys) None bs cs first second = absurd second
more_consumed (Some xs) (Some ys) (Some zs) bs cs first second = first ∙ ap (λ (l : List ℕ). bs ++ l) second ∙ sym (append_assoc bs cs zs)

-- a read that failed took nothing
pub kept_consumed : (a b c : Option (List ℕ)) (bs : List ℕ) → Consumes a b bs → Keeps b c → Consumes a c bs
kept_consumed None b c bs first kept = tt
kept_consumed (Some xs) None c bs first kept = absurd first
kept_consumed (Some xs) (Some ys) None bs first kept = absurd kept
kept_consumed (Some xs) (Some ys) (Some zs) bs first kept = first ∙ ap (λ (l : List ℕ). bs ++ l) (sym kept)

pub all_consumed : (a b : Option (List ℕ)) (bs : List ℕ) → Consumes a b bs → IsAtEnd b → IfSome a (λ left. bs ≡ left)
all_consumed None b bs taken end = tt
all_consumed (Some xs) None bs taken end = absurd taken
all_consumed (Some xs) (Some ys) bs taken end = sym (taken ∙ ap (λ (l : List ℕ). bs ++ l) end ∙ append-nil bs)

pub long_left : (a b : Option (List ℕ)) (bs : List ℕ) (n : ℕ) → Consumes a b bs → n < length bs → IfSome a (λ left. n < length left)
long_left None b bs n taken long = tt
long_left (Some xs) None bs n taken long = absurd taken
long_left (Some xs) (Some ys) bs n taken long = omega (arith, ap length taken, length-append bs ys)

-- a write goes on behind the first bytes
pub more_appended : (a b c : Option (List ℕ)) (bytes : List ℕ) (n m : ℕ) → Appends a b (take n bytes) → Appends b c (take m (drop n bytes)) → Appends a c (take (n + m) bytes)
more_appended None b c bytes n m first second = tt
more_appended (Some xs) None c bytes n m first second = absurd first
more_appended (Some xs) (Some ys) None bytes n m first second = absurd second
more_appended (Some xs) (Some ys) (Some zs) bytes n m first second =
    second ∙ ap (λ (l : List ℕ). l ++ take m (drop n bytes)) first ∙ append_assoc xs (take n bytes) (take m (drop n bytes)) ∙ ap (λ (l : List ℕ). xs ++ l) (sym (take-add n m bytes))

pub on_err : {T E : Type 0} (result : Result T E) (P : Type 0) → P → OnErr result P
on_err (Ok x) P p = tt
on_err (Err e) P p = p

-- a read at a place takes what stands there
pub read_on : (file : List ℕ) (at count : ℕ) (buffer : List ℕ) → ReadsAt file at buffer count
    → (drop at file ≡ take count buffer ++ drop (at + count) file) × (count ≡ 0 → 0 < length buffer → drop (at + count) file ≡ [])
read_on file at count buffer is = (
  sym (take-append-drop count (drop at file)) ∙ ap (λ (l : List ℕ). l ++ drop count (drop at file)) (sym is.bytes) ∙ ap (λ (l : List ℕ). take count buffer ++ l) (drop-drop count at file),
  λ none some. drop_of_length-le file (⊎_elim (λ empty. absurd (omega (arith, empty, some))) (λ (past : length file ≤ at). omega (arith, past, none)) (is.end none)),
)
