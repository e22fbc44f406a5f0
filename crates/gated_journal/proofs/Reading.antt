-- A file's bytes, read in pieces.
use Rattle.gated_journal.proofs.Common.{◌≡◌, ℕ, ◌+◌, ◌≤◌, List, [], ◌++◌, length, take, drop, refl, sym, ◌∙◌, ap, subst, arith, length-append, take-take, length-take-le, take_all, Option, None, Some, IfSome, ReadsAt}
use Rattle.std.proofs.Math.Seq.{take-add}

pub appended : (reads : Option (List ℕ)) (old new chunk : List ℕ) (got count : ℕ) → IfSome reads (λ file. ReadsAt file (length old) chunk got) → count ≤ got → new ≡ old ++ take count chunk
    → IfSome reads (λ file. old ≡ take (length old) file → new ≡ take (length new) file)
appended None old new chunk got count read less is = tt
appended (Some file) old new chunk got count read less is = λ so_far.
    let rest = drop (length old) file in
    let piece : take count chunk ≡ take count rest =
    sym (take-take count got chunk less) ∙ ap (take count) read.bytes ∙ take-take count got rest less in
    let size : length (take count rest) ≡ count = length-take-le count rest (omega (arith, read.within)) in
    let long : length new ≡ length old + count = ap length (is ∙ ap (λ (l : List ℕ). old ++ l) piece) ∙ length-append old (take count rest) ∙ ap (λ (n : ℕ). length old + n) size in
    is ∙ ap (λ (l : List ℕ). old ++ l) piece ∙ ap (λ (l : List ℕ). l ++ take count rest) so_far ∙ sym (take-add (length old) count file) ∙ ap (λ (n : ℕ). take n file) (sym long)

-- no bytes are the front of any file
pub none_read : (reads : Option (List ℕ)) (bytes : List ℕ) → bytes ≡ [] → IfSome reads (λ file. bytes ≡ take (length bytes) file)
none_read None bytes is = tt
none_read (Some file) bytes is = subst (λ (l : List ℕ). l ≡ take (length l) file) (sym is) refl

pub more_read : (reads before : Option (List ℕ)) (old new : List ℕ) → before ≡ reads → IfSome reads (λ file. old ≡ take (length old) file)
    → IfSome before (λ file. old ≡ take (length old) file → new ≡ take (length new) file) → IfSome reads (λ file. new ≡ take (length new) file)
more_read None before old new same so_far step = tt
more_read (Some file) before old new same so_far step =
    let step' = subst (λ (o : Option (List ℕ)). IfSome o (λ f. old ≡ take (length old) f → new ≡ take (length new) f)) same step in
    step' so_far

-- as many as were wanted
pub all_read : (reads : Option (List ℕ)) (bytes : List ℕ) (len : ℕ) → length bytes ≡ len → IfSome reads (λ file. bytes ≡ take (length bytes) file) → IfSome reads (λ file. bytes ≡ take len file)
all_read None bytes len is so_far = tt
all_read (Some file) bytes len is so_far = so_far ∙ ap (λ (n : ℕ). take n file) is

-- or as many as there are
pub read_to_end : (reads before : Option (List ℕ)) (old new : List ℕ) (len : ℕ) → before ≡ reads → length old ≤ len → IfSome reads (λ file. old ≡ take (length old) file) → IfSome before (λ file. length file ≤ length old) → new ≡ old
    → IfSome reads (λ file. new ≡ take len file)
read_to_end None before old new len same less so_far end is = tt
read_to_end (Some file) before old new len same less so_far end is =
    let end' = subst (λ (o : Option (List ℕ)). IfSome o (λ f. length f ≤ length old)) same end in
    is ∙ so_far ∙ take_all (length old) file end' ∙ sym (take_all len file (omega (arith, end', less)))
