-- The shift list, made.
use Rattle.shift_instance.proofs.Common.{◌≡◌, ℕ, suc, ◌+◌, ◌-◌, ◌*◌, ◌<◌, ◌≤◌, List, [], ◌∷◌, ◌++◌, map, length, refl, sym, ap, ◌∙◌, subst, arith, None, append_assoc, length-append, All, flat_map, enumerate_from, range_with_len, append-nil, map_push, map-append, length-map, All-weaker, Rule, first_cause, ranges_from_none, Node, Shift, Kind, Problem, day_slots, shifts_of_kind, from_to, shift_at, starting, shifts_of, IsListed, AreGraphs, IsValid, IsKind, IsInside, instance_causes}
use Rattle.std.proofs.lemmas.List.FromFn.{length-range_with_len}
use Rattle.std.proofs.lemmas.Grind.{flat_map-append}
use Rattle.break_rules.specs.Ranges.{IsRule}
use Rattle.shift_instance.proofs.Judged.{valid_from_none}
use Rattle.shift_instance.proofs.Ranges.{range_next}

firsts_of_start : (kind start : ℕ) (rule : Rule) (lens : List ℕ) → map (λ (x : Shift × Rule). x.0) (map (λ len. (record { kind = kind; start = start; len = len }, rule)) lens) ≡ map (shift_at kind start) lens
firsts_of_start kind start rule [] = refl
firsts_of_start kind start rule (l ∷ lens) = ap (λ xs. shift_at kind start l ∷ xs) (firsts_of_start kind start rule lens)

firsts_of_starts : (p : ℕ × Kind) (starts : List ℕ) → map (λ (x : Shift × Rule). x.0) (flat_map (λ start. map (λ len. (record { kind = p.0; start = start; len = len }, p.1.rule)) (from_to p.1.len_min p.1.len_max)) starts) ≡ flat_map (starting p.0 p.1) starts
firsts_of_starts p [] = refl
firsts_of_starts p (s ∷ starts) =
    let f = λ (start : ℕ). map (λ len. (record { kind = p.0; start = start; len = len }, p.1.rule)) (from_to p.1.len_min p.1.len_max) in
    map-append (λ (x : Shift × Rule). x.0) (f s) (flat_map f starts)
    ∙ ap (λ xs. xs ++ map (λ (x : Shift × Rule). x.0) (flat_map f starts)) (firsts_of_start p.0 s p.1.rule (from_to p.1.len_min p.1.len_max))
    ∙ ap (λ xs. starting p.0 p.1 s ++ xs) (firsts_of_starts p starts)

pub firsts_of_kinds : (ps : List (ℕ × Kind)) → map (λ (x : Shift × Rule). x.0) (flat_map shifts_of_kind ps) ≡ flat_map shifts_of ps
firsts_of_kinds [] = refl
firsts_of_kinds (p ∷ ps) =
    map-append (λ (x : Shift × Rule). x.0) (shifts_of_kind p) (flat_map shifts_of_kind ps)
    ∙ ap (λ xs. xs ++ map (λ (x : Shift × Rule). x.0) (flat_map shifts_of_kind ps)) (firsts_of_starts p (from_to p.1.start_min p.1.start_max))
    ∙ ap (λ xs. shifts_of p ++ xs) (firsts_of_kinds ps)

-- how many shifts a type has
length_starts : (p : ℕ × Kind) (starts : List ℕ) → length {A = Shift × Rule} (flat_map (λ start. map (λ len. (record { kind = p.0; start = start; len = len }, p.1.rule)) (from_to p.1.len_min p.1.len_max)) starts) ≡ length starts * (p.1.len_max + 1 - p.1.len_min)
length_starts p [] = omega arith
length_starts p (s ∷ starts) =
    let f : ℕ → List (Shift × Rule) = λ start. map (λ len. (record { kind = p.0; start = start; len = len }, p.1.rule)) (from_to p.1.len_min p.1.len_max) in
    let a : length (f s ++ flat_map f starts) ≡ length (f s) + length (flat_map f starts) = length-append (f s) (flat_map f starts) in
    let g : ℕ → Shift × Rule = λ len. (record { kind = p.0; start = s; len = len }, p.1.rule) in
    let b : length (f s) ≡ p.1.len_max + 1 - p.1.len_min = length-map (from_to p.1.len_min p.1.len_max) g ∙ length-range_with_len p.1.len_min (p.1.len_max + 1 - p.1.len_min) in
    let c : length (flat_map f starts) ≡ length starts * (p.1.len_max + 1 - p.1.len_min) = length_starts p starts in
    omega arith

pub length_kind : (n : ℕ) (k : Kind) → length (shifts_of_kind (n, k)) ≡ (k.start_max + 1 - k.start_min) * (k.len_max + 1 - k.len_min)
length_kind n k =
    length_starts (n, k) (from_to k.start_min k.start_max) ∙ ap (λ (m : ℕ). m * (k.len_max + 1 - k.len_min)) (length-range_with_len k.start_min (k.start_max + 1 - k.start_min))

-- the loops that list shifts
grown : (F : List ℕ → List Shift) (G : ℕ → List Shift) → ((xs : List ℕ) (x : ℕ) → F (xs ++ x ∷ []) ≡ F xs ++ G x) → (base items new : List Shift) (low at : ℕ) → low ≤ at → items ≡ base ++ F (range_with_len low (at - low)) → new ≡ items ++ G at → new ≡ base ++ F (range_with_len low (at + 1 - low))
grown F G step base items new low at fits e pushed =
    let n : at + 1 - low ≡ suc (at - low) = omega arith in
    let here : low + (at - low) ≡ at = omega arith in
    let more : F (range_with_len low (at + 1 - low)) ≡ F (range_with_len low (at - low)) ++ G at =
    ap (λ (k : ℕ). F (range_with_len low k)) n ∙ ap F (range_next low (at - low)) ∙ ap (λ (k : ℕ). F (range_with_len low (at - low) ++ k ∷ [])) here ∙ step (range_with_len low (at - low)) at in
    pushed ∙ ap (λ xs. xs ++ G at) e ∙ append_assoc base (F (range_with_len low (at - low))) (G at) ∙ ap (λ xs. base ++ xs) (sym more)

pub lengths_more : (number start low at : ℕ) (base items new : List Shift) → low ≤ at → items ≡ base ++ map (shift_at number start) (range_with_len low (at - low)) → new ≡ items ++ shift_at number start at ∷ [] → new ≡ base ++ map (shift_at number start) (range_with_len low (at + 1 - low))
lengths_more number start low at base items new fits e pushed = grown (map (shift_at number start)) (λ x. shift_at number start x ∷ []) (λ xs x. map_push (shift_at number start) xs x) base items new low at fits e pushed

pub starts_more : (number low at : ℕ) (kind : Kind) (base items new : List Shift) → low ≤ at → items ≡ base ++ flat_map (starting number kind) (range_with_len low (at - low)) → new ≡ items ++ starting number kind at → new ≡ base ++ flat_map (starting number kind) (range_with_len low (at + 1 - low))
starts_more number low at kind base items new fits e pushed =
    grown (flat_map (starting number kind)) (starting number kind) (λ xs x. flat_map-append (starting number kind) xs (x ∷ []) ∙ ap (λ ys. flat_map (starting number kind) xs ++ ys) (append-nil (starting number kind x))) base items new low at fits e pushed

-- what making the list asks of types
pub listed : (i : Problem) → IsValid i → All IsListed i.kinds
listed i valid = All-weaker (IsKind i) IsListed (λ k is.
    let a : k.start_max < 2 * day_slots i = is.early in
    let b : k.len_max ≤ day_slots i = is.short in
    let c : day_slots i ≤ 288 = valid.day_limit in
    record { starts = is.starts; lengths = is.lengths; early = omega arith; short = omega arith }) i.kinds valid.kinds

-- the end of a loop over the numbers from one to another
pub lengths_all : (number start at : ℕ) (kind : Kind) (base items : List Shift) → IsListed kind → (kind.len_min ≤ kind.len_max + 1 → at ≤ kind.len_max + 1) → kind.len_max + 1 ≤ at → items ≡ base ++ map (shift_at number start) (range_with_len kind.len_min (at - kind.len_min)) → items ≡ base ++ starting number kind start
lengths_all number start at kind base items ok short long e =
    let fits : kind.len_min ≤ kind.len_max = ok.lengths in
    let same : at ≡ kind.len_max + 1 = omega (arith, short (omega arith)) in
    e ∙ ap (λ (k : ℕ). base ++ map (shift_at number start) (range_with_len kind.len_min (k - kind.len_min))) same

pub starts_all : (number at : ℕ) (kind : Kind) (base items : List Shift) → IsListed kind → (kind.start_min ≤ kind.start_max + 1 → at ≤ kind.start_max + 1) → kind.start_max + 1 ≤ at → items ≡ base ++ flat_map (starting number kind) (range_with_len kind.start_min (at - kind.start_min)) → items ≡ base ++ shifts_of (number, kind)
starts_all number at kind base items ok short long e =
    let fits : kind.start_min ≤ kind.start_max = ok.starts in
    let same : at ≡ kind.start_max + 1 = omega (arith, short (omega arith)) in
    e ∙ ap (λ (k : ℕ). base ++ flat_map (starting number kind) (range_with_len kind.start_min (k - kind.start_min))) same

-- what an instance keeps
pub inside : (i : Problem) (kinds : List Kind) (shifts : List Shift) (graphs : List (List (List Node))) → None ≡ first_cause (instance_causes i) → kinds ≡ i.kinds → shifts ≡ flat_map shifts_of (enumerate_from 0 kinds) → AreGraphs kinds graphs
    → IsInside i shifts graphs
inside i kinds shifts graphs h same e drawn =
    record {
      valid = valid_from_none i (sym h);
      faultless = sym h;
      listed = e ∙ ap (λ ks. flat_map shifts_of (enumerate_from 0 ks)) same ∙ sym (firsts_of_kinds (enumerate_from 0 i.kinds));
      drawn = subst (λ (ks : List Kind). AreGraphs ks graphs) same drawn;
    }

pub listed_kinds : (i : Problem) (kinds : List Kind) → None ≡ first_cause (instance_causes i) → kinds ≡ i.kinds → All IsListed kinds
listed_kinds i kinds h same = subst (λ ks. All IsListed ks) (sym same) (listed i (valid_from_none i (sym h)))

pub few_listed : (i : Problem) (kinds : List Kind) → None ≡ first_cause (instance_causes i) → kinds ≡ i.kinds → length kinds ≤ 16
few_listed i kinds h same = subst (λ (ks : List Kind). length ks ≤ 16) (sym same) (valid_from_none i (sym h)).types

pub ruled_kinds : (i : Problem) (kinds : List Kind) → None ≡ first_cause (instance_causes i) → kinds ≡ i.kinds → All (λ (k : Kind). IsRule k.rule) kinds
ruled_kinds i kinds h same =
    let valid = valid_from_none i (sym h) in
    subst (λ (ks : List Kind). All (λ (k : Kind). IsRule k.rule) ks) (sym same) (All-weaker (IsKind i) (λ (k : Kind). IsRule k.rule) (λ k is. ranges_from_none k.rule is.passes) i.kinds valid.kinds)
