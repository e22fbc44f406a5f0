-- No part of a line of the table has a line feed in it.
use Rattle.rota_writer.proofs.Common.{◌≡◌, ℕ, zero, suc, ◌+◌, ◌*◌, ◌/◌, ◌%◌, ◌≤◌, Bool, true, false, ◌==◌, ◌&&◌, not, List, [], ◌∷◌, ◌++◌, length, refl, subst, arith, nat_lt, nat_le, Option, Some, None, codes, eqb, slice_get, option_map_or, flat_map, list_all, decimal, digits, digits_onto, digit_glyph, All-nil, All-cons, All-append, All-get_or, Problem, Kind, IsKind, IsValid, IsLine, two_digits, clock, period_text, break_text, breaks_text, name_of}
use Rattle.std.proofs.lemmas.Bool.{and_parts, leb-true, cond_both}
use Rattle.std.proofs.lemmas.Option.{slice_get_within, get_or_from_slice_get}
use Rattle.break_rules.specs.declared.Break.{Break}
use Rattle.shift_instance.specs.Names.{is_name_byte}

-- a byte that is no line feed
abbrev IsOther : ℕ → Type 0
IsOther byte = byte ≡ 10 → ⊥

-- ---- texts

-- whether no byte is a line feed
abbrev has_no_feed : List ℕ → Bool
has_no_feed [] = true
has_no_feed (b ∷ bs) = not (eqb b 10) && has_no_feed bs

other_byte : (b : ℕ) → not (eqb b 10) ≡ true → IsOther b
other_byte b h = λ e. let same : not (eqb 10 10) ≡ true = subst (λ (n : ℕ). not (eqb n 10) ≡ true) e h in absurd cc

pub plain : (text : List ℕ) → has_no_feed text ≡ true → IsLine text
plain [] e = All-nil IsOther
plain (b ∷ bs) e = let p = and_parts (not (eqb b 10)) (has_no_feed bs) e in All-cons IsOther b bs (other_byte b p.0) (plain bs p.1)

pub joins : (a b : List ℕ) → IsLine a → IsLine b → IsLine (a ++ b)
joins a b h k = All-append IsOther a b h k

-- ---- numbers

glyph_other : (d : ℕ) → IsOther (digit_glyph false d)
glyph_other d =
    cond_both (nat_lt d 10) (48 + d) (87 + d) IsOther (λ _ e. let same : 48 + d ≡ 10 = e in omega arith) (λ _ e. let same : 87 + d ≡ 10 = e in omega arith)

onto_line : (k n : ℕ) (rest : List ℕ) → IsLine rest → IsLine (digits_onto k 10 false n rest)
onto_line zero n rest h = h
onto_line (suc k) n rest h =
    let glyph : ℕ = digit_glyph false (n % 10) in
    let one : IsLine (glyph ∷ rest) = All-cons IsOther glyph rest (glyph_other (n % 10)) h in
    cond_both (n / 10 == 0) (glyph ∷ rest) (digits_onto k 10 false (n / 10) (glyph ∷ rest)) IsLine (λ _. one) (λ _. onto_line k (n / 10) (glyph ∷ rest) one)

pub decimal_line : (n : ℕ) → IsLine (decimal n)
unfolding digits
decimal_line n = onto_line 64 n [] (All-nil IsOther)

-- ---- times

pub clock_line : (minutes : ℕ) → IsLine (clock minutes)
clock_line minutes =
    let two : (n : ℕ) → IsLine (two_digits n) = λ n. joins (decimal (n / 10)) (decimal (n % 10)) (decimal_line (n / 10)) (decimal_line (n % 10)) in
    let hours : List ℕ = two_digits (minutes % 1440 / 60) in
    joins (hours ++ codes ":") (two_digits (minutes % 1440 % 60)) (joins hours (codes ":") (two (minutes % 1440 / 60)) (plain (codes ":") refl)) (two (minutes % 1440 % 60))

pub period_line : (i : Problem) (first len : ℕ) → IsLine (period_text i first len)
period_line i first len =
    let begin : List ℕ = clock (first * i.slot_minutes) in
    joins (begin ++ codes "-") (clock ((first + len) * i.slot_minutes)) (joins begin (codes "-") (clock_line (first * i.slot_minutes)) (plain (codes "-") refl))
    (clock_line ((first + len) * i.slot_minutes))

further_line : (i : Problem) (start : ℕ) (bs : List Break) → IsLine (flat_map (λ next. codes "," ++ break_text i start next) bs)
further_line i start [] = All-nil IsOther
further_line i start (b ∷ bs) =
    joins (codes "," ++ break_text i start b) (flat_map (λ next. codes "," ++ break_text i start next) bs)
    (joins (codes ",") (break_text i start b) (plain (codes ",") refl) (period_line i (start + b.start) b.len)) (further_line i start bs)

pub breaks_line : (i : Problem) (start : ℕ) (bs : List Break) → IsLine (breaks_text i start bs)
breaks_line i start [] = plain (codes "-") refl
breaks_line i start (b ∷ bs) =
    joins (break_text i start b) (flat_map (λ next. codes "," ++ break_text i start next) bs) (period_line i (start + b.start) b.len) (further_line i start bs)

-- ---- names

bytes_line : (name : List ℕ) → list_all is_name_byte name ≡ true → IsLine name
bytes_line [] e = All-nil IsOther
bytes_line (b ∷ bs) e =
    let p = and_parts (is_name_byte b) (list_all is_name_byte bs) e in
    let seen : 33 ≤ b = leb-true 33 b (and_parts (nat_le 33 b) (nat_le b 126) p.0).0 in
    All-cons IsOther b bs (λ same. omega arith) (bytes_line bs p.1)

kind_line : (i : Problem) (k : Kind) → IsKind i k → IsLine k.name
kind_line i k is = bytes_line k.name (and_parts (nat_le 1 (length k.name) && nat_le (length k.name) 32) (list_all is_name_byte k.name) is.name).1

found_line : (i : Problem) (found : Option Kind) → ((k : Kind) → found ≡ Some k → IsKind i k) → IsLine (option_map_or (λ k. k.name) found [])
found_line i None is = All-nil IsOther
found_line i (Some k) is = kind_line i k (is k refl)

pub name_line : (i : Problem) (kind : ℕ) → IsValid i → IsLine (name_of i kind)
name_line i kind valid = found_line i (slice_get i.kinds kind) (λ k e.
    subst (IsKind i) (get_or_from_slice_get i.kinds kind k k e) (All-get_or (IsKind i) i.kinds kind k (slice_get_within i.kinds kind k e) valid.kinds))
