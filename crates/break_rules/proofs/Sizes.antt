-- Sizes of integers, of their sums and of their differences.
use Rattle.break_rules.proofs.Common.{ℕ, ◌+◌, ◌≤◌, ℤ, pos, negsuc, ◌+ℤ◌, ◌-ℤ◌, ◌≤ℤ◌, arith, ints}
use Rattle.std.specs.Int.RustNames.{unsigned_abs}

abs_bounds : (z : ℤ) (n : ℕ) → unsigned_abs z ≤ n → (z ≤ℤ pos n) × ((pos 0 -ℤ pos n) ≤ℤ z)
abs_bounds (pos a) n h = (omega (arith, ints), omega (arith, ints))
abs_bounds (negsuc a) n h = (omega (arith, ints), omega (arith, ints))

pub abs_within : (z : ℤ) (n : ℕ) → z ≤ℤ pos n → (pos 0 -ℤ pos n) ≤ℤ z → unsigned_abs z ≤ n
abs_within (pos a) n h l = omega (arith, ints)
abs_within (negsuc a) n h l = omega (arith, ints)

pub abs_add : (a b : ℤ) (m n : ℕ) → unsigned_abs a ≤ m → unsigned_abs b ≤ n → unsigned_abs (a +ℤ b) ≤ m + n
abs_add a b m n h g =
    let p : (a ≤ℤ pos m) × ((pos 0 -ℤ pos m) ≤ℤ a) = abs_bounds a m h in
    let q : (b ≤ℤ pos n) × ((pos 0 -ℤ pos n) ≤ℤ b) = abs_bounds b n g in
    abs_within (a +ℤ b) (m + n) (omega (arith, ints)) (omega (arith, ints))

pub abs_sub : (a b : ℤ) (m n : ℕ) → unsigned_abs a ≤ m → unsigned_abs b ≤ n → unsigned_abs (a -ℤ b) ≤ m + n
abs_sub a b m n h g =
    let p : (a ≤ℤ pos m) × ((pos 0 -ℤ pos m) ≤ℤ a) = abs_bounds a m h in
    let q : (b ≤ℤ pos n) × ((pos 0 -ℤ pos n) ≤ℤ b) = abs_bounds b n g in
    abs_within (a -ℤ b) (m + n) (omega (arith, ints)) (omega (arith, ints))
