-- The limits of a command's numbers, and how many advisers serve.
use Rattle.solve_runs.proofs.Common.{◌≡◌, ℕ, zero, suc, ◌+◌, ◌-◌, ◌≤◌, List, [], ◌∷◌, length, min, take, arith, refl, subst, asked, IsWithin, workers_for}
use Rattle.std.proofs.Math.Nat.{min-le_left, min-le_right}
use Rattle.solve_words.specs.declared.command.Command.{Command}

-- the numbers of a command are within their limits, whatever it was matched as
pub still_within : (command matched : Command) → command ≡ matched → IsWithin (asked command) → IsWithin (asked matched)
still_within command matched is within = subst (λ (c : Command). IsWithin (asked c)) is within

-- so many advisers serve as workers are asked for, where there are enough
pub served_are : (asked have n served : ℕ) (advisers : List ℕ) → have ≡ workers_for advisers → length advisers ≡ n → asked ≤ have → served + (n - asked) ≡ n → (served ≡ asked) × (served ≤ 16)
served_are asked have n served advisers all many enough left =
    let lesser : have ≡ min 16 (length advisers) = all in
    let sixteen = min-le_left 16 (length advisers) in
    let each = min-le_right 16 (length advisers) in
    (omega (arith, lesser, sixteen, each, many, enough, left), omega (arith, lesser, sixteen, each, many, enough, left))

take_length : (xs : List ℕ) (n : ℕ) → n ≤ length xs → length (take n xs) ≡ n
take_length xs zero few = refl
take_length [] (suc n) few = absurd (omega arith)
take_length (x ∷ xs) (suc n) few = let rest : length (take n xs) ≡ n = take_length xs n (omega arith) in omega (arith, rest)

-- the first of enough advisers are enough
pub still_enough : (asked have : ℕ) (advisers : List ℕ) → have ≡ workers_for advisers → asked ≤ have → asked ≤ workers_for (take asked advisers)
still_enough asked have advisers all enough =
    let lesser : have ≡ min 16 (length advisers) = all in
    let sixteen = min-le_left 16 (length advisers) in
    let each = min-le_right 16 (length advisers) in
    let many : length (take asked advisers) ≡ asked = take_length advisers asked (omega (arith, lesser, each, enough)) in
    min-intro 16 (length (take asked advisers)) asked (omega (arith, lesser, sixteen, enough)) (omega (arith, many))
  where
    min-intro : (a b n : ℕ) → n ≤ a → n ≤ b → n ≤ min a b
    min-intro a b n one two = omega arith
