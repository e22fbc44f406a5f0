use Rattle.search_book.proofs.Common.{◌≡◌, ◌≤◌, ◌-◌, length, take}
use Rattle.search_book.proofs.head.difference.Given as goal

abbrev pub invariant-loop-at : goal.invariant-loop-at
invariant-loop-at l = (take l.at l.text ≡ take l.at l.other) × (l.at ≤ length l.text) × (l.at ≤ length l.other)

abbrev pub decreases-loop-at : goal.decreases-loop-at
decreases-loop-at l = length l.text - l.at
