-- The bytes that a journal uses.
use Rattle.search_book.proofs.Common.{◌≡◌, ℕ, ◌+◌, List, [], ◌∷◌, ◌++◌, length, arith, length-append, gated, fresh, end_after, bytes_used}

gated_more : (records : List (List ℕ)) (bytes : List ℕ) → length (gated (records ++ bytes ∷ [])) ≡ length (gated records) + 5 + length bytes
gated_more [] bytes = omega (arith, length-append bytes (gated []))
gated_more (record_ ∷ records) bytes = omega (arith, gated_more records bytes, length-append record_ (gated (records ++ bytes ∷ [])), length-append record_ (gated records))

pub used_more : (head : List ℕ) (records : List (List ℕ)) (bytes : List ℕ) → bytes_used head (records ++ bytes ∷ []) ≡ bytes_used head records + 5 + length bytes
unfolding bytes_used
used_more head records bytes = omega (arith, gated_more records bytes, length-append head (gated (records ++ bytes ∷ [])), length-append head (gated records))

pub end_is : (head : List ℕ) (records : List (List ℕ)) (count : ℕ) → end_after head records count ≡ bytes_used head records + 5 + count
unfolding bytes_used
end_is head records count = omega arith

pub used_fresh : (head : List ℕ) → bytes_used head [] ≡ length (fresh head)
unfolding bytes_used
used_fresh head = omega (arith, length-append head (gated []), length-append head (0 ∷ []))
