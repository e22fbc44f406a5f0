-- A journal has at least five bytes for each record.
use Rattle.search_book.proofs.Common.{ℕ, ◌*◌, ◌≤◌, List, [], ◌∷◌, length, arith, length-append, gated, spelled}

gated_size : (records : List (List ℕ)) → 5 * length records ≤ length (gated records)
gated_size [] = omega arith
gated_size (record_ ∷ records) = omega (arith, gated_size records, length-append record_ (gated records))

pub few_records : (head : List ℕ) (records : List (List ℕ)) → 5 * length records ≤ length (spelled head records)
few_records head records = omega (arith, gated_size records, length-append head (gated records))
