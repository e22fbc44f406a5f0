-- Small bytes, read and spelled.
use Rattle.post_codec.proofs.Common.{◌≡◌, [], ◌∷◌, Ok, Err, refl, negsuc, Five, Eight, Plan, Priced, Split, Settled, spelling, spelling_by, u16_bytes, u32_bytes, u64_bytes, price_bytes, reading, times, breaks_at, rows_at, class_at, slot_at, slots_at, cuts_at, prices_at, plan_at, priced_at, split_at, settled_at, post_at, posts_at}

plan_spelled : spelling (Plan 0 (record { shift = 3; day = 1; breaks = record { start = 3; len = 1 } ∷ []; count = 2 } ∷ []) 7 ∷ [])
    ≡ 1 ∷ 0 ∷ 1 ∷ 0 ∷ 0 ∷ 7 ∷ 0 ∷ 0 ∷ 0 ∷ 0 ∷ 0 ∷ 0 ∷ 0 ∷ 1 ∷ 0 ∷ 0 ∷ 0 ∷ 3 ∷ 0 ∷ 1 ∷ 2 ∷ 0 ∷ 1 ∷ 3 ∷ 0 ∷ 1 ∷ 0 ∷ []
unfolding u16_bytes u32_bytes u64_bytes
plan_spelled = refl

-- a plan of no rows
plan_read : reading Five (1 ∷ 0 ∷ 1 ∷ 2 ∷ 1 ∷ 7 ∷ 0 ∷ 0 ∷ 0 ∷ 0 ∷ 0 ∷ 0 ∷ 0 ∷ 0 ∷ 0 ∷ 0 ∷ 0 ∷ []) ≡ Ok (Plan 258 [] 7 ∷ [])
unfolding times rows_at plan_at post_at posts_at
plan_read = refl

-- the slot price -2 and the cut price 9
priced_spelled : spelling (Priced 3 7 (record { q = 100; slots = negsuc 1 ∷ []; cuts = 9 ∷ [] }) ∷ [])
    ≡ 1 ∷ 0 ∷ 2 ∷ 3 ∷ 0 ∷ 7 ∷ 0 ∷ 0 ∷ 0 ∷ 100 ∷ 0 ∷ 1 ∷ 0 ∷ 0 ∷ 0 ∷ 254 ∷ 255 ∷ 255 ∷ 255 ∷ 255 ∷ 1 ∷ 0 ∷ 0 ∷ 0 ∷ 9 ∷ 0 ∷ 0 ∷ 0 ∷ 0 ∷ []
unfolding u16_bytes u32_bytes u64_bytes price_bytes
priced_spelled = refl

priced_read : reading Five (1 ∷ 0 ∷ 2 ∷ 3 ∷ 0 ∷ 7 ∷ 0 ∷ 0 ∷ 0 ∷ 100 ∷ 0 ∷ 1 ∷ 0 ∷ 0 ∷ 0 ∷ 254 ∷ 255 ∷ 255 ∷ 255 ∷ 255 ∷ 0 ∷ 0 ∷ 0 ∷ 0 ∷ [])
    ≡ Ok (Priced 3 7 (record { q = 100; slots = negsuc 1 ∷ []; cuts = [] }) ∷ [])
unfolding times slot_at slots_at cuts_at prices_at priced_at post_at posts_at
priced_read = refl

-- the same by the spelling of the first version
priced_spelled_before : spelling_by Eight (Priced 3 7 (record { q = 100; slots = negsuc 1 ∷ []; cuts = 9 ∷ [] }) ∷ [])
    ≡ 1 ∷ 0 ∷ 2 ∷ 3 ∷ 0 ∷ 7 ∷ 0 ∷ 0 ∷ 0 ∷ 100 ∷ 0 ∷ 1 ∷ 0 ∷ 0 ∷ 0 ∷ 254 ∷ 255 ∷ 255 ∷ 255 ∷ 255 ∷ 255 ∷ 255 ∷ 255 ∷ 1 ∷ 0 ∷ 0 ∷ 0 ∷ 9 ∷ 0 ∷ 0 ∷ 0 ∷ 0 ∷ 0 ∷ 0 ∷ 0 ∷ []
unfolding u16_bytes u32_bytes u64_bytes price_bytes
priced_spelled_before = refl

split_spelled : spelling (Split 1 5 (record { shift = 4; day = 6; prefix = record { start = 8; len = 1 } ∷ [] }) 2 ∷ [])
    ≡ 1 ∷ 0 ∷ 3 ∷ 1 ∷ 0 ∷ 5 ∷ 0 ∷ 0 ∷ 0 ∷ 4 ∷ 0 ∷ 6 ∷ 1 ∷ 8 ∷ 0 ∷ 1 ∷ 0 ∷ 2 ∷ 0 ∷ []
unfolding u16_bytes u32_bytes u64_bytes
split_spelled = refl

split_read : reading Five (1 ∷ 0 ∷ 3 ∷ 1 ∷ 0 ∷ 5 ∷ 0 ∷ 0 ∷ 0 ∷ 4 ∷ 0 ∷ 6 ∷ 0 ∷ 2 ∷ 0 ∷ []) ≡ Ok (Split 1 5 (record { shift = 4; day = 6; prefix = [] }) 2 ∷ [])
unfolding times breaks_at class_at split_at post_at posts_at
split_read = refl

settled_spelled : spelling (Settled 2 258 ∷ []) ≡ 1 ∷ 0 ∷ 4 ∷ 2 ∷ 0 ∷ 2 ∷ 1 ∷ 0 ∷ 0 ∷ []
unfolding u16_bytes u32_bytes u64_bytes
settled_spelled = refl

-- the node begins at 5 and isn't whole
short_node : reading Five (1 ∷ 0 ∷ 4 ∷ 2 ∷ 0 ∷ 2 ∷ 1 ∷ 0 ∷ []) ≡ Err 5
unfolding times settled_at post_at posts_at
short_node = refl

-- the cost begins at 5 and isn't whole
short_field : reading Five (1 ∷ 0 ∷ 1 ∷ 2 ∷ 0 ∷ 2 ∷ 1 ∷ 0 ∷ []) ≡ Err 5
unfolding times plan_at post_at posts_at
short_field = refl

-- no kind of post has this tag
other_tag : reading Five (1 ∷ 0 ∷ 5 ∷ 2 ∷ 0 ∷ []) ≡ Err 2
unfolding times post_at posts_at
other_tag = refl

-- a byte after the last post
trailing : reading Five (0 ∷ 0 ∷ 9 ∷ []) ≡ Err 2
unfolding times posts_at
trailing = refl

-- a post is missing
no_tag : reading Five (1 ∷ 0 ∷ []) ≡ Err 2
unfolding times post_at posts_at
no_tag = refl

-- the number of posts is missing
empty : reading Five [] ≡ Err 0
unfolding posts_at
empty = refl
