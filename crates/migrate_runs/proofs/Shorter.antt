-- A journal of the present version is no longer than the one of the first version with the same posts.
use Rattle.migrate_runs.proofs.Common.{◌≡◌, ℕ, ℤ, ◌≤◌, List, [], ◌∷◌, ◌++◌, length, refl, ap, arith, length-append, AllZip, flat_map, framed, gated, mark_of, spelled, spelled_in, Five, Eight, Post, cuts_bytes, post_bytes, price_bytes, prices_bytes, slot_bytes, slots_bytes, spelling, spelling_by, twos_complement, u16_bytes, u32_bytes, u64_bytes, SpellSame}
use Rattle.head_splits.specs.declared.Prices.{Prices}
use Rattle.post_codec.specs.declared.post.Post.TheVariants.{Plan, Priced, Split, Settled}

price_five : (n : ℕ) → length (price_bytes Five n) ≡ 5
unfolding price_bytes u64_bytes
price_five n = refl

price_eight : (n : ℕ) → length (price_bytes Eight n) ≡ 8
unfolding price_bytes u64_bytes
price_eight n = refl

slots_shorter : (prices : List ℤ) → length (flat_map (slot_bytes Five) prices) ≤ length (flat_map (slot_bytes Eight) prices)
slots_shorter [] = omega arith
slots_shorter (p ∷ prices) =
    omega (arith, slots_shorter prices, price_five (twos_complement Five p), price_eight (twos_complement Eight p), length-append (slot_bytes Five p) (flat_map (slot_bytes Five) prices), length-append (slot_bytes Eight p) (flat_map (slot_bytes Eight) prices))

cuts_shorter : (prices : List ℕ) → length (flat_map (price_bytes Five) prices) ≤ length (flat_map (price_bytes Eight) prices)
cuts_shorter [] = omega arith
cuts_shorter (p ∷ prices) =
    omega (arith, cuts_shorter prices, price_five p, price_eight p, length-append (price_bytes Five p) (flat_map (price_bytes Five) prices), length-append (price_bytes Eight p) (flat_map (price_bytes Eight) prices))

prices_shorter : (p : Prices) → length (prices_bytes Five p) ≤ length (prices_bytes Eight p)
prices_shorter p =
    omega (
      arith,
      slots_shorter p.slots,
      cuts_shorter p.cuts,
      length-append (u16_bytes p.q ++ slots_bytes Five p.slots) (cuts_bytes Five p.cuts),
      length-append (u16_bytes p.q) (slots_bytes Five p.slots),
      length-append (u32_bytes (length p.slots)) (flat_map (slot_bytes Five) p.slots),
      length-append (u32_bytes (length p.cuts)) (flat_map (price_bytes Five) p.cuts),
      length-append (u16_bytes p.q ++ slots_bytes Eight p.slots) (cuts_bytes Eight p.cuts),
      length-append (u16_bytes p.q) (slots_bytes Eight p.slots),
      length-append (u32_bytes (length p.slots)) (flat_map (slot_bytes Eight) p.slots),
      length-append (u32_bytes (length p.cuts)) (flat_map (price_bytes Eight) p.cuts),
    )

post_shorter : (post : Post) → length (post_bytes Five post) ≤ length (post_bytes Eight post)
post_shorter (Plan worker rows cost) = omega arith
post_shorter (Priced worker node prices) =
    omega (arith, prices_shorter prices, length-append (u16_bytes worker ++ u32_bytes node) (prices_bytes Five prices), length-append (u16_bytes worker ++ u32_bytes node) (prices_bytes Eight prices))
post_shorter (Split worker node class m) = omega arith
post_shorter (Settled worker node) = omega arith

posts_shorter : (posts : List Post) → length (flat_map (post_bytes Five) posts) ≤ length (flat_map (post_bytes Eight) posts)
posts_shorter [] = omega arith
posts_shorter (p ∷ posts) =
    omega (arith, post_shorter p, posts_shorter posts, length-append (post_bytes Five p) (flat_map (post_bytes Five) posts), length-append (post_bytes Eight p) (flat_map (post_bytes Eight) posts))

spelling_shorter : (posts : List Post) → length (spelling posts) ≤ length (spelling_by Eight posts)
spelling_shorter posts =
    omega (arith, posts_shorter posts, length-append (u16_bytes (length posts)) (flat_map (post_bytes Five) posts), length-append (u16_bytes (length posts)) (flat_map (post_bytes Eight) posts))

-- a record, and then all of them
record_shorter : (old new : List ℕ) → SpellSame old new → length new ≤ length old
record_shorter old new same = omega (arith, spelling_shorter same.posts, ap length same.now.is, ap length same.before.is)

records_shorter : (old new : List (List ℕ)) → AllZip SpellSame old new → length (gated new) ≤ length (gated old)
records_shorter [] [] z = omega arith
records_shorter [] (n ∷ new) z = absurd z
records_shorter (o ∷ old) [] z = absurd z
records_shorter (o ∷ old) (n ∷ new) z =
    omega (arith, record_shorter o n z.0, records_shorter old new z.1, length-append (framed n) (gated new), length-append (framed o) (gated old))

pub journal_shorter : (head : List ℕ) (old new : List (List ℕ)) → AllZip SpellSame old new → length (spelled head new) ≤ length (spelled_in 49 head old)
journal_shorter head old new z =
    omega (arith, records_shorter old new z, length-append (mark_of 50 ++ framed head) (gated new), length-append (mark_of 49 ++ framed head) (gated old), length-append (mark_of 50) (framed head), length-append (mark_of 49) (framed head))
