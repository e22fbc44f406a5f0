-- How many posts records spell.
use Rattle.migrate_runs.proofs.Common.{◌≡◌, ℕ, ◌+◌, ◌<◌, List, [], ◌++◌, length, map, take, get_or, refl, ◌∙◌, ap, arith, length-append, Vec, Global, Post, Spells, SpellPosts}
use Rattle.post_codec.proofs.Batches.{posts_once, spell_next}
use Rattle.post_codec.proofs.Formats.{one_list}

-- records that spell so many posts
abbrev pub IsCounted : List (Vec ℕ Global) → ℕ → Type 0
IsCounted records count = (posts : List Post) × SpellPosts (map (λ r. r.items) records) posts × (count ≡ length posts)

-- one record more
pub counted_more : (records : List (Vec ℕ Global)) (k : ℕ) (x : Vec ℕ Global) (count more : ℕ) (batch : List Post) → k < length records → x ≡ get_or records k x → IsCounted (take k records) count → Spells x.items batch → more ≡ length batch → IsCounted (take (k + 1) records) (count + more)
counted_more records k x count more batch small at before spells is = (
  before.0 ++ batch,
  spell_next (λ (r : Vec ℕ Global). r.items) records k x before.0 batch small at before.1 spells,
  omega (arith, before.2, is, length-append before.0 batch),
)

-- and no list of another length is spelled so
pub counted : (records : List (Vec ℕ Global)) (count : ℕ) → IsCounted records count → (posts : List Post) → SpellPosts (map (λ r. r.items) records) posts → count ≡ length posts
counted records count is posts spells =
    is.2 ∙ ap length (posts_once one_list (map (λ r. r.items) records) is.0 posts is.1 spells)
