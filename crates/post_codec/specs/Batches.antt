-- Posts in batches, one after another, each of which is spelled by itself.
use Rattle.std.specs.Prelude.{◌≡◌, ℕ, List}
use Rattle.std.specs.List.{AllZip, flat_map}
use Rattle.post_codec.specs.declared.price_width.PriceWidth.{PriceWidth}
use Rattle.post_codec.specs.declared.price_width.PriceWidth.TheVariants.{Five}
use Rattle.post_codec.specs.declared.post.Post.{Post}
use Rattle.post_codec.specs.Spelling.{SpellsBy}

-- batches of posts, joined
abbrev pub joined : List (List Post) → List Post
joined batches = flat_map (λ batch. batch) batches

-- each record is the spelling of a batch by a width of a price, and the batches joined are the posts
pub record SpellPostsBy (w : PriceWidth) (records : List (List ℕ)) (posts : List Post) : Type 0 where
  pub batches : List (List Post)
  pub spelled : AllZip (SpellsBy w) records batches
  pub all : joined batches ≡ posts

-- the same by the spelling that journals keep
abbrev pub SpellPosts : List (List ℕ) → List Post → Type 0
SpellPosts records posts = SpellPostsBy Five records posts
