-- Records of the first version, and those of the same posts as journals keep them.
use Rattle.std.specs.Prelude.{ℕ, List}
use Rattle.post_codec.specs.declared.price_width.PriceWidth.TheVariants.{Eight}
use Rattle.post_codec.specs.declared.post.Post.{Post}
use Rattle.post_codec.specs.Spelling.{CanSpell, Spells, SpellsBy}

-- a record spells the posts that another one spelled with prices of eight bytes
pub record SpellSame (old new : List ℕ) : Type 0 where
  pub posts : List Post
  pub before : SpellsBy Eight old posts
  pub now : Spells new posts

-- a record spells posts with prices of eight bytes, which have a spelling with prices of five
pub record CanRespell (bytes : List ℕ) : Type 0 where
  pub posts : List Post
  pub before : SpellsBy Eight bytes posts
  pub can : CanSpell posts
