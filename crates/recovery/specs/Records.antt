-- The book that the posts of records make.
use Rattle.std.specs.Prelude.{◌≡◌, ℕ, List, Some}
use Rattle.shift_instance.specs.Problem.{Problem}
use Rattle.post_codec.specs.declared.post.Post.{Post}
use Rattle.post_codec.specs.declared.price_width.PriceWidth.{PriceWidth}
use Rattle.post_codec.specs.declared.price_width.PriceWidth.TheVariants.{Five}
use Rattle.post_codec.specs.Batches.{SpellPostsBy}
use Rattle.search_core.specs.Book.{Book, book_of}

-- the records spell posts by a width of a price, which make the book of the opening one, each of them allowed
pub record MakeBookBy (w : PriceWidth) (i : Problem) (records : List (List ℕ)) (posts : List Post) (b : Book) : Type 0 where
  pub spell : SpellPostsBy w records posts
  pub make : book_of i posts ≡ Some b

-- the same by the spelling that journals keep
abbrev pub MakeBook : Problem → List (List ℕ) → List Post → Book → Type 0
MakeBook i records posts b = MakeBookBy Five i records posts b
