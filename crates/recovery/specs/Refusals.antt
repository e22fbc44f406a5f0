-- Why records make no state.
use Rattle.std.specs.Prelude.{◌≡◌, ℕ, ⊤, List, Some, take, slice_get}
use Rattle.shift_instance.specs.Problem.{Problem}
use Rattle.post_codec.specs.declared.post.Post.{Post}
use Rattle.post_codec.specs.declared.fault.CodecFault.TheVariants.{Departs, NoMemory as NoMemoryForPosts}
use Rattle.post_codec.specs.declared.price_width.PriceWidth.{PriceWidth}
use Rattle.post_codec.specs.declared.price_width.PriceWidth.TheVariants.{Five}
use Rattle.post_codec.specs.Spelling.{SpellsBy}
use Rattle.post_codec.specs.Fields.{DepartAt}
use Rattle.search_core.specs.declared.fault.StepFault.{StepFault}
use Rattle.search_core.specs.Book.{Book}
use Rattle.search_core.specs.Taking.{IsRefused}
use Rattle.recovery.specs.declared.fault.Why.{Why}
use Rattle.recovery.specs.declared.fault.Why.TheVariants.{Codec, Step}
use Rattle.recovery.specs.declared.fault.RebuildFault.{RebuildFault}
use Rattle.recovery.specs.declared.fault.RebuildFault.TheVariants.{Rejected, NoMemory}
use Rattle.recovery.specs.Records.{MakeBookBy}

-- the bytes spell posts that a book doesn't take, the first of them that is refused by its number, from 0 on
pub record IsRefusedRecord (w : PriceWidth) (i : Problem) (b : Book) (bytes : List ℕ) (post : ℕ) (fault : StepFault) : Type 0 where
  pub posts : List Post
  pub spells : SpellsBy w bytes posts
  pub first : IsRefused i b posts post fault

-- why a book doesn't take a record: it spells no posts, or a post of it is refused
abbrev pub IsCause : PriceWidth → Problem → Book → List ℕ → Why → Type 0
IsCause w i b bytes (Codec (Departs at)) = DepartAt w bytes at
IsCause w i b bytes (Codec NoMemoryForPosts) = ⊥
IsCause w i b bytes (Step post fault) = IsRefusedRecord w i b bytes post fault

-- the records before that one, by its number from 0 on, make a book, which doesn't take this one for that cause
pub record IsFirstRejectedBy (w : PriceWidth) (i : Problem) (records : List (List ℕ)) (at : ℕ) (why : Why) : Type 0 where
  pub posts : List Post
  pub before : Book
  pub taken : MakeBookBy w i (take at records) posts before
  pub bytes : List ℕ
  pub next : slice_get records at ≡ Some bytes
  pub cause : IsCause w i before bytes why

-- the same by the spelling that journals keep
abbrev pub IsFirstRejected : Problem → List (List ℕ) → ℕ → Why → Type 0
IsFirstRejected i records at why = IsFirstRejectedBy Five i records at why

-- why records make no state: one is the first that is rejected, or no memory is left
abbrev pub RefusesBy : PriceWidth → Problem → List (List ℕ) → RebuildFault → Type 0
RefusesBy w i records (Rejected at why) = IsFirstRejectedBy w i records at why
RefusesBy w i records NoMemory = ⊤

-- the same by the spelling that journals keep
abbrev pub Refuses : Problem → List (List ℕ) → RebuildFault → Type 0
Refuses i records fault = RefusesBy Five i records fault
