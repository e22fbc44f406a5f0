-- What records add to a state, one after another. Contracts of private functions speak of it.
use Rattle.std.specs.Prelude.{◌≡◌, ◌⊎◌, ℕ, List}
use Rattle.shift_instance.specs.Problem.{Problem}
use Rattle.post_codec.specs.declared.post.Post.{Post}
use Rattle.post_codec.specs.declared.fault.CodecFault.TheVariants.{Departs, NoMemory as NoMemoryForPosts}
use Rattle.post_codec.specs.declared.price_width.PriceWidth.{PriceWidth}
use Rattle.post_codec.specs.Spelling.{SpellsBy}
use Rattle.post_codec.specs.Fields.{IsFaultOf}
use Rattle.search_core.specs.declared.fault.StepFault.TheVariants.{NotLegal, WrongCost, NotBetter, NoNode, IsSplit, NotOpen, NotLive, OutOfRange, NotSettled, Price, NoMemory as NoMemoryForPost}
use Rattle.search_core.specs.Book.{Book}
use Rattle.search_core.specs.State.{StateView}
use Rattle.search_core.specs.Taking.{Takes}
use Rattle.recovery.specs.declared.fault.Why.{Why}
use Rattle.recovery.specs.declared.fault.Why.TheVariants.{Codec, Step}
use Rattle.recovery.specs.declared.fault.RebuildFault.{RebuildFault}
use Rattle.recovery.specs.declared.fault.RebuildFault.TheVariants.{Rejected, NoMemory}
use Rattle.recovery.specs.Refusals.{IsRefusedRecord}

-- a state after the posts that a record spells
pub record TakesRecord (w : PriceWidth) (old : StateView) (bytes : List ℕ) (new : StateView) : Type 0 where
  pub posts : List Post
  pub spells : SpellsBy w bytes posts
  pub takes : Takes old posts new

-- why a record isn't taken: it spells no posts, or one is the first that is refused, or no memory is left
abbrev pub RecordStops : PriceWidth → Problem → Book → List ℕ → Why → Type 0
RecordStops w i b bytes (Codec fault) = IsFaultOf w bytes fault
RecordStops w i b bytes (Step post fault) = (fault ≡ NoMemoryForPost) ⊎ IsRefusedRecord w i b bytes post fault

-- why the records stop at one that isn't taken for that reason: it is rejected, or no memory is left
abbrev pub fault_at : ℕ → Why → RebuildFault
fault_at at (Codec (Departs offset)) = Rejected at (Codec (Departs offset))
fault_at at (Codec NoMemoryForPosts) = NoMemory
fault_at at (Step post (NotLegal fault)) = Rejected at (Step post (NotLegal fault))
fault_at at (Step post (WrongCost kept found)) = Rejected at (Step post (WrongCost kept found))
fault_at at (Step post (NotBetter best)) = Rejected at (Step post (NotBetter best))
fault_at at (Step post (NoNode node)) = Rejected at (Step post (NoNode node))
fault_at at (Step post (IsSplit node)) = Rejected at (Step post (IsSplit node))
fault_at at (Step post (NotOpen floor best)) = Rejected at (Step post (NotOpen floor best))
fault_at at (Step post (NotLive class)) = Rejected at (Step post (NotLive class))
fault_at at (Step post (OutOfRange lo hi)) = Rejected at (Step post (OutOfRange lo hi))
fault_at at (Step post (NotSettled class)) = Rejected at (Step post (NotSettled class))
fault_at at (Step post (Price fault)) = Rejected at (Step post (Price fault))
fault_at at (Step post NoMemoryForPost) = NoMemory
