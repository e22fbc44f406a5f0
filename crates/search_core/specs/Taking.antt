-- What posts add to a state, one after another.
use Rattle.std.specs.Prelude.{◌≡◌, ◌⊎◌, ℕ, List, ◌++◌, Some, None, slice_get, take}
use Rattle.shift_instance.specs.Problem.{Problem}
use Rattle.post_codec.specs.declared.post.Post.{Post}
use Rattle.search_core.specs.declared.refusal.Refusal.{Refusal}
use Rattle.search_core.specs.declared.fault.StepFault.{StepFault}
use Rattle.search_core.specs.declared.fault.StepFault.TheVariants.{NoMemory}
use Rattle.search_core.specs.Book.{Book, book_after, step}
use Rattle.search_core.specs.Faults.{step_fault}
use Rattle.search_core.specs.State.{StateView}

-- a state after posts that its book takes
pub record Takes (old : StateView) (posts : List Post) (new : StateView) : Type 0 where
  pub same : new.instance ≡ old.instance
  pub grows : new.history ≡ old.history ++ posts
  pub makes : book_after old.instance old.book posts ≡ Some new.book

-- of these posts a book takes the first ones, so many, and the book that they make doesn't allow the next, for that cause
pub record IsRefused (i : Problem) (b : Book) (posts : List Post) (count : ℕ) (fault : StepFault) : Type 0 where
  pub before : Book
  pub taken : book_after i b (take count posts) ≡ Some before
  pub post : Post
  pub next : slice_get posts count ≡ Some post
  pub refused : step i before post ≡ None
  pub cause : step_fault i before post ≡ Some fault

-- why posts aren't all taken: one is the first that is refused, by its place, or no memory is left
abbrev pub Stops : Problem → Book → List Post → Refusal → Type 0
Stops i b posts refusal = (refusal.why ≡ NoMemory) ⊎ IsRefused i b posts refusal.at refusal.why
