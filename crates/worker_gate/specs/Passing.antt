-- Passes of workers at a board: which turns appended posts, and whose these are. Source: this project's profile.
use Rattle.std.specs.Prelude.{◌≡◌, ℕ, ◌<◌, ◌≤◌, List, [], ◌∷◌, ◌++◌, Some, All, length, slice_get}
use Rattle.post_codec.specs.declared.post.Post.{Post}
use Rattle.post_codec.specs.declared.post.Post.TheVariants.{Plan, Priced, Split, Settled}
use Rattle.turn_lock.specs.declared.pass.Pass.{Pass}

-- the worker of a post
abbrev pub worker_of : Post → ℕ
worker_of (Plan worker rows c) = worker
worker_of (Priced worker k prices) = worker
worker_of (Split worker k class m) = worker
worker_of (Settled worker k) = worker

-- a pass that begins behind so many posts: some of the posts follow there, up to its end, and each has the seat's number as its worker
pub record IsPassAt (history : List Post) (from : ℕ) (p : Pass) : Type 0 where
  pub begins : p.from ≡ from
  pub some : p.from < p.to
  pub within : p.to ≤ length history
  pub own : (k : ℕ) (post : Post) → p.from ≤ k → k < p.to → slice_get history k ≡ Some post → worker_of post ≡ p.seat

-- the passes follow one another without a gap, from so many posts to so many
abbrev pub FollowOn : List Post → ℕ → List Pass → ℕ → Type 0
FollowOn history from [] to = from ≡ to
FollowOn history from (p ∷ passes) to = IsPassAt history from p × FollowOn history p.to passes to

-- posts of one worker are appended, if any
abbrev pub AppendsOf : ℕ → List Post → List Post → Type 0
AppendsOf worker old new = (posts : List Post) × (new ≡ old ++ posts) × All (λ post. worker_of post ≡ worker) posts
