-- A disk: what its calls make of its content, and what a crash leaves (an image) at each moment. A moment is a number of calls made so far.
use Rattle.std.specs.Prelude.{◌≡◌, ◌⊎◌, ℕ, ◌+◌, ◌≤◌, max, min, List, ◌++◌, length, take, drop, Option, None, Some, ⊤, IfSome, OnSome}

-- the content with other bytes from a place on, which may reach past its end
abbrev pub overwritten : ℕ → List ℕ → List ℕ → List ℕ
overwritten at bytes content = take at content ++ bytes ++ drop (at + length bytes) content

-- a crash in a write of `count` bytes: what the range holds and how far it got is open, and nothing outside changes
pub record WritesPart (at count : ℕ) (image later : List ℕ) : Type 0 where
  pub front : take at later ≡ take at image
  pub back : drop (at + count) later ≡ drop (at + count) image
  pub least : length image ≤ length later
  pub most : length later ≤ max (length image) (at + count)

-- a crash in a cut to `count` bytes: the image ends there, at its own end, or between
pub record CutsPart (count : ℕ) (image later : List ℕ) : Type 0 where
  pub least : min count (length image) ≤ length later
  pub front : take (length later) image ≡ later

-- a call that takes its step from the images there were to those there are
abbrev pub StepsFrom : (List ℕ → List ℕ → Type 0) → (List ℕ → Type 0) → (List ℕ → Type 0) → Type 0
StepsFrom Step before now = (later : List ℕ) → now later → (image : List ℕ) × before image × Step image later

-- every image is this file
abbrev pub IsOnlyImage : List ℕ → (List ℕ → Type 0) → Type 0
IsOnlyImage file images = (image : List ℕ) → images image → image ≡ file

-- a crash leaves what a read gives, where that is told
abbrev pub IsSynced : Option (List ℕ) → (List ℕ → Type 0) → Type 0
IsSynced reads images = IfSome reads (λ file. IsOnlyImage file images)

-- the content is told before and after, or neither time
abbrev pub TellsAlike : Option (List ℕ) → Option (List ℕ) → Type 0
TellsAlike None None = ⊤
TellsAlike (Some before) (Some now) = ⊤
TellsAlike None (Some now) = ⊥
TellsAlike (Some before) None = ⊥

-- one call goes by: the images since an earlier moment stay, and those there are now join them
pub record AddsMoment (calls : ℕ) (before now : ℕ → List ℕ → Type 0) (images : List ℕ → Type 0) : Type 0 where
  pub others : (moment : ℕ) (image : List ℕ) → moment ≤ calls → now moment image → before moment image ⊎ images image
  pub stay : (moment : ℕ) (image : List ℕ) → moment ≤ calls → before moment image → now moment image

-- whatever the moment of a crash between the two states of a disk, its image is so
pub record HoldsThroughout {D : Type 0} (calls : D → ℕ) (images_since : D → ℕ → List ℕ → Type 0) (old new : D) (IsSo : List ℕ → Type 0) : Type 0 where
  pub counted : calls old ≤ calls new
  pub between : (image : List ℕ) → images_since new (calls old) image → IsSo image
  -- since a moment before these calls there are only the images from before, and such ones
  pub earlier : (moment : ℕ) (image : List ℕ) → moment ≤ calls old → images_since new moment image → images_since old moment image ⊎ IsSo image

-- a read at a place: the buffer begins with what the file has there, and only at its end is that nothing
pub record ReadsAt (file : List ℕ) (at : ℕ) (buffer : List ℕ) (count : ℕ) : Type 0 where
  pub bytes : take count buffer ≡ take count (drop at file)
  pub within : count ≤ length (drop at file)
  pub end : count ≡ 0 → (length buffer ≡ 0) ⊎ (length file ≤ at)

-- calls that change nothing: the content is the same, and each image from then on was one before
pub record OnlyLooks {D : Type 0} (reads : D → Option (List ℕ)) (images : D → List ℕ → Type 0) (images_since : D → ℕ → List ℕ → Type 0) (calls : D → ℕ) (old new : D) : Type 0 where
  pub same : reads new ≡ reads old
  pub counted : calls old ≤ calls new
  pub no_more : OnSome (reads old) ((image : List ℕ) → images new image → images old image)
  pub moments : OnSome (reads old) (HoldsThroughout calls images_since old new (images old))
