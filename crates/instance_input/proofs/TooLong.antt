-- What is read of a document that is too long.
use Rattle.std.proofs.Common.{◌≡◌, refl, ℕ, ◌<◌, List, length, Err}
use Rattle.std.proofs.lemmas.Bool.{lt-ltb}
use Rattle.instance_json.specs.declared.TheConstants.{INSTANCE_MAX}
use Rattle.instance_json.specs.declared.ReadRefusal.TheVariants.{TooLong}
use Rattle.instance_json.specs.Reading.{reading_of}

-- a document that is too long is refused as such
pub reads_too_long : (bytes : List ℕ) → INSTANCE_MAX < length bytes → reading_of bytes ≡ Err TooLong
unfolding reading_of
reads_too_long bytes longer = rw (lt-ltb INSTANCE_MAX (length bytes) longer) refl
