-- Disks that tell their content alike.
use Rattle.search_book.proofs.Common.{TellsAlike}
use Rattle.std.specs.Prelude.{ℕ, List, Option, Some, None}

-- a disk tells like itself
pub tells_like_itself : (reads : Option (List ℕ)) → TellsAlike reads reads
tells_like_itself None = tt
tells_like_itself (Some file) = tt

-- what tells like a disk that tells like a first one tells like the first
pub tells_on : (first before now : Option (List ℕ)) → TellsAlike first before → TellsAlike before now → TellsAlike first now
tells_on None None None one two = tt
tells_on (Some a) (Some b) (Some c) one two = tt
tells_on None (Some b) now one two = absurd one
tells_on (Some a) None now one two = absurd one
tells_on None None (Some c) one two = absurd two
tells_on (Some a) (Some b) None one two = absurd two
