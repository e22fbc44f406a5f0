-- What a command line may ask for, and why it asks for nothing.
use Rattle.std.specs.Prelude.{◌≡◌, ◌≤◌, ⊤}
use Rattle.clap.specs.Values.{kind_of}
use Rattle.clap.specs.declared.error.kind.ErrorKind.TheVariants.{OutOfMemory}
use Rattle.planning_words.specs.declared.wanted.Unasked.{Unasked}
use Rattle.planning_words.specs.declared.wanted.Unasked.TheVariants.{NoMemory, Said}
use Rattle.planning_words.specs.declared.wanted.Wanted.{Wanted}
use Rattle.planning_words.specs.declared.wanted.Wanted.TheVariants.{Breaks, Check, Compare, Export, Import, Plan, Rules, Show}

-- a search of at most 4,000,000 seconds by 1 to 16 workers, a report to be shown or judged, a report's breaks to be planned anew in at most
-- 4,000,000 seconds, two plans to be compared, the rules of an instance, or tables to be read or written
abbrev pub IsWithin : Wanted → Type 0
IsWithin (Plan words) = (words.seconds ≤ 4000000) × (1 ≤ words.workers) × (words.workers ≤ 16)
IsWithin (Show words) = ⊤
IsWithin (Check words) = ⊤
IsWithin (Compare words) = ⊤
IsWithin (Breaks words) = words.seconds ≤ 4000000
IsWithin (Rules words) = ⊤
IsWithin (Import words) = ⊤
IsWithin (Export words) = ⊤

-- what is said of words is nothing about memory: running out of that is told as such
abbrev pub IsSaid : Unasked → Type 0
IsSaid NoMemory = ⊤
IsSaid (Said error) = kind_of error ≡ OutOfMemory → ⊥
