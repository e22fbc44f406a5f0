-- What came of a source that was read for an instance.
use Rattle.std.specs.Prelude.{◌≡◌, ◌≢◌, ℕ, List, Option, IfSome, Ok, Err}
use Rattle.plan_base.specs.Causes.{Rose}
use Rattle.shift_instance.specs.Problem.{Problem}
use Rattle.instance_json.specs.Reading.{reading_of}
use Rattle.instance_json.specs.declared.ReadRefusal.TheVariants.{NoMemory as NoMemoryToRead}
use Rattle.instance_input.specs.declared.Unread.{Unread}
use Rattle.instance_input.specs.declared.Unread.TheVariants.{Refused, ReadFault, NoMemory}

-- these are all the bytes that a source had left, where it tells
abbrev pub IsAllOf : Option (List ℕ) → List ℕ → Type 0
IsAllOf left bytes = IfSome left (λ all. bytes ≡ all)

-- the instance is that of the document which the source had left
abbrev pub IsReadAs : Option (List ℕ) → Problem → Type 0
IsReadAs left i = (bytes : List ℕ) × IsAllOf left bytes × (reading_of bytes ≡ Ok i)

-- why no instance came of a source: what it had left, and its count of faults before and after
abbrev pub WhyUnread : Option (List ℕ) → ℕ → ℕ → Unread → Type 0
WhyUnread left before now (Refused why) = (why ≢ NoMemoryToRead) × IfSome left (λ all. reading_of all ≡ Err why)
WhyUnread left before now ReadFault = Rose before now
WhyUnread left before now NoMemory = Unit {0}
