-- From how a run ends over an instance to what its status says.
use Rattle.std.proofs.Common.{◌≡◌, inr, sym, subst, refl, ℕ, List, arith}
use Rattle.std.specs.Prelude.{Option, Some, None, IsSome}
use Rattle.std.specs.Option.{option_map}
use Rattle.shift_instance.specs.Problem.{Problem}
use Rattle.check_runs.specs.declared.words.Command.{Command}
use Rattle.check_runs.specs.declared.status.CheckStatus.{CheckStatus}
use Rattle.check_runs.specs.declared.status.CheckStatus.TheVariants.{Accepted, Refused, Usage, Input, Bundle, ReadFault, WriteFault, NoMemory}
use Rattle.check_runs.specs.Check.{Met, ReadsInstance, EndsOver, Explains}
use Rattle.check_runs.specs.Words.{Asked, request_of}

-- the words' command, where what they ask for was seen
pub asked_for : {R : Type 0} → (seen : R → Asked) (o : Option R) (r : R) (words : List (List ℕ)) → option_map seen o ≡ request_of words → o ≡ Some r → option_map (λ a. a.command) (request_of words) ≡ Some (seen r).command
asked_for seen o r words e is =
    subst (λ asked. option_map (λ a. a.command) asked ≡ Some (seen r).command) e (subst (λ found. option_map (λ a. a.command) (option_map seen found) ≡ Some (seen r).command) (sym is) refl)

-- what is made of an item is made of some item
from_some : {A B : Type 0} → (f : A → B) (o : Option A) (y : B) → option_map f o ≡ Some y → IsSome o
from_some f None y e = grind (arith, e)
from_some f (Some x) y e = refl

-- how a run ends over the instance of its document explains its status
pub explained : (met : Met) (command : Command) (i : Problem) (status : CheckStatus) → ReadsInstance met command i → EndsOver command i met.report met.sink status → Explains met status
explained met command i Accepted reads ends = (command, i, reads, ends)
explained met command i Refused reads ends = (command, i, reads, ends)
explained met command i Usage reads ends = absurd ends
explained met command i (Input why) reads ends = absurd ends
explained met command i (Bundle why) reads ends = (command, i, reads, ends)
explained met command i ReadFault reads ends = inr (command, i, reads, ends)
explained met command i WriteFault reads ends = (command, i, reads, ends)
explained met command i NoMemory reads ends = from_some (λ a. a.command) (request_of met.words) command reads.asked
