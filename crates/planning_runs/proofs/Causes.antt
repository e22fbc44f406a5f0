-- Refusals have their causes.
use Rattle.planning_runs.proofs.Common.{◌≡◌, MatchResult, Ok, Err, Result, inl, inr, NoMemory, IsFor}
use Rattle.planning_runs.specs.declared.refusal.Cause.{Cause}

-- a refusal with a sentence, or with none on running out of memory, is one for its cause
pub said_for : {A B : Type 0} (sentence : Result A B) (cause found : Cause) → MatchResult sentence (λ _. found ≡ cause) (λ _. found ≡ NoMemory) → IsFor cause found
said_for (Ok text) cause found same = inl same
said_for (Err why) cause found same = inr same
