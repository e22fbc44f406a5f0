-- What a search below a node of a certificate makes of it.
use Rattle.graft_runs.proofs.Common.{◌≡◌, ◌⊎◌, inl, inr, ℕ, Bool, true, false, List, sym, subst, Problem, IsValid, Cut, Cert, HasOpenEnd, Run, is_finished, IsSound, IsGreedyRun, IsSearched, limit_of, GrowsBelow, GrowsGreedily, IsGrownText, IsSearch}
use Rattle.graft_runs.proofs.Planned.{run_base}

-- a run of a search below some cuts is one below its own
pub searched_own : (i : Problem) (base : List Cut) (limit steps : ℕ) (r : Run) → IsValid i → IsSearched i base limit steps r → IsSearched i r.base limit steps r
searched_own i base limit steps r valid s = subst (λ (cuts : List Cut). IsSearched i cuts limit steps r) (sym (run_base i base limit steps r valid s)) s

pub end_own : (i : Problem) (whole : Cert) (node : ℕ) (base : List Cut) (limit steps : ℕ) (r : Run) → IsValid i → IsSearched i base limit steps r → HasOpenEnd i whole node base → HasOpenEnd i whole node r.base
end_own i whole node base limit steps r valid s end = subst (λ (cuts : List Cut). HasOpenEnd i whole node cuts) (sym (run_base i base limit steps r valid s)) end

-- a run that isn't asked to stop
pub never_asked : (i : Problem) (base : List Cut) (limit steps : ℕ) (r : Run) → IsSearched i base limit steps r → IsSound r → (is_finished r ≡ true) ⊎ (r.taken ≡ steps) → IsSearch i base limit steps false r
never_asked i base limit steps r s sound (inl done) = record { searched = s; sound = sound; ends = inl done }
never_asked i base limit steps r s sound (inr all) = record { searched = s; sound = sound; ends = inr (inl all) }

-- a run whose limit is what the certificate's plan costs
pub with_limit : (i : Problem) (whole : Cert) (steps limit : ℕ) (base : List Cut) (r : Run) → limit ≡ limit_of whole → IsSearched i base limit steps r → IsSearched i base (limit_of whole) steps r
with_limit i whole steps limit base r e s = subst (λ n. IsSearched i base n steps r) e s

pub grows_greedily : (i : Problem) (whole : Cert) (node steps limit : ℕ) (base : List Cut) (r : Run) (text : List ℕ) → HasOpenEnd i whole node base → limit ≡ limit_of whole
    → IsSearched i base limit steps r → IsSound r → (is_finished r ≡ true) ⊎ (r.taken ≡ steps) → IsGreedyRun i base limit r → IsGrownText i whole node r text → GrowsGreedily i whole node steps text
grows_greedily i whole node steps limit base r text end e s sound ends greedy grown = record {
  grows = record { base = base; end = end; run = r; search = never_asked i base (limit_of whole) steps r (with_limit i whole steps limit base r e s) sound ends; grown = grown };
  greedy = subst (λ n. IsGreedyRun i base n r) e greedy;
}

pub grows_below : (i : Problem) (whole : Cert) (node steps limit : ℕ) (asks : Bool) (base : List Cut) (r : Run) (text : List ℕ) → HasOpenEnd i whole node base → limit ≡ limit_of whole
    → IsSearched i base limit steps r → IsSound r → (is_finished r ≡ true) ⊎ ((r.taken ≡ steps) ⊎ (asks ≡ true)) → IsGrownText i whole node r text → GrowsBelow i whole node steps asks text
grows_below i whole node steps limit asks base r text end e s sound ends grown = record {
  base = base;
  end = end;
  run = r;
  search = record { searched = with_limit i whole steps limit base r e s; sound = sound; ends = ends };
  grown = grown;
}
