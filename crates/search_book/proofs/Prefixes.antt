-- Fronts of a run that grows.
use Rattle.search_book.proofs.Common.{⊎_elim, ℕ, ◌≤◌, List, [], ◌∷◌, ◌++◌, length, sym, subst, arith, length-append, take_all, take-append-le, StandsFor, IsBeforeOrAfter, HoldsPrefix}

module _ (limit : ℕ) (head : List ℕ) where
  -- a front of the run is one of a longer run
  pub longer_run : (run more : List (List ℕ)) (least : ℕ) (c : List ℕ) → HoldsPrefix limit head run least c → HoldsPrefix limit head (run ++ more) least c
  longer_run run more least c front = record {
    count = front.count;
    at_least = front.at_least;
    at_most = omega (arith, front.at_most, length-append run more);
    holds = subst (λ (l : List (List ℕ)). StandsFor limit head l c) (sym (take-append-le front.count run more front.at_most)) front.holds;
  }

  -- the whole run is a front of it
  pub whole_run : (run : List (List ℕ)) (least : ℕ) (c : List ℕ) → least ≤ length run → StandsFor limit head run c → HoldsPrefix limit head run least c
  whole_run run least c enough stands = record {
    count = length run;
    at_least = enough;
    at_most = omega arith;
    holds = subst (λ (l : List (List ℕ)). StandsFor limit head l c) (sym (take_all (length run) run (omega arith))) stands;
  }

  -- the records from before a put, or those with the new one
  pub either_run : (records : List (List ℕ)) (bytes : List ℕ) (least : ℕ) (c : List ℕ) → least ≤ length records → IsBeforeOrAfter limit head records bytes c → HoldsPrefix limit head (records ++ bytes ∷ []) least c
  either_run records bytes least c enough either =
      ⊎_elim (λ before. longer_run records (bytes ∷ []) least c (whole_run records least c enough before))
      (λ after. whole_run (records ++ bytes ∷ []) least c (omega (arith, length-append records (bytes ∷ []))) after) either
