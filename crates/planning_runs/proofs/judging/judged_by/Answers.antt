use Rattle.planning_runs.proofs.judging.judged_by.Goals as goal

pub invariant_of-result : goal.invariant_of-result
invariant_of-result g c =
    record {
      spelled = ∣ c.requires.spelled ∣₁;
      accepted = c.in_ok-check_by.ensures.accepted;
      legal = λ cost rows is. (c.in_ok-check_by.ensures.plan cost rows is).0;
    }
