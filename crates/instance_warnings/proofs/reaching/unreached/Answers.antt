use Rattle.instance_warnings.proofs.Common.{ℕ, List, [], ◌∷◌, ◌++◌, cond, ap, sym, ◌∙◌, arith, is_missed}
use Rattle.instance_warnings.proofs.Lists.{filter_next}
use Rattle.instance_warnings.proofs.reaching.unreached.Goals as goal

pub loop-t-preserved : goal.loop-t-preserved
loop-t-preserved c =
    let i = c.args.instance.now in
    let t = c.loop-t.t in
    let old = c.loop-t.invariant in
    let new = c.in_ok-consider.ensures in
    record {
      instance = new.instance ∙ old.instance;
      few = omega (arith, new.few, old.few);
      legal = new.legal old.legal;
      found = new.list old.legal ∙ ap (λ (xs : List ℕ). xs ++ cond (is_missed i t) (t ∷ []) []) old.found ∙ sym (filter_next (is_missed i) t);
    }
