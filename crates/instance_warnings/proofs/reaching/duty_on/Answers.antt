use Rattle.instance_warnings.proofs.Common.{◌≡◌, ℤ, pos, List, [], true, false, sym, subst, to_z, of_z, false≢true, IsBest, unit_prices}
use lib.Signed.{le_z}
use mir.Syntax.{w128}
use Rattle.instance_warnings.proofs.Reached.{best_reaches, best_avoids}
use Rattle.instance_warnings.proofs.reaching.duty_on.Goals as goal

not_one : (v : ℤ) → le_z (to_z w128 (of_z w128 v)) (pos 0) ≡ true → v ≡ pos 1 → ⊥
not_one v test e = false≢true (subst (λ (z : ℤ). le_z (to_z w128 (of_z w128 z)) (pos 0) ≡ true) e test)

not_zero : (v : ℤ) → le_z (to_z w128 (of_z w128 v)) (pos 0) ≡ false → v ≡ pos 0 → ⊥
not_zero v test e = false≢true (sym (subst (λ (z : ℤ). le_z (to_z w128 (of_z w128 z)) (pos 0) ≡ false) e test))

pub returns-then-value-le0 : goal.returns-then-value-le0
returns-then-value-le0 c =
    let i = c.args.instance.now in
    let list = c.in-Some.pattern.list in
    let priced = rw c.in-Some.is at c.in_ok-best.ensures.best in
    let best : IsBest i c.args.shift c.args.day (unit_prices i c.args.t) [] list c.in-Some.value = subst (λ (ps : List ℤ). IsBest i c.args.shift c.args.day ps [] list c.in-Some.value) c.requires.prices priced in
    best_avoids i c.args.t c.args.shift c.args.day list c.in-Some.value c.requires.slot best (not_one c.in-Some.value c.if-value-le0.true)

pub returns : goal.returns
returns c =
    let i = c.args.instance.now in
    let list = c.in-Some.pattern.list in
    let priced = rw c.in-Some.is at c.in_ok-best.ensures.best in
    let best : IsBest i c.args.shift c.args.day (unit_prices i c.args.t) [] list c.in-Some.value = subst (λ (ps : List ℤ). IsBest i c.args.shift c.args.day ps [] list c.in-Some.value) c.requires.prices priced in
    best_reaches i c.args.t c.args.shift c.args.day list c.in-Some.value c.requires.slot c.requires.day best (not_zero c.in-Some.value c.if-value-le0.false)
