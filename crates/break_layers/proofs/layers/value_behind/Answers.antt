use Rattle.break_layers.proofs.Common.{◌≡◌, ◌≢◌, ◌-ℤ◌, ℤ, true, false, map, sym, ap, subst, ◌∙◌, FitsSigned, w64, Spot, is_legal, end_of_all, sum_at, resumes, NOTHING}
use Rattle.break_layers.proofs.Ending.{sum_some, value_legal, value_open}
use Rattle.break_layers.proofs.layers.value_behind.Goals as goal
use Rattle.break_layers.proofs.layers.value_behind.Goals.{then-ends_at, else-ends_at}

pub returns : goal.returns
returns g c = λ day d s list walk is reach.
    let on = g.N.Number.on day in
    let rule = c.args.rule.now in
    let len = c.args.len in
    let sums = map on c.args.sums.now in
    let r = c.requires.rule in
    let p = sum_at sums (resumes rule (end_of_all list)) in
    let sum : on c.sums_at.result ≡ p = c.sums_at.ensures day d ∙ ap (sum_at sums) (c.resumption.ensures ∙ ap (λ (p : Spot). resumes rule p.offset) is) in
    let z = on c.without.result in
    let w = on c.if-ends_at.whole in
    let taken : (v : ℤ) → w ≡ v → v ≢ NOTHING → FitsSigned w64 (v -ℤ p) → z ≡ v -ℤ p =
    λ v e some fits.
    let both : w -ℤ on c.sums_at.result ≡ v -ℤ p = ap (λ (x : ℤ). x -ℤ on c.sums_at.result) e ∙ ap (λ (x : ℤ). v -ℤ x) sum in
    c.without.ensures.difference day d (λ none. some (sym e ∙ none)) (subst (FitsSigned w64) (sym both) fits) ∙ both in
    elim c.if-ends_at.branch [
      | then-ends_at b ↦
          let legal : is_legal rule len list ≡ true = sym (c.ends_at.ensures list walk is) ∙ b.if-ends_at.true in
          let value : w ≡ sum_at sums len = ap on b.whole-is ∙ b.sums_at-whole.ensures day d ∙ ap (sum_at sums) b.from.ensures in
          value_legal rule len sums list r s z legal (taken (sum_at sums len) value (sum_some rule len sums list r s len))
      | else-ends_at b ↦
          let unfinished : is_legal rule len list ≡ false = sym (c.ends_at.ensures list walk is) ∙ b.if-ends_at.false in
          let value : w ≡ on c.args.most = ap on b.whole-is in
          value_open rule len sums list r s (on c.args.most) z unfinished reach (λ none. c.without.ensures.nothing day d (value ∙ none)) (taken (on c.args.most) value)
    ]
