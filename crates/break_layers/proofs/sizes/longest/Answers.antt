use Rattle.break_layers.proofs.Common.{◌≡◌, ◌≤◌, Bool, sym, ap, subst, ◌∙◌, list_any, false≢true, Lunch, is_lunch, bits_of, Layer}
use Rattle.break_layers.proofs.Lunched.{lunch_time}
use Rattle.break_layers.proofs.sizes.longest.Goals as goal

pub returns-then-not-has_time-clause-all : goal.returns-then-not-has_time-clause-all
returns-then-not-has_time-clause-all c = λ list is.
    let met : Lunch → Bool = λ e. list_any (is_lunch e) list in
    let bits : c.args.layer.lunches ≡ bits_of met c.as_slice.result.now = ap (λ (l : Layer). l.lunches) is ∙ ap (bits_of met) (sym c.as_slice.ensures) in
    absurd (false≢true (sym c.if-not-has_time.true ∙ c.has_time.ensures met bits (λ e m h. subst (λ n. e.size ≤ n) (sym (ap (λ (l : Layer). l.used) is)) (lunch_time list e h))))
