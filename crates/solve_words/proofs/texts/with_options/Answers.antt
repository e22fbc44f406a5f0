use Rattle.solve_words.proofs.Common.{◌∙◌, ap₂, refl, IfOk-weaker, with_rule}
use Rattle.solve_words.proofs.texts.with_options.Goals as goal

pub returns : goal.returns
returns c =
    let one = c.in_ok-arg.ensures.shape c.option_word.ensures.own ∙ ap₂ with_rule refl c.option_word.ensures.rule in
    let two = c.in_ok-arg-2.ensures.shape c.option_word-2.ensures.own ∙ ap₂ with_rule one c.option_word-2.ensures.rule in
    IfOk-weaker c.arg-3.result _ _ (λ r adds. adds.shape c.option_word-3.ensures.own ∙ ap₂ with_rule two c.option_word-3.ensures.rule) c.arg-3.ensures
