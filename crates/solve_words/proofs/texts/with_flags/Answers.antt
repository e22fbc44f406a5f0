use Rattle.solve_words.proofs.Common.{◌∙◌, ap₂, refl, IfOk-weaker, with_rule}
use Rattle.solve_words.proofs.texts.with_flags.Goals as goal

pub returns : goal.returns
returns c =
    let one = c.in_ok-arg.ensures.shape c.flag_word.ensures.own ∙ ap₂ with_rule refl c.flag_word.ensures.rule in
    let two = c.in_ok-arg-2.ensures.shape c.flag_word-2.ensures.own ∙ ap₂ with_rule one c.flag_word-2.ensures.rule in
    let three = c.in_ok-arg-3.ensures.shape c.flag_word-3.ensures.own ∙ ap₂ with_rule two c.flag_word-3.ensures.rule in
    IfOk-weaker c.arg-4.result _ _ (λ r adds. adds.shape c.flag_word-4.ensures.own ∙ ap₂ with_rule three c.flag_word-4.ensures.rule) c.arg-4.ensures
