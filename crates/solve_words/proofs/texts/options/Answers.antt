use Rattle.solve_words.proofs.Common.{◌∙◌, ap, ap₂, IfOk-weaker, with_rule, with_options, with_flags}
use Rattle.solve_words.proofs.texts.options.Goals as goal

pub returns : goal.returns
returns c =
    let journal = c.in_ok-command.ensures.shape c.new.ensures.optional.1 ∙ ap₂ with_rule c.bare_command.ensures c.new.ensures.rule in
    IfOk-weaker c.with_flags.result _ _ (λ r flags. flags ∙ ap with_flags (c.in_ok-with_options.ensures ∙ ap with_options journal)) c.with_flags.ensures
