use Rattle.solve_words.proofs.Common.{sym, ◌∙◌}
use Rattle.solve_words.proofs.Digits.{never_refused}
use Rattle.solve_words.proofs.numbers.number_within.Goals as goal

pub returns-in_default : goal.returns-in_default
returns-in_default c = absurd (never_refused c.args.word.now c.parse.result c.in_default.field-0 c.in_default.is (sym c.is_number.ensures ∙ c.if-not-is_number.false) c.parse.ensures.value.0)
