use Rattle.instance_json.proofs.Common.{sym, ◌∙◌, view}
use Rattle.instance_json.proofs.Readings.{value_reading-refused, value_reading-document, answers_itself}
use Rattle.instance_json.proofs.reading.instance_of.Goals as goal

pub returns-in-Some : goal.returns-in-Some
returns-in-Some c =
    answers_itself _ _ (value_reading-refused (view c.args.value.now) c.in-Some.refusal (sym c.in-Some.is ∙ c.in_ok-refusal.ensures))

pub returns-in-None : goal.returns-in-None
returns-in-None c = rw (value_reading-document (view c.args.value.now) (sym c.in-None.is ∙ c.in_ok-refusal.ensures)) c.instance_stated.ensures
