use Rattle.descents.proofs.Common.{◌∙◌, sym, rota_of}
use Rattle.descents.proofs.Descents.{unused_refused}
use Rattle.descents.proofs.descending.improve_reshift.Goals as goal

pub returns-then-duties_of-eq0-clause-none : goal.returns-then-duties_of-eq0-clause-none
returns-then-duties_of-eq0-clause-none c = unused_refused c.args.instance.now (rota_of c.args.draft.now.rows) c.args.from c.args.to (sym c.duties_of.ensures ∙ c.if-duties_of-eq0.true)
