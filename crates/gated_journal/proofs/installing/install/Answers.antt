use Rattle.gated_journal.proofs.Common.{◌∙◌}
use Rattle.gated_journal.proofs.WholeFile.{whole_moments, whole_settled}
use Rattle.gated_journal.proofs.installing.install.Goals as goal

pub returns-in_err-write_first_byte_last-clause-any_moment : goal.returns-in_err-write_first_byte_last-clause-any_moment
returns-in_err-write_first_byte_last-clause-any_moment g c =
    whole_moments g.D.Disk.calls g.D.Disk.images_since c.args.disk.now c.write_first_byte_last.new.disk c.args._limit c.args.head.now _ c.deref.result.now (g.D.Disk.reads c.args.disk.now) c.requires.room (c.deref.ensures.value ∙ c.in_ok-bytes.ensures) c.write_first_byte_last.ensures.any_moment

pub returns-clause-settled : goal.returns-clause-settled
returns-clause-settled g c =
    whole_settled c.args._limit c.args.head.now _ c.deref.result.now (g.D.Disk.reads c.write_first_byte_last.new.disk) (g.D.Disk.images c.write_first_byte_last.new.disk) c.requires.room (c.deref.ensures.value ∙ c.in_ok-bytes.ensures) c.in_ok-write_first_byte_last.ensures.done c.in_ok-write_first_byte_last.ensures.durable

pub returns-clause-any_moment : goal.returns-clause-any_moment
returns-clause-any_moment g c =
    whole_moments g.D.Disk.calls g.D.Disk.images_since c.args.disk.now c.write_first_byte_last.new.disk c.args._limit c.args.head.now _ c.deref.result.now (g.D.Disk.reads c.args.disk.now) c.requires.room (c.deref.ensures.value ∙ c.in_ok-bytes.ensures) c.write_first_byte_last.ensures.any_moment
