use Rattle.cert_check.proofs.Lifted.{found_ahead}
use Rattle.cert_check.proofs.batches.find_ahead.Goals as goal

pub returns : goal.returns
returns g c = found_ahead c.args.instance.now c.args.lines.now c.do_all.result c.do_all.ensures.given
