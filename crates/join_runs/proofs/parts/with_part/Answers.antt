use Rattle.join_runs.proofs.Common.{refl}
use Rattle.join_runs.proofs.Before.{placed}
use Rattle.join_runs.proofs.parts.with_part.Goals as goal

pub returns : goal.returns
returns g c = record {
  joined = tt;
  status = (refl, (c.in-Ok.cert, c.in-Ok.ensures.ok, c.in-Err.ensures.fault), placed c.args.joining c.in-Ok.cert c.in-Err.fault c.requires.few c.in-Ok.ensures.few c.in-Err.ensures.fault);
}
