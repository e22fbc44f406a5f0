use Rattle.graft_runs.proofs.Common.{◌≡◌, ℕ, ◌≤◌, List, length, ap, arith}
use Rattle.graft_runs.proofs.Sizes.{few_lines}
use Rattle.graft_runs.proofs.reading.read_report.Goals as goal

pub returns-in-Ok-read-clause-few : goal.returns-in-Ok-read-clause-few
returns-in-Ok-read-clause-few g c =
    let few : length c.in-Ok-read.cert.lines ≤ length c.as_slice.result.now = few_lines c.as_slice.result.now c.in-Ok-read.cert c.in-Ok-read.ensures.found in
    let same : length c.as_slice.result.now ≡ length c.in-Ok.bytes.items = ap (λ (bs : List ℕ). length bs) c.as_slice.ensures.value in
    let short : length c.in-Ok.bytes.items ≤ 268435456 = c.in-Ok.ensures.within in
    omega (arith, few, same, short)
