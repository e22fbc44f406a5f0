use Rattle.instance_json.proofs.Common.{◌≡◌, refusal_of}
use Rattle.instance_json.proofs.Readings.{problem_reading-ok, problem_reading-fault}
use Rattle.instance_json.proofs.reading.instance_from.Goals as goal

pub returns-in-Ok : goal.returns-in-Ok
returns-in-Ok c = problem_reading-ok c.args.parts c.in-Ok.instance c.in-Ok.ensures.ok c.in-Ok.ensures.fault

pub returns-in-Err : goal.returns-in-Err
returns-in-Err c =
    let refusal : c.from.result ≡ refusal_of c.in-Err.fault = c.from.ensures in
    rw refusal (problem_reading-fault c.in-Err.fault c.args.parts c.in-Err.ensures.fault)
