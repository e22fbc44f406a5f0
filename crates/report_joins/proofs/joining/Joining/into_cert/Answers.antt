use Rattle.report_joins.proofs.Common.{◌∙◌, refl, Cert, accepted_agrees, Joined}
use Rattle.report_joins.proofs.Joins.{joined_cert}
use Rattle.report_joins.proofs.joining.Joining.into_cert.Goals as goal

pub returns-clause-agrees : goal.returns-clause-agrees
returns-clause-agrees c =
    let own = c.self.inside in
    let j : Joined = record { instance = own.instance.value; whole = own.whole; nodes = own.nodes.items; lines = own.lines.items; plan = own.plan } in
    let cert : Cert = record { status = c.status_of.result; plan = own.plan; bound = c.least_floor-bound.result; lines = c.in_ok-lines.lines } in
    let joined = joined_cert own.ends own.tree j cert c.self.invariant (c.in_ok-lines.ensures ∙ c.deref.ensures.value) refl c.least_floor-bound.ensures c.status_of.ensures in
    accepted_agrees own.instance.value cert joined.accepted c.status_of.ensures
