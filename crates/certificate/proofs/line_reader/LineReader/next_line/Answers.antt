use Rattle.certificate.proofs.Common.{◌∙◌, sym, arith}
use Rattle.certificate.proofs.Kept.{none_left, next_of, never_stops}
use Rattle.certificate.proofs.line_reader.LineReader.next_line.Goals as goal

pub returns-then-self-eq0-clause-read : goal.returns-then-self-eq0-clause-read
returns-then-self-eq0-clause-read c =
    let none = sym c.self.view_is ∙ none_left c.self.inside.count c.self.inside.text.now c.self.invariant c.if-self-eq0.true in
    (none, none)

pub invariant_of-self : goal.invariant_of-self
invariant_of-self c =
    let some = c.if-self-eq0.false in
    (next_of c.self.inside.count c.self.inside.text.now c.in-Ok.line c.in-Ok.rest.now c.self.invariant (omega arith) c.in-Ok.ensures).others

pub unreachable-requires : goal.unreachable-requires
unreachable-requires c =
    let some = c.if-self-eq0.false in
    never_stops c.self.inside.count c.self.inside.text.now c.in-Err-Left.field-0-0 c.self.invariant (omega arith) (rw c.in-Err-Left.field-0-is at c.in-Err-Left.ensures)

pub returns-in-Ok-clause-read : goal.returns-in-Ok-clause-read
returns-in-Ok-clause-read c =
    let some = c.if-self-eq0.false in
    sym c.self.view_is ∙ (next_of c.self.inside.count c.self.inside.text.now c.in-Ok.line c.in-Ok.rest.now c.self.invariant (omega arith) c.in-Ok.ensures).whole
