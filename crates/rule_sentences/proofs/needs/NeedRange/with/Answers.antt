use Rattle.std.proofs.Common.{ℕ, ◌+◌, ap}
use Rattle.rule_sentences.proofs.DayNeeds.{one_more}
use Rattle.rule_sentences.proofs.needs.NeedRange.with.Goals as goal

pub returns : goal.returns
returns c = λ needs h.
    one_more needs c.args.self (record { least = c.min.result; greatest = c.max.result; wanted = c.args.self.wanted + c.from.result }) c.args.need h
    c.min.ensures c.max.ensures (ap (λ (n : ℕ). c.args.self.wanted + n) c.from.ensures)
