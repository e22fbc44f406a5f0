use Rattle.worker_gate.proofs.Common.{◌≡◌, ◌∙◌, List, sym, subst, IfOk, first_cause, Cut, Prices, price_causes, Answers, Proving}
use Rattle.worker_gate.proofs.Lawful.{lawful, unlawful}
use Rattle.worker_gate.proofs.decision.prove_lawful.Goals as goal

pub returns-in-Ok-clause-prices : goal.returns-in-Ok-clause-prices
returns-in-Ok-clause-prices c =
    let made = c.in-Ok.ensures.ok in
    let cuts : c.in-Ok.proved.cuts ≡ c.args.cuts.now = made.1 ∙ c.in_ok-copy_of.ensures in
    (made.0, cuts, lawful c.args.instance.now c.args.cuts.now c.args.prices c.in-Ok.proved made.0 cuts made.2 c.bound-bound.ensures.proved)

pub returns-in_default : goal.returns-in_default
returns-in_default c =
    let i = c.args.instance.now in
    let cuts = c.args.cuts.now in
    let why : Answers c.in-Err.fault (first_cause (price_causes i cuts c.args.prices)) =
    subst (λ (l : List Cut). Answers c.in-Err.fault (first_cause (price_causes i l c.args.prices))) c.in_ok-copy_of.ensures c.in-Err.ensures.fault in
    record {
      prices = subst (λ (z : Prices). IfOk c.prove_zero.result (λ (p : Proving). (p.instance ≡ i) × (p.cuts ≡ cuts) × (p.prices ≡ z))) (sym (unlawful i cuts c.args.prices c.in-Err.fault why c.in_default.not-NoMemory)) c.prove_zero.ensures.prices;
      proved = c.prove_zero.ensures.proved;
      buffers = c.prove_zero.ensures.buffers ∙ c.in-Err.ensures.instance;
    }
