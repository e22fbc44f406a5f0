use Rattle.dual_bound.proofs.Common.{◌<◌, ◌≤◌, ℕ, ℤ, List, All, length, subst, sym, ap, ◌∙◌, arith, unsigned_abs, Break, slots, priced, slots_small, Tabled, MeanTheSame, repriced}
use Rattle.dual_bound.proofs.KeptTables.{slots_named, prices_named, repriced_to}
use Rattle.dual_bound.proofs.day_tables.DayTables.reprice.Goals as goal

pub reprice-requires-clause-slots : goal.reprice-requires-clause-slots
reprice-requires-clause-slots g c =
    let p = priced c.args.instance.now c.args.cuts.now c.args.prices.now c.requires.passes in
    subst (λ (cs : List (ℕ × ℤ)). All (λ (x : ℕ × ℤ). x.0 < slots c.args.instance.now) cs) (sym c.requires.changes)
    (slots_named 0 (slots c.args.instance.now) c.args.prices.now.slots (omega (arith, p.slot_count)))

pub reprice-requires-clause-small : goal.reprice-requires-clause-small
reprice-requires-clause-small g c =
    subst (λ (cs : List (ℕ × ℤ)). All (λ (x : ℕ × ℤ). unsigned_abs x.1 ≤ 10000000000) cs) (sym c.requires.changes)
    (prices_named (λ (z : ℤ). unsigned_abs z ≤ 10000000000) 0 c.args.prices.now.slots (slots_small c.args.instance.now c.args.cuts.now c.args.prices.now c.requires.valid c.requires.passes))

pub returns-then-are_same-clause-kept : goal.returns-then-are_same-clause-kept
returns-then-are_same-clause-kept g c =
    let k = c.requires.kept in
    let p = priced c.args.instance.now c.args.cuts.now c.args.prices.now c.requires.passes in
    let e = c.in_ok-reprice.ensures.prices in
    let old = c.args.self.now.tables.prices in
    record {
      inside = k.inside;
      instance = ap (λ (t : Tabled). t.instance) e ∙ k.instance;
      shift = ap (λ (t : Tabled). t.shift) e ∙ k.shift;
      day = ap (λ (t : Tabled). t.day) e ∙ k.day;
      count = ap (λ (t : Tabled). length t.prices) e ∙ ap (λ cs. length (repriced old cs)) c.requires.changes ∙ ap length (repriced_to old c.args.prices.now.slots (k.count ∙ sym p.slot_count)) ∙ p.slot_count;
      bonus = subst (λ (b : List (List Break × ℤ)). MeanTheSame b c.args.self.now.entries.items) (sym (ap (λ (t : Tabled). t.bonus) e)) k.bonus;
    }

pub returns-then-are_same-clause-at : goal.returns-then-are_same-clause-at
returns-then-are_same-clause-at g c =
    let k = c.requires.kept in
    let p = priced c.args.instance.now c.args.cuts.now c.args.prices.now c.requires.passes in
    let old = c.args.self.now.tables.prices in
    record {
      slots = ap (λ (t : Tabled). t.prices) c.in_ok-reprice.ensures.prices ∙ ap (repriced old) c.requires.changes ∙ repriced_to old c.args.prices.now.slots (k.count ∙ sym p.slot_count);
      entries = sym c.as_slice.ensures.value ∙ c.are_same.ensures c.if-are_same.true ∙ c.as_slice-2.ensures.value ∙ c.in_ok-entries.ensures.entries;
    }
