use Rattle.pricing.proofs.Common.{ℤ, ◌+ℤ◌, List, Option, Some, ap, sym, subst, ◌∙◌, to_z, of_z, w128, Break, Found, Keeps, is_better}
use Rattle.pricing.proofs.Covered.{covers_itself, covers_better, covers_worse, worth_made}
use Rattle.pricing.proofs.found.better.Goals as goal

pub returns-then-is_better-clause-found : goal.returns-then-is_better-clause-found
returns-then-is_better-clause-found g c =
    let p = g.R.Rests.priced c.args.rests.now in
    let es = c.args.trie.now.entries in
    let worth = worth_made p es c.args.list c.as_slice-breaks.result.now c.as_slice-breaks.result.now c.earned.result c.from.result c.bonus_of.result c.as_slice-breaks.ensures c.as_slice-breaks.ensures
    c.earned.ensures.earned c.earned.ensures.small c.bonus_of.ensures.sum c.bonus_of.ensures.small c.from.ensures in
    (c.requires.legal, worth)

pub returns-then-is_better-clause-covers : goal.returns-then-is_better-clause-covers
returns-then-is_better-clause-covers g c =
    let p = g.R.Rests.priced c.args.rests.now in
    let es = c.args.trie.now.entries in
    let worth = worth_made p es c.args.list c.as_slice-breaks.result.now c.as_slice-breaks.result.now c.earned.result c.from.result c.bonus_of.result c.as_slice-breaks.ensures c.as_slice-breaks.ensures
    c.earned.ensures.earned c.earned.ensures.small c.bonus_of.ensures.sum c.bonus_of.ensures.small c.from.ensures in
    let value : ℤ = to_z w128 (of_z w128 (to_z w128 (of_z w128 c.from.result) +ℤ to_z w128 (of_z w128 c.bonus_of.result))) in
    covers_itself p es c.args.list value worth

pub returns-then-is_better-clause-keeps : goal.returns-then-is_better-clause-keeps
returns-then-is_better-clause-keeps g c =
    let p = g.R.Rests.priced c.args.rests.now in
    let es = c.args.trie.now.entries in
    let value : ℤ = to_z w128 (of_z w128 (to_z w128 (of_z w128 c.from.result) +ℤ to_z w128 (of_z w128 c.bonus_of.result))) in
    let new : Option Found = Some (record { list = c.args.list; value = value }) in
    subst (λ (old : Option Found). Keeps p es old new) (sym c.in-Some.is)
    (covers_better p es c.args.list value c.in-Some.old (ap (λ (l : List Break). is_better l value c.in-Some.old) (sym c.as_slice.ensures) ∙ sym c.is_better.ensures ∙ c.if-is_better.true))

pub returns-else-is_better-clause-covers : goal.returns-else-is_better-clause-covers
returns-else-is_better-clause-covers g c =
    let p = g.R.Rests.priced c.args.rests.now in
    let es = c.args.trie.now.entries in
    let worth = worth_made p es c.args.list c.as_slice-breaks.result.now c.as_slice-breaks.result.now c.earned.result c.from.result c.bonus_of.result c.as_slice-breaks.ensures c.as_slice-breaks.ensures
    c.earned.ensures.earned c.earned.ensures.small c.bonus_of.ensures.sum c.bonus_of.ensures.small c.from.ensures in
    let value : ℤ = to_z w128 (of_z w128 (to_z w128 (of_z w128 c.from.result) +ℤ to_z w128 (of_z w128 c.bonus_of.result))) in
    covers_worse p es c.args.list value c.in-Some.old worth
    (ap (λ (l : List Break). is_better l value c.in-Some.old) (sym c.as_slice.ensures) ∙ sym c.is_better.ensures ∙ c.if-is_better.false)

pub returns-in-None-clause-found : goal.returns-in-None-clause-found
returns-in-None-clause-found g c =
    let p = g.R.Rests.priced c.args.rests.now in
    let es = c.args.trie.now.entries in
    let worth = worth_made p es c.args.list c.as_slice-breaks.result.now c.as_slice-breaks.result.now c.earned.result c.from.result c.bonus_of.result c.as_slice-breaks.ensures c.as_slice-breaks.ensures
    c.earned.ensures.earned c.earned.ensures.small c.bonus_of.ensures.sum c.bonus_of.ensures.small c.from.ensures in
    (c.requires.legal, worth)

pub returns-in-None-clause-covers : goal.returns-in-None-clause-covers
returns-in-None-clause-covers g c =
    let p = g.R.Rests.priced c.args.rests.now in
    let es = c.args.trie.now.entries in
    let worth = worth_made p es c.args.list c.as_slice-breaks.result.now c.as_slice-breaks.result.now c.earned.result c.from.result c.bonus_of.result c.as_slice-breaks.ensures c.as_slice-breaks.ensures
    c.earned.ensures.earned c.earned.ensures.small c.bonus_of.ensures.sum c.bonus_of.ensures.small c.from.ensures in
    let value : ℤ = to_z w128 (of_z w128 (to_z w128 (of_z w128 c.from.result) +ℤ to_z w128 (of_z w128 c.bonus_of.result))) in
    covers_itself p es c.args.list value worth
