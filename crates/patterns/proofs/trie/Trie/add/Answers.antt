use Rattle.patterns.proofs.Common.{ap, sym, ◌∙◌, subst, ◌+◌, ◌<◌, ◌^◌, ℤ, List, Break, Bonuses, with_added, AreSmall}
use Rattle.patterns.proofs.Additions.{shown, read, widened, added, added_fits, small_more}
use Rattle.patterns.proofs.trie.Trie.add.Goals as goal

pub overflow_add-number : goal.overflow_add-number
overflow_add-number c =
    let had = read c.unwrap_or.result _ _ (record { sfits = c.unwrap_or.type_inv }) c.unwrap_or.ensures (c.copied.ensures ∙ c.get.ensures.value) in
    let addend = widened c.from.result c.args.x (record { sfits = c.from.type_inv }) c.ranges.x c.from.ensures in
    added_fits (λ k. k.items) c.self.inside.numbers.entries c.args.prefix.now c.self.inside.additions _ _ c.args.x c.self.invariant had addend c.requires.small

pub invariant_of-self-2 : goal.invariant_of-self-2
invariant_of-self-2 c =
    let had = read c.unwrap_or.result _ _ (record { sfits = c.unwrap_or.type_inv }) c.unwrap_or.ensures (c.copied.ensures ∙ c.get.ensures.value) in
    let addend = widened c.from.result c.args.x (record { sfits = c.from.type_inv }) c.ranges.x c.from.ensures in
    let after = added (λ k. k.items) c.self.inside.numbers.entries c.in_ok-key.key c.args.prefix.now c.self.inside.additions _ _ c.args.x c.self.invariant had addend c.requires.small c.in_ok-key.ensures.items in
    let room : c.self.inside.additions < 2 ^ 33 = subst (λ (b : Bonuses). b.additions < 2 ^ 33) (sym c.self.view_is) c.requires.few in
    subst (λ (es : List (List Break × ℤ)). AreSmall es (c.self.inside.additions + 1)) (sym (ap (shown (λ k. k.items)) c.in_ok-insert.ensures.entries ∙ after))
    (small_more (shown (λ k. k.items) c.self.inside.numbers.entries) c.args.prefix.now c.args.x c.self.inside.additions c.self.invariant room c.requires.small)

pub returns-clause-entries : goal.returns-clause-entries
returns-clause-entries c =
    let had = read c.unwrap_or.result _ _ (record { sfits = c.unwrap_or.type_inv }) c.unwrap_or.ensures (c.copied.ensures ∙ c.get.ensures.value) in
    let addend = widened c.from.result c.args.x (record { sfits = c.from.type_inv }) c.ranges.x c.from.ensures in
    let after = added (λ k. k.items) c.self.inside.numbers.entries c.in_ok-key.key c.args.prefix.now c.self.inside.additions _ _ c.args.x c.self.invariant had addend c.requires.small c.in_ok-key.ensures.items in
    ap (shown (λ k. k.items)) c.in_ok-insert.ensures.entries ∙ after ∙ ap (λ (b : Bonuses). with_added b.entries c.args.prefix.now c.args.x) c.self.view_is
