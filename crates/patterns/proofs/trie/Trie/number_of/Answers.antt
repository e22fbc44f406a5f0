use Rattle.patterns.proofs.Common.{ap, sym, ◌∙◌, to_z, of_z, ◌≡◌, ◌+ℤ◌, ℤ, ◌++◌, ◌∷◌, [], w128, Bonuses, bonus_of}
use Rattle.patterns.proofs.Additions.{bonus_empty, bonus_more, number_in, read, shown}
use Rattle.patterns.proofs.trie.Trie.number_of.Goals as goal
use Rattle.patterns.proofs.trie.Trie.number_of.Goals.{After-unwrap_or}

kept : (c : After-unwrap_or) → number_in (λ k. k.items) c.self.inside.numbers.entries c.args.prefix.now ≡ to_z w128 (of_z w128 c.unwrap_or.result)
kept c = sym (read _ _ _ (record { sfits = c.unwrap_or.type_inv }) c.unwrap_or.ensures (c.copied.ensures ∙ c.get.ensures.value))

pub returns-clause-empty : goal.returns-clause-empty
returns-clause-empty c e =
    ap (λ (b : Bonuses). bonus_of b.entries []) (sym c.self.view_is)
    ∙ bonus_empty (λ k. k.items) c.self.inside.numbers.entries c.len-len.ensures.unique
    ∙ ap (number_in (λ k. k.items) c.self.inside.numbers.entries) (sym e) ∙ kept c

pub returns-clause-more : goal.returns-clause-more
returns-clause-more c front last e =
    ap (bonus_of c.args.self.now.entries) e
    ∙ ap (λ (b : Bonuses). bonus_of b.entries (front ++ last ∷ [])) (sym c.self.view_is)
    ∙ bonus_more (λ k. k.items) c.self.inside.numbers.entries front last c.len-len.ensures.unique
    ∙ ap (λ (z : ℤ). bonus_of (shown (λ k. k.items) c.self.inside.numbers.entries) front +ℤ z) (ap (number_in (λ k. k.items) c.self.inside.numbers.entries) (sym e) ∙ kept c)
    ∙ ap (λ (b : Bonuses). bonus_of b.entries front +ℤ to_z w128 (of_z w128 c.unwrap_or.result)) c.self.view_is
