use Rattle.break_layers.proofs.Common.{sym, ap, ◌∙◌, false_from_ne_true, ne_eqb, Spot, is_legal, legal_parts}
use Rattle.break_layers.proofs.layers.ends_at.Goals as goal

pub returns-else-spot-total : goal.returns-else-spot-total
returns-else-spot-total c = λ list walk is.
    ne_eqb c.args.spot.used c.args.total c.if-spot-total.false ∙ sym (false_from_ne_true (is_legal c.args.rule.now c.args.len list) (λ h.
    c.if-spot-total.false (ap (λ (s : Spot). s.used) is ∙ (legal_parts c.args.rule.now c.args.len list h).total ∙ sym c.requires.total)))
