use Rattle.certificate.proofs.Common.{◌≡◌, List, ℕ, sym, ◌∙◌, subst, ParsesUnsigned}
use Rattle.certificate.proofs.Numbers.{parsed, no_text, no_beginning}
use Rattle.certificate.proofs.words.number_of.Goals as goal

pub returns-then-not-may_begin : goal.returns-then-not-may_begin
returns-then-not-may_begin c = sym (no_beginning c.args.text.now (sym c.may_begin.ensures ∙ c.if-not-may_begin.true))

pub returns-in-Ok : goal.returns-in-Ok
returns-in-Ok c =
    let same : c.in-Ok.text.now ≡ c.args.text.now = c.in-Ok.ensures.cases.0 in
    let p = subst (λ (t : List ℕ). ParsesUnsigned 64 10 t c.parse.result) same c.parse.ensures.value.0 in
    c.ok.ensures.value ∙ parsed c.args.text.now c.parse.result (sym c.may_begin.ensures ∙ c.if-not-may_begin.false) p

pub returns-in-Err : goal.returns-in-Err
returns-in-Err c = sym (no_text c.args.text.now c.in-Err.ensures.cases.0)
