use Rattle.certificate.proofs.Common.{◌≡◌, ◌∙◌, ◌<◌, ◌∷◌, ℕ, List, pos, neg_ℤ, ap, arith, rules, sym, signed_decimal, decimal_digit}
use Rattle.certificate.proofs.Short.{below_zero}
use Rattle.certificate.proofs.proof_writing.short_text.Goals as goal

pub returns-in-minus1 : goal.returns-in-minus1
returns-in-minus1 c =
    let is : c.args.price ≡ neg_ℤ (pos 1) = search rules in
    ap (λ (l : List ℕ). 45 ∷ l) (sym (decimal_digit 1 (omega arith))) ∙ below_zero 1 (omega arith) ∙ ap signed_decimal (sym is)

pub returns-in-0 : goal.returns-in-0
returns-in-0 c =
    let is : c.args.price ≡ pos 0 = search rules in
    sym (decimal_digit 0 (omega arith)) ∙ ap signed_decimal (sym is)

pub returns-in-1 : goal.returns-in-1
returns-in-1 c =
    let is : c.args.price ≡ pos 1 = search rules in
    sym (decimal_digit 1 (omega arith)) ∙ ap signed_decimal (sym is)

pub returns-in-2 : goal.returns-in-2
returns-in-2 c =
    let is : c.args.price ≡ pos 2 = search rules in
    sym (decimal_digit 2 (omega arith)) ∙ ap signed_decimal (sym is)

pub returns-in-3 : goal.returns-in-3
returns-in-3 c =
    let is : c.args.price ≡ pos 3 = search rules in
    sym (decimal_digit 3 (omega arith)) ∙ ap signed_decimal (sym is)

pub returns-in-4 : goal.returns-in-4
returns-in-4 c =
    let is : c.args.price ≡ pos 4 = search rules in
    sym (decimal_digit 4 (omega arith)) ∙ ap signed_decimal (sym is)

pub returns-in-5 : goal.returns-in-5
returns-in-5 c =
    let is : c.args.price ≡ pos 5 = search rules in
    sym (decimal_digit 5 (omega arith)) ∙ ap signed_decimal (sym is)

pub returns-in-6 : goal.returns-in-6
returns-in-6 c =
    let is : c.args.price ≡ pos 6 = search rules in
    sym (decimal_digit 6 (omega arith)) ∙ ap signed_decimal (sym is)

pub returns-in-7 : goal.returns-in-7
returns-in-7 c =
    let is : c.args.price ≡ pos 7 = search rules in
    sym (decimal_digit 7 (omega arith)) ∙ ap signed_decimal (sym is)

pub returns-in-8 : goal.returns-in-8
returns-in-8 c =
    let is : c.args.price ≡ pos 8 = search rules in
    sym (decimal_digit 8 (omega arith)) ∙ ap signed_decimal (sym is)

pub returns-in-9 : goal.returns-in-9
returns-in-9 c =
    let is : c.args.price ≡ pos 9 = search rules in
    sym (decimal_digit 9 (omega arith)) ∙ ap signed_decimal (sym is)
