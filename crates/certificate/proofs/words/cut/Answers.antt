use Rattle.certificate.proofs.Common.{◌≡◌, sym, ap, ◌∙◌, ◌-◌, ◌+◌, List, ℕ, suc, take, drop, length, arith, take_all, drop-drop, length-drop}
use Rattle.certificate.proofs.Spelling.{cut_place, cut_no_place}
use Rattle.certificate.proofs.words.cut.Goals as goal

pub returns-in-Some : goal.returns-in-Some
returns-in-Some c =
    let back : List ℕ = c.split_at.result.1.now in
    let is : c.split_at.result.1.now ≡ drop c.in-Some.at c.args.text.now = c.split_at.ensures.back in
    let all : take (length back - 1) (drop 1 back) ≡ drop 1 back = take_all (length back - 1) (drop 1 back) (omega (arith, length-drop 1 back)) in
    let one : c.in-Some.at + 1 ≡ suc c.in-Some.at = omega arith in
    let rest : drop 1 back ≡ drop (suc c.in-Some.at) c.args.text.now = ap (λ (l : List ℕ). drop 1 l) is ∙ drop-drop 1 c.in-Some.at c.args.text.now ∙ ap (λ (n : ℕ). drop n c.args.text.now) one in
    rw (c.split_at.ensures.front, all, rest) (sym (cut_place c.args.by c.args.text.now c.in-Some.at (sym c.place.ensures.place ∙ c.in-Some.is)))

pub returns-in-None : goal.returns-in-None
returns-in-None c = sym (cut_no_place c.args.by c.args.text.now (sym c.place.ensures.place ∙ c.in-None.is))
