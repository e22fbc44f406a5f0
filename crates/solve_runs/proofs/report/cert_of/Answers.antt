use Rattle.solve_runs.proofs.Common.{◌≡◌, ◌∙◌, ◌<◌, ◌^◌, ℕ, ap, arith, length, List, Option, Some, subst, sym, true, Cert, Line, is_accepted, lines_of, Agrees, status_of_book}
use Rattle.shift_instance.specs.declared.Row.{Row}
use Rattle.certificate.specs.declared.CertStatus.{CertStatus}
use Rattle.search_core.proofs.Fits.{class_few, rows_fit}
use Rattle.solve_runs.proofs.Accepting.{accepted, has_text}
use Rattle.solve_runs.proofs.report.cert_of.Goals as goal

cert_is : (c : Cert) (s : CertStatus) (p : Option (ℕ × List Row)) (n : ℕ) (ls : List Line) → c.status ≡ s → c.plan ≡ p → c.bound ≡ n → c.lines ≡ ls → c ≡ record { status = s; plan = p; bound = n; lines = ls }
cert_is c s p n ls status plan bound lines =
    ap (λ x. record c { status = x }) status
    ∙ ap (λ x. record c { status = s; plan = x }) plan
    ∙ ap (λ x. record c { status = s; plan = p; bound = x }) bound
    ∙ ap (λ x. record c { status = s; plan = p; bound = n; lines = x }) lines

pub returns-clause-is : goal.returns-clause-is
returns-clause-is g c =
    let v = c.args.book.now.log in
    let e = c.in_ok-cert.ensures in
    cert_is c.in_ok-cert.cert (status_of_book v.book) (Some (v.book.cost, v.book.best)) _ (lines_of v.history)
    (e.status ∙ c.status_of.ensures)
    (e.plan ∙ ap (λ (n : ℕ). Some (n, c.best.result.now)) c.best_cost.ensures ∙ ap (λ (rows : List Row). Some (v.book.cost, rows)) c.best.ensures.best)
    (e.bound ∙ c.floor.ensures.floor)
    (e.lines ∙ ap lines_of c.history-posts.ensures.history)

pub returns-clause-agrees : goal.returns-clause-agrees
returns-clause-agrees g c = λ valid.
    let v = c.args.book.now.log in
    let few : length v.history < 2 ^ 32 = omega (arith, c.history-posts.ensures.few) in
    subst Agrees (sym {A = Cert} (returns-clause-is g c)) (has_text v.instance v.history v.book valid few (rows_fit v.instance v.book.best valid c.best.ensures.sound.legal).0 c.history-posts.ensures.folds)

pub returns-clause-accepted : goal.returns-clause-accepted
returns-clause-accepted g c = λ valid.
    let v = c.args.book.now.log in
    subst (λ (x : Cert). is_accepted v.instance x ≡ true) (sym {A = Cert} (returns-clause-is g c)) (accepted v.instance v.history v.book valid (λ class live. class_few v.instance class valid live) c.history-posts.ensures.folds)
