use Rattle.solve_runs.proofs.Common.{◌≡◌, ℕ, true, List, rules, subst, sym, Problem, Cert, is_accepted, IsValid, Spells, HasText, cert_of}
use Rattle.solve_runs.proofs.Reading.{output_reads}
use Rattle.solve_runs.proofs.report.report_of.Goals as goal
use Rattle.solve_runs.proofs.report.report_of.Goals.{then-with_table+in_ok-lines+in_ok-extend_from_slice, else-with_table}

pub report-requires : goal.report-requires
report-requires g c = c.in_ok-cert.ensures.agrees (subst IsValid (sym c.requires.same) c.heads-heads.ensures.valid)

pub returns-clause-text : goal.returns-clause-text
returns-clause-text g c = elim c.if-with_table.branch [
  | then-with_table+in_ok-lines+in_ok-extend_from_slice w ↦ search rules
  | else-with_table w ↦ search rules
]

pub returns-clause-reads : goal.returns-clause-reads
returns-clause-reads g c =
    let book = c.args.book.now.log in
    let has : HasText (cert_of book.history book.book) = subst HasText c.in_ok-cert.ensures.is c.in_ok-bytes.ensures.has in
    subst (λ (bytes : List ℕ). Spells bytes (cert_of book.history book.book)) (sym {A = List ℕ} (returns-clause-text g c))
    (output_reads c.args.instance.now c.args.with_table book.history book.book c.heads-heads.ensures.valid has)

pub returns-clause-accepted : goal.returns-clause-accepted
returns-clause-accepted g c =
    let book = c.args.book.now.log in
    let valid : IsValid book.instance = subst IsValid (sym c.requires.same) c.heads-heads.ensures.valid in
    subst (λ (i : Problem). is_accepted i (cert_of book.history book.book) ≡ true) c.requires.same
    (subst (λ (x : Cert). is_accepted book.instance x ≡ true) c.in_ok-cert.ensures.is (c.in_ok-cert.ensures.accepted valid))
