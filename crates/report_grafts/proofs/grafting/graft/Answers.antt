use Rattle.report_grafts.proofs.Common.{rules, arith, ◌≡◌, ◌^◌, ◌+◌, ◌*◌, ◌<◌, ◌≤◌, List, length, sym, ap, subst, ◌∙◌, All, err_from_is_err_and, Cert, Line, node_of, HasOpenEnd, found_by, grafted_lines, grafted_plan}
use Rattle.report_grafts.proofs.Ends.{export_grafted}
use Rattle.report_grafts.proofs.Plans.{accepted_agrees}
use Rattle.report_grafts.proofs.Grafts.{branches_number, graft_accepted, graft_better, lines_are, lines_good, open_end, run_fits, splits_few}
use Rattle.report_grafts.proofs.grafting.graft.Goals as goal

pub returns-in_err-branches-clause-fault : goal.returns-in_err-branches-clause-fault
returns-in_err-branches-clause-fault c =
    let p = err_from_is_err_and c.from_residual.result c.from_residual.ensures.1 in
    rw (p.1, p.2) (export_grafted c.args.instance.now c.args.whole.now c.args.node c.args.run.now.base c.in_err-branches.field-0.0 (c.in_err-branches.ensures.fault c.args.node))

pub overflow_cast-place : goal.overflow_cast-place
overflow_cast-place c =
    let counted : c.len.result ≡ length c.in_ok-branches.branches.items = search rules in
    let few : c.len.result ≤ 2 ^ 28 = splits_few c.args.whole.now.lines c.in_ok-branches.branches.items c.len.result c.in_ok-branches.ensures.splits counted c.requires.few in
    omega (arith, few)

pub all_lines-requires : goal.all_lines-requires
all_lines-requires c =
    let counted : c.len.result ≡ length c.in_ok-branches.branches.items = search rules in
    let few : c.len.result ≤ 2 ^ 28 = splits_few c.args.whole.now.lines c.in_ok-branches.branches.items c.len.result c.in_ok-branches.ensures.splits counted c.requires.few in
    subst (λ (ls : List Line). All (λ line. node_of line + 2 * c.len.result < 2 ^ 32) ls) (sym c.lines.ensures.lines) (run_fits c.args.run.now c.len.result c.lines.ensures.sound few)

pub found_by-requires : goal.found_by-requires
found_by-requires c =
    let run = c.args.run.now in
    let counted : c.len.result ≡ length c.in_ok-branches.branches.items = search rules in
    let alike : c.as_slice.result.now ≡ c.as_slice-2.result.now = search rules in
    let same : c.in_ok-cuts.cuts ≡ run.base = sym c.as_slice.ensures ∙ alike ∙ c.as_slice-2.ensures ∙ c.base.ensures.base in
    let end : HasOpenEnd c.args.instance.now c.args.whole.now c.args.node run.base =
    open_end c.args.instance.now c.args.whole.now c.args.node c.in_ok-cuts.cuts run.base c.in_ok-branches.branches.items c.in_ok-branches.ensures.accepted c.in_ok-branches.ensures.made (search rules) same in
    let lines : c.in_ok-lines.lines ≡ grafted_lines c.args.whole.now.lines c.args.node run.lines =
    lines_are c.args.whole.now.lines c.args.node c.len.result run.lines c.lines.result.now c.in_ok-lines.lines c.in_ok-lines.ensures c.lines.ensures.lines
    (counted ∙ branches_number c.args.whole.now.lines c.in_ok-branches.branches.items c.in_ok-branches.ensures.splits) in
    lines_good c.args.instance.now c.args.whole.now c.args.node run c.in_ok-lines.lines end c.lines.ensures.sound c.requires.same lines

pub returns-clause-lines : goal.returns-clause-lines
returns-clause-lines c =
    let run = c.args.run.now in
    let counted : c.len.result ≡ length c.in_ok-branches.branches.items = search rules in
    c.in_ok-bound.ensures.lines
    ∙ lines_are c.args.whole.now.lines c.args.node c.len.result run.lines c.lines.result.now c.in_ok-lines.lines c.in_ok-lines.ensures c.lines.ensures.lines
    (counted ∙ branches_number c.args.whole.now.lines c.in_ok-branches.branches.items c.in_ok-branches.ensures.splits)

pub returns-clause-accepted : goal.returns-clause-accepted
returns-clause-accepted c =
    let run = c.args.run.now in
    let cert : Cert = record { status = c.status_of.result; plan = c.in_ok-plan.plan; bound = c.in_ok-bound.bound; lines = c.in_ok-bound.lines } in
    let counted : c.len.result ≡ length c.in_ok-branches.branches.items = search rules in
    let alike : c.as_slice.result.now ≡ c.as_slice-2.result.now = search rules in
    let same : c.in_ok-cuts.cuts ≡ run.base = sym c.as_slice.ensures ∙ alike ∙ c.as_slice-2.ensures ∙ c.base.ensures.base in
    let end : HasOpenEnd c.args.instance.now c.args.whole.now c.args.node run.base =
    open_end c.args.instance.now c.args.whole.now c.args.node c.in_ok-cuts.cuts run.base c.in_ok-branches.branches.items c.in_ok-branches.ensures.accepted c.in_ok-branches.ensures.made (search rules) same in
    let lines : c.in_ok-bound.lines ≡ grafted_lines c.args.whole.now.lines c.args.node run.lines =
    c.in_ok-bound.ensures.lines
    ∙ lines_are c.args.whole.now.lines c.args.node c.len.result run.lines c.lines.result.now c.in_ok-lines.lines c.in_ok-lines.ensures c.lines.ensures.lines
    (counted ∙ branches_number c.args.whole.now.lines c.in_ok-branches.branches.items c.in_ok-branches.ensures.splits) in
    let bound : c.in_ok-bound.bound ≡ found_by c.args.instance.now c.in_ok-bound.lines = c.in_ok-bound.ensures.found ∙ ap (found_by c.args.instance.now) (sym c.in_ok-bound.ensures.lines) in
    let plan : c.in_ok-plan.plan ≡ grafted_plan c.args.whole.now.plan run.best = c.in_ok-plan.ensures ∙ ap (grafted_plan c.args.whole.now.plan) c.best.ensures.best in
    graft_accepted c.args.instance.now c.args.whole.now c.args.node run cert end c.lines.ensures.sound c.requires.same lines plan bound

pub returns-clause-better : goal.returns-clause-better
returns-clause-better c =
    let run = c.args.run.now in
    let cert : Cert = record { status = c.status_of.result; plan = c.in_ok-plan.plan; bound = c.in_ok-bound.bound; lines = c.in_ok-bound.lines } in
    let counted : c.len.result ≡ length c.in_ok-branches.branches.items = search rules in
    let alike : c.as_slice.result.now ≡ c.as_slice-2.result.now = search rules in
    let same : c.in_ok-cuts.cuts ≡ run.base = sym c.as_slice.ensures ∙ alike ∙ c.as_slice-2.ensures ∙ c.base.ensures.base in
    let end : HasOpenEnd c.args.instance.now c.args.whole.now c.args.node run.base =
    open_end c.args.instance.now c.args.whole.now c.args.node c.in_ok-cuts.cuts run.base c.in_ok-branches.branches.items c.in_ok-branches.ensures.accepted c.in_ok-branches.ensures.made (search rules) same in
    let lines : c.in_ok-bound.lines ≡ grafted_lines c.args.whole.now.lines c.args.node run.lines =
    c.in_ok-bound.ensures.lines
    ∙ lines_are c.args.whole.now.lines c.args.node c.len.result run.lines c.lines.result.now c.in_ok-lines.lines c.in_ok-lines.ensures c.lines.ensures.lines
    (counted ∙ branches_number c.args.whole.now.lines c.in_ok-branches.branches.items c.in_ok-branches.ensures.splits) in
    let bound : c.in_ok-bound.bound ≡ found_by c.args.instance.now c.in_ok-bound.lines = c.in_ok-bound.ensures.found ∙ ap (found_by c.args.instance.now) (sym c.in_ok-bound.ensures.lines) in
    graft_better c.args.instance.now c.args.whole.now c.args.node run cert end c.lines.ensures.sound c.requires.same lines bound

pub returns-clause-agrees : goal.returns-clause-agrees
returns-clause-agrees c =
    let run = c.args.run.now in
    let cert : Cert = record { status = c.status_of.result; plan = c.in_ok-plan.plan; bound = c.in_ok-bound.bound; lines = c.in_ok-bound.lines } in
    let counted : c.len.result ≡ length c.in_ok-branches.branches.items = search rules in
    let alike : c.as_slice.result.now ≡ c.as_slice-2.result.now = search rules in
    let same : c.in_ok-cuts.cuts ≡ run.base = sym c.as_slice.ensures ∙ alike ∙ c.as_slice-2.ensures ∙ c.base.ensures.base in
    let end : HasOpenEnd c.args.instance.now c.args.whole.now c.args.node run.base =
    open_end c.args.instance.now c.args.whole.now c.args.node c.in_ok-cuts.cuts run.base c.in_ok-branches.branches.items c.in_ok-branches.ensures.accepted c.in_ok-branches.ensures.made (search rules) same in
    let lines : c.in_ok-bound.lines ≡ grafted_lines c.args.whole.now.lines c.args.node run.lines =
    c.in_ok-bound.ensures.lines
    ∙ lines_are c.args.whole.now.lines c.args.node c.len.result run.lines c.lines.result.now c.in_ok-lines.lines c.in_ok-lines.ensures c.lines.ensures.lines
    (counted ∙ branches_number c.args.whole.now.lines c.in_ok-branches.branches.items c.in_ok-branches.ensures.splits) in
    let bound : c.in_ok-bound.bound ≡ found_by c.args.instance.now c.in_ok-bound.lines = c.in_ok-bound.ensures.found ∙ ap (found_by c.args.instance.now) (sym c.in_ok-bound.ensures.lines) in
    let plan : c.in_ok-plan.plan ≡ grafted_plan c.args.whole.now.plan run.best = c.in_ok-plan.ensures ∙ ap (grafted_plan c.args.whole.now.plan) c.best.ensures.best in
    accepted_agrees c.args.instance.now cert
    (graft_accepted c.args.instance.now c.args.whole.now c.args.node run cert end c.lines.ensures.sound c.requires.same lines plan bound)
    c.status_of.ensures
