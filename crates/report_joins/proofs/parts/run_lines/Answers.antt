use Rattle.report_joins.proofs.Common.{◌≡◌, ◌∷◌, ◌+◌, [], length, subst, ap, rules, Reads, with_node}
use Rattle.report_joins.proofs.Reading.{run_first, run_leaves, run_more, some_more}
use Rattle.report_joins.proofs.parts.run_lines.Goals as goal

pub loop-run-init : goal.loop-run-init
loop-run-init c =
    let is : c.in_ok-run.run'.items ≡ with_node 0 c.args.first ∷ [] = search rules in
    record {
      so = run_first c.args.place.node c.args.place.splits c.args.first c.args.rest c.in_ok-run.run'.items c.requires.node is;
      some = some_more [] c.in_ok-run.run'.items (with_node 0 c.args.first) is;
    }

pub loop-run-preserved : goal.loop-run-preserved
loop-run-preserved c =
    let rest = c.next_line.new.self in
    let line = c.in-Some.line in
    let own = c.in-Some-run_line.own in
    let read : c.loop-run.reader ≡ line ∷ rest = subst (λ o. Reads o c.loop-run.reader rest) c.in-Some.is c.in_ok-line.ensures.read in
    record {
      so = run_more c.args.place.node c.args.place.splits (c.args.first ∷ c.args.rest) c.loop-run.run.items c.in_ok-run-in-Some-run_line.run'.items c.loop-run.reader rest line own c.loop-run.invariant.so read c.in-Some-run_line.ensures c.in_ok-run-in-Some-run_line.ensures;
      some = some_more c.loop-run.run.items c.in_ok-run-in-Some-run_line.run'.items own c.in_ok-run-in-Some-run_line.ensures;
    }

pub returns-in-None-clause-fault : goal.returns-in-None-clause-fault
returns-in-None-clause-fault c =
    let rest = c.next_line.new.self in
    let line = c.in-Some.line in
    let read : c.loop-run.reader ≡ line ∷ rest = subst (λ o. Reads o c.loop-run.reader rest) c.in-Some.is c.in_ok-line.ensures.read in
    let counted : c.len.result ≡ length c.loop-run.run.items = search rules in
    run_leaves c.args.place.node c.args.place.splits c.args.at (c.args.at + c.len.result) (c.args.first ∷ c.args.rest) c.loop-run.run.items c.loop-run.reader rest line c.loop-run.invariant.so read c.loop-run.invariant.some (ap (λ n. c.args.at + n) counted) c.in-None.ensures
