use Rattle.solve_runs.proofs.Common.{◌∙◌, ℕ, map, arith, false≢true}
use Rattle.solve_runs.proofs.Demos.{are_committed, one_told, searches_of}
use Rattle.solve_runs.proofs.Telling.{map_last, map_single, Element}
use Rattle.solve_runs.proofs.demo.search_all.Goals as goal

pub returns-clause-searches : goal.returns-clause-searches
returns-clause-searches g c = let r = c.run_seat-end.ensures in searches_of _ _ c.run_seat-end.result r.same r.makes r.end r.posts r.enough

pub returns-clause-told : goal.returns-clause-told
returns-clause-told g c =
    let heard : Element c.args.advisers.now.items → ℕ = λ a. (goal.Adviser-dyn g (a.vtable, a.value)).told a.value in
    let r = c.run_seat-end.ensures in
    let seat = c.run_seat-end.new.seat in
    let first = c.args.advisers.now in
    let left = c.remove.new.self in
    let last = c.push_reserved.new.self in
    one_told (map heard first.items) (map heard last.items) (heard c.remove.result) (heard seat.adviser) seat.told _
    (map_single heard first.items c.remove.result (omega (arith, first.ok, c.requires.one)) c.remove.ensures.value)
    (map_last heard left.items last.items seat.adviser (omega (arith, left.ok, c.remove.ensures.len, c.requires.one)) c.push_reserved.ensures.items)
    r.told (r.each ∙ r.share)

pub returns-clause-going : goal.returns-clause-going
returns-clause-going g c = λ is. false≢true (c.run_seat-end.ensures.stopped is)

pub returns-clause-committed : goal.returns-clause-committed
returns-clause-committed g c = λ some. are_committed _ _ c.run_seat-end.result (returns-clause-going g c) some c.run_seat-end.ensures.makes
