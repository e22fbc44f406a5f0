use Rattle.solve_runs.proofs.Common.{sum_by, vec_len, arith, IsFresh, board_of}
use denote.Param.Send.{param_send, arg_send}
use Rattle.search_book.proofs.Crosses.{book_send}
use Rattle.solve_runs.proofs.Ending.{run_ends}
use Rattle.solve_runs.proofs.Telling.{are_told}
use Rattle.solve_runs.proofs.search.search_by.Goals as goal

pub run_workers-requires-send-B : goal.run_workers-requires-send-B
run_workers-requires-send-B g c κs within = let s = c.type_bounds.send-D in search (book_send, param_send, arg_send)

pub returns-clause-goes_on : goal.returns-clause-goes_on
returns-clause-goes_on g c = let r = c.run_workers.ensures in record { same = r.same; begins = r.begins }

pub returns-clause-ends : goal.returns-clause-ends
returns-clause-ends g c =
    let K = g.D.Disk in
    let r = c.run_workers.ensures in
    let seats = c.run_workers.result.1 in
    let commits = sum_by (λ s. s.share) seats.items in
    let fresh : IsFresh (board_of K.reads K.calls K.faults c.args.book) = record { sound = c.keeps_sound.ensures; none_taken = c.requires.begun.fresh; empty = c.requires.begun.empty } in (
      commits,
      run_ends K.reads K.calls K.faults (vec_len c.args.seats) commits c.args.book c.run_workers.result.0 c.run_workers.result.2 r.same fresh r.end r.turns r.posts r.exact r.enough,
      are_told (λ s. (goal.Adviser-dyn g (s.adviser.vtable, s.adviser.value)).told s.adviser.value) (λ s. s.told) (λ s. s.share) (vec_len c.args.seats) c.args.seats.items seats.items
          (omega (arith, c.args.seats.ok)) (omega (arith, seats.ok, r.seats)) r.each r.told,
    )

pub run_turns-book-requires-send-B : goal.run_turns-book-requires-send-B
run_turns-book-requires-send-B g c κs within = let s = c.type_bounds.send-D in search (book_send, param_send, arg_send)

pub returns-then-turns-clause-goes_on : goal.returns-then-turns-clause-goes_on
returns-then-turns-clause-goes_on g c = let r = c.run_turns-book.ensures in record { same = r.same; begins = r.begins }

pub returns-then-turns-clause-ends : goal.returns-then-turns-clause-ends
returns-then-turns-clause-ends g c =
    let K = g.D.Disk in
    let r = c.run_turns-book.ensures in
    let seats = c.run_turns-book.result.1 in
    let commits = sum_by (λ s. s.share) seats.items in
    let fresh : IsFresh (board_of K.reads K.calls K.faults c.args.book) = record { sound = c.keeps_sound.ensures; none_taken = c.requires.begun.fresh; empty = c.requires.begun.empty } in (
      commits,
      run_ends K.reads K.calls K.faults (vec_len c.args.seats) commits c.args.book c.run_turns-book.result.0 c.run_turns-book.result.3 r.same fresh r.end r.turns r.posts r.exact r.enough,
      are_told (λ s. (goal.Adviser-dyn g (s.adviser.vtable, s.adviser.value)).told s.adviser.value) (λ s. s.told) (λ s. s.share) (vec_len c.args.seats) c.args.seats.items seats.items
          (omega (arith, c.args.seats.ok)) (omega (arith, seats.ok, r.seats)) r.each r.told,
    )
