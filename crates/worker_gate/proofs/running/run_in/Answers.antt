use Rattle.worker_gate.proofs.Common.{◌<◌, ◌^◌, ◌∙◌, arith, refl, sym, ap, subst, length, slice_index_or, sum_by, vec_len, length-map, root_of, HasBadge, no_turns, KnowsBoard, WorkersEnd, root_at, IsToldLast}
use Rattle.worker_gate.proofs.Moved.{sum_none}
use Rattle.worker_gate.proofs.Rooted.{all_know, knows}
use Rattle.worker_gate.proofs.News.{each_on, each_through, tells_on, told_at, told_nothing, Tells}
use Rattle.worker_gate.proofs.Telling.{told_through}
use Rattle.worker_gate.proofs.running.run_in.Goals as goal

pub returns-in_default-clause-turns : goal.returns-in_default-clause-turns
returns-in_default-clause-turns g c =
    let none = sum_none (λ s. s.share) c.args.seats.items (λ k d l. (c.requires.new k d l).1) in
    no_turns (vec_len c.args.seats) (g.B.Board.seen c.args.board) (g.B.Board.seen c.args.board) (sum_by (λ s. s.share) c.args.seats.items) refl none

pub returns-in-Err-clause-turns : goal.returns-in-Err-clause-turns
returns-in-Err-clause-turns g c =
    let none = sum_none (λ s. s.share) c.args.seats.items (λ k d l. (c.requires.new k d l).1) in
    let back = c.into_board-board.ensures.board ∙ ap (λ desk. desk.held.board) c.in-Err.ensures.refused ∙ c.new-held.ensures.board in
    no_turns (vec_len c.args.seats) (g.B.Board.seen c.args.board) (g.B.Board.seen c.into_board-board.result) (sum_by (λ s. s.share) c.args.seats.items) (ap g.B.Board.seen (sym back)) none

pub work_bench-requires-clause-rest : goal.work_bench-requires-clause-rest
work_bench-requires-clause-rest g c κs within =
    let xs = c.seat_all.new.bench.items in
    let many = ap length c.seat_all.ensures.bench in
    let mapped = length-map {A = _} xs (λ p. p.seat) in
    let instance = ap (λ b. (g.B.Board.seen b).instance) c.new-held.ensures.opened ∙ c.requires.instance in
    let budget = subst (λ b. (g.B.Board.seen b).budget < 2 ^ 63) (sym c.new-held.ensures.opened) c.requires.budget in
    let root = root_of c.in-Ok-new.made.1 in (
      root,
      all_know g.B.Board.seen (λ p. p.number) (λ p. HasBadge c.in-Ok-new.made.0 root p.chair) c.args.instance.now root xs
          (λ k low. subst (λ r. KnowsBoard g.B.Board.seen c.args.instance.now k r) (sym c.in-Ok-new.ensures.root)
          (knows g.B.Board.seen c.args.instance.now k c.new-held.result.workers c.new-held.result.opened instance budget (omega (arith, low, many, mapped, c.new-held.ensures.workers, c.len-3.ensures, c.args.seats.ok, c.requires.sixteen))))
          (λ k d low. c.seat_all.ensures.numbers k d (omega (arith, low, many, mapped, c.args.seats.ok)))
          c.seat_all.ensures.rest,
    )

pub finish_all-end-requires-clause-numbers : goal.finish_all-end-requires-clause-numbers
finish_all-end-requires-clause-numbers g c =
    let many = ap length c.seat_all.ensures.bench in
    let mapped = length-map {A = _} c.seat_all.new.bench.items (λ p. p.seat) in
    λ i d low.
    c.work_bench.ensures.numbers i d (omega (arith, low, c.work_bench.new.bench.ok, c.seat_all.new.bench.ok, c.work_bench.ensures.len))
    ∙ c.seat_all.ensures.numbers i d (omega (arith, low, c.work_bench.new.bench.ok, c.work_bench.ensures.len, many, mapped, c.args.seats.ok))

pub returns-clause-end : goal.returns-clause-end
returns-clause-end g c =
    subst (λ b. WorkersEnd (g.B.Board.seen c.args.board) (g.B.Board.seen b) c.finish_all-end.result) (sym c.into_board-board-2.ensures.board) (c.finish_all-end.ensures.end (g.B.Board.seen c.args.board))

pub returns-clause-told : goal.returns-clause-told
returns-clause-told g c =
    let all = told_through (λ p. p.seat) (λ s. (goal.Adviser-dyn g (s.adviser.vtable, s.adviser.value)).told s.adviser.value) (λ s. s.told)
    c.seat_all.new.bench.items c.work_bench.new.bench.items c.finish_all-end.new.bench.items c.args.seats.items c.unseat_all.new.seats.items
    c.seat_all.ensures.bench c.unseat_all.ensures.seats c.work_bench.ensures.len c.finish_all-end.ensures.len
    (λ k d l. (c.requires.new k d l).0)
    (λ i d low. c.work_bench.ensures.told i d (omega (arith, low, c.seat_all.new.bench.ok)))
    (λ i d low. c.finish_all-end.ensures.told i d (omega (arith, low, c.work_bench.new.bench.ok))) in
    λ i d low. all i d (omega (arith, low, c.args.seats.ok))

-- a bench on which no worker has looked yet
pub finish_all-end-requires-clause-asked : goal.finish_all-end-requires-clause-asked
finish_all-end-requires-clause-asked g c =
    λ i d low is.
    let there : i < vec_len c.seat_all.new.bench = omega (arith, low, c.work_bench.new.bench.ok, c.seat_all.new.bench.ok, c.work_bench.ensures.len) in
    let here : i < length c.seat_all.new.bench.items = omega (arith, low, c.work_bench.new.bench.ok, c.work_bench.ensures.len) in
    c.work_bench.ensures.asked i d there is (c.seat_all.ensures.unasked i d here)

pub returns-clause-last : goal.returns-clause-last
returns-clause-last g c =
    let root = root_of c.in-Ok-new.made.1 in
    let first = c.seat_all.new.bench.items in
    let mid = c.work_bench.new.bench.items in
    let last = c.finish_all-end.new.bench.items in
    let numbers = c.seat_all.ensures.numbers in
    let many = ap length c.seat_all.ensures.bench in
    let mapped = length-map {A = _} first (λ p. p.seat) in
    let entered = ap (λ h. root_at h.opened h.workers) c.unkept-noted.ensures.held ∙ c.enter-held.ensures.value ∙ c.seat_all.ensures.root in
    let worked = c.work_bench.ensures.last root c.seat_all.ensures.rest in
    let all = each_through (λ p. p.seat) (Tells (λ s. s.told) (λ s. (goal.Adviser-dyn g (s.adviser.vtable, s.adviser.value)).last s.adviser.value) root.workers (g.B.Board.seen root.opened.value))
    first last c.args.seats.items c.unseat_all.new.seats.items c.seat_all.ensures.bench c.unseat_all.ensures.seats (c.finish_all-end.ensures.len ∙ c.work_bench.ensures.len)
    (each_on (Tells (λ p. p.seat.told) (λ p. (goal.Adviser-dyn g (p.seat.adviser.vtable, p.seat.adviser.value)).last p.seat.adviser.value) root.workers (g.B.Board.seen root.opened.value)) (tells_on (λ p. p.seat.told) (λ p. (goal.Adviser-dyn g (p.seat.adviser.vtable, p.seat.adviser.value)).last p.seat.adviser.value) root.workers (g.B.Board.seen root.opened.value)) first mid last c.work_bench.ensures.len
    (λ i d low. told_at g.B.Board.seen root root i (slice_index_or first i d).number (slice_index_or first i d).seat.told (slice_index_or mid i d).seat.told
    ((goal.Adviser-dyn g ((slice_index_or first i d).seat.adviser.vtable, (slice_index_or first i d).seat.adviser.value)).last (slice_index_or first i d).seat.adviser.value) ((goal.Adviser-dyn g ((slice_index_or mid i d).seat.adviser.vtable, (slice_index_or mid i d).seat.adviser.value)).last (slice_index_or mid i d).seat.adviser.value)
    refl (numbers i d (omega (arith, low, many, mapped, c.args.seats.ok))) (worked i d (omega (arith, low, c.seat_all.new.bench.ok))))
    (λ i d low. told_at g.B.Board.seen root (root_at c.unkept-noted.result.held.opened c.unkept-noted.result.held.workers) i i (slice_index_or mid i d).seat.told (slice_index_or last i d).seat.told
    ((goal.Adviser-dyn g ((slice_index_or mid i d).seat.adviser.vtable, (slice_index_or mid i d).seat.adviser.value)).last (slice_index_or mid i d).seat.adviser.value) ((goal.Adviser-dyn g ((slice_index_or last i d).seat.adviser.vtable, (slice_index_or last i d).seat.adviser.value)).last (slice_index_or last i d).seat.adviser.value)
    entered refl (c.finish_all-end.ensures.last i d (omega (arith, low, c.work_bench.new.bench.ok))))) in
    let opened = c.in-Ok-new.ensures.root in
    λ i d low.
    let there : i < length c.args.seats.items = omega (arith, low, c.args.seats.ok) in
    let one = all i d there in
    let of_workers = subst (λ n. IsToldLast n (g.B.Board.seen root.opened.value) i (slice_index_or c.args.seats.items i d).told (slice_index_or c.unseat_all.new.seats.items i d).told
    ((goal.Adviser-dyn g ((slice_index_or c.args.seats.items i d).adviser.vtable, (slice_index_or c.args.seats.items i d).adviser.value)).last (slice_index_or c.args.seats.items i d).adviser.value)
    ((goal.Adviser-dyn g ((slice_index_or c.unseat_all.new.seats.items i d).adviser.vtable, (slice_index_or c.unseat_all.new.seats.items i d).adviser.value)).last (slice_index_or c.unseat_all.new.seats.items i d).adviser.value))
    (ap (λ r. r.workers) opened ∙ c.new-held.ensures.workers ∙ c.len-3.ensures) one in
    let of_board = subst (λ b. IsToldLast (vec_len c.args.seats) (g.B.Board.seen b) i (slice_index_or c.args.seats.items i d).told (slice_index_or c.unseat_all.new.seats.items i d).told
    ((goal.Adviser-dyn g ((slice_index_or c.args.seats.items i d).adviser.vtable, (slice_index_or c.args.seats.items i d).adviser.value)).last (slice_index_or c.args.seats.items i d).adviser.value)
    ((goal.Adviser-dyn g ((slice_index_or c.unseat_all.new.seats.items i d).adviser.vtable, (slice_index_or c.unseat_all.new.seats.items i d).adviser.value)).last (slice_index_or c.unseat_all.new.seats.items i d).adviser.value))
    (ap (λ r. r.opened.value) opened ∙ c.new-held.ensures.opened) of_workers in
    subst (λ n. IsToldLast (vec_len c.args.seats) (g.B.Board.seen c.args.board) i n (slice_index_or c.unseat_all.new.seats.items i d).told
    ((goal.Adviser-dyn g ((slice_index_or c.args.seats.items i d).adviser.vtable, (slice_index_or c.args.seats.items i d).adviser.value)).last (slice_index_or c.args.seats.items i d).adviser.value)
    ((goal.Adviser-dyn g ((slice_index_or c.unseat_all.new.seats.items i d).adviser.vtable, (slice_index_or c.unseat_all.new.seats.items i d).adviser.value)).last (slice_index_or c.unseat_all.new.seats.items i d).adviser.value))
    (c.requires.new i d there).0 of_board

pub returns-in_default-clause-last : goal.returns-in_default-clause-last
returns-in_default-clause-last g c =
    λ i d low. told_nothing (vec_len c.args.seats) (g.B.Board.seen c.args.board) i 0 (slice_index_or c.args.seats.items i d).told
    ((goal.Adviser-dyn g ((slice_index_or c.args.seats.items i d).adviser.vtable, (slice_index_or c.args.seats.items i d).adviser.value)).last (slice_index_or c.args.seats.items i d).adviser.value)
    ((goal.Adviser-dyn g ((slice_index_or c.args.seats.items i d).adviser.vtable, (slice_index_or c.args.seats.items i d).adviser.value)).last (slice_index_or c.args.seats.items i d).adviser.value)
    (c.requires.new i d (omega (arith, low, c.args.seats.ok))).0 refl

pub returns-in-Err-clause-last : goal.returns-in-Err-clause-last
returns-in-Err-clause-last g c =
    λ i d low. told_nothing (vec_len c.args.seats) (g.B.Board.seen c.args.board) i 0 (slice_index_or c.args.seats.items i d).told
    ((goal.Adviser-dyn g ((slice_index_or c.args.seats.items i d).adviser.vtable, (slice_index_or c.args.seats.items i d).adviser.value)).last (slice_index_or c.args.seats.items i d).adviser.value)
    ((goal.Adviser-dyn g ((slice_index_or c.args.seats.items i d).adviser.vtable, (slice_index_or c.args.seats.items i d).adviser.value)).last (slice_index_or c.args.seats.items i d).adviser.value)
    (c.requires.new i d (omega (arith, low, c.args.seats.ok))).0 refl

pub returns-in_default-tellings-clause-turns : goal.returns-in_default-tellings-clause-turns
returns-in_default-tellings-clause-turns g c =
    let none = sum_none (λ s. s.share) c.args.seats.items (λ k d l. (c.requires.new k d l).1) in
    no_turns (vec_len c.args.seats) (g.B.Board.seen c.args.board) (g.B.Board.seen c.args.board) (sum_by (λ s. s.share) c.args.seats.items) refl none

pub returns-in_default-tellings-clause-last : goal.returns-in_default-tellings-clause-last
returns-in_default-tellings-clause-last g c =
    λ i d low. told_nothing (vec_len c.args.seats) (g.B.Board.seen c.args.board) i 0 (slice_index_or c.args.seats.items i d).told
    ((goal.Adviser-dyn g ((slice_index_or c.args.seats.items i d).adviser.vtable, (slice_index_or c.args.seats.items i d).adviser.value)).last (slice_index_or c.args.seats.items i d).adviser.value)
    ((goal.Adviser-dyn g ((slice_index_or c.args.seats.items i d).adviser.vtable, (slice_index_or c.args.seats.items i d).adviser.value)).last (slice_index_or c.args.seats.items i d).adviser.value)
    (c.requires.new i d (omega (arith, low, c.args.seats.ok))).0 refl
