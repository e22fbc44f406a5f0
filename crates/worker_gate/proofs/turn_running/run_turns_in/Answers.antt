use Rattle.worker_gate.proofs.Common.{◌<◌, ◌^◌, ◌∙◌, Some, arith, refl, sym, ap, subst, length, slice_index_or, sum_by, vec_len, length-map, root_at, no_turns, FollowOn, HasTurns, IsToldLast, WorkersEnd}
use Rattle.worker_gate.proofs.Dealt.{new_count}
use Rattle.worker_gate.proofs.Moved.{sum_none}
use Rattle.worker_gate.proofs.News.{each_on, each_through, tells_on, told_at, told_nothing, Tells}
use Rattle.worker_gate.proofs.Passes.{never_passed}
use Rattle.worker_gate.proofs.Rooted.{all_know, knows}
use Rattle.worker_gate.proofs.Telling.{told_through}
use Rattle.worker_gate.proofs.turn_running.run_turns_in.Goals as goal

pub returns-in_default-clause-turns : goal.returns-in_default-clause-turns
returns-in_default-clause-turns g c =
    let none = sum_none (λ s. s.share) c.args.seats.items (λ k d l. (c.requires.new k d l).1) in
    no_turns (vec_len c.args.seats) (g.B.Board.seen c.args.board) (g.B.Board.seen c.args.board) (sum_by (λ s. s.share) c.args.seats.items) refl none

pub returns-in_default-clause-last : goal.returns-in_default-clause-last
returns-in_default-clause-last g c =
    λ i d low. told_nothing (vec_len c.args.seats) (g.B.Board.seen c.args.board) i 0 (slice_index_or c.args.seats.items i d).told
    ((goal.Adviser-dyn g ((slice_index_or c.args.seats.items i d).adviser.vtable, (slice_index_or c.args.seats.items i d).adviser.value)).last (slice_index_or c.args.seats.items i d).adviser.value)
    ((goal.Adviser-dyn g ((slice_index_or c.args.seats.items i d).adviser.vtable, (slice_index_or c.args.seats.items i d).adviser.value)).last (slice_index_or c.args.seats.items i d).adviser.value)
    (c.requires.new i d (omega (arith, low, c.args.seats.ok))).0 refl

pub returns-in_default-tellings-clause-turns : goal.returns-in_default-tellings-clause-turns
returns-in_default-tellings-clause-turns g c =
    let none = sum_none (λ s. s.share) c.args.seats.items (λ k d l. (c.requires.new k d l).1) in
    no_turns (vec_len c.args.seats) (g.B.Board.seen c.args.board) (g.B.Board.seen c.args.board) (sum_by (λ s. s.share) c.args.seats.items) refl none

pub returns-in_default-tellings-clause-last : goal.returns-in_default-tellings-clause-last
returns-in_default-tellings-clause-last g c =
    λ i d low. told_nothing (vec_len c.args.seats) (g.B.Board.seen c.args.board) i 0 (slice_index_or c.args.seats.items i d).told
    ((goal.Adviser-dyn g ((slice_index_or c.args.seats.items i d).adviser.vtable, (slice_index_or c.args.seats.items i d).adviser.value)).last (slice_index_or c.args.seats.items i d).adviser.value)
    ((goal.Adviser-dyn g ((slice_index_or c.args.seats.items i d).adviser.vtable, (slice_index_or c.args.seats.items i d).adviser.value)).last (slice_index_or c.args.seats.items i d).adviser.value)
    (c.requires.new i d (omega (arith, low, c.args.seats.ok))).0 refl

pub returns-in-Err-clause-turns : goal.returns-in-Err-clause-turns
returns-in-Err-clause-turns g c =
    let none = sum_none (λ s. s.share) c.args.seats.items (λ k d l. (c.requires.new k d l).1) in
    let back = c.into_board-board.ensures.board ∙ c.in-Err.ensures.refused in
    no_turns (vec_len c.args.seats) (g.B.Board.seen c.args.board) (g.B.Board.seen c.into_board-board.result) (sum_by (λ s. s.share) c.args.seats.items) (ap g.B.Board.seen (sym back)) none

pub returns-in-Err-clause-passes : goal.returns-in-Err-clause-passes
returns-in-Err-clause-passes g c =
    never_passed (g.B.Board.seen c.args.board).history (g.B.Board.seen c.into_board-board.result).history c.new-in-Err.result.items
    (ap (λ b. (g.B.Board.seen b).history) (c.into_board-board.ensures.board ∙ c.in-Err.ensures.refused)) c.new-in-Err.ensures.items

pub returns-in-Err-clause-last : goal.returns-in-Err-clause-last
returns-in-Err-clause-last g c =
    λ i d low. told_nothing (vec_len c.args.seats) (g.B.Board.seen c.args.board) i 0 (slice_index_or c.args.seats.items i d).told
    ((goal.Adviser-dyn g ((slice_index_or c.args.seats.items i d).adviser.vtable, (slice_index_or c.args.seats.items i d).adviser.value)).last (slice_index_or c.args.seats.items i d).adviser.value)
    ((goal.Adviser-dyn g ((slice_index_or c.args.seats.items i d).adviser.vtable, (slice_index_or c.args.seats.items i d).adviser.value)).last (slice_index_or c.args.seats.items i d).adviser.value)
    (c.requires.new i d (omega (arith, low, c.args.seats.ok))).0 refl

pub work_by_turns-requires-clause-rest : goal.work_by_turns-requires-clause-rest
work_by_turns-requires-clause-rest g c κs within =
    let root = c.in-Ok-lock_up.made.2 in
    let xs = c.seat_turns.new.bench.items in
    let many = ap length c.seat_turns.ensures.bench in
    let mapped = length-map {A = _} xs (λ p. p.seat) in
    let instance = ap (λ b. (g.B.Board.seen b).instance) c.in-Ok-lock_up.ensures.opened ∙ c.requires.instance in
    let budget = subst (λ b. (g.B.Board.seen b).budget < 2 ^ 63) (sym c.in-Ok-lock_up.ensures.opened) c.requires.budget in
    all_know g.B.Board.seen (λ p. p.number) (λ p. HasTurns c.in-Ok-lock_up.made.0 p.number root p.chair) c.args.instance.now root xs
    (λ k low. knows g.B.Board.seen c.args.instance.now k root.workers root.opened instance budget (omega (arith, low, many, mapped, c.in-Ok-lock_up.ensures.workers, c.len-3.ensures, c.args.seats.ok, c.requires.sixteen)))
    (λ k d low. c.seat_turns.ensures.numbers k d (omega (arith, low, many, mapped, c.args.seats.ok)))
    c.seat_turns.ensures.rest

pub work_by_turns-requires-clause-room : goal.work_by_turns-requires-clause-room
work_by_turns-requires-clause-room g c κs within =
    let made = c.in-Ok-lock_up.made.1 in
    let dealt = ap length c.in-Ok-lock_up.ensures.seats ∙ new_count c.in-Ok-lock_up.made.0.name (Some c.in-Ok-lock_up.made.2) 0 c.len-3.result in
    let many = ap length c.seat_turns.ensures.bench in
    let mapped = length-map {A = _} c.seat_turns.new.bench.items (λ p. p.seat) in
    omega (arith, dealt, many, mapped, made.ok, c.seat_turns.ensures.made, c.seat_turns.new.bench.ok, c.len-3.ensures, c.args.seats.ok)

pub finish_all-end-requires-clause-numbers : goal.finish_all-end-requires-clause-numbers
finish_all-end-requires-clause-numbers g c =
    let many = ap length c.seat_turns.ensures.bench in
    let mapped = length-map {A = _} c.seat_turns.new.bench.items (λ p. p.seat) in
    λ i d low.
    c.work_by_turns.ensures.numbers i d (omega (arith, low, c.work_by_turns.new.bench.ok, c.seat_turns.new.bench.ok, c.work_by_turns.ensures.len))
    ∙ c.seat_turns.ensures.numbers i d (omega (arith, low, c.work_by_turns.new.bench.ok, c.work_by_turns.ensures.len, many, mapped, c.args.seats.ok))

-- a bench on which no worker has looked yet
pub finish_all-end-requires-clause-asked : goal.finish_all-end-requires-clause-asked
finish_all-end-requires-clause-asked g c =
    λ i d low is.
    let there : i < vec_len c.seat_turns.new.bench = omega (arith, low, c.work_by_turns.new.bench.ok, c.seat_turns.new.bench.ok, c.work_by_turns.ensures.len) in
    let here : i < length c.seat_turns.new.bench.items = omega (arith, low, c.work_by_turns.new.bench.ok, c.work_by_turns.ensures.len) in
    c.work_by_turns.ensures.asked i d there is (c.seat_turns.ensures.unasked i d here)

pub returns-clause-end : goal.returns-clause-end
returns-clause-end g c =
    subst (λ b. WorkersEnd (g.B.Board.seen c.args.board) (g.B.Board.seen b) c.finish_all-end.result) (sym c.into_board-board-2.ensures.board) (c.finish_all-end.ensures.end (g.B.Board.seen c.args.board))

pub returns-clause-passes : goal.returns-clause-passes
returns-clause-passes g c =
    let noted = c.finish_all-end.new.noted in
    let follow = noted.follow (c.finish_all-end.ensures.keeps ∙ c.unlock-noted.ensures.keeps) in
    let root = c.finish_all-end.ensures.root ∙ c.unlock-noted.ensures.root in
    let opened = ap (λ r. r.opened.value) root ∙ c.in-Ok-lock_up.ensures.opened in
    let from = subst (λ b. ∥ FollowOn (g.B.Board.seen noted.held.board).history (length (g.B.Board.seen b).history) noted.passes.items (length (g.B.Board.seen noted.held.board).history) ∥₁) opened follow in
    subst (λ b. ∥ FollowOn (g.B.Board.seen b).history (length (g.B.Board.seen c.args.board).history) noted.passes.items (length (g.B.Board.seen b).history) ∥₁) (sym c.into_board-board-2.ensures.board) from

pub returns-clause-told : goal.returns-clause-told
returns-clause-told g c =
    let all = told_through (λ p. p.seat) (λ s. (goal.Adviser-dyn g (s.adviser.vtable, s.adviser.value)).told s.adviser.value) (λ s. s.told)
    c.seat_turns.new.bench.items c.work_by_turns.new.bench.items c.finish_all-end.new.bench.items c.args.seats.items c.unseat_all.new.seats.items
    c.seat_turns.ensures.bench c.unseat_all.ensures.seats c.work_by_turns.ensures.len c.finish_all-end.ensures.len
    (λ k d l. (c.requires.new k d l).0)
    (λ i d low. c.work_by_turns.ensures.told i d (omega (arith, low, c.seat_turns.new.bench.ok)))
    (λ i d low. c.finish_all-end.ensures.told i d (omega (arith, low, c.work_by_turns.new.bench.ok))) in
    λ i d low. all i d (omega (arith, low, c.args.seats.ok))

pub returns-clause-last : goal.returns-clause-last
returns-clause-last g c =
    let root = c.in-Ok-lock_up.made.2 in
    let first = c.seat_turns.new.bench.items in
    let mid = c.work_by_turns.new.bench.items in
    let last = c.finish_all-end.new.bench.items in
    let numbers = c.seat_turns.ensures.numbers in
    let many = ap length c.seat_turns.ensures.bench in
    let mapped = length-map {A = _} first (λ p. p.seat) in
    let all = each_through (λ p. p.seat) (Tells (λ s. s.told) (λ s. (goal.Adviser-dyn g (s.adviser.vtable, s.adviser.value)).last s.adviser.value) root.workers (g.B.Board.seen root.opened.value))
    first last c.args.seats.items c.unseat_all.new.seats.items c.seat_turns.ensures.bench c.unseat_all.ensures.seats (c.finish_all-end.ensures.len ∙ c.work_by_turns.ensures.len)
    (each_on (Tells (λ p. p.seat.told) (λ p. (goal.Adviser-dyn g (p.seat.adviser.vtable, p.seat.adviser.value)).last p.seat.adviser.value) root.workers (g.B.Board.seen root.opened.value)) (tells_on (λ p. p.seat.told) (λ p. (goal.Adviser-dyn g (p.seat.adviser.vtable, p.seat.adviser.value)).last p.seat.adviser.value) root.workers (g.B.Board.seen root.opened.value)) first mid last c.work_by_turns.ensures.len
    (λ i d low. told_at g.B.Board.seen root root i (slice_index_or first i d).number (slice_index_or first i d).seat.told (slice_index_or mid i d).seat.told
    ((goal.Adviser-dyn g ((slice_index_or first i d).seat.adviser.vtable, (slice_index_or first i d).seat.adviser.value)).last (slice_index_or first i d).seat.adviser.value) ((goal.Adviser-dyn g ((slice_index_or mid i d).seat.adviser.vtable, (slice_index_or mid i d).seat.adviser.value)).last (slice_index_or mid i d).seat.adviser.value)
    refl (numbers i d (omega (arith, low, many, mapped, c.args.seats.ok))) (c.work_by_turns.ensures.last i d (omega (arith, low, c.seat_turns.new.bench.ok))))
    (λ i d low. told_at g.B.Board.seen root (root_at c.unlock-noted.result.held.opened c.unlock-noted.result.held.workers) i i (slice_index_or mid i d).seat.told (slice_index_or last i d).seat.told
    ((goal.Adviser-dyn g ((slice_index_or mid i d).seat.adviser.vtable, (slice_index_or mid i d).seat.adviser.value)).last (slice_index_or mid i d).seat.adviser.value) ((goal.Adviser-dyn g ((slice_index_or last i d).seat.adviser.vtable, (slice_index_or last i d).seat.adviser.value)).last (slice_index_or last i d).seat.adviser.value)
    c.unlock-noted.ensures.root refl (c.finish_all-end.ensures.last i d (omega (arith, low, c.work_by_turns.new.bench.ok))))) in
    λ i d low.
    let there : i < length c.args.seats.items = omega (arith, low, c.args.seats.ok) in
    let one = all i d there in
    let of_workers = subst (λ n. IsToldLast n (g.B.Board.seen root.opened.value) i (slice_index_or c.args.seats.items i d).told (slice_index_or c.unseat_all.new.seats.items i d).told
    ((goal.Adviser-dyn g ((slice_index_or c.args.seats.items i d).adviser.vtable, (slice_index_or c.args.seats.items i d).adviser.value)).last (slice_index_or c.args.seats.items i d).adviser.value)
    ((goal.Adviser-dyn g ((slice_index_or c.unseat_all.new.seats.items i d).adviser.vtable, (slice_index_or c.unseat_all.new.seats.items i d).adviser.value)).last (slice_index_or c.unseat_all.new.seats.items i d).adviser.value))
    (c.in-Ok-lock_up.ensures.workers ∙ c.len-3.ensures) one in
    let of_board = subst (λ b. IsToldLast (vec_len c.args.seats) (g.B.Board.seen b) i (slice_index_or c.args.seats.items i d).told (slice_index_or c.unseat_all.new.seats.items i d).told
    ((goal.Adviser-dyn g ((slice_index_or c.args.seats.items i d).adviser.vtable, (slice_index_or c.args.seats.items i d).adviser.value)).last (slice_index_or c.args.seats.items i d).adviser.value)
    ((goal.Adviser-dyn g ((slice_index_or c.unseat_all.new.seats.items i d).adviser.vtable, (slice_index_or c.unseat_all.new.seats.items i d).adviser.value)).last (slice_index_or c.unseat_all.new.seats.items i d).adviser.value))
    c.in-Ok-lock_up.ensures.opened of_workers in
    subst (λ n. IsToldLast (vec_len c.args.seats) (g.B.Board.seen c.args.board) i n (slice_index_or c.unseat_all.new.seats.items i d).told
    ((goal.Adviser-dyn g ((slice_index_or c.args.seats.items i d).adviser.vtable, (slice_index_or c.args.seats.items i d).adviser.value)).last (slice_index_or c.args.seats.items i d).adviser.value)
    ((goal.Adviser-dyn g ((slice_index_or c.unseat_all.new.seats.items i d).adviser.vtable, (slice_index_or c.unseat_all.new.seats.items i d).adviser.value)).last (slice_index_or c.unseat_all.new.seats.items i d).adviser.value))
    (c.requires.new i d there).0 of_board
