use Rattle.worker_gate.proofs.Common.{sum_by, vec_len}
use Rattle.worker_gate.proofs.Ran.{ran_begins, ran_enough, ran_exact, ran_few, ran_posts, ran_same, ran_within}
use Rattle.worker_gate.proofs.by_turns.run_turns.Goals as goal

pub returns-clause-same : goal.returns-clause-same
returns-clause-same g c = ran_same (vec_len c.args.seats) (g.B.Board.seen c.args.board) (g.B.Board.seen c.run_turns_in-board.result.0) (sum_by (λ s. s.share) c.run_turns_in-board.result.1.items) c.run_turns_in-board.ensures.turns

pub returns-clause-begins : goal.returns-clause-begins
returns-clause-begins g c = ran_begins (vec_len c.args.seats) (g.B.Board.seen c.args.board) (g.B.Board.seen c.run_turns_in-board.result.0) (sum_by (λ s. s.share) c.run_turns_in-board.result.1.items) c.run_turns_in-board.ensures.turns (record { sound = c.keeps_sound.ensures; none_taken = c.requires.fresh; empty = c.requires.empty }) c.keeps_sound-2.ensures

pub returns-clause-within : goal.returns-clause-within
returns-clause-within g c = ran_within (vec_len c.args.seats) (g.B.Board.seen c.args.board) (g.B.Board.seen c.run_turns_in-board.result.0) (sum_by (λ s. s.share) c.run_turns_in-board.result.1.items) c.run_turns_in-board.ensures.turns (record { sound = c.keeps_sound.ensures; none_taken = c.requires.fresh; empty = c.requires.empty })

pub returns-clause-exact : goal.returns-clause-exact
returns-clause-exact g c = ran_exact (vec_len c.args.seats) (g.B.Board.seen c.args.board) (g.B.Board.seen c.run_turns_in-board.result.0) (sum_by (λ s. s.share) c.run_turns_in-board.result.1.items) c.run_turns_in-board.ensures.turns (record { sound = c.keeps_sound.ensures; none_taken = c.requires.fresh; empty = c.requires.empty })

pub returns-clause-posts : goal.returns-clause-posts
returns-clause-posts g c = ran_posts (vec_len c.args.seats) (g.B.Board.seen c.args.board) (g.B.Board.seen c.run_turns_in-board.result.0) (sum_by (λ s. s.share) c.run_turns_in-board.result.1.items) c.run_turns_in-board.ensures.turns (record { sound = c.keeps_sound.ensures; none_taken = c.requires.fresh; empty = c.requires.empty })

pub returns-clause-few : goal.returns-clause-few
returns-clause-few g c = ran_few (vec_len c.args.seats) (g.B.Board.seen c.args.board) (g.B.Board.seen c.run_turns_in-board.result.0) (sum_by (λ s. s.share) c.run_turns_in-board.result.1.items) c.run_turns_in-board.ensures.turns (record { sound = c.keeps_sound.ensures; none_taken = c.requires.fresh; empty = c.requires.empty })

pub returns-clause-enough : goal.returns-clause-enough
returns-clause-enough g c = λ enough spent. ran_enough (vec_len c.args.seats) (g.B.Board.seen c.args.board) (g.B.Board.seen c.run_turns_in-board.result.0) (sum_by (λ s. s.share) c.run_turns_in-board.result.1.items) c.run_turns_in-board.ensures.turns (record { sound = c.keeps_sound.ensures; none_taken = c.requires.fresh; empty = c.requires.empty }) enough c.run_turns_in-board.result.3 c.run_turns_in-board.ensures.end spent
