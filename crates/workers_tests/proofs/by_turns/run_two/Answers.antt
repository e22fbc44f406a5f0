use denote.Param.Send.{sendable}
use Rattle.std.proofs.Crossing.{crosses}
use Rattle.search_book.proofs.Crosses.{book_send}
use Rattle.workers_tests.proofs.by_turns.run_two.Goals as goal

pub run_turns-book-requires-send-B : goal.run_turns-book-requires-send-B
run_turns-book-requires-send-B g c κs within = search (book_send, crosses, sendable) depth 60 fits 20000
