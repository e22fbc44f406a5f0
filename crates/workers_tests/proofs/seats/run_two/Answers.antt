use denote.Param.Send.{sendable}
use Rattle.std.proofs.Crossing.{crosses}
use Rattle.search_book.proofs.Crosses.{book_send}
use Rattle.workers_tests.proofs.seats.run_two.Goals as goal

pub run_workers-book-requires-send-B : goal.run_workers-book-requires-send-B
run_workers-book-requires-send-B g c κs within = search (book_send, crosses, sendable) depth 60 fits 20000
