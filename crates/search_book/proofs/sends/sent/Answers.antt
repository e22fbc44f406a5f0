use Rattle.search_book.proofs.Common.{param_send, arg_send}
use Rattle.search_book.proofs.Crosses.{book_send}
use Rattle.search_book.proofs.sends.sent.Goals as goal

pub moved-requires-send-T : goal.moved-requires-send-T
moved-requires-send-T g c κs within = let s = c.type_bounds.send-D in search (book_send, param_send, arg_send)
