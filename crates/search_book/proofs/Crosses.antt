-- A book may go to another thread where its disk may.
use Rattle.search_book.proofs.Common.{RattleType, recorded_send, sendable, struct_send, view_send, IsSend}
use denote.Struct.Declared.{shape}
use Rattle.plan_base.specs.declared.disk.Disk.{Ghosts}
use Rattle.gated_journal.proofs.journal.Journal.TheSendSync as journal
use Rattle.search_book.proofs.batched.Batched.TheSendSync as batched
use Rattle.std.proofs.Crossing.{crosses}
use Rattle.search_book.specs.contracts.post_log.PostLog.{the_row as posts_row}
use Rattle.search_book.specs.contracts.book.Book.{the_row as search_row}
use Rattle.search_book.specs.contracts.book.Book.TheInside as inside
use Rattle.search_book.specs.contracts.session.Session.{the_field as session_field}
use Rattle.search_book.specs.contracts.record_log.RecordLog.{the_row as log_row}

log_send : (T : RattleType) (g : Ghosts T.Denot) → IsSend T → IsSend (log_row T g)
log_send T g s = search (journal.the_send, crosses, sendable) depth 60 fits 20000

pub posts_send : (T : RattleType) (g : Ghosts T.Denot) → IsSend T → IsSend (posts_row T g)
posts_send T g s = search (log_send, batched.the_send, crosses, sendable) depth 60 fits 20000

-- the book's one field is a session
field_send : (T : RattleType) (g : Ghosts T.Denot) → IsSend T → IsSend (session_field T g).row
field_send T g s = search (posts_send, crosses, sendable) depth 60 fits 20000

pub book_send : (T : RattleType) (g : Ghosts T.Denot) → IsSend T → IsSend (search_row T g)
book_send T g s = view_send (inside.the_row T g) _ _ _ _ (recorded_send (inside.the_field T g).row _ _ (inside.the_type T g).to_one (struct_send (shape (inside.the_type T g)) (field_send T g s, tt)))
