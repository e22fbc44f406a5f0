-- It owns nothing, so it may go to another thread.
use Rattle.search_book.proofs.Common.{IsSend, owning_send, the_row, the_type}

pub send : IsSend the_row
send = owning_send the_type tt (λ d. tt) (λ k x w. tt)
