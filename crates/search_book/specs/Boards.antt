-- The book of a search is a sound board.
use Rattle.std.specs.Prelude.{ℕ, Bool, List, Option}
use Rattle.std.proofs.Common.{sym}
use Rattle.search_core.specs.Board.{IsSoundBoard}
use Rattle.post_codec.specs.Batches.{joined}
use Rattle.search_book.specs.PostLog.{PostLogView}
use Rattle.search_book.specs.Search.{board_at, KeepsSearch}

pub sound_of : {D : Type 0} (reads : D → Option (List ℕ)) (calls faults : D → ℕ) (log : PostLogView D) (hands : List (Option ℕ)) (taken budget : ℕ) (halted : Bool) → KeepsSearch log hands taken budget → IsSoundBoard (board_at reads calls faults log hands taken budget halted)
sound_of reads calls faults log hands taken budget halted k = record {
  book = log.book;
  folds = k.folds;
  hands = record { distinct = k.apart; unsplit = k.unsplit };
  sixteen = k.sixteen;
  within = k.within;
  all = k.all;
  begins = (joined log.batches, sym k.all);
  fresh = k.fresh;
  past = λ end most is.
      let p = k.past end most is in
      record { some = p.0; few = p.1; allowed = p.2; ends = p.3; limit = p.4; past = p.5 };
}
