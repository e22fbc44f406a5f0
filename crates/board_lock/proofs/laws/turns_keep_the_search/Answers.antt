use Rattle.board_lock.proofs.Turned.{turns_keep}
use Rattle.board_lock.proofs.laws.turns_keep_the_search.Goals as goal

pub returns : goal.returns
returns c = record {
  instance = λ workers old new commits turns. (turns_keep workers old new commits turns).instance;
  budget = λ workers old new commits turns. (turns_keep workers old new commits turns).budget;
  origin = λ workers old new commits turns. (turns_keep workers old new commits turns).origin;
  begins = λ workers old new commits turns. (turns_keep workers old new commits turns).begins;
}
