use Rattle.post_codec.proofs.Common.{sym, ◌∙◌}
use Rattle.post_codec.proofs.Formats.{one_list_by}
use Rattle.post_codec.proofs.Departing.{posts_joins}
use Rattle.post_codec.proofs.one_spelling.Goals as goal

pub returns-clause-lists : goal.returns-clause-lists
returns-clause-lists c = one_list_by

pub returns-clause-spellings : goal.returns-clause-spellings
returns-clause-spellings c = λ width one other ps a b. a.is ∙ sym b.is

pub returns-clause-fields : goal.returns-clause-fields
returns-clause-fields c = posts_joins
