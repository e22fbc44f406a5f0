use Rattle.gated_journal.proofs.Once.{stands_once_in, stands_journal_in, stands_whole_in, stands_mark}
use Rattle.gated_journal.proofs.laws.one_old_reading.Goals as goal

pub returns-clause-once : goal.returns-clause-once
returns-clause-once c = stands_once_in 49

pub returns-clause-journal : goal.returns-clause-journal
returns-clause-journal c = stands_journal_in 49

pub returns-clause-whole : goal.returns-clause-whole
returns-clause-whole c = stands_whole_in 49

pub returns-clause-old : goal.returns-clause-old
returns-clause-old c = stands_mark 49
