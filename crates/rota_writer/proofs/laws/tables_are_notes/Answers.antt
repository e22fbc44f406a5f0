use Rattle.rota_writer.proofs.Notes.{table_notes, texts_take_tables}
use Rattle.rota_writer.proofs.laws.tables_are_notes.Goals as goal

pub returns-clause-notes : goal.returns-clause-notes
returns-clause-notes c = table_notes

pub returns-clause-texts : goal.returns-clause-texts
returns-clause-texts c = texts_take_tables
