-- What is written of a book is a text of its certificate, with the table behind it or not.
use Rattle.solve_runs.proofs.Common.{Bool, true, false, List, [], Post, Problem, IsValid, Spells, HasText, Book, cert_of, output_of}
use Rattle.rota_writer.proofs.Notes.{no_notes, text_before_notes, texts_take_tables}

pub output_reads : (i : Problem) (table : Bool) (posts : List Post) (book : Book) → IsValid i → HasText (cert_of posts book) → Spells (output_of i table posts book) (cert_of posts book)
output_reads i true posts book valid has = texts_take_tables i book.best (cert_of posts book) valid has
output_reads i false posts book valid has = text_before_notes (cert_of posts book) [] has no_notes
