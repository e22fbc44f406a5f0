-- What a run writes of its book.
use Rattle.std.specs.Prelude.{ℕ, ◌≤◌, Bool, IsTrue, List, [], ◌++◌, Some, if◌then◌else◌}
use Rattle.post_codec.specs.declared.post.Post.{Post}
use Rattle.shift_instance.specs.declared.Duty.{Duty}
use Rattle.shift_instance.specs.Problem.{Problem}
use Rattle.shift_instance.specs.Rota.{cost, is_legal_rota}
use Rattle.certificate.specs.declared.Cert.{Cert}
use Rattle.certificate.specs.declared.CertStatus.{CertStatus}
use Rattle.certificate.specs.declared.CertStatus.TheVariants.{Optimal, Stopped}
use Rattle.certificate.specs.History.{lines_of}
use Rattle.certificate.specs.Text.{cert_text}
use Rattle.rota_writer.specs.Table.{table_text}
use Rattle.search_core.specs.Book.{Book, floor_of, is_finished}

-- what is said of a book: that its plan is optimal where no node is open, and else that the search was stopped
abbrev pub status_of_book : Book → CertStatus
status_of_book book = if is_finished book then Optimal else Stopped

-- the certificate of posts and the book that they make: its best plan with its cost, its floor as the bound, and the proof lines of
-- the posts
abbrev pub cert_of : List Post → Book → Cert
cert_of posts book = record { status = status_of_book book; plan = Some (book.cost, book.best); bound = floor_of book; lines = lines_of posts }

-- what is written of posts and the book that they make: the text of the certificate, and the table of the best plan where it is
-- asked for
abbrev pub output_of : Problem → Bool → List Post → Book → List ℕ
output_of i table posts book = cert_text (cert_of posts book) ++ (if table then table_text i book.best else [])

-- no legal rota costs less
abbrev pub IsUnbeaten : Problem → ℕ → Type 0
IsUnbeaten i least = (rota : List Duty) → IsTrue (is_legal_rota i rota) → least ≤ cost i rota
