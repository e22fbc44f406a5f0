-- From what a search answers, and what is written of its book, to what a run says.
use Rattle.solve_runs.proofs.Common.{◌≡◌, ◌≢◌, inl, inr, ◌∙◌, sym, ap, subst, refl, ℕ, ◌≤◌, Bool, true, false, List, ◌++◌, arith, IsTrue, Appends, false≢true, AppendsPart, Post, joined, Problem, Cert, is_accepted, Spells, Book, fold_sound, SearchView, board_of, RunEnd, SearchEnd, Stopped, TooFewAdvisers, Refused, Status, Optimal, Budget, Full, Usage, Input, Workers, ReadFault, WriteFault, DiskFault, NoMemory, Journal, HasEnded, cert_of, output_of, OverDisk, Reports, ReportsPart, IsLanded, end_of, is_reported, HasNotSearched, HasSearched, IsSessionOf, ToldMet, met_of, posts_in, DiskMet, Session, SinkMet, workers_for, status_at, EndsAs, IsReported, IsReportedPart, Unwritten}
use Rattle.worker_gate.specs.declared.run.RunEnd.TheVariants.{Finished as FinishedEnd, Spent as SpentEnd, Full as FullEnd, DiskFault as DiskEnd, NoMemory as MemoryEnd, Stopped as StoppedEnd}
use Rattle.solve_runs.specs.declared.searched.SearchEnd.TheVariants.{Full as FullSearch, DiskFault as DiskSearch, NoMemory as MemorySearch}
use Rattle.std.specs.Prelude.{Option}
use Rattle.solve_runs.specs.declared.searched.SearchEnd.TheVariants.{Finished, Spent}

-- a search whose report is written came to an end of its own
landed_run : (how : RunEnd) → end_of how ≢ Stopped → is_reported (end_of how) ≡ true → IsLanded how
landed_run FinishedEnd going some = tt
landed_run SpentEnd going some = tt
landed_run (FullEnd end limit) going some = tt
landed_run DiskEnd going some = absurd (false≢true some)
landed_run MemoryEnd going some = absurd (false≢true some)
landed_run StoppedEnd going some = absurd (going refl)

module _ {D : Type 0} (calls : D → ℕ) (book : SearchView D) (disk : DiskMet) (i : Problem) (session : Session disk i) (own : IsSessionOf calls book session) (sink : SinkMet) (table : Bool) where
  posts_same : book.log.history ≡ posts_in session
  posts_same =
      book.keeps.all ∙ ap (λ (l : List Post). l ++ joined book.log.batches) own.opening
      ∙ ap (λ (l : List (List Post)). session.opening ++ joined l) own.batches

  output_same : output_of i table book.log.history book.log.book ≡ output_of i table (posts_in session) session.last
  output_same = ap (λ (h : List Post). output_of i table h book.log.book) posts_same ∙ ap (λ (b : Book). output_of i table (posts_in session) b) own.last

  cert_same : cert_of book.log.history book.log.book ≡ cert_of (posts_in session) session.last
  cert_same = ap (λ (h : List Post). cert_of h book.log.book) posts_same ∙ ap (λ (b : Book). cert_of (posts_in session) b) own.last

  reports_of : IsReported i book table sink → Reports sink table session
  reports_of r = record {
    written = subst (λ (bytes : List ℕ). Appends sink.held sink.held_after bytes) output_same r.0;
    sound = fold_sound i (posts_in session) session.last session.ends;
    accepted = subst (λ (c : Cert). IsTrue (is_accepted i c)) cert_same r.2;
    reads =
        subst (λ (bytes : List ℕ). Spells bytes (cert_of (posts_in session) session.last)) output_same
        (subst (λ (c : Cert). Spells (output_of i table book.log.history book.log.book) c) cert_same r.1);
  }

  part_of : IsReportedPart i book table sink → ReportsPart sink table session
  part_of r = record { written = subst (λ (bytes : List ℕ). AppendsPart sink.held sink.held_after bytes) output_same r.0; cause = r.1 }

module _ {D : Type 0} (reads : D → Option (List ℕ)) (images : D → List ℕ → Type 0) (images_since : D → ℕ → List ℕ → Type 0) (calls faults : D → ℕ) (disk : D) (i : Problem) (workers budget : ℕ) (told : ToldMet) (sink : SinkMet) (table : Bool) where
  -- a run over a book
  module _ (book : SearchView D) where
    abbrev met : DiskMet
    met = met_of reads images images_since calls faults disk book.log.disk

    by_end : (how : RunEnd) (s : Session met i) → end_of how ≢ Stopped → IsSessionOf calls book s → HasEnded met i workers budget told how (board_of reads calls faults book) s → (is_reported (end_of how) ≡ true → IsReported i book table sink)
        → OverDisk met sink i table budget workers told true (status_at (end_of how))
    by_end FinishedEnd s going own ended written = (refl, s, board_of reads calls faults book, ended, reports_of calls book met i s own sink table (written refl))
    by_end SpentEnd s going own ended written = (refl, s, board_of reads calls faults book, ended, reports_of calls book met i s own sink table (written refl))
    by_end (FullEnd end limit) s going own ended written = (refl, s, board_of reads calls faults book, ended, reports_of calls book met i s own sink table (written refl))
    by_end DiskEnd s going own ended written = (ended.0, inr (refl, s, board_of reads calls faults book, ended))
    by_end MemoryEnd s going own ended written = inr (refl, s, board_of reads calls faults book, MemoryEnd, tt, ended)
    by_end StoppedEnd s going own ended written = absurd (going refl)

    unwritten : (how : RunEnd) (s : Session met i) (status : Status) → end_of how ≢ Stopped → IsSessionOf calls book s → HasEnded met i workers budget told how (board_of reads calls faults book) s → is_reported (end_of how) ≡ true → Unwritten i book table sink status
        → OverDisk met sink i table budget workers told true status
    unwritten how s WriteFault going own ended some part = (refl, s, board_of reads calls faults book, how, landed_run how going some, some, ended, part_of calls book met i s own sink table part)
    unwritten how s NoMemory going own ended some part = inr (refl, s, board_of reads calls faults book, how, landed_run how going some, ended)
    unwritten how s Optimal going own ended some part = absurd part
    unwritten how s Budget going own ended some part = absurd part
    unwritten how s (Full end limit) going own ended some part = absurd part
    unwritten how s Usage going own ended some part = absurd part
    unwritten how s (Input why) going own ended some part = absurd part
    unwritten how s (Workers asked have) going own ended some part = absurd part
    unwritten how s ReadFault going own ended some part = absurd part
    unwritten how s DiskFault going own ended some part = absurd part
    unwritten how s (Journal why) going own ended some part = absurd part

    ends_as : (end : SearchEnd) (status : Status) (h : HasSearched reads images images_since calls faults disk i workers budget told book end) → end_of h.how ≢ Stopped → EndsAs i book (end_of h.how) table sink status → OverDisk met sink i table budget workers told true status
    ends_as end status h going (inl e) = subst (OverDisk met sink i table budget workers told true) (sym e.0) (by_end h.how h.session going h.own h.ended e.1)
    ends_as end status h going (inr e) = unwritten h.how h.session status going h.own h.ended e.0 e.1

    pub over_book : (end : SearchEnd) (status : Status) → HasSearched reads images images_since calls faults disk i workers budget told book end → end ≢ Stopped → EndsAs i book end table sink status → OverDisk met sink i table budget workers told true status
    over_book end status h going e = ends_as end status h (subst (λ (x : SearchEnd). x ≢ Stopped) h.is going) (subst (λ (x : SearchEnd). EndsAs i book x table sink status) h.is e)

  -- a run that opened no book, and had advisers enough
  pub without_book : (left : D) (end : SearchEnd) → workers ≤ workers_for told.before → HasNotSearched (met_of reads images images_since calls faults disk left) i workers told end
      → OverDisk (met_of reads images images_since calls faults disk left) sink i table budget workers told false (status_at end)
  without_book left (TooFewAdvisers asked have) enough e = let as_many = e.2 in let all = e.3 in let fewer = e.4 in absurd (omega (arith, enough, as_many, all, fewer))
  without_book left (Refused why) enough e = (refl, e.0, e.1, e.2)
  without_book left DiskSearch enough e = (e.0, inl (refl, e.1, e.2))
  without_book left MemorySearch enough e = inl (refl, e.0, e.1, e.2)
  without_book left Finished enough e = absurd e
  without_book left Spent enough e = absurd e
  without_book left (FullSearch end limit) enough e = absurd e
  without_book left Stopped enough e = absurd e

-- the end of a run, by what it hands back
pub same_end : {D : Type 0} (reads : D → Option (List ℕ)) (images : D → List ℕ → Type 0) (images_since : D → ℕ → List ℕ → Type 0) (calls faults : D → ℕ) (old : D) (sink : SinkMet) (i : Problem) (table : Bool) (budget workers : ℕ) (before : List ℕ)
    (disk kept : D) (after told : List ℕ) (opened opens : Bool) (status ends : Status) → disk ≡ kept → after ≡ told → opened ≡ opens → status ≡ ends
    → OverDisk (met_of reads images images_since calls faults old kept) sink i table budget workers (record { before = before; after = told }) opens ends
    → OverDisk (met_of reads images images_since calls faults old disk) sink i table budget workers (record { before = before; after = after }) opened status
same_end reads images images_since calls faults old sink i table budget workers before disk kept after told opened opens status ends same_disk same_told same_opened same_status holds =
    subst (λ (s : Status). OverDisk (met_of reads images images_since calls faults old disk) sink i table budget workers (record { before = before; after = after }) opened s) (sym same_status)
    (subst (λ (o : Bool). OverDisk (met_of reads images images_since calls faults old disk) sink i table budget workers (record { before = before; after = after }) o ends) (sym same_opened)
    (subst (λ (l : List ℕ). OverDisk (met_of reads images images_since calls faults old disk) sink i table budget workers (record { before = before; after = l }) opens ends) (sym same_told)
    (subst (λ d. OverDisk (met_of reads images images_since calls faults old d) sink i table budget workers (record { before = before; after = told }) opens ends) (sym same_disk) holds)))
