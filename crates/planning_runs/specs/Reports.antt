-- What a report shows.
use Rattle.std.specs.Prelude.{◌≡◌, List, ℕ, Ok, Some, nat_le, if◌then◌else◌}
use Rattle.shift_instance.specs.declared.Row.{Row}
use Rattle.shift_instance.specs.Problem.{Problem}
use Rattle.shift_instance.specs.Rota.{cost, rota_of}
use Rattle.instance_json.specs.Reading.{reading_of, IsAnswer}
use Rattle.certificate.specs.declared.Cert.{Cert}
use Rattle.certificate.specs.declared.CertStatus.{CertStatus}
use Rattle.certificate.specs.declared.CertStatus.TheVariants.{Optimal, Stopped}
use Rattle.certificate.specs.Departing.{IsFaultOf, Spells}
use Rattle.cert_check.specs.Judged.{IsRefused}
use Rattle.search_book.specs.Search.{SearchView}
use Rattle.solve_runs.specs.Report.{cert_of}
use Rattle.planning_runs.specs.declared.plan.JudgedPlan.{JudgedPlan}
use Rattle.planning_runs.specs.declared.judging.Unshown.{Unshown}
use Rattle.planning_runs.specs.declared.judging.Unshown.TheVariants.{Document, Report, Refused}

-- Why a report shows no plan of the instance of a document: the document is refused so, or the report departs there from every report, or
-- it spells a certificate that is refused so. Each may also be running out of memory.
abbrev pub IsUnshown : List ℕ → List ℕ → Unshown → Type 0
IsUnshown document report (Document why) = IsAnswer why (reading_of document)
IsUnshown document report (Report why) = IsFaultOf report why
IsUnshown document report (Refused why) = (i : Problem) × (c : Cert) × (reading_of document ≡ Ok i) × Spells report c × IsRefused i c why

-- a plan is the one of an instance that a book's certificate shows
pub record IsOfBook {D : Type 0} (i : Problem) (book : SearchView D) (plan : JudgedPlan) : Type 0 where
  pub instance : plan.instance ≡ i
  pub cert : plan.cert ≡ cert_of book.log.history book.log.book

-- what is said of a plan beside a bound: that it is optimal where it costs no more than the bound, and else that the search was stopped
abbrev pub status_beside : ℕ → ℕ → CertStatus
status_beside bound cost = if nat_le cost bound then Optimal else Stopped

-- a certificate with other rows as its plan, at what they cost
abbrev pub with_rows : Problem → Cert → List Row → Cert
with_rows i c rows =
    let paid = cost i (rota_of rows) in
    record { status = status_beside c.bound paid; plan = Some (paid, rows); bound = c.bound; lines = c.lines }
