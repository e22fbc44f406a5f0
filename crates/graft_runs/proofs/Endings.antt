-- From how a run ends over an instance to what its status says.
use Rattle.graft_runs.proofs.Common.{◌≡◌, inl, inr, ℕ, refl, sym, subst, ap, ◌∙◌, Bool, List, arith, Option, Some, None, slice_get, IsFalse, IsSome, IsSomeAnd, option_map, Problem, Cut, Node, Cert, line_text, IsReportOf, Met, SinkMet, SourceMet, GraftFault, NoNode, IsSplit, OtherCuts, NoRows, HasOpenEnd, IsExportFault, IsGraftFault, nodes_made, Command, GraftStatus, Written, Refused, Usage, Input, Bundle, ReadFault, WriteFault, NoMemory, EndsWith, Told, EndsOver, Explains, IsFaultOf, ReadsInstance, Writes, fault_text, IsNamed, Asked, request_of}
use Rattle.report_grafts.specs.declared.fault.GraftFault.TheVariants.{Refused as CertRefused, NoMemory as NoMemoryForGraft}
use Rattle.std.specs.Io.KnownBytes.{Appends}
use Rattle.graft_runs.specs.Reading.{ReportUnread}
use Rattle.graft_runs.specs.Status.{EndsUnwritten}

-- the words' command, where what they ask for was seen
pub asked_for : {R : Type 0} → (seen : R → Asked) (o : Option R) (r : R) (words : List (List ℕ)) → option_map seen o ≡ request_of words → o ≡ Some r → option_map (λ a. a.command) (request_of words) ≡ Some (seen r).command
asked_for seen o r words e is =
    subst (λ asked. option_map (λ a. a.command) asked ≡ Some (seen r).command) e (subst (λ found. option_map (λ a. a.command) (option_map seen found) ≡ Some (seen r).command) (sym is) refl)

-- what is made of an item is made of some item
from_some : {A B : Type 0} → (f : A → B) (o : Option A) (y : B) → option_map f o ≡ Some y → IsSome o
from_some f None y e = grind (arith, e)
from_some f (Some x) y e = refl

-- why no certificate came of a source is how the run ends
pub unread : (asks : Bool) (command : Command) (i : Problem) (report : SourceMet) (sink : SinkMet) (status : GraftStatus) → ReportUnread report.left report.faults.0 report.faults.1 status → EndsOver asks command i report sink status
unread asks command i report sink Written u = absurd u
unread asks command i report sink (Refused why) u = absurd u
unread asks command i report sink Usage u = absurd u
unread asks command i report sink (Input why) u = absurd u
unread asks command i report sink (Bundle why) u = u
unread asks command i report sink ReadFault u = u
unread asks command i report sink WriteFault u = absurd u
unread asks command i report sink NoMemory u = tt

-- what was written, or the beginning of it, says how a run ends that has a text
pub told_text : (asks : Bool) (command : Command) (i : Problem) (whole : Cert) (sink : SinkMet) (text : List ℕ) (status : GraftStatus)
    → Writes asks command i whole text → Told text Written (sink.held, sink.held_after) sink.faults status → EndsWith asks command i whole sink status
told_text asks command i whole sink text status w (inl t) = subst (EndsWith asks command i whole sink) (sym t.0) (text, w, t.1)
told_text asks command i whole sink text status w (inr t) = subst (EndsWith asks command i whole sink) (sym t.0) (text, inl w, t.1, t.2)

-- and how one ends that has a fault
pub told_fault : (asks : Bool) (command : Command) (i : Problem) (whole : Cert) (sink : SinkMet) (why : GraftFault) (line : List ℕ) (status : GraftStatus)
    → IsFaultOf command i whole why → IsNamed why → line ≡ line_text (fault_text why) → Told line (Refused why) (sink.held, sink.held_after) sink.faults status → EndsWith asks command i whole sink status
told_fault asks command i whole sink why line status f named is (inl t) =
    subst (EndsWith asks command i whole sink) (sym t.0) (f, named, subst (λ (bs : List ℕ). Appends sink.held sink.held_after bs) is t.1)
told_fault asks command i whole sink why line status f named is (inr t) = subst (EndsWith asks command i whole sink) (sym t.0) (line, inr (why, f, named, is), t.1, t.2)

-- what was told was written, in whole or in part
pub told_ends : (bytes : List ℕ) (wanted : GraftStatus) (held : Option (List ℕ) × Option (List ℕ)) (faults : ℕ × ℕ) (status : GraftStatus)
    → (EndsUnwritten wanted → ⊥) → Told bytes wanted held faults status → EndsUnwritten status → ⊥
told_ends bytes wanted held faults status some (inl t) unwritten = some (subst EndsUnwritten t.0 unwritten)
told_ends bytes wanted held faults status some (inr t) unwritten = subst EndsUnwritten t.0 unwritten

-- how a run ends over the instance of its document explains its status
pub explained : (asks : Bool) (met : Met) (command : Command) (i : Problem) (status : GraftStatus) → ReadsInstance met command i → EndsOver asks command i met.report met.sink status → Explains asks met status
explained asks met command i Written reads ends = (command, i, reads, ends)
explained asks met command i (Refused why) reads ends = (command, i, reads, ends)
explained asks met command i Usage reads ends = absurd ends
explained asks met command i (Input why) reads ends = absurd ends
explained asks met command i (Bundle why) reads ends = (command, i, reads, ends)
explained asks met command i ReadFault reads ends = inr (command, i, reads, ends)
explained asks met command i WriteFault reads ends = (command, i, reads, ends)
explained asks met command i NoMemory reads ends = from_some (λ a. a.command) (request_of met.words) command reads.asked

-- ---- a node has its own cuts

same_end : (o : Option Node) (cuts base : List Cut) → IsSomeAnd o (λ n. IsFalse n.split × (n.cuts ≡ cuts)) → IsSomeAnd o (λ n. IsFalse n.split × (n.cuts ≡ base)) → cuts ≡ base
same_end None cuts base a b = absurd a
same_end (Some n) cuts base a b = sym a.1 ∙ b.1

-- a run below the cuts of a node isn't below others
pub own_cuts : (i : Problem) (whole : Cert) (node : ℕ) (base : List Cut) (why : GraftFault) → HasOpenEnd i whole node base → IsGraftFault i whole node base why → IsExportFault i whole node why
own_cuts i whole node base (CertRefused why) end fault = fault
own_cuts i whole node base (NoNode k) end fault = fault
own_cuts i whole node base (IsSplit k) end fault = fault
own_cuts i whole node base (OtherCuts at) end fault =
    let same : fault.0 ≡ base = same_end (slice_get (nodes_made i whole.lines) node) fault.0 base fault.1.1 end.1 in
    absurd (fault.2.1 (ap (λ (cs : List Cut). slice_get cs at) same))
own_cuts i whole node base NoRows end fault = absurd fault
own_cuts i whole node base NoMemoryForGraft end fault = tt
