-- From how a run ends over an instance to what its status says.
use Rattle.join_runs.proofs.Common.{◌≡◌, inl, inr, ℕ, suc, zero, ◌+◌, refl, sym, subst, ap, ◌∙◌, List, [], ◌∷◌, ◌++◌, take, arith, Option, Some, None, slice_get, IsSome, option_map, Problem, IsReadAs, Cert, line_text, cause_of, IsReportOf, SinkMet, SourceMet, alone, Joined, none, one_more, JoinStatus, Written, Refused, NoPart, Usage, Input, Bundle, ReadFault, WriteFault, NoMemory, PartCause, AreAllJoined, IsPartEnd, IsUnjoined, JoinsReport, Told, AreReportsOf, EndsOver, EndsWith, Explains, HasCommand, IsJoinedText, IsNoPart, Met, PartsMet, EndsBeforeParts, part_text, refused_text, IsNamed, IsNamedRefusal, Asked, join_of}
use Rattle.cert_check.specs.declared.judged.Refused.{Refused as Refusal}
use Rattle.std.specs.Io.KnownBytes.{Appends}
use Rattle.join_runs.specs.Runs.Says.{joins, refuses, has_no_part}

-- and how one ends whose report is refused
pub told_refusal : (i : Problem) (whole : Cert) (parts : PartsMet) (sink : SinkMet) (why : Refusal) (line : List ℕ) (status : JoinStatus) → cause_of i whole ≡ Some why → IsNamedRefusal why → line ≡ line_text (refused_text why)
    → Told line (Refused why) (sink.held, sink.held_after) sink.faults status → EndsWith i whole parts sink status
told_refusal i whole parts sink why line status f named is (inl t) =
    subst (EndsWith i whole parts sink) (sym t.0) (f, named, subst (λ (bs : List ℕ). Appends sink.held sink.held_after bs) is t.1)
told_refusal i whole parts sink why line status f named is (inr t) = subst (EndsWith i whole parts sink) (sym t.0) (line, refuses why f named is, t.1, t.2)

-- and how one ends that has no part
pub told_part : (i : Problem) (whole : Cert) (parts : PartsMet) (sink : SinkMet) (number : ℕ) (cause : PartCause) (line : List ℕ) (status : JoinStatus) → IsNoPart i whole parts.left number cause → IsNamed cause → line ≡ line_text (part_text number cause)
    → Told line (NoPart number cause) (sink.held, sink.held_after) sink.faults status → EndsWith i whole parts sink status
told_part i whole parts sink number cause line status f named is (inl t) =
    subst (EndsWith i whole parts sink) (sym t.0) (f, named, subst (λ (bs : List ℕ). Appends sink.held sink.held_after bs) is t.1)
told_part i whole parts sink number cause line status f named is (inr t) = subst (EndsWith i whole parts sink) (sym t.0) (line, has_no_part number cause f named is, t.1, t.2)

-- how a run ends over the instance of its document explains its status
pub explained : (met : Met) (i : Problem) (status : JoinStatus) → HasCommand met → IsReadAs met.document.left i → EndsOver i met.report met.parts met.sink status → Explains met status
explained met i Written asked read ends = (asked, (i, read, ends))
explained met i (Refused why) asked read ends = (asked, (i, read, ends))
explained met i (NoPart number cause) asked read ends = (asked, (i, read, ends))
explained met i Usage asked read ends = absurd ends
explained met i (Input why) asked read ends = absurd ends
explained met i (Bundle why) asked read ends = (asked, (i, read, ends))
explained met i ReadFault asked read ends = inr (asked, (i, read, ends))
explained met i WriteFault asked read ends = (asked, (i, read, ends))
explained met i NoMemory asked read ends = asked

-- an end by a part comes no earlier than the parts
pub part_was_read : (j : Joined) (number : ℕ) (part : SourceMet) (status : JoinStatus) → IsPartEnd j number part status → EndsBeforeParts status → ⊥
part_was_read j number part (NoPart told cause) ends early = early
part_was_read j number part ReadFault ends early = early
part_was_read j number part NoMemory ends early = early
part_was_read j number part Written ends early = ends
part_was_read j number part (Refused why) ends early = ends
part_was_read j number part Usage ends early = ends
part_was_read j number part (Input why) ends early = ends
part_was_read j number part (Bundle why) ends early = ends
part_was_read j number part WriteFault ends early = ends

-- words that were seen to be a command
pub has_command : {R : Type 0} → (seen : R → Asked) (o : Option R) (words : List (List ℕ)) → option_map seen o ≡ join_of words → IsSome o → IsSome (join_of words)
has_command seen None words e some = grind (arith, some)
has_command seen (Some r) words e some = subst (λ (x : Option Asked). IsSome x) e refl

pub no_command : {R : Type 0} → (seen : R → Asked) (o : Option R) (words : List (List ℕ)) → option_map seen o ≡ join_of words → o ≡ None → join_of words ≡ None
no_command seen o words e gone = sym e ∙ ap (option_map seen) gone

-- ---- parts, one after another

reports_more : (lefts : List (Option (List ℕ))) (left : Option (List ℕ)) (parts : List Cert) (part : Cert) → AreReportsOf lefts parts → IsReportOf left part → AreReportsOf (lefts ++ left ∷ []) (parts ++ part ∷ [])
reports_more [] left [] part rs r = (r, tt)
reports_more [] left (p ∷ parts) part rs r = absurd rs
reports_more (l ∷ lefts) left [] part rs r = absurd rs
reports_more (l ∷ lefts) left (p ∷ parts) part rs r = (rs.0, reports_more lefts left parts part rs.1 r)

take_more : {X : Type 0} (xs : List X) (k : ℕ) (x : X) → slice_get xs k ≡ Some x → take (suc k) xs ≡ take k xs ++ x ∷ []
take_more [] k x e = absurd (cc)
take_more (z ∷ xs) zero x e = let same : z ≡ x = cc in ap (λ y. y ∷ []) same
take_more (z ∷ xs) (suc k) x e = ap (λ zs. z ∷ zs) (take_more xs k x e)

-- no part was joined yet
pub joined_none : (i : Problem) (whole : Cert) (lefts : List (Option (List ℕ))) (j : Joined) → j ≡ alone i whole → AreAllJoined i whole (take 0 lefts) j
joined_none i whole lefts j is = subst (AreAllJoined i whole (take 0 lefts)) (sym is) ([], tt, none)

-- a further one was joined
pub joined_more : (i : Problem) (whole : Cert) (lefts : List (Option (List ℕ))) (k : ℕ) (left : Option (List ℕ)) (old new : Joined) → slice_get lefts k ≡ Some left → AreAllJoined i whole (take k lefts) old → JoinsReport left old new
    → AreAllJoined i whole (take (k + 1) lefts) new
joined_more i whole lefts k left old new at all one =
    let next : suc k ≡ k + 1 = omega arith in
    subst (λ n. AreAllJoined i whole (take n lefts) new) next
    (subst (λ (ls : List (Option (List ℕ))). AreAllJoined i whole ls new) (sym (take_more lefts k left at))
    (all.0 ++ one.0 ∷ [], reports_more (take k lefts) left all.0 one.0 all.1 one.1, one_more all.0 one.0 old new all.2 one.2))

-- or isn't one
pub joined_no_more : (i : Problem) (whole : Cert) (parts : PartsMet) (k number : ℕ) (part : SourceMet) (j : Joined) (status : JoinStatus) → number ≡ k + 1 → slice_get parts.left k ≡ Some part.left → slice_get parts.faults.0 k ≡ Some part.faults.0 → slice_get parts.faults.1 k ≡ Some part.faults.1
    → AreAllJoined i whole (take k parts.left) j → IsPartEnd j number part status → IsUnjoined i whole parts status
joined_no_more i whole parts k number part j (NoPart told cause) is at was now all ends = (record { place = k; number = ends.0 ∙ is; left = part.left; at = at; parts = all.0; reports = all.1; joined = j; are_joined = all.2; cause = ends.1 }, ends.2)
joined_no_more i whole parts k number part j ReadFault is at was now all ends = record { place = k; before = part.faults.0; now = part.faults.1; was = was; is = now; rose = ends }
joined_no_more i whole parts k number part j NoMemory is at was now all ends = tt
joined_no_more i whole parts k number part j Written is at was now all ends = absurd ends
joined_no_more i whole parts k number part j (Refused why) is at was now all ends = absurd ends
joined_no_more i whole parts k number part j Usage is at was now all ends = absurd ends
joined_no_more i whole parts k number part j (Input why) is at was now all ends = absurd ends
joined_no_more i whole parts k number part j (Bundle why) is at was now all ends = absurd ends
joined_no_more i whole parts k number part j WriteFault is at was now all ends = absurd ends
