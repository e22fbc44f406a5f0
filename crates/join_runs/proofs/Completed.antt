-- A run that can join writes the report with its parts.
use Rattle.join_runs.proofs.Common.{◌≡◌, ◌⊎◌, inl, inr, ℕ, zero, suc, ◌+◌, ◌<◌, ◌≤◌, List, [], ◌∷◌, ◌++◌, length, take, refl, sym, ap, ◌∙◌, subst, arith, Option, Some, None, slice_get, IfSome, IsSome, Ok, Err, cases_lt, false≢true, length-append, take-append-le, take_at, slice_get_within, Problem, IsReadAs, Cert, Spells, cause_of, IsReportOf, WhyUnjudged, front_get, last_get, IsPartFault, AreJoined, Joined, JoinsPart, none, one_more, JoinStatus, Written, Refused, NoPart, Usage, Input, Bundle, ReadFault, WriteFault, NoMemory, PartCause, AreReportsOf, EndsOver, Explains, IsCauseOf, IsNoPart, Met, IsNamed, join_of}
use Rattle.instance_json.specs.Reading.{reading_of}
use Rattle.certificate.specs.declared.TheConstants.{BUNDLE_MAX}
use Rattle.certificate.proofs.Alone.{certs}
use Rattle.check_runs.specs.declared.status.BundleFault.{BundleFault}
use Rattle.check_runs.specs.declared.status.BundleFault.TheVariants.{TooLong, Text}
use Rattle.join_runs.specs.declared.status.PartCause.TheVariants.{NoReport, Fault}
use Rattle.join_runs.specs.Complete.{CanJoin, TellReports, TellsReport}
use Rattle.join_runs.proofs.Alike.{alike, faultless, uncaused, Alike}

-- ---- what was told is what was met

at_some : {A : Type 0} (P : A → Type 0) (o : Option A) (x : A) → o ≡ Some x → IfSome o P → P x
at_some {A} P o x e h = subst (λ (q : Option A). IfSome q P) e h

not_none : {A : Type 0} (o : Option A) → IsSome o → o ≡ None → ⊥
not_none None some gone = absurd (false≢true some)
not_none (Some x) some gone = absurd (cc)

same_instance : (met : Met) (can : CanJoin met) (i : Problem) → IsReadAs met.document.left i → i ≡ can.instance
same_instance met can i read =
    let same : read.0 ≡ can.document = at_some (λ all. read.0 ≡ all) met.document.left can.document can.document_told read.1 in
    let told : reading_of can.document ≡ Ok i = subst (λ (bs : List ℕ). reading_of bs ≡ Ok i) same read.2 in
    let known = can.document_read in
    cc

same_cert : (left : Option (List ℕ)) (c own : Cert) → TellsReport left c → IsReportOf left own → own ≡ c
same_cert left c own t read =
    let same : read.0 ≡ t.report = at_some (λ all. read.0 ≡ all) left t.report t.told read.1 in
    certs t.report own c (subst (λ (bs : List ℕ). Spells bs own) same read.3) t.spells

judged : (report : List ℕ) (c : Cert) (why : BundleFault) → length report ≤ BUNDLE_MAX → Spells report c → WhyUnjudged report why → ⊥
judged report c TooLong short spells why = absurd (omega (arith, short, why))
judged report c (Text line) short spells why = why.1.2.none c spells

told_judged : (left : Option (List ℕ)) (c : Cert) (why : BundleFault) → TellsReport left c → IfSome left (λ bytes. WhyUnjudged bytes why) → ⊥
told_judged left c why t h = judged t.report c why t.short t.spells (at_some (λ bytes. WhyUnjudged bytes why) left t.report t.told h)

-- ---- each part is one that can be joined

tells_at : (lefts : List (Option (List ℕ))) (cs : List Cert) (k : ℕ) (left : Option (List ℕ)) → TellReports lefts cs → slice_get lefts k ≡ Some left → (c : Cert) × (slice_get cs k ≡ Some c) × TellsReport left c
tells_at [] [] k left told at = absurd (cc)
tells_at [] (c ∷ cs) k left told at = absurd told
tells_at (l ∷ lefts) [] k left told at = absurd told
tells_at (l ∷ lefts) (c ∷ cs) zero left told at = let same : l ≡ left = cc in (c, refl, subst (λ (x : Option (List ℕ)). TellsReport x c) same told.0)
tells_at (l ∷ lefts) (c ∷ cs) (suc k) left told at = tells_at lefts cs k left told.1 at

same_reports : (lefts : List (Option (List ℕ))) (cs parts : List Cert) (k : ℕ) → TellReports lefts cs → AreReportsOf (take k lefts) parts → parts ≡ take k cs
same_reports lefts cs [] zero told are = refl
same_reports lefts cs (p ∷ parts) zero told are = absurd are
same_reports [] [] [] (suc k) told are = refl
same_reports [] [] (p ∷ parts) (suc k) told are = absurd are
same_reports [] (c ∷ cs) parts (suc k) told are = absurd told
same_reports (l ∷ lefts) [] parts (suc k) told are = absurd told
same_reports (l ∷ lefts) (c ∷ cs) [] (suc k) told are = absurd are
same_reports (l ∷ lefts) (c ∷ cs) (p ∷ parts) (suc k) told are =
    ap (λ x. x ∷ parts) (same_cert l c p told.0 are.0) ∙ ap (λ (xs : List Cert). c ∷ xs) (same_reports lefts cs parts k told.1 are.1)

-- a part was joined into those before it
pub record JoinsAt (i : Problem) (whole : Cert) (parts : List Cert) (k : ℕ) (part : Cert) : Type 0 where
  pub old : Joined
  pub next : Joined
  pub are : AreJoined i whole (take k parts) old
  pub joins : JoinsPart part old next

joins_at : (i : Problem) (whole : Cert) (parts : List Cert) (j : Joined) (k : ℕ) (part : Cert) → AreJoined i whole parts j → slice_get parts k ≡ Some part → JoinsAt i whole parts k part
joins_at i whole parts j k part none at = absurd (cc)
joins_at i whole parts j k part (one_more before last old new are joins) at =
    let within : k < length (before ++ last ∷ []) = slice_get_within (before ++ last ∷ []) k part at in
    let long : length (before ++ last ∷ []) ≡ length before + 1 = length-append before (last ∷ []) in
    elim (cases_lt k (length before)) [
      | inl low ↦
          let r = joins_at i whole before old k part are (sym (front_get before (last ∷ []) k low) ∙ at) in
          record { old = r.old; next = r.next; are = subst (λ (cs : List Cert). AreJoined i whole cs r.old) (sym (take-append-le k before (last ∷ []) (omega (arith, low)))) r.are; joins = r.joins }
      | inr high ↦
          let place : length before ≡ k = omega (arith, within, long, high) in
          let there : Some last ≡ Some part = sym (last_get before last []) ∙ ap (slice_get (before ++ last ∷ [])) place ∙ at in
          let same : last ≡ part = cc in
          record {
            old = old;
            next = new;
            are = subst (λ (cs : List Cert). AreJoined i whole cs old) (sym (take_at before (last ∷ []) k place)) are;
            joins = subst (λ (c : Cert). JoinsPart c old new) same joins;
          }
    ]

by_cause : (old joined next : Joined) (left : Option (List ℕ)) (part : Cert) (cause : PartCause) → TellsReport left part → Alike old joined → JoinsPart part old next → IsCauseOf joined left cause → IsNamed cause → ⊥
by_cause old joined next left part (NoReport why) told same joins is named = told_judged left part why told is
by_cause old joined next left part (Fault why) told same joins is named =
    let own : is.0 ≡ part = same_cert left part is.0 told is.1 in
    faultless old joined next part why same joins (subst (λ (c : Cert). IsPartFault joined c why) own is.2) named

no_part : (met : Met) (can : CanJoin met) (number : ℕ) (cause : PartCause) → IsNoPart can.instance can.whole met.parts.left number cause → IsNamed cause → ⊥
no_part met can number cause p named =
    let t = tells_at met.parts.left can.parts p.place p.left can.parts_told p.at in
    let r = joins_at can.instance can.whole can.parts can.joined p.place t.0 can.are_joined t.1 in
    let parts : take p.place can.parts ≡ p.parts = sym (same_reports met.parts.left can.parts p.parts p.place can.parts_told p.reports) in
    let same = alike can.instance can.whole (take p.place can.parts) p.parts r.old p.joined r.are p.are_joined parts in
    by_cause r.old p.joined r.next p.left t.0 cause t.2 same r.joins p.cause named

-- ---- a run that can join and explains its end has written, or memory ran out

over_its_own : (met : Met) (can : CanJoin met) (i : Problem) (status : JoinStatus) → IsReadAs met.document.left i → EndsOver i met.report met.parts met.sink status → EndsOver can.instance met.report met.parts met.sink status
over_its_own met can i status read over = subst (λ (x : Problem). EndsOver x met.report met.parts met.sink status) (same_instance met can i read) over

fault_met : (met : Met) → CanJoin met → (i : Problem) → EndsOver i met.report met.parts met.sink ReadFault → ⊥
fault_met met can i (inl rose) = can.well (inr (inl rose))
fault_met met can i (inr over) = can.well (inr (inr (inl over.2)))

pub completed : (met : Met) (status : JoinStatus) → Explains met status → CanJoin met → (status ≡ Written) ⊎ (status ≡ NoMemory)
completed met Written told can = inl refl
completed met NoMemory told can = inr refl
completed met Usage told can = absurd (not_none (join_of met.words) can.command told)
completed met (Input why) told can =
    let bad : reading_of can.document ≡ Err why = at_some (λ all. reading_of all ≡ Err why) met.document.left can.document can.document_told told.1.1 in
    let good = can.document_read in
    absurd (cc)
completed met ReadFault (inl told) can = absurd (can.well (inl told.1))
completed met ReadFault (inr ends) can = absurd (fault_met met can ends.1.0 ends.1.2)
completed met (Bundle why) ends can = absurd (told_judged met.report.left can.whole why can.report ends.1.2)
completed met (Refused why) ends can =
    let over = over_its_own met can ends.1.0 (Refused why) ends.1.1 ends.1.2 in
    let whole : over.0 ≡ can.whole = same_cert met.report.left can.whole over.0 can.report over.1 in
    let cause = subst (λ (c : Cert). cause_of can.instance c ≡ Some why) whole over.2.0 in
    absurd (uncaused can.instance can.whole why can.accepted cause)
completed met (NoPart number cause) ends can =
    let over = over_its_own met can ends.1.0 (NoPart number cause) ends.1.1 ends.1.2 in
    let whole : over.0 ≡ can.whole = same_cert met.report.left can.whole over.0 can.report over.1 in
    absurd (no_part met can number cause (subst (λ (c : Cert). IsNoPart can.instance c met.parts.left number cause) whole over.2.0) over.2.1)
completed met WriteFault ends can =
    let over = over_its_own met can ends.1.0 WriteFault ends.1.1 ends.1.2 in
    absurd (can.well (inr (inr (inr over.2.3))))
