-- What can be written is.
use Rattle.graft_runs.proofs.Common.{◌≡◌, ◌⊎◌, inl, inr, ℕ, ◌+◌, ◌<◌, ◌≤◌, Bool, true, cond, nat_le, List, [], ◌∷◌, length, refl, sym, ap, ◌∙◌, subst, arith, Option, Some, None, slice_get, IfSome, IsFalse, IsSome, IsSomeAnd, IsTrue, Ok, option_map, option_and_then, option_or, and_parts, false≢true, Problem, Cut, Node, new_node, Cert, Line, is_accepted, is_bound, is_plan, least_floor, nodes_after, nodes_of, Spells, IsReportOf, Met, WhyUnjudged, GraftFault, NoNode, IsSplit, OtherCuts, NoRows, HasOpenEnd, IsExportFault, nodes_made, first_good, one_good, tree_of, Command, GraftStatus, Written, Refused, Usage, Input, Bundle, ReadFault, WriteFault, NoMemory, Ends, EndsOver, Explains, IsFaultOf, IsNamed, request_of}
use Rattle.report_grafts.specs.declared.fault.GraftFault.TheVariants.{Refused as CertRefused, NoMemory as NoMemoryForGraft}
use Rattle.std.specs.Prelude.{Err}
use Rattle.std.proofs.lemmas.Option.{slice_get_within}
use Rattle.instance_input.specs.Unread.{IsReadAs}
use Rattle.instance_json.specs.Reading.{reading_of}
use Rattle.certificate.specs.declared.TheConstants.{BUNDLE_MAX}
use Rattle.certificate.proofs.Alone.{certs}
use Rattle.cert_check.specs.declared.judged.Refused.{Refused as Refusal}
use Rattle.cert_check.specs.declared.judged.Refused.TheVariants.{BoundTooHigh}
use Rattle.cert_check.specs.Judged.{bound_cause, cause_of, line_cause, plan_cause}
use Rattle.cert_check.proofs.Causes.{good_cause, plan_bad}
use Rattle.check_runs.specs.declared.status.BundleFault.{BundleFault}
use Rattle.check_runs.specs.declared.status.BundleFault.TheVariants.{TooLong, Text}
use Rattle.graft_runs.specs.declared.words.Command.TheVariants.{Below, Thorough, Breaks, Nodes}
use Rattle.graft_runs.specs.Complete.{CanWrite, HasUseOf}

-- ---- an accepted certificate has no cause against it

no_line_cause : (i : Problem) (nodes last : List Node) (number : ℕ) (lines : List Line) → nodes_after i nodes lines ≡ Some last → line_cause i nodes number lines ≡ None
no_line_cause i nodes last number [] e = refl
no_line_cause i nodes last number (line ∷ lines) e =
    let r = first_good i nodes last line lines e in
    good_cause i nodes r.0 number line lines (one_good i nodes r.0 line [] r.1) ∙ no_line_cause i r.0 last (number + 1) lines r.2

no_bound_cause : (i : Problem) (c : Cert) (nodes : List Node) → nodes_of i c.lines ≡ Some nodes → nat_le c.bound (least_floor nodes) ≡ true → bound_cause i c.lines c.bound ≡ None
no_bound_cause i c nodes made low =
    ap (λ (o : Option (List Node)). option_and_then (λ ns. cond (nat_le c.bound (least_floor ns)) None (Some (BoundTooHigh c.bound (least_floor ns)))) o) made
    ∙ ap (λ b. cond b None (Some (BoundTooHigh c.bound (least_floor nodes)))) low

uncaused : (i : Problem) (c : Cert) (why : Refusal) → is_accepted i c ≡ true → cause_of i c ≡ Some why → ⊥
uncaused i c why accepted e =
    let t = tree_of i c accepted in
    let lines : line_cause i (new_node [] ∷ []) 1 c.lines ≡ None = no_line_cause i (new_node [] ∷ []) t.0 1 c.lines t.1 in
    let bound : bound_cause i c.lines c.bound ≡ None = no_bound_cause i c t.0 t.1 t.2 in
    let front : cause_of i c ≡ plan_cause i c.plan =
    ap (λ (o : Option Refusal). option_or o (option_or (bound_cause i c.lines c.bound) (plan_cause i c.plan))) lines ∙ ap (λ (o : Option Refusal). option_or o (plan_cause i c.plan)) bound
    in
    false≢true (sym (plan_bad i c.plan why (sym front ∙ e)) ∙ (and_parts (is_bound i c.lines c.bound) (is_plan i c.plan) accepted).1)

-- ---- no fault of a command that has its use

not_far : (nodes : List Node) (node : ℕ) (P : Node → Type 0) → IsSomeAnd (slice_get nodes node) P → length nodes ≤ node → ⊥
not_far nodes node P there far = there_in (slice_get nodes node) refl there
  where
    there_in : (o : Option Node) → slice_get nodes node ≡ o → IsSomeAnd o P → ⊥
    there_in None e h = absurd h
    there_in (Some n) e h = let within : node < length nodes = slice_get_within nodes node n e in absurd (omega (arith, within, far))

not_both : (o : Option Node) (cuts : List Cut) → IsSomeAnd o (λ n. IsFalse n.split × (n.cuts ≡ cuts)) → IsSomeAnd o (λ n. IsTrue n.split) → ⊥
not_both None cuts a b = absurd a
not_both (Some n) cuts a b = false≢true (sym a.0 ∙ b)

end_faultless : (i : Problem) (whole : Cert) (node : ℕ) (base : List Cut) (why : GraftFault) → HasOpenEnd i whole node base → IsExportFault i whole node why → IsNamed why → ⊥
end_faultless i whole node base (CertRefused why) end fault named = uncaused i whole why end.0 fault
end_faultless i whole node base (NoNode k) end fault named = not_far (nodes_made i whole.lines) node _ end.1 fault.1.1
end_faultless i whole node base (IsSplit k) end fault named = not_both (slice_get (nodes_made i whole.lines) node) base end.1 fault.1.1
end_faultless i whole node base (OtherCuts at) end fault named = absurd fault
end_faultless i whole node base NoRows end fault named = absurd fault
end_faultless i whole node base NoMemoryForGraft end fault named = absurd named

not_none : {A : Type 0} (o : Option A) → IsSome o → o ≡ None → ⊥
not_none None some none = absurd (false≢true some)
not_none (Some x) some none = absurd (cc)

faultless : (command : Command) (i : Problem) (whole : Cert) (why : GraftFault) → HasUseOf command i whole → IsFaultOf command i whole why → IsNamed why → ⊥
faultless (Below node steps) i whole why useful fault named = end_faultless i whole node useful.0 why useful.1 fault named
faultless (Thorough node budget) i whole why useful fault named = end_faultless i whole node useful.0 why useful.1 fault named
faultless (Breaks steps) i whole (CertRefused why) useful fault named = uncaused i whole why useful.0 fault
faultless (Breaks steps) i whole (NoNode k) useful fault named = absurd fault
faultless (Breaks steps) i whole (IsSplit k) useful fault named = absurd fault
faultless (Breaks steps) i whole (OtherCuts at) useful fault named = absurd fault
faultless (Breaks steps) i whole NoRows useful fault named = not_none whole.plan useful.1 fault.1
faultless (Breaks steps) i whole NoMemoryForGraft useful fault named = absurd named
faultless (Nodes most) i whole (CertRefused why) useful fault named = uncaused i whole why useful fault
faultless (Nodes most) i whole (NoNode k) useful fault named = absurd fault
faultless (Nodes most) i whole (IsSplit k) useful fault named = absurd fault
faultless (Nodes most) i whole (OtherCuts at) useful fault named = absurd fault
faultless (Nodes most) i whole NoRows useful fault named = absurd fault
faultless (Nodes most) i whole NoMemoryForGraft useful fault named = absurd named

-- ---- what was told is what was met

at_some : {A : Type 0} (P : A → Type 0) (o : Option A) (x : A) → o ≡ Some x → IfSome o P → P x
at_some {A} P o x e h = subst (λ (q : Option A). IfSome q P) e h

none_some : {A B : Type 0} (f : A → B) (o : Option A) (y : B) → option_map f o ≡ Some y → o ≡ None → ⊥
none_some f None y e none = absurd (cc)
none_some f (Some x) y e none = absurd (cc)

same_command : (o : Option Command) (a b : Command) → o ≡ Some a → o ≡ Some b → a ≡ b
same_command o a b e f = cc

same_instance : (met : Met) (can : CanWrite met) (i : Problem) → IsReadAs met.document.left i → i ≡ can.instance
same_instance met can i read =
    let same : read.0 ≡ can.document = at_some (λ all. read.0 ≡ all) met.document.left can.document can.document_told read.1 in
    let told : reading_of can.document ≡ Ok i = subst (λ (bs : List ℕ). reading_of bs ≡ Ok i) same read.2 in
    let known = can.document_read in
    cc

same_cert : (met : Met) (can : CanWrite met) (c : Cert) → IsReportOf met.report.left c → c ≡ can.whole
same_cert met can c read =
    let same : read.0 ≡ can.report = at_some (λ all. read.0 ≡ all) met.report.left can.report can.report_told read.1 in
    certs can.report c can.whole (subst (λ (bs : List ℕ). Spells bs c) same read.3) can.report_spells

judged : (report : List ℕ) (c : Cert) (why : BundleFault) → length report ≤ BUNDLE_MAX → Spells report c → WhyUnjudged report why → ⊥
judged report c TooLong short spells why = absurd (omega (arith, short, why))
judged report c (Text line) short spells why = why.1.2.none c spells

refused : (asks : Bool) (met : Met) (why : GraftFault) → CanWrite met → Ends asks met (Refused why) → ⊥
refused asks met why can ends =
    let over : EndsOver asks ends.0 ends.1 met.report met.sink (Refused why) = ends.3 in
    let i : ends.1 ≡ can.instance = same_instance met can ends.1 ends.2.document in
    let whole : over.0 ≡ can.whole = same_cert met can over.0 over.1 in
    let command : ends.0 ≡ can.command = same_command _ ends.0 can.command ends.2.asked can.asked in
    let one : IsFaultOf can.command ends.1 over.0 why = subst (λ (k : Command). IsFaultOf k ends.1 over.0 why) command over.2 in
    let two : IsFaultOf can.command can.instance over.0 why = subst (λ (j : Problem). IsFaultOf can.command j over.0 why) i one in
    let three : IsFaultOf can.command can.instance can.whole why = subst (λ (c : Cert). IsFaultOf can.command can.instance c why) whole two in
    faultless can.command can.instance can.whole why can.useful three over.3

-- a run that can write and explains its end has written, or memory ran out
pub completed : (asks : Bool) (met : Met) (status : GraftStatus) → Explains asks met status → CanWrite met → (status ≡ Written) ⊎ (status ≡ NoMemory)
completed asks met Written told can = inl refl
completed asks met NoMemory told can = inr refl
completed asks met Usage told can = absurd (none_some (λ r. r.command) (request_of met.words) can.command can.asked told)
completed asks met (Input why) told can =
    let bad : reading_of can.document ≡ Err why = at_some (λ all. reading_of all ≡ Err why) met.document.left can.document can.document_told told.1.1 in
    let good = can.document_read in
    absurd (cc)
completed asks met ReadFault (inl told) can = absurd (can.well (inl told.1))
completed asks met ReadFault (inr ends) can = absurd (can.well (inr (inl ends.3)))
completed asks met (Bundle why) ends can = absurd (judged can.report can.whole why can.report_short can.report_spells (at_some (λ bytes. WhyUnjudged bytes why) met.report.left can.report can.report_told ends.3))
completed asks met (Refused why) ends can = absurd (refused asks met why can ends)
completed asks met WriteFault ends can =
    let over : EndsOver asks ends.0 ends.1 met.report met.sink WriteFault = ends.3 in
    absurd (can.well (inr (inr over.5)))
