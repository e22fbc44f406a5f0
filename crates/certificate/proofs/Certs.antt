-- The lines of a certificate are read exactly where they are spelled so.
use Rattle.certificate.proofs.Common.{◌≡◌, ℕ, ◌-◌, ◌^◌, ◌<◌, ◌≤◌, true, false, cond, List, [], ◌∷◌, ◌++◌, length, map, Option, Some, None, option_map, refl, sym, ap, subst, arith, inl, inr, codes, All, bytes_eq, AllByRecursion, decimal, ltb-true, lt-ltb, eqb-true, eq-eqb, cases_Bool, All-nil, All-head, All-tail, All-weaker, All-from_recursion, recursion_from_All, Row, Cert, Settled, proof_lines, status_text, rows_of, cert_lines, AgreesWith, HasText, Line, breaks_text, row_line, proof_line, HasSlot, FitsBreak, FitsRow, FitsLine, IsLine, number_or_dash, status_word_in, status_in, allows_cost, cost_in, allows_bound, bound_in, go_together, count_in, opening_at, limits_at, or_zero, rows_at, proof_at, closing_at, plan_of, to_cert, cert_at, number_in, word_in, line_at}
use Rattle.certificate.specs.declared.proof_lines.Line.{Line as ProofLine}
use Rattle.certificate.specs.declared.CertStatus.{CertStatus}
use Rattle.certificate.specs.declared.CertStatus.TheVariants.{Optimal, Stopped, Bound}
use Rattle.certificate.proofs.Spelling.{Exact, Lacks, some_of, same_some, chosen, same_text, text_same, text_other, decimal_lacks, mapped_some, kept_exact, led_exact}
use Rattle.certificate.proofs.Feeds.{plain, joins, word_before}
use Rattle.certificate.proofs.Spelled.{number_below, breaks_lack, row_exact}
use Rattle.certificate.proofs.Steps.{number_no_dash, IsStep, step_exact, step_is_line, proof_count_exact, proof_count_is_line}
use Rattle.certificate.proofs.LineReading.{Reads, SoMany, lacks_line, line_reads, next_reads, made_reads, times_reads, some_list}

-- ---- rows

row_is_line : (r : Row) → FitsRow r → IsLine (row_line r)
row_is_line r h = lacks_line (row_line r)
    (joins (codes "row ") (decimal r.shift ++ 32 ∷ (decimal r.day ++ 32 ∷ (decimal r.count ++ 32 ∷ breaks_text r.breaks))) (plain (codes "row ") refl)
    (word_before r.shift (decimal r.day ++ 32 ∷ (decimal r.count ++ 32 ∷ breaks_text r.breaks)) (omega (arith, h.0))
    (word_before r.day (decimal r.count ++ 32 ∷ breaks_text r.breaks) (omega (arith, h.1))
    (word_before r.count (breaks_text r.breaks) (omega (arith, h.2)) (breaks_lack 10 (omega arith) r.breaks h.3)))))

-- ---- words

abbrev Anything : {A : Type 0} → A → Type 0
Anything a = Unit {0}

word_exact : (word : List ℕ) → Exact (λ (x : Unit {0}). Unit {0}) (λ x. word) (word_in word)
word_exact word = record {
  takes = λ text x e. (same_text text word (chosen (bytes_eq text word) tt x e).0, tt);
  again = λ x h. let same : bytes_eq word word ≡ true = text_same word word refl in rw same refl;
}

status_takes : (text : List ℕ) (s : CertStatus) → status_word_in text ≡ Some s → (text ≡ status_text s) × Unit {0}
status_takes text s e = elim (cases_Bool (bytes_eq text (codes "optimal"))) [
  | inl one ↦
      let is : some_of Optimal ≡ Some s = rw one at e in
      subst (λ (y : CertStatus). (text ≡ status_text y) × Unit {0}) (same_some Optimal s is) (same_text text (codes "optimal") one, tt)
  | inr other ↦
      let left : cond (bytes_eq text (codes "stopped")) (some_of Stopped) (cond (bytes_eq text (codes "bound")) (some_of Bound) None) ≡ Some s = rw other at e in
      elim (cases_Bool (bytes_eq text (codes "stopped"))) [
        | inl two ↦
            let is : some_of Stopped ≡ Some s = rw two at left in
            subst (λ (y : CertStatus). (text ≡ status_text y) × Unit {0}) (same_some Stopped s is) (same_text text (codes "stopped") two, tt)
        | inr another ↦
            let last : cond (bytes_eq text (codes "bound")) (some_of Bound) None ≡ Some s = rw another at left in
            let g = chosen (bytes_eq text (codes "bound")) Bound s last in
            subst (λ (y : CertStatus). (text ≡ status_text y) × Unit {0}) g.1 (same_text text (codes "bound") g.0, tt)
      ]
]

status_again : (s : CertStatus) → Unit {0} → status_word_in (status_text s) ≡ Some s
status_again Optimal h = refl
status_again Stopped h = refl
status_again Bound h = refl

status_exact : Exact (λ (s : CertStatus). Unit {0}) (λ s. codes "status " ++ status_text s) status_in
unfolding status_in
status_exact = let words : Exact (λ (s : CertStatus). Unit {0}) status_text status_word_in = record { takes = status_takes; again = status_again } in led_exact (codes "status ") words

status_is_line : (s : CertStatus) → Unit {0} → IsLine (codes "status " ++ status_text s)
status_is_line Optimal h = lacks_line (codes "status optimal") (plain (codes "status optimal") refl)
status_is_line Stopped h = lacks_line (codes "status stopped") (plain (codes "status stopped") refl)
status_is_line Bound h = lacks_line (codes "status bound") (plain (codes "status bound") refl)

-- a number, and `-` for none
abbrev pub dash_text : Option ℕ → List ℕ
dash_text None = codes "-"
dash_text (Some n) = decimal n

abbrev pub FitsDash : ℕ → Option ℕ → Type 0
FitsDash most None = Unit {0}
FitsDash most (Some n) = n ≤ most

dash_takes : (most : ℕ) → most < 2 ^ 64 → (text : List ℕ) (o : Option ℕ) → number_or_dash most text ≡ Some o → (text ≡ dash_text o) × FitsDash most o
unfolding number_or_dash
dash_takes most small text o e = elim (cases_Bool (bytes_eq text (codes "-"))) [
  | inl one ↦
      let nothing : Option ℕ = None in
      let is : some_of nothing ≡ Some o = rw one at e in
      subst (λ (y : Option ℕ). (text ≡ dash_text y) × FitsDash most y) (same_some nothing o is) (same_text text (codes "-") one, tt)
  | inr other ↦
      let is : option_map some_of (number_in most text) ≡ Some o = rw other at e in
      let m = mapped_some some_of (number_in most text) o is in
      let t = (number_below most small).takes text m.0 m.1 in
      subst (λ (y : Option ℕ). (text ≡ dash_text y) × FitsDash most y) m.2 t
]

dash_again : (most : ℕ) → most < 2 ^ 64 → (o : Option ℕ) → FitsDash most o → number_or_dash most (dash_text o) ≡ Some o
unfolding number_or_dash
dash_again most small None h = refl
dash_again most small (Some n) h =
    let other : bytes_eq (decimal n) (codes "-") ≡ false = text_other (decimal n) (codes "-") (number_no_dash n (omega arith)) in
    rw other (ap (option_map some_of) ((number_below most small).again n h))

dash_exact : (most : ℕ) → most < 2 ^ 64 → Exact (FitsDash most) dash_text (number_or_dash most)
dash_exact most small = record { takes = dash_takes most small; again = dash_again most small }

dash_lacks : (most : ℕ) → most < 2 ^ 64 → (o : Option ℕ) → FitsDash most o → Lacks 10 (dash_text o)
dash_lacks most small None h = plain (codes "-") refl
dash_lacks most small (Some n) h = decimal_lacks 10 n (omega arith) (omega arith)

-- ---- cost, bound and number of rows

abbrev pub FitsCostOf : CertStatus → Option ℕ → Type 0
FitsCostOf s o = FitsDash (2 ^ 64 - 1) o × (allows_cost s o ≡ true)

abbrev pub FitsBoundOf : CertStatus → Option ℕ → ℕ → Type 0
FitsBoundOf s o n = (n ≤ 2 ^ 64 - 1) × (allows_bound s o n ≡ true)

abbrev pub FitsCountOf : Option ℕ → Option ℕ → Type 0
FitsCountOf o k = FitsDash (2 ^ 32 - 1) k × (go_together o k ≡ true)

cost_exact : (s : CertStatus) → Exact (FitsCostOf s) (λ o. codes "cost " ++ dash_text o) (cost_in s)
unfolding cost_in
cost_exact s = kept_exact (allows_cost s) (led_exact (codes "cost ") (dash_exact (2 ^ 64 - 1) (omega arith)))

cost_is_line : (s : CertStatus) (o : Option ℕ) → FitsCostOf s o → IsLine (codes "cost " ++ dash_text o)
cost_is_line s o h = lacks_line (codes "cost " ++ dash_text o) (joins (codes "cost ") (dash_text o) (plain (codes "cost ") refl) (dash_lacks (2 ^ 64 - 1) (omega arith) o h.0))

bound_exact : (s : CertStatus) (o : Option ℕ) → Exact (FitsBoundOf s o) (λ n. codes "bound " ++ decimal n) (bound_in s o)
unfolding bound_in
bound_exact s o = kept_exact (allows_bound s o) (led_exact (codes "bound ") (number_below (2 ^ 64 - 1) (omega arith)))

bound_is_line : (s : CertStatus) (o : Option ℕ) (n : ℕ) → FitsBoundOf s o n → IsLine (codes "bound " ++ decimal n)
bound_is_line s o n h = lacks_line (codes "bound " ++ decimal n) (joins (codes "bound ") (decimal n) (plain (codes "bound ") refl) (decimal_lacks 10 n (omega arith) (omega (arith, h.0))))

count_exact : (o : Option ℕ) → Exact (FitsCountOf o) (λ k. codes "rows " ++ dash_text k) (count_in o)
unfolding count_in
count_exact o = kept_exact (go_together o) (led_exact (codes "rows ") (dash_exact (2 ^ 32 - 1) (omega arith)))

count_is_line : (o : Option ℕ) (k : Option ℕ) → FitsCountOf o k → IsLine (codes "rows " ++ dash_text k)
count_is_line o k h = lacks_line (codes "rows " ++ dash_text k) (joins (codes "rows ") (dash_text k) (plain (codes "rows ") refl) (dash_lacks (2 ^ 32 - 1) (omega arith) k h.0))

-- some cost, bound and number of rows
some_cost : (s : CertStatus) → (o : Option ℕ) × FitsCostOf s o
some_cost Optimal = (Some 0, (omega arith, refl))
some_cost Stopped = (Some 1, (omega arith, refl))
some_cost Bound = (None, (tt, refl))

some_bound : (s : CertStatus) (o : Option ℕ) → FitsCostOf s o → (n : ℕ) × FitsBoundOf s o n
some_bound Optimal None h = absurd (let never = h.1 in cc)
some_bound Optimal (Some n) h = (n, (h.0, eq-eqb n n refl))
some_bound Stopped None h = absurd (let never = h.1 in cc)
some_bound Stopped (Some n) h = (0, (omega arith, h.1))
some_bound Bound None h = (0, (omega arith, refl))
some_bound Bound (Some n) h = absurd (let never = h.1 in cc)

some_count : (o : Option ℕ) → (k : Option ℕ) × FitsCountOf o k
some_count None = (None, (tt, refl))
some_count (Some n) = (Some 0, (omega arith, refl))

-- ---- the parts of a certificate, line by line

word_reads : (word : List ℕ) → IsLine word → Reads (λ (x : Unit {0}). Unit {0}) (λ x. word ∷ []) (line_at (word_in word))
word_reads word h = line_reads (word_exact word) (λ x k. h) tt tt

abbrev opening_lines : CertStatus → List Line
opening_lines s = codes "shift-report 1" ∷ (codes "status " ++ status_text s) ∷ []

pub opening_reads : Reads (λ (s : CertStatus). Unit {0}) opening_lines opening_at
unfolding opening_at
opening_reads = made_reads (λ (s : CertStatus). Unit {0}) opening_lines (λ x. x.1) (λ s. (tt, s)) (λ x h. (refl, tt)) (λ s h. (refl, refl, (tt, tt)))
    (next_reads (word_reads (codes "shift-report 1") (lacks_line (codes "shift-report 1") (plain (codes "shift-report 1") refl))) (λ x h. line_reads status_exact status_is_line Optimal tt) (λ x h. (Optimal, tt)))

abbrev pub FitsLimits : CertStatus → Option ℕ × ℕ → Type 0
FitsLimits s x = FitsCostOf s x.0 × FitsBoundOf s x.0 x.1

abbrev limits_lines : Option ℕ × ℕ → List Line
limits_lines x = (codes "cost " ++ dash_text x.0) ∷ (codes "bound " ++ decimal x.1) ∷ []

pub limits_reads : (s : CertStatus) → Reads (FitsLimits s) limits_lines (limits_at s)
unfolding limits_at
limits_reads s = next_reads
    (line_reads (cost_exact s) (cost_is_line s) (some_cost s).0 (some_cost s).1)
    (λ o h. line_reads (bound_exact s o) (bound_is_line s o) (some_bound s o h).0 (some_bound s o h).1)
    (some_bound s)

-- rows, where there is a cost
abbrev pub FitsRowsOf : Option ℕ → List Row → Type 0
FitsRowsOf None rows = (length rows ≡ 0) × AllByRecursion FitsRow rows
FitsRowsOf (Some n) rows = (length rows ≤ 2 ^ 32 - 1) × AllByRecursion FitsRow rows

abbrev pub count_of : Option ℕ → List Row → Option ℕ
count_of None rows = None
count_of (Some n) rows = Some (length rows)

abbrev rows_lines : Option ℕ → List Row → List Line
rows_lines o rows = (codes "rows " ++ dash_text (count_of o rows)) ∷ map row_line rows

abbrev CountAndRows : Option ℕ → Option ℕ × List Row → Type 0
CountAndRows o x = FitsCountOf o x.0 × SoMany FitsRow (or_zero x.0) x.1

abbrev count_and_rows : Option ℕ × List Row → List Line
count_and_rows x = ((codes "rows " ++ dash_text x.0) ∷ []) ++ map row_line x.1

rows_fit : (o k : Option ℕ) (rows : List Row) → CountAndRows o (k, rows) → (rows_lines o rows ≡ count_and_rows (k, rows)) × FitsRowsOf o rows
rows_fit None None rows h = (refl, h.1)
rows_fit None (Some k) rows h = absurd (let never = h.0.1 in cc)
rows_fit (Some n) None rows h = absurd (let never = h.0.1 in cc)
rows_fit (Some n) (Some k) rows h =
    let len : length rows ≡ k = h.1.0 in
    (ap (λ (m : ℕ). (codes "rows " ++ decimal m) ∷ map row_line rows) len, (subst (λ (m : ℕ). m ≤ 2 ^ 32 - 1) (sym len) h.0.0, h.1.1))

rows_back : (o : Option ℕ) (rows : List Row) → FitsRowsOf o rows → CountAndRows o (count_of o rows, rows)
rows_back None rows h = ((tt, refl), h)
rows_back (Some n) rows h = ((h.0, refl), (refl, h.1))

zero_row : Row
zero_row = record { shift = 0; day = 0; breaks = []; count = 0 }

zero_fits : FitsRow zero_row
unfolding zero_row
zero_fits = (omega arith, omega arith, omega arith, All-nil FitsBreak)

pub rows_reads : (o : Option ℕ) → Reads (FitsRowsOf o) (rows_lines o) (rows_at o)
unfolding rows_at
rows_reads o = made_reads (FitsRowsOf o) (rows_lines o) (λ x. x.1) (λ rows. (count_of o rows, rows)) (λ x h. rows_fit o x.0 x.1 h) (λ rows h. (refl, refl, rows_back o rows h))
    (next_reads (line_reads (count_exact o) (count_is_line o) (some_count o).0 (some_count o).1)
    (λ k h. times_reads (line_reads row_exact row_is_line zero_row zero_fits) zero_row zero_fits (or_zero k))
    (λ k h. some_list FitsRow zero_row zero_fits (or_zero k)))

abbrev FitsProof : List ProofLine → Type 0
FitsProof lines = (length lines ≤ 4294967295) × AllByRecursion IsStep lines

-- so many proof lines, with their number
abbrev CountAndLines : ℕ × List ProofLine → Type 0
CountAndLines x = (x.0 ≤ 4294967295) × SoMany IsStep x.0 x.1

abbrev count_and_lines : ℕ × List ProofLine → List Line
count_and_lines x = ((codes "proof " ++ decimal x.0) ∷ []) ++ map proof_line x.1

proof_fit : (x : ℕ × List ProofLine) → CountAndLines x → (proof_lines x.1 ≡ count_and_lines x) × FitsProof x.1
proof_fit x h =
    let len : length x.1 ≡ x.0 = h.1.0 in
    (ap (λ (m : ℕ). (codes "proof " ++ decimal m) ∷ map proof_line x.1) len, (subst (λ (m : ℕ). m ≤ 4294967295) (sym len) h.0, h.1.1))

some_step : IsStep (Settled 0)
some_step = (omega arith, tt)

proof_reads : Reads FitsProof proof_lines proof_at
unfolding proof_at
proof_reads = made_reads FitsProof proof_lines (λ x. x.1) (λ lines. (length lines, lines)) proof_fit (λ lines h. (refl, refl, (h.0, (refl, h.1))))
    (next_reads (line_reads proof_count_exact proof_count_is_line 0 (omega arith))
    (λ n h. times_reads (line_reads step_exact step_is_line (Settled 0) some_step) (Settled 0) some_step n)
    (λ n h. some_list IsStep (Settled 0) some_step n))

abbrev closing_lines : List ProofLine → List Line
closing_lines lines = proof_lines lines ++ codes "end" ∷ []

pub closing_reads : Reads FitsProof closing_lines closing_at
unfolding closing_at
closing_reads = made_reads FitsProof closing_lines (λ x. x.0) (λ lines. (lines, tt)) (λ x h. (refl, h.0)) (λ lines h. (refl, refl, (h, tt)))
    (next_reads proof_reads (λ lines h. word_reads (codes "end") (lacks_line (codes "end") (plain (codes "end") refl))) (λ lines h. (tt, tt)))

-- ---- a certificate

abbrev Fields : Type 0
Fields = CertStatus × ((Option ℕ × ℕ) × (List Row × List ProofLine))

abbrev FitsFields : Fields → Type 0
FitsFields x = Unit {0} × (FitsLimits x.0 x.1.0 × (FitsRowsOf x.1.0.0 x.1.1.0 × FitsProof x.1.1.1))

abbrev fields_lines : Fields → List Line
fields_lines x = opening_lines x.0 ++ (limits_lines x.1.0 ++ (rows_lines x.1.0.0 x.1.1.0 ++ closing_lines x.1.1.1))

abbrev cost_of : Option (ℕ × List Row) → Option ℕ
cost_of None = None
cost_of (Some p) = Some p.0

abbrev of_cert : Cert → Fields
of_cert c = (c.status, ((cost_of c.plan, c.bound), (rows_of c.plan, c.lines)))

empty_rows : (rows : List Row) → length rows ≡ 0 → [] ≡ rows
empty_rows [] h = refl
empty_rows (r ∷ rows) h = absurd (omega arith)

spelled : (s : CertStatus) (o : Option ℕ) (bound : ℕ) (rows : List Row) (lines : List ProofLine) → FitsRowsOf o rows → cert_lines (to_cert (s, ((o, bound), (rows, lines)))) ≡ fields_lines (s, ((o, bound), (rows, lines)))
spelled s None bound rows lines h = ap (λ (l : List Row). opening_lines s ++ (limits_lines (None, bound) ++ (rows_lines None l ++ closing_lines lines))) (empty_rows rows h.0)
spelled s (Some n) bound rows lines h = refl

agrees : (s : CertStatus) (o : Option ℕ) (bound : ℕ) (rows : List Row) → FitsLimits s (o, bound) → AgreesWith s (plan_of o rows) bound
agrees Optimal None bound rows h = absurd (let never = h.0.1 in cc)
agrees Optimal (Some n) bound rows h = eqb-true n bound h.1.1
agrees Stopped None bound rows h = absurd (let never = h.0.1 in cc)
agrees Stopped (Some n) bound rows h = ltb-true bound n h.1.1
agrees Bound None bound rows h = tt
agrees Bound (Some n) bound rows h = absurd (let never = h.0.1 in cc)

-- each proof line is one that has a text
fitting_lines : (lines : List ProofLine) → AllByRecursion IsStep lines → All FitsLine lines × All HasSlot lines
fitting_lines lines h =
    let all = All-from_recursion IsStep lines h in
    (All-weaker IsStep FitsLine (λ l k. k.0) lines all, All-weaker IsStep HasSlot (λ l k. k.1) lines all)

steps : (lines : List ProofLine) → All FitsLine lines → All HasSlot lines → AllByRecursion IsStep lines
steps [] h k = tt
steps (l ∷ ls) h k = ((All-head FitsLine l ls h, All-head HasSlot l ls k), steps ls (All-tail FitsLine l ls h) (All-tail HasSlot l ls k))

has_text : (s : CertStatus) (o : Option ℕ) (bound : ℕ) (rows : List Row) (lines : List ProofLine) → FitsLimits s (o, bound) → FitsRowsOf o rows → FitsProof lines → HasText (to_cert (s, ((o, bound), (rows, lines))))
has_text s None bound rows lines h k p = record {
  agrees = record { status = agrees s None bound rows h; few = omega arith; few_lines = omega (arith, p.0); slots = (fitting_lines lines p.1).1 };
  fits = record { cost = tt; bound = omega (arith, h.1.0); rows = All-nil FitsRow; lines = (fitting_lines lines p.1).0 };
}
has_text s (Some n) bound rows lines h k p = record {
  agrees = record { status = agrees s (Some n) bound rows h; few = omega (arith, k.0); few_lines = omega (arith, p.0); slots = (fitting_lines lines p.1).1 };
  fits = record { cost = omega (arith, h.0.0); bound = omega (arith, h.1.0); rows = All-from_recursion FitsRow rows k.1; lines = (fitting_lines lines p.1).0 };
}

fits_limits : (s : CertStatus) (plan : Option (ℕ × List Row)) (bound : ℕ) (lines : List ProofLine) → HasText (record { status = s; plan = plan; bound = bound; lines = lines }) → FitsLimits s (cost_of plan, bound)
fits_limits Optimal None bound lines h = absurd h.agrees.status
fits_limits Optimal (Some p) bound lines h = ((omega (arith, h.fits.cost), refl), (omega (arith, h.fits.bound), eq-eqb p.0 bound h.agrees.status))
fits_limits Stopped None bound lines h = absurd h.agrees.status
fits_limits Stopped (Some p) bound lines h = ((omega (arith, h.fits.cost), lt-ltb 0 p.0 (omega (arith, h.agrees.status))), (omega (arith, h.fits.bound), lt-ltb bound p.0 h.agrees.status))
fits_limits Bound None bound lines h = ((tt, refl), (omega (arith, h.fits.bound), refl))
fits_limits Bound (Some p) bound lines h = absurd h.agrees.status

fits_rows : (s : CertStatus) (plan : Option (ℕ × List Row)) (bound : ℕ) (lines : List ProofLine) → HasText (record { status = s; plan = plan; bound = bound; lines = lines }) → FitsRowsOf (cost_of plan) (rows_of plan)
fits_rows s None bound lines h = (refl, tt)
fits_rows s (Some p) bound lines h = (omega (arith, h.agrees.few), recursion_from_All FitsRow p.1 h.fits.rows)

fits_proof : (c : Cert) → HasText c → FitsProof c.lines
fits_proof c h = (omega (arith, h.agrees.few_lines), steps c.lines h.fits.lines h.agrees.slots)

made_again : (s : CertStatus) (plan : Option (ℕ × List Row)) (bound : ℕ) (lines : List ProofLine) → (to_cert (of_cert (record { status = s; plan = plan; bound = bound; lines = lines })) ≡ record { status = s; plan = plan; bound = bound; lines = lines }) × (cert_lines (record { status = s; plan = plan; bound = bound; lines = lines }) ≡ fields_lines (of_cert (record { status = s; plan = plan; bound = bound; lines = lines })))
made_again s None bound lines = (refl, refl)
made_again s (Some p) bound lines = (refl, refl)

cert_back : (c : Cert) → HasText c → (to_cert (of_cert c) ≡ c) × (cert_lines c ≡ fields_lines (of_cert c)) × FitsFields (of_cert c)
cert_back c h =
    let m = made_again c.status c.plan c.bound c.lines in
    (m.0, m.1, (tt, (fits_limits c.status c.plan c.bound c.lines h, (fits_rows c.status c.plan c.bound c.lines h, fits_proof c h))))

some_limits : (s : CertStatus) → (x : Option ℕ × ℕ) × FitsLimits s x
some_limits s = let o = some_cost s in let n = some_bound s o.0 o.1 in ((o.0, n.0), (o.1, n.1))

some_rows : (o : Option ℕ) → (rows : List Row) × FitsRowsOf o rows
some_rows None = ([], (refl, tt))
some_rows (Some n) = ([], (omega arith, tt))

-- no proof lines
no_lines : (lines : List ProofLine) × FitsProof lines
no_lines = ([], (omega arith, tt))

pub cert_reads : Reads HasText cert_lines cert_at
unfolding cert_at
cert_reads = made_reads HasText cert_lines to_cert of_cert (λ x h. (spelled x.0 x.1.0.0 x.1.0.1 x.1.1.0 x.1.1.1 h.1.1.0, has_text x.0 x.1.0.0 x.1.0.1 x.1.1.0 x.1.1.1 h.1.0 h.1.1.0 h.1.1.1)) cert_back
    (next_reads opening_reads
    (λ s h. next_reads (limits_reads s) (λ l k. next_reads (rows_reads l.0) (λ rows i. closing_reads) (λ rows i. no_lines)) (λ l k. let r = some_rows l.0 in ((r.0, no_lines.0), (r.1, no_lines.1))))
    (λ s h. let l = some_limits s in let r = some_rows l.0.0 in ((l.0, (r.0, no_lines.0)), (l.1, (r.1, no_lines.1)))))
