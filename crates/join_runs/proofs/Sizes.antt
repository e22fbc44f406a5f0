-- A report has no more proof lines than bytes.
use Rattle.join_runs.proofs.Common.{◌≡◌, ℕ, ◌+◌, ◌≤◌, List, [], ◌∷◌, ◌++◌, length, map, ap, ◌∙◌, arith, codes, length-append, length-map, length_push, Cert, Spells, line_text, lines_text, proof_line, cert_lines, plan_lines, proof_lines}
use Rattle.certificate.specs.LineText.{Line as TextLine}

-- a text has no fewer bytes than lines
lines_in : (lines : List TextLine) → length lines ≤ length (lines_text lines)
lines_in [] = omega arith
lines_in (line ∷ lines) =
    let rest : length lines ≤ length (lines_text lines) = lines_in lines in
    let all : length (line_text line ++ lines_text lines) ≡ length (line_text line) + length (lines_text lines) = length-append (line_text line) (lines_text lines) in
    let one : length (line_text line) ≡ length line + 1 = length_push line 10 in
    omega (arith, rest, all, one)

-- a certificate has more lines of text than proof lines
lines_of_cert : (c : Cert) → length c.lines ≤ length (cert_lines c)
lines_of_cert c =
    let tail = proof_lines c.lines ++ codes "end" ∷ [] in
    let a : length (plan_lines c.plan c.bound ++ tail) ≡ length (plan_lines c.plan c.bound) + length tail = length-append (plan_lines c.plan c.bound) tail in
    let b : length tail ≡ length (proof_lines c.lines) + 1 = length_push (proof_lines c.lines) (codes "end") in
    let d : length (map proof_line c.lines) ≡ length c.lines = length-map c.lines proof_line in
    omega (arith, a, b, d)

-- a certificate has no more proof lines than its text has bytes
pub few_lines : (bytes : List ℕ) (c : Cert) → Spells bytes c → length c.lines ≤ length bytes
few_lines bytes c s =
    let text : length s.lines ≤ length (lines_text s.lines) = lines_in s.lines in
    let same : length bytes ≡ length (lines_text s.lines) = ap (λ (bs : List ℕ). length bs) s.is in
    let whole : length s.lines ≡ length (cert_lines c) + length s.is_text.notes = ap (λ (ls : List TextLine). length ls) s.is_text.is ∙ length-append (cert_lines c) s.is_text.notes in
    let inner = lines_of_cert c in
    omega (arith, text, same, whole, inner)
