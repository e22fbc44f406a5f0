-- The text of a certificate, part by part.
use Rattle.std.proofs.Common.{◌≡◌, ap, ◌∙◌, ℕ, List, [], ◌∷◌, ◌++◌, codes, length, map, append_assoc, sym}
use Rattle.std.specs.Fmt.{decimal}
use Rattle.std.proofs.lemmas.Grind.{flat_map-append}
use Rattle.certificate.specs.declared.Cert.{Cert}
use Rattle.certificate.specs.Text.{plan_lines, proof_lines, status_text, cert_text}
use Rattle.certificate.specs.LineText.{Line, line_text, lines_text, proof_line}

-- the title and the status, the plan and the bound, the number of proof lines, the proof lines, and the last line
pub cert_parts : (c : Cert)
    → cert_text c ≡ codes "shift-report 1\nstatus " ++ (status_text c.status ++ 10 ∷ []) ++ lines_text (plan_lines c.plan c.bound) ++ (codes "proof " ++ decimal (length c.lines) ++ codes "\n") ++ lines_text (map proof_line c.lines) ++ codes "end\n"
unfolding cert_text
cert_parts c =
    let last : List Line = codes "end" ∷ [] in
    let status : List ℕ = status_text c.status ++ 10 ∷ [] in
    let plan : List ℕ = lines_text (plan_lines c.plan c.bound) in
    let count : List ℕ = codes "proof " ++ decimal (length c.lines) ++ codes "\n" in
    let lines : List ℕ = lines_text (map proof_line c.lines) in
    let parts : lines_text (plan_lines c.plan c.bound ++ (proof_lines c.lines ++ last)) ≡ plan ++ (count ++ (lines ++ codes "end\n")) =
    flat_map-append line_text (plan_lines c.plan c.bound) (proof_lines c.lines ++ last)
    ∙ ap (λ (t : List ℕ). plan ++ (count ++ t)) (flat_map-append line_text (map proof_line c.lines) last) in
    let whole : status ++ lines_text (plan_lines c.plan c.bound ++ (proof_lines c.lines ++ last)) ≡ (((status ++ plan) ++ count) ++ lines) ++ codes "end\n" =
    ap (λ (t : List ℕ). status ++ t) parts ∙ sym (append_assoc status plan (count ++ (lines ++ codes "end\n"))) ∙ sym (append_assoc (status ++ plan) count (lines ++ codes "end\n"))
    ∙ sym (append_assoc ((status ++ plan) ++ count) lines (codes "end\n")) in
    ap (λ (t : List ℕ). codes "shift-report 1\nstatus " ++ t) whole
