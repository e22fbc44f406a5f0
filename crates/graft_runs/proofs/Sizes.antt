-- How many lines a report has, how many cuts a node of it, and how many pins its rows.
use Rattle.graft_runs.proofs.Common.{◌≡◌, inl, inr, ℕ, zero, suc, ◌+◌, ◌*◌, ◌^◌, ◌≤◌, List, [], ◌∷◌, ◌++◌, length, map, refl, sym, ap, ◌∙◌, subst, arith, Option, Some, None, slice_get, codes, IsFalse, IsSomeAnd, flat_map, range_with_len, cond_both, length-append, length-map, length_push, Problem, shift_list, below, IsValid, heads_on, lists_of, Cut, is_nil, Node, new_node, Cert, Spells, line_text, lines_text, proof_line, cert_lines, plan_lines, proof_lines, HasOpenEnd, nodes_made, pins_of, pins_of_shift, pins_on, made_is, tree_of}
use Rattle.certificate.specs.LineText.{Line as TextLine}
use Rattle.shift_instance.specs.declared.Duty.{Duty}
use Rattle.head_splits.proofs.Nodes.{Has-slice_get}
use Rattle.report_nodes.proofs.Grown.{CutsWithin, within_lines}

-- ---- lines

-- a text has no fewer bytes than lines
lines_in : (lines : List TextLine) → length lines ≤ length (lines_text lines)
lines_in [] = omega arith
lines_in (line ∷ lines) =
    let rest : length lines ≤ length (lines_text lines) = lines_in lines in
    let all : length (line_text line ++ lines_text lines) ≡ length (line_text line) + length (lines_text lines) = length-append (line_text line) (lines_text lines) in
    let one : length (line_text line) ≡ length line + 1 = length_push line 10 in
    omega (arith, rest, all, one)

-- a certificate has more lines of text than proof lines
lines_of_cert : (c : Cert) → length c.lines ≤ length (cert_lines c)
lines_of_cert c =
    let tail = proof_lines c.lines ++ codes "end" ∷ [] in
    let a : length (plan_lines c.plan c.bound ++ tail) ≡ length (plan_lines c.plan c.bound) + length tail = length-append (plan_lines c.plan c.bound) tail in
    let b : length tail ≡ length (proof_lines c.lines) + 1 = length_push (proof_lines c.lines) (codes "end") in
    let d : length (map proof_line c.lines) ≡ length c.lines = length-map c.lines proof_line in
    omega (arith, a, b, d)

-- a certificate has no more proof lines than its text has bytes
pub few_lines : (bytes : List ℕ) (c : Cert) → Spells bytes c → length c.lines ≤ length bytes
few_lines bytes c s =
    let text : length s.lines ≤ length (lines_text s.lines) = lines_in s.lines in
    let same : length bytes ≡ length (lines_text s.lines) = ap (λ (bs : List ℕ). length bs) s.is in
    let whole : length s.lines ≡ length (cert_lines c) + length s.is_text.notes = ap (λ (ls : List TextLine). length ls) s.is_text.is ∙ length-append (cert_lines c) s.is_text.notes in
    let inner = lines_of_cert c in
    omega (arith, text, same, whole, inner)

-- ---- cuts

root_within : CutsWithin 0 (new_node [] ∷ [])
root_within n there = elim there [ inl e ↦ subst (λ (z : Node). length z.cuts ≤ 0) e (omega arith) | inr gone ↦ absurd gone ]

end_place : (o : Option Node) (cuts : List Cut) → IsSomeAnd o (λ n. IsFalse n.split × (n.cuts ≡ cuts)) → (n : Node) × (o ≡ Some n) × (n.cuts ≡ cuts)
end_place None cuts h = absurd h
end_place (Some n) cuts h = (n, refl, h.1)

-- an unsplit node of a certificate has no more cuts than the certificate has lines
pub few_cuts : (i : Problem) (whole : Cert) (node : ℕ) (cuts : List Cut) → HasOpenEnd i whole node cuts → length cuts ≤ length whole.lines
few_cuts i whole node cuts h =
    let t = tree_of i whole h.0 in
    let there = end_place (slice_get (nodes_made i whole.lines) node) cuts h.1 in
    let at : slice_get t.0 node ≡ Some there.0 = ap (λ (ns : List Node). slice_get ns node) (sym (made_is i whole.lines t.0 t.1)) ∙ there.1 in
    let w : length there.0.cuts ≤ 0 + length whole.lines = within_lines i 0 (new_node [] ∷ []) t.0 whole.lines t.1 root_within there.0 (Has-slice_get t.0 node there.0 at) in
    let same : length there.0.cuts ≡ length cuts = ap (λ (cs : List Cut). length cs) there.2 in
    omega (arith, w, same)

-- ---- pins

flat_length : {A B : Type 0} (f : A → List B) (most : ℕ) (xs : List A) → ((x : A) → length (f x) ≤ most) → length (flat_map f xs) ≤ most * length xs
flat_length f most [] h = omega arith
flat_length f most (x ∷ xs) h =
    let a : length (f x ++ flat_map f xs) ≡ length (f x) + length (flat_map f xs) = length-append (f x) (flat_map f xs) in
    let here : length (f x) ≤ most = h x in
    let rest : length (flat_map f xs) ≤ most * length xs = flat_length f most xs h in
    omega (arith, a, here, rest)

count_below : (from n : ℕ) → length (range_with_len from n) ≡ n
count_below from zero = refl
count_below from (suc n) = let rest = count_below (from + 1) n in omega (arith, rest)

pins_of_one : (i : Problem) (rota : List Duty) (s : ℕ) → i.days ≤ 7 → length (pins_of_shift i rota s) ≤ 14
pins_of_one i rota s few =
    cond_both (is_nil (lists_of i s)) [] (flat_map (λ day. pins_on s day (heads_on rota s day)) (below i.days)) (λ (cs : List Cut). length cs ≤ 14)
    (λ e. omega arith)
    (λ e.
    let all : length (flat_map (λ day. pins_on s day (heads_on rota s day)) (below i.days)) ≤ 2 * length (below i.days) = flat_length (λ day. pins_on s day (heads_on rota s day)) 2 (below i.days) (λ day. omega arith) in
    let days : length (below i.days) ≡ i.days = count_below 0 i.days in
    omega (arith, all, days, few))

-- rows have few pins
pub few_pins : (i : Problem) (rota : List Duty) → IsValid i → length (pins_of i rota) ≤ 2 ^ 28
few_pins i rota valid =
    let days : i.days ≤ 7 = valid.days in
    let shifts : length (shift_list i) ≤ 1024 = valid.shifts in
    let all : length (pins_of i rota) ≤ 14 * length (below (length (shift_list i))) = flat_length (pins_of_shift i rota) 14 (below (length (shift_list i))) (λ s. pins_of_one i rota s days) in
    let count : length (below (length (shift_list i))) ≡ length (shift_list i) = count_below 0 (length (shift_list i)) in
    omega (arith, all, count, shifts)
