-- Lines of a batch, judged one after another.
use Rattle.cert_check.proofs.Common.{◌≡◌, ℕ, ◌+◌, ◌-◌, ◌≤◌, List, [], ◌∷◌, ◌++◌, length, refl, sym, ap, subst, ◌∙◌, Option, Some, None, arith, length-append, Problem, Node, new_node, Line, Split, Settled, nodes_after, nodes_of, bad_line, line_cause}
use Rattle.certificate.specs.declared.proof_lines.Line.TheVariants.{Priced}
use Rattle.cert_check.specs.Batches.{GoesOn, StopsIn}
use Rattle.cert_check.proofs.Causes.{good_cause, good_nodes}

-- some lines are left of a batch behind others: what those make of the nodes before it leaves the judgement on these as it is
pub record Judging (i : Problem) (old : List Node) (before : ℕ) (lines : List Line) (now : List Node) (number : ℕ) (left : List Line) : Type 0 where
  pub nodes : (rest : List Line) → nodes_after i old (lines ++ rest) ≡ nodes_after i now (left ++ rest)
  pub cause : (rest : List Line) → line_cause i old (before + 1) (lines ++ rest) ≡ line_cause i now (number + 1) (left ++ rest)
  pub count : number + length left ≡ before + length lines

-- a good line
pub judging_more : (i : Problem) (old now next : List Node) (before number more : ℕ) (lines left rest : List Line) (line : Line)
    → Judging i old before lines now number left → left ≡ line ∷ rest → more ≡ number + 1 → nodes_after i now (line ∷ []) ≡ Some next → Judging i old before lines next more rest
judging_more i old now next before number more lines left rest line j e m good = record {
  nodes = λ behind. j.nodes behind ∙ ap (λ (l : List Line). nodes_after i now (l ++ behind)) e ∙ good_nodes i now next line (rest ++ behind) good;
  cause = λ behind.
      j.cause behind
      ∙ ap (λ (l : List Line). line_cause i now (number + 1) (l ++ behind)) e
      ∙ good_cause i now next (number + 1) line (rest ++ behind) good
      ∙ ap (λ n. line_cause i next (n + 1) (rest ++ behind)) (sym m);
  count = omega (arith, j.count, ap length e, m);
}

-- a line that isn't good, by its kind
stops : (i : Problem) (old : List Node) (before : ℕ) (lines : List Line) (line : Line) (number : ℕ)
    → ((rest : List Line) → line_cause i old (before + 1) (lines ++ rest) ≡ Some (bad_line line number)) → StopsIn i old before lines (bad_line line number)
stops i old before lines (Split k class m) number s = s
stops i old before lines (Priced k prices) number s = s
stops i old before lines (Settled k) number s = s

-- ---- batches

-- the lines behind a batch are judged as they would be behind all lines before it
pub batch_more : (i : Problem) (now next : List Node) (lines old new batch : List Line) (m n : ℕ)
    → nodes_after i now old ≡ nodes_of i lines → line_cause i now (length lines - length old + 1) old ≡ line_cause i (new_node [] ∷ []) 1 lines → length old ≤ length lines
    → old ≡ batch ++ new → m ≡ length lines → n ≡ length old → GoesOn i now (m - n) batch next
    → (nodes_after i next new ≡ nodes_of i lines) × (line_cause i next (length lines - length new + 1) new ≡ line_cause i (new_node [] ∷ []) 1 lines) × (length new ≤ length lines)
batch_more i now next lines old new batch m n nodes cause few e total left g =
    let count : length old ≡ length batch + length new = ap (λ (l : List Line). length l) e ∙ length-append batch new in
    let behind : length lines - length new + 1 ≡ m - n + length batch + 1 = omega (arith, count, total, left, few) in
    let first : m - n + 1 ≡ length lines - length old + 1 = omega (arith, total, left) in (
      sym (g.nodes new) ∙ ap (λ (l : List Line). nodes_after i now l) (sym e) ∙ nodes,
      ap (λ k. line_cause i next k new) behind
          ∙ sym (g.cause new)
          ∙ ap (λ k. line_cause i now k (batch ++ new)) first
          ∙ ap (λ (l : List Line). line_cause i now (length lines - length old + 1) l) (sym e)
          ∙ cause,
      omega (arith, count, few),
    )
