-- Lines that give floors, and what is found of lines before they are judged.
use Rattle.cert_check.proofs.Common.{◌≡◌, ℕ, zero, suc, ◌+◌, cond, length, arith, Bool, true, false, not, max, List, [], ◌∷◌, refl, sym, ap, subst, ◌∙◌, Option, Some, None, Vec, Global, Result, Ok, Err, slice_get, IfOk, IsSomeAnd, MatchOption, option_map_or, option_flatten, false≢true, Problem, Cut, are_prices, bound_of, Node, with_floor, Line, Split, Settled, node_of, nodes_after, line_floor, gives_floor, given_floor, IsFindingOf, AreFindings}
use Rattle.certificate.specs.declared.proof_lines.Line.TheVariants.{Priced}
use Rattle.cert_check.specs.declared.findings.Finding.{Finding}
use Rattle.cert_check.proofs.Causes.{price_good, settle_good}

-- ---- a line that gives a floor

some_of : (b : Bool) (bound floor : ℕ) → cond b (Some bound) None ≡ Some floor → (b ≡ true) × (floor ≡ bound)
some_of true bound floor e = let same : floor ≡ bound = cc in (refl, same)
some_of false bound floor e = absurd (cc)

abbrev IsUnsplit : List Node → ℕ → Type 0
IsUnsplit nodes k = option_map_or (λ (n : Node). not n.split) (slice_get nodes k) false ≡ true

abbrev HasCuts : List Node → ℕ → List Cut → Type 0
HasCuts nodes k cuts = IsSomeAnd (slice_get nodes k) (λ (n : Node). cuts ≡ n.cuts)

abbrev IsLifted : List Node → ℕ → Line → ℕ → List Node → Type 0
IsLifted nodes k line floor new = IsSomeAnd (slice_get nodes k) (λ (n : Node). new ≡ with_floor nodes k n (given_floor n line floor))

good_there : (i : Problem) (nodes new : List Node) (line : Line) (cuts : List Cut) (found : Option ℕ) (floor : ℕ) → IsUnsplit nodes (node_of line) → HasCuts nodes (node_of line) cuts
    → gives_floor line ≡ true → found ≡ line_floor i cuts line → found ≡ Some floor → IsLifted nodes (node_of line) line floor new → nodes_after i nodes (line ∷ []) ≡ Some new
good_there i nodes new (Split k class m) cuts found floor u c g f h s = absurd (false≢true g)
good_there i nodes new (Priced k prices) cuts found floor u c g f h s =
    let is = some_of (are_prices i cuts prices) (bound_of i cuts prices) floor (sym f ∙ h) in
    price_good i nodes new k prices cuts floor u c is.0 is.1 s
good_there i nodes new (Settled k) cuts found floor u c g f h s = settle_good i nodes new k cuts found floor u c f h s

pub lift_good : (i : Problem) (nodes new : List Node) (line : Line) (k : ℕ) (cuts : List Cut) (found : Option ℕ) (floor : ℕ) → node_of line ≡ k → IsUnsplit nodes k → HasCuts nodes k cuts
    → gives_floor line ≡ true → found ≡ line_floor i cuts line → found ≡ Some floor → IsLifted nodes k line floor new → nodes_after i nodes (line ∷ []) ≡ Some new
lift_good i nodes new line k cuts found floor e u c g f h s =
    good_there i nodes new line cuts found floor (subst (IsUnsplit nodes) (sym e) u) (subst (λ k. HasCuts nodes k cuts) (sym e) c) g f h (subst (λ k. IsLifted nodes k line floor new) (sym e) s)

-- ---- what is found of lines

-- what is found at each place is found of the line there
pub all_found : (i : Problem) (lines : List Line) (founds : List (Option Finding))
    → ((at : ℕ) (found : Option Finding) → slice_get founds at ≡ Some found → IsSomeAnd (slice_get lines at) (λ line. IsFindingOf i line found)) → AreFindings i lines founds
all_found i [] founds given = tt
all_found i (line ∷ lines) [] given = tt
all_found i (line ∷ lines) (found ∷ founds) given = (given zero found refl, all_found i lines founds (λ at f e. given (suc at) f e))

pub found_ahead : {E : Type 0} (i : Problem) (lines : List Line) (result : Result (Vec (Option Finding) Global) E)
    → IfOk result (λ all. (at : ℕ) (found : Option Finding) → slice_get all.items at ≡ Some found → IsSomeAnd (slice_get lines at) (λ line. IsFindingOf i line found))
    → IfOk result (λ all. AreFindings i lines all.items)
found_ahead i lines (Ok all) given = all_found i lines all.items given
found_ahead i lines (Err e) given = tt

none_left : (i : Problem) (lines : List Line) (founds : List (Option Finding)) → length founds ≡ 0 → AreFindings i lines founds
none_left i [] founds e = tt
none_left i (line ∷ lines) [] e = tt
none_left i (line ∷ lines) (found ∷ founds) e = absurd (omega (arith, e))

-- what was found of the first of some lines, if anything, and of those behind it
pub found_next : (i : Problem) (line : Line) (lines : List Line) (founds more : List (Option Finding)) (before behind : ℕ) (next : Option (Option Finding))
    → AreFindings i (line ∷ lines) founds → length more ≡ behind
    → MatchOption next ((before ≡ 0) × (behind ≡ 0)) (λ found. (founds ≡ found ∷ more) × (behind + 1 ≡ before))
    → IsFindingOf i line (option_flatten next) × AreFindings i lines more
found_next i line lines founds more before behind None are count steps = (tt, none_left i lines more (count ∙ steps.1))
found_next i line lines founds more before behind (Some found) are count steps = subst (λ (l : List (Option Finding)). AreFindings i (line ∷ lines) l) steps.0 are

-- a good line, as its judgement tells it
pub good_of : {X : Type 0} (o : Option X) (x : X) (b : Bool) → o ≡ cond b (Some x) None → b ≡ true → o ≡ Some x
good_of o x b e t = e ∙ ap (λ b. cond b (Some x) None) t
