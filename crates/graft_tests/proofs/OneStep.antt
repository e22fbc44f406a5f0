-- A run that priced its node once.
use Rattle.std.proofs.Common.{◌≡◌, ℕ, ◌≤◌, max, min, true, cond, ◌&&◌, not, List, [], ◌∷◌, refl, sym, ap, ◌∙◌, subst, arith, Option, Some, None}
use Rattle.std.specs.Option.{option_and_then}
use Rattle.shift_instance.specs.Problem.{Problem}
use Rattle.head_splits.specs.declared.Cut.{Cut}
use Rattle.head_splits.specs.declared.Prices.{Prices}
use Rattle.head_splits.specs.Bound.{are_prices, bound_of}
use Rattle.head_splits.specs.Nodes.{Node, new_node, with_floor}
use Rattle.certificate.specs.declared.proof_lines.Line.{Line}
use Rattle.certificate.specs.declared.proof_lines.Line.TheVariants.{Priced}
use Rattle.dual_bound.specs.Proved.{Proving, IsProved}
use Rattle.report_grafts.specs.Run.{Run, IsSound}

priced_once : (i : Problem) (base : List Cut) (prices : Prices) (limit : ℕ) → are_prices i base prices ≡ true
    → IsSound (record { instance = i; base = base; limit = limit; best = None; lines = Priced 0 prices ∷ []; taken = 1; floor = min limit (bound_of i base prices) })
priced_once i base prices limit priced =
    let n = new_node base in
    record {
      nodes = with_floor (n ∷ []) 0 n (max 0 (bound_of i base prices));
      good = ap (λ b. option_and_then (λ (next : List Node). Some next) (cond b (Some (with_floor (n ∷ []) 0 n (max 0 (bound_of i base prices)))) None)) priced;
      few = omega arith;
      best = tt;
      taken = refl;
      floor = omega arith;
    }

pub one_step_sound : (p : Proving) (i : Problem) (base : List Cut) (prices : Prices) (limit bound floor : ℕ) (lines : List Line) → IsProved p → p.instance ≡ i → base ≡ p.cuts → prices ≡ p.prices → bound ≡ p.bound
    → lines ≡ Priced 0 prices ∷ [] → floor ≡ min limit bound → IsSound (record { instance = i; base = base; limit = limit; best = None; lines = lines; taken = 1; floor = floor })
one_step_sound p i base prices limit bound floor lines proved same b q e l f =
    let exact : p.bound ≡ bound_of p.instance p.cuts p.prices = proved.exact in
    rw (l, q, b, f, e, exact, sym same) (priced_once p.instance p.cuts p.prices limit proved.passes)
