use Rattle.break_layers.proofs.Common.{◌≡◌, ◌++◌, ◌∷◌, [], ℤ, List, IsTrue, filter, map, Break, is_live, nexts_of, spot_of, is_walk, AreSums, AreLayers, way_by}
use Rattle.break_layers.proofs.ways.live_ways.Given as goal

abbrev pub invariant-loop-stop : goal.invariant-loop-stop
invariant-loop-stop l = record {
  can_next : (goal.iterator-loop-stop).can_next l.stop-iterator;
  is_finite : (goal.iterator-loop-stop).is_finite l.stop-iterator;
  whole : l.yielded ++ l.stop-iterator ≡ nexts_of l.rule l.len l.fn.spot;
  exact : (sums : List ℤ) (list : List Break) → AreSums l.len sums → AreLayers l.rule l.len sums l.table → IsTrue (is_walk l.rule l.len list) → l.fn.spot ≡ spot_of l.rule list
      → l.ways.items ≡ map (way_by l.rule list) (filter (λ b. is_live l.rule l.len (list ++ b ∷ [])) l.yielded);
}
