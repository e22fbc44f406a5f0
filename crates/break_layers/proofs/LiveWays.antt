-- The ways on from a spot, one break after another.
use Rattle.break_layers.proofs.Common.{◌≡◌, ℕ, ℤ, Bool, true, false, cond, Option, Some, None, List, [], ◌∷◌, ◌++◌, map, filter, refl, sym, ap, subst, ◌∙◌, append-nil, MatchOption, is_some, slice_get, map-append, Break, Rule, is_live, spot_of, Way, IsMostEarned, way_by}
use Rattle.std.specs.Option.{option_map}
use Rattle.std.proofs.lemmas.Option.{slice_get-map}
use Rattle.std.proofs.lemmas.List.Elements.{filter-append}
use Rattle.break_layers.proofs.Following.{most_live}

-- the walks with a value are those with which some legal list begins
pub live_by_value : (rule : Rule) (len : ℕ) (sums : List ℤ) (list : List Break) (value : Option ℤ) → MatchOption value (is_live rule len list ≡ false) (IsMostEarned rule len sums list)
    → is_some value ≡ is_live rule len list
live_by_value rule len sums list None h = sym h
live_by_value rule len sums list (Some x) h = sym (most_live rule len sums list x h)

module _ (rule : Rule) (len : ℕ) (list : List Break) where
  -- the ways by those of some breaks with which some legal list goes on
  abbrev pub ways_by : List Break → List Way
  ways_by breaks = map (way_by rule list) (filter (λ b. is_live rule len (list ++ b ∷ [])) breaks)

  one_by : (breaks : List Break) (stop : Break) (live : Bool) → is_live rule len (list ++ stop ∷ []) ≡ live
      → ways_by breaks ++ map (way_by rule list) (cond live (stop ∷ []) []) ≡ ways_by (breaks ++ stop ∷ [])
  one_by breaks stop live is =
      let passes : Break → Bool = λ b. is_live rule len (list ++ b ∷ []) in
      ap (λ (t : Bool). ways_by breaks ++ map (way_by rule list) (cond t (stop ∷ []) [])) (sym is)
      ∙ sym (map-append (way_by rule list) (filter passes breaks) (filter passes (stop ∷ [])))
      ∙ ap (map (way_by rule list)) (sym (filter-append passes breaks (stop ∷ [])))

  -- one break more, with which some legal list goes on
  pub way_more : (ways : List Way) (breaks : List Break) (stop : Break) → ways ≡ ways_by breaks → is_live rule len (list ++ stop ∷ []) ≡ true
      → ways ++ way_by rule list stop ∷ [] ≡ ways_by (breaks ++ stop ∷ [])
  way_more ways breaks stop h live = ap (λ (ws : List Way). ws ++ way_by rule list stop ∷ []) h ∙ one_by breaks stop true live

  -- one break more, with which none goes on
  pub no_way_more : (ways : List Way) (breaks : List Break) (stop : Break) → ways ≡ ways_by breaks → is_live rule len (list ++ stop ∷ []) ≡ false → ways ≡ ways_by (breaks ++ stop ∷ [])
  no_way_more ways breaks stop h dead = h ∙ sym (append-nil (ways_by breaks)) ∙ one_by breaks stop false dead

-- the breaks of ways
pub stops_by : (rule : Rule) (list breaks : List Break) → map (λ (w : Way). w.stop) (map (way_by rule list) breaks) ≡ breaks
stops_by rule list [] = refl
stops_by rule list (b ∷ breaks) = ap (λ (bs : List Break). b ∷ bs) (stops_by rule list breaks)

-- the spots of ways
pub spot_by : (rule : Rule) (list breaks : List Break) (i : ℕ) (w : Way) → slice_get (map (way_by rule list) breaks) i ≡ Some w → w.spot ≡ spot_of rule (list ++ w.stop ∷ [])
spot_by rule list breaks i w h = by (slice_get breaks i) (sym (slice_get-map (way_by rule list) breaks i) ∙ h)
  where
    by : (o : Option Break) → option_map (way_by rule list) o ≡ Some w → w.spot ≡ spot_of rule (list ++ w.stop ∷ [])
    by None e = cc
    by (Some b) e = let same : way_by rule list b ≡ w = cc in subst (λ (v : Way). v.spot ≡ spot_of rule (list ++ v.stop ∷ [])) same refl
