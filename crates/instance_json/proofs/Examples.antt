-- The definitions, computed where the answers are known.
use Rattle.instance_json.proofs.Common.{◌≡◌, [], ◌∷◌, map, refl, state_after, draw, need_of}

-- the first draws of 0
first_draws : map (draw 0) (1 ∷ 2 ∷ 3 ∷ []) ≡ 15470 ∷ 18256 ∷ 53708 ∷ []
unfolding state_after
first_draws = refl

-- the needs of the hours 5 to 8 of the first day, which the first three draws make
first_needs : map (need_of 0) (5 ∷ 6 ∷ 7 ∷ 8 ∷ []) ≡ 1 ∷ 4 ∷ 3 ∷ 4 ∷ []
unfolding state_after
first_needs = refl

-- the hours 21 and 22, and 5 and 6 of the next day: no hour of the night takes a draw
night_needs : map (need_of 0) (21 ∷ 22 ∷ 29 ∷ 30 ∷ []) ≡ 4 ∷ 1 ∷ 1 ∷ 3 ∷ []
unfolding state_after
night_needs = refl
