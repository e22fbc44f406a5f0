-- How uneven a plan is, and when other breaks make it more even. Source: this project's profile.
use Rattle.std.specs.Prelude.{◌≡◌, ℕ, ◌+◌, ◌-◌, ◌*◌, ◌<◌, ◌≤◌, List, sum_by}
use Rattle.shift_instance.specs.declared.Duty.{Duty}
use Rattle.shift_instance.specs.Problem.{Problem, slots, need_at, need_max_at, below}
use Rattle.shift_instance.specs.Rota.{cost, cover, heads_on, rota_of}
use Rattle.local_moves.specs.Drafting.{Drafting}

-- how far a number of duties is from the band of a slot, and its square
abbrev pub distance_from_band : Problem → ℕ → ℕ → ℕ
distance_from_band i t c = (c - need_max_at i t) + (need_at i t - c)

abbrev pub squared_distance : Problem → ℕ → ℕ → ℕ
squared_distance i t c = distance_from_band i t c * distance_from_band i t c

-- how uneven a plan is: over all slots, the square of how far the duties that work in a slot are from its band
abbrev pub unevenness : Problem → List Duty → ℕ
unevenness i rota = sum_by (λ t. squared_distance i t (cover i rota t)) (below (slots i))

-- a plan that is more even than another, costs no more, and has as many duties of each shift on each day
pub record IsEvener (i : Problem) (old new : List Duty) : Type 0 where
  pub cheap : cost i new ≤ cost i old
  pub evener : unevenness i new < unevenness i old
  pub heads : (s day : ℕ) → heads_on new s day ≡ heads_on old s day

-- a plan after as many moves as a number fell by, each of which made it more even and no dearer
pub record IsEvenedBy (i : Problem) (old new : Drafting) (start left : ℕ) : Type 0 where
  pub instance : new.instance ≡ old.instance
  pub cheap : cost i (rota_of new.rows) ≤ cost i (rota_of old.rows)
  pub evener : unevenness i (rota_of new.rows) + start ≤ unevenness i (rota_of old.rows) + left
  pub heads : (s day : ℕ) → heads_on (rota_of new.rows) s day ≡ heads_on (rota_of old.rows) s day
  pub down : left ≤ start
