-- What a move changed: how often each of some duties stood in a plan before and after it. Source: this project's profile.
use Rattle.std.specs.Prelude.{◌≡◌, ℕ, ◌+◌, ◌≤◌, Bool, true, false, not, ◌&&◌, List, [], ◌∷◌, ◌++◌, IsTrue, if◌then◌else◌}
use Rattle.std.specs.List.{list_any}
use Rattle.break_rules.specs.Lists.{Has}
use Rattle.shift_instance.specs.declared.Duty.{Duty}
use Rattle.shift_instance.specs.Rota.{same_duty, count_of}
use Rattle.local_moves.specs.declared.changes.Change.{Change}

-- whether a duty is among those that changed
abbrev pub is_place : List Change → Duty → Bool
is_place changes d = list_any (λ c. same_duty c.duty d) changes

-- whether each duty stands once among those that changed
abbrev pub are_distinct : List Change → Bool
are_distinct [] = true
are_distinct (c ∷ cs) = not (is_place cs c.duty) && are_distinct cs

-- the changes lead from a plan to another: each duty among them stands in the plans as often as they say, and every other one equally often
pub record IsDone (old new : List Duty) (changes : List Change) : Type 0 where
  pub distinct : IsTrue (are_distinct changes)
  pub before : (c : Change) → Has changes c → count_of old c.duty ≡ c.old
  pub after : (c : Change) → Has changes c → count_of new c.duty ≡ c.new
  pub rest : (d : Duty) → is_place changes d ≡ false → count_of new d ≡ count_of old d

-- the changes are those by duties that went and duties that came
pub record IsTied (changes : List Change) (gone made : List Duty) : Type 0 where
  pub distinct : IsTrue (are_distinct changes)
  pub balance : (c : Change) → Has changes c → c.new + count_of gone c.duty ≡ c.old + count_of made c.duty
  pub there : (c : Change) → Has changes c → count_of gone c.duty ≤ c.old
  pub rest : (d : Duty) → is_place changes d ≡ false → (count_of gone d ≡ 0) × (count_of made d ≡ 0)

-- changes with one duty more, unless it is among them, by how often it stands in a plan
abbrev pub with_place : List Duty → List Change → Duty → List Change
with_place old changes d = if is_place changes d then changes else changes ++ record { duty = d; old = count_of old d; new = 0 } ∷ []

-- changes with more duties
abbrev pub with_places : List Duty → List Change → List Duty → List Change
with_places old changes [] = changes
with_places old changes (d ∷ ds) = with_places old (with_place old changes d) ds

-- a change with how often its duty stands in a plan afterwards
abbrev pub completed : List Duty → Change → Change
completed new c = record { duty = c.duty; old = c.old; new = count_of new c.duty }
