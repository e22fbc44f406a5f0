-- A legal plan that grows: its duties, how many of each shift stand on each day, and its rows.
use Rattle.std.specs.Prelude.{◌≡◌, ℕ, ◌+◌, ◌*◌, ◌<◌, ℤ, pos, ◌≤ℤ◌, ◌<ℤ◌, MatchOption, IsTrue, List, [], ◌∷◌, length, slice_index, Option, if◌then◌else◌}
use Rattle.shift_instance.specs.declared.Duty.{Duty}
use Rattle.shift_instance.specs.declared.Row.{Row}
use Rattle.shift_instance.specs.Problem.{Problem, shift_list}
use Rattle.shift_instance.specs.Rota.{same_duty, heads_on, is_legal_rota, duty_of, is_before}
use Rattle.shift_instance.specs.Valid.{IsValid}
use Rattle.rota_cost.specs.Cover.{Covering}
use Rattle.greedy.specs.Greedy.{rows_of, greedy_after, greedy_rota}
use Rattle.shift_instance.specs.AllDuties.{row_of}

-- the duties of a shift on a day, of numbers kept shift by shift with one for each day
abbrev pub heads_at : Problem → List ℕ → ℕ → ℕ → ℕ
heads_at i heads s day = slice_index heads (s * i.days + day)

-- the numbers and rows are those of the duties, which make a legal rota of a valid instance
pub record IsDraft (i : Problem) (cover : Covering) (heads : List ℕ) (rows : List Row) : Type 0 where
  pub valid : IsValid i
  pub instance : cover.instance ≡ i
  pub all_shifts : length heads ≡ length (shift_list i) * i.days
  pub headed : (s day : ℕ) → s < length (shift_list i) → day < i.days → heads_at i heads s day ≡ heads_on cover.duties s day
  pub legal : IsTrue (is_legal_rota i cover.duties)
  pub listed : rows ≡ rows_of i cover.duties

-- rows with one duty more: in its row, or in a new one before the first row that comes after it
abbrev pub with_one_more : Duty → List Row → List Row
with_one_more d [] = row_of d 1 ∷ []
with_one_more d (r ∷ rows) =
    if is_before r (row_of d 1) then r ∷ with_one_more d rows
    else if same_duty (duty_of r) d then row_of (duty_of r) (r.count + 1) ∷ rows
    else row_of d 1 ∷ r ∷ rows

-- from these duties that many more rounds lead to the greedy plan
abbrev pub LeadsToGreedy : Problem → ℕ → List Duty → Type 0
LeadsToGreedy i rounds rota = greedy_after i rounds rota ≡ greedy_rota i

-- of the numbers below k, the first of greatest value, where that is above 0, and the greatest value, or 0
pub record Leads (f : ℕ → ℤ) (k : ℕ) (best : Option ℕ) (top : ℤ) : Type 0 where
  pub some : pos 0 ≤ℤ top
  pub bounds : (j : ℕ) → j < k → f j ≤ℤ top
  pub first : MatchOption best (top ≡ pos 0) (λ b. (b < k) × (f b ≡ top) × (pos 0 <ℤ top) × ((j : ℕ) → j < b → f j <ℤ top))
