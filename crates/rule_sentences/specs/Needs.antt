-- The wanted employees of a day. Source: this project's profile.
use Rattle.std.specs.Prelude.{◌≡◌, ℕ, ◌*◌, ◌≤◌, List, sum, map}
use Rattle.std.specs.List.{range_with_len}
use Rattle.break_rules.specs.Lists.{Has}
use Rattle.shift_instance.specs.Problem.{Problem, day_slots, need_at, need_max_at}
use Rattle.rule_sentences.specs.declared.needs.DayNeed.{DayNeed}
use Rattle.rule_sentences.specs.declared.needs.NeedRange.{NeedRange}

-- the slots of a day, counted from 0
abbrev pub slots_on : Problem → ℕ → List ℕ
slots_on i day = range_with_len (day * day_slots i) (day_slots i)

-- the least and the greatest of some needs, and their sum
pub record IsRangeOf (needs : List ℕ) (d : NeedRange) : Type 0 where
  pub least : (n : ℕ) → Has needs n → d.least ≤ n
  pub some_least : Has needs d.least
  pub greatest : (n : ℕ) → Has needs n → n ≤ d.greatest
  pub some_greatest : Has needs d.greatest
  pub wanted : d.wanted ≡ sum needs

-- the range of the least numbers of wanted employees in a day's slots, and that of the greatest numbers
pub record IsNeedOn (i : Problem) (day : ℕ) (d : DayNeed) : Type 0 where
  pub need : IsRangeOf (map (need_at i) (slots_on i day)) d.need
  pub need_max : IsRangeOf (map (need_max_at i) (slots_on i day)) d.need_max
