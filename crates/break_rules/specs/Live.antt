-- Which spots lead on to a legal list of breaks.
use Rattle.std.specs.Prelude.{◌≡◌, ℕ, ◌+◌, ◌-◌, ◌*◌, ◌<◌, Bool, false, IsTrue, List, slice_index_or}
use Rattle.break_rules.specs.declared.Break.{Break}
use Rattle.break_rules.specs.declared.Rule.{Rule}
use Rattle.break_rules.specs.declared.Spot.{Spot}
use Rattle.break_rules.specs.Breaks.{is_legal, is_less_list, is_live}
use Rattle.break_rules.specs.Walk.{spot_of, is_walk}

-- a rule, and the length of the shifts that are meant
pub record Setting : Type 0 where
  pub rule : Rule
  pub len : ℕ

-- the place of a spot in a table: those of later offsets first
abbrev pub place_of : ℕ → Spot → ℕ
place_of len spot = (len - spot.offset) * 256 + spot.used * 4 + spot.lunches

-- for each walk whose spot has a place before a number, whether some legal list begins with it
abbrev pub AreKnown : Rule → ℕ → ℕ → List Bool → Type 0
AreKnown rule len before table =
    (list : List Break) → IsTrue (is_walk rule len list) → place_of len (spot_of rule list) < before
    → slice_index_or table (place_of len (spot_of rule list)) false ≡ is_live rule len list

-- for each walk, whether some legal list begins with it
abbrev pub AreLive : Rule → ℕ → List Bool → Type 0
AreLive rule len table = AreKnown rule len (256 * (len + 1)) table

-- a legal list, with no legal list less than it
pub record IsLeastLegal (rule : Rule) (len : ℕ) (list : List Break) : Type 0 where
  pub legal : IsTrue (is_legal rule len list)
  pub least : (other : List Break) → IsTrue (is_legal rule len other) → is_less_list other list ≡ false
