-- Tables that are kept while the prices of slots and cuts change.
use Rattle.std.specs.Prelude.{◌≡◌, ◌⊎◌, ℕ, ◌<◌, ◌==◌, ◌&&◌, not, Bool, List, All, length, map, slice_index_or, Vec}
use Rattle.std.specs.List.{zip, list_any}
use Rattle.std.specs.declared.alloc.Global.{Global}
use Rattle.shift_instance.specs.Problem.{Problem, below, shift_list, slots}
use Rattle.head_splits.specs.declared.Cut.{Cut}
use Rattle.head_splits.specs.declared.Prices.{Prices}
use Rattle.head_splits.specs.Bound.{entries_of, is_nil}
use Rattle.pricing.specs.Tables.{MeanTheSame}
use Rattle.dual_bound.specs.declared.day_tables.DayTables.{DayTables}

-- whether some cut bounds duties of a shift that begin with some break
abbrev pub have_prefix : List Cut → ℕ → Bool
have_prefix cuts s = list_any (λ c. not (is_nil c.class.prefix) && (s == c.class.shift)) cuts

-- the shift and the day of tables
abbrev pub place_of : DayTables → ℕ × ℕ
place_of t = (t.shift, t.day)

-- tables of an instance, for its shift and day and for the entries beside them, at whatever prices
pub record IsKept (i : Problem) (t : DayTables) : Type 0 where
  pub inside : t.shift < length (shift_list i)
  pub instance : t.tables.instance ≡ i
  pub shift : t.tables.shift ≡ t.shift
  pub day : t.tables.day ≡ t.day
  pub count : length t.tables.prices ≡ slots i
  pub bonus : MeanTheSame t.tables.bonus t.entries.items

-- tables are at the prices of slots and cuts
pub record IsAt (cuts : List Cut) (prices : Prices) (t : DayTables) : Type 0 where
  pub slots : t.tables.prices ≡ prices.slots
  pub entries : t.entries.items ≡ entries_of (zip cuts prices.cuts) t.shift t.day

-- the tables of a shift, one for each of the first days
pub record AreKept (i : Problem) (s days : ℕ) (tables : List DayTables) : Type 0 where
  pub places : map place_of tables ≡ map (λ day. (s, day)) (below days)
  pub each : All (IsKept i) tables

-- the tables of a shift, on all days or on none
abbrev pub AreKeptOrNone : Problem → ℕ → List DayTables → Type 0
AreKeptOrNone i s tables = (days : ℕ) × ((days ≡ 0) ⊎ (days ≡ i.days)) × AreKept i s days tables

-- the tables of the first shifts, one shift after another
pub record AreKeptBelow (i : Problem) (shifts : ℕ) (all : List (Vec DayTables Global)) : Type 0 where
  pub count : length all ≡ shifts
  pub each : (s : ℕ) (d : Vec DayTables Global) → s < length all → AreKeptOrNone i s (slice_index_or all s d).items

-- the tables of all shifts
abbrev pub AreAllKept : Problem → List (Vec DayTables Global) → Type 0
AreAllKept i all = AreKeptBelow i (length (shift_list i)) all

-- the tables of a shift on all days, at the prices of slots and cuts
pub record AreTablesAt (i : Problem) (cuts : List Cut) (prices : Prices) (s : ℕ) (tables : List DayTables) : Type 0 where
  pub kept : AreKept i s i.days tables
  pub at : All (IsAt cuts prices) tables

-- the tables of the first shifts, at the prices of slots and cuts
pub record AreTablesBelow (i : Problem) (cuts : List Cut) (prices : Prices) (shifts : ℕ) (all : List (Vec DayTables Global)) : Type 0 where
  pub kept : AreKeptBelow i shifts all
  pub at : All (λ tables. All (IsAt cuts prices) tables.items) all

-- the tables of all shifts, at the prices of slots and cuts
abbrev pub AreAllTables : Problem → List Cut → Prices → List (Vec DayTables Global) → Type 0
AreAllTables i cuts prices all = AreTablesBelow i cuts prices (length (shift_list i)) all
