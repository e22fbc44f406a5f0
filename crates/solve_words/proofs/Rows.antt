-- What the parser keeps of parts: a row for each.
use Rattle.solve_words.proofs.Common.{◌≡◌, ◌∙◌, sym, ap, refl, Bool, true, false, List, [], ◌∷◌, ◌++◌, map, codes, Option, Some, None, not, if◌then◌else◌, option_to_list, bytes_eq, false≢true, or_parts, append-nil, map-append, CommandLine, settle_fault, use_fault, Kinds, or_else, built, filled, Shape, with_index, at_row, has_row, Held, more_values, reading_by, Row, Rule, settled, Text, used, with_values, without, new_rule, flag_rule, option_rule, options_app, demo, flag, Flag, journal, local, number, Part, Setting, steps, table, thorough, turns, workers}
use Rattle.std.specs.Prelude.{◌&&◌}
use Rattle.clap.specs.declared.error.kind.ErrorKind.TheVariants as kind
use Rattle.clap.specs.declared.builder.value_parser.Reading.{Reading}

-- ---- the options

abbrev pub shape : Shape
shape = (built options_app).top

abbrev pub option_rules : List Rule
option_rules = shape.rules

abbrev pub bare_name : Setting → Text
bare_name workers = codes "workers"
bare_name steps = codes "steps"
bare_name demo = codes "demo"

abbrev pub setting_rule : Setting → Rule
setting_rule workers = with_index 2 (filled (option_rule (codes "workers")))
setting_rule steps = with_index 2 (filled (option_rule (codes "steps")))
setting_rule demo = with_index 2 (filled (option_rule (codes "demo")))

abbrev pub bare_flag : Flag → Text
bare_flag table = codes "table"
bare_flag local = codes "local"
bare_flag thorough = codes "thorough"
bare_flag turns = codes "turns"

-- the option of a flag
abbrev pub wish_rule : Flag → Rule
wish_rule wish = with_index 2 (filled (flag_rule (bare_flag wish)))

-- a part's option, its id, the values that its use gives, and those that are kept
abbrev pub rule_for : Part → Rule
rule_for (journal path) = with_index 1 (filled (new_rule (codes "JOURNAL")))
rule_for (number setting digits) = setting_rule setting
rule_for (flag wish) = wish_rule wish

abbrev pub id_of : Part → Text
id_of (journal path) = codes "JOURNAL"
id_of (number setting digits) = bare_name setting
id_of (flag wish) = bare_flag wish

abbrev pub given_by : Part → List Text
given_by (journal path) = path ∷ []
given_by (number setting digits) = digits ∷ []
given_by (flag wish) = []

abbrev pub kept_of : Part → List Text
kept_of (journal path) = path ∷ []
kept_of (number setting digits) = digits ∷ []
kept_of (flag wish) = codes "true" ∷ []

abbrev pub row_for : Part → Row
row_for part = record { id = id_of part; values = kept_of part; count = None; source = Some CommandLine; reading = reading_by (rule_for part) }

abbrev pub rows_for : List Part → List Row
rows_for = map row_for

-- ---- a use of an option that has no row yet

pub at_none : (id : Text) (change : Row → List Row) (missing rows : List Row) → has_row id rows ≡ false → at_row id change missing rows ≡ rows ++ missing
at_none id change missing [] none = refl
at_none id change missing (r ∷ rs) none =
    let e = or_parts (bytes_eq r.id id) (has_row id rs) none in
    rw e.0 (ap (λ (l : List Row). r ∷ l) (at_none id change missing rs e.1))

with_fresh : (id : Text) (how : Reading) (values : List Text) (rows : List Row) → has_row id rows ≡ false
    → with_values id how CommandLine values (without id rows) ≡ rows ++ record { id = id; values = values; count = None; source = Some CommandLine; reading = how } ∷ []
with_fresh id how values rows none =
    let row : Row = record { id = id; values = values; count = None; source = Some CommandLine; reading = how } in
    let same : without id rows ≡ rows = at_none id (λ _. []) [] rows none ∙ append-nil rows in
    ap (λ (l : List Row). with_values id how CommandLine values l) same ∙ at_none id (more_values CommandLine values) (row ∷ []) rows none

pub used_fresh : (part : Part) (rows : List Row) → has_row (id_of part) rows ≡ false → used (rule_for part) (given_by part) rows ≡ rows ++ row_for part ∷ []
used_fresh (journal path) rows none = with_fresh (codes "JOURNAL") (reading_by (rule_for (journal path))) (path ∷ []) rows none
used_fresh (number workers digits) rows none = with_fresh (codes "workers") (reading_by (setting_rule workers)) (digits ∷ []) rows none
used_fresh (number steps digits) rows none = with_fresh (codes "steps") (reading_by (setting_rule steps)) (digits ∷ []) rows none
used_fresh (number demo digits) rows none = with_fresh (codes "demo") (reading_by (setting_rule demo)) (digits ∷ []) rows none
used_fresh (flag wish) rows none = with_fresh (bare_flag wish) (reading_by (wish_rule wish)) (codes "true" ∷ []) rows none

-- whether its id has a row is all that a use of a part is refused for
pub use_fresh : (part : Part) (rows : List Row) → has_row (id_of part) rows ≡ false → use_fault false (rule_for part) (given_by part) rows ≡ []
use_fresh (journal path) rows none = rw none refl
use_fresh (number workers digits) rows none = rw none refl
use_fresh (number steps digits) rows none = rw none refl
use_fresh (number demo digits) rows none = rw none refl
use_fresh (flag wish) rows none = rw none refl

abbrev is_nil : Kinds → Bool
is_nil [] = true
is_nil (k ∷ ks) = false

repeat_none : (b : Bool) (rest : Kinds) → or_else (if b && not false then kind.ArgumentConflict ∷ [] else []) rest ≡ [] → b ≡ false
repeat_none true rest e = absurd (false≢true (ap is_nil e))
repeat_none false rest e = refl

pub use_new : (part : Part) (rows : List Row) → use_fault false (rule_for part) (given_by part) rows ≡ [] → has_row (id_of part) rows ≡ false
use_new (journal path) rows e = repeat_none (has_row (codes "JOURNAL") rows) [] e
use_new (number workers digits) rows e = repeat_none (has_row (codes "workers") rows) [] e
use_new (number steps digits) rows e = repeat_none (has_row (codes "steps") rows) [] e
use_new (number demo digits) rows e = repeat_none (has_row (codes "demo") rows) [] e
use_new (flag wish) rows e = repeat_none (has_row (bare_flag wish) rows) [] e

-- ---- what is held between words: rows of the parts so far, and maybe the last part, which has no row yet

abbrev pub waits_for_row : Part → Bool
waits_for_row (journal path) = true
waits_for_row (number setting digits) = true
waits_for_row (flag wish) = false

abbrev pub pending_for : Option Part → Option (Text × List Text)
pending_for None = None
pending_for (Some part) = Some (id_of part, given_by part)

abbrev pub held_at : List Part → Option Part → Held
held_at before last = record { rows = rows_for before; pending = pending_for last; skip = 0 }

abbrev pub MayWait : Option Part → Type 0
MayWait None = Unit {0}
MayWait (Some part) = waits_for_row part ≡ true

-- its last part has no row among those of the others
abbrev pub IsNewLast : List Part → Option Part → Type 0
IsNewLast before None = Unit {0}
IsNewLast before (Some part) = has_row (id_of part) (rows_for before) ≡ false

pub settle_new : (before : List Part) (last : Option Part) → MayWait last → settle_fault option_rules false (held_at before last) ≡ [] → IsNewLast before last
settle_new before None may e = tt
settle_new before (Some (journal path)) may e = use_new (journal path) (rows_for before) e
settle_new before (Some (number workers digits)) may e = use_new (number workers digits) (rows_for before) e
settle_new before (Some (number steps digits)) may e = use_new (number steps digits) (rows_for before) e
settle_new before (Some (number demo digits)) may e = use_new (number demo digits) (rows_for before) e
settle_new before (Some (flag wish)) may e = absurd (false≢true may)

pub settle_passes : (before : List Part) (last : Option Part) → MayWait last → IsNewLast before last → settle_fault option_rules false (held_at before last) ≡ []
settle_passes before None may new = refl
settle_passes before (Some (journal path)) may new = use_fresh (journal path) (rows_for before) new
settle_passes before (Some (number workers digits)) may new = use_fresh (number workers digits) (rows_for before) new
settle_passes before (Some (number steps digits)) may new = use_fresh (number steps digits) (rows_for before) new
settle_passes before (Some (number demo digits)) may new = use_fresh (number demo digits) (rows_for before) new
settle_passes before (Some (flag wish)) may new = absurd (false≢true may)

pub row_more : (before : List Part) (part : Part) → has_row (id_of part) (rows_for before) ≡ false → used (rule_for part) (given_by part) (rows_for before) ≡ rows_for (before ++ part ∷ [])
row_more before part new = used_fresh part (rows_for before) new ∙ sym (map-append row_for before (part ∷ []))

-- a last part gets its row
pub settled_at : (before : List Part) (last : Option Part) → MayWait last → IsNewLast before last → settled option_rules (held_at before last) ≡ held_at (before ++ option_to_list last) None
settled_at before None may new = ap (λ (l : List Part). held_at l None) (sym (append-nil before))
settled_at before (Some (journal path)) may new = ap (λ (rows : List Row). record { rows = rows; pending = None; skip = 0 }) (row_more before (journal path) new)
settled_at before (Some (number workers digits)) may new = ap (λ (rows : List Row). record { rows = rows; pending = None; skip = 0 }) (row_more before (number workers digits) new)
settled_at before (Some (number steps digits)) may new = ap (λ (rows : List Row). record { rows = rows; pending = None; skip = 0 }) (row_more before (number steps digits) new)
settled_at before (Some (number demo digits)) may new = ap (λ (rows : List Row). record { rows = rows; pending = None; skip = 0 }) (row_more before (number demo digits) new)
settled_at before (Some (flag wish)) may new = absurd (false≢true may)
