-- What the rows of parts give.
use Rattle.solve_words.proofs.Common.{◌≡◌, ◌∙◌, inl, inr, sym, ap, subst, refl, ℕ, ◌+◌, ◌≤◌, Bool, true, false, List, [], ◌∷◌, ◌++◌, codes, length, Option, Some, None, fold, arith, ◌||◌, count_by, find, if◌then◌else◌, is_some, option_and_then, slice_get, flat_map, option_to_list, bytes_eq, cases_Bool, cases_eq, false≢true, or_parts, true≢false, DefaultValue, first_of, has_row, more_values, one_of, reading_by, Row, row_text, Text, with_default, demo, digits_in, flag, Flag, is_flag, journal, local, number, path_in, Part, Setting, steps, table, thorough, turns, workers, Give, Given}
use Rattle.std.specs.Prelude.{cond}
use Rattle.std.proofs.lemmas.List.Recursion.{is_count_by}
use Rattle.solve_words.proofs.Rows.{at_none, bare_flag, bare_name, id_of, option_rules, wish_rule, row_for, rows_for, rule_for, setting_rule}
use Rattle.solve_words.proofs.Singles.{no_row, no_times, times, Single}

-- the first of some texts
abbrev pub head_of : List Text → Option Text
head_of [] = None
head_of (x ∷ xs) = Some x

head_list : (xs : List Text) → length xs ≤ 1 → xs ≡ option_to_list (head_of xs)
head_list [] few = refl
head_list (x ∷ []) few = refl
head_list (x ∷ y ∷ ys) few = absurd (omega arith)

-- ---- rows of parts

first_path : (parts : List Part) → first_of (codes "JOURNAL") (rows_for parts) ≡ head_of (flat_map path_in parts)
first_path [] = refl
first_path (journal path ∷ parts) = refl
first_path (number workers digits ∷ parts) = first_path parts
first_path (number steps digits ∷ parts) = first_path parts
first_path (number demo digits ∷ parts) = first_path parts
first_path (flag table ∷ parts) = first_path parts
first_path (flag local ∷ parts) = first_path parts
first_path (flag thorough ∷ parts) = first_path parts
first_path (flag turns ∷ parts) = first_path parts

first_digits : (setting : Setting) (parts : List Part) → first_of (bare_name setting) (rows_for parts) ≡ head_of (flat_map (digits_in setting) parts)
first_digits workers [] = refl
first_digits workers (journal path ∷ parts) = first_digits workers parts
first_digits workers (number workers digits ∷ parts) = refl
first_digits workers (number steps digits ∷ parts) = first_digits workers parts
first_digits workers (number demo digits ∷ parts) = first_digits workers parts
first_digits workers (flag table ∷ parts) = first_digits workers parts
first_digits workers (flag local ∷ parts) = first_digits workers parts
first_digits workers (flag thorough ∷ parts) = first_digits workers parts
first_digits workers (flag turns ∷ parts) = first_digits workers parts
first_digits steps [] = refl
first_digits steps (journal path ∷ parts) = first_digits steps parts
first_digits steps (number workers digits ∷ parts) = first_digits steps parts
first_digits steps (number steps digits ∷ parts) = refl
first_digits steps (number demo digits ∷ parts) = first_digits steps parts
first_digits steps (flag table ∷ parts) = first_digits steps parts
first_digits steps (flag local ∷ parts) = first_digits steps parts
first_digits steps (flag thorough ∷ parts) = first_digits steps parts
first_digits steps (flag turns ∷ parts) = first_digits steps parts
first_digits demo [] = refl
first_digits demo (journal path ∷ parts) = first_digits demo parts
first_digits demo (number workers digits ∷ parts) = first_digits demo parts
first_digits demo (number steps digits ∷ parts) = first_digits demo parts
first_digits demo (number demo digits ∷ parts) = refl
first_digits demo (flag table ∷ parts) = first_digits demo parts
first_digits demo (flag local ∷ parts) = first_digits demo parts
first_digits demo (flag thorough ∷ parts) = first_digits demo parts
first_digits demo (flag turns ∷ parts) = first_digits demo parts

-- how many parts there are of each kind
pub path_times : (parts : List Part) → length (flat_map path_in parts) ≡ times (codes "JOURNAL") parts
path_times [] = refl
path_times (journal path ∷ parts) = let rest = path_times parts in omega (arith, rest)
path_times (number workers digits ∷ parts) = path_times parts
path_times (number steps digits ∷ parts) = path_times parts
path_times (number demo digits ∷ parts) = path_times parts
path_times (flag table ∷ parts) = path_times parts
path_times (flag local ∷ parts) = path_times parts
path_times (flag thorough ∷ parts) = path_times parts
path_times (flag turns ∷ parts) = path_times parts

pub digit_times : (setting : Setting) (parts : List Part) → length (flat_map (digits_in setting) parts) ≡ times (bare_name setting) parts
digit_times workers [] = refl
digit_times workers (journal path ∷ parts) = digit_times workers parts
digit_times workers (number workers digits ∷ parts) = let rest = digit_times workers parts in omega (arith, rest)
digit_times workers (number steps digits ∷ parts) = digit_times workers parts
digit_times workers (number demo digits ∷ parts) = digit_times workers parts
digit_times workers (flag table ∷ parts) = digit_times workers parts
digit_times workers (flag local ∷ parts) = digit_times workers parts
digit_times workers (flag thorough ∷ parts) = digit_times workers parts
digit_times workers (flag turns ∷ parts) = digit_times workers parts
digit_times steps [] = refl
digit_times steps (journal path ∷ parts) = digit_times steps parts
digit_times steps (number workers digits ∷ parts) = digit_times steps parts
digit_times steps (number steps digits ∷ parts) = let rest = digit_times steps parts in omega (arith, rest)
digit_times steps (number demo digits ∷ parts) = digit_times steps parts
digit_times steps (flag table ∷ parts) = digit_times steps parts
digit_times steps (flag local ∷ parts) = digit_times steps parts
digit_times steps (flag thorough ∷ parts) = digit_times steps parts
digit_times steps (flag turns ∷ parts) = digit_times steps parts
digit_times demo [] = refl
digit_times demo (journal path ∷ parts) = digit_times demo parts
digit_times demo (number workers digits ∷ parts) = digit_times demo parts
digit_times demo (number steps digits ∷ parts) = digit_times demo parts
digit_times demo (number demo digits ∷ parts) = let rest = digit_times demo parts in omega (arith, rest)
digit_times demo (flag table ∷ parts) = digit_times demo parts
digit_times demo (flag local ∷ parts) = digit_times demo parts
digit_times demo (flag thorough ∷ parts) = digit_times demo parts
digit_times demo (flag turns ∷ parts) = digit_times demo parts

-- a part has the id of a flag where it is that flag
named_flag : (wish : Flag) (part : Part) → bytes_eq (id_of part) (bare_flag wish) ≡ is_flag wish part
named_flag table (journal path) = refl
named_flag table (number workers digits) = refl
named_flag table (number steps digits) = refl
named_flag table (number demo digits) = refl
named_flag table (flag table) = refl
named_flag table (flag local) = refl
named_flag table (flag thorough) = refl
named_flag table (flag turns) = refl
named_flag local (journal path) = refl
named_flag local (number workers digits) = refl
named_flag local (number steps digits) = refl
named_flag local (number demo digits) = refl
named_flag local (flag table) = refl
named_flag local (flag local) = refl
named_flag local (flag thorough) = refl
named_flag local (flag turns) = refl
named_flag thorough (journal path) = refl
named_flag thorough (number workers digits) = refl
named_flag thorough (number steps digits) = refl
named_flag thorough (number demo digits) = refl
named_flag thorough (flag table) = refl
named_flag thorough (flag local) = refl
named_flag thorough (flag thorough) = refl
named_flag thorough (flag turns) = refl
named_flag turns (journal path) = refl
named_flag turns (number workers digits) = refl
named_flag turns (number steps digits) = refl
named_flag turns (number demo digits) = refl
named_flag turns (flag table) = refl
named_flag turns (flag local) = refl
named_flag turns (flag thorough) = refl
named_flag turns (flag turns) = refl

flag_step : (wish : Flag) (part : Part) (parts : List Part) → times (bare_flag wish) (part ∷ parts) ≡ cond (is_flag wish part) (1 + times (bare_flag wish) parts) (times (bare_flag wish) parts)
flag_step wish part parts = ap (λ (b : Bool). cond b (1 + times (bare_flag wish) parts) (times (bare_flag wish) parts)) (named_flag wish part)

pub flag_times : (wish : Flag) (parts : List Part) → count_by (is_flag wish) parts ≡ times (bare_flag wish) parts
flag_times wish parts = sym (is_count_by (times (bare_flag wish)) (is_flag wish) refl (flag_step wish) parts)

-- ---- what the rows say

abbrev pub is_wished : Option Text → Bool
is_wished None = false
is_wished (Some text) = bytes_eq text (codes "true")

-- what rows say, of which the last may be those of flags that aren't there
abbrev pub said_by : List Row → Given
said_by rows = record {
  journal = first_of (codes "JOURNAL") rows;
  workers = first_of (codes "workers") rows;
  steps = first_of (codes "steps") rows;
  demo = first_of (codes "demo") rows;
  table = is_wished (one_of (codes "table") rows);
  local = is_wished (one_of (codes "local") rows);
  thorough = is_wished (one_of (codes "thorough") rows);
  turns = is_wished (one_of (codes "turns") rows);
}

-- ---- the first row of an id

abbrev row_at : Text → List Row → Option Row
row_at id rows = find (λ r. bytes_eq r.id id) rows

-- a row of another id behind the others changes nothing
row_behind : (id : Text) (row : Row) → bytes_eq row.id id ≡ false → (rows : List Row) → row_at id (rows ++ row ∷ []) ≡ row_at id rows
row_behind id row other [] = rw other refl
row_behind id row other (r ∷ rs) = let rest = row_behind id row other rs in elim (bytes_eq r.id id) as (λ b. cond b (Some r) (row_at id (rs ++ row ∷ [])) ≡ cond b (Some r) (row_at id rs)) [
  | true ↦ refl
  | false ↦ rest
]

-- one of an id that has none yet is its first
row_last : (id : Text) (row : Row) → bytes_eq row.id id ≡ true → (rows : List Row) → has_row id rows ≡ false → row_at id (rows ++ row ∷ []) ≡ Some row
row_last id row own [] none = rw own refl
row_last id row own (r ∷ rs) none =
    let e = or_parts (bytes_eq r.id id) (has_row id rs) none in
    rw e.0 (row_last id row own rs e.1)

row_there : (id : Text) (rows : List Row) → has_row id rows ≡ is_some (row_at id rows)
row_there id [] = refl
row_there id (r ∷ rs) = let rest = row_there id rs in elim (bytes_eq r.id id) as (λ b. (b || has_row id rs) ≡ is_some (cond b (Some r) (row_at id rs))) [
  | true ↦ refl
  | false ↦ rest
]

-- ---- the row of a flag that isn't there

abbrev unwished : Flag → Row
unwished wish = record { id = bare_flag wish; values = codes "false" ∷ []; count = None; source = Some DefaultValue; reading = reading_by (wish_rule wish) }

kept : (wish : Flag) (rows : List Row) → has_row (bare_flag wish) rows ≡ true → with_default rows (wish_rule wish) ≡ rows
kept wish rows some = rw some refl

defaulted : (wish : Flag) (rows : List Row) → has_row (bare_flag wish) rows ≡ false → with_default rows (wish_rule wish) ≡ rows ++ unwished wish ∷ []
defaulted wish rows none = rw none (at_none (bare_flag wish) (more_values DefaultValue (codes "false" ∷ [])) (unwished wish ∷ []) rows none)

-- it is read for its id alone
other_default : (wish : Flag) (id : Text) → bytes_eq (bare_flag wish) id ≡ false → (rows : List Row) → row_at id (with_default rows (wish_rule wish)) ≡ row_at id rows
other_default wish id other rows = elim (cases_Bool (has_row (bare_flag wish) rows)) [
  | inl e ↦ ap (row_at id) (kept wish rows e)
  | inr e ↦ ap (row_at id) (defaulted wish rows e) ∙ row_behind id (unwished wish) other rows
]

abbrev pub wish_text : Bool → Text
wish_text true = codes "true"
wish_text false = codes "false"

own_id : (wish : Flag) → bytes_eq (bare_flag wish) (bare_flag wish) ≡ true
own_id table = refl
own_id local = refl
own_id thorough = refl
own_id turns = refl

-- where every row of the flag says so, its row says whether there was one
own_default : (wish : Flag) (rows : List Row) → (has_row (bare_flag wish) rows ≡ true → one_of (bare_flag wish) rows ≡ Some (codes "true"))
    → one_of (bare_flag wish) (with_default rows (wish_rule wish)) ≡ Some (wish_text (has_row (bare_flag wish) rows))
own_default wish rows says = elim (cases_Bool (has_row (bare_flag wish) rows)) [
  | inl e ↦ ap (one_of (bare_flag wish)) (kept wish rows e) ∙ says e ∙ ap (λ (b : Bool). Some (wish_text b)) (sym e)
  | inr e ↦
      ap (one_of (bare_flag wish)) (defaulted wish rows e)
      ∙ ap (option_and_then row_text) (row_last (bare_flag wish) (unwished wish) (own_id wish) rows e)
      ∙ ap (λ (b : Bool). Some (wish_text b)) (sym e)
]

-- the rows of parts say so
flag_row : (wish : Flag) (part : Part) → is_flag wish part ≡ true → row_text (row_for part) ≡ Some (codes "true")
flag_row wish (journal path) e = absurd (false≢true e)
flag_row wish (number setting digits) e = absurd (false≢true e)
flag_row wish (flag other) e = refl

wished_row : (wish : Flag) (parts : List Part) → has_row (bare_flag wish) (rows_for parts) ≡ true → one_of (bare_flag wish) (rows_for parts) ≡ Some (codes "true")
wished_row wish [] e = absurd (false≢true e)
wished_row wish (part ∷ parts) e = elim (cases_Bool (bytes_eq (id_of part) (bare_flag wish))) [
  | inl is ↦ rw is (flag_row wish part (sym (named_flag wish part) ∙ is))
  | inr not ↦ rw not (wished_row wish parts (rw not at e))
]

-- ---- the rows at the end

-- no other option has a default
path_default : (rows : List Row) → with_default rows (rule_for (journal [])) ≡ rows
path_default rows = elim (has_row (codes "JOURNAL") rows) as (λ b. (if b then rows else rows) ≡ rows) [ true ↦ refl | false ↦ refl ]

setting_default : (setting : Setting) (rows : List Row) → with_default rows (setting_rule setting) ≡ rows
setting_default workers rows = elim (has_row (codes "workers") rows) as (λ b. (if b then rows else rows) ≡ rows) [ true ↦ refl | false ↦ refl ]
setting_default steps rows = elim (has_row (codes "steps") rows) as (λ b. (if b then rows else rows) ≡ rows) [ true ↦ refl | false ↦ refl ]
setting_default demo rows = elim (has_row (codes "demo") rows) as (λ b. (if b then rows else rows) ≡ rows) [ true ↦ refl | false ↦ refl ]

abbrev with_table : List Row → List Row
with_table rows = with_default rows (wish_rule table)

abbrev with_local : List Row → List Row
with_local rows = with_default (with_table rows) (wish_rule local)

abbrev with_thorough : List Row → List Row
with_thorough rows = with_default (with_local rows) (wish_rule thorough)

abbrev with_flags : List Row → List Row
with_flags rows = with_default (with_thorough rows) (wish_rule turns)

finished_is : (rows : List Row) → fold with_default rows option_rules ≡ with_flags rows
finished_is rows =
    ap (λ (r : List Row). with_flags (with_default (with_default (with_default r (setting_rule workers)) (setting_rule steps)) (setting_rule demo))) (path_default rows)
    ∙ ap (λ (r : List Row). with_flags (with_default (with_default r (setting_rule steps)) (setting_rule demo))) (setting_default workers rows)
    ∙ ap (λ (r : List Row). with_flags (with_default r (setting_rule demo))) (setting_default steps rows)
    ∙ ap with_flags (setting_default demo rows)

other_first : (id : Text) → ((wish : Flag) → bytes_eq (bare_flag wish) id ≡ false) → (rows : List Row) → first_of id (fold with_default rows option_rules) ≡ first_of id rows
other_first id other rows =
    ap (first_of id) (finished_is rows)
    ∙ ap (option_and_then (λ (r : Row). slice_get r.values 0))
    (other_default turns id (other turns) (with_thorough rows) ∙ other_default thorough id (other thorough) (with_local rows) ∙ other_default local id (other local) (with_table rows) ∙ other_default table id (other table) rows)

-- what the row of a flag says behind others, of whatever parts
own_behind : (wish : Flag) (parts : List Part) (rows : List Row) → row_at (bare_flag wish) rows ≡ row_at (bare_flag wish) (rows_for parts)
    → one_of (bare_flag wish) (with_default rows (wish_rule wish)) ≡ Some (wish_text (has_row (bare_flag wish) (rows_for parts)))
own_behind wish parts rows same =
    let has : has_row (bare_flag wish) rows ≡ has_row (bare_flag wish) (rows_for parts) = row_there (bare_flag wish) rows ∙ ap is_some same ∙ sym (row_there (bare_flag wish) (rows_for parts)) in
    own_default wish rows (λ e. ap (option_and_then row_text) same ∙ wished_row wish parts (sym has ∙ e))
    ∙ ap (λ (b : Bool). Some (wish_text b)) has

-- and at the end
pub flag_text : (wish : Flag) (parts : List Part) → one_of (bare_flag wish) (fold with_default (rows_for parts) option_rules) ≡ Some (wish_text (has_row (bare_flag wish) (rows_for parts)))
flag_text table parts =
    let rows = rows_for parts in
    ap (one_of (codes "table")) (finished_is rows)
    ∙ ap (option_and_then row_text) (other_default turns (codes "table") refl (with_thorough rows) ∙ other_default thorough (codes "table") refl (with_local rows) ∙ other_default local (codes "table") refl (with_table rows))
    ∙ own_behind table parts rows refl
flag_text local parts =
    let rows = rows_for parts in
    ap (one_of (codes "local")) (finished_is rows)
    ∙ ap (option_and_then row_text) (other_default turns (codes "local") refl (with_thorough rows) ∙ other_default thorough (codes "local") refl (with_local rows))
    ∙ own_behind local parts (with_table rows) (other_default table (codes "local") refl rows)
flag_text thorough parts =
    let rows = rows_for parts in
    ap (one_of (codes "thorough")) (finished_is rows)
    ∙ ap (option_and_then row_text) (other_default turns (codes "thorough") refl (with_thorough rows))
    ∙ own_behind thorough parts (with_local rows) (other_default local (codes "thorough") refl (with_table rows) ∙ other_default table (codes "thorough") refl rows)
flag_text turns parts =
    let rows = rows_for parts in
    ap (one_of (codes "turns")) (finished_is rows)
    ∙ own_behind turns parts (with_thorough rows) (other_default thorough (codes "turns") refl (with_local rows) ∙ other_default local (codes "turns") refl (with_table rows) ∙ other_default table (codes "turns") refl rows)

-- ---- the first of each kind, and which flags there are

abbrev pub heads : List Part → Given
heads parts = record {
  journal = head_of (flat_map path_in parts);
  workers = head_of (flat_map (digits_in workers) parts);
  steps = head_of (flat_map (digits_in steps) parts);
  demo = head_of (flat_map (digits_in demo) parts);
  table = has_row (codes "table") (rows_for parts);
  local = has_row (codes "local") (rows_for parts);
  thorough = has_row (codes "thorough") (rows_for parts);
  turns = has_row (codes "turns") (rows_for parts);
}

pub same_given : (a b : Given) → a.journal ≡ b.journal → a.workers ≡ b.workers → a.steps ≡ b.steps → a.demo ≡ b.demo → a.table ≡ b.table → a.local ≡ b.local → a.thorough ≡ b.thorough → a.turns ≡ b.turns → a ≡ b
same_given a b j w s d t l h u =
    ap (λ x. record a { journal = x }) j
    ∙ ap (λ x. record a { journal = b.journal; workers = x }) w
    ∙ ap (λ x. record a { journal = b.journal; workers = b.workers; steps = x }) s
    ∙ ap (λ x. record a { journal = b.journal; workers = b.workers; steps = b.steps; demo = x }) d
    ∙ ap (λ x. record b { table = x; local = a.local; thorough = a.thorough; turns = a.turns }) t
    ∙ ap (λ x. record b { local = x; thorough = a.thorough; turns = a.turns }) l
    ∙ ap (λ x. record b { thorough = x; turns = a.turns }) h
    ∙ ap (λ x. record b { turns = x }) u

wish_said : (b : Bool) → is_wished (Some (wish_text b)) ≡ b
wish_said true = refl
wish_said false = refl

-- no flag has the id of a path, nor that of an option with a number
path_apart : (wish : Flag) → bytes_eq (bare_flag wish) (codes "JOURNAL") ≡ false
path_apart table = refl
path_apart local = refl
path_apart thorough = refl
path_apart turns = refl

number_apart : (setting : Setting) (wish : Flag) → bytes_eq (bare_flag wish) (bare_name setting) ≡ false
number_apart workers table = refl
number_apart workers local = refl
number_apart workers thorough = refl
number_apart workers turns = refl
number_apart steps table = refl
number_apart steps local = refl
number_apart steps thorough = refl
number_apart steps turns = refl
number_apart demo table = refl
number_apart demo local = refl
number_apart demo thorough = refl
number_apart demo turns = refl

finished_said : (parts : List Part) → said_by (fold with_default (rows_for parts) option_rules) ≡ heads parts
finished_said parts = same_given (said_by (fold with_default (rows_for parts) option_rules)) (heads parts)
    (other_first (codes "JOURNAL") path_apart (rows_for parts) ∙ first_path parts)
    (other_first (codes "workers") (number_apart workers) (rows_for parts) ∙ first_digits workers parts)
    (other_first (codes "steps") (number_apart steps) (rows_for parts) ∙ first_digits steps parts)
    (other_first (codes "demo") (number_apart demo) (rows_for parts) ∙ first_digits demo parts)
    (ap is_wished (flag_text table parts) ∙ wish_said (has_row (codes "table") (rows_for parts)))
    (ap is_wished (flag_text local parts) ∙ wish_said (has_row (codes "local") (rows_for parts)))
    (ap is_wished (flag_text thorough parts) ∙ wish_said (has_row (codes "thorough") (rows_for parts)))
    (ap is_wished (flag_text turns parts) ∙ wish_said (has_row (codes "turns") (rows_for parts)))

head_option : (o : Option Text) → head_of (option_to_list o) ≡ o
head_option None = refl
head_option (Some x) = refl

-- one flag, or none
wish_count : (b : Bool) (n : ℕ) → n ≤ 1 → (b ≡ false → n ≡ 0) → (n ≡ 0 → b ≡ false) → n ≡ (if b then 1 else 0)
wish_count true n few none some = elim (cases_eq n 0) [ inl e ↦ absurd (true≢false (some e)) | inr ne ↦ omega (arith, few, ne) ]
wish_count false n few none some = none refl

wish_same : (b t : Bool) (n : ℕ) → (b ≡ false → n ≡ 0) → (n ≡ 0 → b ≡ false) → n ≡ (if t then 1 else 0) → b ≡ t
wish_same true true n none some e = refl
wish_same false false n none some e = refl
wish_same true false n none some e = some e
wish_same false true n none some e = let zero_n : n ≡ 0 = none refl in absurd (omega (arith, zero_n, e))

flag_given : (wish : Flag) (parts : List Part) (given : Bool) → count_by (is_flag wish) parts ≡ (if given then 1 else 0) → has_row (bare_flag wish) (rows_for parts) ≡ given
flag_given wish parts given e =
    wish_same (has_row (bare_flag wish) (rows_for parts)) given (times (bare_flag wish) parts) (no_times (bare_flag wish) parts) (no_row (bare_flag wish) parts) (sym (flag_times wish parts) ∙ e)

-- parts that give something give what their rows say
pub rows_said : (parts : List Part) (given : Given) → Give parts given → said_by (fold with_default (rows_for parts) option_rules) ≡ given
rows_said parts given give =
    finished_said parts ∙ same_given (heads parts) given
    (ap head_of give.of_journal ∙ head_option given.journal)
    (ap head_of give.of_workers ∙ head_option given.workers)
    (ap head_of give.of_steps ∙ head_option given.steps)
    (ap head_of give.of_demo ∙ head_option given.demo)
    (flag_given table parts given.table give.of_table)
    (flag_given local parts given.local give.of_local)
    (flag_given thorough parts given.thorough give.of_thorough)
    (flag_given turns parts given.turns give.of_turns)

flag_single : (wish : Flag) (parts : List Part) → Single parts → count_by (is_flag wish) parts ≡ (if has_row (bare_flag wish) (rows_for parts) then 1 else 0)
flag_single wish parts single =
    flag_times wish parts
    ∙ wish_count (has_row (bare_flag wish) (rows_for parts)) (times (bare_flag wish) parts) (single (bare_flag wish)) (no_times (bare_flag wish) parts) (no_row (bare_flag wish) parts)

-- parts of which each kind stands at most once give what their rows say
pub rows_give : (parts : List Part) → Single parts → Give parts (said_by (fold with_default (rows_for parts) option_rules))
rows_give parts single = subst (Give parts) (sym (finished_said parts)) (record {
  of_journal = head_list (flat_map path_in parts) (let few = single (codes "JOURNAL") in let n = path_times parts in omega (arith, few, n));
  of_workers = head_list (flat_map (digits_in workers) parts) (let few = single (codes "workers") in let n = digit_times workers parts in omega (arith, few, n));
  of_steps = head_list (flat_map (digits_in steps) parts) (let few = single (codes "steps") in let n = digit_times steps parts in omega (arith, few, n));
  of_demo = head_list (flat_map (digits_in demo) parts) (let few = single (codes "demo") in let n = digit_times demo parts in omega (arith, few, n));
  of_table = flag_single table parts single;
  of_local = flag_single local parts single;
  of_thorough = flag_single thorough parts single;
  of_turns = flag_single turns parts single;
})
