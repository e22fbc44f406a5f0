-- Which words the parser takes for flags, and what it makes of the others.
use Rattle.solve_words.proofs.Common.{◌≡◌, ◌∙◌, sym, ap, ap₂, refl, ℕ, zero, suc, Bool, true, false, List, [], ◌∷◌, length, codes, Option, Some, None, ◌==◌, if◌then◌else◌, IfSome, slice_get, option_map_or, bytes_eq, chars, false≢true, not-true, bundle_fault, bundle_step_fault, flag_word_fault, flags_fault, other_fault, settle_fault, step_fault, turn_fault, word_fault, Kinds, or_else, long_of, short_of, after_flag, after_step, Held, idle, long_or_other, option, Outcome, plain, plain_word, positional_held, Row, settled, positional, short_or_plain, Step, subcommand_met, subcommand_or_other, Text, trailing, value, Waiting, walked, word_met, bundle_ends, demo, flag, is_journal, journal, local, number, Part, Setting, steps, table, thorough, turns, workers}
use Rattle.clap.specs.declared.error.kind.ErrorKind.TheVariants as kind
use Rattle.solve_words.proofs.Rows.{held_at, option_rules, pending_for, rows_for, rule_for, shape}
use Rattle.solve_words.proofs.Steps.{calm, held_for, hungry, place}

-- a word that is no flag: it isn't `--`, and has no name and no short flags
pub record IsBare (word : Text) : Type 0 where
  pub separate : bytes_eq word (45 ∷ 45 ∷ []) ≡ false
  pub long : long_of word ≡ None
  pub short : IfSome (short_of word) (λ flags. slice_get (chars flags) 0 ≡ None)

-- rows, what is pending, and no flags to pass over
abbrev pub held_of : List Row → Option (Text × List Text) → Held
held_of rows pending = record { rows = rows; pending = pending; skip = 0 }

module _ (word : Text) (waiting : Waiting) (rows : List Row) (pending : Option (Text × List Text)) where
  short_plain : (o : Option Text) → IfSome o (λ flags. slice_get (chars flags) 0 ≡ None)
      → short_or_plain option_rules waiting word o (held_of rows pending) ≡ plain_word option_rules waiting word (held_of rows pending)
  short_plain None none = refl
  short_plain (Some flags) none = ap (λ (p : Held × Outcome). after_flag option_rules waiting word p.0 p.1) (sym (bundle_ends option_rules (length flags) flags 0 plain (held_of rows pending) (sym none)))

  pub bare_other : IsBare word → long_or_other option_rules waiting word (long_of word) (held_of rows pending) ≡ plain_word option_rules waiting word (held_of rows pending)
  bare_other bare = ap (λ (o : Option (Text × Option Text)). long_or_other option_rules waiting word o (held_of rows pending)) bare.long ∙ short_plain (short_of word) bare.short

  flags_end : (k : ℕ) (flags : Text) → slice_get (chars flags) 0 ≡ None → flags_fault option_rules false k flags 0 (held_of rows pending) ≡ []
  unfolding flags_fault
  flags_end zero flags none = refl
  flags_end (suc k) flags none = ap (λ (o : Option ℕ). bundle_step_fault option_rules false o flags 0 (held_of rows pending) (flags_fault option_rules false k)) none

  abbrev flags_in : Option Text → Kinds
  flags_in o = option_map_or (λ flags. bundle_fault option_rules false flags (held_of rows pending)) o []

  short_passes : (o : Option Text) → IfSome o (λ flags. slice_get (chars flags) 0 ≡ None)
      → flags_in o ≡ []
  short_passes None none = refl
  short_passes (Some flags) none = flags_end (length flags) flags none

  pub bare_flag_fault : IsBare word → flag_word_fault option_rules false (long_of word) word (held_of rows pending) ≡ []
  bare_flag_fault bare =
      ap (λ (o : Option (Text × Option Text)). flag_word_fault option_rules false o word (held_of rows pending)) bare.long ∙ short_passes (short_of word) bare.short

  -- what a bare word is, where no flag waits
  pub bare_met : (position : ℕ) → IsBare word → word_met option_rules [] false waiting position word (held_of rows pending) ≡ plain_word option_rules waiting word (held_of rows pending)
  bare_met position bare =
      no_subcommand waiting
      ∙ ap (λ (b : Bool). if b then (held_of rows pending, trailing position) else long_or_other option_rules waiting word (long_of word) (held_of rows pending)) bare.separate
      ∙ bare_other bare
    where
      no_subcommand : (w : Waiting)
          → subcommand_or_other option_rules (subcommand_met [] w word) waiting position word (held_of rows pending)
          ≡ (if bytes_eq word (45 ∷ 45 ∷ []) then (held_of rows pending, trailing position) else long_or_other option_rules waiting word (long_of word) (held_of rows pending))
      no_subcommand idle = refl
      no_subcommand (option id) = refl
      no_subcommand positional = refl

  pub bare_word_fault : IsBare word → word_fault shape [] false waiting word (held_of rows pending) ≡ []
  bare_word_fault bare = none_met waiting ∙ ap (λ (b : Bool). if b then [] else flag_word_fault option_rules false (long_of word) word (held_of rows pending)) bare.separate ∙ bare_flag_fault bare
    where
      none_met : (w : Waiting)
          → other_fault shape (subcommand_met [] w word) word (held_of rows pending)
          ≡ (if bytes_eq word (45 ∷ 45 ∷ []) then [] else flag_word_fault option_rules false (long_of word) word (held_of rows pending))
      none_met idle = refl
      none_met (option id) = refl
      none_met positional = refl

-- ---- the number behind the name of an option

pub number_walked : (setting : Setting) (word : Text) (before : List Part) (met : Bool) → IsBare word
    → walked option_rules [] (hungry (held_for before setting) setting met) word ≡ calm (held_at before (Some (number setting word))) met
unfolding walked
number_walked workers word before met bare = ap (λ (m : Held × Step). after_step option_rules word (hungry (held_for before workers) workers met) m.0 m.1) (bare_met word (option (codes "workers")) (rows_for before) (Some (codes "workers", [])) (place met) bare)
number_walked steps word before met bare = ap (λ (m : Held × Step). after_step option_rules word (hungry (held_for before steps) steps met) m.0 m.1) (bare_met word (option (codes "steps")) (rows_for before) (Some (codes "steps", [])) (place met) bare)
number_walked demo word before met bare = ap (λ (m : Held × Step). after_step option_rules word (hungry (held_for before demo) demo met) m.0 m.1) (bare_met word (option (codes "demo")) (rows_for before) (Some (codes "demo", [])) (place met) bare)

pub number_fault : (setting : Setting) (word : Text) (before : List Part) (met : Bool) → IsBare word
    → turn_fault shape [] (hungry (held_for before setting) setting met) word ≡ []
number_fault workers word before met bare =
    ap₂ (λ (k : Kinds) (m : Held × Step). or_else k (step_fault shape (place met) m.0 m.1))
    (bare_word_fault word (option (codes "workers")) (rows_for before) (Some (codes "workers", [])) bare) (bare_met word (option (codes "workers")) (rows_for before) (Some (codes "workers", [])) (place met) bare)
number_fault steps word before met bare =
    ap₂ (λ (k : Kinds) (m : Held × Step). or_else k (step_fault shape (place met) m.0 m.1))
    (bare_word_fault word (option (codes "steps")) (rows_for before) (Some (codes "steps", [])) bare) (bare_met word (option (codes "steps")) (rows_for before) (Some (codes "steps", [])) (place met) bare)
number_fault demo word before met bare =
    ap₂ (λ (k : Kinds) (m : Held × Step). or_else k (step_fault shape (place met) m.0 m.1))
    (bare_word_fault word (option (codes "demo")) (rows_for before) (Some (codes "demo", [])) bare) (bare_met word (option (codes "demo")) (rows_for before) (Some (codes "demo", [])) (place met) bare)

-- ---- the path

-- the path waits for its row, whatever waited before it
path_held : (word : Text) (before : List Part) (last : Option Part)
    → positional_held option_rules (rule_for (journal word)) word (held_at before last) ≡ record (settled option_rules (held_at before last)) { pending = Some (codes "JOURNAL", word ∷ []) }
path_held word before None = refl
path_held word before (Some (journal path)) = refl
path_held word before (Some (number workers digits)) = refl
path_held word before (Some (number steps digits)) = refl
path_held word before (Some (number demo digits)) = refl
path_held word before (Some (flag table)) = refl
path_held word before (Some (flag local)) = refl
path_held word before (Some (flag thorough)) = refl
path_held word before (Some (flag turns)) = refl

pub path_walked : (word : Text) (before : List Part) (last : Option Part) → IsBare word
    → walked option_rules [] (calm (held_at before last) false) word ≡ calm (record (settled option_rules (held_at before last)) { pending = Some (codes "JOURNAL", word ∷ []) }) true
unfolding walked
path_walked word before last bare =
    ap (λ (m : Held × Step). after_step option_rules word (calm (held_at before last) false) m.0 m.1) (bare_met word idle (rows_for before) (pending_for last) 1 bare)
    ∙ ap (λ (h : Held). calm h true) (path_held word before last)

path_passes : (word : Text) (before : List Part) (last : Option Part) → step_fault shape 1 (held_at before last) value ≡ settle_fault option_rules false (held_at before last)
path_passes word before None = refl
path_passes word before (Some (journal path)) = refl
path_passes word before (Some (number workers digits)) = refl
path_passes word before (Some (number steps digits)) = refl
path_passes word before (Some (number demo digits)) = refl
path_passes word before (Some (flag table)) = refl
path_passes word before (Some (flag local)) = refl
path_passes word before (Some (flag thorough)) = refl
path_passes word before (Some (flag turns)) = refl

pub path_fault : (word : Text) (before : List Part) (last : Option Part) → IsBare word
    → turn_fault shape [] (calm (held_at before last) false) word ≡ settle_fault option_rules false (held_at before last)
path_fault word before last bare =
    ap₂ (λ (k : Kinds) (m : Held × Step). or_else k (step_fault shape 1 m.0 m.1))
    (bare_word_fault word idle (rows_for before) (pending_for last) bare) (bare_met word idle (rows_for before) (pending_for last) 1 bare)
    ∙ path_passes word before last

-- a second path is refused
pub second_path_fault : (word : Text) (before : List Part) (last : Option Part) → IsBare word
    → turn_fault shape [] (calm (held_at before last) true) word ≡ kind.UnknownArgument ∷ []
second_path_fault word before last bare =
    ap₂ (λ (k : Kinds) (m : Held × Step). or_else k (step_fault shape 2 m.0 m.1))
    (bare_word_fault word idle (rows_for before) (pending_for last) bare) (bare_met word idle (rows_for before) (pending_for last) 2 bare)

-- ---- words that are known

pub first_apart : (first : ℕ) (rest : Text) → (first == 45) ≡ false → IsBare (first ∷ rest)
first_apart first rest apart = record {
  separate = rw apart refl;
  long = rw apart refl;
  short = rw apart tt;
}

-- a lawful path is bare, and so are digits
pub path_bare : (word : Text) → is_journal word ≡ true → IsBare word
path_bare [] e = absurd (false≢true e)
path_bare (first ∷ rest) e = first_apart first rest (not-true (first == 45) e)
