-- What the parser's walk makes of one word.
use Rattle.solve_words.proofs.Common.{◌≡◌, refl, ℕ, Bool, false, List, [], ◌∷◌, ◌++◌, codes, Some, None, if◌then◌else◌, react_fault, settle_fault, turn_fault, or_else, Held, idle, option, reacted, settled, Text, Walk, walked, demo, Flag, local, name_of, name_of_flag, Part, Setting, steps, table, thorough, turns, workers}
use Rattle.solve_words.proofs.Rows.{bare_name, option_rules, wish_rule, rows_for, setting_rule, shape}

-- between two parts: the parts that have rows, the one that waits for its, and whether a path was met
abbrev pub place : Bool → ℕ
place met = if met then 2 else 1

abbrev pub calm : Held → Bool → Walk
calm held met = record { held = held; waiting = idle; position = place met; is_trailing = false; stopped = None }

-- behind the name of an option, before its number
abbrev pub held_for : List Part → Setting → Held
held_for before setting = record { rows = rows_for before; pending = Some (bare_name setting, []); skip = 0 }

abbrev pub hungry : Held → Setting → Bool → Walk
hungry held setting met = record { held = held; waiting = option (bare_name setting); position = place met; is_trailing = false; stopped = None }

-- ---- the name of an option

pub name_walked : (setting : Setting) (held : Held) (met : Bool)
    → walked option_rules [] (calm held met) (name_of setting) ≡ hungry (record (settled option_rules held) { pending = Some (bare_name setting, []) }) setting met
unfolding walked
name_walked workers held met = refl
name_walked steps held met = refl
name_walked demo held met = refl

pub name_fault : (setting : Setting) (held : Held) (met : Bool)
    → turn_fault shape [] (calm held met) (name_of setting) ≡ or_else (settle_fault option_rules false held) []
name_fault workers held met = refl
name_fault steps held met = refl
name_fault demo held met = refl

-- ---- the name of an option with its number in the same word

pub assign_walked : (setting : Setting) (digits : Text) (held : Held) (met : Bool)
    → walked option_rules [] (calm held met) (name_of setting ++ (codes "=" ++ digits)) ≡ calm (reacted option_rules (setting_rule setting) (digits ∷ []) held) met
unfolding walked
assign_walked workers digits held met = refl
assign_walked steps digits held met = refl
assign_walked demo digits held met = refl

pub assign_fault : (setting : Setting) (digits : Text) (held : Held) (met : Bool)
    → turn_fault shape [] (calm held met) (name_of setting ++ (codes "=" ++ digits)) ≡ or_else (react_fault option_rules false (setting_rule setting) (digits ∷ []) held) []
assign_fault workers digits held met = refl
assign_fault steps digits held met = refl
assign_fault demo digits held met = refl

-- ---- a flag

pub flag_walked : (wish : Flag) (held : Held) (met : Bool) → walked option_rules [] (calm held met) (name_of_flag wish) ≡ calm (reacted option_rules (wish_rule wish) [] held) met
unfolding walked
flag_walked table held met = refl
flag_walked local held met = refl
flag_walked thorough held met = refl
flag_walked turns held met = refl

pub flag_fault : (wish : Flag) (held : Held) (met : Bool) → turn_fault shape [] (calm held met) (name_of_flag wish) ≡ or_else (react_fault option_rules false (wish_rule wish) [] held) []
flag_fault table held met = refl
flag_fault local held met = refl
flag_fault thorough held met = refl
flag_fault turns held met = refl
