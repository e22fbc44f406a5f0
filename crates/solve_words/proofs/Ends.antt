-- From a whole parse to its walk.
use Rattle.solve_words.proofs.Common.{◌≡◌, ◌∙◌, sym, ap, ap₂, refl, Bool, true, false, List, [], codes, Option, Some, None, fold, ◌||◌, is_some, if◌then◌else◌, check_fault, default_fault, defaults_fault, entered_fault, fault_of, settle_fault, walk_fault, Kinds, or_else, built, entered, matches_of, finished, has_row, Row, settled, Text, Walk, with_default, options_app, demo, Flag, journal, local, Part, Setting, steps, table, thorough, turns, workers}
use Rattle.solve_words.proofs.Rows.{bare_flag, held_at, option_rules, wish_rule, rows_for, rule_for, setting_rule, shape}
use Rattle.solve_words.proofs.Walks.{at_part, end_of, no_faults, walk_at}

-- before the first word
abbrev pub start : Walk
start = walk_at (at_part [] None false)

abbrev below : List Text → Kinds
below words = entered_fault (built options_app) (end_of start words).stopped

abbrev has_sub : List Text → Bool
has_sub words = is_some (entered (built options_app) (end_of start words).stopped)

abbrev defaults : List Text → Kinds
defaults words = defaults_fault (settled option_rules (end_of start words).held).rows option_rules

abbrev check : List Text → Kinds
check words = check_fault shape (finished option_rules (end_of start words).held) (has_sub words)

-- the faults of a parse, one behind another
abbrev in_order : List Text → Kinds
in_order words = or_else (walk_fault shape [] start words) (or_else (below words) (or_else (settle_fault option_rules false (end_of start words).held) (or_else (defaults words) (check words))))

are_in_order : (words : List Text) → fault_of options_app words ≡ in_order words
are_in_order words = refl

pub fault_parts : (words : List Text) → fault_of options_app words ≡ [] → (walk_fault shape [] start words ≡ []) × (settle_fault option_rules false (end_of start words).held ≡ [])
fault_parts words e =
    let one = no_faults (walk_fault shape [] start words) (or_else (below words) (or_else (settle_fault option_rules false (end_of start words).held) (or_else (defaults words) (check words)))) (sym (are_in_order words) ∙ e) in
    let two = no_faults (below words) (or_else (settle_fault option_rules false (end_of start words).held) (or_else (defaults words) (check words))) one.1 in
    let three = no_faults (settle_fault option_rules false (end_of start words).held) (or_else (defaults words) (check words)) two.1 in
    (one.0, three.0)

-- ---- what is no fault of these options

none_below : (stop : Option (Text × List Text)) → entered_fault (built options_app) stop ≡ []
none_below None = refl
none_below (Some p) = refl

check_passes : (rows : List Row) (sub : Bool) → check_fault shape rows sub ≡ []
check_passes rows true = refl
check_passes rows false = refl

flag_passes : (wish : Flag) (rows : List Row) → default_fault rows (wish_rule wish) ≡ []
flag_passes wish rows = elim (has_row (bare_flag wish) rows) as (λ b. (if b || false then [] else or_else [] []) ≡ []) [ true ↦ refl | false ↦ refl ]

defaults_pass : (rows : List Row) → defaults_fault rows option_rules ≡ []
unfolding defaults_fault
defaults_pass rows =
    let one = with_default rows (rule_for (journal [])) in
    let two = with_default one (setting_rule workers) in
    let three = with_default two (setting_rule steps) in
    let four = with_default three (setting_rule demo) in
    let five = with_default four (wish_rule table) in
    let six = with_default five (wish_rule local) in
    let seven = with_default six (wish_rule thorough) in
    ap₂ or_else (passes (journal []) rows)
    (ap₂ or_else (setting_passes workers one) (ap₂ or_else (setting_passes steps two) (ap₂ or_else (setting_passes demo three) (ap₂ or_else (flag_passes table four) (ap₂ or_else (flag_passes local five) (ap₂ or_else (flag_passes thorough six) (ap₂ or_else (flag_passes turns seven) refl)))))))
  where
    passes : (part : Part) (rs : List Row) → default_fault rs (rule_for (journal [])) ≡ []
    passes part rs = elim (has_row (codes "JOURNAL") rs) as (λ b. (if b || true then [] else or_else [] []) ≡ []) [ true ↦ refl | false ↦ refl ]

    setting_passes : (s : Setting) (rs : List Row) → default_fault rs (setting_rule s) ≡ []
    setting_passes workers rs = elim (has_row (codes "workers") rs) as (λ b. (if b || true then [] else or_else [] []) ≡ []) [ true ↦ refl | false ↦ refl ]
    setting_passes steps rs = elim (has_row (codes "steps") rs) as (λ b. (if b || true then [] else or_else [] []) ≡ []) [ true ↦ refl | false ↦ refl ]
    setting_passes demo rs = elim (has_row (codes "demo") rs) as (λ b. (if b || true then [] else or_else [] []) ≡ []) [ true ↦ refl | false ↦ refl ]

pub no_fault : (words : List Text) → walk_fault shape [] start words ≡ [] → settle_fault option_rules false (end_of start words).held ≡ [] → fault_of options_app words ≡ []
no_fault words walk settle =
    are_in_order words
    ∙ ap₂ or_else walk (ap₂ or_else (none_below (end_of start words).stopped) (ap₂ or_else settle (ap₂ or_else (defaults_pass (settled option_rules (end_of start words).held).rows) (check_passes (finished option_rules (end_of start words).held) (has_sub words)))))

-- ---- the rows at the end

pub matches_are : (words : List Text) (parts : List Part) → settled option_rules (end_of start words).held ≡ held_at parts None → matches_of options_app words ≡ fold with_default (rows_for parts) option_rules
matches_are words parts e = ap (λ h. fold with_default h.rows option_rules) e
