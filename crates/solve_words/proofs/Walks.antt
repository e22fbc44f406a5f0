-- Words that the parser takes are the words of parts.
use Rattle.solve_words.proofs.Common.{◌≡◌, ◌∙◌, inl, inr, sym, ap, ap₂, subst, refl, Bool, true, false, List, [], ◌∷◌, ◌++◌, codes, Option, Some, None, fold, option_to_list, bytes_eq, false≢true, or_parts, append-nil, append_assoc, react_fault, settle_fault, turn_fault, use_fault, walk_fault, Kinds, or_else, Held, idle, option, reacted, Row, settled, Text, used, Walk, walked, demo, flag, Flag, journal, local, name_of, name_of_flag, number, Part, Setting, steps, table, thorough, turns, workers, AreSpelled, IsSpelled, has_separator}
use Rattle.clap.specs.declared.error.kind.ErrorKind.TheVariants as kind
use Rattle.solve_words.proofs.Rows.{bare_name, given_by, held_at, option_rules, wish_rule, pending_for, rows_for, rule_for, setting_rule, settle_new, settled_at, shape, use_new, IsNewLast, MayWait, row_more}
use Rattle.solve_words.proofs.Classes.{number_walked, path_fault, path_walked, second_path_fault}
use Rattle.solve_words.proofs.Sorting.{assigned, bare, named, separator, sort_of, strange, wished, Sort}
use Rattle.solve_words.proofs.Singles.{one_more, Single}
use Rattle.solve_words.proofs.Steps.{assign_fault, assign_walked, calm, held_for, flag_fault, flag_walked, hungry, name_fault, name_walked}

-- ---- faults one behind another

abbrev has_none : Kinds → Bool
has_none [] = true
has_none (k ∷ ks) = false

pub no_faults : (first next : Kinds) → or_else first next ≡ [] → (first ≡ []) × (next ≡ [])
no_faults [] next e = (refl, e)
no_faults (k ∷ ks) next e = absurd (false≢true (ap has_none e))

-- ---- what was found in words from a state on

abbrev pub end_of : Walk → List Text → Walk
end_of w words = fold (walked option_rules []) w words

pub record Found (all : List Part) (w : Walk) (words : List Text) : Type 0 where
  pub parts : List Part
  pub spelled : AreSpelled parts words
  pub held : settled option_rules (end_of w words).held ≡ held_at (all ++ parts) None
  pub single : Single (all ++ parts)

-- words with one part before them
more : (all : List Part) (part : Part) (first rest : List Text) (w now : Walk) (words : List Text) → IsSpelled part first → words ≡ first ++ rest
    → end_of now rest ≡ end_of w words → Found (all ++ part ∷ []) now rest → Found all w words
more all part first rest w now words spelled is same found = record {
  parts = part ∷ found.parts;
  spelled = (first, rest, spelled, found.spelled, is);
  held = ap (λ (v : Walk). settled option_rules v.held) (sym same) ∙ found.held ∙ ap (λ (l : List Part). held_at l None) (append_assoc all (part ∷ []) found.parts);
  single = subst Single (append_assoc all (part ∷ []) found.parts) found.single;
}

-- a part's option is used, where no other part waits for its row any more
pub reacted_at : (before : List Part) (last : Option Part) (part : Part) → MayWait last → IsNewLast before last
    → used (rule_for part) (given_by part) (rows_for (before ++ option_to_list last)) ≡ rows_for ((before ++ option_to_list last) ++ part ∷ [])
    → reacted option_rules (rule_for part) (given_by part) (held_at before last) ≡ held_at ((before ++ option_to_list last) ++ part ∷ []) None
reacted_at before last part may new uses =
    ap (λ (h : Held). record { rows = used (rule_for part) (given_by part) h.rows; pending = None; skip = 0 }) (settled_at before last may new)
    ∙ ap (λ (rows : List Row). record { rows = rows; pending = None; skip = 0 }) uses

-- what is known before a word
pub record Before (before : List Part) (last : Option Part) (w : Walk) (words : List Text) : Type 0 where
  pub may : MayWait last
  pub single : Single before
  pub plain : has_separator words ≡ false
  pub fault : walk_fault shape [] w words ≡ []
  pub settle : settle_fault option_rules false (end_of w words).held ≡ []

-- the parts with the last one
all_single : (before : List Part) (last : Option Part) → Single before → IsNewLast before last → Single (before ++ option_to_list last)
all_single before None single new = subst Single (sym (append-nil before)) single
all_single before (Some part) single new = one_more before part single new

-- ---- the words one by one

-- at the end
pub none_left : (before : List Part) (last : Option Part) (met : Bool) → Before before last (calm (held_at before last) met) [] → Found (before ++ option_to_list last) (calm (held_at before last) met) []
none_left before last met b =
    let new = settle_new before last b.may b.settle in
    record {
      parts = [];
      spelled = refl;
      held = settled_at before last b.may new ∙ ap (λ (l : List Part). held_at l None) (sym (append-nil (before ++ option_to_list last)));
      single = subst Single (sym (append-nil (before ++ option_to_list last))) (all_single before last b.single new);
    }

-- what is left to know behind a word that the walk goes on from
rest_of : (before after : List Part) (last now : Option Part) (w v : Walk) (word : Text) (words : List Text) → MayWait now → Single after → walked option_rules [] w word ≡ v
    → Before before last w (word ∷ words) → Before after now v words
unfolding walk_fault
rest_of before after last now w v word words may single goes b = record {
  may = may;
  single = single;
  plain = (or_parts (bytes_eq word (codes "--")) (has_separator words) b.plain).1;
  fault = subst (λ (x : Walk). walk_fault shape [] x words ≡ []) goes (no_faults (turn_fault shape [] w word) (walk_fault shape [] (walked option_rules [] w word) words) b.fault).1;
  settle = subst (λ (x : Walk). settle_fault option_rules false (end_of x words).held ≡ []) goes b.settle;
}

turn_of : (before : List Part) (last : Option Part) (w : Walk) (word : Text) (words : List Text) → Before before last w (word ∷ words) → turn_fault shape [] w word ≡ []
unfolding walk_fault
turn_of before last w word words b = (no_faults (turn_fault shape [] w word) (walk_fault shape [] (walked option_rules [] w word) words) b.fault).0

-- ---- the states of a walk

pub data State : Type 0 where
  at_part : List Part → Option Part → Bool → State
  at_number : List Part → Setting → Bool → State

abbrev pub walk_at : State → Walk
walk_at (at_part before last met) = calm (held_at before last) met
walk_at (at_number before setting met) = hungry (held_for before setting) setting met

abbrev pub BeforeAt : State → List Text → Type 0
BeforeAt (at_part before last met) words = Before before last (calm (held_at before last) met) words
BeforeAt (at_number before setting met) words = Before before None (hungry (held_for before setting) setting met) words

-- the number of an option, and what is found behind it
pub record FoundNumber (before : List Part) (setting : Setting) (w : Walk) (words : List Text) : Type 0 where
  pub digits : Text
  pub rest : List Text
  pub now : Walk
  pub is : words ≡ digits ∷ rest
  pub same : end_of now rest ≡ end_of w words
  pub found : Found (before ++ number setting digits ∷ []) now rest

abbrev pub FoundAt : State → List Text → Type 0
FoundAt (at_part before last met) words = Found (before ++ option_to_list last) (calm (held_at before last) met) words
FoundAt (at_number before setting met) words = FoundNumber before setting (hungry (held_for before setting) setting met) words

-- ---- a number that is wanted

wants_number : (before : List Part) (setting : Setting) → settle_fault option_rules false (held_for before setting) ≡ kind.InvalidValue ∷ []
wants_number before workers = refl
wants_number before steps = refl
wants_number before demo = refl

none_wanted : {A : Type 0} (before : List Part) (setting : Setting) (next : Kinds) → or_else (settle_fault option_rules false (held_for before setting)) next ≡ [] → A
none_wanted before setting next e = absurd (false≢true (ap has_none (sym (ap (λ (k : Kinds). or_else k next) (wants_number before setting)) ∙ e)))

hungry_name : (other : Setting) (held : Held) (setting : Setting) (met : Bool) → turn_fault shape [] (hungry held setting met) (name_of other) ≡ or_else (settle_fault option_rules false held) []
hungry_name workers held setting met = refl
hungry_name steps held setting met = refl
hungry_name demo held setting met = refl

hungry_assign : (other : Setting) (digits : Text) (held : Held) (setting : Setting) (met : Bool)
    → turn_fault shape [] (hungry held setting met) (name_of other ++ (codes "=" ++ digits)) ≡ or_else (react_fault option_rules false (setting_rule other) (digits ∷ []) held) []
hungry_assign workers digits held setting met = refl
hungry_assign steps digits held setting met = refl
hungry_assign demo digits held setting met = refl

hungry_flag : (wish : Flag) (held : Held) (setting : Setting) (met : Bool) → turn_fault shape [] (hungry held setting met) (name_of_flag wish) ≡ or_else (react_fault option_rules false (wish_rule wish) [] held) []
hungry_flag table held setting met = refl
hungry_flag local held setting met = refl
hungry_flag thorough held setting met = refl
hungry_flag turns held setting met = refl

module _ (word : Text) (words : List Text) (read : (state : State) → BeforeAt state words → FoundAt state words) where
  -- ---- behind the name of an option

  no_separator : {A : Type 0} → word ≡ codes "--" → has_separator (word ∷ words) ≡ false → A
  no_separator is plain = absurd (false≢true (sym (or_parts (bytes_eq word (codes "--")) (has_separator words) plain).0 ∙ ap (λ (x : Text). bytes_eq x (codes "--")) is))

  number_read : (before : List Part) (setting : Setting) (met : Bool) → Sort word → BeforeAt (at_number before setting met) (word ∷ words) → FoundAt (at_number before setting met) (word ∷ words)
  number_read before setting met (bare is) b =
      let w = hungry (held_for before setting) setting met in
      let goes = number_walked setting word before met is in
      record {
        digits = word;
        rest = words;
        now = calm (held_at before (Some (number setting word))) met;
        is = refl;
        same = ap (λ (v : Walk). end_of v words) (sym goes);
        found = read (at_part before (Some (number setting word)) met)
            (rest_of before before None (Some (number setting word)) w (calm (held_at before (Some (number setting word))) met) word words refl b.single goes b);
      }
  number_read before setting met (named other is) b =
      none_wanted before setting [] (sym (ap (turn_fault shape [] (hungry (held_for before setting) setting met)) is ∙ hungry_name other (held_for before setting) setting met) ∙ turn_of before None _ word words b)
  number_read before setting met (assigned other digits is) b =
      none_wanted before setting (use_fault false (setting_rule other) (digits ∷ []) (settled option_rules (held_for before setting)).rows)
      (no_faults (react_fault option_rules false (setting_rule other) (digits ∷ []) (held_for before setting)) []
      (sym (ap (turn_fault shape [] (hungry (held_for before setting) setting met)) is ∙ hungry_assign other digits (held_for before setting) setting met) ∙ turn_of before None _ word words b)).0
  number_read before setting met (wished wish is) b =
      none_wanted before setting (use_fault false (wish_rule wish) [] (settled option_rules (held_for before setting)).rows)
      (no_faults (react_fault option_rules false (wish_rule wish) [] (held_for before setting)) []
      (sym (ap (turn_fault shape [] (hungry (held_for before setting) setting met)) is ∙ hungry_flag wish (held_for before setting) setting met) ∙ turn_of before None _ word words b)).0
  number_read before setting met (separator is) b = no_separator is b.plain
  number_read before setting met (strange is) b =
      absurd (is.fault (option (bare_name setting)) (rows_for before) (Some (bare_name setting, [])) (no_faults _ _ (turn_of before None (hungry (held_for before setting) setting met) word words b)).0)

  -- ---- between two parts

  -- a part that is used at once
  part_used : (before : List Part) (last : Option Part) (met : Bool) (part : Part) → IsSpelled part (word ∷ [])
      → walked option_rules [] (calm (held_at before last) met) word ≡ calm (reacted option_rules (rule_for part) (given_by part) (held_at before last)) met
      → react_fault option_rules false (rule_for part) (given_by part) (held_at before last) ≡ []
      → BeforeAt (at_part before last met) (word ∷ words) → FoundAt (at_part before last met) (word ∷ words)
  part_used before last met part spelled walks fault b =
      let w = calm (held_at before last) met in
      let all = before ++ option_to_list last in
      let faults = no_faults (settle_fault option_rules false (held_at before last)) (use_fault false (rule_for part) (given_by part) (settled option_rules (held_at before last)).rows) fault in
      let new = settle_new before last b.may faults.0 in
      let fresh = use_new part (rows_for all) (subst (λ (h : Held). use_fault false (rule_for part) (given_by part) h.rows ≡ []) (settled_at before last b.may new) faults.1) in
      let goes = walks ∙ ap (λ (h : Held). calm h met) (reacted_at before last part b.may new (row_more all part fresh)) in
      let now = calm (held_at (all ++ part ∷ []) None) met in
      let single = one_more all part (all_single before last b.single new) fresh in
      let found = read (at_part (all ++ part ∷ []) None met) (rest_of before (all ++ part ∷ []) last None w now word words tt single goes b) in
      more all part (word ∷ []) words w now (word ∷ words) spelled refl (ap (λ (v : Walk). end_of v words) (sym goes))
      (subst (λ (l : List Part). Found l now words) (append-nil (all ++ part ∷ [])) found)

  part_read : (before : List Part) (last : Option Part) (met : Bool) → Sort word → BeforeAt (at_part before last met) (word ∷ words) → FoundAt (at_part before last met) (word ∷ words)
  part_read before last met (named setting is) b =
      let h = held_at before last in
      let w = calm h met in
      let all = before ++ option_to_list last in
      let fault = no_faults (settle_fault option_rules false h) [] (sym (ap (turn_fault shape [] w) is ∙ name_fault setting h met) ∙ turn_of before last w word words b) in
      let new = settle_new before last b.may fault.0 in
      let goes : walked option_rules [] w word ≡ hungry (held_for all setting) setting met =
      ap (walked option_rules [] w) is ∙ name_walked setting h met ∙ ap (λ (k : Held). hungry (record k { pending = Some (bare_name setting, []) }) setting met) (settled_at before last b.may new) in
      let found = read (at_number all setting met) (rest_of before all last None w (hungry (held_for all setting) setting met) word words tt (all_single before last b.single new) goes b) in
      more all (number setting found.digits) (name_of setting ∷ found.digits ∷ []) found.rest w found.now (word ∷ words) (inl refl) (ap₂ (λ (x : Text) (xs : List Text). x ∷ xs) is found.is)
      (found.same ∙ ap (λ (v : Walk). end_of v words) (sym goes)) found.found
  part_read before last met (assigned setting digits is) b =
      let h = held_at before last in
      let w = calm h met in
      part_used before last met (number setting digits) (inr (ap (λ (x : Text). x ∷ []) is)) (ap (walked option_rules [] w) is ∙ assign_walked setting digits h met)
      (no_faults (react_fault option_rules false (setting_rule setting) (digits ∷ []) h) [] (sym (ap (turn_fault shape [] w) is ∙ assign_fault setting digits h met) ∙ turn_of before last w word words b)).0 b
  part_read before last met (wished wish is) b =
      let h = held_at before last in
      let w = calm h met in
      part_used before last met (flag wish) (ap (λ (x : Text). x ∷ []) is) (ap (walked option_rules [] w) is ∙ flag_walked wish h met)
      (no_faults (react_fault option_rules false (wish_rule wish) [] h) [] (sym (ap (turn_fault shape [] w) is ∙ flag_fault wish h met) ∙ turn_of before last w word words b)).0 b
  part_read before last false (bare is) b =
      let w = calm (held_at before last) false in
      let all = before ++ option_to_list last in
      let new = settle_new before last b.may (sym (path_fault word before last is) ∙ turn_of before last w word words b) in
      let now = calm (held_at all (Some (journal word))) true in
      let goes : walked option_rules [] w word ≡ now = path_walked word before last is ∙ ap (λ (k : Held). calm (record k { pending = Some (codes "JOURNAL", word ∷ []) }) true) (settled_at before last b.may new) in
      let found = read (at_part all (Some (journal word)) true) (rest_of before all last (Some (journal word)) w now word words refl (all_single before last b.single new) goes b) in
      more all (journal word) (word ∷ []) words w now (word ∷ words) refl refl (ap (λ (v : Walk). end_of v words) (sym goes)) found
  part_read before last true (bare is) b =
      absurd (false≢true (ap has_none (sym (second_path_fault word before last is) ∙ turn_of before last (calm (held_at before last) true) word words b)))
  part_read before last met (separator is) b = no_separator is b.plain
  part_read before last met (strange is) b =
      absurd (is.fault idle (rows_for before) (pending_for last) (no_faults _ _ (turn_of before last (calm (held_at before last) met) word words b)).0)

  word_read : (state : State) → BeforeAt state (word ∷ words) → FoundAt state (word ∷ words)
  word_read (at_part before last met) b = part_read before last met (sort_of word) b
  word_read (at_number before setting met) b = number_read before setting met (sort_of word) b

-- words that the parser takes, from a state on
pub read_from : (words : List Text) (state : State) → BeforeAt state words → FoundAt state words
read_from [] (at_part before last met) b = none_left before last met b
read_from [] (at_number before setting met) b = absurd (false≢true (ap has_none (sym (wants_number before setting) ∙ b.settle)))
read_from (word ∷ words) state b = word_read word words (read_from words) state b
