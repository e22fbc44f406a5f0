-- The parser takes the words of lawful parts.
use Rattle.solve_words.proofs.Common.{◌≡◌, ◌∙◌, inl, inr, sym, ap, ap₂, subst, refl, ◌≤◌, Bool, true, false, List, [], ◌∷◌, ◌++◌, codes, length, Option, Some, None, arith, if◌then◌else◌, option_to_list, bytes_eq, cases_Bool, bytes_eq-Decides, append-nil, append_assoc, react_fault, settle_fault, turn_fault, use_fault, walk_fault, Kinds, or_else, has_row, Held, reacted, settled, Text, Walk, walked, demo, flag, journal, local, name_of, name_of_flag, number, Part, Setting, steps, table, thorough, turns, workers, AreSpelled, Flag, Give, Given, IsSpelled}
use Rattle.solve_words.proofs.Rows.{bare_flag, bare_name, given_by, held_at, id_of, option_rules, rows_for, rule_for, settle_passes, settled_at, shape, use_fresh, IsNewLast, MayWait, row_more}
use Rattle.solve_words.proofs.Classes.{number_fault, number_walked, path_fault, path_walked, IsBare}
use Rattle.solve_words.proofs.Giving.{digit_times, flag_times, path_times}
use Rattle.solve_words.proofs.Singles.{no_row, times, times-append, Single}
use Rattle.solve_words.proofs.Steps.{assign_fault, assign_walked, calm, held_for, flag_fault, flag_walked, hungry, name_fault, name_walked}
use Rattle.solve_words.proofs.Walks.{end_of, reacted_at}

-- a part whose text is no flag
abbrev pub IsPlain : Part → Type 0
IsPlain (journal path) = IsBare path
IsPlain (number setting digits) = IsBare digits
IsPlain (flag wish) = Unit {0}

abbrev pub ArePlain : List Part → Type 0
ArePlain [] = Unit {0}
ArePlain (part ∷ parts) = IsPlain part × ArePlain parts

-- the words are taken from a state on, and then the parts have their rows
pub record Taken (all : List Part) (w : Walk) (words : List Text) : Type 0 where
  pub walk : walk_fault shape [] w words ≡ []
  pub settle : settle_fault option_rules false (end_of w words).held ≡ []
  pub held : settled option_rules (end_of w words).held ≡ held_at all None

-- one word more before them
word_more : (all : List Part) (w now : Walk) (word : Text) (words : List Text) → turn_fault shape [] w word ≡ [] → walked option_rules [] w word ≡ now → Taken all now words → Taken all w (word ∷ words)
unfolding walk_fault
word_more all w now word words turn goes taken = record {
  walk = ap₂ or_else turn (subst (λ (v : Walk). walk_fault shape [] v words ≡ []) (sym goes) taken.walk);
  settle = subst (λ (v : Walk). settle_fault option_rules false (end_of v words).held ≡ []) (sym goes) taken.settle;
  held = subst (λ (v : Walk). settled option_rules (end_of v words).held ≡ held_at all None) (sym goes) taken.held;
}

-- a kind that stands once behind other parts isn't among them
new_among : (before : List Part) (part : Part) (after : List Part) → Single (before ++ part ∷ after) → times (id_of part) (part ∷ []) ≡ 1 → times (id_of part) before ≡ 0
new_among before part after single one =
    let few = single (id_of part) in
    let all = times-append (id_of part) before (part ∷ after) in
    let behind = times-append (id_of part) (part ∷ []) after in
    omega (arith, few, all, behind, one)

own_time : (part : Part) → times (id_of part) (part ∷ []) ≡ 1
own_time (journal path) = refl
own_time (number workers digits) = refl
own_time (number steps digits) = refl
own_time (number demo digits) = refl
own_time (flag table) = refl
own_time (flag local) = refl
own_time (flag thorough) = refl
own_time (flag turns) = refl

-- the last part has no row among the others, and neither has the part behind it
new_last : (before : List Part) (last : Option Part) (parts : List Part) → Single ((before ++ option_to_list last) ++ parts) → IsNewLast before last
new_last before None parts single = tt
new_last before (Some part) parts single = no_row (id_of part) before (new_among before part parts (subst Single (append_assoc before (part ∷ []) parts) single) (own_time part))

new_part : (all : List Part) (part : Part) (parts : List Part) → Single (all ++ part ∷ parts) → has_row (id_of part) (rows_for all) ≡ false
new_part all part parts single = no_row (id_of part) all (new_among all part parts single (own_time part))

-- whether a path was met
abbrev pub Met : List Part → Bool → Type 0
Met all met = times (codes "JOURNAL") all ≡ (if met then 1 else 0)

no_path_more : (all : List Part) (part : Part) (met : Bool) → times (codes "JOURNAL") (part ∷ []) ≡ 0 → Met all met → Met (all ++ part ∷ []) met
no_path_more all part met none path = let both = times-append (codes "JOURNAL") all (part ∷ []) in omega (arith, both, none, path)

other_kind : (setting : Setting) (digits : Text) → times (codes "JOURNAL") (number setting digits ∷ []) ≡ 0
other_kind workers digits = refl
other_kind steps digits = refl
other_kind demo digits = refl

no_path_flag : (wish : Flag) → times (codes "JOURNAL") (flag wish ∷ []) ≡ 0
no_path_flag table = refl
no_path_flag local = refl
no_path_flag thorough = refl
no_path_flag turns = refl

module _ (before : List Part) (last : Option Part) (may : MayWait last) (parts : List Part) (rest : List Text) where
  abbrev all_of : List Part
  all_of = before ++ option_to_list last

  -- what is taken behind a part is taken behind the others with it
  behind : (part : Part) (w : Walk) (words : List Text) → Taken ((all_of ++ part ∷ []) ++ parts) w words → Taken (all_of ++ part ∷ parts) w words
  behind part w words taken = subst (λ (l : List Part). Taken l w words) (append_assoc all_of (part ∷ []) parts) taken

  -- a part that is used at once
  use_taken : (met : Bool) (part : Part) (word : Text) → Single (all_of ++ part ∷ parts)
      → turn_fault shape [] (calm (held_at before last) met) word ≡ or_else (react_fault option_rules false (rule_for part) (given_by part) (held_at before last)) []
      → walked option_rules [] (calm (held_at before last) met) word ≡ calm (reacted option_rules (rule_for part) (given_by part) (held_at before last)) met
      → Taken ((all_of ++ part ∷ []) ++ parts) (calm (held_at (all_of ++ part ∷ []) None) met) rest
      → Taken (all_of ++ part ∷ parts) (calm (held_at before last) met) (word ∷ rest)
  use_taken met part word single turned walks taken =
      let new = new_last before last (part ∷ parts) single in
      let fresh = new_part all_of part parts single in
      let uses : use_fault false (rule_for part) (given_by part) (settled option_rules (held_at before last)).rows ≡ [] =
      ap (λ (h : Held). use_fault false (rule_for part) (given_by part) h.rows) (settled_at before last may new) ∙ use_fresh part (rows_for all_of) fresh in
      let reacts : react_fault option_rules false (rule_for part) (given_by part) (held_at before last) ≡ [] = ap₂ or_else (settle_passes before last may new) uses in
      word_more (all_of ++ part ∷ parts) (calm (held_at before last) met) (calm (held_at (all_of ++ part ∷ []) None) met) word rest
      (turned ∙ ap (λ (k : Kinds). or_else k []) reacts)
      (walks ∙ ap (λ (h : Held). calm h met) (reacted_at before last part may new (row_more all_of part fresh)))
      (behind part (calm (held_at (all_of ++ part ∷ []) None) met) rest taken)

  -- an option, and its number as the next word
  next_taken : (met : Bool) (setting : Setting) (digits : Text) → IsBare digits → Single (all_of ++ number setting digits ∷ parts)
      → Taken ((all_of ++ number setting digits ∷ []) ++ parts) (calm (held_at all_of (Some (number setting digits))) met) rest
      → Taken (all_of ++ number setting digits ∷ parts) (calm (held_at before last) met) (name_of setting ∷ digits ∷ rest)
  next_taken met setting digits bare single taken =
      let part = number setting digits in
      let new = new_last before last (part ∷ parts) single in
      let w = calm (held_at before last) met in
      let mid = hungry (held_for all_of setting) setting met in
      word_more (all_of ++ part ∷ parts) w mid (name_of setting) (digits ∷ rest)
      (name_fault setting (held_at before last) met ∙ ap (λ (k : Kinds). or_else k []) (settle_passes before last may new))
      (name_walked setting (held_at before last) met ∙ ap (λ (h : Held). hungry (record h { pending = Some (bare_name setting, []) }) setting met) (settled_at before last may new))
      (word_more (all_of ++ part ∷ parts) mid (calm (held_at all_of (Some part)) met) digits rest (number_fault setting digits all_of met bare) (number_walked setting digits all_of met bare)
      (behind part (calm (held_at all_of (Some part)) met) rest taken))

  -- a path
  path_taken : (path : Text) → IsBare path → Single (all_of ++ journal path ∷ parts)
      → Taken ((all_of ++ journal path ∷ []) ++ parts) (calm (held_at all_of (Some (journal path))) true) rest
      → Taken (all_of ++ journal path ∷ parts) (calm (held_at before last) false) (path ∷ rest)
  path_taken path bare single taken =
      let part = journal path in
      let new = new_last before last (part ∷ parts) single in
      word_more (all_of ++ part ∷ parts) (calm (held_at before last) false) (calm (held_at all_of (Some part)) true) path rest
      (path_fault path before last bare ∙ settle_passes before last may new)
      (path_walked path before last bare ∙ ap (λ (h : Held). calm (record h { pending = Some (codes "JOURNAL", path ∷ []) }) true) (settled_at before last may new))
      (behind part (calm (held_at all_of (Some part)) true) rest taken)

-- a second path is one too many
path_once : {A : Type 0} (all : List Part) (path : Text) (parts : List Part) → Single (all ++ journal path ∷ parts) → times (codes "JOURNAL") all ≡ 1 → A
path_once all path parts single one = let none = new_among all (journal path) parts single refl in absurd (omega (arith, none, one))

-- the words of plain parts, each kind at most once
abbrev TakenFrom : List Part → Type 0
TakenFrom parts = (words : List Text) (before : List Part) (last : Option Part) (met : Bool) → MayWait last → ArePlain parts → AreSpelled parts words
    → Single ((before ++ option_to_list last) ++ parts) → Met (before ++ option_to_list last) met → Taken ((before ++ option_to_list last) ++ parts) (calm (held_at before last) met) words

-- the state behind a part that was used at once
used_up : {parts : List Part} → TakenFrom parts → (all : List Part) (part : Part) (same : List Part) (rest : List Text) (met : Bool) → ArePlain parts → AreSpelled parts rest
    → Single (all ++ part ∷ parts) → Met (all ++ part ∷ []) met → Taken ((all ++ part ∷ []) ++ parts) (calm (held_at (all ++ part ∷ []) None) met) rest
used_up {parts} taken all part same rest met plain spelled single path_met =
    let here : (all ++ part ∷ []) ++ [] ≡ all ++ part ∷ [] = append-nil (all ++ part ∷ []) in
    subst (λ (l : List Part). Taken (l ++ parts) (calm (held_at (all ++ part ∷ []) None) met) rest) here
    (taken rest (all ++ part ∷ []) None met tt plain spelled
    (subst Single (sym (ap (λ (l : List Part). l ++ parts) here ∙ append_assoc all (part ∷ []) parts)) single)
    (subst (λ (l : List Part). Met l met) (sym here) path_met))

part_taken : (part : Part) (parts : List Part) → TakenFrom parts → (first rest : List Text) (before : List Part) (last : Option Part) (met : Bool) → MayWait last → IsPlain part → ArePlain parts
    → IsSpelled part first → AreSpelled parts rest → Single ((before ++ option_to_list last) ++ part ∷ parts) → Met (before ++ option_to_list last) met
    → Taken ((before ++ option_to_list last) ++ part ∷ parts) (calm (held_at before last) met) (first ++ rest)
part_taken (journal path) parts taken first rest before last true may bare plain is spelled single path_met = path_once (before ++ option_to_list last) path parts single path_met
part_taken (journal path) parts taken first rest before last false may bare plain is spelled single path_met =
    let all = before ++ option_to_list last in
    subst (λ (ws : List Text). Taken (all ++ journal path ∷ parts) (calm (held_at before last) false) (ws ++ rest)) (sym is)
    (path_taken before last may parts rest path bare single
    (taken rest all (Some (journal path)) true refl plain spelled (subst Single (sym (append_assoc all (journal path ∷ []) parts)) single)
    (let both = times-append (codes "JOURNAL") all (journal path ∷ []) in omega (arith, both, path_met))))
part_taken (number setting digits) parts taken first rest before last met may bare plain (inl is) spelled single path_met =
    let all = before ++ option_to_list last in
    let part = number setting digits in
    subst (λ (ws : List Text). Taken (all ++ part ∷ parts) (calm (held_at before last) met) (ws ++ rest)) (sym is)
    (next_taken before last may parts rest met setting digits bare single
    (taken rest all (Some part) met refl plain spelled (subst Single (sym (append_assoc all (part ∷ []) parts)) single) (no_path_more all part met (other_kind setting digits) path_met)))
part_taken (number setting digits) parts taken first rest before last met may bare plain (inr is) spelled single path_met =
    let all = before ++ option_to_list last in
    let part = number setting digits in
    subst (λ (ws : List Text). Taken (all ++ part ∷ parts) (calm (held_at before last) met) (ws ++ rest)) (sym is)
    (use_taken before last may parts rest met part (name_of setting ++ (codes "=" ++ digits)) single (assign_fault setting digits (held_at before last) met) (assign_walked setting digits (held_at before last) met)
    (used_up taken all part parts rest met plain spelled single (no_path_more all part met (other_kind setting digits) path_met)))
part_taken (flag wish) parts taken first rest before last met may bare plain is spelled single path_met =
    let all = before ++ option_to_list last in
    subst (λ (ws : List Text). Taken (all ++ flag wish ∷ parts) (calm (held_at before last) met) (ws ++ rest)) (sym is)
    (use_taken before last may parts rest met (flag wish) (name_of_flag wish) single (flag_fault wish (held_at before last) met) (flag_walked wish (held_at before last) met)
    (used_up taken all (flag wish) parts rest met plain spelled single (no_path_more all (flag wish) met (no_path_flag wish) path_met)))

none_fault : (w : Walk) → walk_fault shape [] w [] ≡ []
unfolding walk_fault
none_fault w = refl

pub taken_from : (parts : List Part) → TakenFrom parts
taken_from [] words before last met may plain spelled single path =
    let all = before ++ option_to_list last in
    let w = calm (held_at before last) met in
    let new = new_last before last [] single in
    subst (λ (ws : List Text). Taken (all ++ []) w ws) (sym spelled) (record {
      walk = none_fault w;
      settle = settle_passes before last may new;
      held = settled_at before last may new ∙ ap (λ (l : List Part). held_at l None) (sym (append-nil all));
    })
taken_from (part ∷ parts) words before last met may plain spelled single path =
    subst (λ (ws : List Text). Taken ((before ++ option_to_list last) ++ part ∷ parts) (calm (held_at before last) met) ws) (sym spelled.4)
    (part_taken part parts (taken_from parts) spelled.0 spelled.1 before last met may plain.0 plain.1 spelled.2 spelled.3 single path)

-- ---- what gives something, gives each kind at most once

few_in : (o : Option Text) → length (option_to_list o) ≤ 1
few_in None = omega arith
few_in (Some x) = omega arith

few_wishes : (t : Bool) → (if t then 1 else 0) ≤ 1
few_wishes true = omega arith
few_wishes false = omega arith

-- no part has another id
no_other : (id : Text) → bytes_eq (codes "JOURNAL") id ≡ false → bytes_eq (codes "workers") id ≡ false → bytes_eq (codes "steps") id ≡ false → bytes_eq (codes "demo") id ≡ false
    → ((wish : Flag) → bytes_eq (bare_flag wish) id ≡ false) → (parts : List Part) → times id parts ≡ 0
no_other id j w s d f [] = refl
no_other id j w s d f (journal path ∷ parts) = rw j (no_other id j w s d f parts)
no_other id j w s d f (number workers digits ∷ parts) = rw w (no_other id j w s d f parts)
no_other id j w s d f (number steps digits ∷ parts) = rw s (no_other id j w s d f parts)
no_other id j w s d f (number demo digits ∷ parts) = rw d (no_other id j w s d f parts)
no_other id j w s d f (flag wish ∷ parts) = rw (f wish) (no_other id j w s d f parts)

pub given_single : (parts : List Part) (given : Given) → Give parts given → Single parts
given_single parts given give id =
    elim (cases_Bool (bytes_eq (codes "JOURNAL") id)) [
      | inl e ↦ at (codes "JOURNAL") e (let n = path_times parts in let l = ap length give.of_journal in let few = few_in given.journal in omega (arith, n, l, few))
      | inr j ↦ elim (cases_Bool (bytes_eq (codes "workers") id)) [
        | inl e ↦ at (codes "workers") e (let n = digit_times workers parts in let l = ap length give.of_workers in let few = few_in given.workers in omega (arith, n, l, few))
        | inr w ↦ elim (cases_Bool (bytes_eq (codes "steps") id)) [
          | inl e ↦ at (codes "steps") e (let n = digit_times steps parts in let l = ap length give.of_steps in let few = few_in given.steps in omega (arith, n, l, few))
          | inr s ↦ elim (cases_Bool (bytes_eq (codes "demo") id)) [
            | inl e ↦ at (codes "demo") e (let n = digit_times demo parts in let l = ap length give.of_demo in let few = few_in given.demo in omega (arith, n, l, few))
            | inr d ↦ elim (cases_Bool (bytes_eq (codes "table") id)) [
              | inl e ↦ at (codes "table") e (let n = flag_times table parts in let l = give.of_table in let few = few_wishes given.table in omega (arith, n, l, few))
              | inr t ↦ elim (cases_Bool (bytes_eq (codes "local") id)) [
                | inl e ↦ at (codes "local") e (let n = flag_times local parts in let l = give.of_local in let few = few_wishes given.local in omega (arith, n, l, few))
                | inr l ↦ elim (cases_Bool (bytes_eq (codes "thorough") id)) [
                  | inl e ↦ at (codes "thorough") e (let n = flag_times thorough parts in let l = give.of_thorough in let few = few_wishes given.thorough in omega (arith, n, l, few))
                  | inr h ↦ elim (cases_Bool (bytes_eq (codes "turns") id)) [
                    | inl e ↦ at (codes "turns") e (let n = flag_times turns parts in let l = give.of_turns in let few = few_wishes given.turns in omega (arith, n, l, few))
                    | inr u ↦ let none = no_other id j w s d (no_flag t l h u) parts in omega (arith, none)
                  ]
                ]
              ]
            ]
          ]
        ]
      ]
    ]
  where
    at : (known : Text) → bytes_eq known id ≡ true → times known parts ≤ 1 → times id parts ≤ 1
    at known e few = subst (λ (i : Text). times i parts ≤ 1) ((bytes_eq-Decides known id).0 e) few

    no_flag : bytes_eq (codes "table") id ≡ false → bytes_eq (codes "local") id ≡ false → bytes_eq (codes "thorough") id ≡ false → bytes_eq (codes "turns") id ≡ false → (wish : Flag) → bytes_eq (bare_flag wish) id ≡ false
    no_flag t l h u table = t
    no_flag t l h u local = l
    no_flag t l h u thorough = h
    no_flag t l h u turns = u
