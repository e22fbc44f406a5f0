-- What the parser finds in words, and what the words give.
use Rattle.solve_words.proofs.Common.{◌≡◌, ◌≢◌, ◌∙◌, inl, inr, sym, ap, subst, refl, ℕ, Bool, true, false, List, [], ◌∷◌, ◌++◌, codes, length, Option, Some, None, arith, option_and_then, ◌==◌, is_some, flat_map, list_all, option_to_list, is_ascii_digit, and_parts, cases_Bool, eqb-true, false≢true, true≢false, fault_of, HasKind, IsAmong, Kinds, kind_of, matches_of, has_row, one_of, Text, has_separator, options_app, asked_in, budget_in, demo, demonstration_of, digits_in, flag, from_number, is_journal, is_number, journal, local, method_of, number, number_in, over_journal, path_in, Part, search_on, Setting, steps, table, thorough, turns, workers, workers_in, AreSpelled, Asked, Flag, Give, Given, IsFoundIn, IsGivenBy, IsReadAs, IsSpelled}
use Rattle.std.specs.Prelude.{option_map, nat_le, ◌&&◌}
use Rattle.std.proofs.lemmas.Option.{same_Some}
use Rattle.clap.specs.declared.error.Error.{Error}
use Rattle.clap.specs.declared.error.kind.ErrorKind.TheVariants as kind
use Rattle.solve_words.proofs.Classes.{first_apart, path_bare, IsBare}
use Rattle.solve_words.proofs.Digits.{digit_small}
use Rattle.solve_words.proofs.Ends.{fault_parts, matches_are, no_fault}
use Rattle.solve_words.proofs.Rows.{bare_flag, rows_for}
use Rattle.solve_words.proofs.Giving.{flag_text, is_wished, rows_give, rows_said, said_by, wish_text}
use Rattle.solve_words.proofs.Singles.{none_single}
use Rattle.solve_words.proofs.Spelled.{given_single, taken_from, ArePlain, IsPlain}
use Rattle.solve_words.proofs.Walks.{at_part, read_from}

-- words that the parser takes give what its rows say
pub found_given : (words : List Text) → has_separator words ≡ false → fault_of options_app words ≡ [] → IsGivenBy words (said_by (matches_of options_app words))
found_given words plain e =
    let p = fault_parts words e in
    let f = read_from words (at_part [] None false) (record { may = tt; single = none_single; plain = plain; fault = p.0; settle = p.1 }) in
    (f.parts, f.spelled, subst (λ rows. Give f.parts (said_by rows)) (sym (matches_are words f.parts f.held)) (rows_give f.parts f.single))

-- ---- what asks for something has numbers, and a path that is no flag

digits_bare : (digits : Text) → is_number digits ≡ true → IsBare digits
digits_bare [] e = absurd (false≢true e)
digits_bare (d ∷ ds) e =
    let all = (and_parts (nat_le 1 (length (d ∷ ds)) && nat_le (length (d ∷ ds)) 10) (list_all is_ascii_digit (d ∷ ds)) e).1 in
    let digit = (and_parts (is_ascii_digit d) (list_all is_ascii_digit ds) all).0 in
    let low = (digit_small d digit).1 in
    first_apart d ds (elim (cases_Bool (d == 45)) [ inl same ↦ absurd (let is : d ≡ 45 = eqb-true d 45 same in omega (arith, low, is)) | inr differs ↦ differs ])

number_bare : (setting : Setting) (digits : Text) (n : ℕ) → number_in setting digits ≡ Some n → IsBare digits
number_bare setting digits n e = elim (cases_Bool (is_number digits)) [
  | inl is ↦ digits_bare digits is
  | inr not ↦ absurd (none_some n (sym (none_in not) ∙ e))
]
  where
    none_some : (n : ℕ) → None ≡ Some n → ⊥
    none_some n h = false≢true (ap is_some h)

    none_in : is_number digits ≡ false → number_in setting digits ≡ None
    none_in not = rw not refl

and_then_some : {A B : Type 0} (f : A → Option B) (o : Option A) (b : B) → option_and_then f o ≡ Some b → (a : A) × (o ≡ Some a) × (f a ≡ Some b)
and_then_some f None b e = absurd (false≢true (ap is_some e))
and_then_some f (Some a) b e = (a, refl, e)

map_some : {A B : Type 0} (f : A → B) (o : Option A) (b : B) → option_map f o ≡ Some b → (a : A) × (o ≡ Some a)
map_some f None b e = absurd (false≢true (ap is_some e))
map_some f (Some a) b e = (a, refl)

abbrev PlainIn : Option Text → Type 0
PlainIn None = Unit {0}
PlainIn (Some text) = IsBare text

budget_plain : (o : Option Text) (n : ℕ) → budget_in o ≡ Some n → PlainIn o
budget_plain None n e = tt
budget_plain (Some digits) n e = number_bare steps digits n e

workers_plain : (o : Option Text) (n : Option ℕ) → workers_in o ≡ Some n → PlainIn o
workers_plain None n e = tt
workers_plain (Some digits) n e = let found = map_some (λ (k : ℕ). Some k) (number_in workers digits) n e in number_bare workers digits found.0 found.1

record ArePlainIn (given : Given) : Type 0 where
  journal_is : PlainIn given.journal
  workers_are : PlainIn given.workers
  steps_are : PlainIn given.steps
  demo_is : PlainIn given.demo

-- what is given by a path or a number, and whatever else
abbrev given_of : Option Text → Option Text → Option Text → Option Text → Bool → Bool → Bool → Bool → Given
given_of j w s d t l h u = record { journal = j; workers = w; steps = s; demo = d; table = t; local = l; thorough = h; turns = u }

search_plain : (path : Text) (w s : Option Text) (t l h u : Bool) (asked : Asked) → search_on path (given_of (Some path) w s None t l h u) ≡ Some asked → ArePlainIn (given_of (Some path) w s None t l h u)
search_plain path w s t l h u asked e = elim (cases_Bool (is_journal path)) [
  | inl is ↦
      let last : Option ℕ → ℕ → Option Asked = λ count budget. option_map (λ method. over_journal path count budget t method u) (method_of l h) in
      let next : Option ℕ → Option Asked = λ count. option_and_then (last count) (budget_in s) in
      let same : search_on path (given_of (Some path) w s None t l h u) ≡ option_and_then next (workers_in w) = rw is refl in
      let crew = and_then_some next (workers_in w) asked (sym same ∙ e) in
      let budget = and_then_some (last crew.0) (budget_in s) asked crew.2 in
      record { journal_is = path_bare path is; workers_are = workers_plain w crew.0 crew.1; steps_are = budget_plain s budget.0 budget.1; demo_is = tt }
  | inr not ↦ absurd (false≢true (ap is_some (let none : search_on path (given_of (Some path) w s None t l h u) ≡ None = rw not refl in sym none ∙ e)))
]

demo_plain : (digits : Text) (w s : Option Text) (t l h u : Bool) (asked : Asked)
    → demonstration_of digits (given_of None w s (Some digits) t l h u) ≡ Some asked → ArePlainIn (given_of None w s (Some digits) t l h u)
demo_plain digits (Some crew) s t l h u asked e = absurd (false≢true (ap is_some e))
demo_plain digits None s true l h u asked e = absurd (false≢true (ap is_some e))
demo_plain digits None s false true h u asked e = absurd (false≢true (ap is_some e))
demo_plain digits None s false false true u asked e = absurd (false≢true (ap is_some e))
demo_plain digits None s false false false true asked e = absurd (false≢true (ap is_some e))
demo_plain digits None s false false false false asked e =
    let next : ℕ → Option Asked = λ n. option_map (λ budget. from_number n budget) (budget_in s) in
    let n = and_then_some next (number_in demo digits) asked e in
    let budget = map_some (λ budget. from_number n.0 budget) (budget_in s) asked n.2 in
    record { journal_is = tt; workers_are = tt; steps_are = budget_plain s budget.0 budget.1; demo_is = number_bare demo digits n.0 n.1 }

asked_plain : (j w s d : Option Text) (t l h u : Bool) (asked : Asked) → asked_in (given_of j w s d t l h u) ≡ Some asked → ArePlainIn (given_of j w s d t l h u)
asked_plain (Some path) w s None t l h u asked e = search_plain path w s t l h u asked e
asked_plain None w s (Some digits) t l h u asked e = demo_plain digits w s t l h u asked e
asked_plain (Some path) w s (Some digits) t l h u asked e = absurd (false≢true (ap is_some e))
asked_plain None w s None t l h u asked e = absurd (false≢true (ap is_some e))

-- ---- and so have the parts that give it

abbrev AllPlain : List Text → Type 0
AllPlain [] = Unit {0}
AllPlain (x ∷ xs) = IsBare x × AllPlain xs

all_plain : (parts : List Part) → AllPlain (flat_map path_in parts) → AllPlain (flat_map (digits_in workers) parts) → AllPlain (flat_map (digits_in steps) parts) → AllPlain (flat_map (digits_in demo) parts) → ArePlain parts
all_plain [] j w s d = tt
all_plain (journal path ∷ parts) j w s d = (j.0, all_plain parts j.1 w s d)
all_plain (number workers digits ∷ parts) j w s d = (w.0, all_plain parts j w.1 s d)
all_plain (number steps digits ∷ parts) j w s d = (s.0, all_plain parts j w s.1 d)
all_plain (number demo digits ∷ parts) j w s d = (d.0, all_plain parts j w s d.1)
all_plain (flag wish ∷ parts) j w s d = (tt, all_plain parts j w s d)

list_plain : (o : Option Text) → PlainIn o → AllPlain (option_to_list o)
list_plain None plain = tt
list_plain (Some x) plain = (plain, tt)

parts_plain : (parts : List Part) (given : Given) → Give parts given → ArePlainIn given → ArePlain parts
parts_plain parts given give plain = all_plain parts
    (subst AllPlain (sym give.of_journal) (list_plain given.journal plain.journal_is))
    (subst AllPlain (sym give.of_workers) (list_plain given.workers plain.workers_are))
    (subst AllPlain (sym give.of_steps) (list_plain given.steps plain.steps_are))
    (subst AllPlain (sym give.of_demo) (list_plain given.demo plain.demo_is))

-- ---- words that give something

given_plain : (words : List Text) (given : Given) (asked : Asked) → (by : IsGivenBy words given) → asked_in given ≡ Some asked → ArePlain by.0
given_plain words given asked by asks = parts_plain by.0 given by.2 (asked_plain given.journal given.workers given.steps given.demo given.table given.local given.thorough given.turns asked asks)

-- the parser takes them, and its rows say what they give
pub given_found : (words : List Text) (given : Given) (asked : Asked) → IsGivenBy words given → asked_in given ≡ Some asked → (fault_of options_app words ≡ []) × (said_by (matches_of options_app words) ≡ given)
given_found words given asked by asks =
    let t = taken_from by.0 words [] None false tt (given_plain words given asked by asks) by.1 (given_single by.0 given by.2) refl in
    (no_fault words t.walk t.settle, ap said_by (matches_are words by.0 t.held) ∙ rows_said by.0 given by.2)

-- and none of them is `--`
separate : (parts : List Part) (words : List Text) → ArePlain parts → AreSpelled parts words → has_separator words ≡ false
separate [] words plain spelled = ap has_separator spelled
separate (part ∷ parts) words plain spelled = ap has_separator spelled.4 ∙ first_separate part spelled.0 spelled.1 plain.0 spelled.2 (separate parts spelled.1 plain.1 spelled.3)
  where
    first_separate : (p : Part) (first rest : List Text) → IsPlain p → IsSpelled p first → has_separator rest ≡ false → has_separator (first ++ rest) ≡ false
    first_separate (journal path) first rest bare is none = ap (λ (ws : List Text). has_separator (ws ++ rest)) is ∙ rw bare.separate none
    first_separate (number workers digits) first rest bare (inl is) none = ap (λ (ws : List Text). has_separator (ws ++ rest)) is ∙ rw bare.separate none
    first_separate (number steps digits) first rest bare (inl is) none = ap (λ (ws : List Text). has_separator (ws ++ rest)) is ∙ rw bare.separate none
    first_separate (number demo digits) first rest bare (inl is) none = ap (λ (ws : List Text). has_separator (ws ++ rest)) is ∙ rw bare.separate none
    first_separate (number workers digits) first rest bare (inr is) none = ap (λ (ws : List Text). has_separator (ws ++ rest)) is ∙ none
    first_separate (number steps digits) first rest bare (inr is) none = ap (λ (ws : List Text). has_separator (ws ++ rest)) is ∙ none
    first_separate (number demo digits) first rest bare (inr is) none = ap (λ (ws : List Text). has_separator (ws ++ rest)) is ∙ none
    first_separate (flag table) first rest bare is none = ap (λ (ws : List Text). has_separator (ws ++ rest)) is ∙ none
    first_separate (flag local) first rest bare is none = ap (λ (ws : List Text). has_separator (ws ++ rest)) is ∙ none
    first_separate (flag thorough) first rest bare is none = ap (λ (ws : List Text). has_separator (ws ++ rest)) is ∙ none
    first_separate (flag turns) first rest bare is none = ap (λ (ws : List Text). has_separator (ws ++ rest)) is ∙ none

pub given_separate : (words : List Text) (given : Given) (asked : Asked) → IsGivenBy words given → asked_in given ≡ Some asked → has_separator words ≡ false
given_separate words given asked by asks = separate by.0 words (given_plain words given asked by asks) by.1

-- ---- what the parser's answer says

-- a fault that isn't running out of memory
pub has_fault : (kinds : Kinds) (e : Error) → HasKind kinds e → kind_of e ≢ kind.OutOfMemory → kinds ≢ []
has_fault kinds e (inl memory) other none = other memory
has_fault kinds e (inr among) other none = subst (IsAmong (kind_of e)) none among

-- a flag is there where its row says so
told : (b has : Bool) (o : Option Text) → o ≡ Some (wish_text has) → (o ≡ Some (codes "true") → b ≡ true) → (o ≡ Some (codes "false") → b ≡ false) → b ≡ is_wished o
told b true o is wished other = wished is ∙ sym (ap is_wished is)
told b false o is wished other = other is ∙ sym (ap is_wished is)

pub flag_found : (wish : Flag) (words : List Text) → has_separator words ≡ false → fault_of options_app words ≡ [] → (b : Bool) (o : Option Text) → o ≡ one_of (bare_flag wish) (matches_of options_app words)
    → (o ≡ Some (codes "true") → b ≡ true) → (o ≡ Some (codes "false") → b ≡ false) → b ≡ is_wished (one_of (bare_flag wish) (matches_of options_app words))
flag_found wish words plain e b o is wished other =
    let p = fault_parts words e in
    let f = read_from words (at_part [] None false) (record { may = tt; single = none_single; plain = plain; fault = p.0; settle = p.1 }) in
    let says = is ∙ ap (one_of (bare_flag wish)) (matches_are words f.parts f.held) ∙ flag_text wish f.parts in
    told b (has_row (bare_flag wish) (rows_for f.parts)) o says wished other ∙ ap is_wished is

none_given : {A : Type 0} (given : Given) → None ≡ Some given → A
none_given given e = absurd (false≢true (ap is_some e))

pub separator_found : (words : List Text) → has_separator words ≡ true → IsFoundIn words None
separator_found words some = record {
  gives = λ given e. none_given given e;
  finds = λ given asked by asks. absurd (true≢false (sym some ∙ given_separate words given asked by asks));
}

pub fault_found : (words : List Text) → fault_of options_app words ≢ [] → IsFoundIn words None
fault_found words some = record {
  gives = λ given e. none_given given e;
  finds = λ given asked by asks. absurd (some (given_found words given asked by asks).0);
}

pub texts_found : (words : List Text) (texts : Given) → has_separator words ≡ false → fault_of options_app words ≡ [] → texts ≡ said_by (matches_of options_app words) → IsFoundIn words (Some texts)
texts_found words texts plain none is = record {
  gives = λ given e. subst (IsGivenBy words) (sym is ∙ same_Some texts given e) (found_given words plain none);
  finds = λ given asked by asks. ap (λ (g : Given). Some g) (is ∙ (given_found words given asked by asks).1);
}

-- ---- what the words ask for

abbrev tail : List Text → List Text
tail [] = []
tail (x ∷ xs) = xs

pub read_some : (words rest : List Text) (texts : Given) → words ≡ codes "solve" ∷ rest → IsFoundIn rest (Some texts) → IsReadAs words (asked_in texts)
read_some words rest texts is found = λ asked. (
  λ asks. ap asked_in (same_Some texts asks.given (found.finds asks.given asked (subst (λ (r : List Text). IsGivenBy r asks.given) (sym (same_rest asks.rest asks.verb)) asks.gives) asks.asks)) ∙ asks.asks,
  λ e. record { rest = rest; verb = is; given = texts; gives = found.gives texts refl; asks = e },
)
  where
    same_rest : (other : List Text) → words ≡ codes "solve" ∷ other → rest ≡ other
    same_rest other e = ap tail (sym is ∙ e)
