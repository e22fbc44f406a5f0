-- The words of the command line as a set: which words there are, and what they ask for. Nothing here says how words are read.
use Rattle.std.specs.Prelude.{◌≡◌, ◌⊎◌, ◌↔◌, ℕ, ◌≤◌, IfSome, List, [], ◌∷◌, ◌++◌, length, count_by, Bool, true, false, ◌&&◌, ◌||◌, not, ◌==◌, nat_le, if◌then◌else◌, Option, Some, None, is_some, option_map, option_and_then, codes}
use Rattle.std.specs.List.{flat_map, list_all}
use Rattle.std.specs.Option.{option_to_list}
use Rattle.std.specs.Char.{is_ascii_digit}
use Rattle.std.specs.Str.Parse.{digits_value}
use Rattle.solve_words.specs.declared.command.Method.{Method}
use Rattle.solve_words.specs.declared.command.Method.TheVariants.{Greedy, Local, Thorough}

-- ---- the parts of a command line

-- the options that have a number: how many workers search, how many steps may be taken, and from which number an instance is made
pub data Setting : Type 0 where
  workers : Setting
  steps : Setting
  demo : Setting

-- the flags, which are options without a number: the wish for a table of the plan, that for a local search of plans, that for a
-- thorough search, and that for workers who take turns in the order of tickets
pub data Flag : Type 0 where
  table : Flag
  local : Flag
  thorough : Flag
  turns : Flag

-- what may stand behind `solve`: the path of a journal, an option with the digits of its number, and a flag
pub data Part : Type 0 where
  journal : List ℕ → Part
  number : Setting → List ℕ → Part
  flag : Flag → Part

-- the name of an option
abbrev pub name_of : Setting → List ℕ
name_of workers = codes "--workers"
name_of steps = codes "--steps"
name_of demo = codes "--demo"

-- the name of a flag
abbrev pub name_of_flag : Flag → List ℕ
name_of_flag table = codes "--table"
name_of_flag local = codes "--local"
name_of_flag thorough = codes "--thorough"
name_of_flag turns = codes "--turns"

-- a part is these words; the digits of an option are its next word, or stand behind `=` in the same one
abbrev pub IsSpelled : Part → List (List ℕ) → Type 0
IsSpelled (journal path) words = words ≡ path ∷ []
IsSpelled (number setting digits) words =
    (words ≡ name_of setting ∷ digits ∷ []) ⊎ (words ≡ (name_of setting ++ (codes "=" ++ digits)) ∷ [])
IsSpelled (flag wish) words = words ≡ name_of_flag wish ∷ []

-- parts, one behind another, are these words
abbrev pub AreSpelled : List Part → List (List ℕ) → Type 0
AreSpelled [] words = words ≡ []
AreSpelled (part ∷ parts) words = (first : List (List ℕ)) × (rest : List (List ℕ)) × IsSpelled part first × AreSpelled parts rest × (words ≡ first ++ rest)

-- ---- what parts give

-- a path, and none of another part
abbrev pub path_in : Part → List (List ℕ)
path_in (journal path) = path ∷ []
path_in (number setting digits) = []
path_in (flag wish) = []

abbrev pub is_same : Setting → Setting → Bool
is_same workers workers = true
is_same steps steps = true
is_same demo demo = true
is_same _ _ = false

-- the digits of that option, and none of another part
abbrev pub digits_in : Setting → Part → List (List ℕ)
digits_in setting (journal path) = []
digits_in setting (number other digits) = if is_same setting other then digits ∷ [] else []
digits_in setting (flag wish) = []

abbrev pub is_same_flag : Flag → Flag → Bool
is_same_flag table table = true
is_same_flag local local = true
is_same_flag thorough thorough = true
is_same_flag turns turns = true
is_same_flag _ _ = false

-- whether a part is that flag
abbrev pub is_flag : Flag → Part → Bool
is_flag wish (journal path) = false
is_flag wish (number setting digits) = false
is_flag wish (flag other) = is_same_flag wish other

-- what a command line gives: a path, the digits of each option, and whether each flag is there
pub record Given : Type 0 where
  pub journal : Option (List ℕ)
  pub workers : Option (List ℕ)
  pub steps : Option (List ℕ)
  pub demo : Option (List ℕ)
  pub table : Bool
  pub local : Bool
  pub thorough : Bool
  pub turns : Bool

-- parts give that: each kind of part is among them at most once
pub record Give (parts : List Part) (given : Given) : Type 0 where
  pub of_journal : flat_map path_in parts ≡ option_to_list given.journal
  pub of_workers : flat_map (digits_in workers) parts ≡ option_to_list given.workers
  pub of_steps : flat_map (digits_in steps) parts ≡ option_to_list given.steps
  pub of_demo : flat_map (digits_in demo) parts ≡ option_to_list given.demo
  pub of_table : count_by (is_flag table) parts ≡ (if given.table then 1 else 0)
  pub of_local : count_by (is_flag local) parts ≡ (if given.local then 1 else 0)
  pub of_thorough : count_by (is_flag thorough) parts ≡ (if given.thorough then 1 else 0)
  pub of_turns : count_by (is_flag turns) parts ≡ (if given.turns then 1 else 0)

-- words give that: they are the words of parts, in any order, each kind of part at most once
abbrev pub IsGivenBy : List (List ℕ) → Given → Type 0
IsGivenBy words given = (parts : List Part) × AreSpelled parts words × Give parts given

-- ---- what is asked for

-- whether a word may name a journal: it isn't empty and doesn't begin with `-` (45)
abbrev pub is_journal : List ℕ → Bool
is_journal [] = false
is_journal (first ∷ rest) = not (first == 45)

-- whether a word is one to ten decimal digits
abbrev pub is_number : List ℕ → Bool
is_number word = nat_le 1 (length word) && nat_le (length word) 10 && list_all is_ascii_digit word

-- the limits of each number
abbrev pub least : Setting → ℕ
least workers = 1
least steps = 0
least demo = 0

abbrev pub most : Setting → ℕ
most workers = 9999
most steps = 4000000000
most demo = 999999

-- the number that a word is, where it lies within limits
abbrev pub number_within : ℕ → ℕ → List ℕ → Option ℕ
number_within low high word = if is_number word && (nat_le low (digits_value 10 word) && nat_le (digits_value 10 word) high) then Some (digits_value 10 word) else None

abbrev pub number_in : Setting → List ℕ → Option ℕ
number_in setting = number_within (least setting) (most setting)

-- what the words ask for: a search over the journal at a path, by so many workers where that is said, of so many steps, with the
-- table of its plan or without, by a method, and by workers who take turns or not; or a demonstration, which is a search without a journal, of so many steps, for the
-- instance made from a number
pub data Asked : Type 0 where
  over_journal : List ℕ → Option ℕ → ℕ → Bool → Method → Bool → Asked
  from_number : ℕ → ℕ → Asked

-- the budget of steps: a thousand where none is given
abbrev pub budget_in : Option (List ℕ) → Option ℕ
budget_in None = Some 1000
budget_in (Some digits) = number_in steps digits

-- the number of workers, where one is given
abbrev pub workers_in : Option (List ℕ) → Option (Option ℕ)
workers_in None = Some None
workers_in (Some digits) = option_map (λ n. Some n) (number_in workers digits)

-- the method that the flags `--local` and `--thorough` ask for, where they are there or not; there is none for both
abbrev pub method_of : Bool → Bool → Option Method
method_of false false = Some Greedy
method_of true false = Some Local
method_of false true = Some Thorough
method_of true true = None

abbrev pub method_in : Given → Option Method
method_in given = method_of given.local given.thorough

-- a search over the journal at a path
abbrev pub search_on : List ℕ → Given → Option Asked
search_on path given = if is_journal path
    then option_and_then (λ count. option_and_then (λ budget. option_map (λ method. over_journal path count budget given.table method given.turns) (method_in given)) (budget_in given.steps)) (workers_in given.workers)
    else None

-- a demonstration has neither workers nor a flag
abbrev pub demonstration_of : List ℕ → Given → Option Asked
demonstration_of digits given = if is_some given.workers || (given.table || (given.local || (given.thorough || given.turns))) then None
    else option_and_then (λ n. option_map (λ budget. from_number n budget) (budget_in given.steps)) (number_in demo digits)

-- exactly one of a journal and a demonstration is asked for
abbrev pub asked_by : Option (List ℕ) → Option (List ℕ) → Given → Option Asked
asked_by (Some path) None given = search_on path given
asked_by None (Some digits) given = demonstration_of digits given
asked_by (Some path) (Some digits) given = None
asked_by None None given = None

abbrev pub asked_in : Given → Option Asked
asked_in given = asked_by given.journal given.demo given

-- what was found in words behind `solve`: they give it, if there is anything; and it is there, if what they give asks for something
pub record IsFoundIn (words : List (List ℕ)) (found : Option Given) : Type 0 where
  pub gives : (given : Given) → found ≡ Some given → IsGivenBy words given
  pub finds : (given : Given) (asked : Asked) → IsGivenBy words given → asked_in given ≡ Some asked → found ≡ Some given

-- ---- the set of words

-- the words ask for that: the first is `solve`, and the others give it
pub record Asks (words : List (List ℕ)) (asked : Asked) : Type 0 where
  pub rest : List (List ℕ)
  pub verb : words ≡ codes "solve" ∷ rest
  pub given : Given
  pub gives : IsGivenBy rest given
  pub asks : asked_in given ≡ Some asked

-- that, and nothing else, is what the words ask for; where there is nothing, they are no command
abbrev pub IsReadAs : List (List ℕ) → Option Asked → Type 0
IsReadAs words found = (asked : Asked) → Asks words asked ↔ (found ≡ Some asked)

-- what is asked for has its numbers within their limits
abbrev pub IsWithin : Asked → Type 0
IsWithin (over_journal path count budget wish method by_turns) = IfSome count (λ n. (1 ≤ n) × (n ≤ 9999)) × (budget ≤ 4000000000)
IsWithin (from_number n budget) = (n ≤ 999999) × (budget ≤ 4000000000)
