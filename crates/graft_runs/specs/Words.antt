-- The words of the command line.
use Rattle.std.specs.Prelude.{ℕ, List, [], ◌∷◌, Bool, ◌&&◌, ◌==◌, ◌^◌, ◌-◌, nat_le, length, if◌then◌else◌, Option, Some, None, codes}
use Rattle.std.specs.List.{list_all}
use Rattle.std.specs.Char.{is_ascii_digit}
use Rattle.std.specs.Option.{option_and_then}
use Rattle.std.specs.Str.Parse.{digits_value}
use Rattle.std.specs.Cmp.Lexicographic.{pointwise}
use Rattle.check_runs.specs.Words.{is_file}
use Rattle.graft_runs.specs.declared.words.Command.{Command}
use Rattle.graft_runs.specs.declared.words.Command.TheVariants.{Below, Thorough, Breaks, Nodes}
use Rattle.graft_runs.specs.declared.words.Budget.{Budget}
use Rattle.graft_runs.specs.declared.words.Budget.TheVariants.{Steps, Seconds}

-- the most steps of a budget: a time leaves as many as there may be
abbrev pub most_steps : Budget → ℕ
most_steps (Steps steps) = steps
most_steps (Seconds seconds) = 10 ^ 9

-- the most steps of a command; a list of nodes takes none
abbrev pub steps_of : Command → ℕ
steps_of (Below node steps) = steps
steps_of (Thorough node budget) = most_steps budget
steps_of (Breaks steps) = steps
steps_of (Nodes most) = 0

-- whether two words are the same
abbrev pub is_word : List ℕ → List ℕ → Bool
is_word = pointwise (λ a b. a == b)

-- whether a word is one to ten decimal digits
abbrev pub is_number : List ℕ → Bool
is_number word = nat_le 1 (length word) && nat_le (length word) 10 && list_all is_ascii_digit word

-- the number that a word is, where it isn't too large
abbrev pub number_within : ℕ → List ℕ → Option ℕ
number_within most word = if is_number word && nat_le (digits_value 10 word) most then Some (digits_value 10 word) else None

-- the files that a command names: that of the instance, and that of the report
pub record Named : Type 0 where
  pub instance : List ℕ
  pub report : List ℕ

-- what the words ask for: a command, and its files
pub record Asked : Type 0 where
  pub command : Command
  pub files : Named

-- what a command with its files asks for, where both words may name files
abbrev pub asked : List ℕ → List ℕ → Command → Option Asked
asked instance report command =
    if is_file instance && is_file report then Some (record { command = command; files = record { instance = instance; report = report } }) else None

-- the command `below` of a node below 2^32 and of at most 10^9 steps
abbrev pub below_of : List ℕ → List ℕ → Option Command
below_of node steps =
    option_and_then (λ k. option_and_then (λ n. Some (Below k n)) (number_within (10 ^ 9) steps)) (number_within (2 ^ 32 - 1) node)

-- the thorough search below a node of at most 10^9 steps
abbrev pub thorough_of : List ℕ → List ℕ → Option Command
thorough_of node steps =
    option_and_then (λ k. option_and_then (λ n. Some (Thorough k (Steps n))) (number_within (10 ^ 9) steps)) (number_within (2 ^ 32 - 1) node)

-- the thorough search below a node of at most 10^9 seconds
abbrev pub timed_of : List ℕ → List ℕ → Option Command
timed_of node seconds =
    option_and_then (λ k. option_and_then (λ n. Some (Thorough k (Seconds n))) (number_within (10 ^ 9) seconds)) (number_within (2 ^ 32 - 1) node)

-- the command `breaks` of at most 10^9 steps
abbrev pub breaks_of : List ℕ → Option Command
breaks_of steps = option_and_then (λ n. Some (Breaks n)) (number_within (10 ^ 9) steps)

-- the command `nodes` of at most 10^9 nodes
abbrev pub nodes_of : List ℕ → Option Command
nodes_of most = option_and_then (λ n. Some (Nodes n)) (number_within (10 ^ 9) most)

-- what `below INSTANCE REPORT NODE STEPS`, with `--thorough` behind it or not, `below INSTANCE REPORT NODE --seconds T --thorough`,
-- `breaks INSTANCE REPORT STEPS` and `nodes INSTANCE REPORT N` ask for; other words ask for nothing
abbrev pub request_of : List (List ℕ) → Option Asked
request_of [] = None
request_of (name ∷ []) = None
request_of (name ∷ instance ∷ []) = None
request_of (name ∷ instance ∷ report ∷ []) = None
request_of (name ∷ instance ∷ report ∷ number ∷ []) =
    if is_word name (codes "breaks") then option_and_then (asked instance report) (breaks_of number)
    else if is_word name (codes "nodes") then option_and_then (asked instance report) (nodes_of number)
    else None
request_of (name ∷ instance ∷ report ∷ node ∷ steps ∷ []) = if is_word name (codes "below") then option_and_then (asked instance report) (below_of node steps) else None
request_of (name ∷ instance ∷ report ∷ node ∷ steps ∷ last ∷ []) =
    if is_word name (codes "below") && is_word last (codes "--thorough") then option_and_then (asked instance report) (thorough_of node steps) else None
request_of (name ∷ instance ∷ report ∷ node ∷ flag ∷ seconds ∷ last ∷ []) =
    if is_word name (codes "below") && is_word flag (codes "--seconds") && is_word last (codes "--thorough") then option_and_then (asked instance report) (timed_of node seconds) else None
request_of (name ∷ instance ∷ report ∷ node ∷ flag ∷ seconds ∷ last ∷ more ∷ rest) = None
