-- Every word is the name of an option, one with its number, a flag that is a wish, no flag at all, or a flag that is refused.
use Rattle.solve_words.proofs.Common.{◌≡◌, ◌≢◌, ◌∙◌, inl, inr, sym, ap, subst, refl, ℕ, zero, suc, ◌<◌, Bool, true, false, List, [], ◌∷◌, ◌++◌, length, codes, Option, Some, None, arith, ◌⊎◌, ◌==◌, if◌then◌else◌, IfSome, slice_get, option_map_or, bytes_eq, chars, cases_Bool, eqb-true, false≢true, bytes_eq-Decides, bundle_fault, bundle_step_fault, flag_word_fault, flags_fault, long_fault, word_fault, Kinds, long_of, name_and_value, short_of, arg_by_long, idle, option, positional, Row, Rule, Text, Waiting, demo, Flag, local, name_of, name_of_flag, Setting, steps, table, thorough, turns, workers}
use Rattle.clap.specs.declared.error.kind.ErrorKind.TheVariants as kind
use Rattle.clap.proofs.CutLemmas.{Lacks}
use Rattle.clap.proofs.LexerLemmas.{name_and_value-at, name_and_value-without}
use Rattle.solve_words.proofs.Rows.{bare_flag, bare_name, option_rules, shape}
use Rattle.std.proofs.lemmas.Bool.Decides.{nat_tests}
use Rattle.solve_words.proofs.Classes.{first_apart, held_of, IsBare}

-- a word that is refused, whatever came before it
pub record IsStrange (word : Text) : Type 0 where
  pub fault : (waiting : Waiting) (rows : List Row) (pending : Option (Text × List Text)) → word_fault shape [] false waiting word (held_of rows pending) ≢ []

pub data Sort (word : Text) : Type 0 where
  separator : word ≡ codes "--" → Sort word
  named : (setting : Setting) → word ≡ name_of setting → Sort word
  assigned : (setting : Setting) (digits : Text) → word ≡ name_of setting ++ (codes "=" ++ digits) → Sort word
  wished : (wish : Flag) → word ≡ name_of_flag wish → Sort word
  bare : IsBare word → Sort word
  strange : IsStrange word → Sort word

-- ---- a text, cut at its first `=`

lacks_more : (c x : ℕ) (xs : Text) → x ≢ c → Lacks c xs → Lacks c (x ∷ xs)
lacks_more c x xs differ lacks zero lt = differ
lacks_more c x xs differ lacks (suc i) lt = lacks i (omega arith)

record IsCut (c : ℕ) (text : Text) : Type 0 where
  name : Text
  rest : Text
  lacks : Lacks c name
  is : text ≡ name ++ c ∷ rest

apart : (x c : ℕ) → (x == c) ≡ false → x ≢ c
apart x c e same = false≢true (sym e ∙ ap (λ y. y == c) same ∙ eqb_same c)
  where
    eqb_same : (n : ℕ) → (n == n) ≡ true
    eqb_same n = grind (arith, nat_tests)

cut : (c : ℕ) (text : Text) → Lacks c text ⊎ IsCut c text
cut c [] = inl (λ i lt. absurd (omega arith))
cut c (x ∷ xs) = elim (cases_Bool (x == c)) [
  | inl e ↦ inr (record { name = []; rest = xs; lacks = λ i lt. absurd (omega arith); is = ap (λ y. y ∷ xs) (eqb-true x c e) })
  | inr e ↦ elim (cut c xs) [
    | inl lacks ↦ inl (lacks_more c x xs (apart x c e) lacks)
    | inr found ↦ inr (record { name = x ∷ found.name; rest = found.rest; lacks = lacks_more c x found.name (apart x c e) found.lacks; is = ap (λ (l : Text). x ∷ l) found.is })
  ]
]

-- ---- names

data Named (name : Text) : Type 0 where
  setting : (s : Setting) → name ≡ bare_name s → Named name
  flag_name : (wish : Flag) → name ≡ bare_flag wish → Named name
  unknown : arg_by_long option_rules name ≡ None → Named name

is_named : (known name : Text) → bytes_eq known name ≡ true → name ≡ known
is_named known name e = sym ((bytes_eq-Decides known name).0 e)

names : (name : Text) → Named name
names name = elim (cases_Bool (bytes_eq (codes "workers") name)) [
  | inl e ↦ setting workers (is_named (codes "workers") name e)
  | inr w ↦ elim (cases_Bool (bytes_eq (codes "steps") name)) [
    | inl e ↦ setting steps (is_named (codes "steps") name e)
    | inr s ↦ elim (cases_Bool (bytes_eq (codes "demo") name)) [
      | inl e ↦ setting demo (is_named (codes "demo") name e)
      | inr d ↦ elim (cases_Bool (bytes_eq (codes "table") name)) [
        | inl e ↦ flag_name table (is_named (codes "table") name e)
        | inr t ↦ elim (cases_Bool (bytes_eq (codes "local") name)) [
          | inl e ↦ flag_name local (is_named (codes "local") name e)
          | inr l ↦ elim (cases_Bool (bytes_eq (codes "thorough") name)) [
            | inl e ↦ flag_name thorough (is_named (codes "thorough") name e)
            | inr h ↦ elim (cases_Bool (bytes_eq (codes "turns") name)) [
              | inl e ↦ flag_name turns (is_named (codes "turns") name e)
              | inr u ↦ unknown (rw (w, s, d, t, l, h, u) refl)
            ]
          ]
        ]
      ]
    ]
  ]
]

-- ---- flags of two hyphens

module _ (z : ℕ) (zs : Text) where
  long_fault_is : (waiting : Waiting) (rows : List Row) (pending : Option (Text × List Text)) (p : Text × Option Text) → name_and_value (z ∷ zs) ≡ p
      → word_fault shape [] false waiting (45 ∷ 45 ∷ z ∷ zs) (held_of rows pending) ≡ long_fault option_rules false (arg_by_long option_rules p.0) p.1 (held_of rows pending)
  long_fault_is idle rows pending p e = ap (λ (q : Text × Option Text). long_fault option_rules false (arg_by_long option_rules q.0) q.1 (held_of rows pending)) e
  long_fault_is (option id) rows pending p e = ap (λ (q : Text × Option Text). long_fault option_rules false (arg_by_long option_rules q.0) q.1 (held_of rows pending)) e
  long_fault_is positional rows pending p e = ap (λ (q : Text × Option Text). long_fault option_rules false (arg_by_long option_rules q.0) q.1 (held_of rows pending)) e

  some_kind : (k : _) (ks found : Kinds) → found ≡ k ∷ ks → found ≢ []
  some_kind k ks found e none = absurd (cc)

  strange_name : (p : Text × Option Text) → name_and_value (z ∷ zs) ≡ p → arg_by_long option_rules p.0 ≡ None → IsStrange (45 ∷ 45 ∷ z ∷ zs)
  strange_name p e none = record {
    fault = λ waiting rows pending. some_kind kind.UnknownArgument [] _
        (long_fault_is waiting rows pending p e ∙ ap (λ (a : Option Rule). long_fault option_rules false a p.1 (held_of rows pending)) none);
  }

  strange_flag : (wish : Flag) (v : Text) → name_and_value (z ∷ zs) ≡ (bare_flag wish, Some v) → IsStrange (45 ∷ 45 ∷ z ∷ zs)
  strange_flag table v e = record { fault = λ waiting rows pending. some_kind kind.TooManyValues [] _ (long_fault_is waiting rows pending (codes "table", Some v) e) }
  strange_flag local v e = record { fault = λ waiting rows pending. some_kind kind.TooManyValues [] _ (long_fault_is waiting rows pending (codes "local", Some v) e) }
  strange_flag thorough v e = record { fault = λ waiting rows pending. some_kind kind.TooManyValues [] _ (long_fault_is waiting rows pending (codes "thorough", Some v) e) }
  strange_flag turns v e = record { fault = λ waiting rows pending. some_kind kind.TooManyValues [] _ (long_fault_is waiting rows pending (codes "turns", Some v) e) }

  -- without a value
  sort_name : Lacks 61 (z ∷ zs) → Sort (45 ∷ 45 ∷ z ∷ zs)
  sort_name lacks =
      let e = name_and_value-without (z ∷ zs) lacks in
      elim (names (z ∷ zs)) [
        | setting s is ↦ named s (ap (λ (l : Text). 45 ∷ 45 ∷ l) is ∙ long_name s)
        | flag_name wish is ↦ wished wish (ap (λ (l : Text). 45 ∷ 45 ∷ l) is ∙ long_flag wish)
        | unknown none ↦ strange (strange_name (z ∷ zs, None) e none)
      ]
    where
      long_name : (s : Setting) → 45 ∷ 45 ∷ bare_name s ≡ name_of s
      long_name workers = refl
      long_name steps = refl
      long_name demo = refl

      long_flag : (wish : Flag) → 45 ∷ 45 ∷ bare_flag wish ≡ name_of_flag wish
      long_flag table = refl
      long_flag local = refl
      long_flag thorough = refl
      long_flag turns = refl

  -- with one
  sort_value : IsCut 61 (z ∷ zs) → Sort (45 ∷ 45 ∷ z ∷ zs)
  sort_value found =
      let e : name_and_value (z ∷ zs) ≡ (found.name, Some found.rest) = ap name_and_value found.is ∙ name_and_value-at found.name found.rest found.lacks in
      elim (names found.name) [
        | setting s is ↦ assigned s found.rest (ap (λ (l : Text). 45 ∷ 45 ∷ l) (found.is ∙ ap (λ (l : Text). l ++ 61 ∷ found.rest) is) ∙ long_value s)
        | flag_name wish is ↦ strange (strange_flag wish found.rest (e ∙ ap (λ (l : Text). (l, Some found.rest)) is))
        | unknown none ↦ strange (strange_name (found.name, Some found.rest) e none)
      ]
    where
      long_value : (s : Setting) → 45 ∷ 45 ∷ (bare_name s ++ 61 ∷ found.rest) ≡ name_of s ++ (codes "=" ++ found.rest)
      long_value workers = refl
      long_value steps = refl
      long_value demo = refl

-- ---- flags of one hyphen

module _ (y : ℕ) (ys : Text) (differs : (y == 45) ≡ false) where
  short_is : short_of (45 ∷ y ∷ ys) ≡ Some (y ∷ ys)
  short_is = rw differs refl

  long_is : long_of (45 ∷ y ∷ ys) ≡ None
  long_is = rw differs refl

  bare_short : slice_get (chars (y ∷ ys)) 0 ≡ None → IsBare (45 ∷ y ∷ ys)
  bare_short none = record { separate = rw differs refl; long = long_is; short = subst (λ (o : Option Text). IfSome o (λ flags. slice_get (chars flags) 0 ≡ None)) (sym short_is) none }

  strange_flags : (x : ℕ) → slice_get (chars (y ∷ ys)) 0 ≡ Some x → (k : ℕ) → 0 < k → (rows : List Row) (pending : Option (Text × List Text))
      → flags_fault option_rules false k (y ∷ ys) 0 (held_of rows pending) ≡ kind.UnknownArgument ∷ []
  unfolding flags_fault
  strange_flags x e zero lt rows pending = absurd (omega arith)
  strange_flags x e (suc k) lt rows pending = ap (λ (o : Option ℕ). bundle_step_fault option_rules false o (y ∷ ys) 0 (held_of rows pending) (flags_fault option_rules false k)) e

  apart_is : bytes_eq (45 ∷ y ∷ ys) (45 ∷ 45 ∷ []) ≡ false
  apart_is = rw differs refl

  flag_fault_is : (rows : List Row) (pending : Option (Text × List Text))
      → (if bytes_eq (45 ∷ y ∷ ys) (45 ∷ 45 ∷ []) then [] else flag_word_fault option_rules false (long_of (45 ∷ y ∷ ys)) (45 ∷ y ∷ ys) (held_of rows pending)) ≡ bundle_fault option_rules false (y ∷ ys) (held_of rows pending)
  flag_fault_is rows pending =
      ap (λ (b : Bool). if b then [] else flag_word_fault option_rules false (long_of (45 ∷ y ∷ ys)) (45 ∷ y ∷ ys) (held_of rows pending)) apart_is
      ∙ ap (λ (o : Option (Text × Option Text)). flag_word_fault option_rules false o (45 ∷ y ∷ ys) (held_of rows pending)) long_is
      ∙ ap (λ (o : Option Text). option_map_or (λ flags. bundle_fault option_rules false flags (held_of rows pending)) o []) short_is

  short_fault_is : (waiting : Waiting) (rows : List Row) (pending : Option (Text × List Text))
      → word_fault shape [] false waiting (45 ∷ y ∷ ys) (held_of rows pending) ≡ bundle_fault option_rules false (y ∷ ys) (held_of rows pending)
  short_fault_is idle rows pending = flag_fault_is rows pending
  short_fault_is (option id) rows pending = flag_fault_is rows pending
  short_fault_is positional rows pending = flag_fault_is rows pending

  strange_short : (x : ℕ) → slice_get (chars (y ∷ ys)) 0 ≡ Some x → IsStrange (45 ∷ y ∷ ys)
  strange_short x e = record {
    fault = λ waiting rows pending none. let k : kind.UnknownArgument ∷ [] ≡ [] = sym (short_fault_is waiting rows pending ∙ strange_flags x e (length (y ∷ ys)) (omega arith) rows pending) ∙ none in absurd (cc);
  }

  sort_short : (o : Option ℕ) → slice_get (chars (y ∷ ys)) 0 ≡ o → Sort (45 ∷ y ∷ ys)
  sort_short None e = bare (bare_short e)
  sort_short (Some x) e = strange (strange_short x e)

-- ---- any word

sort_hyphen : (rest : Text) → Sort (45 ∷ rest)
sort_hyphen [] = bare (record { separate = refl; long = refl; short = tt })
sort_hyphen (y ∷ ys) = elim (cases_Bool (y == 45)) [
  | inl e ↦ subst (λ n. Sort (45 ∷ n ∷ ys)) (sym (eqb-true y 45 e)) (sort_hyphens ys)
  | inr e ↦ sort_short y ys e (slice_get (chars (y ∷ ys)) 0) refl
]
  where
    sort_hyphens : (rest : Text) → Sort (45 ∷ 45 ∷ rest)
    sort_hyphens [] = separator refl
    sort_hyphens (z ∷ zs) = elim (cut 61 (z ∷ zs)) [ inl lacks ↦ sort_name z zs lacks | inr found ↦ sort_value z zs found ]

pub sort_of : (word : Text) → Sort word
sort_of [] = bare (record { separate = refl; long = refl; short = tt })
sort_of (x ∷ xs) = elim (cases_Bool (x == 45)) [
  | inl e ↦ subst (λ n. Sort (n ∷ xs)) (sym (eqb-true x 45 e)) (sort_hyphen xs)
  | inr e ↦ bare (first_apart x xs e)
]
