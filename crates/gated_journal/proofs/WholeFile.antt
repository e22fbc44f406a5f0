-- A journal's whole file, and its moments.
use Rattle.gated_journal.proofs.Common.{◌≡◌, inl, inr, ⊎_elim, ℕ, ◌+◌, ◌-◌, ◌≤◌, List, [], ◌∷◌, ◌++◌, length, get_or, take, drop, map, sym, ◌∙◌, ap, subst, arith, append_assoc, length-append, take-append-drop, append-nil, drop_all, take_rest, cases_eq, option_map, Option, None, Some, IfSome, OnSome, overwritten, WritesPart, HoldsThroughout, IsSynced, weaker, then_run, framed, gated, spelled, StandsFor, IsUnfinishedOr, IsSettled}
use Rattle.gated_journal.specs.Install.{IsUnfinishedOrThis}

-- each is shorter than the file
short_record : (file bytes : List ℕ) (rest : List (List ℕ)) (whole : List ℕ) → file ++ gated (bytes ∷ rest) ≡ whole → length bytes ≤ length whole
short_record file bytes rest whole is =
    omega (arith, ap length is, length-append file (gated (bytes ∷ rest)), length-append (framed bytes) (gated rest))

pub short_first : {V : Type 0} (f : V → List ℕ) (file : List ℕ) (rest : List V) (x : V) (whole : List ℕ) → file ++ gated (map f rest) ≡ whole → 1 ≤ length rest → x ≡ get_or rest 0 x → length (f x) ≤ length whole
short_first f file [] x whole is some first = omega (arith, some)
short_first f file (v ∷ rest) x whole is some first = omega (arith, short_record file (f v) (map f rest) whole is, ap (λ y. length (f y)) first)

-- the whole file stands for what it spells
pub whole_stands : (limit : ℕ) (head : List ℕ) (records : List (List ℕ)) → length (spelled head records) + 1 ≤ limit → StandsFor limit head records (spelled head records ++ 0 ∷ [])
whole_stands limit head records room = record {
  gate = 0;
  rest = [];
  spells = λ i. spelled head records ++ 0 ∷ [];
  closed = λ e. omega (arith, e);
  within = omega (arith, room, length-append (spelled head records) (0 ∷ []));
}

pub whole_settled : (limit : ℕ) (head : List ℕ) (records : List (List ℕ)) (bytes : List ℕ) (reads : Option (List ℕ)) (images : List ℕ → Type 0) → length (spelled head records) + 1 ≤ limit → bytes ≡ spelled head records ++ 0 ∷ []
    → IfSome reads (λ file. file ≡ bytes) → IsSynced reads images → IsSettled (record { head = head; records = records; limit = limit; spare = 0 }) reads images
whole_settled limit head records bytes None images room is done synced = tt
whole_settled limit head records bytes (Some file) images room is done synced =
    record { only = synced; stands = subst (StandsFor limit head records) (sym (done ∙ is)) (whole_stands limit head records room) }

pub whole_moments : {D : Type 0} (calls : D → ℕ) (since : D → ℕ → List ℕ → Type 0) (old new : D) (limit : ℕ) (head : List ℕ) (records : List (List ℕ)) (bytes : List ℕ) (reads : Option (List ℕ)) → length (spelled head records) + 1 ≤ limit
    → bytes ≡ spelled head records ++ 0 ∷ [] → OnSome reads (HoldsThroughout calls since old new (IsUnfinishedOrThis bytes)) → OnSome reads (HoldsThroughout calls since old new (IsUnfinishedOr limit head records))
whole_moments calls since old new limit head records bytes None room is run = run
whole_moments calls since old new limit head records bytes (Some file) room is run =
    weaker calls since old new (IsUnfinishedOrThis bytes) (IsUnfinishedOr limit head records)
    (λ c so. ⊎_elim (λ less. inl less) (λ whole. inr (subst (StandsFor limit head records) (sym (whole ∙ is)) (whole_stands limit head records room))) so) run

-- the rest of the file behind a byte 0
filled_behind : (rest : List ℕ) → overwritten 1 rest (0 ∷ []) ≡ 0 ∷ rest
filled_behind rest = ap (λ (l : List ℕ). 0 ∷ (rest ++ l)) (drop_all (1 + length rest) (0 ∷ []) (omega arith)) ∙ ap (λ (l : List ℕ). 0 ∷ l) (append-nil rest)

-- whatever a write of the first byte leaves, the file is unfinished or whole
first_torn : (bytes rest : List ℕ) → bytes ≡ 83 ∷ rest → (c : List ℕ) → WritesPart 0 1 (0 ∷ rest) c → IsUnfinishedOrThis bytes c
first_torn bytes rest is [] torn = inl (inl (omega arith))
first_torn bytes rest is (x ∷ c) torn =
    elim (cases_eq x 83) [
      | inl same ↦ inr ((λ i. same i ∷ torn.back i) ∙ sym is)
      | inr other ↦ inl (inr (λ e. other (ap (λ (l : List ℕ). get_or l 0 0) e)))
    ]

module _ {D : Type 0} (calls : D → ℕ) (since : D → ℕ → List ℕ → Type 0) (old : D) (bytes rest : List ℕ) (is : bytes ≡ 83 ∷ rest) where
  abbrev P : List ℕ → Type 0
  P = IsUnfinishedOrThis bytes

  -- the first write, of a byte 0
  pub zero_moments : (mid : D) (reads : Option (List ℕ)) → IfSome reads (λ file. file ≡ []) → IfSome reads (λ f. HoldsThroughout calls since old mid (WritesPart 0 1 f)) → OnSome reads (HoldsThroughout calls since old mid P)
  zero_moments mid None empty run = run
  zero_moments mid (Some file) empty run =
      weaker calls since old mid (WritesPart 0 1 file) P (λ c torn. inl (inl (omega (arith, torn.most, ap length empty)))) run

  -- the second, of the rest
  pub rest_moments : (zero mid : D) (reads zeroed : Option (List ℕ)) → IfSome reads (λ file. file ≡ []) → zeroed ≡ option_map (overwritten 0 (0 ∷ [])) reads
      → OnSome reads (HoldsThroughout calls since old zero P) → IfSome zeroed (λ f. HoldsThroughout calls since zero mid (WritesPart 1 (length rest) f)) → OnSome reads (HoldsThroughout calls since old mid P)
  rest_moments zero mid None zeroed empty written run next = run
  rest_moments zero mid (Some file) zeroed empty written run next =
      let there : zeroed ≡ Some (0 ∷ []) = written ∙ ap (λ (f : List ℕ). Some (overwritten 0 (0 ∷ []) f)) empty in
      let next' = subst (λ (o : Option (List ℕ)). IfSome o (λ f. HoldsThroughout calls since zero mid (WritesPart 1 (length rest) f))) there next in
      then_run calls since old zero mid P run
      (weaker calls since zero mid (WritesPart 1 (length rest) (0 ∷ [])) P
      (λ c torn. inl (inr (λ e. omega (arith, ap (λ (l : List ℕ). get_or l 0 0) (sym e ∙ torn.front))))) next')

  -- the third, of the first byte
  pub first_moments : (mid new : D) (reads zeroed filled : Option (List ℕ)) → IfSome reads (λ file. file ≡ []) → zeroed ≡ option_map (overwritten 0 (0 ∷ [])) reads → filled ≡ option_map (overwritten 1 rest) zeroed
      → OnSome reads (HoldsThroughout calls since old mid P) → IfSome filled (λ f. HoldsThroughout calls since mid new (WritesPart 0 1 f)) → OnSome reads (HoldsThroughout calls since old new P)
  first_moments mid new None zeroed filled empty written written' run next = run
  first_moments mid new (Some file) zeroed filled empty written written' run next =
      let there : zeroed ≡ Some (0 ∷ []) = written ∙ ap (λ (f : List ℕ). Some (overwritten 0 (0 ∷ []) f)) empty in
      let whole : filled ≡ Some (0 ∷ rest) = written' ∙ ap (option_map (overwritten 1 rest)) there ∙ ap Some (filled_behind rest) in
      let next' = subst (λ (o : Option (List ℕ)). IfSome o (λ f. HoldsThroughout calls since mid new (WritesPart 0 1 f))) whole next in
      then_run calls since old mid new P run (weaker calls since mid new (WritesPart 0 1 (0 ∷ rest)) P (first_torn bytes rest is) next')

-- bytes that begin with the first of the mark
pub marked_split : (bytes : List ℕ) → take 1 bytes ≡ 83 ∷ [] → bytes ≡ 83 ∷ take (length bytes - 1) (drop 1 bytes)
marked_split bytes is =
    sym (take-append-drop 1 bytes) ∙ ap (λ (l : List ℕ). l ++ drop 1 bytes) is ∙ ap (λ (l : List ℕ). 83 ∷ l) (sym (take_rest bytes 1))
