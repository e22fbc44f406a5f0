-- A book after one more record.
use Rattle.search_book.proofs.Common.{◌≡◌, ⊎_elim, ℕ, ◌+◌, ◌*◌, ◌≤◌, List, [], ◌∷◌, ◌++◌, length, sym, ap, subst, arith, length-append, append-nil, cases_lt, OnSome, TellsAlike, HoldsThroughout, StandsFor, IsBeforeOrAfter, JournalView, IsSettled, HoldsPrefix}
use Rattle.std.specs.Prelude.{Option, None, Some}
use Rattle.search_book.proofs.Prefixes.{longer_run, whole_run, either_run}

module _ {D : Type 0} (calls : D → ℕ) (since : D → ℕ → List ℕ → Type 0) (images : D → List ℕ → Type 0) (only_now : (d : D) (c : List ℕ) → since d (calls d) c → images d c) where
  -- each image since the b-th of the added records
  abbrev pub Each : (limit : ℕ) (head : List ℕ) (run : List (List ℕ)) (disk opened : D) (opening added : ℕ) → Type 0
  Each limit head run disk opened opening added = (b : ℕ) (c : List ℕ) → b ≤ added → since disk (calls opened + 4 * b) c → HoldsPrefix limit head run (opening + b) c

  -- nothing was added yet
  pub started : (j : JournalView) (disk opened : D) (opening : ℕ) (reads : Option (List ℕ)) → opened ≡ disk → opening ≡ length j.records → IsSettled j reads (images disk) → OnSome reads (Each j.limit j.head (j.records ++ []) disk opened opening 0)
  started j disk opened opening None same counted settled = tt
  started j disk opened opening (Some file) same counted settled = λ b c le left.
      let first : calls opened + 4 * b ≡ calls disk = omega (arith, ap calls same, le) in
      let now = only_now disk c (subst (λ (t : ℕ). since disk t c) first left) in
      let stands = subst (StandsFor j.limit j.head j.records) (sym (settled.only c now)) settled.stands in
      longer_run j.limit j.head j.records [] (opening + b) c (whole_run j.limit j.head j.records (opening + b) c (omega (arith, counted, le)) stands)

  module _ (j : JournalView) (bytes : List ℕ) (disk new opened : D) (opening added : ℕ) (time : calls disk ≡ calls opened + 4 * added) (counted : length j.records ≡ opening + added) where
    -- the put is under way
    in_put : Each j.limit j.head (j.records ++ []) disk opened opening added → HoldsThroughout calls since disk new (IsBeforeOrAfter j.limit j.head j.records bytes) → Each j.limit j.head (j.records ++ bytes ∷ []) new opened opening added
    in_put each run b c le left =
        ⊎_elim
        (λ was. longer_run j.limit j.head j.records (bytes ∷ []) (opening + b) c (subst (λ (l : List (List ℕ)). HoldsPrefix j.limit j.head l (opening + b) c) (append-nil j.records) (each b c le was)))
        (λ now. either_run j.limit j.head j.records bytes (opening + b) c (omega (arith, counted, le)) now)
        (run.earlier (calls opened + 4 * b) c (omega (arith, time, le)) left)

    -- it ended in a fault
    pub faulted : (reads reads' : Option (List ℕ)) → TellsAlike reads reads' → OnSome reads (Each j.limit j.head (j.records ++ []) disk opened opening added)
        → OnSome reads (HoldsThroughout calls since disk new (IsBeforeOrAfter j.limit j.head j.records bytes)) → OnSome reads' (Each j.limit j.head (j.records ++ bytes ∷ []) new opened opening added)
    faulted reads None alike each run = tt
    faulted None (Some file') alike each run = absurd alike
    faulted (Some file) (Some file') alike each run = in_put each run

    -- it was acknowledged
    pub acknowledged : (reads reads' : Option (List ℕ)) → TellsAlike reads reads' → OnSome reads (Each j.limit j.head (j.records ++ []) disk opened opening added)
        → OnSome reads (HoldsThroughout calls since disk new (IsBeforeOrAfter j.limit j.head j.records bytes)) → calls new ≡ calls disk + 4
        → IsSettled (record j { records = j.records ++ bytes ∷ [] }) reads' (images new) → OnSome reads' (Each j.limit j.head ((j.records ++ bytes ∷ []) ++ []) new opened opening (added + 1))
    acknowledged reads None alike each run four settled = tt
    acknowledged None (Some file') alike each run four settled = absurd alike
    acknowledged (Some file) (Some file') alike each run four settled = λ b c le left.
        let records = j.records ++ bytes ∷ [] in
        let size : length records ≡ opening + added + 1 = omega (arith, counted, length-append j.records (bytes ∷ [])) in
        longer_run j.limit j.head records [] (opening + b) c (
        ⊎_elim
        (λ earlier. in_put each run b c (omega (arith, earlier)) left)
        (λ last.
        let here : calls opened + 4 * b ≡ calls new = omega (arith, time, four, last, le) in
        let now = only_now new c (subst (λ (t : ℕ). since new t c) here left) in
        let stands = subst (StandsFor j.limit j.head records) (sym (settled.only c now)) settled.stands in
        whole_run j.limit j.head records (opening + b) c (omega (arith, size, le)) stands)
        (cases_lt b (added + 1)))
