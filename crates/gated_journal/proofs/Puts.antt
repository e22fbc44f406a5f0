-- The moments of a put.
use Rattle.gated_journal.proofs.Common.{◌≡◌, inl, ℕ, ◌+◌, ◌≤◌, List, [], ◌∷◌, ◌++◌, length, sym, ◌∙◌, ap, subst, Option, None, Some, IfSome, OnSome, option_map, overwritten, WritesPart, IsSynced, HoldsThroughout, weaker, then_run, framed, spelled, StandsFor, IsBeforeOrAfter, end_after, JournalView, IsStored, IsSettled}
use Rattle.gated_journal.proofs.Spelling.{behind_gate, is_staged, at_gate_torn, opened}

pub synced : (j : JournalView) (reads : Option (List ℕ)) (images : List ℕ → Type 0) → IsSettled j reads images → IsSynced reads images
synced j None images settled = settled
synced j (Some file) images settled = settled.only

module _ {D : Type 0} (calls : D → ℕ) (since : D → ℕ → List ℕ → Type 0) where
  module _ (images : D → List ℕ → Type 0) (j : JournalView) (bytes : List ℕ) (at : ℕ) (at_gate : at ≡ length (spelled j.head j.records)) (fits : end_after j.head j.records (length bytes) ≤ j.limit) where
    abbrev joined : List ℕ
    joined = framed bytes ++ 0 ∷ []

    abbrev P : List ℕ → Type 0
    P = IsBeforeOrAfter j.limit j.head j.records bytes

    -- the first write
    pub first_moments : (old mid : D) (reads : Option (List ℕ)) → IsSettled j reads (images old)
        → IfSome reads (λ file. HoldsThroughout calls since old mid (WritesPart (at + 1) (length joined) file)) → OnSome reads (HoldsThroughout calls since old mid P)
    first_moments old mid None settled run = run
    first_moments old mid (Some file) settled run =
        weaker calls since old mid (WritesPart (at + 1) (length joined) file) P (λ c torn. inl (behind_gate j.limit j.head j.records bytes at at_gate fits file settled.stands c torn)) run

    -- the second
    pub both_moments : (old mid new : D) (reads staged : Option (List ℕ)) → IsSettled j reads (images old) → staged ≡ option_map (overwritten (at + 1) joined) reads
        → IfSome reads (λ file. HoldsThroughout calls since old mid (WritesPart (at + 1) (length joined) file))
        → IfSome staged (λ file. HoldsThroughout calls since mid new (WritesPart at 1 file)) → OnSome reads (HoldsThroughout calls since old new P)
    both_moments old mid new None staged settled is run next = run
    both_moments old mid new (Some file) staged settled is run next =
        let next' = subst (λ (o : Option (List ℕ)). IfSome o (λ f. HoldsThroughout calls since mid new (WritesPart at 1 f))) is next in
        let gate = weaker calls since mid new (WritesPart at 1 (overwritten (at + 1) joined file)) P
        (λ c torn. at_gate_torn j.limit j.head j.records bytes at at_gate fits file settled.stands c
        (subst (λ (l : List ℕ). WritesPart at 1 l c) (is_staged j.limit j.head j.records bytes at at_gate fits file settled.stands) torn)) next' in
        then_run calls since old mid new P (first_moments old mid (Some file) settled run) gate

    -- and then the record is in the file
    pub stored : (old new : D) (reads staged opened_ : Option (List ℕ)) → IsSettled j reads (images old) → staged ≡ option_map (overwritten (at + 1) joined) reads
        → opened_ ≡ option_map (overwritten at (1 ∷ [])) staged → IsSynced opened_ (images new) → (after : JournalView) → after ≡ record j { records = j.records ++ bytes ∷ [] } → IsSettled after opened_ (images new)
    stored old new None staged opened_ settled is is' synced after same =
        let none : opened_ ≡ None = is' ∙ ap (option_map (overwritten at (1 ∷ []))) is in
        subst (λ (o : Option (List ℕ)). IsSettled after o (images new)) (sym none) tt
    stored old new (Some file) staged opened_ settled is is' synced after same =
        let whole = overwritten (at + 1) joined file in
        let some : opened_ ≡ Some (overwritten at (1 ∷ []) whole) = is' ∙ ap (option_map (overwritten at (1 ∷ []))) is in
        let only = subst (λ (o : Option (List ℕ)). IsSynced o (images new)) some synced in
        let stands : StandsFor j.limit j.head (j.records ++ bytes ∷ []) (overwritten at (1 ∷ []) whole) =
        subst (λ (l : List ℕ). StandsFor j.limit j.head (j.records ++ bytes ∷ []) (overwritten at (1 ∷ []) l)) (sym (is_staged j.limit j.head j.records bytes at at_gate fits file settled.stands))
        (opened j.limit j.head j.records bytes at at_gate fits file settled.stands) in
        subst (λ (o : Option (List ℕ)). IsSettled after o (images new)) (sym some)
        (subst (λ (v : JournalView). IsStored v (images new) (overwritten at (1 ∷ []) whole)) (sym same) (record { only = only; stands = stands }))
