-- One more record behind those of a file.
use Rattle.gated_journal.proofs.Common.{◌≡◌, ◌≢◌, inl, inr, ℕ, ◌+◌, ◌≤◌, List, [], ◌∷◌, ◌++◌, length, get_or, drop, sym, ◌∙◌, ap, subst, arith, append_assoc, length-append, append-nil, cases_eq, overwritten, WritesPart, mark_of, framed, gated, spelled, spelled_in, StandsFor, IsBeforeOrAfter, end_after}
use Rattle.gated_journal.proofs.Bytes.{torn_behind, put_behind, torn_gate, put_gate}

pub gated-push : (records : List (List ℕ)) (bytes : List ℕ) → gated (records ++ bytes ∷ []) ≡ gated records ++ 1 ∷ framed bytes
gated-push [] bytes = append-nil (1 ∷ framed bytes)
gated-push (r ∷ records) bytes =
    ap (λ (l : List ℕ). 1 ∷ framed r ++ l) (gated-push records bytes) ∙ sym (append_assoc (1 ∷ framed r) (gated records) (1 ∷ framed bytes))

pub spelled-push : (digit : ℕ) (head : List ℕ) (records : List (List ℕ)) (bytes : List ℕ) → spelled_in digit head (records ++ bytes ∷ []) ≡ spelled_in digit head records ++ 1 ∷ framed bytes
spelled-push digit head records bytes =
    ap (λ (l : List ℕ). mark_of digit ++ framed head ++ l) (gated-push records bytes) ∙ sym (append_assoc (mark_of digit ++ framed head) (gated records) (1 ∷ framed bytes))

pub length-framed : (bytes : List ℕ) → length (framed bytes) ≡ 4 + length bytes
length-framed bytes = omega arith

pub length-spelled-push : (head : List ℕ) (records : List (List ℕ)) (bytes : List ℕ) → length (spelled head (records ++ bytes ∷ [])) ≡ length (spelled head records) + 5 + length bytes
length-spelled-push head records bytes =
    ap length (spelled-push 50 head records bytes) ∙ length-append (spelled head records) (1 ∷ framed bytes) ∙ omega (arith, length-framed bytes)

module _ (limit : ℕ) (head : List ℕ) (records : List (List ℕ)) (bytes : List ℕ) (at : ℕ) (at_gate : at ≡ length (spelled head records)) (fits : end_after head records (length bytes) ≤ limit) where
  abbrev front : List ℕ
  front = spelled head records

  abbrev joined : List ℕ
  joined = framed bytes ++ 0 ∷ []

  length-joined : length joined ≡ 5 + length bytes
  length-joined = length-append (framed bytes) (0 ∷ []) ∙ omega (arith, length-framed bytes)

  -- the new record, its gate open, and what stands behind it
  pub with_record : (rest c : List ℕ) → c ≡ front ++ 1 ∷ (joined ++ rest) → length c ≤ limit → StandsFor limit head (records ++ bytes ∷ []) c
  with_record rest c is within = record {
    gate = 0;
    rest = rest;
    spells =
        is ∙ ap (λ (l : List ℕ). front ++ 1 ∷ l) (append_assoc (framed bytes) (0 ∷ []) rest)
        ∙ sym (append_assoc front (1 ∷ framed bytes) (0 ∷ rest))
        ∙ ap (λ (l : List ℕ). l ++ 0 ∷ rest) (sym (spelled-push 50 head records bytes));
    closed = λ e. omega (arith, e);
    within = within;
  }

  module _ (file : List ℕ) (stands : StandsFor limit head records file) where
    -- any image of the first write stands for the records before
    pub behind_gate : (c : List ℕ) → WritesPart (at + 1) (length joined) file c → StandsFor limit head records c
    behind_gate c torn =
        let torn' = subst (λ (l : List ℕ). WritesPart (at + 1) (length joined) l c) stands.spells torn in
        record {
          gate = stands.gate;
          rest = drop (at + 1) c;
          spells = torn_behind front at (sym at_gate) stands.gate (length joined) stands.rest c torn';
          closed = stands.closed;
          within = omega (arith, torn.most, stands.within, fits, length-joined, at_gate);
        }

    abbrev staged : List ℕ
    staged = front ++ stands.gate ∷ (joined ++ drop (length joined) stands.rest)

    pub is_staged : overwritten (at + 1) joined file ≡ staged
    is_staged = ap (overwritten (at + 1) joined) stands.spells ∙ put_behind front at (sym at_gate) stands.gate joined stands.rest

    pub length-staged : length staged ≤ limit
    length-staged =
        let long : length (joined ++ drop (length joined) stands.rest) ≡ length joined + length (drop (length joined) stands.rest) = length-append joined (drop (length joined) stands.rest) in
        omega (arith, length-append front (stands.gate ∷ (joined ++ drop (length joined) stands.rest)), long, Rattle.std.proofs.Common.length-drop (length joined) stands.rest, length-joined, ap length stands.spells, length-append front (stands.gate ∷ stands.rest), stands.within, fits, at_gate)

    -- any image of the second write stands for them, with the new one or without
    pub at_gate_torn : (c : List ℕ) → WritesPart at 1 staged c → IsBeforeOrAfter limit head records bytes c
    at_gate_torn c torn =
        let rest = drop (length joined) stands.rest in
        let whole : c ≡ front ++ get_or c at 0 ∷ (joined ++ rest) = torn_gate front at (sym at_gate) stands.gate (joined ++ rest) c torn in
        let short : length c ≤ limit = omega (arith, torn.most, length-staged, fits, at_gate) in
        elim (cases_eq (get_or c at 0) 1) [
          | inl open_gate ↦ inr (with_record rest c (whole ∙ ap (λ (g : ℕ). front ++ g ∷ (joined ++ rest)) open_gate) short)
          | inr shut ↦ inl (record { gate = get_or c at 0; rest = joined ++ rest; spells = whole; closed = shut; within = short })
        ]

    pub opened : StandsFor limit head (records ++ bytes ∷ []) (overwritten at (1 ∷ []) staged)
    opened =
        let rest = drop (length joined) stands.rest in
        let whole : overwritten at (1 ∷ []) staged ≡ front ++ 1 ∷ (joined ++ rest) = put_gate front at (sym at_gate) stands.gate 1 (joined ++ rest) in
        with_record rest (overwritten at (1 ∷ []) staged) whole
        (omega (arith, ap length whole, length-append front (1 ∷ (joined ++ rest)), length-append front (stands.gate ∷ (joined ++ rest)), length-staged))
