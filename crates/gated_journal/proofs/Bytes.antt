-- A write behind a place of a file, and one at it.
use Rattle.gated_journal.proofs.Common.{◌≡◌, ℕ, ◌+◌, ◌≤◌, List, [], ◌∷◌, ◌++◌, length, get_or, take, drop, sym, ◌∙◌, ap, arith, append_assoc, length-append, take-append-drop, take_at, drop_at, drop_more, drop-drop, overwritten, WritesPart}

module _ (front : List ℕ) (at : ℕ) (size : length front ≡ at) where
  front_next : (gate : ℕ) → length (front ++ gate ∷ []) ≡ at + 1
  front_next gate = omega (arith, length-append front (gate ∷ []), size)

  next_split : (gate : ℕ) (rest : List ℕ) → front ++ gate ∷ rest ≡ (front ++ gate ∷ []) ++ rest
  next_split gate rest = sym (append_assoc front (gate ∷ []) rest)

  pub take_next : (gate : ℕ) (rest : List ℕ) → take (at + 1) (front ++ gate ∷ rest) ≡ front ++ gate ∷ []
  take_next gate rest = ap (take (at + 1)) (next_split gate rest) ∙ take_at (front ++ gate ∷ []) rest (at + 1) (front_next gate)

  pub drop_next : (gate : ℕ) (rest : List ℕ) → drop (at + 1) (front ++ gate ∷ rest) ≡ rest
  drop_next gate rest = ap (drop (at + 1)) (next_split gate rest) ∙ drop_at (front ++ gate ∷ []) rest (at + 1) (front_next gate)

  -- whatever a write behind the gate leaves, the gate stands
  pub torn_behind : (gate n : ℕ) (rest c : List ℕ) → WritesPart (at + 1) n (front ++ gate ∷ rest) c → c ≡ front ++ gate ∷ drop (at + 1) c
  torn_behind gate n rest c torn =
      sym (take-append-drop (at + 1) c) ∙ ap (λ (l : List ℕ). l ++ drop (at + 1) c) (torn.front ∙ take_next gate rest) ∙ append_assoc front (gate ∷ []) (drop (at + 1) c)

  pub put_behind : (gate : ℕ) (bytes rest : List ℕ) → overwritten (at + 1) bytes (front ++ gate ∷ rest) ≡ front ++ gate ∷ (bytes ++ drop (length bytes) rest)
  put_behind gate bytes rest =
      let after : drop (at + 1 + length bytes) (front ++ gate ∷ rest) ≡ drop (length bytes) rest =
      sym (drop-drop (length bytes) (at + 1) (front ++ gate ∷ rest)) ∙ ap (drop (length bytes)) (drop_next gate rest) in
      ap (λ (l : List ℕ). l ++ bytes ++ drop (at + 1 + length bytes) (front ++ gate ∷ rest)) (take_next gate rest)
      ∙ ap (λ (l : List ℕ). front ++ gate ∷ [] ++ bytes ++ l) after
      ∙ append_assoc (front ++ gate ∷ []) bytes (drop (length bytes) rest)
      ∙ append_assoc front (gate ∷ []) (bytes ++ drop (length bytes) rest)

  -- whatever a write of the gate leaves, the rest stands
  pub torn_gate : (gate : ℕ) (rest c : List ℕ) → WritesPart at 1 (front ++ gate ∷ rest) c → c ≡ front ++ get_or c at 0 ∷ rest
  torn_gate gate rest c torn =
      let long : at + 1 ≤ length c = omega (arith, torn.least, length-append front (gate ∷ rest), size) in
      let behind : drop at c ≡ get_or c at 0 ∷ rest =
      drop_more c at 0 (omega (arith, long)) ∙ ap (λ (l : List ℕ). get_or c at 0 ∷ l) (torn.back ∙ drop_next gate rest) in
      sym (take-append-drop at c) ∙ ap (λ (l : List ℕ). l ++ drop at c) (torn.front ∙ take_at front (gate ∷ rest) at size) ∙ ap (λ (l : List ℕ). front ++ l) behind

  pub put_gate : (gate x : ℕ) (rest : List ℕ) → overwritten at (x ∷ []) (front ++ gate ∷ rest) ≡ front ++ x ∷ rest
  put_gate gate x rest =
      ap (λ (l : List ℕ). l ++ (x ∷ []) ++ drop (at + 1) (front ++ gate ∷ rest)) (take_at front (gate ∷ rest) at size)
      ∙ ap (λ (l : List ℕ). front ++ (x ∷ []) ++ l) (drop_next gate rest)
      ∙ append_assoc front (x ∷ []) rest
