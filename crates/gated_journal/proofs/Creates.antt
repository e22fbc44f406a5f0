-- A new journal.
use Rattle.gated_journal.proofs.Common.{◌≡◌, ℕ, ◌+◌, ◌≤◌, List, [], ◌∷◌, ◌++◌, length, sym, ◌∙◌, ap, subst, arith, length-append, append-nil, drop_all, Option, None, Some, IfSome, OnSome, option_map, overwritten, WritesPart, IsSynced, HoldsThroughout, mark, framed, fresh, StandsFor, IsNoLonger, JournalView, IsSettled, weaker}
use Rattle.gated_journal.proofs.Spelling.{length-framed}

pub length-fresh : (head : List ℕ) → length (fresh head) ≡ 13 + length head
length-fresh head = length-append (mark ++ framed head) (0 ∷ []) ∙ omega (arith, length-append mark (framed head), length-framed head)

filled : (bytes : List ℕ) → overwritten 0 bytes [] ≡ bytes
filled bytes = ap (λ (l : List ℕ). bytes ++ l) (drop_all (0 + length bytes) [] (omega arith)) ∙ append-nil bytes

pub fresh_stands : (limit : ℕ) (head : List ℕ) → 13 + length head ≤ limit → StandsFor limit head [] (fresh head)
fresh_stands limit head room = record {
  gate = 0;
  rest = [];
  spells = ap (λ (l : List ℕ). l ++ 0 ∷ []) (sym (append-nil (mark ++ framed head)));
  closed = λ e. omega (arith, e);
  within = omega (arith, length-fresh head, room);
}

pub new_settled : (v : JournalView) (old new : Option (List ℕ)) (images : List ℕ → Type 0) (bytes : List ℕ) → bytes ≡ fresh v.head → v.records ≡ [] → 13 + length v.head ≤ v.limit
    → IfSome old (λ f. f ≡ []) → new ≡ option_map (overwritten 0 bytes) old → IsSynced new images → IsSettled v new images
new_settled v None new images bytes is none room empty written synced = subst (λ (o : Option (List ℕ)). IsSettled v o images) (sym written) tt
new_settled v (Some file) new images bytes is none room empty written synced =
    let whole : new ≡ Some (fresh v.head) = written ∙ ap (λ (f : List ℕ). Some (overwritten 0 bytes f)) empty ∙ ap Some (filled bytes ∙ is) in
    let only = subst (λ (o : Option (List ℕ)). IsSynced o images) whole synced in
    subst (λ (o : Option (List ℕ)). IsSettled v o images) (sym whole)
    (record { only = only; stands = subst (λ (r : List (List ℕ)). StandsFor v.limit v.head r (fresh v.head)) (sym none) (fresh_stands v.limit v.head room) })

pub new_moments : {D : Type 0} (calls : D → ℕ) (since : D → ℕ → List ℕ → Type 0) (old new : D) (reads : Option (List ℕ)) (bytes head : List ℕ) → bytes ≡ fresh head → IfSome reads (λ f. f ≡ [])
    → IfSome reads (λ f. HoldsThroughout calls since old new (WritesPart 0 (length bytes) f)) → OnSome reads (HoldsThroughout calls since old new (IsNoLonger (13 + length head)))
new_moments calls since old new None bytes head is empty run = run
new_moments calls since old new (Some file) bytes head is empty run =
    weaker calls since old new (WritesPart 0 (length bytes) file) (IsNoLonger (13 + length head))
    (λ c torn. omega (arith, torn.most, ap length is, length-fresh head, ap length empty)) run
