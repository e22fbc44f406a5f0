-- Each step keeps the told pairs.
use Rattle.std.proofs.Common.{◌≡◌, ◌≢◌, ℕ, zero, suc, List, [], ◌∷◌, ◌++◌, set, true, false, true≢false, refl, sym, ap, ◌∙◌, subst, ⊎_elim, arith, append_assoc, append-nil}
use Rattle.std.specs.Prelude.{slice_index}
use mathlib.Core.Option.{some, some-ne-none, some-injective}
use lib.ListN.{get_elem?}
use Rattle.crossbeam_utils.specs.Register.{Turns, Forks}
use Rattle.atomic_table.proofs.Lists.{at_set, at_snoc, set_again}
use Rattle.best_cell.specs.declared.view.View.{View}
use Rattle.best_cell.specs.Told.{last_behind, last_of, AreTold, Follows, IsFront, IsOrderly, IsOrderlyBehind}
use Rattle.best_cell.specs.Telling.{reader, reader_of, teller, AddsOne, FindsLast, Fits, IsKept}

off : false ≡ true → ⊥
off e = true≢false (sym e)

onward : (p q r : ℕ × ℕ) → Follows p q → Follows q r → Follows p r
onward p q r a b = let a₀ = a.0 in let a₁ = a.1 in let b₀ = b.0 in let b₁ = b.1 in (omega arith, omega arith)

follows_last : (p : ℕ × ℕ) (rest : List (ℕ × ℕ)) → IsOrderlyBehind p rest → Follows p (last_behind p rest)
follows_last p [] h = (omega arith, omega arith)
follows_last p (x ∷ xs) h = onward p x (last_behind x xs) h.0 (follows_last x xs h.1)

later_from : (p : ℕ × ℕ) (xs rest : List (ℕ × ℕ)) → IsOrderlyBehind p (xs ++ rest) → Follows (last_behind p xs) (last_behind p (xs ++ rest))
later_from p [] rest h = follows_last p rest h
later_from p (x ∷ xs) rest h = later_from x xs rest h.1

-- the last pair of a longer log follows that of its beginning
pub later : (xs rest : List (ℕ × ℕ)) → xs ≢ [] → IsOrderly (xs ++ rest) → Follows (last_of xs) (last_of (xs ++ rest))
later [] rest full h = absurd (full refl)
later (x ∷ xs) rest full h = later_from x xs rest h

pub later_as : (xs ys : List (ℕ × ℕ)) → IsFront xs ys → xs ≢ [] → IsOrderly ys → Follows (last_of xs) (last_of ys)
later_as xs ys b full h = subst (λ (l : List (ℕ × ℕ)). Follows (last_of xs) (last_of l)) (sym b.1) (later xs b.0 full (subst IsOrderly b.1 h))

more_from : (p : ℕ × ℕ) (xs : List (ℕ × ℕ)) (q : ℕ × ℕ) → IsOrderlyBehind p xs → Follows (last_behind p xs) q → IsOrderlyBehind p (xs ++ q ∷ [])
more_from p [] q h f = (f, tt)
more_from p (x ∷ xs) q h f = (h.0, more_from x xs q h.1 f)

pub orderly_more : (xs : List (ℕ × ℕ)) (q : ℕ × ℕ) → IsOrderly xs → Follows (last_of xs) q → IsOrderly (xs ++ q ∷ [])
orderly_more [] q h f = tt
orderly_more (x ∷ xs) q h f = more_from x xs q h f

last_behind_push : (p : ℕ × ℕ) (xs : List (ℕ × ℕ)) (q : ℕ × ℕ) → last_behind p (xs ++ q ∷ []) ≡ q
last_behind_push p [] q = refl
last_behind_push p (x ∷ xs) q = last_behind_push x xs q

last_push : (xs : List (ℕ × ℕ)) (q : ℕ × ℕ) → last_of (xs ++ q ∷ []) ≡ q
last_push [] q = refl
last_push (x ∷ xs) q = last_behind_push x xs q

pub pushed : (xs : List (ℕ × ℕ)) (q : ℕ × ℕ) → xs ++ q ∷ [] ≢ []
pushed [] q e = absurd (cc)
pushed (x ∷ xs) q e = absurd (cc)

pub longer : (xs ys : List (ℕ × ℕ)) → IsFront xs ys → xs ≢ [] → ys ≢ []
longer [] ys b full e = full refl
longer (x ∷ xs) ys b full e = let f : (x ∷ xs) ++ b.0 ≡ [] = sym b.1 ∙ e in absurd (cc)

fits_set : (seat : ℕ) (log : List (ℕ × ℕ)) (views : List View) (by : ℕ) (w : View) → ((j : ℕ) (u : View) → j ≢ by → get_elem? views j ≡ some u → Fits seat log j u) → Fits seat log by w → (j : ℕ) (u : View) → get_elem? (set views by w) j ≡ some u → Fits seat log j u
fits_set seat log views by w others mine j u e =
    ⊎_elim
    (λ (x : (j ≡ by) × (w ≡ u)). subst (λ (y : ℕ × View). Fits seat log y.0 y.1) (λ i. (sym x.0 i, x.1 i)) mine)
    (λ (x : (j ≢ by) × (get_elem? views j ≡ some u)). others j u x.0 x.1)
    (at_set views by j w u e)

told_more : (tells : ℕ → ℕ → Type 0) (xs : List (ℕ × ℕ)) (q : ℕ × ℕ) → AreTold tells xs → tells q.0 q.1 → AreTold tells (xs ++ q ∷ [])
told_more tells [] q h t = (t, tt)
told_more tells (x ∷ xs) q h t = (h.0, told_more tells xs q h.1 t)

told_behind : (tells : ℕ → ℕ → Type 0) (p : ℕ × ℕ) (xs : List (ℕ × ℕ)) → tells p.0 p.1 → AreTold tells xs → tells (last_behind p xs).0 (last_behind p xs).1
told_behind tells p [] t h = t
told_behind tells p (x ∷ xs) t h = told_behind tells x xs h.0 h.1

-- the last of the told pairs was told
pub last_told : (tells : ℕ → ℕ → Type 0) (xs : List (ℕ × ℕ)) → xs ≢ [] → AreTold tells xs → tells (last_of xs).0 (last_of xs).1
last_told tells [] full h = absurd (full refl)
last_told tells (x ∷ xs) full h = told_behind tells x xs h.0 h.1

pub begins : (tells : ℕ → ℕ → Type 0) (words : List ℕ) → IsKept tells words (teller [] ∷ [])
begins tells words = (0, [], tt, (λ full. absurd (full refl)), tt, one)
  where
    one : (by : ℕ) (v : View) → get_elem? (teller [] ∷ []) by ≡ some v → Fits 0 [] by v
    one zero v e = subst (Fits 0 [] 0) (some-injective _ _ e) (([], refl), (λ _. (refl, refl)))
    one (suc by) v e = absurd (some-ne-none v (sym e))

pub telling : (tells : ℕ → ℕ → Type 0) (by : ℕ) (told : List (ℕ × ℕ)) (new : List ℕ) → IsOrderly (told ++ (slice_index new 0, slice_index new 1) ∷ []) → tells (slice_index new 0) (slice_index new 1) → Turns (IsKept tells) by (teller told) (λ _. new) AddsOne
telling tells by told new ord may words views h at =
    let pair : ℕ × ℕ = (slice_index new 0, slice_index new 1) in
    let mine = (h.5 by (teller told) at).1 refl in
    let w = teller (told ++ pair ∷ []) in
    let log = h.1 ++ pair ∷ [] in (
      w,
      (
        h.0,
        log,
        subst (λ (l : List (ℕ × ℕ)). IsOrderly (l ++ pair ∷ [])) mine.1 ord,
        (λ _. last_push h.1 pair),
        told_more tells h.1 pair h.4 may,
        fits_set h.0 log views by w
            (λ j u apart e. let f = h.5 j u e in ((f.0.0 ++ pair ∷ [], ap (λ (l : List (ℕ × ℕ)). l ++ pair ∷ []) f.0.1 ∙ append_assoc u.told f.0.0 (pair ∷ [])), (λ k. absurd (apart ((f.1 k).0 ∙ sym mine.0)))))
            (([], ap (λ (l : List (ℕ × ℕ)). l ++ pair ∷ []) (sym mine.1) ∙ sym (append-nil (told ++ pair ∷ []))), (λ _. (mine.0, ap (λ (l : List (ℕ × ℕ)). l ++ pair ∷ []) mine.1))),
      ),
      refl,
    )

pub reads : (tells : ℕ → ℕ → Type 0) (by : ℕ) (told : List (ℕ × ℕ)) → Turns (IsKept tells) by (reader told) (λ x. x) (FindsLast tells)
reads tells by told words views h at =
    let f = h.5 by (reader told) at in
    let w = reader h.1 in
    (w, (h.0, h.1, h.2, h.3, h.4, fits_set h.0 h.1 views by w (λ j u apart e. h.5 j u e) (([], sym (append-nil h.1)), (λ t. absurd (off t)))), (refl, f.0, h.2, h.3, h.4))

pub informs : (tells : ℕ → ℕ → Type 0) (by : ℕ) (v : View) → Forks (IsKept tells) by v v (reader_of v)
informs tells by v words views h at = (
  h.0,
  h.1,
  h.2,
  h.3,
  h.4,
  λ j u e. ⊎_elim
      (λ was. h.5 j u (subst (λ l. get_elem? l j ≡ some u) (set_again views by v at) was))
      (λ (same : reader_of v ≡ u). subst (Fits h.0 h.1 j) same ((h.5 by v at).0, (λ t. absurd (off t))))
      (at_snoc (set views by v) (reader_of v) u j e),
)

-- the same, at a view that is known by an equation
pub tells_as : (tells : ℕ → ℕ → Type 0) (by : ℕ) (v : View) (told : List (ℕ × ℕ)) (new : List ℕ) → v ≡ teller told → IsOrderly (told ++ (slice_index new 0, slice_index new 1) ∷ []) → tells (slice_index new 0) (slice_index new 1) → Turns (IsKept tells) by v (λ _. new) AddsOne
tells_as tells by v told new is ord may = subst (λ (u : View). Turns (IsKept tells) by u (λ _. new) AddsOne) (sym is) (telling tells by told new ord may)

pub reads_as : (tells : ℕ → ℕ → Type 0) (by : ℕ) (v : View) (told : List (ℕ × ℕ)) → v ≡ reader told → Turns (IsKept tells) by v (λ x. x) (FindsLast tells)
reads_as tells by v told is = subst (λ (u : View). Turns (IsKept tells) by u (λ x. x) (FindsLast tells)) (sym is) (reads tells by told)
