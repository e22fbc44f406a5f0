-- What undoing a move needs and gives.
use Rattle.local_moves.proofs.Common.{◌≡◌, ◌⊎◌, inl, inr, ℕ, ◌+◌, ◌<◌, ◌≤◌, true, not, List, ◌++◌, refl, sym, ap, ◌∙◌, subst, arith, count_by, cases_Bool, Has, any_some, any_at, count_by-append, count_by_none, any_by_count, Duty, Row, Problem, same_duty, count_of, is_on, heads_on, is_legal_duty, is_legal_rota, rota_of, are_legal_rows, same_duty_decides, alike_from_counts, heads_within, Change, is_place, IsDone, IsTied, IsExchanged}
use Rattle.local_moves.proofs.OwnRows.{same_legal_rows}
use Rattle.local_moves.proofs.Taking.{legal_one}

-- the change of a duty that is among those that changed
change_of : (changes : List Change) (d : Duty) → is_place changes d ≡ true → (c : Change) × Has changes c × (c.duty ≡ d)
change_of changes d t = let x = any_some (λ c. same_duty c.duty d) changes t in (x.0, x.1, (same_duty_decides x.0.duty d).0 x.2)

pub back_balance : (before now gone made : List Duty) (changes : List Change) → IsTied changes gone made → IsDone before now changes → (d : Duty) → count_of now d + count_of gone d ≡ count_of before d + count_of made d
back_balance before now gone made changes h done d =
    elim (cases_Bool (is_place changes d)) [
      | inl t ↦
          let c = change_of changes d t in
          subst (λ (x : Duty). count_of now x + count_of gone x ≡ count_of before x + count_of made x) c.2
          (omega (arith, h.balance c.0 c.1, done.before c.0 c.1, done.after c.0 c.1))
      | inr f ↦ let z = h.rest d f in omega (arith, z.0, z.1, done.rest d f)
    ]

pub back_there : (before now gone made : List Duty) (changes : List Change) → IsTied changes gone made → IsDone before now changes → (d : Duty) → count_of made d ≤ count_of now d
back_there before now gone made changes h done d =
    elim (cases_Bool (is_place changes d)) [
      | inl t ↦
          let c = change_of changes d t in
          subst (λ (x : Duty). count_of made x ≤ count_of now x) c.2
          (omega (arith, h.balance c.0 c.1, h.there c.0 c.1, done.after c.0 c.1))
      | inr f ↦ let z = h.rest d f in omega (arith, z.1)
    ]

pub back_legal : (i : Problem) (before now gone made : List Duty) (changes : List Change) → IsTied changes gone made → IsDone before now changes → is_legal_rota i before ≡ true → count_by (λ d. not (is_legal_duty i d)) gone ≡ 0
back_legal i before now gone made changes h done legal =
    count_by_none (λ d. not (is_legal_duty i d)) gone (λ d m.
    let some : 0 < count_of gone d = any_by_count (same_duty d) gone (any_at (same_duty d) gone d m ((same_duty_decides d d).1 refl)) in
    elim (cases_Bool (is_place changes d)) [
      | inl t ↦
          let c = change_of changes d t in
          let own : is_legal_duty i d ≡ true = legal_one i before d legal (subst (λ (x : Duty). 0 < count_of gone x → 0 < count_of before x) c.2 (λ s. omega (arith, h.there c.0 c.1, done.before c.0 c.1, s)) some) in
          ap not own
      | inr f ↦ absurd (omega (arith, (h.rest d f).0, some))
    ])

pub back_heads : (i : Problem) (before now gone made : List Duty) (changes : List Change) → IsTied changes gone made → IsDone before now changes → is_legal_rota i before ≡ true → (s day : ℕ) → heads_on now s day + heads_on gone s day ≤ i.heads + heads_on made s day
back_heads i before now gone made changes h done legal s day =
    let alike = alike_from_counts (now ++ gone) (before ++ made) (λ d. count_by-append (same_duty d) now gone ∙ back_balance before now gone made changes h done d ∙ sym (count_by-append (same_duty d) before made)) in
    let all : heads_on now s day + heads_on gone s day ≡ heads_on before s day + heads_on made s day = sym (count_by-append (is_on s day) now gone) ∙ alike (is_on s day) ∙ count_by-append (is_on s day) before made in
    let few : heads_on before s day ≤ i.heads = heads_within i before legal s day in
    omega arith

-- the plan is as before
pub back_rows : (i : Problem) (before now new : List Row) (gone made : List Duty) (changes : List Change) → IsTied changes gone made → IsDone (rota_of before) (rota_of now) changes → are_legal_rows i before ≡ true → are_legal_rows i new ≡ true
    → IsExchanged (rota_of now) made gone (rota_of new) → new ≡ before
back_rows i before now new gone made changes h done legal own e =
    same_legal_rows i new before own legal (λ d.
    let a : count_of (rota_of new) d + count_of made d ≡ count_of (rota_of now) d + count_of gone d = e (same_duty d) in
    let b : count_of (rota_of now) d + count_of gone d ≡ count_of (rota_of before) d + count_of made d = back_balance (rota_of before) (rota_of now) gone made changes h done d in
    omega arith)
