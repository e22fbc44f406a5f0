-- Posts taken into a state one after another, and where they stop.
use Rattle.search_core.proofs.Common.{◌≡◌, ◌⊎◌, inl, inr, ℕ, zero, suc, ◌+◌, List, [], ◌∷◌, ◌++◌, length, take, Option, Some, None, refl, sym, ◌∙◌, ap, subst, arith, slice_get, option_and_then, length-append, Problem, Post, StepFault, NotLegal, WrongCost, NotBetter, NoNode, IsSplit, NotOpen, NotLive, OutOfRange, NotSettled, Price, NoMemory, Book, step, book_after, StateView, step_fault, Refuses, Steps}
use Rattle.std.proofs.Common.{append_assoc}
use Rattle.std.proofs.Math.Seq.{take-append_seam}
use Rattle.search_core.specs.Taking.{IsRefused, Takes}
use Rattle.search_core.proofs.Refused.{faulty_refused}
use Rattle.search_core.proofs.Runs.{book_after-append}
use Rattle.search_core.proofs.Sound.{bind_some}

-- ---- refusals

-- a refusal is the first cause that applies, unless memory ran out
told : (cause : Option StepFault) (fault : StepFault) → Refuses cause fault → (fault ≡ NoMemory) ⊎ (cause ≡ Some fault)
told cause (NotLegal why) r = inr r
told cause (WrongCost kept found) r = inr r
told cause (NotBetter best) r = inr r
told cause (NoNode node) r = inr r
told cause (IsSplit node) r = inr r
told cause (NotOpen floor best) r = inr r
told cause (NotLive class) r = inr r
told cause (OutOfRange lo hi) r = inr r
told cause (NotSettled class) r = inr r
told cause (Price why) r = inr r
told cause NoMemory r = inl refl

-- ---- one post more

pub takes_more : (old mid new : StateView) (posts : List Post) (post : Post) → Takes old posts mid → Steps mid new post → Takes old (posts ++ post ∷ []) new
takes_more old mid new posts post t s =
    let instance : new.instance ≡ mid.instance = ap (λ (v : StateView). v.instance) s.1 in
    let history : new.history ≡ mid.history ++ post ∷ [] = ap (λ (v : StateView). v.history) s.1 in
    let step_here : step old.instance mid.book post ≡ Some new.book = subst (λ (i : Problem). step i mid.book post ≡ Some new.book) t.same s.0 in
    record {
      same = instance ∙ t.same;
      grows = history ∙ ap (λ (l : List Post). l ++ post ∷ []) t.grows ∙ append_assoc old.history posts (post ∷ []);
      makes =
          book_after-append old.instance old.book posts (post ∷ [])
          ∙ ap (λ (o : Option Book). option_and_then (λ c. book_after old.instance c (post ∷ [])) o) t.makes
          ∙ ap (λ (o : Option Book). option_and_then (λ c. book_after old.instance c []) o) step_here;
    }

-- ---- posts, one after another

-- a state that has taken the first of some posts, and has others left
pub record Taking (all : List Post) (old : StateView) (passed left : List Post) (number : ℕ) (now : StateView) : Type 0 where
  pub takes : Takes old passed now
  pub split : passed ++ left ≡ all
  pub count : number ≡ length passed

pub taking_more : (all : List Post) (old : StateView) (passed left next : List Post) (number : ℕ) (mid new : StateView) (post : Post) → Taking all old passed left number mid → left ≡ post ∷ next → Steps mid new post → Taking all old (passed ++ post ∷ []) next (number + 1) new
taking_more all old passed left next number mid new post t e s = record {
  takes = takes_more old mid new passed post t.takes s;
  split = append_assoc passed (post ∷ []) next ∙ ap (λ (l : List Post). passed ++ l) (sym e) ∙ t.split;
  count = omega (arith, t.count, length-append passed (post ∷ []));
}

at_seam : {X : Type 0} (xs ys : List X) (y : X) → slice_get (xs ++ y ∷ ys) (length xs) ≡ Some y
at_seam [] ys y = refl
at_seam (x ∷ xs) ys y = at_seam xs ys y

-- where the next post is refused
pub taking_stops : (i : Problem) (all : List Post) (old : StateView) (passed left next : List Post) (number : ℕ) (mid : StateView) (post : Post) (fault : StepFault)
    → i ≡ old.instance → Taking all old passed left number mid → left ≡ post ∷ next → Refuses (step_fault mid.instance mid.book post) fault
    → (fault ≡ NoMemory) ⊎ IsRefused i old.book all number fault
taking_stops i all old passed left next number mid post fault j t e r =
    let whole : passed ++ post ∷ next ≡ all = ap (λ (l : List Post). passed ++ l) (sym e) ∙ t.split in
    let front : take number all ≡ passed = ap (λ (n : ℕ). take n all) t.count ∙ ap (λ (l : List Post). take (length passed) l) (sym whole) ∙ take-append_seam passed (post ∷ next) in
    let here : slice_get all number ≡ Some post = ap (λ (n : ℕ). slice_get all n) t.count ∙ ap (λ (l : List Post). slice_get l (length passed)) (sym whole) ∙ at_seam passed next post in
    let instance : mid.instance ≡ i = t.takes.same ∙ sym j in
    let same : step_fault i mid.book post ≡ step_fault mid.instance mid.book post = ap (λ (p : Problem). step_fault p mid.book post) (sym instance) in
    elim (told (step_fault mid.instance mid.book post) fault r) [
      | inl none ↦ inl none
      | inr cause ↦ inr (record {
        before = mid.book;
        taken = ap (λ (l : List Post). book_after i old.book l) front ∙ ap (λ (p : Problem). book_after p old.book passed) j ∙ t.takes.makes;
        post = post;
        next = here;
        refused = faulty_refused i mid.book post fault (same ∙ cause);
        cause = same ∙ cause;
      })
    ]

-- posts of which one is refused make no book
pub not_next : (i : Problem) (b c : Book) (posts : List Post) (count : ℕ) (post : Post) (before : Book)
    → book_after i b (take count posts) ≡ Some before → slice_get posts count ≡ Some post → step i before post ≡ None → book_after i b posts ≡ Some c → ⊥
not_next i b c [] count post before taken next refused e = absurd (cc)
not_next i b c (p ∷ posts) zero post before taken next refused e =
    let here : b ≡ before = cc in
    let first : p ≡ post = cc in
    let r = bind_some (λ d. book_after i d posts) (step i b p) c e in
    let none : step i b p ≡ None = ap (λ (x : Book). step i x p) here ∙ ap (λ (x : Post). step i before x) first ∙ refused in
    cc (sym none ∙ r.1)
not_next i b c (p ∷ posts) (suc count) post before taken next refused e =
    let r = bind_some (λ d. book_after i d posts) (step i b p) c e in
    let s = bind_some (λ d. book_after i d (take count posts)) (step i b p) before taken in
    let same : s.0 ≡ r.0 = cc (sym s.1 ∙ r.1) in
    not_next i r.0 c posts count post before (subst (λ (d : Book). book_after i d (take count posts) ≡ Some before) same s.2) next refused r.2
