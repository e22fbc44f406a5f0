-- Posts appended to a state one after another.
use Rattle.search_core.proofs.Common.{◌≡◌, ℕ, ◌+◌, ◌-◌, ◌<◌, ◌≤◌, List, [], ◌∷◌, ◌++◌, length, refl, sym, ◌∙◌, ap, subst, arith, Option, Some, All, IsSome, slice_get, AllByRecursion, All-from_recursion, option_and_then, append-nil, append_assoc, Problem, Post, CanSpellPost, Book, step, book_after, Makes, StateView, value_of}
use Rattle.std.proofs.Common.{length-append}

-- one post more
pub makes_push : (i : Problem) (b : Book) (posts : List Post) (values : List ℕ) (c n : Book) (p : Post) (v : ℕ) → Makes i b posts values c → step i c p ≡ Some n → v ≡ value_of i c p → CanSpellPost p → Makes i b (posts ++ p ∷ []) (values ++ v ∷ []) n
makes_push i b [] [] c n p v m s e f =
    let here : step i b p ≡ Some n = subst (λ (x : Book). step i x p ≡ Some n) (sym m) s in
    let value : v ≡ value_of i b p = subst (λ (x : Book). v ≡ value_of i x p) (sym m) e in
    (n, here, value, f, refl)
makes_push i b [] (y ∷ values) c n p v m s e f = absurd m
makes_push i b (x ∷ posts) [] c n p v m s e f = absurd m
makes_push i b (x ∷ posts) (y ∷ values) c n p v m s e f = (m.0, m.1, m.2, m.3, makes_push i m.0 posts values c n p v m.4 s e f)

-- posts that make a book are taken to it
pub makes_fold : (i : Problem) (b : Book) (posts : List Post) (values : List ℕ) (c : Book) → Makes i b posts values c → book_after i b posts ≡ Some c
makes_fold i b [] [] c m = ap Some m
makes_fold i b [] (y ∷ values) c m = absurd m
makes_fold i b (x ∷ posts) [] c m = absurd m
makes_fold i b (x ∷ posts) (y ∷ values) c m = ap (λ (o : Option Book). option_and_then (λ next. book_after i next posts) o) m.1 ∙ makes_fold i m.0 posts values c m.4

-- posts that make a book have spellings
fit_each : (i : Problem) (b : Book) (posts : List Post) (values : List ℕ) (c : Book) → Makes i b posts values c → AllByRecursion CanSpellPost posts
fit_each i b [] [] c m = tt
fit_each i b [] (y ∷ values) c m = absurd m
fit_each i b (x ∷ posts) [] c m = absurd m
fit_each i b (x ∷ posts) (y ∷ values) c m = (m.3, fit_each i m.0 posts values c m.4)

pub makes_fit : (i : Problem) (b : Book) (posts : List Post) (values : List ℕ) (c : Book) → Makes i b posts values c → All CanSpellPost posts
makes_fit i b posts values c m = All-from_recursion _ posts (fit_each i b posts values c m)

-- the number behind the first ones
number_behind : (done : List ℕ) (v : ℕ) (rest : List ℕ) → slice_get (done ++ v ∷ rest) (length done) ≡ Some v
number_behind [] v rest = refl
number_behind (x ∷ done) v rest = number_behind done v rest

-- a state to which some posts were appended, so many, and others are left
pub record Appending (all : List Post) (values : List ℕ) (old : StateView) (passed left : List Post) (at : ℕ) (now : StateView) : Type 0 where
  pub split : passed ++ left ≡ all
  pub done : List ℕ
  pub rest : List ℕ
  pub numbers : done ++ rest ≡ values
  pub count : length done ≡ at
  pub size : length passed ≡ at
  pub fits : length all ≤ old.spare
  pub makes : Makes old.instance old.book passed done now.book
  pub more : (c : Book) × Makes old.instance now.book left rest c
  pub now_is : now ≡ record old { history = old.history ++ passed; book = now.book; spare = now.spare }
  pub room : old.spare ≡ now.spare + at

same_instance : (all : List Post) (values : List ℕ) (old : StateView) (passed left : List Post) (at : ℕ) (mid : StateView) → Appending all values old passed left at mid → old.instance ≡ mid.instance
same_instance all values old passed left at mid a = sym (ap (λ (v : StateView). v.instance) a.now_is)

-- the next post, with its number, and those behind it
pub record Next (i : Problem) (b : Book) (p : Post) (next : List Post) (rest : List ℕ) : Type 0 where
  pub value : ℕ
  pub values : List ℕ
  pub is : rest ≡ value ∷ values
  pub made : Book
  pub step_is : step i b p ≡ Some made
  pub value_is : value ≡ value_of i b p
  pub fit : CanSpellPost p
  pub last : Book
  pub more : Makes i made next values last

next_in : (i : Problem) (b : Book) (p : Post) (next : List Post) (rest : List ℕ) → (c : Book) × Makes i b (p ∷ next) rest c → Next i b p next rest
next_in i b p next [] m = absurd m.1
next_in i b p next (v ∷ values) m = record { value = v; values = values; is = refl; made = m.1.0; step_is = m.1.1; value_is = m.1.2; fit = m.1.3; last = m.0; more = m.1.4 }

next_of : (all : List Post) (values : List ℕ) (old : StateView) (passed left next : List Post) (at : ℕ) (mid : StateView) (p : Post) (a : Appending all values old passed left at mid) → left ≡ p ∷ next → Next old.instance mid.book p next a.rest
next_of all values old passed left next at mid p a e = next_in old.instance mid.book p next a.rest (subst (λ (l : List Post). (c : Book) × Makes old.instance mid.book l a.rest c) e a.more)

pub may_append : (all : List Post) (values : List ℕ) (old : StateView) (passed left next : List Post) (at : ℕ) (mid : StateView) (p : Post) → Appending all values old passed left at mid → left ≡ p ∷ next
    → (0 < mid.spare) × IsSome (step mid.instance mid.book p) × (at < length values) × ((v : ℕ) → slice_get values at ≡ Some v → v ≡ value_of mid.instance mid.book p)
may_append all values old passed left next at mid p a e =
    let size : length all ≡ length passed + length left = ap length (sym a.split) ∙ length-append passed left in
    let some : length left ≡ length (p ∷ next) = ap length e in
    let m = next_of all values old passed left next at mid p a e in
    let i = same_instance all values old passed left at mid a in
    let numbers : values ≡ a.done ++ m.value ∷ m.values = sym a.numbers ∙ ap (λ (l : List ℕ). a.done ++ l) m.is in
    let many : length values ≡ length a.done + length (m.value ∷ m.values) = ap length numbers ∙ length-append a.done (m.value ∷ m.values) in
    let here : slice_get values at ≡ Some m.value = ap (λ (l : List ℕ). slice_get l at) numbers ∙ ap (λ (k : ℕ). slice_get (a.done ++ m.value ∷ m.values) k) (sym a.count) ∙ number_behind a.done m.value m.values in (
      omega (arith, a.fits, a.room, a.size),
      subst (λ (j : Problem). IsSome (step j mid.book p)) i (subst (λ (o : Option Book). IsSome o) (sym m.step_is) refl),
      omega (arith, many, a.count),
      λ v told.
          let same : v ≡ m.value = let both : Some v ≡ Some m.value = sym told ∙ here in cc (both) in
          same ∙ m.value_is ∙ ap (λ (j : Problem). value_of j mid.book p) i,
    )

pub appending_more : (all : List Post) (values : List ℕ) (old : StateView) (passed left next : List Post) (at : ℕ) (mid new : StateView) (p : Post) → Appending all values old passed left at mid → left ≡ p ∷ next
    → step mid.instance mid.book p ≡ Some new.book → new ≡ record mid { history = mid.history ++ p ∷ []; book = new.book; spare = mid.spare - 1 }
    → Appending all values old (passed ++ p ∷ []) next (at + 1) new
appending_more all values old passed left next at mid new p a e s is =
    let may = may_append all values old passed left next at mid p a e in
    let m = next_of all values old passed left next at mid p a e in
    let i = same_instance all values old passed left at mid a in
    let here : step old.instance mid.book p ≡ Some new.book = subst (λ (j : Problem). step j mid.book p ≡ Some new.book) (sym i) s in
    let book : m.made ≡ new.book = let both : Some m.made ≡ Some new.book = sym m.step_is ∙ here in cc (both) in
    let spare : new.spare ≡ mid.spare - 1 = ap (λ (v : StateView). v.spare) is in
    let history : mid.history ++ p ∷ [] ≡ old.history ++ (passed ++ p ∷ []) =
    ap (λ (l : List Post). l ++ p ∷ []) (ap (λ (v : StateView). v.history) a.now_is) ∙ append_assoc old.history passed (p ∷ []) in
    record {
      split = append_assoc passed (p ∷ []) next ∙ ap (λ (l : List Post). passed ++ l) (sym e) ∙ a.split;
      done = a.done ++ m.value ∷ [];
      rest = m.values;
      numbers = append_assoc a.done (m.value ∷ []) m.values ∙ ap (λ (l : List ℕ). a.done ++ l) (sym m.is) ∙ a.numbers;
      count = omega (arith, a.count, length-append a.done (m.value ∷ []));
      size = omega (arith, a.size, length-append passed (p ∷ []));
      fits = a.fits;
      makes = makes_push old.instance old.book passed a.done mid.book new.book p m.value a.makes here m.value_is m.fit;
      more = (m.last, subst (λ (x : Book). Makes old.instance x next m.values m.last) book m.more);
      now_is =
          is ∙ ap (λ (v : StateView). record v { history = v.history ++ p ∷ []; book = new.book; spare = mid.spare - 1 }) a.now_is
          ∙ ap (λ (h : List Post). record old { history = h; book = new.book; spare = mid.spare - 1 }) (ap (λ (l : List Post). l ++ p ∷ []) (sym (ap (λ (v : StateView). v.history) a.now_is)) ∙ history)
          ∙ ap (λ (n : ℕ). record old { history = old.history ++ (passed ++ p ∷ []); book = new.book; spare = n }) (sym spare);
      room = omega (arith, a.room, spare, may.0);
    }
