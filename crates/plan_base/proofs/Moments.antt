-- How runs of calls go on.
use Rattle.plan_base.proofs.Common.{inl, inr, ⊎_elim, ℕ, List, refl, ◌∙◌, subst, arith, Option, None, Some, OnSome, HoldsThroughout, OnlyLooks}

pub told_all : (o : Option (List ℕ)) (A : Type 0) → A → OnSome o A
told_all None A a = tt
told_all (Some x) A a = a

module _ {D : Type 0} (calls : D → ℕ) (since : D → ℕ → List ℕ → Type 0) where
  -- before the first call
  pub started : (old : D) (P images : List ℕ → Type 0) → ((c : List ℕ) → since old (calls old) c → images c) → ((c : List ℕ) → images c → P c) → HoldsThroughout calls since old old P
  started old P images now here = record { counted = omega arith; between = λ c left. here c (now c left); earlier = λ t c le left. inl left }

  -- a weaker fact
  pub weaker : (old new : D) (P Q : List ℕ → Type 0) → ((c : List ℕ) → P c → Q c) → HoldsThroughout calls since old new P → HoldsThroughout calls since old new Q
  weaker old new P Q so run = record {
    counted = run.counted;
    between = λ c left. so c (run.between c left);
    earlier = λ t c le left. ⊎_elim (λ was. inl was) (λ now. inr (so c now)) (run.earlier t c le left);
  }

  -- one run after another
  pub then_run : (old mid new : D) (P : List ℕ → Type 0) → HoldsThroughout calls since old mid P → HoldsThroughout calls since mid new P → HoldsThroughout calls since old new P
  then_run old mid new P first second = record {
    counted = omega (arith, first.counted, second.counted);
    between = λ c left. ⊎_elim (λ was. first.between c was) (λ now. now) (second.earlier (calls old) c first.counted left);
    earlier = λ t c le left. ⊎_elim (λ was. first.earlier t c le was) (λ now. inr now) (second.earlier t c (omega (arith, le, first.counted)) left);
  }

  module _ (reads : D → Option (List ℕ)) (images : D → List ℕ → Type 0) (only_now : (d : D) (c : List ℕ) → since d (calls d) c → images d c) where
    pub looked : (old : D) → OnlyLooks reads images since calls old old
    looked old = record {
      same = refl;
      counted = omega arith;
      no_more = told_all (reads old) _ (λ c now. now);
      moments = told_all (reads old) _ (started old (images old) (images old) (only_now old) (λ c now. now));
    }

    fewer : (old mid new : D) (o : Option (List ℕ)) → OnSome o ((c : List ℕ) → images mid c → images old c) → OnSome o ((c : List ℕ) → images new c → images mid c) → OnSome o ((c : List ℕ) → images new c → images old c)
    fewer old mid new None first second = first
    fewer old mid new (Some file) first second = λ c now. first c (second c now)

    longer : (old mid new : D) (o : Option (List ℕ)) → OnSome o ((c : List ℕ) → images mid c → images old c) → OnSome o (HoldsThroughout calls since old mid (images old)) → OnSome o (HoldsThroughout calls since mid new (images mid))
        → OnSome o (HoldsThroughout calls since old new (images old))
    longer old mid new None no_more first second = first
    longer old mid new (Some file) no_more first second = then_run old mid new (images old) first (weaker mid new (images mid) (images old) no_more second)

    -- one call more
    pub looks_more : (old mid new : D) → OnlyLooks reads images since calls old mid → OnlyLooks reads images since calls mid new → OnlyLooks reads images since calls old new
    looks_more old mid new first second =
        let no_more = subst (λ (o : Option (List ℕ)). OnSome o ((c : List ℕ) → images new c → images mid c)) first.same second.no_more in
        let moments = subst (λ (o : Option (List ℕ)). OnSome o (HoldsThroughout calls since mid new (images mid))) first.same second.moments in
        record {
          same = second.same ∙ first.same;
          counted = omega (arith, first.counted, second.counted);
          no_more = fewer old mid new (reads old) first.no_more no_more;
          moments = longer old mid new (reads old) first.no_more first.moments moments;
        }
