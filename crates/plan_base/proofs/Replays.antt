-- One call more in the log of a disk in memory.
use Rattle.plan_base.proofs.Common.{◌≡◌, inl, inr, ⊎_elim, ℕ, ◌+◌, List, [], ◌∷◌, ◌++◌, length, reverse, Vec, true, refl, sym, ◌∙◌, ap, subst, arith, reverse-append, take_all, WritesPart, CutsPart, StepsFrom, AddsMoment, content, image_of, image_since, all_fit, reads_image, DiskEvent, Write, Shorten, Sync}
use Rattle.std.specs.declared.alloc.Global.{Global}

pub newest_first : (old new : List DiskEvent) (e : DiskEvent) → new ≡ old ++ e ∷ [] → reverse new ≡ e ∷ reverse old
newest_first old new e is = ap reverse is ∙ reverse-append old (e ∷ [])

module _ (first : List ℕ) (old new : List DiskEvent) where
  pub moment_same : (calls : ℕ) → new ≡ old → AddsMoment calls (image_since first (reverse old)) (image_since first (reverse new)) (image_of first (reverse new))
  moment_same calls same =
      subst (λ (l : List DiskEvent). AddsMoment calls (image_since first (reverse old)) (image_since first (reverse l)) (image_of first (reverse l))) (sym same)
      (record { others = λ t c le left. inl left; stay = λ t c le left. left })

  pub moment_noted : (calls : ℕ) (e : DiskEvent) → e.call ≡ calls + 1 → new ≡ old ++ e ∷ [] → AddsMoment calls (image_since first (reverse old)) (image_since first (reverse new)) (image_of first (reverse new))
  moment_noted calls e numbered is =
      subst (λ (l : List DiskEvent). AddsMoment calls (image_since first (reverse old)) (image_since first l) (image_of first l)) (sym (newest_first old new e is))
      (record { others = λ t c le left. ⊎_elim (λ now. inr now) (λ before. inl before.1) left; stay = λ t c le left. inr (omega arith, left) })

  pub write_same : (at n : ℕ) → new ≡ old → StepsFrom (WritesPart at n) (image_of first (reverse old)) (image_of first (reverse new))
  write_same at n same =
      subst (λ (l : List DiskEvent). StepsFrom (WritesPart at n) (image_of first (reverse old)) (image_of first (reverse l))) (sym same)
      (λ c now. (c, now, record { front = refl; back = refl; least = omega arith; most = omega arith }))

  pub write_noted : (call at : ℕ) (v : Vec ℕ Global) (bytes : List ℕ) → v.items ≡ bytes → new ≡ old ++ record { call = call; act = Write at v } ∷ [] → StepsFrom (WritesPart at (length bytes)) (image_of first (reverse old)) (image_of first (reverse new))
  write_noted call at v bytes same is =
      subst (λ (l : List DiskEvent). StepsFrom (WritesPart at (length bytes)) (image_of first (reverse old)) (image_of first l)) (sym (newest_first old new (record { call = call; act = Write at v }) is))
      (λ c now. (now.0, now.1, subst (λ (n : ℕ). WritesPart at n now.0 c) (ap length same) now.2))

  pub cut_noted : (call len : ℕ) → new ≡ old ++ record { call = call; act = Shorten len } ∷ [] → StepsFrom (CutsPart len) (image_of first (reverse old)) (image_of first (reverse new))
  cut_noted call len is =
      subst (λ (l : List DiskEvent). StepsFrom (CutsPart len) (image_of first (reverse old)) (image_of first l)) (sym (newest_first old new (record { call = call; act = Shorten len }) is))
      (λ c now. now)

  -- a length may stay as it is
  pub cut_same : (len : ℕ) → new ≡ old → StepsFrom (CutsPart len) (image_of first (reverse old)) (image_of first (reverse new))
  cut_same len same =
      subst (λ (l : List DiskEvent). StepsFrom (CutsPart len) (image_of first (reverse old)) (image_of first (reverse l))) (sym same)
      (λ c now. (c, now, record { least = omega arith; front = take_all (length c) c (omega arith) }))

  -- a sync leaves one of the images
  pub synced_image : (call : ℕ) → all_fit first (reverse old) ≡ true → new ≡ old ++ record { call = call; act = Sync } ∷ [] → (c : List ℕ) → image_of first (reverse new) c → image_of first (reverse old) c
  synced_image call fit is c now =
      let left : c ≡ content first (reverse old) = subst (λ (l : List DiskEvent). image_of first l c) (newest_first old new (record { call = call; act = Sync }) is) now in
      subst (image_of first (reverse old)) (sym left) (reads_image first (reverse old) fit)
