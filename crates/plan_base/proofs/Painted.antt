-- A content in which each byte written since the last sync is another is one of the images.
use Rattle.plan_base.proofs.Common.{◌≡◌, ℕ, zero, suc, ◌+◌, List, [], ◌∷◌, ◌++◌, length, take, drop, true, refl, sym, ◌∙◌, ap, subst, arith, length-append, length-take, length-drop, length-replicate, replicate, overwritten, WritesPart, CutsPart, acted, content, images_after, image_of, fits, all_fit, masked, mask_of, painted, whole_write, whole_cut, le_true, both, DiskEvent, Write, Shorten, Sync}
use Rattle.plan_base.specs.declared.disk_event.DiskAct.{DiskAct}

length_over : (at : ℕ) (bs bs' old old' : List ℕ) → length bs ≡ length bs' → length old ≡ length old' → length (overwritten at bs old) ≡ length (overwritten at bs' old')
length_over at bs bs' old old' same alike =
    omega (
      arith,
      length-append (take at old ++ bs) (drop (at + length bs) old),
      length-append (take at old) bs,
      length-take at old,
      length-drop (at + length bs) old,
      length-append (take at old' ++ bs') (drop (at + length bs') old'),
      length-append (take at old') bs',
      length-take at old',
      length-drop (at + length bs') old',
    )

length_masked : (act : DiskAct) (reads mask : List ℕ) → length mask ≡ length reads → length (masked act (length reads) mask) ≡ length (acted act reads)
length_masked (Write at bytes) reads mask alike = length_over at (replicate (length bytes.items) 1) bytes.items mask reads (length-replicate (length bytes.items) 1) alike
length_masked (Shorten len) reads mask alike = omega (arith, length-take len mask, length-take len reads)
length_masked Sync reads mask alike = length-replicate (length reads) 0

pub length_mask : (first : List ℕ) (log : List DiskEvent) → length (mask_of first log) ≡ length (content first log)
length_mask first [] = length-replicate (length first) 0
length_mask first (e ∷ earlier) = length_masked e.act (content first earlier) (mask_of first earlier) (length_mask first earlier)

module _ (b : ℕ) where
  painted_none : (xs : List ℕ) → painted b xs [] ≡ []
  painted_none [] = refl
  painted_none (x ∷ xs) = refl

  take_painted : (n : ℕ) (xs ms : List ℕ) → painted b (take n xs) (take n ms) ≡ take n (painted b xs ms)
  take_painted zero xs ms = refl
  take_painted (suc n) [] ms = refl
  take_painted (suc n) (x ∷ xs) [] = refl
  take_painted (suc n) (x ∷ xs) (m ∷ ms) = ap (λ (l : List ℕ). painted b (x ∷ []) (m ∷ []) ++ l) (take_painted n xs ms)

  drop_painted : (n : ℕ) (xs ms : List ℕ) → painted b (drop n xs) (drop n ms) ≡ drop n (painted b xs ms)
  drop_painted zero xs ms = refl
  drop_painted (suc n) [] ms = refl
  drop_painted (suc n) (x ∷ xs) [] = painted_none (drop n xs)
  drop_painted (suc n) (x ∷ xs) (m ∷ ms) = drop_painted n xs ms

  append_painted : (xs ys us vs : List ℕ) → length us ≡ length xs → painted b (xs ++ ys) (us ++ vs) ≡ painted b xs us ++ painted b ys vs
  append_painted [] ys [] vs alike = refl
  append_painted [] ys (u ∷ us) vs alike = absurd (omega (arith, alike))
  append_painted (x ∷ xs) ys [] vs alike = absurd (omega (arith, alike))
  append_painted (x ∷ xs) ys (u ∷ us) vs alike = ap (λ (l : List ℕ). painted b (x ∷ []) (u ∷ []) ++ l) (append_painted xs ys us vs (omega (arith, alike)))

  length_painted : (xs ms : List ℕ) → length ms ≡ length xs → length (painted b xs ms) ≡ length xs
  length_painted [] ms alike = refl
  length_painted (x ∷ xs) [] alike = absurd (omega (arith, alike))
  length_painted (x ∷ xs) (m ∷ ms) alike = omega (arith, length_painted xs ms (omega (arith, alike)))

  ones_painted : (xs : List ℕ) → painted b xs (replicate (length xs) 1) ≡ replicate (length xs) b
  ones_painted [] = refl
  ones_painted (x ∷ xs) = ap (λ (l : List ℕ). b ∷ l) (ones_painted xs)

  zeros_painted : (xs : List ℕ) → painted b xs (replicate (length xs) 0) ≡ xs
  zeros_painted [] = refl
  zeros_painted (x ∷ xs) = ap (λ (l : List ℕ). x ∷ l) (zeros_painted xs)

  painted_over : (at : ℕ) (bs xs ms : List ℕ) → length ms ≡ length xs
      → painted b (overwritten at bs xs) (overwritten at (replicate (length bs) 1) ms) ≡ overwritten at (replicate (length bs) b) (painted b xs ms)
  painted_over at bs xs ms alike =
      let ones = replicate (length bs) 1 in
      let n = length bs in
      let size : length ones ≡ n = length-replicate n 1 in
      let size' : length (replicate n b) ≡ n = length-replicate n b in
      let front : length (take at ms) ≡ length (take at xs) = omega (arith, length-take at ms, length-take at xs, alike) in
      let both_fronts : length (take at ms ++ ones) ≡ length (take at xs ++ bs) = omega (arith, length-append (take at ms) ones, length-append (take at xs) bs, front, size) in
      append_painted (take at xs ++ bs) (drop (at + n) xs) (take at ms ++ ones) (drop (at + length ones) ms) both_fronts
      ∙ ap (λ (k : ℕ). painted b (take at xs ++ bs) (take at ms ++ ones) ++ painted b (drop (at + n) xs) (drop (at + k) ms)) size
      ∙ ap (λ (l : List ℕ). l ++ painted b (drop (at + n) xs) (drop (at + n) ms)) (append_painted (take at xs) bs (take at ms) ones front)
      ∙ ap (λ (l : List ℕ). l ++ painted b bs ones ++ painted b (drop (at + n) xs) (drop (at + n) ms)) (take_painted at xs ms)
      ∙ ap (λ (l : List ℕ). take at (painted b xs ms) ++ l ++ painted b (drop (at + n) xs) (drop (at + n) ms)) (ones_painted bs)
      ∙ ap (λ (l : List ℕ). take at (painted b xs ms) ++ replicate n b ++ l) (drop_painted (at + n) xs ms)
      ∙ ap (λ (k : ℕ). take at (painted b xs ms) ++ replicate n b ++ drop (at + k) (painted b xs ms)) (sym size')

  painted_act : (act : DiskAct) (reads mask : List ℕ) (images : List ℕ → Type 0) → fits act reads ≡ true → length mask ≡ length reads → images (painted b reads mask)
      → images_after act reads images (painted b (acted act reads) (masked act (length reads) mask))
  painted_act (Write at bytes) reads mask images fit alike now =
      let n = length bytes.items in
      let d = painted b reads mask in
      let written = whole_write at (replicate n b) d (omega (arith, le_true at (length reads) fit, length_painted reads mask alike)) in
      let written' = subst (λ (k : ℕ). WritesPart at k d (overwritten at (replicate n b) d)) (length-replicate n b) written in
      (d, now, subst (λ (l : List ℕ). WritesPart at n d l) (sym (painted_over at bytes.items reads mask alike)) written')
  painted_act (Shorten len) reads mask images fit alike now =
      let d = painted b reads mask in
      (d, now, subst (λ (l : List ℕ). CutsPart len d l) (sym (take_painted len reads mask)) (whole_cut len d (omega (arith, le_true len (length reads) fit, length_painted reads mask alike))))
  painted_act Sync reads mask images fit alike now = zeros_painted reads

  pub painted_image : (first : List ℕ) (log : List DiskEvent) → all_fit first log ≡ true → image_of first log (painted b (content first log) (mask_of first log))
  painted_image first [] fit = zeros_painted first
  painted_image first (e ∷ earlier) fit =
      let parts = both (fits e.act (content first earlier)) (all_fit first earlier) fit in
      painted_act e.act (content first earlier) (mask_of first earlier) (image_of first earlier) parts.0 (length_mask first earlier) (painted_image first earlier parts.1)
