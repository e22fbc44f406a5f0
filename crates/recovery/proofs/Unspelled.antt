-- Records of which one is rejected make no book.
use Rattle.recovery.proofs.Common.{◌≡◌, ℕ, zero, suc, List, [], ◌∷◌, take, Some, refl, sym, ◌∙◌, ap, subst, slice_get, AllZip, Problem, PriceWidth, Post, Departs, SpellsBy, EachSpellsOnce, Book, opening, book_after, book_of, after_parts, not_next, Why, Codec, Step, RebuildFault, Rejected, NoMemory, MakeBookBy, joined, IsRefused, IsCause, RefusesBy}
use Rattle.post_codec.specs.declared.fault.CodecFault.TheVariants.{NoMemory as NoMemoryForPosts}
use Rattle.search_core.specs.declared.fault.StepFault.{StepFault}

-- ---- posts of which one is refused

not_whole : (i : Problem) (b c : Book) (posts : List Post) (count : ℕ) (fault : StepFault) → IsRefused i b posts count fault → book_after i b posts ≡ Some c → ⊥
not_whole i b c posts count fault r e = not_next i b c posts count r.post r.before r.taken r.next r.refused e

-- ---- records of which one is rejected

module _ (w : PriceWidth) where
  no_batch : EachSpellsOnce w → (i : Problem) (b c : Book) (bytes : List ℕ) (batch : List Post) (why : Why) → IsCause w i b bytes why → SpellsBy w bytes batch → book_after i b batch ≡ Some c → ⊥
  no_batch once i b c bytes batch (Codec (Departs at)) cause s e = cause.none batch s
  no_batch once i b c bytes batch (Codec NoMemoryForPosts) cause s e = cause
  no_batch once i b c bytes batch (Step post fault) cause s e =
      let same : batch ≡ cause.posts = once bytes batch cause.posts s cause.spells in
      not_whole i b c cause.posts post fault cause.first (ap (λ (l : List Post). book_after i b l) (sym same) ∙ e)

  no_book : EachSpellsOnce w → (i : Problem) (b before c : Book) (records : List (List ℕ)) (at : ℕ) (fronts batches : List (List Post)) (bytes : List ℕ) (why : Why)
      → AllZip (SpellsBy w) (take at records) fronts → book_after i b (joined fronts) ≡ Some before → slice_get records at ≡ Some bytes → IsCause w i before bytes why
      → AllZip (SpellsBy w) records batches → book_after i b (joined batches) ≡ Some c → ⊥
  no_book once i b before c [] at fronts batches bytes why f taken next cause s e = absurd (cc)
  no_book once i b before c (r ∷ rs) at fronts [] bytes why f taken next cause s e = s
  no_book once i b before c (r ∷ rs) zero [] (y ∷ ys) bytes why f taken next cause s e =
      let here : b ≡ before = cc in
      let this : r ≡ bytes = cc in
      let d = after_parts i b c y (joined ys) e in
      no_batch once i b d.0 r y why (subst (λ (x : Book). IsCause w i x r why) (sym here) (subst (λ (l : List ℕ). IsCause w i before l why) (sym this) cause)) s.0 d.1
  no_book once i b before c (r ∷ rs) zero (x ∷ xs) (y ∷ ys) bytes why f taken next cause s e = f
  no_book once i b before c (r ∷ rs) (suc at) [] (y ∷ ys) bytes why f taken next cause s e = f
  no_book once i b before c (r ∷ rs) (suc at) (x ∷ xs) (y ∷ ys) bytes why f taken next cause s e =
      let d = after_parts i b c y (joined ys) e in
      let g = after_parts i b before x (joined xs) taken in
      let alike : x ≡ y = once r x y f.0 s.0 in
      let same : g.0 ≡ d.0 = cc (sym g.1 ∙ ap (λ (l : List Post). book_after i b l) alike ∙ d.1) in
      no_book once i d.0 before c rs at xs ys bytes why f.1 (subst (λ (x : Book). book_after i x (joined xs) ≡ Some before) same g.2) next cause s.1 d.2

  pub never_rejected : EachSpellsOnce w → (i : Problem) (records : List (List ℕ)) (posts : List Post) (b : Book) (fault : RebuildFault) → MakeBookBy w i records posts b → RefusesBy w i records fault → fault ≡ NoMemory
  never_rejected once i records posts b (Rejected at why) m r =
      absurd (no_book once i (opening i) r.before b records at r.taken.spell.batches m.spell.batches r.bytes why r.taken.spell.spelled (ap (λ (l : List Post). book_of i l) r.taken.spell.all ∙ r.taken.make) r.next r.cause m.spell.spelled (ap (λ (l : List Post). book_of i l) m.spell.all ∙ m.make))
  never_rejected once i records posts b NoMemory m r = refl
