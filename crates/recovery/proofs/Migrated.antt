-- Records that make a book by the former spelling have a spelling with prices of five bytes, which makes the same book.
use Rattle.recovery.proofs.Common.{◌≡◌, ℕ, ◌<◌, max, not, List, [], ◌∷◌, ◌++◌, length, map, take, get_or, ◌+◌, Some, sym, ap, subst, ◌∙◌, ◌&&◌, Vec, Global, All, AllZip, AllByRecursion, and_parts, map_more, map-append, All-from_recursion, recursion_from_All, Problem, IsValid, are_prices, bound_of, with_floor, Five, Eight, Post, Plan, Priced, Split, Settled, joined, CanSpellPost, CountsFitRow, FitsPost, FitsRow, Spells, SpellsBy, one_list_by, Book, book_after, book_of, opening, priced, step, after_parts, at_node_some, bind_some, cond_some, CanRespell, SpellSame, MakeBook, MakeBookBy}
use Rattle.shift_instance.specs.declared.Row.{Row}
use Rattle.search_core.proofs.Spelled.{prices_spell}

-- ---- each record has a spelling
rows_can : (rows : List Row) → AllByRecursion FitsRow rows → AllByRecursion CountsFitRow rows
rows_can [] fits = tt
rows_can (r ∷ rows) fits = (fits.0.3.0, rows_can rows fits.1)

post_can : (i : Problem) (b c : Book) (p : Post) → IsValid i → step i b p ≡ Some c → FitsPost Eight p → CanSpellPost p
post_can i b c (Plan worker rows cost) valid e fits = (fits.2.0, All-from_recursion CountsFitRow rows (rows_can rows (recursion_from_All FitsRow rows fits.2.1)))
post_can i b c (Priced worker k prices) valid e fits =
    let r = at_node_some b c k (priced i b k prices) e in
    let n = r.0 in
    let q = cond_some (not n.split && are_prices i n.cuts prices) (with_floor b.nodes k n (max n.floor (bound_of i n.cuts prices))) r.2 r.3 in
    let spell = prices_spell i n.cuts prices valid (and_parts (not n.split) (are_prices i n.cuts prices) q.0).1 in
    ((fits.2.1.0, spell.0), (fits.2.2.0, spell.1))
post_can i b c (Split worker k class m) valid e fits = fits.2.2.0
post_can i b c (Settled worker k) valid e fits = tt

batch_can : (i : Problem) (b c : Book) (posts : List Post) → IsValid i → book_after i b posts ≡ Some c → AllByRecursion (FitsPost Eight) posts → AllByRecursion CanSpellPost posts
batch_can i b c [] valid e fits = tt
batch_can i b c (p ∷ posts) valid e fits =
    let r = bind_some (λ (next : Book). book_after i next posts) (step i b p) c e in
    (post_can i b r.0 p valid r.1 fits.0, batch_can i r.0 c posts valid r.2 fits.1)

records_can : (i : Problem) (b c : Book) (records : List (Vec ℕ Global)) (batches : List (List Post)) → IsValid i → AllZip (SpellsBy Eight) (map (λ r. r.items) records) batches → book_after i b (joined batches) ≡ Some c
    → AllByRecursion (λ (r : Vec ℕ Global). CanRespell r.items) records
records_can i b c [] batches valid z e = tt
records_can i b c (r ∷ records) [] valid z e = absurd z
records_can i b c (r ∷ records) (x ∷ batches) valid z e =
    let d = after_parts i b c x (joined batches) e in
    let fits = z.0.fits in
    let can = All-from_recursion CanSpellPost x (batch_can i b d.0 x valid d.1 (recursion_from_All (FitsPost Eight) x fits.1)) in
    (record { posts = x; before = z.0; can = (fits.0, can) }, records_can i d.0 c records batches valid z.1 d.2)

pub all_can : (i : Problem) (records : List (Vec ℕ Global)) (posts : List Post) (b : Book) → IsValid i → MakeBookBy Eight i (map (λ r. r.items) records) posts b → All (λ (r : Vec ℕ Global). CanRespell r.items) records
all_can i records posts b valid m =
    All-from_recursion (λ (r : Vec ℕ Global). CanRespell r.items) records
    (records_can i (opening i) b records m.spell.batches valid m.spell.spelled (ap (λ (l : List Post). book_of i l) m.spell.all ∙ m.make))

-- ---- the spelling of the same posts

same_batches : (old new : List (List ℕ)) (batches : List (List Post)) → AllZip SpellSame old new → AllZip (SpellsBy Eight) old batches → AllZip (SpellsBy Five) new batches
same_batches [] [] batches s z = z
same_batches [] (n ∷ new) batches s z = absurd s
same_batches (o ∷ old) [] batches s z = absurd s
same_batches (o ∷ old) (n ∷ new) [] s z = absurd z
same_batches (o ∷ old) (n ∷ new) (x ∷ batches) s z =
    (subst (λ (l : List Post). Spells n l) (one_list_by Eight o s.0.posts x s.0.before z.0) s.0.now, same_batches old new batches s.1 z.1)

-- both make one book
pub same_book : (i : Problem) (old new : List (List ℕ)) → ((posts : List Post) × (b : Book) × MakeBookBy Eight i old posts b) → AllZip SpellSame old new
    → (posts : List Post) × (b : Book) × MakeBookBy Eight i old posts b × MakeBook i new posts b
same_book i old new m s =
    let made = m.2 in
    (m.0, m.1, made, record { spell = record { batches = made.spell.batches; spelled = same_batches old new made.spell.batches s made.spell.spelled; all = made.spell.all }; make = made.make })

respelled_more : (old new : List (List ℕ)) (o n : List ℕ) → AllZip SpellSame old new → SpellSame o n → AllZip SpellSame (old ++ o ∷ []) (new ++ n ∷ [])
respelled_more [] [] o n z s = (s, tt)
respelled_more [] (m ∷ new) o n z s = absurd z
respelled_more (p ∷ old) [] o n z s = absurd z
respelled_more (p ∷ old) (m ∷ new) o n z s = (z.0, respelled_more old new o n z.1 s)

-- a record more is spelled
pub respelled_next : (records new : List (Vec ℕ Global)) (k : ℕ) (x n : Vec ℕ Global) → k < length records → x ≡ get_or records k x → AllZip SpellSame (map (λ r. r.items) (take k records)) (map (λ r. r.items) new) → SpellSame x.items n.items
    → AllZip SpellSame (map (λ r. r.items) (take (k + 1) records)) (map (λ r. r.items) (new ++ n ∷ []))
respelled_next records new k x n small at z s =
    let f : Vec ℕ Global → List ℕ = λ r. r.items in
    let more : map f (take (k + 1) records) ≡ map f (take k records) ++ f x ∷ [] = map_more f records k x small ∙ ap (λ (y : Vec ℕ Global). map f (take k records) ++ f y ∷ []) (sym at) in
    subst (λ (l : List (List ℕ)). AllZip SpellSame l (map f (new ++ n ∷ []))) (sym more)
    (subst (λ (l : List (List ℕ)). AllZip SpellSame (map f (take k records) ++ f x ∷ []) l) (sym (map-append f new (n ∷ []))) (respelled_more (map f (take k records)) (map f new) (f x) (f n) z s))
