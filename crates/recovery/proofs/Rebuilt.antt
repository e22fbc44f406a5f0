-- Records taken into a state one after another, and where they stop.
use Rattle.recovery.proofs.Common.{◌≡◌, inl, inr, ℕ, zero, suc, ◌+◌, ◌<◌, List, [], ◌∷◌, length, map, take, get_or, Option, Some, refl, sym, ◌∙◌, ap, subst, arith, slice_get, option_and_then, take-map, Problem, PriceWidth, Post, Departs, Book, opening, book_after, book_of, StateView, book_after-append, Why, Codec, Step, MakeBookBy, SpellPostsBy, IsCause, IsFirstRejectedBy, RefusesBy, fault_at, RecordStops, TakesRecord, Takes, none_spelled, spell_next}
use Rattle.post_codec.specs.declared.fault.CodecFault.TheVariants.{NoMemory as NoMemoryForPosts}
use Rattle.search_core.specs.declared.fault.StepFault.TheVariants.{NotLegal, WrongCost, NotBetter, NoNode, IsSplit, NotOpen, NotLive, OutOfRange, NotSettled, Price, NoMemory}

-- ---- lists

get_map : {V W : Type 0} (f : V → W) (xs : List V) (k : ℕ) (x : V) → k < length xs → x ≡ get_or xs k x → slice_get (map f xs) k ≡ Some (f x)
get_map f [] k x small e = absurd (omega arith)
get_map f (y ∷ xs) zero x small e = ap (λ v. Some (f v)) (sym e)
get_map f (y ∷ xs) (suc k) x small e = let less : k < length xs = omega arith in get_map f xs k x less e

module _ (w : PriceWidth) where
  -- ---- records taken

  -- a state made of records
  pub record Rebuilt (i : Problem) (records : List (List ℕ)) (now : StateView) : Type 0 where
    pub same : now.instance ≡ i
    pub made : MakeBookBy w i records now.history now.book

  pub rebuilt_start : (i : Problem) (now : StateView) → now ≡ record { instance = i; history = []; book = opening i; spare = 0 } → Rebuilt i [] now
  rebuilt_start i now e = subst (λ (v : StateView). Rebuilt i [] v) (sym e) (record { same = refl; made = record { spell = none_spelled; make = refl } })

  takes_book : (i : Problem) (old new : StateView) (posts : List Post) → old.instance ≡ i → book_of i old.history ≡ Some old.book → Takes old posts new → book_of i new.history ≡ Some new.book
  takes_book i old new posts same makes t =
      let here : book_after i old.book posts ≡ Some new.book = subst (λ (p : Problem). book_after p old.book posts ≡ Some new.book) same t.makes in
      ap (λ (l : List Post). book_of i l) t.grows
      ∙ book_after-append i (opening i) old.history posts
      ∙ ap (λ (o : Option Book). option_and_then (λ c. book_after i c posts) o) makes
      ∙ here

  pub rebuilt_more : {V : Type 0} (f : V → List ℕ) (i : Problem) (records : List V) (k : ℕ) (x : V) (old new : StateView)
      → k < length records → x ≡ get_or records k x → Rebuilt i (map f (take k records)) old → TakesRecord w old (f x) new → Rebuilt i (map f (take (k + 1) records)) new
  rebuilt_more f i records k x old new small at r t = record {
    same = t.takes.same ∙ r.same;
    made = record {
      spell = subst (λ (l : List Post). SpellPostsBy w (map f (take (k + 1) records)) l) (sym t.takes.grows) (spell_next f records k x old.history t.posts small at r.made.spell t.spells);
      make = takes_book i old new t.posts r.same r.made.make t.takes;
    };
  }

  -- ---- where they stop

  stops : (i : Problem) (b : Book) (bytes : List ℕ) (records : List (List ℕ)) (at : ℕ) (why : Why) → (IsCause w i b bytes why → IsFirstRejectedBy w i records at why) → RecordStops w i b bytes why → RefusesBy w i records (fault_at at why)
  stops i b bytes records at (Codec (Departs offset)) first r = first r
  stops i b bytes records at (Codec NoMemoryForPosts) first r = tt
  stops i b bytes records at (Step post (NotLegal fault)) first r = elim r [ inl none ↦ absurd (cc) | inr cause ↦ first cause ]
  stops i b bytes records at (Step post (WrongCost kept found)) first r = elim r [ inl none ↦ absurd (cc) | inr cause ↦ first cause ]
  stops i b bytes records at (Step post (NotBetter best)) first r = elim r [ inl none ↦ absurd (cc) | inr cause ↦ first cause ]
  stops i b bytes records at (Step post (NoNode node)) first r = elim r [ inl none ↦ absurd (cc) | inr cause ↦ first cause ]
  stops i b bytes records at (Step post (IsSplit node)) first r = elim r [ inl none ↦ absurd (cc) | inr cause ↦ first cause ]
  stops i b bytes records at (Step post (NotOpen floor best)) first r = elim r [ inl none ↦ absurd (cc) | inr cause ↦ first cause ]
  stops i b bytes records at (Step post (NotLive class)) first r = elim r [ inl none ↦ absurd (cc) | inr cause ↦ first cause ]
  stops i b bytes records at (Step post (OutOfRange lo hi)) first r = elim r [ inl none ↦ absurd (cc) | inr cause ↦ first cause ]
  stops i b bytes records at (Step post (NotSettled class)) first r = elim r [ inl none ↦ absurd (cc) | inr cause ↦ first cause ]
  stops i b bytes records at (Step post (Price fault)) first r = elim r [ inl none ↦ absurd (cc) | inr cause ↦ first cause ]
  stops i b bytes records at (Step post NoMemory) first r = tt

  pub rebuilt_stops : {V : Type 0} (f : V → List ℕ) (i : Problem) (records : List V) (k : ℕ) (x : V) (old : StateView) (why : Why)
      → k < length records → x ≡ get_or records k x → Rebuilt i (map f (take k records)) old → RecordStops w i old.book (f x) why → RefusesBy w i (map f records) (fault_at k why)
  rebuilt_stops f i records k x old why small at r s =
      let front : MakeBookBy w i (take k (map f records)) old.history old.book = subst (λ (l : List (List ℕ)). MakeBookBy w i l old.history old.book) (sym (take-map f k records)) r.made in
      let next : slice_get (map f records) k ≡ Some (f x) = get_map f records k x small at in
      stops i old.book (f x) (map f records) k why (λ cause. record { posts = old.history; before = old.book; taken = front; bytes = f x; next = next; cause = cause }) s
