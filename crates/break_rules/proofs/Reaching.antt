-- The walk one break on: which lists it reaches, and from where some legal list is reached.
use Rattle.break_rules.proofs.Common.{◌≡◌, ◌⊎◌, inl, inr, ℕ, ◌+◌, ◌<◌, ◌≤◌, Bool, true, false, ◌&&◌, List, [], ◌∷◌, ◌++◌, length, refl, sym, ap, slice_index_or, ◌∙◌, subst, arith, sum_by, fold, append_assoc, append-nil, take, drop, get_or, Option, Some, None, is_some, if◌then◌else◌, list_any, find, sum_by-cons, fold-append, and_parts, and_from, cases_Bool, false≢true, cond_both, cases_lt, take_more, drop_more, take-append-drop, Break, Rule, Spot, end_of, is_legal, is_live, total_of, is_lunch, IsRule, end_of_all, may_follow, is_walk, is_walk_from, may_end, nexts_of, spot_of, place_of, AreKnown, AreLive, Has}
use Rattle.std.proofs.Math.ListN.{get_or-append}
use Rattle.std.proofs.Math.Seq.{get_or-append_seam}
use Rattle.break_rules.proofs.Lists.{same_tests}
use Rattle.break_rules.proofs.Walk.{legal_is_walk}
use Rattle.break_rules.proofs.LegalLists.{live_rest, live_from}
use Rattle.break_rules.proofs.Steps.{bounds, total_small, has_next, from_next}
use Rattle.break_rules.proofs.Bits.{bits_few}

and_assoc : (a b c : Bool) → ((a && b) && c) ≡ (a && (b && c))
and_assoc true b c = refl
and_assoc false b c = refl

-- a walk goes on from where it stands
pub is_walk_from-append : (rule : Rule) (len offset used : ℕ) (front rest : List Break)
    → is_walk_from rule len offset used (front ++ rest) ≡ (is_walk_from rule len offset used front && is_walk_from rule len (fold (λ at b. end_of b) offset front) (used + sum_by (λ b. b.len) front) rest)
is_walk_from-append rule len offset used [] rest = let e : used ≡ used + 0 = omega arith in ap (λ n. is_walk_from rule len offset n rest) e
is_walk_from-append rule len offset used (b ∷ front) rest =
    let e : used + b.len + sum_by (λ b. b.len) front ≡ used + sum_by (λ b. b.len) (b ∷ front) = omega (arith, sum_by-cons (λ (b : Break). b.len) b front) in
    ap (λ t. may_follow rule len offset used b && t) (is_walk_from-append rule len (end_of b) (used + b.len) front rest
    ∙ ap (λ n. is_walk_from rule len (end_of b) (used + b.len) front && is_walk_from rule len (fold (λ at b. end_of b) (end_of b) front) n rest) e)
    ∙ sym (and_assoc (may_follow rule len offset used b) (is_walk_from rule len (end_of b) (used + b.len) front) (is_walk_from rule len (fold (λ at b. end_of b) (end_of b) front) (used + sum_by (λ b. b.len) (b ∷ front)) rest))

pub is_walk-append : (rule : Rule) (len : ℕ) (front rest : List Break)
    → is_walk rule len (front ++ rest) ≡ (is_walk rule len front && is_walk_from rule len (end_of_all front) (sum_by (λ b. b.len) front) rest)
is_walk-append rule len front rest =
    is_walk_from-append rule len 0 0 front rest
    ∙ ap (λ n. is_walk rule len front && is_walk_from rule len (end_of_all front) n rest) (let e : 0 + sum_by (λ b. b.len) front ≡ sum_by (λ b. b.len) front = omega arith in e)

and_true : (b : Bool) → (b && true) ≡ b
and_true true = refl
and_true false = refl

-- a walk with a break more
pub is_walk-more : (rule : Rule) (len : ℕ) (list : List Break) (b : Break)
    → is_walk rule len (list ++ b ∷ []) ≡ (is_walk rule len list && may_follow rule len (end_of_all list) (sum_by (λ b. b.len) list) b)
is_walk-more rule len list b =
    is_walk-append rule len list (b ∷ []) ∙ ap (λ t. is_walk rule len list && t) (and_true (may_follow rule len (end_of_all list) (sum_by (λ b. b.len) list) b))

pub walk_on : (rule : Rule) (len : ℕ) (list : List Break) (b : Break) → is_walk rule len list ≡ true → Has (nexts_of rule len (spot_of rule list)) b → is_walk rule len (list ++ b ∷ []) ≡ true
walk_on rule len list b h m =
    is_walk-more rule len list b ∙ and_from (is_walk rule len list) (may_follow rule len (end_of_all list) (sum_by (λ b. b.len) list) b) h (from_next rule len (spot_of rule list) b m)

-- a legal list that begins with a front: the front is a walk
pub front_walks : (rule : Rule) (len : ℕ) (front rest : List Break) → is_legal rule len (front ++ rest) ≡ true → is_walk rule len front ≡ true
front_walks rule len front rest h =
    (and_parts (is_walk rule len front) _ (sym (is_walk-append rule len front rest) ∙ (and_parts (is_walk rule len (front ++ rest)) (may_end rule len (front ++ rest)) (sym (legal_is_walk rule len (front ++ rest)) ∙ h)).0)).0

pub live_walks : (rule : Rule) (len : ℕ) (list : List Break) → is_live rule len list ≡ true → is_walk rule len list ≡ true
live_walks rule len list h = let r = live_rest rule len list h in front_walks rule len list r.0 r.1

pub not_live : (rule : Rule) (len : ℕ) (list : List Break) → is_walk rule len list ≡ false → is_live rule len list ≡ false
not_live rule len list h =
    elim (cases_Bool (is_live rule len list)) [ inl t ↦ absurd (false≢true (sym h ∙ live_walks rule len list t)) | inr f ↦ f ]

-- what a live list goes on with
pub live_legal : (rule : Rule) (len : ℕ) (list : List Break) → is_legal rule len list ≡ true → is_live rule len list ≡ true
live_legal rule len list h = live_from rule len list [] (ap (is_legal rule len) (append-nil list) ∙ h)

pub live_back : (rule : Rule) (len : ℕ) (list : List Break) (b : Break) → is_live rule len (list ++ b ∷ []) ≡ true → is_live rule len list ≡ true
live_back rule len list b h =
    let r = live_rest rule len (list ++ b ∷ []) h in
    live_from rule len list (b ∷ r.0) (sym (ap (is_legal rule len) (append_assoc list (b ∷ []) r.0)) ∙ r.1)

-- the first break of a rest that makes a list legal
pub rest_first : (rule : Rule) (len : ℕ) (list : List Break) (b : Break) (bs : List Break) → is_legal rule len (list ++ b ∷ bs) ≡ true
    → (is_live rule len (list ++ b ∷ []) ≡ true) × Has (nexts_of rule len (spot_of rule list)) b
rest_first rule len list b bs h =
    let whole : is_legal rule len ((list ++ b ∷ []) ++ bs) ≡ true = ap (is_legal rule len) (append_assoc list (b ∷ []) bs) ∙ h in
    let walk : is_walk rule len (list ++ b ∷ []) ≡ true = front_walks rule len (list ++ b ∷ []) bs whole in (
      live_from rule len (list ++ b ∷ []) bs whole,
      has_next rule len (spot_of rule list) b (and_parts (is_walk rule len list) (may_follow rule len (end_of_all list) (sum_by (λ b. b.len) list) b) (sym (is_walk-more rule len list b) ∙ walk)).1,
    )

pub live_cases : (rule : Rule) (len : ℕ) (list : List Break) → is_live rule len list ≡ true
    → (is_legal rule len list ≡ true) ⊎ ((b : Break) × (is_live rule len (list ++ b ∷ []) ≡ true) × Has (nexts_of rule len (spot_of rule list)) b)
live_cases rule len list h = let r = live_rest rule len list h in cases r.0 r.1
  where
    cases : (rest : List Break) → is_legal rule len (list ++ rest) ≡ true → (is_legal rule len list ≡ true) ⊎ ((b : Break) × (is_live rule len (list ++ b ∷ []) ≡ true) × Has (nexts_of rule len (spot_of rule list)) b)
    cases [] g = inl (sym (ap (is_legal rule len) (append-nil list)) ∙ g)
    cases (b ∷ bs) g = let f = rest_first rule len list b bs g in inr (b, f.0, f.1)

-- how far a walk comes
walk_within : (rule : Rule) (len offset used : ℕ) (list : List Break) → is_walk_from rule len offset used list ≡ true → offset ≤ len → used ≤ total_of rule len
    → (fold (λ at b. end_of b) offset list ≤ len) × (used + sum_by (λ b. b.len) list ≤ total_of rule len)
walk_within rule len offset used [] h o u = (o, omega arith)
walk_within rule len offset used (b ∷ bs) h o u =
    let p = and_parts (may_follow rule len offset used b) (is_walk_from rule len (end_of b) (used + b.len) bs) h in
    let f = bounds rule len offset used b p.0 in
    let r = walk_within rule len (end_of b) (used + b.len) bs p.1 (omega arith) (omega arith) in
    (r.0, omega (arith, r.1, sum_by-cons (λ (b : Break). b.len) b bs))

-- the numbers of a walk's spot
pub record IsSmall (rule : Rule) (len : ℕ) (spot : Spot) : Type 0 where
  pub offset : spot.offset ≤ len
  pub used : spot.used ≤ 48
  pub lunches : spot.lunches ≤ 3

pub walk_small : (rule : Rule) (len : ℕ) (list : List Break) → IsRule rule → is_walk rule len list ≡ true → IsSmall rule len (spot_of rule list)
walk_small rule len list r h =
    let w = walk_within rule len 0 0 list h (omega arith) (omega arith) in
    record { offset = w.0; used = omega (arith, w.1, total_small rule len r); lunches = bits_few (λ e. list_any (is_lunch e) list) rule.lunches r.few_lunches }

-- the spot behind a break that may come next is later, and so stands before in a table
pub later_place : (rule : Rule) (len : ℕ) (list : List Break) (b : Break) → IsRule rule → is_walk rule len (list ++ b ∷ []) ≡ true → Has (nexts_of rule len (spot_of rule list)) b
    → place_of len (spot_of rule (list ++ b ∷ [])) < place_of len (spot_of rule list)
later_place rule len list b r h m =
    let e : end_of_all (list ++ b ∷ []) ≡ end_of b = fold-append (λ (at : ℕ) (c : Break). end_of c) 0 list (b ∷ []) in
    let s = walk_small rule len (list ++ b ∷ []) r h in
    let f = bounds rule len (end_of_all list) (sum_by (λ b. b.len) list) b (from_next rule len (spot_of rule list) b m) in
    omega arith

-- the first that passes
pub find_none : {X : Type 0} (p : X → Bool) (xs : List X) → ((x : X) → Has xs x → p x ≡ false) → find p xs ≡ None
find_none p [] h = refl
find_none p (x ∷ xs) h = ap (λ b. if b then Some x else find p xs) (h x (inl refl)) ∙ find_none p xs (λ y m. h y (inr m))

pub find_here : {X : Type 0} (p : X → Bool) (xs : List X) (x : X) (ys : List X) → ((y : X) → Has xs y → p y ≡ false) → p x ≡ true → find p (xs ++ x ∷ ys) ≡ Some x
find_here p [] x ys h e = ap (λ b. if b then Some x else find p ys) e
find_here p (z ∷ zs) x ys h e = ap (λ b. if b then Some z else find p (zs ++ x ∷ ys)) (h z (inl refl)) ∙ find_here p zs x ys (λ y m. h y (inr m)) e

pub has_middle : {X : Type 0} (xs ys : List X) (x : X) → Has (xs ++ x ∷ ys) x
has_middle [] ys x = inl refl
has_middle (z ∷ zs) ys x = inr (has_middle zs ys x)

-- what a table of later spots says of the spot behind a break that may come next
pub live_behind : (rule : Rule) (len : ℕ) (list : List Break) (spot behind : Spot) (b : Break) (table : List Bool) → IsRule rule → AreKnown rule len (place_of len spot) table
    → is_walk rule len list ≡ true → spot ≡ spot_of rule list → Has (nexts_of rule len spot) b → behind ≡ spot_of rule (list ++ b ∷ [])
    → slice_index_or table (place_of len behind) false ≡ is_live rule len (list ++ b ∷ [])
live_behind rule len list spot behind b table r known walk is m at =
    let has : Has (nexts_of rule len (spot_of rule list)) b = subst (λ (s : Spot). Has (nexts_of rule len s) b) is m in
    let more : is_walk rule len (list ++ b ∷ []) ≡ true = walk_on rule len list b walk has in
    let before : place_of len (spot_of rule (list ++ b ∷ [])) < place_of len spot =
    subst (λ (s : Spot). place_of len (spot_of rule (list ++ b ∷ [])) < place_of len s) (sym is) (later_place rule len list b r more has) in
    ap (λ (s : Spot). slice_index_or table (place_of len s) false) at ∙ known (list ++ b ∷ []) more before

-- a table of all spots knows each walk
pub all_known : (rule : Rule) (len before : ℕ) (table : List Bool) → IsRule rule → AreLive rule len table → AreKnown rule len before table
all_known rule len before table r live list walk less = let s = walk_small rule len list r walk in live list walk (omega arith)

pub known_at : (rule : Rule) (len : ℕ) (list : List Break) (spot : Spot) (table : List Bool) → IsRule rule → AreLive rule len table → is_walk rule len list ≡ true → spot ≡ spot_of rule list
    → slice_index_or table (place_of len spot) false ≡ is_live rule len list
known_at rule len list spot table r live walk is =
    let s = walk_small rule len list r walk in
    ap (λ (p : Spot). slice_index_or table (place_of len p) false) is ∙ live list walk (omega arith)

-- where a list isn't legal, it is live where some next break leads on
pub live_by_first : (rule : Rule) (len : ℕ) (list : List Break) (spot : Spot) (found : Option Break) → spot ≡ spot_of rule list → is_legal rule len list ≡ false
    → found ≡ find (λ b. is_live rule len (list ++ b ∷ [])) (nexts_of rule len spot) → is_live rule len list ≡ is_some found
live_by_first rule len list spot found is none e =
    same_tests (is_live rule len list) (is_some found)
    (λ h. elim (live_cases rule len list h) [
      | inl legal ↦ absurd (false≢true (sym none ∙ legal))
      | inr next ↦
          let has : Has (nexts_of rule len spot) next.0 = subst (λ (s : Spot). Has (nexts_of rule len s) next.0) (sym is) next.2 in
          ap is_some e ∙ find_some (λ b. is_live rule len (list ++ b ∷ [])) (nexts_of rule len spot) next.0 has next.1
    ])
    (λ h. let b = find_that (λ b. is_live rule len (list ++ b ∷ [])) (nexts_of rule len spot) (sym (ap is_some e) ∙ h) in live_back rule len list b.0 b.1)
  where
    find_some : {X : Type 0} (p : X → Bool) (xs : List X) (x : X) → Has xs x → p x ≡ true → is_some (find p xs) ≡ true
    find_some p [] x m t = absurd m
    find_some p (y ∷ ys) x m t =
        cond_both (p y) (Some y) (find p ys) (λ o. is_some o ≡ true) (λ q. refl)
        (λ q. elim m [ inl s ↦ absurd (false≢true (sym q ∙ ap p s ∙ t)) | inr r ↦ find_some p ys x r t ])

    find_that : {X : Type 0} (p : X → Bool) (xs : List X) → is_some (find p xs) ≡ true → (x : X) × (p x ≡ true)
    find_that p [] h = absurd (false≢true h)
    find_that {X} p (y ∷ ys) h =
        cond_both (p y) (Some y) (find p ys) (λ o. is_some o ≡ true → (x : X) × (p x ≡ true)) (λ q g. (y, q)) (λ q g. find_that p ys g) h

-- a table with one place more
pub known_more : (rule : Rule) (len place : ℕ) (table : List Bool) (live : Bool) (spot : Spot) → IsRule rule → length table ≡ place → AreKnown rule len place table
    → ((other : Spot) → other.offset ≤ len → other.used < 64 → other.lunches < 4 → place_of len other ≡ place → spot ≡ other)
    → ((list : List Break) → is_walk rule len list ≡ true → spot ≡ spot_of rule list → live ≡ is_live rule len list)
    → AreKnown rule len (place + 1) (table ++ live ∷ [])
known_more rule len place table live spot r many known at here list walk less =
    let n = place_of len (spot_of rule list) in
    let small = walk_small rule len list r walk in
    elim (cases_lt n place) [
      | inl l ↦ get_or-append table (live ∷ []) false n (omega arith) ∙ known list walk l
      | inr g ↦
          let same : n ≡ place = omega arith in
          ap (λ k. get_or (table ++ live ∷ []) k false) (same ∙ sym many) ∙ get_or-append_seam table live [] false
          ∙ here list walk (at (spot_of rule list) small.offset (omega arith) (omega arith) same)
    ]

-- a list with a break that may not follow is no walk, and one break more is walked on
pub walk_broken : (rule : Rule) (len : ℕ) (list : List Break) (i : ℕ) (d : Break) → i < length list
    → may_follow rule len (end_of_all (take i list)) (sum_by (λ b. b.len) (take i list)) (get_or list i d) ≡ false → is_walk rule len list ≡ false
walk_broken rule len list i d inside h =
    let front = take i list in
    ap (is_walk rule len) (sym (take-append-drop i list)) ∙ is_walk-append rule len front (drop i list)
    ∙ ap (λ rest. is_walk rule len front && is_walk_from rule len (end_of_all front) (sum_by (λ b. b.len) front) rest) (drop_more list i d inside)
    ∙ ap (λ t. is_walk rule len front && (t && is_walk_from rule len (end_of (get_or list i d)) (sum_by (λ b. b.len) front + (get_or list i d).len) (drop (i + 1) list))) h
    ∙ and_false (is_walk rule len front)
  where
    and_false : (b : Bool) → (b && false) ≡ false
    and_false true = refl
    and_false false = refl

pub walk_longer : (rule : Rule) (len : ℕ) (list : List Break) (i : ℕ) (d : Break) → i < length list → is_walk rule len (take i list) ≡ true
    → may_follow rule len (end_of_all (take i list)) (sum_by (λ b. b.len) (take i list)) (get_or list i d) ≡ true → is_walk rule len (take (i + 1) list) ≡ true
walk_longer rule len list i d inside walk h =
    ap (is_walk rule len) (take_more list i d inside) ∙ is_walk-more rule len (take i list) (get_or list i d)
    ∙ and_from (is_walk rule len (take i list)) (may_follow rule len (end_of_all (take i list)) (sum_by (λ b. b.len) (take i list)) (get_or list i d)) walk h
