-- Parts that sources give up, joined one after another.
use Rattle.join_runs.proofs.Common.{◌≡◌, ℕ, suc, zero, ◌+◌, ◌^◌, ◌<◌, ◌≤◌, true, List, [], ◌∷◌, ◌++◌, get_or, length, map, refl, sym, ap, ◌∙◌, subst, arith, Option, Some, slice_get, length-append, length-map, Problem, IsValid, Cert, Line, is_accepted, cert_text, Agrees, AgreesWith, set_same, set_other, grafted_line, grafted_lines, divisions, PartFault, OtherLines, NothingFurther, NoEnd, OtherNode, OtherPlan, SameNode, TooMany, Departs, IsPartFault, LeavesNode, alone, AreJoined, IsJoinedCert, Joined, none, one_more, JoinStatus, AreAllJoined, IsAllJoined, IsPartEnd, IsUnjoined, JoinsReport, IsJoinedText, HasPlace}
use Rattle.report_joins.specs.declared.fault.PartFault.TheVariants.{Refused as IsRefusedPart, NoMemory as NoMemoryLeft}
use Rattle.std.specs.Prelude.{take}
use Rattle.std.proofs.Math.ListN.{set}
use Rattle.join_runs.proofs.Endings.{joined_more, joined_no_more, joined_none}
use Rattle.join_runs.proofs.Texts.{accepted_text}

-- ---- the instance and the certificate stay

pub joined_instance : (i : Problem) (whole : Cert) (parts : List Cert) (j : Joined) → AreJoined i whole parts j → j.instance ≡ i
joined_instance i whole parts j none = refl
joined_instance i whole parts j (one_more before part old new joined joins) = ap (λ (x : Joined). x.instance) joins.new ∙ joined_instance i whole before old joined

pub joined_whole : (i : Problem) (whole : Cert) (parts : List Cert) (j : Joined) → AreJoined i whole parts j → j.whole ≡ whole
joined_whole i whole parts j none = refl
joined_whole i whole parts j (one_more before part old new joined joins) = ap (λ (x : Joined). x.whole) joins.new ∙ joined_whole i whole before old joined

-- ---- the place of a proof line has a number

pub placed : (j : Joined) (part : Cert) (fault : PartFault) → length j.whole.lines ≤ 2 ^ 28 → length part.lines ≤ 2 ^ 28 → IsPartFault j part fault → HasPlace fault
placed j part (IsRefusedPart why) few short f = tt
placed j part (OtherLines at) few short f =
    let d : Departs j.whole.lines part.lines at = f.1 in
    let within : at < length j.whole.lines = d.0 in
    omega (arith, within, few)
placed j part NothingFurther few short f = tt
placed j part (NoEnd node) few short f = tt
placed j part (OtherNode at) few short f =
    let known = j.whole.lines in
    let t = f.1 in
    let l : LeavesNode known part.lines t.0 at = t.3 in
    let front : length (known ++ map (grafted_line t.0 (divisions known)) l.run) ≡ length known + length (map (grafted_line t.0 (divisions known)) l.run) = length-append known (map (grafted_line t.0 (divisions known)) l.run) in
    let same : length (map (grafted_line t.0 (divisions known)) l.run) ≡ length l.run = length-map l.run (grafted_line t.0 (divisions known)) in
    let all : length part.lines ≡ length (grafted_lines known t.0 l.run) + length (l.line ∷ l.rest) =
    ap (λ (ls : List Line). length ls) l.lines ∙ length-append (grafted_lines known t.0 l.run) (l.line ∷ l.rest)
    in
    let is : at ≡ length known + length l.run = l.at in
    omega (arith, front, same, all, is, short)
placed j part OtherPlan few short f = tt
placed j part (SameNode node) few short f = tt
placed j part TooMany few short f = tt
placed j part NoMemoryLeft few short f = tt

-- ---- parts before a place were joined, and those from it on are as they were

at_map : {X Y : Type 0} (f : X → Y) (xs : List X) (k : ℕ) (x : X) → slice_get xs k ≡ Some x → slice_get (map f xs) k ≡ Some (f x)
at_map f [] k x e = absurd (cc)
at_map f (z ∷ xs) zero x e = let same : z ≡ x = cc in ap (λ y. Some (f y)) same
at_map f (z ∷ xs) (suc k) x e = at_map f xs k x e

pub get_at : {X : Type 0} (xs : List X) (k : ℕ) (d : X) → k < length xs → slice_get xs k ≡ Some (get_or xs k d)
get_at [] k d low = absurd (omega (arith, low))
get_at (z ∷ xs) zero d low = refl
get_at (z ∷ xs) (suc k) d low = get_at xs k d (omega (arith, low))

pub record AreJoinedBefore {X : Type 0} (left : X → Option (List ℕ)) (i : Problem) (whole : Cert) (olds news : List X) (k : ℕ) (j : Joined) : Type 0 where
  pub joined : AreAllJoined i whole (take k (map left olds)) j
  pub behind : (n : ℕ) → k ≤ n → slice_get news n ≡ slice_get olds n
  pub sized : length news ≡ length olds

pub begins : {X : Type 0} (left : X → Option (List ℕ)) (i : Problem) (whole : Cert) (olds : List X) (j : Joined) → j ≡ alone i whole → AreJoinedBefore left i whole olds olds 0 j
begins left i whole olds j is = record { joined = joined_none i whole (map left olds) j is; behind = λ n low. refl; sized = refl }

same_as_before : {X : Type 0} (left : X → Option (List ℕ)) (i : Problem) (whole : Cert) (olds news : List X) (k : ℕ) (j : Joined) (x : X) → AreJoinedBefore left i whole olds news k j → slice_get news k ≡ Some x → slice_get olds k ≡ Some x
same_as_before left i whole olds news k j x b at = let low : k ≤ k = omega arith in sym (b.behind k low) ∙ at

set_length : {X : Type 0} (xs : List X) (k : ℕ) (y : X) → length (set xs k y) ≡ length xs
set_length [] k y = refl
set_length (x ∷ xs) zero y = refl
set_length (x ∷ xs) (suc k) y = ap suc (set_length xs k y)

pub goes_on : {X : Type 0} (left : X → Option (List ℕ)) (i : Problem) (whole : Cert) (olds news : List X) (k : ℕ) (j next : Joined) (x y : X) → AreJoinedBefore left i whole olds news k j → slice_get news k ≡ Some x → JoinsReport (left x) j next
    → AreJoinedBefore left i whole olds (set news k y) (k + 1) next
goes_on left i whole olds news k j next x y b at joins =
    record {
      joined = joined_more i whole (map left olds) k (left x) j next (at_map left olds k x (same_as_before left i whole olds news k j x b at)) b.joined joins;
      behind = λ n low. set_other news k n y (λ same. absurd (omega (arith, same, low))) ∙ b.behind n (omega (arith, low));
      sized = set_length news k y ∙ b.sized;
    }

pub stops : {X : Type 0} (left : X → Option (List ℕ)) (faults : X → ℕ) (i : Problem) (whole : Cert) (olds news : List X) (k number : ℕ) (j : Joined) (x y : X) (status : JoinStatus) → number ≡ k + 1 → AreJoinedBefore left i whole olds news k j
    → slice_get news k ≡ Some x → IsPartEnd j number (record { left = left x; faults = (faults x, faults y) }) status
    → IsUnjoined i whole (record { left = map left olds; faults = (map faults olds, map faults (set news k y)) }) status
stops left faults i whole olds news k number j x y status is b at ends =
    let was : slice_get olds k ≡ Some x = same_as_before left i whole olds news k j x b at in
    joined_no_more i whole (record { left = map left olds; faults = (map faults olds, map faults (set news k y)) }) k number (record { left = left x; faults = (faults x, faults y) }) j status is (at_map left olds k x was) (at_map faults olds k x was)
    (at_map faults (set news k y) k y (set_same news k x y at)) b.joined ends

-- all were joined
pub all_joined : {X : Type 0} (left : X → Option (List ℕ)) (i : Problem) (whole : Cert) (olds news : List X) (k : ℕ) (j : Joined) → length olds ≤ k → AreJoinedBefore left i whole olds news k j → AreAllJoined i whole (map left olds) j
all_joined left i whole olds news k j long b =
    subst (λ (ls : List (Option (List ℕ))). AreAllJoined i whole ls j) (take_all (map left olds) k (let same : length (map left olds) ≡ length olds = length-map olds left in omega (arith, same, long))) b.joined
  where
    take_all : {Y : Type 0} (ys : List Y) (n : ℕ) → length ys ≤ n → take n ys ≡ ys
    take_all [] zero low = refl
    take_all [] (suc n) low = refl
    take_all (y ∷ ys) zero low = absurd (omega (arith, low))
    take_all (y ∷ ys) (suc n) low = ap (λ zs. y ∷ zs) (take_all ys n (omega (arith, low)))

-- ---- the certificate with all parts has a text

pub joined_agrees : (i : Problem) (whole : Cert) (lefts : List (Option (List ℕ))) (j : Joined) (c : Cert) → IsValid i → AreAllJoined i whole lefts j → IsJoinedCert j c → length c.lines ≤ 2 ^ 30 → AgreesWith c.status c.plan c.bound → Agrees c
joined_agrees i whole lefts j c valid all is few agrees =
    let same : j.instance ≡ i = joined_instance i whole all.0 j all.2 in
    accepted_text i c valid (subst (λ (x : Problem). is_accepted x c ≡ true) same is.accepted) few agrees
