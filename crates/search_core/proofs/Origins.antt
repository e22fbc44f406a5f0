-- Runs that begin at posts: each history begins with these.
use Rattle.search_core.proofs.Common.{◌≡◌, ℕ, zero, suc, ◌+◌, ◌≤◌, ◌&&◌, false, List, [], ◌∷◌, ◌++◌, length, take, set, refl, sym, ap, ◌∙◌, subst, arith, nat_le, nat_lt, Some, None, option_map_or, and_parts, leb-true, append-nil, append_assoc, length-append, Problem, Post, Event, Take, Commit, Yield, Crash, Book, book_of, Core, empty_hands, hand, happens, may_commit, may_take, opened, run, IsFront, IsSoundCore}
use Rattle.search_core.proofs.Sound.{cond_some, bind_some, fold_sound}
use Rattle.search_core.proofs.Runs.{crash_front, no_hand, run_sound}

-- the posts of a core begin with these, which are acknowledged
record Begins (posts : List Post) (c : Core) : Type 0 where
  front : IsFront posts c.history
  kept : length posts ≤ c.acked

front_length : (posts all : List Post) → IsFront posts all → length posts ≤ length all
front_length posts all front =
    let e : length (posts ++ front.0) ≡ length posts + length front.0 = length-append posts front.0 in
    subst (λ (l : List Post). length posts ≤ length l) front.1 (let f : length posts ≤ length (posts ++ front.0) = omega arith in f)

front_take : (posts rest : List Post) (n : ℕ) → length posts ≤ n → IsFront posts (take n (posts ++ rest))
front_take [] rest n more = (take n rest, refl)
front_take (post ∷ posts) rest zero more = absurd (omega arith)
front_take (post ∷ posts) rest (suc n) more =
    let r = front_take posts rest n (let l : length posts ≤ n = omega arith in l) in
    (r.0, ap (λ (l : List Post). post ∷ l) r.1)

event_begins : (i : Problem) (posts : List Post) (c d : Core) (event : Event) → Begins posts c → happens i c event ≡ Some d → Begins posts d
event_begins i posts c d (Take w k) b e =
    let r = cond_some (may_take i c w k) (record { history = c.history; acked = length c.history; hands = set c.hands w (Some k) }) d e in
    subst (Begins posts) r.1 (record { front = b.front; kept = front_length posts c.history b.front })
event_begins i posts c d (Commit w more) b e =
    let r = cond_some (option_map_or (may_commit i c w more) (hand c.hands w) false) (record { history = c.history ++ more; acked = length c.history; hands = set c.hands w None }) d e in
    let front : IsFront posts (c.history ++ more) = (b.front.0 ++ more, sym (append_assoc posts b.front.0 more) ∙ ap (λ (l : List Post). l ++ more) b.front.1) in
    subst (Begins posts) r.1 (record { front = front; kept = front_length posts c.history b.front })
event_begins i posts c d (Yield w) b e =
    let r = cond_some (nat_lt w 16) (record { history = c.history; acked = length c.history; hands = set c.hands w None }) d e in
    subst (Begins posts) r.1 (record { front = b.front; kept = front_length posts c.history b.front })
event_begins i posts c d (Crash keep) b e =
    let r = cond_some (nat_le c.acked keep && nat_le keep (length c.history)) (record { history = take keep c.history; acked = keep; hands = empty_hands }) d e in
    let least : c.acked ≤ keep = leb-true _ _ (and_parts (nat_le c.acked keep) (nat_le keep (length c.history)) r.0).0 in
    let kept : length posts ≤ c.acked = b.kept in
    let all : length posts ≤ keep = omega arith in
    let front : IsFront posts (take keep c.history) = subst (λ (l : List Post). IsFront posts (take keep l)) b.front.1 (front_take posts b.front.0 keep all) in
    subst (Begins posts) r.1 (record { front = front; kept = all })

run_begins : (i : Problem) (posts : List Post) (c d : Core) (events : List Event) → Begins posts c → run i c events ≡ Some d → Begins posts d
run_begins i posts c d [] b e = let same : c ≡ d = cc in subst (Begins posts) same b
run_begins i posts c d (event ∷ events) b e =
    let r = bind_some (λ next. run i next events) (happens i c event) d e in
    run_begins i posts r.0 d events (event_begins i posts c r.0 event b r.1) r.2

opening_begins : (posts : List Post) → Begins posts (opened posts)
opening_begins posts = record { front = ([], append-nil posts); kept = omega arith }

start_at : (i : Problem) (posts : List Post) (b : Book) → book_of i posts ≡ Some b → IsSoundCore i (opened posts)
start_at i posts b e = record {
  book = b;
  folds = e;
  sound = fold_sound i posts b e;
  hands = record { distinct = λ u v x p q. absurd (no_hand 16 u x p); unsplit = λ v x p. absurd (no_hand 16 v x p) };
  acked = omega arith;
}

pub opened_sound : (i : Problem) (posts : List Post) (b : Book) (events : List Event) (c : Core) → book_of i posts ≡ Some b → run i (opened posts) events ≡ Some c → IsSoundCore i c
opened_sound i posts b events c e r = run_sound i (opened posts) c events (start_at i posts b e) r

pub opened_begins : (i : Problem) (posts : List Post) (b : Book) (events : List Event) (c : Core) → book_of i posts ≡ Some b → run i (opened posts) events ≡ Some c → IsFront posts c.history
opened_begins i posts b events c e r = (run_begins i posts (opened posts) c events (opening_begins posts) r).front

pub opened_crash : (i : Problem) (posts : List Post) (b : Book) (events : List Event) (c d : Core) (keep : ℕ) → book_of i posts ≡ Some b → run i (opened posts) events ≡ Some c → happens i c (Crash keep) ≡ Some d → IsFront (take c.acked c.history) d.history × IsFront d.history c.history
opened_crash i posts b events c d keep e r h = crash_front i c d keep h
