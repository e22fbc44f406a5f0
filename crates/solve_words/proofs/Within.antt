-- What words ask for has its numbers within their limits.
use Rattle.solve_words.proofs.Common.{◌≡◌, ℕ, ◌≤◌, Bool, true, false, ◌&&◌, cond, List, refl, subst, arith, nat_le, Option, Some, None, option_map, option_and_then, is_some, ◌||◌, IfSome, digits_value, and_parts, leb-true, asked, from_number, over_journal, Asked, Asks, Given, IsReadAs, IsWithin, asked_by, budget_in, demonstration_of, is_journal, is_number, method_in, number_in, number_within, search_on, workers_in}
use Rattle.solve_words.specs.Words.{demo as demo_setting, workers as workers_setting}
use Rattle.solve_words.specs.declared.command.Command.{Command}

cond_some : {X : Type 0} (c : Bool) (x y : X) → cond c (Some x) None ≡ Some y → (c ≡ true) × (x ≡ y)
cond_some true x y e = let same : x ≡ y = cc in (refl, same)
cond_some false x y e = absurd (cc)

bind_some : {X Y : Type 0} (f : X → Option Y) (o : Option X) (y : Y) → option_and_then f o ≡ Some y → (x : X) × (o ≡ Some x) × (f x ≡ Some y)
bind_some f None y e = absurd (cc)
bind_some f (Some x) y e = (x, refl, e)

map_some : {X Y : Type 0} (f : X → Y) (o : Option X) (y : Y) → option_map f o ≡ Some y → (x : X) × (o ≡ Some x) × (f x ≡ y)
map_some f None y e = absurd (cc (e))
map_some f (Some x) y e = let same : f x ≡ y = cc (e) in (x, refl, same)

within : (low high n : ℕ) (word : List ℕ) → number_within low high word ≡ Some n → (low ≤ n) × (n ≤ high)
within low high n word e =
    let value : ℕ = digits_value 10 word in
    let r = cond_some (is_number word && (nat_le low value && nat_le value high)) value n e in
    let p = and_parts (is_number word) (nat_le low value && nat_le value high) r.0 in
    let q = and_parts (nat_le low value) (nat_le value high) p.1 in
    let least : low ≤ value = leb-true low value q.0 in
    let most : value ≤ high = leb-true value high q.1 in
    let same : value ≡ n = r.1 in
    (omega (arith, least, same), omega (arith, most, same))

few_steps : (o : Option (List ℕ)) (n : ℕ) → budget_in o ≡ Some n → n ≤ 4000000000
few_steps None n e = let same : 1000 ≡ n = cc (e) in omega (arith, same)
few_steps (Some digits) n e = (within 0 4000000000 n digits e).1

few_workers : (o : Option (List ℕ)) (w : Option ℕ) → workers_in o ≡ Some w → IfSome w (λ n. (1 ≤ n) × (n ≤ 9999))
few_workers None w e = let same : None ≡ w = cc (e) in subst (λ (x : Option ℕ). IfSome x (λ n. (1 ≤ n) × (n ≤ 9999))) same tt
few_workers (Some digits) w e =
    let r = map_some (λ n. Some n) (number_in workers_setting digits) w e in
    subst (λ (x : Option ℕ). IfSome x (λ n. (1 ≤ n) × (n ≤ 9999))) r.2 (within 1 9999 r.0 digits r.1)

search_within : (path : List ℕ) (given : Given) (asked : Asked) → search_on path given ≡ Some asked → IsWithin asked
search_within path given asked e =
    let last : Option ℕ → ℕ → Option Asked = λ count budget. option_map (λ method. over_journal path count budget given.table method given.turns) (method_in given) in
    let next : Option ℕ → Option Asked = λ count. option_and_then (last count) (budget_in given.steps) in
    let r = when (is_journal path) (option_and_then next (workers_in given.workers)) asked e in
    let w = bind_some next (workers_in given.workers) asked r in
    let s = bind_some (last w.0) (budget_in given.steps) asked w.2 in
    let m = map_some (λ method. over_journal path w.0 s.0 given.table method given.turns) (method_in given) asked s.2 in
    subst IsWithin {x = over_journal path w.0 s.0 given.table m.0 given.turns} m.2 (few_workers given.workers w.0 w.1, few_steps given.steps s.0 s.1)
  where
    when : (b : Bool) (o : Option Asked) (a : Asked) → cond b o None ≡ Some a → o ≡ Some a
    when true o a e = e
    when false o a e = absurd (cc (e))

demonstration_within : (digits : List ℕ) (given : Given) (asked : Asked) → demonstration_of digits given ≡ Some asked → IsWithin asked
demonstration_within digits given asked e =
    let r = unless (is_some given.workers || (given.table || (given.local || (given.thorough || given.turns)))) (option_and_then (λ n. option_map (λ budget. from_number n budget) (budget_in given.steps)) (number_in demo_setting digits)) asked e in
    let w = bind_some (λ n. option_map (λ budget. from_number n budget) (budget_in given.steps)) (number_in demo_setting digits) asked r in
    let s = map_some (λ budget. from_number w.0 budget) (budget_in given.steps) asked w.2 in
    subst IsWithin s.2 ((within 0 999999 w.0 digits w.1).1, few_steps given.steps s.0 s.1)
  where
    unless : (b : Bool) (o : Option Asked) (a : Asked) → cond b None o ≡ Some a → o ≡ Some a
    unless true o a e = absurd (cc (e))
    unless false o a e = e

by_within : (journal demo : Option (List ℕ)) (given : Given) (asked : Asked) → asked_by journal demo given ≡ Some asked → IsWithin asked
by_within (Some path) None given asked e = search_within path given asked e
by_within None (Some digits) given asked e = demonstration_within digits given asked e
by_within (Some path) (Some digits) given asked e = absurd (cc (e))
by_within None None given asked e = absurd (cc (e))

asks_within : (words : List (List ℕ)) (asked : Asked) → Asks words asked → IsWithin asked
asks_within words asked a = by_within a.given.journal a.given.demo a.given asked a.asks

-- what words are read as has its numbers within their limits
pub read_within : (words : List (List ℕ)) (found : Option Command) → IsReadAs words (option_map asked found) → IfSome found (λ command. IsWithin (asked command))
read_within words None reads = tt
read_within words (Some command) reads = asks_within words (asked command) ((reads (asked command)).1 refl)
