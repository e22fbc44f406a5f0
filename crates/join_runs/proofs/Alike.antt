-- A part is one of one node alone, so the same parts join alike, and where one can be joined there is nothing against it.
use Rattle.join_runs.proofs.Common.{◌≡◌, inl, inr, ℕ, ◌+◌, ◌*◌, ◌^◌, ◌<◌, ◌≤◌, nat_le, true, List, [], ◌∷◌, ◌++◌, length, map, cond, refl, sym, ap, ◌∙◌, subst, append_assoc, arith, Option, Some, None, slice_get, IsFalse, IsSomeAnd, option_and_then, option_or, and_parts, cases_eq, false≢true, append_cancel_left, length-append, length-map, slice_get_within, Problem, Cut, Node, new_node, Cert, Line, is_accepted, is_bound, is_plan, least_floor, node_of, nodes_after, nodes_of, bound_cause, cause_of, line_cause, plan_cause, grafted_line, grafted_lines, grafted_number, nodes_made, divisions, after_append, counted_lines, first_good, one_good, front_get, tree_of, PartFault, OtherLines, NothingFurther, NoEnd, OtherNode, OtherPlan, SameNode, TooMany, Departs, GoesOnAt, IsPartFault, LeavesNode, AreJoined, GoesOn, IsPart, IsPlanBelow, Joined, JoinsPart, none, one_more, IsNamedFault}
use Rattle.cert_check.specs.declared.judged.Refused.{Refused as Refusal}
use Rattle.break_rules.specs.Lists.{Has}
use Rattle.cert_check.specs.declared.judged.Refused.TheVariants.{BoundTooHigh}
use Rattle.cert_check.proofs.Causes.{good_cause, plan_bad}
use Rattle.report_grafts.specs.Faults.{HasEnd, HasOpenEnd}
use Rattle.report_joins.specs.declared.fault.PartFault.TheVariants.{Refused, NoMemory}
use Rattle.report_joins.proofs.Below.{elsewhere, line_number}

-- ---- an accepted certificate has no cause against it

no_line_cause : (i : Problem) (nodes last : List Node) (number : ℕ) (lines : List Line) → nodes_after i nodes lines ≡ Some last → line_cause i nodes number lines ≡ None
no_line_cause i nodes last number [] e = refl
no_line_cause i nodes last number (line ∷ lines) e =
    let r = first_good i nodes last line lines e in
    good_cause i nodes r.0 number line lines (one_good i nodes r.0 line [] r.1) ∙ no_line_cause i r.0 last (number + 1) lines r.2

no_bound_cause : (i : Problem) (c : Cert) (nodes : List Node) → nodes_of i c.lines ≡ Some nodes → nat_le c.bound (least_floor nodes) ≡ true → bound_cause i c.lines c.bound ≡ None
no_bound_cause i c nodes made low =
    ap (λ (o : Option (List Node)). option_and_then (λ ns. cond (nat_le c.bound (least_floor ns)) None (Some (BoundTooHigh c.bound (least_floor ns)))) o) made
    ∙ ap (λ b. cond b None (Some (BoundTooHigh c.bound (least_floor nodes)))) low

pub uncaused : (i : Problem) (c : Cert) (why : Refusal) → is_accepted i c ≡ true → cause_of i c ≡ Some why → ⊥
uncaused i c why accepted e =
    let t = tree_of i c accepted in
    let lines : line_cause i (new_node [] ∷ []) 1 c.lines ≡ None = no_line_cause i (new_node [] ∷ []) t.0 1 c.lines t.1 in
    let bound : bound_cause i c.lines c.bound ≡ None = no_bound_cause i c t.0 t.1 t.2 in
    let front : cause_of i c ≡ plan_cause i c.plan =
    ap (λ (o : Option Refusal). option_or o (option_or (bound_cause i c.lines c.bound) (plan_cause i c.plan))) lines ∙ ap (λ (o : Option Refusal). option_or o (plan_cause i c.plan)) bound
    in
    false≢true (sym (plan_bad i c.plan why (sym front ∙ e)) ∙ (and_parts (is_bound i c.lines c.bound) (is_plan i c.plan) accepted).1)

-- ---- the node of a part

-- a number of a run's node that is one of the tree's own is that of the node at which the run is grafted
own_number : (node splits k n : ℕ) → n ≡ grafted_number node splits k → n < 1 + 2 * splits → n ≡ node
own_number node splits k n is small =
    elim (cases_eq n node) [
      | inl e ↦ e
      | inr other ↦ absurd (elsewhere node splits n other (let few : n ≤ 2 * splits = omega (arith, small) in few) k is)
    ]

same_cuts : (o : Option Node) (a b : List Cut) → IsSomeAnd o (λ (n : Node). IsFalse n.split × (n.cuts ≡ a)) → IsSomeAnd o (λ (n : Node). IsFalse n.split × (n.cuts ≡ b)) → a ≡ b
same_cuts None a b h k = absurd h
same_cuts (Some n) a b h k = sym h.1 ∙ k.1

-- the first line behind those of an accepted certificate is of one of its nodes
line_within : (i : Problem) (whole part : Cert) (line : Line) (rest : List Line) → is_accepted i whole ≡ true → is_accepted i part ≡ true → part.lines ≡ whole.lines ++ line ∷ rest → node_of line < 1 + 2 * divisions whole.lines
line_within i whole part line rest accepted good lines =
    let w = tree_of i whole accepted in
    let p = tree_of i part good in
    let behind : nodes_after i w.0 (line ∷ rest) ≡ Some p.0 = sym (after_append i (new_node [] ∷ []) w.0 whole.lines (line ∷ rest) w.1) ∙ ap (nodes_of i) (sym lines) ∙ p.1 in
    let r = first_good i w.0 p.0 line rest behind in
    let within : node_of line < length w.0 = slice_get_within w.0 (node_of line) r.1.node r.1.at in
    let counted : length w.0 ≡ 1 + 2 * divisions whole.lines = counted_lines i (new_node [] ∷ []) w.0 whole.lines w.1 in
    omega (arith, within, counted)

-- a run that isn't empty has a first line
record BeginsRun (run : List Line) : Type 0 where
  pub first : Line
  pub rest : List Line
  pub is : run ≡ first ∷ rest

begins_run : (run : List Line) → 0 < length run → BeginsRun run
begins_run [] some = absurd (omega (arith, some))
begins_run (first ∷ rest) some = record { first = first; rest = rest; is = refl }

-- a certificate that goes on from another goes on with a line of the node below which it does
own_first : (i : Problem) (whole part : Cert) (node : ℕ) (cuts : List Cut) (run : List Line) → GoesOn i whole part node cuts run → GoesOnAt whole.lines part.lines node
own_first i whole part node cuts run g =
    let graft = grafted_line node (divisions whole.lines) in
    let b = begins_run run g.some in
    let lines : part.lines ≡ whole.lines ++ graft b.first ∷ map graft b.rest = g.lines ∙ ap (λ (ls : List Line). whole.lines ++ map graft ls) b.is in
    let within = line_within i whole part (graft b.first) (map graft b.rest) g.end.0 g.accepted lines in
    record {
      line = graft b.first;
      rest = map graft b.rest;
      lines = lines;
      node = sym (own_number node (divisions whole.lines) (node_of b.first) (node_of (graft b.first)) (line_number node (divisions whole.lines) b.first) within);
    }

-- and with one of no other
same_first : (known all : List Line) (a b : ℕ) → GoesOnAt known all a → GoesOnAt known all b → a ≡ b
same_first known all a b g h =
    let same : g.line ∷ g.rest ≡ h.line ∷ h.rest = append_cancel_left known (g.line ∷ g.rest) (h.line ∷ h.rest) (sym g.lines ∙ h.lines) in
    let line : g.line ≡ h.line = cc in
    g.node ∙ ap node_of line ∙ sym h.node

same_node : (i : Problem) (whole part : Cert) (node other : ℕ) (cuts others : List Cut) (run further : List Line) → GoesOn i whole part node cuts run → GoesOn i whole part other others further → node ≡ other
same_node i whole part node other cuts others run further g h =
    same_first whole.lines part.lines node other (own_first i whole part node cuts run g) (own_first i whole part other others further h)

run_length : (i : Problem) (whole part : Cert) (node : ℕ) (cuts : List Cut) (run : List Line) → GoesOn i whole part node cuts run → length part.lines ≡ length whole.lines + length run
run_length i whole part node cuts run g =
    let graft = grafted_line node (divisions whole.lines) in
    let a : length part.lines ≡ length (whole.lines ++ map graft run) = ap (λ (ls : List Line). length ls) g.lines in
    let b : length (whole.lines ++ map graft run) ≡ length whole.lines + length (map graft run) = length-append whole.lines (map graft run) in
    let c : length (map graft run) ≡ length run = length-map run graft in
    omega (arith, a, b, c)

-- ---- no line of a part is of another node

line_of_run : (g : Line → Line) (run front rest : List Line) (line : Line) → map g run ≡ front ++ line ∷ rest → (own : Line) × (line ≡ g own)
line_of_run g [] [] rest line e = absurd (cc)
line_of_run g [] (x ∷ front) rest line e = absurd (cc)
line_of_run g (own ∷ run) [] rest line e = let same : g own ≡ line = cc in (own, sym same)
line_of_run g (own ∷ run) (x ∷ front) rest line e = let same : map g run ≡ front ++ line ∷ rest = cc in line_of_run g run front rest line same

-- where lines leave a node, they began with one of it
left_first : (i : Problem) (whole part : Cert) (node place : ℕ) (cuts : List Cut) → is_accepted i part ≡ true → HasOpenEnd i whole node cuts → LeavesNode whole.lines part.lines node place → GoesOnAt whole.lines part.lines node
left_first i whole part node place cuts good end l =
    let known = whole.lines in
    let graft = grafted_line node (divisions known) in
    let b = begins_run l.run l.some in
    let rest = map graft b.rest ++ l.line ∷ l.rest in
    let lines : part.lines ≡ known ++ graft b.first ∷ rest =
    l.lines ∙ append_assoc known (map graft l.run) (l.line ∷ l.rest) ∙ ap (λ (ls : List Line). known ++ (map graft ls ++ l.line ∷ l.rest)) b.is
    in
    let within = line_within i whole part (graft b.first) rest end.0 good lines in
    record {
      line = graft b.first;
      rest = rest;
      lines = lines;
      node = sym (own_number node (divisions known) (node_of b.first) (node_of (graft b.first)) (line_number node (divisions known) b.first) within);
    }

never_left : (known all run : List Line) (node place : ℕ) → all ≡ grafted_lines known node run → LeavesNode known all node place → ⊥
never_left known all run node place is l =
    let graft = grafted_line node (divisions known) in
    let same : map graft run ≡ map graft l.run ++ l.line ∷ l.rest =
    append_cancel_left known (map graft run) (map graft l.run ++ l.line ∷ l.rest) (sym is ∙ l.lines ∙ append_assoc known (map graft l.run) (l.line ∷ l.rest))
    in
    let own = line_of_run graft run (map graft l.run) l.rest l.line same in
    l.elsewhere (node_of own.0) (ap node_of own.1 ∙ line_number node (divisions known) own.0)

-- ---- the same parts join alike

pub record Alike (a b : Joined) : Type 0 where
  pub instance : a.instance ≡ b.instance
  pub whole : a.whole ≡ b.whole
  pub nodes : a.nodes ≡ b.nodes
  pub long : length a.lines ≡ length b.lines

-- a part of the certificate of one is a part of that of the other
part_of : (a b : Joined) (part : Cert) (node : ℕ) (run : List Line) → Alike a b → IsPart a.instance a.whole part node run → IsPart b.instance b.whole part node run
part_of a b part node run same p =
    subst (λ (c : Cert). IsPart b.instance c part node run) same.whole (subst (λ (i : Problem). IsPart i a.whole part node run) same.instance p)

-- how many lines stand behind a further part
long_with : (old next : Joined) (part : Cert) (joins : JoinsPart part old next) → length next.lines ≡ length old.lines + length joins.run
long_with old next part joins =
    let graft = grafted_line joins.node (divisions old.lines) in
    let a : length next.lines ≡ length (old.lines ++ map graft joins.run) = ap (λ (j : Joined). length j.lines) joins.new in
    let b : length (old.lines ++ map graft joins.run) ≡ length old.lines + length (map graft joins.run) = length-append old.lines (map graft joins.run) in
    let c : length (map graft joins.run) ≡ length joins.run = length-map joins.run graft in
    omega (arith, a, b, c)

alike_with : (a b next other : Joined) (part : Cert) → Alike a b → JoinsPart part a next → JoinsPart part b other → Alike next other
alike_with a b next other part same joins others =
    let p = part_of a b part joins.node joins.run same joins.part in
    let q = others.part in
    let node : joins.node ≡ others.node = same_node b.instance b.whole part joins.node others.node p.cuts q.cuts joins.run others.run p.below q.below in
    let l = run_length b.instance b.whole part joins.node p.cuts joins.run p.below in
    let m = run_length b.instance b.whole part others.node q.cuts others.run q.below in
    let n = long_with a next part joins in
    let o = long_with b other part others in
    let long = same.long in
    record {
      instance = ap (λ (j : Joined). j.instance) joins.new ∙ same.instance ∙ sym (ap (λ (j : Joined). j.instance) others.new);
      whole = ap (λ (j : Joined). j.whole) joins.new ∙ same.whole ∙ sym (ap (λ (j : Joined). j.whole) others.new);
      nodes = ap (λ (j : Joined). j.nodes) joins.new ∙ ap (λ (ns : List ℕ). ns ++ joins.node ∷ []) same.nodes ∙ ap (λ n. b.nodes ++ n ∷ []) node ∙ sym (ap (λ (j : Joined). j.nodes) others.new);
      long = omega (arith, l, m, n, o, long);
    }

none_more : {X : Type 0} (xs : List X) (x : X) → [] ≡ xs ++ x ∷ [] → ⊥
none_more [] x e = absurd (cc)
none_more (z ∷ xs) x e = absurd (cc)

same_last : {X : Type 0} (xs ys : List X) (x y : X) → xs ++ x ∷ [] ≡ ys ++ y ∷ [] → (xs ≡ ys) × (x ≡ y)
same_last [] [] x y e = let same : x ≡ y = cc in (refl, same)
same_last [] (b ∷ ys) x y e = let rest : [] ≡ ys ++ y ∷ [] = cc in absurd (none_more ys y rest)
same_last (a ∷ xs) [] x y e = let rest : xs ++ x ∷ [] ≡ [] = cc in absurd (none_more xs x (sym rest))
same_last (a ∷ xs) (b ∷ ys) x y e =
    let first : a ≡ b = cc in
    let rest : xs ++ x ∷ [] ≡ ys ++ y ∷ [] = cc in
    let r = same_last xs ys x y rest in
    (ap (λ z. z ∷ xs) first ∙ ap (λ zs. b ∷ zs) r.0, r.1)

pub alike : (i : Problem) (whole : Cert) (parts others : List Cert) (a b : Joined) → AreJoined i whole parts a → AreJoined i whole others b → parts ≡ others → Alike a b
alike i whole parts others a b none none e = record { instance = refl; whole = refl; nodes = refl; long = refl }
alike i whole parts others a b none (one_more before part old new joined joins) e = absurd (none_more before part e)
alike i whole parts others a b (one_more before part old new joined joins) none e = absurd (none_more before part (sym e))
alike i whole parts others a b (one_more before part old new joined joins) (one_more ahead further first next are goes) e =
    let s = same_last before ahead part further e in
    alike_with old first new next part (alike i whole before ahead old first joined are s.0) joins (subst (λ (c : Cert). JoinsPart c first next) (sym s.1) goes)

-- ---- nothing is against a part that can be joined

other_lines : (i : Problem) (whole part : Cert) (node at : ℕ) (cuts : List Cut) (run : List Line) → GoesOn i whole part node cuts run → Departs whole.lines part.lines at → ⊥
other_lines i whole part node at cuts run g d =
    d.2 (ap (λ (ls : List Line). slice_get ls at) g.lines ∙ front_get whole.lines (map (grafted_line node (divisions whole.lines)) run) at d.0)

other_node : (i : Problem) (whole part : Cert) (node other place : ℕ) (cuts others : List Cut) (run : List Line) → GoesOn i whole part node cuts run → HasOpenEnd i whole other others → LeavesNode whole.lines part.lines other place → ⊥
other_node i whole part node other place cuts others run g end l =
    let same : node ≡ other =
    same_first whole.lines part.lines node other (own_first i whole part node cuts run g) (left_first i whole part other place others g.accepted end l)
    in
    never_left whole.lines part.lines run other place (subst (λ n. part.lines ≡ grafted_lines whole.lines n run) same g.lines) l

other_plan : (i : Problem) (whole part : Cert) (node other : ℕ) (run further : List Line) (others : List Cut) → IsPart i whole part node run → GoesOn i whole part other others further → (IsPlanBelow others whole.plan part.plan → ⊥) → ⊥
other_plan i whole part node other run further others p g against =
    let same : other ≡ node = same_node i whole part other node others p.cuts further run g p.below in
    let end : HasEnd (nodes_made i whole.lines) node others = subst (λ n. HasEnd (nodes_made i whole.lines) n others) same g.end.1 in
    let cuts : p.cuts ≡ others = same_cuts (slice_get (nodes_made i whole.lines) node) p.cuts others p.below.end.1 end in
    against (subst (λ (cs : List Cut). IsPlanBelow cs whole.plan part.plan) cuts p.plan)

pub faultless : (a b next : Joined) (part : Cert) (why : PartFault) → Alike a b → JoinsPart part a next → IsPartFault b part why → IsNamedFault why → ⊥
faultless a b next part (Refused why) same joins f named = uncaused b.instance part why (part_of a b part joins.node joins.run same joins.part).below.accepted f
faultless a b next part (OtherLines at) same joins f named =
    let p = part_of a b part joins.node joins.run same joins.part in
    other_lines b.instance b.whole part joins.node at p.cuts joins.run p.below f.1
faultless a b next part NothingFurther same joins f named =
    let p = part_of a b part joins.node joins.run same joins.part in
    let l = run_length b.instance b.whole part joins.node p.cuts joins.run p.below in
    let m : length part.lines ≡ length b.whole.lines = ap (λ (ls : List Line). length ls) f.1 in
    let some : 0 < length joins.run = p.below.some in
    omega (arith, l, m, some)
faultless a b next part (NoEnd node) same joins f named =
    let p = part_of a b part joins.node joins.run same joins.part in
    let is : joins.node ≡ node = same_first b.whole.lines part.lines joins.node node (own_first b.instance b.whole part joins.node p.cuts joins.run p.below) f.1 in
    f.2 p.cuts (subst (λ n. HasOpenEnd b.instance b.whole n p.cuts) is p.below.end)
faultless a b next part (OtherNode at) same joins f named =
    let p = part_of a b part joins.node joins.run same joins.part in
    let t = f.1 in
    other_node b.instance b.whole part joins.node t.0 at p.cuts t.1 joins.run p.below t.2 t.3
faultless a b next part OtherPlan same joins f named =
    let p = part_of a b part joins.node joins.run same joins.part in
    other_plan b.instance b.whole part joins.node f.0 joins.run f.2 f.1 p f.3 f.4
faultless a b next part (SameNode node) same joins f named =
    let p = part_of a b part joins.node joins.run same joins.part in
    let is : node ≡ joins.node = same_node b.instance b.whole part node joins.node f.1.cuts p.cuts f.0 joins.run f.1.below p.below in
    joins.other (subst (λ n. Has a.nodes n) is (subst (λ (ns : List ℕ). Has ns node) (sym same.nodes) f.2))
faultless a b next part TooMany same joins f named =
    let p = part_of a b part joins.node joins.run same joins.part in
    let l = run_length b.instance b.whole part joins.node p.cuts joins.run p.below in
    let m = run_length b.instance b.whole part f.0 f.2.cuts f.1 f.2.below in
    let short : length a.lines + length joins.run ≤ 2 ^ 30 = joins.short in
    let long : 2 ^ 30 < length b.lines + length f.1 = f.4 in
    let lines : length a.lines ≡ length b.lines = same.long in
    omega (arith, l, m, short, long, lines)
faultless a b next part NoMemory same joins f named = absurd named
