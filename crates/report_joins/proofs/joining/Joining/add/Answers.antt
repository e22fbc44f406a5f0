use Rattle.report_joins.proofs.Common.{◌≡◌, ◌==◌, ◌+◌, ◌^◌, ◌<◌, ◌≤◌, ◌∙◌, true, false, length, refl, ap, arith, rules, subst, sym, slice_get_within, list_any, err_from_is_err_and, Problem, IsPartFault, IsReadFault, Joined, JoinsPart, with_part, IsReadPart, OtherPlan, SameNode, TooMany}
use Rattle.report_joins.proofs.Accepting.{not_both}
use Rattle.report_joins.proofs.Joins.{has_of, joining_with, not_has, other_plan, part_is, part_top, read_fault}
use Rattle.report_joins.proofs.Sized.{joined_fits, read_within, tree_counted, tree_small}
use Rattle.report_joins.proofs.joining.Joining.add.Goals as goal

pub returns-in_err-run-clause-fault : goal.returns-in_err-run-clause-fault
returns-in_err-run-clause-fault c =
    let p = err_from_is_err_and c.from_residual.result c.from_residual.ensures.1 in
    let own = c.self.inside in
    let part = c.args.part.now in
    let why = c.in_err-run.field-0.0 in
    let j : Joined = record { instance = own.instance.value; whole = own.whole; nodes = own.nodes.items; lines = own.lines.items; plan = own.plan } in
    let same : j ≡ c.args.self = grind (arith, c.self.view_is) in
    let known : j.instance ≡ c.args.instance.now = ap (λ (x : Joined). x.instance) same ∙ c.requires.same in
    let fault = read_fault j part why (subst (λ (i : Problem). IsReadFault i own.whole part why) (sym known) c.in_err-run.ensures.fault) in
    rw (p.1, p.2) (subst (λ (x : Joined). IsPartFault x part why) same fault)

pub cuts_of-requires : goal.cuts_of-requires
cuts_of-requires c =
    read_within c.args.instance.now c.self.inside.ends c.self.inside.whole c.args.part.now c.in_ok-run.run'.node c.in_ok-run.run'.lines c.in_ok-run.below c.in_ok-run.ensures.read

pub returns-then-not-is_plan_below-clause-fault : goal.returns-then-not-is_plan_below-clause-fault
returns-then-not-is_plan_below-clause-fault c =
    let own = c.self.inside in
    let part = c.args.part.now in
    let node = c.in_ok-run.run'.node in
    let run = c.in_ok-run.run'.lines in
    let below = c.in_ok-run.below in
    let cuts = c.in_ok-cuts.cuts in
    let j : Joined = record { instance = own.instance.value; whole = own.whole; nodes = own.nodes.items; lines = own.lines.items; plan = own.plan } in
    let same : j ≡ c.args.self = grind (arith, c.self.view_is) in
    let known : j.instance ≡ c.args.instance.now = ap (λ (x : Joined). x.instance) same ∙ c.requires.same in
    let read = subst (λ (i : Problem). IsReadPart i own.ends own.whole part node run below) (sym known) c.in_ok-run.ensures.read in
    let fault = other_plan own.ends own.tree j part node run below cuts c.self.invariant read c.in_ok-cuts.ensures (λ plan. not_both c.is_plan_below.result (c.is_plan_below.ensures.1 plan) c.if-not-is_plan_below.true) in
    subst (λ (x : Joined). IsPartFault x part OtherPlan) same fault

pub returns-then-has_node-clause-fault : goal.returns-then-has_node-clause-fault
returns-then-has_node-clause-fault c =
    let own = c.self.inside in
    let part = c.args.part.now in
    let node = c.in_ok-run.run'.node in
    let run = c.in_ok-run.run'.lines in
    let below = c.in_ok-run.below in
    let cuts = c.in_ok-cuts.cuts in
    let j : Joined = record { instance = own.instance.value; whole = own.whole; nodes = own.nodes.items; lines = own.lines.items; plan = own.plan } in
    let same : j ≡ c.args.self = grind (arith, c.self.view_is) in
    let known : j.instance ≡ c.args.instance.now = ap (λ (x : Joined). x.instance) same ∙ c.requires.same in
    let read = subst (λ (i : Problem). IsReadPart i own.ends own.whole part node run below) (sym known) c.in_ok-run.ensures.read in
    let is = part_is own.ends own.tree j part node run below cuts c.self.invariant read c.in_ok-cuts.ensures (c.is_plan_below.ensures.0 c.if-not-is_plan_below.false) in
    let among : list_any (λ k. k == node) own.nodes.items ≡ true = ap (list_any (λ k. k == node)) (sym c.deref-2.ensures.value) ∙ sym c.has_node.ensures ∙ c.if-has_node.true in
    subst (λ (x : Joined). IsPartFault x part (SameNode node)) same (run, is, has_of own.nodes.items node among)

pub returns-then-len-gt-LINES_MOST-clause-fault : goal.returns-then-len-gt-LINES_MOST-clause-fault
returns-then-len-gt-LINES_MOST-clause-fault c =
    let own = c.self.inside in
    let part = c.args.part.now in
    let node = c.in_ok-run.run'.node in
    let run = c.in_ok-run.run'.lines in
    let below = c.in_ok-run.below in
    let cuts = c.in_ok-cuts.cuts in
    let j : Joined = record { instance = own.instance.value; whole = own.whole; nodes = own.nodes.items; lines = own.lines.items; plan = own.plan } in
    let same : j ≡ c.args.self = grind (arith, c.self.view_is) in
    let known : j.instance ≡ c.args.instance.now = ap (λ (x : Joined). x.instance) same ∙ c.requires.same in
    let read = subst (λ (i : Problem). IsReadPart i own.ends own.whole part node run below) (sym known) c.in_ok-run.ensures.read in
    let is = part_is own.ends own.tree j part node run below cuts c.self.invariant read c.in_ok-cuts.ensures (c.is_plan_below.ensures.0 c.if-not-is_plan_below.false) in
    let among : list_any (λ k. k == node) own.nodes.items ≡ false = ap (list_any (λ k. k == node)) (sym c.deref-2.ensures.value) ∙ sym c.has_node.ensures ∙ c.if-has_node.false in
    let other = not_has own.nodes.items node among in
    let a : c.len-2.result ≡ length own.lines.items = search rules in
    let b : c.len-3.result ≡ length run = search rules in
    let most = c.if-len-gt-LINES_MOST.true in
    let long : 2 ^ 30 < length own.lines.items + length run = omega (arith, a, b, most) in
    subst (λ (x : Joined). IsPartFault x part TooMany) same (node, run, is, other, long)

pub grafted-requires-clause-counted : goal.grafted-requires-clause-counted
grafted-requires-clause-counted c = c.len-4.ensures ∙ tree_counted c.self.inside.instance.value c.self.inside.lines.items c.self.inside.tree c.self.invariant.tree

pub grafted-requires-clause-few : goal.grafted-requires-clause-few
grafted-requires-clause-few c = subst (λ n. n ≤ 2 ^ 32) (sym c.len-4.ensures) (tree_small c.self.inside.instance.value c.self.inside.lines.items c.self.inside.tree c.self.invariant.tree c.self.invariant.short)

pub grafted-requires-clause-fit : goal.grafted-requires-clause-fit
grafted-requires-clause-fit c =
    let own = c.self.inside in
    let part = c.args.part.now in
    let node = c.in_ok-run.run'.node in
    let run = c.in_ok-run.run'.lines in
    let below = c.in_ok-run.below in
    let cuts = c.in_ok-cuts.cuts in
    let j : Joined = record { instance = own.instance.value; whole = own.whole; nodes = own.nodes.items; lines = own.lines.items; plan = own.plan } in
    let same : j ≡ c.args.self = grind (arith, c.self.view_is) in
    let known : j.instance ≡ c.args.instance.now = ap (λ (x : Joined). x.instance) same ∙ c.requires.same in
    let read = subst (λ (i : Problem). IsReadPart i own.ends own.whole part node run below) (sym known) c.in_ok-run.ensures.read in
    let among : list_any (λ k. k == node) own.nodes.items ≡ false = ap (list_any (λ k. k == node)) (sym c.deref-2.ensures.value) ∙ sym c.has_node.ensures ∙ c.if-has_node.false in
    let other = not_has own.nodes.items node among in
    let a : c.len-2.result ≡ length own.lines.items = search rules in
    let b : c.len-3.result ≡ length run = search rules in
    let most = c.if-len-gt-LINES_MOST.false in
    let short : length own.lines.items + length run ≤ 2 ^ 30 = omega (arith, a, b, most) in
    joined_fits own.instance.value own.ends node run below own.lines.items own.tree c.len-4.result read.below c.self.invariant.tree short c.len-4.ensures

pub with_below-requires : goal.with_below-requires
with_below-requires c =
    let own = c.self.inside in
    let part = c.args.part.now in
    let node = c.in_ok-run.run'.node in
    let run = c.in_ok-run.run'.lines in
    let below = c.in_ok-run.below in
    let cuts = c.in_ok-cuts.cuts in
    let j : Joined = record { instance = own.instance.value; whole = own.whole; nodes = own.nodes.items; lines = own.lines.items; plan = own.plan } in
    let same : j ≡ c.args.self = grind (arith, c.self.view_is) in
    let known : j.instance ≡ c.args.instance.now = ap (λ (x : Joined). x.instance) same ∙ c.requires.same in
    let read = subst (λ (i : Problem). IsReadPart i own.ends own.whole part node run below) (sym known) c.in_ok-run.ensures.read in
    let among : list_any (λ k. k == node) own.nodes.items ≡ false = ap (list_any (λ k. k == node)) (sym c.deref-2.ensures.value) ∙ sym c.has_node.ensures ∙ c.if-has_node.false in
    let other = not_has own.nodes.items node among in
    let a : c.len-2.result ≡ length own.lines.items = search rules in
    let b : c.len-3.result ≡ length run = search rules in
    slice_get_within own.tree node read.below.top (part_top own.ends own.tree j node read.below.top c.self.invariant read.below.at other)

pub invariant_of-result : goal.invariant_of-result
invariant_of-result c =
    let own = c.self.inside in
    let part = c.args.part.now in
    let node = c.in_ok-run.run'.node in
    let run = c.in_ok-run.run'.lines in
    let below = c.in_ok-run.below in
    let cuts = c.in_ok-cuts.cuts in
    let j : Joined = record { instance = own.instance.value; whole = own.whole; nodes = own.nodes.items; lines = own.lines.items; plan = own.plan } in
    let same : j ≡ c.args.self = grind (arith, c.self.view_is) in
    let known : j.instance ≡ c.args.instance.now = ap (λ (x : Joined). x.instance) same ∙ c.requires.same in
    let read = subst (λ (i : Problem). IsReadPart i own.ends own.whole part node run below) (sym known) c.in_ok-run.ensures.read in
    let among : list_any (λ k. k == node) own.nodes.items ≡ false = ap (list_any (λ k. k == node)) (sym c.deref-2.ensures.value) ∙ sym c.has_node.ensures ∙ c.if-has_node.false in
    let other = not_has own.nodes.items node among in
    let a : c.len-2.result ≡ length own.lines.items = search rules in
    let b : c.len-3.result ≡ length run = search rules in
    let most = c.if-len-gt-LINES_MOST.false in
    let short : length own.lines.items + length run ≤ 2 ^ 30 = omega (arith, a, b, most) in
    rw (c.in_ok-tree.ensures, c.in_ok-nodes.ensures, c.in_ok-lines.ensures, c.in_ok-plan.ensures) (joining_with own.ends own.tree j part node run below c.self.invariant read other short)

pub returns-clause-joined : goal.returns-clause-joined
returns-clause-joined c =
    let own = c.self.inside in
    let part = c.args.part.now in
    let node = c.in_ok-run.run'.node in
    let run = c.in_ok-run.run'.lines in
    let below = c.in_ok-run.below in
    let cuts = c.in_ok-cuts.cuts in
    let j : Joined = record { instance = own.instance.value; whole = own.whole; nodes = own.nodes.items; lines = own.lines.items; plan = own.plan } in
    let same : j ≡ c.args.self = grind (arith, c.self.view_is) in
    let known : j.instance ≡ c.args.instance.now = ap (λ (x : Joined). x.instance) same ∙ c.requires.same in
    let read = subst (λ (i : Problem). IsReadPart i own.ends own.whole part node run below) (sym known) c.in_ok-run.ensures.read in
    let is = part_is own.ends own.tree j part node run below cuts c.self.invariant read c.in_ok-cuts.ensures (c.is_plan_below.ensures.0 c.if-not-is_plan_below.false) in
    let among : list_any (λ k. k == node) own.nodes.items ≡ false = ap (list_any (λ k. k == node)) (sym c.deref-2.ensures.value) ∙ sym c.has_node.ensures ∙ c.if-has_node.false in
    let other = not_has own.nodes.items node among in
    let a : c.len-2.result ≡ length own.lines.items = search rules in
    let b : c.len-3.result ≡ length run = search rules in
    let most = c.if-len-gt-LINES_MOST.false in
    let short : length own.lines.items + length run ≤ 2 ^ 30 = omega (arith, a, b, most) in
    let new : Joined = record { instance = own.instance.value; whole = own.whole; nodes = c.in_ok-nodes.nodes.items; lines = c.in_ok-lines.lines.items; plan = c.in_ok-plan.plan } in
    let so : new ≡ with_part j node run part.plan = rw (c.in_ok-nodes.ensures, c.in_ok-lines.ensures, c.in_ok-plan.ensures) refl in
    subst (λ (x : Joined). JoinsPart part x new) same (record { node = node; run = run; part = is; other = other; short = short; new = so })
