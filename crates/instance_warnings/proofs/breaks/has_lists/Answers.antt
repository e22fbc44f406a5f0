use Rattle.instance_warnings.proofs.Common.{◌≡◌, ◌+◌, ◌-◌, ◌<◌, ◌≤◌, [], ap, sym, ◌∙◌, arith, is_live, Kind}
use Rattle.instance_warnings.proofs.Lists.{some_between, none_between}
use Rattle.instance_warnings.proofs.breaks.has_lists.Goals as goal

pub returns-then-branch : goal.returns-then-branch
returns-then-branch c =
    let k = c.args.kind.now in
    let low : c.kind.inside.len_min ≡ k.len_min = ap (λ (x : Kind). x.len_min) c.kind.view_is in
    let high : c.kind.inside.len_max ≡ k.len_max = ap (λ (x : Kind). x.len_max) c.kind.view_is in
    let test : c.loop-len.len < c.kind.inside.len_max + 1 = c.loop-len-test.true in
    sym (some_between (λ len. is_live c.args.rule.now len []) k.len_min (k.len_max + 1 - k.len_min) c.loop-len.len (omega arith) (omega arith) (sym c.in_ok-live.ensures ∙ c.if-branch.true))

pub returns : goal.returns
returns c =
    let k = c.args.kind.now in
    let low : c.kind.inside.len_min ≡ k.len_min = ap (λ (x : Kind). x.len_min) c.kind.view_is in
    let high : c.kind.inside.len_max ≡ k.len_max = ap (λ (x : Kind). x.len_max) c.kind.view_is in
    let lengths : k.len_min ≤ k.len_max = c.requires.listed.lengths in
    sym (none_between (λ len. is_live c.args.rule.now len []) k.len_min (k.len_max + 1 - k.len_min) (λ n above below. c.loop-len.invariant n (omega arith) (omega arith)))
