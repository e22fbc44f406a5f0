use Rattle.shift_instance.proofs.Common.{◌≤◌, ◌∙◌, List, length, sym, ap, subst, if◌then◌else◌, flat_map, enumerate_from, lt-ltb, le-ltb, TooManyShifts, Kind, Problem, shifts_of_kind}
use Rattle.std.specs.Prelude.{Some, None}
use Rattle.shift_instance.proofs.Judged.{causes_front, causes_last, few_kinds}
use Rattle.shift_instance.proofs.judging.judge.Goals as goal

pub count_shifts-found-requires : goal.count_shifts-found-requires
count_shifts-found-requires c =
    subst (λ (ks : List Kind). length ks ≤ 16) (sym (c.as_slice.ensures.value ∙ ap (λ (q : Problem). q.kinds) c.parts.view_is)) (few_kinds c.args.parts.now (sym c.in-None.ensures))

pub returns-in-Some : goal.returns-in-Some
returns-in-Some c = sym (causes_front c.args.parts.now c.in-Some.fault (sym c.in-Some.ensures))

pub returns-then-found-gt1024 : goal.returns-then-found-gt1024
returns-then-found-gt1024 c =
    let n = c.count_shifts-found.result in
    let e = c.count_shifts-found.ensures ∙ ap (λ (ks : List Kind). length (flat_map shifts_of_kind (enumerate_from 0 ks))) (c.as_slice.ensures.value ∙ ap (λ (q : Problem). q.kinds) c.parts.view_is) in
    sym (causes_last c.args.parts.now n e (sym c.in-None.ensures) ∙ ap (λ b. if b then Some (TooManyShifts n) else None) (lt-ltb 1024 n c.if-found-gt1024.true))

pub returns-else-found-gt1024 : goal.returns-else-found-gt1024
returns-else-found-gt1024 c =
    let n = c.count_shifts-found.result in
    let e = c.count_shifts-found.ensures ∙ ap (λ (ks : List Kind). length (flat_map shifts_of_kind (enumerate_from 0 ks))) (c.as_slice.ensures.value ∙ ap (λ (q : Problem). q.kinds) c.parts.view_is) in
    sym (causes_last c.args.parts.now n e (sym c.in-None.ensures) ∙ ap (λ b. if b then Some (TooManyShifts n) else None) (le-ltb 1024 n c.if-found-gt1024.false))
