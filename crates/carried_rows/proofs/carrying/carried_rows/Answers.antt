use Rattle.carried_rows.proofs.Common.{◌≡◌, ℕ, true, List, length, ◌++◌, [], ◌∙◌, ap, sym, subst, arith, Row, below, shift_list, are_legal_rows, below_next, flat_map, flat_map_more, length-map, carried, carried_of}
use Rattle.carried_rows.proofs.Legal.{carried_legal}
use Rattle.carried_rows.proofs.carrying.carried_rows.Goals as goal

pub loop-shift-preserved : goal.loop-shift-preserved
loop-shift-preserved c =
    let f = carried_of c.args.old.now c.args.new.now c.args.rows.now in
    c.in_ok-carry_of.ensures ∙ ap (λ xs. xs ++ f c.loop-shift.shift) c.loop-shift.invariant ∙ flat_map_more f [] (below c.loop-shift.shift) c.loop-shift.shift ∙ ap (flat_map f) (sym (below_next c.loop-shift.shift))

pub returns-clause-legal : goal.returns-clause-legal
returns-clause-legal c =
    let i = c.args.old.now in
    let j = c.args.new.now in
    let rows = c.args.rows.now in
    let long : length c.shifts.result.now ≡ length (shift_list j) = ap length c.shifts.ensures.shifts ∙ length-map (shift_list j) (λ x. x.0) in
    let end : c.loop-shift.shift ≡ length (shift_list j) = let past = c.loop-shift-test.false in let within = c.loop-shift.auto.shift-end in omega arith in
    let is : c.new.result ≡ carried i j rows = c.new.ensures ∙ c.loop-shift.invariant ∙ ap (λ (n : ℕ). flat_map (carried_of i j rows) (below n)) end in
    λ h. subst (λ (list : List Row). are_legal_rows j list ≡ true) (sym is) (carried_legal i j rows h)
