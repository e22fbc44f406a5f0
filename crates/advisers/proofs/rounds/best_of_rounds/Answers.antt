use Rattle.advisers.proofs.Common.{◌≡◌, ◌+◌, ◌<◌, ◌≤◌, ap, ◌∙◌, arith, valued_of, value_in, Valued}
use Rattle.advisers.proofs.Searching.{round_of, searched_first, searched_last, searched_next, searched_reached}
use Rattle.advisers.proofs.rounds.best_of_rounds.Goals as goal

pub loop-round-init : goal.loop-round-init
loop-round-init g c =
    let i = c.args.instance.now in
    let cuts = c.args.cuts.now in
    let q = c.args.q in
    record {
      at = c.in_ok-pricer.ensures;
      searched = searched_first i cuts q c.args.goal c.in_ok-best.best (round_of i cuts q 0 c.in_ok-best.best (c.in_ok-best.ensures ∙ ap valued_of c.in_ok-pricer.ensures));
    }

pub loop-round-preserved : goal.loop-round-preserved
loop-round-preserved g c =
    let i = c.args.instance.now in
    let cuts = c.args.cuts.now in
    let q = c.args.q in
    let round = c.loop-round.round in
    let inv = c.loop-round.invariant in
    let next : Valued = valued_of c.next_round.new.pricer in
    let is : c.value.result ≡ value_in i cuts q round = c.value.ensures ∙ ap (λ p. (valued_of p).value) inv.at in
    let below : value_in i cuts q round < c.args.goal = omega (arith, is) in
    record {
      at = c.in_ok-next_round.ensures;
      searched = searched_next i cuts q c.args.goal round c.loop-round.best next c.in_ok-leader.leader inv.searched below
          (round_of i cuts q (round + 1) next (ap valued_of c.in_ok-next_round.ensures)) c.in_ok-leader.ensures;
    }

pub returns : goal.returns
returns g c = searched_last c.args.instance.now c.args.cuts.now c.args.q c.args.goal c.loop-round.round 40 c.loop-round.best c.loop-round.invariant.searched (omega arith)

pub returns-then-goal-value : goal.returns-then-goal-value
returns-then-goal-value g c =
    let i = c.args.instance.now in
    let is : c.value.result ≡ value_in i c.args.cuts.now c.args.q c.loop-round.round = c.value.ensures ∙ ap (λ p. (valued_of p).value) c.loop-round.invariant.at in
    let reached : c.args.goal ≤ value_in i c.args.cuts.now c.args.q c.loop-round.round = omega (arith, is) in
    searched_reached i c.args.cuts.now c.args.q c.args.goal c.loop-round.round 40 c.loop-round.best c.loop-round.invariant.searched reached (omega arith)
