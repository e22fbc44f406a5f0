use Rattle.instance_json.proofs.Common.{◌≡◌, ◌∙◌, need_of}
use Rattle.instance_json.proofs.Generation.{no_steps, no_needs, state_more, need_made, needs_more}
use Rattle.instance_json.proofs.generating.needs.Goals as goal

pub loop-slot-init : goal.loop-slot-init
loop-slot-init c = record {
  state = no_steps c.args.number;
  needs = c.new-needs.ensures.items ∙ no_needs c.args.number;
}

pub loop-slot-preserved : goal.loop-slot-preserved
loop-slot-preserved c =
    let need : c.need.result ≡ need_of c.args.number c.loop-slot.slot =
    c.need.ensures.need ∙ need_made c.args.number c.loop-slot.slot c.loop-slot.draws.state c.loop-slot.invariant.state in
    record {
      state = state_more c.args.number c.loop-slot.slot c.loop-slot.draws.state c.need.new.self.state c.loop-slot.invariant.state c.need.ensures.state;
      needs = needs_more c.args.number c.loop-slot.slot c.need.result c.loop-slot.needs.items c.push.new.self.items c.loop-slot.invariant.needs need c.in_ok-push.ensures.items;
    }
