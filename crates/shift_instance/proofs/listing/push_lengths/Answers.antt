use Rattle.shift_instance.proofs.Common.{subst, Kind, IsListed, starting, ◌≡◌, ◌++◌, sym}
use Rattle.shift_instance.proofs.Made.{lengths_more, lengths_all}
use Rattle.shift_instance.proofs.listing.push_lengths.Goals as goal

pub loop-len-preserved : goal.loop-len-preserved
loop-len-preserved c = lengths_more c.args.number c.args.start c.kind.inside.len_min c.loop-len.len c.args.shifts.now.items c.loop-len.shifts.items c.push.new.self.items c.loop-len.auto.len c.loop-len.invariant c.in_ok-push.ensures.items

pub returns : goal.returns
returns c =
    subst (λ (k : Kind). c.loop-len.shifts.items ≡ c.args.shifts.now.items ++ starting c.args.number k c.args.start) c.kind.view_is
    (lengths_all c.args.number c.args.start c.loop-len.len _ c.args.shifts.now.items c.loop-len.shifts.items (subst (λ (k : Kind). IsListed k) (sym c.kind.view_is) c.requires) c.loop-len.auto.len-end c.loop-len-test.false c.loop-len.invariant)
