use Rattle.descents.proofs.Descents.{all_parts}
use Rattle.descents.proofs.descending.improve_all.Goals as goal

pub returns-clause-none : goal.returns-clause-none
returns-clause-none c = λ e some.
    all_parts c.args.instance.now c.args.draft.now c.improve_part.new.draft c.improve_part-2.new.draft c.improve_part-3.new.draft
    c.args.left.now c.improve_part.new.left c.improve_part-2.new.left c.improve_part-3.new.left e some
    c.in_ok-improve_part-3.ensures.down c.in_ok-improve_part-2.ensures.down c.in_ok-improve_part.ensures.down
    c.in_ok-improve_part.ensures.none c.in_ok-improve_part-2.ensures.none c.in_ok-improve_part-3.ensures.none
