use Rattle.descents.proofs.Common.{◌<◌, ◌∙◌, length, arith}
use Rattle.descents.proofs.Tries.{shift_known}
use Rattle.descents.proofs.evening.even_row.Goals as goal

pub other_list-requires-clause-shift : goal.other_list-requires-clause-shift
other_list-requires-clause-shift c =
    let inside : c.args.k < length c.as_slice-rows.result.now = omega arith in
    shift_known c.args.instance.now c.args.draft.now c.as_slice-rows.result.now c.args.k c.index-rows-k.result c.in_ok-duty.duty c.requires.instance c.rows.ensures.legal
    (c.as_slice-rows.ensures ∙ c.rows.ensures.rows) inside c.index-rows-k.is c.in_ok-duty.ensures
