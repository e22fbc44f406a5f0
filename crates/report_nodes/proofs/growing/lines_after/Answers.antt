use Rattle.report_nodes.proofs.Common.{◌≡◌, ◌∷◌, [], ◌∙◌, ap, subst, sym, List, Some, option_map, Line, nodes_after}
use Rattle.certificate.specs.KeptLines.{Reads}
use Rattle.report_nodes.proofs.Grown.{Grows, grows_few, grows_first, grows_more}
use Rattle.report_nodes.proofs.growing.lines_after.Goals as goal

pub loop-buffers-init : goal.loop-buffers-init
loop-buffers-init c = record {
  grows = subst (λ (left : List Line). Grows c.args.instance.now c.args.nodes.items c.args.lines.now left c.args.nodes.items) (sym c.reader-reader.ensures) (grows_first c.args.instance.now c.args.nodes.items c.args.lines.now c.requires.room);
  buffers = c.new-buffers.ensures.instance;
}

pub grown-requires-clause-few : goal.grown-requires-clause-few
grown-requires-clause-few c = grows_few c.args.instance.now c.args.nodes.items c.args.lines.now c.loop-buffers.reader c.loop-buffers.nodes.items c.loop-buffers.invariant.grows c.requires.lines

pub loop-buffers-preserved : goal.loop-buffers-preserved
loop-buffers-preserved c =
    let rest = c.next_line.new.self in
    let line = c.in-Some.line in
    let read : c.loop-buffers.reader ≡ line ∷ rest = subst (λ o. Reads o c.loop-buffers.reader rest) c.in-Some.is c.in_ok-line.ensures.read in
    let made : nodes_after c.args.instance.now c.loop-buffers.nodes.items (line ∷ []) ≡ Some c.in-Some-2.next.items =
    sym c.in_ok-next.ensures.made ∙ ap (option_map (λ v. v.items)) c.in-Some-2.is in
    record {
      grows = grows_more c.args.instance.now c.args.nodes.items c.args.lines.now c.loop-buffers.reader rest c.loop-buffers.nodes.items c.in-Some-2.next.items line c.loop-buffers.invariant.grows read made;
      buffers = c.in_ok-next.ensures.buffers ∙ c.loop-buffers.invariant.buffers;
    }
