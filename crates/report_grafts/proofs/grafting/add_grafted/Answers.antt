use Rattle.report_grafts.proofs.Common.{◌≡◌, ◌∷◌, ◌++◌, [], ap, subst, ◌∙◌, Line, grafted_line}
use Rattle.certificate.specs.KeptLines.{Reads}
use Rattle.report_grafts.proofs.Grafts.{fit_rest, grafted_more}
use Rattle.report_grafts.proofs.grafting.add_grafted.Goals as goal

pub loop-line-preserved : goal.loop-line-preserved
loop-line-preserved c =
    let rest = c.next_line.new.self in
    let line = c.in-Some.line in
    let read : c.loop-line.reader ≡ line ∷ rest = subst (λ o. Reads o c.loop-line.reader rest) c.in-Some.is c.in_ok-line.ensures.read in
    let pushed : c.push.new.self.items ≡ c.loop-line.list.items ++ grafted_line c.args.place.node c.args.place.splits line ∷ [] =
    c.in_ok-push.ensures.items ∙ ap (λ (l : Line). c.loop-line.list.items ++ l ∷ []) c.line.ensures in
    record {
      added = grafted_more c.args.place.node c.args.place.splits c.loop-line.list.items c.push.new.self.items _ line c.loop-line.reader rest pushed read c.loop-line.invariant.added;
      fit = fit_rest c.args.place.splits line c.loop-line.reader rest read c.loop-line.invariant.fit;
    }
