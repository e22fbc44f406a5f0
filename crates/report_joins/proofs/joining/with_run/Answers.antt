use Rattle.report_joins.proofs.Common.{◌≡◌, ◌∷◌, ◌++◌, [], ap, subst, ◌∙◌, Line, Reads, grafted_line, fit_rest, grafted_more}
use Rattle.report_joins.proofs.joining.with_run.Goals as goal

pub loop-lines-preserved : goal.loop-lines-preserved
loop-lines-preserved c =
    let rest = c.next_line.new.self in
    let line = c.in-Some.line in
    let read : c.loop-lines.reader ≡ line ∷ rest = subst (λ o. Reads o c.loop-lines.reader rest) c.in-Some.is c.in_ok-line.ensures.read in
    let pushed : c.push.new.self.items ≡ c.loop-lines.lines.items ++ grafted_line c.args.place.node c.args.place.splits line ∷ [] =
    c.in_ok-push.ensures.items ∙ ap (λ (l : Line). c.loop-lines.lines.items ++ l ∷ []) c.line.ensures in
    record {
      added = grafted_more c.args.place.node c.args.place.splits c.loop-lines.lines.items c.push.new.self.items _ line c.loop-lines.reader rest pushed read c.loop-lines.invariant.added;
      fit = fit_rest c.args.place.splits line c.loop-lines.reader rest read c.loop-lines.invariant.fit;
    }
