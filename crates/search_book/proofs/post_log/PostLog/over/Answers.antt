use Rattle.search_book.proofs.Common.{◌≡◌, ap, arith, ◌∙◌, bytes_used, LogView}
use Rattle.search_book.proofs.Commits.{opened_inside}
use Rattle.search_book.proofs.post_log.PostLog.over.Goals as goal

pub invariant_of-result : goal.invariant_of-result
invariant_of-result g c =
    let j = c.args.journal in
    let log = c.over-log.result in
    let used : bytes_used log.head log.records ≡ bytes_used j.head j.records = ap (λ (l : LogView g.row.D.Denot). bytes_used l.head l.records) c.over-log.ensures in
    let most : log.limit ≡ j.limit = ap (λ (l : LogView g.row.D.Denot). l.limit) c.over-log.ensures in
    opened_inside log c.args.state c.opened-batched.result.opening c.opened-batched.result.batches c.args.records j.head j.records c.args.disk j.spare j.limit
    c.over-log.ensures (c.opened-batched.ensures.0 ∙ c.history.ensures.history) c.opened-batched.ensures.1 c.requires.head c.requires.small c.requires.valid c.requires.records c.requires.spell c.history.ensures.folds
    (omega (arith, c.end.ensures.end, c.end.ensures.within, used, most))
