use Rattle.search_book.proofs.Common.{ap, ◌∙◌, bytes_used, LogView}
use Rattle.search_book.proofs.record_log.RecordLog.end.Goals as goal

pub returns-clause-end : goal.returns-clause-end
unfolding bytes_used
returns-clause-end g c = c.end.ensures.end ∙ ap (λ (v : LogView g.row.D.Denot). bytes_used v.head v.records) c.self.view_is
