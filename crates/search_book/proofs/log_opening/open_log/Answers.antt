use Rattle.search_book.proofs.Common.{List, ℕ, ap, refl, sym, subst, IfSome, one_list, IsBegun, IsOpenedFrom, PostLogView, bytes_used}
use Rattle.search_book.proofs.Opens.{opened_from}
use Rattle.search_book.proofs.log_opening.open_log.Goals as goal

pub returns-in-Ok-clause-begins : goal.returns-in-Ok-clause-begins
returns-in-Ok-clause-begins g c =
    let view = c.in-Ok.ensures.view in
    subst (λ (v : PostLogView g.row.D.Denot). IsBegun c.args.instance.now c.args.limit v) (sym c.over-log.ensures) (record {
      instance = view.0;
      limit_is = view.2;
      history = refl;
      batches = refl;
      opened = refl;
      in_flight = refl;
      shut = refl;
    })

pub returns-in-Ok-clause-found : goal.returns-in-Ok-clause-found
returns-in-Ok-clause-found g c =
    let K = g.D.Disk in
    let f = c.in-Ok.field-0 in
    let i = c.args.instance.now in
    subst (λ (v : PostLogView g.row.D.Denot). IfSome (K.reads c.args.disk) (IsOpenedFrom c.args.limit i v.history v.used (K.reads v.disk))) (sym c.over-log.ensures)
    (opened_from one_list c.args.limit i f.journal.records f.state.history (bytes_used f.journal.head f.journal.records) (K.reads c.args.disk) (K.reads c.open_state.new.disk) (ap (λ (h : List ℕ). bytes_used h f.journal.records) c.in-Ok.ensures.view.1) c.in-Ok.ensures.spell c.in-Ok.ensures.found)
