use Rattle.dual_bound.proofs.Common.{[], ◌+◌, inl, inr, List, All, refl, sym, ap, subst, ◌∙◌, Vec, Global, All-nil, DayTables, AreKeptOrNone, AreTablesBelow, IsKept, IsAt}
use Rattle.dual_bound.proofs.KeptTables.{tables_more}
use Rattle.dual_bound.proofs.day_tables.kept_tables.Goals.{then-keeps_tables+in_ok-tables, else-keeps_tables}
use Rattle.dual_bound.proofs.day_tables.kept_tables.Goals as goal

pub loop-shift-preserved : goal.loop-shift-preserved
loop-shift-preserved g c =
    let i = c.args.instance.now in
    let cuts = c.args.cuts.now in
    let prices = c.args.prices.now in
    let s = c.loop-shift.shift in
    let v = c.if-keeps_tables.tables in
    let own : AreKeptOrNone i s v.items × All (IsAt cuts prices) v.items =
    elim c.if-keeps_tables.branch [
      | then-keeps_tables+in_ok-tables w ↦
          subst (λ (t : Vec DayTables Global). AreKeptOrNone i s t.items × All (IsAt cuts prices) t.items) (sym w.tables-is)
          ((i.days, inr refl, w.in_ok-tables.ensures.kept), w.in_ok-tables.ensures.at.at)
      | else-keeps_tables w ↦
          let none : AreKeptOrNone i s [] × All (IsAt cuts prices) [] = ((0, inl refl, record { places = refl; each = All-nil (IsKept i) }), All-nil (IsAt cuts prices)) in
          subst (λ (xs : List DayTables). AreKeptOrNone i s xs × All (IsAt cuts prices) xs) (sym (ap (λ (t : Vec DayTables Global). t.items) w.tables-is ∙ w.new-tables.ensures.items)) none
    ] in
    subst (AreTablesBelow i cuts prices (s + 1)) (sym c.in_ok-push.ensures.items) (tables_more i cuts prices s c.loop-shift.all.items v c.loop-shift.invariant own.0 own.1)
