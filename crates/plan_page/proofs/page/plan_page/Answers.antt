use Rattle.plan_page.proofs.Common.{◌≡◌, List, [], Bor, length, map, ap, ◌∙◌, length-map, Row, below, rota_of, DaySummary, IsKnown, by_start, known_by_start, page_text}
use Rattle.std.proofs.lemmas.List.Elements.{All-same}
use Rattle.std.proofs.lemmas.List.FromFn.{length-range_with_len}
use Rattle.rota_cost.specs.Cover.{Covering}
use Rattle.shift_instance.specs.declared.Duty.{Duty}
use Rattle.plan_tables.specs.Tallies.{day_summary}
use Rattle.plan_page.proofs.page.plan_page.Goals as goal

pub written-requires-clause-listed : goal.written-requires-clause-listed
written-requires-clause-listed c =
    let i = c.args.instance.now in
    let rows = c.args.rows.now in
    let row : Row = record { shift = 0; day = 0; breaks = []; count = 0 } in
    let f = λ (r : Bor Row). r.now in
    let same : map f c.as_slice.result.now ≡ by_start i rows = ap (λ (xs : List (Bor Row)). map f xs) c.as_slice.ensures.value ∙ c.in_ok-ordered.ensures in
    All-same (IsKnown i) (map f c.as_slice.result.now) (by_start i rows) same (known_by_start i rows row c.requires)

pub written-requires-clause-days : goal.written-requires-clause-days
written-requires-clause-days c =
    let i = c.args.instance.now in
    ap (λ (days : List DaySummary). length days) c.in_ok-summary.ensures.sums.days
    ∙ length-map (below i.days) (day_summary i (rota_of c.args.rows.now)) ∙ length-range_with_len 0 i.days

pub returns : goal.returns
returns c =
    let i = c.args.instance.now in
    let rows = c.args.rows.now in
    let texts = c.args.texts.now in
    let summary = c.in_ok-summary.summary in
    let f = λ (r : Bor Row). r.now in
    let same : map f c.as_slice.result.now ≡ by_start i rows = ap (λ (xs : List (Bor Row)). map f xs) c.as_slice.ensures.value ∙ c.in_ok-ordered.ensures in
    let duties : c.in_ok-attendance.attendance.duties ≡ rota_of rows = ap (λ (a : Covering). a.duties) c.in_ok-attendance.ensures in
    record {
      summary = summary;
      sums = c.in_ok-summary.ensures.sums;
      bytes =
          c.in_ok-page.ensures
          ∙ ap (λ (rota : List Duty). page_text i rota (map f c.as_slice.result.now) texts summary) duties
          ∙ ap (λ (ordered : List Row). page_text i (rota_of rows) ordered texts summary) same;
    }
