use Rattle.plan_page.proofs.Common.{◌≡◌, List, ℕ, OnOk, codes, ◌++◌, cond, ap, sym, subst, string_bytes, eq-eqb, ne_eqb, wanted_hours, span_text, spans_text}
use Rattle.plan_page.proofs.days.add_wanted.Goals as goal

pub returns-then-totals : goal.returns-then-totals
unfolding wanted_hours
returns-then-totals c =
    let i = c.args.instance.now in
    let x = c.args.totals.now in
    let one : List ℕ = span_text i x.wanted in
    let two : List ℕ = span_text i x.wanted ++ codes "-" ++ span_text i x.wanted_max in
    let old = string_bytes c.args.page.now in
    let new = string_bytes c.add_span.new.page in
    subst (λ (shown : List ℕ). OnOk c.add_span.result (new ≡ old ++ shown))
    (sym (ap (λ (same : _). cond same one two) (eq-eqb x.wanted x.wanted_max c.if-totals.true))) c.add_span.ensures

pub returns-else-totals : goal.returns-else-totals
unfolding wanted_hours spans_text
returns-else-totals c =
    let i = c.args.instance.now in
    let x = c.args.totals.now in
    let one : List ℕ = span_text i x.wanted in
    let two : List ℕ = span_text i x.wanted ++ codes "-" ++ span_text i x.wanted_max in
    let old = string_bytes c.args.page.now in
    let new = string_bytes c.add_spans.new.page in
    subst (λ (shown : List ℕ). OnOk c.add_spans.result (new ≡ old ++ shown))
    (sym (ap (λ (same : _). cond same one two) (ne_eqb x.wanted x.wanted_max c.if-totals.false))) c.add_spans.ensures
