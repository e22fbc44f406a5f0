use Rattle.instance_tables.proofs.Common.{◌≡◌, ℕ, ◌++◌, IfOk, List, sym, ap, ◌∙◌, subst, arith, flat_map, flat_map_more, append-nil, default_writer, row_text, below, slots, need_columns, need_fields, need_text}
use Rattle.shift_instance.proofs.Ranges.{below_next}
use Rattle.instance_tables.proofs.export.need_table.Goals as goal

pub loop-t-init : goal.loop-t-init
loop-t-init c =
    let head : List ℕ = row_text default_writer need_columns in
    c.in_ok-records.ensures ∙ ap (λ (text : List ℕ). text ++ head) c.new.ensures ∙ sym (append-nil head)

pub loop-t-preserved : goal.loop-t-preserved
loop-t-preserved c =
    let i = c.args.instance.now in
    let t = c.loop-t.t in
    let head = row_text default_writer need_columns in
    let f = λ (t : ℕ). row_text default_writer (need_fields i t) in
    c.in_ok-records-2.ensures
    ∙ ap (λ (text : List ℕ). text ++ f t) c.loop-t.invariant
    ∙ flat_map_more f head (below t) t
    ∙ ap (λ (ts : List ℕ). head ++ flat_map f ts) (sym (below_next t))

pub returns : goal.returns
returns c =
    let i = c.args.instance.now in
    let last : c.loop-t.t ≡ slots i = omega arith in
    let all : c.loop-t.records ≡ need_text i =
    c.loop-t.invariant ∙ ap (λ (n : ℕ). row_text default_writer need_columns ++ flat_map (λ (t : ℕ). row_text default_writer (need_fields i t)) (below n)) last in
    subst (λ (text : List ℕ). IfOk c.into_bytes.result (λ bytes. bytes.items ≡ text)) all c.into_bytes.ensures
