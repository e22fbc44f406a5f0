use Rattle.plan_tables.proofs.Common.{◌≡◌, ℕ, ◌++◌, IfOk, List, sym, ap, ◌∙◌, subst, arith, flat_map, flat_map_more, default_writer, row_text, Duty, below, slots, rota_of, below_next, cover_text, slot_columns, slot_fields}
use Rattle.std.proofs.lemmas.List.{append-nil}
use Rattle.rota_cost.specs.Cover.{Covering}
use Rattle.plan_tables.proofs.tables.cover_csv.Goals as goal

pub loop-t-init : goal.loop-t-init
loop-t-init c =
    let head : List ℕ = row_text default_writer slot_columns in
    c.in_ok-records.ensures ∙ ap (λ (text : List ℕ). text ++ head) c.new-2.ensures ∙ sym (append-nil head)

pub loop-t-preserved : goal.loop-t-preserved
loop-t-preserved c =
    let i = c.args.instance.now in
    let t = c.loop-t.t in
    let head = row_text default_writer slot_columns in
    let f = λ (t : ℕ). row_text default_writer (slot_fields i (rota_of c.args.rows.now) t) in
    let same : c.in_ok-attendance.attendance.duties ≡ rota_of c.args.rows.now = ap (λ (a : Covering). a.duties) c.in_ok-attendance.ensures in
    c.in_ok-records-2.ensures
    ∙ ap (λ (ds : List Duty). c.loop-t.records ++ row_text default_writer (slot_fields i ds t)) same
    ∙ ap (λ (text : List ℕ). text ++ f t) c.loop-t.invariant
    ∙ flat_map_more f head (below t) t
    ∙ ap (λ (ts : List ℕ). head ++ flat_map f ts) (sym (below_next t))

pub returns : goal.returns
returns c =
    let i = c.args.instance.now in
    let rota = rota_of c.args.rows.now in
    let last : c.loop-t.t ≡ slots i = omega arith in
    let all : c.loop-t.records ≡ cover_text i rota =
    c.loop-t.invariant ∙ ap (λ (n : ℕ). row_text default_writer slot_columns ++ flat_map (λ (t : ℕ). row_text default_writer (slot_fields i rota t)) (below n)) last in
    subst (λ (text : List ℕ). IfOk c.into_bytes.result (λ bytes. bytes.items ≡ text)) all c.into_bytes.ensures
