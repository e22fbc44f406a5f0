use Rattle.instance_tables.proofs.Common.{◌≡◌, ℕ, Bool, true, false, ◌++◌, IfOk, List, [], if◌then◌else◌, sym, ap, ◌∙◌, subst, append-nil, default_writer, row_text, Kind, is_plain, rule_fields, rule_row}
use Rattle.instance_tables.proofs.export_rules.with_rule_of.Goals as goal

-- the row of a type, by whether its rule is the plain one
row_by : (slot_minutes : ℕ) (k : Kind) (b : Bool) → is_plain k.rule ≡ b → (if b then [] else row_text default_writer (rule_fields slot_minutes k.name k.rule)) ≡ rule_row slot_minutes k
unfolding rule_row
row_by slot_minutes k b e = ap (λ (plain : Bool). if plain then [] else row_text default_writer (rule_fields slot_minutes k.name k.rule)) (sym e)

-- the row of a type with breaks
row_of_ruled : (slot_minutes : ℕ) (k v : Kind) (name : List ℕ) → v ≡ k → is_plain v.rule ≡ false → name ≡ v.name → row_text default_writer (rule_fields slot_minutes name v.rule) ≡ rule_row slot_minutes k
row_of_ruled slot_minutes k v name same e n =
    ap (λ (text : List ℕ). row_text default_writer (rule_fields slot_minutes text v.rule)) n
    ∙ row_by slot_minutes v false e
    ∙ ap (rule_row slot_minutes) same

-- the row of a type without breaks
row_of_plain : (slot_minutes : ℕ) (k v : Kind) → v ≡ k → is_plain v.rule ≡ true → [] ≡ rule_row slot_minutes k
row_of_plain slot_minutes k v same e = row_by slot_minutes v true e ∙ ap (rule_row slot_minutes) same

pub returns-then-is_plain : goal.returns-then-is_plain
returns-then-is_plain c =
    sym (append-nil c.args.records)
    ∙ ap (λ (text : List ℕ). c.args.records ++ text) (row_of_plain c.args.slot_minutes c.args.kind.now _ c.kind.view_is (sym c.is_plain.ensures ∙ c.if-is_plain.true))

pub returns : goal.returns
returns c =
    subst (λ (text : List ℕ). IfOk c.with_rule.result (λ r. r ≡ c.args.records ++ text))
    (row_of_ruled c.args.slot_minutes c.args.kind.now _ c.as_str.result.now c.kind.view_is (sym c.is_plain.ensures ∙ c.if-is_plain.false) c.as_str.ensures.value)
    c.with_rule.ensures
