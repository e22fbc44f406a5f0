use Rattle.plan_page.proofs.Common.{◌≡◌, List, ℕ, OnOk, codes, ◌++◌, cond, ap, sym, subst, string_bytes, eq-eqb, ne_eqb, wanted_employees, cell}
use Rattle.std.specs.Fmt.{decimal}
use Rattle.plan_page.proofs.cells.add_wanted_employees.Goals as goal

pub returns-then-slot : goal.returns-then-slot
unfolding wanted_employees
returns-then-slot c =
    let x = c.args.slot.now in
    let one : List ℕ = decimal x.wanted in
    let two : List ℕ = decimal x.wanted ++ codes "-" ++ decimal x.wanted_max in
    let old = string_bytes c.args.page.now in
    let new = string_bytes c.add_employees.new.page in
    subst (λ (shown : List ℕ). OnOk c.add_employees.result (new ≡ old ++ cell shown))
    (sym (ap (λ (same : _). cond same one two) (eq-eqb x.wanted x.wanted_max c.if-slot.true))) c.add_employees.ensures

pub returns-else-slot : goal.returns-else-slot
unfolding wanted_employees
returns-else-slot c =
    let x = c.args.slot.now in
    let one : List ℕ = decimal x.wanted in
    let two : List ℕ = decimal x.wanted ++ codes "-" ++ decimal x.wanted_max in
    let old = string_bytes c.args.page.now in
    let new = string_bytes c.add_range.new.page in
    subst (λ (shown : List ℕ). OnOk c.add_range.result (new ≡ old ++ cell shown))
    (sym (ap (λ (same : _). cond same one two) (ne_eqb x.wanted x.wanted_max c.if-slot.false))) c.add_range.ensures
