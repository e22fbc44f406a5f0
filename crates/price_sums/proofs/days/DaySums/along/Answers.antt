use Rattle.price_sums.proofs.Common.{◌≡◌, ℕ, ◌+◌, ◌-◌, ◌*◌, ◌%◌, ◌<◌, ◌≤◌, ℤ, List, take, drop, sym, ap, ◌∙◌, subst, arith, unsigned_abs, mod_below, Shift, Problem, day_slots, slots, slot_of, price_of, ArePricesOf, Priced, sums_on, AreDaySums, AreSumsByDay}
use Rattle.shift_instance.specs.Valid.{IsShift, IsValid}
use Rattle.price_sums.proofs.Prices.{price_small, some_at}
use Rattle.price_sums.proofs.Windows.{window_price, window_size}
use Rattle.price_sums.proofs.days.DaySums.along.Goals as goal

module _ (p : Priced) (lanes : List (List ℤ)) (held : AreDaySums p lanes) (shift : Shift) (early : shift.start < 2 * day_slots p.instance) (short : shift.len ≤ day_slots p.instance) where
  abbrev window : List (List ℤ)
  window = take (shift.len + 1) (drop shift.start lanes)

  prices_of : (day : ℕ) → day < p.instance.days → ArePricesOf p.instance shift day p.prices (sums_on day window)
  prices_of day d offset l =
      let e : day * day_slots p.instance + (shift.start + offset) ≡ day * day_slots p.instance + shift.start + offset = omega arith in
      window_price lanes shift.start (shift.len + 1) day offset (omega arith)
      ∙ held.each day d (shift.start + offset) (omega arith)
      ∙ ap (λ n. price_of p.prices (n % slots p.instance)) e

  sums_along : day_slots p.instance ≤ 288 → 0 < slots p.instance → AreSumsByDay p.instance shift p.prices window
  sums_along limit some = record {
    each = prices_of;
    small = λ day d. record {
      short = omega arith;
      size = window_size lanes shift.start (shift.len + 1) day (10000000000 * 65536) (held.sizes day d);
      small = λ o l.
          let inside : slot_of p.instance shift day o < slots p.instance = mod_below (day * day_slots p.instance + shift.start + o) (slots p.instance) some in
          let count = held.count in
          subst (λ (z : ℤ). unsigned_abs z ≤ 10000000000) (sym (prices_of day d o l)) (price_small p.prices (slot_of p.instance shift day o) (omega arith) held.prices);
    };
  }

pub returns : goal.returns
returns c = λ x e.
    let lanes = c.self.inside.lanes.items in
    let own = c.args.self.now in
    let shift = c.shift-shift.result in
    let is : shift ≡ x.0 = some_at _ x (λ y. shift ≡ y.0) e c.shift-shift.ensures.shift in
    let same : own.instance ≡ c.args.instance.now = c.requires.instance in
    let held : AreDaySums own lanes = subst (λ (p : Priced). AreDaySums p lanes) c.self.view_is c.self.invariant in
    let within : IsShift own.instance shift = subst (λ (i : Problem). IsShift i shift) (sym same) c.shift-shift.ensures.within in
    let valid : IsValid own.instance = subst IsValid (sym same) c.shift-shift.ensures.valid in
    let sums : AreSumsByDay own.instance shift own.prices (take (shift.len + 1) (drop shift.start lanes)) = sums_along own lanes held shift within.early within.short valid.day_limit valid.some_slots in
    let many : shift.len + 1 ≡ c.from-from.result + c.from.result + 1 - c.from-from.result = omega (arith, c.from.ensures) in
    subst (λ (s : Shift). AreSumsByDay c.args.instance.now s own.prices (take (c.from-from.result + c.from.result + 1 - c.from-from.result) (drop c.from-from.result c.deref.result.now))) is
    (subst (λ (i : Problem). AreSumsByDay i shift own.prices (take (c.from-from.result + c.from.result + 1 - c.from-from.result) (drop c.from-from.result c.deref.result.now))) same
    (subst (λ (l : List (List ℤ)). AreSumsByDay own.instance shift own.prices (take (c.from-from.result + c.from.result + 1 - c.from-from.result) (drop c.from-from.result l))) (sym c.deref.ensures.value)
    (subst (λ n. AreSumsByDay own.instance shift own.prices (take (c.from-from.result + c.from.result + 1 - c.from-from.result) (drop n lanes))) (sym c.from-from.ensures)
    (subst (λ n. AreSumsByDay own.instance shift own.prices (take n (drop shift.start lanes))) many sums))))
