use Rattle.greedy.proofs.Common.{◌≡◌, ◌<◌, ◌≤ℤ◌, ◌∙◌, ℤ, pos, neg_ℤ, List, length, set, to_z, of_z, sym, ap, subst, arith, false≢true, ints, shift_list, bound_at, Leads, gain}
use Rattle.std.proofs.Common.{w64}
use Rattle.greedy.proofs.Bounding.{bounds_exact, bound_read, falls_short, gain_small, leading_shift, look_lowers, next_is, none_left}
use Rattle.greedy.proofs.Keeping.{keeps_with}
use Rattle.greedy.proofs.bounds.next_shift.Goals as goal

pub returns-then-gain-index-clause-next : goal.returns-then-gain-index-clause-next
returns-then-gain-index-clause-next g c =
    let i = c.args.instance.now in
    let rota = c.args.draft.now.cover.duties in
    let bounds = c.looks.bounds.items in
    let s = c.in-Some.shift in
    let led = subst (λ (bs : List ℤ). (top : ℤ) × Leads (bound_at bs) (length bs) c.leading.result top) c.deref.ensures.value c.leading.ensures in
    let l = leading_shift bounds c.leading.result s c.in-Some.is led in
    let read : c.index.result.now ≡ bound_at bounds s = bound_read bounds s c.from-in-Some.result c.index.result.now l.0 c.from-in-Some.ensures c.index.ensures in
    let small = gain_small i rota s c.requires.draft.valid in
    let low : neg_ℤ (pos 14113000000) ≤ℤ gain i rota s = small.above in
    let high : gain i rota s ≤ℤ pos 14113000000 = small.below in
    let limit = c.looks.invariant.bounds.small s in
    let down : neg_ℤ (pos 14114000000) ≤ℤ bound_at bounds s = limit.above in
    let up : bound_at bounds s ≤ℤ pos 14114000000 = limit.below in
    let is : c.gain-gain.result ≡ gain i rota s = c.gain-gain.ensures in
    let one : to_z w64 (of_z w64 c.gain-gain.result) ≡ c.gain-gain.result = omega (arith, ints) in
    let two : to_z w64 (of_z w64 c.index.result.now) ≡ c.index.result.now = omega (arith, ints) in
    let same : c.gain-gain.result ≡ c.index.result.now = sym one ∙ ap (to_z w64) c.if-gain-index.true ∙ two in
    next_is i rota bounds c.leading.result s c.in-Some.is (sym is ∙ same ∙ read) c.looks.invariant.bounds led

pub looks-smaller : goal.looks-smaller
looks-smaller g c =
    let i = c.args.instance.now in
    let rota = c.args.draft.now.cover.duties in
    let bounds = c.looks.bounds.items in
    let s = c.in-Some.shift in
    let led = subst (λ (bs : List ℤ). (top : ℤ) × Leads (bound_at bs) (length bs) c.leading.result top) c.deref.ensures.value c.leading.ensures in
    let l = leading_shift bounds c.leading.result s c.in-Some.is led in
    let within : s < length bounds = l.0 in
    let all : length bounds ≡ length (shift_list i) = c.looks.invariant.bounds.all in
    let read : c.index.result.now ≡ bound_at bounds s = bound_read bounds s c.from-in-Some.result c.index.result.now within c.from-in-Some.ensures c.index.ensures in
    let small = gain_small i rota s c.requires.draft.valid in
    let low : neg_ℤ (pos 14113000000) ≤ℤ gain i rota s = small.above in
    let high : gain i rota s ≤ℤ pos 14113000000 = small.below in
    let is : c.gain-gain.result ≡ gain i rota s = c.gain-gain.ensures in
    let one : to_z w64 (of_z w64 c.gain-gain.result) ≡ c.gain-gain.result = omega (arith, ints) in
    look_lowers bounds s c.from-in-Some-2.result (to_z w64 (of_z w64 c.gain-gain.result)) (gain i rota s) c.from-in-Some-2.ensures (one ∙ is) within l.1
    (falls_short (gain i rota s) (bound_at bounds s) (c.looks.invariant.bounds.each s (omega arith)) (λ e. c.if-gain-index.false (ap (of_z w64) (is ∙ e ∙ sym read))))

pub looks-preserved : goal.looks-preserved
looks-preserved g c =
    let i = c.args.instance.now in
    let rota = c.args.draft.now.cover.duties in
    let bounds = c.looks.bounds.items in
    let s = c.in-Some.shift in
    let led = subst (λ (bs : List ℤ). (top : ℤ) × Leads (bound_at bs) (length bs) c.leading.result top) c.deref.ensures.value c.leading.ensures in
    let l = leading_shift bounds c.leading.result s c.in-Some.is led in
    let within : s < length bounds = l.0 in
    let all : length bounds ≡ length (shift_list i) = c.looks.invariant.bounds.all in
    let small = gain_small i rota s c.requires.draft.valid in
    let low : neg_ℤ (pos 14113000000) ≤ℤ gain i rota s = small.above in
    let high : gain i rota s ≤ℤ pos 14113000000 = small.below in
    let is : c.gain-gain.result ≡ gain i rota s = c.gain-gain.ensures in
    let one : to_z w64 (of_z w64 c.gain-gain.result) ≡ c.gain-gain.result = omega (arith, ints) in
    let z : ℤ = to_z w64 (of_z w64 c.gain-gain.result) in
    record {
      bounds = bounds_exact i rota bounds (set bounds c.from-in-Some-2.result z) s z c.requires.draft.valid (omega arith) (one ∙ is) (ap (λ j. set bounds j z) c.from-in-Some-2.ensures) c.looks.invariant.bounds;
      known = keeps_with i c.args.sums.now.prices c.looks.known s c.from.result c.kept_values.new.known (omega arith) c.from.ensures c.in_ok-values.ensures.known c.looks.invariant.known;
    }

pub returns-then-gain-index-clause-known : goal.returns-then-gain-index-clause-known
returns-then-gain-index-clause-known g c =
    let i = c.args.instance.now in
    let bounds = c.looks.bounds.items in
    let s = c.in-Some.shift in
    let led = subst (λ (bs : List ℤ). (top : ℤ) × Leads (bound_at bs) (length bs) c.leading.result top) c.deref.ensures.value c.leading.ensures in
    let within : s < length bounds = (leading_shift bounds c.leading.result s c.in-Some.is led).0 in
    let all : length bounds ≡ length (shift_list i) = c.looks.invariant.bounds.all in
    keeps_with i c.args.sums.now.prices c.looks.known s c.from.result c.kept_values.new.known (omega arith) c.from.ensures c.in_ok-values.ensures.known c.looks.invariant.known

pub returns-clause-next : goal.returns-clause-next
returns-clause-next g c = λ _.
    let bounds = c.looks.bounds.items in
    let led = subst (λ (bs : List ℤ). (top : ℤ) × Leads (bound_at bs) (length bs) c.leading.result top) c.deref.ensures.value c.leading.ensures in
    none_left c.args.instance.now c.args.draft.now.cover.duties bounds c.leading.result c.in_default.is c.looks.invariant.bounds led

pub returns-then-is_asked-clause-next : goal.returns-then-is_asked-clause-next
returns-then-is_asked-clause-next g c = λ free. absurd (false≢true (sym free ∙ c.is_asked.ensures.allowed c.if-is_asked.true))
