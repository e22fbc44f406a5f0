use Rattle.break_layers.proofs.Common.{◌≡◌, ◌+◌, ◌%◌, ◌/◌, ◌≤◌, ◌∷◌, Bool, ℕ, inl, inr, drop, get_or, sym, ap, ◌∙◌, arith, if◌then◌else◌, cases_Bool, drop_more, Lunch, bits_of}
use Rattle.break_rules.proofs.Bits.{high_bits, low_bit}
use Rattle.break_layers.proofs.Lunched.{has_at}
use Rattle.break_layers.proofs.sizes.has_time.Goals as goal

pub returns-then-layer-entry : goal.returns-then-layer-entry
returns-then-layer-entry c = λ met is long.
    let d : Lunch = record { from_len = 0; size = 0; first = 0; last = 0 } in
    let es = c.args.entries.now in
    let i = c.loop-entry.entry-index in
    let e = get_or es i d in
    let rest : c.loop-entry.rest ≡ bits_of met (e ∷ drop (i + 1) es) = c.loop-entry.invariant.left met is ∙ ap (bits_of met) (drop_more es i d c.loop-entry-test.true) in
    let bit : ◌≡◌ {A = ℕ} (if met e then 1 else 0) 1 = sym (low_bit met e (drop (i + 1) es)) ∙ ap (λ n. n % 2) (sym rest) ∙ c.if-rest-eq1.true in
    elim (cases_Bool (met e)) [
      | inl t ↦ let size : e.size ≤ c.args.layer.used = long e (has_at es i d c.loop-entry-test.true) t in absurd (omega (arith, c.if-layer-entry.true))
      | inr f ↦ let wrong : ◌≡◌ {A = ℕ} 0 1 = sym (ap (λ (b : Bool). if b then 1 else 0) f) ∙ bit in absurd (omega arith)
    ]

pub loop-entry-preserved : goal.loop-entry-preserved
loop-entry-preserved c =
    let d : Lunch = record { from_len = 0; size = 0; first = 0; last = 0 } in
    let es = c.args.entries.now in
    let i = c.loop-entry.entry-index in
    record {
      left = λ met is. ap (λ n. n / 2) (c.loop-entry.invariant.left met is ∙ ap (bits_of met) (drop_more es i d c.loop-entry-test.true)) ∙ high_bits met (get_or es i d) (drop (i + 1) es);
    }
