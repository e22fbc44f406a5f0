use Rattle.break_rules.proofs.Common.{◌≡◌, Bool, drop, ◌||◌, nat_lt, list_all, Lunch, bits_of}
use Rattle.break_rules.proofs.walking.all_lunched.Given as goal

abbrev pub invariant-loop-entry : goal.invariant-loop-entry
invariant-loop-entry l = record {
  rest : (met : Lunch → Bool) → l.bits ≡ bits_of met l.entries → l.rest ≡ bits_of met (drop l.entry-index l.entries);
  all : (met : Lunch → Bool) → l.bits ≡ bits_of met l.entries → list_all (λ e. nat_lt l.len e.from_len || met e) l.entries ≡ list_all (λ e. nat_lt l.len e.from_len || met e) (drop l.entry-index l.entries);
}
