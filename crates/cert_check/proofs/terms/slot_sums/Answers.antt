use Rattle.cert_check.proofs.Common.{◌≡◌, ℤ, List, refl, sym, ◌∙◌, Problem, Priced}
use Rattle.std.proofs.lemmas.Bool.Decides.{Decides-int_eq}
use Rattle.std.proofs.lemmas.Slice.Eq.{slice_eq-Decides}
use Rattle.cert_check.proofs.terms.slot_sums.Goals as goal

same_priced : (s : Priced) (i : Problem) (prices : List ℤ) → s.instance ≡ i → s.prices ≡ prices → s ≡ record { instance = i; prices = prices }
same_priced s i prices e f = rw (← e, ← f) refl

pub returns-then-eq : goal.returns-then-eq
returns-then-eq c =
    let same = sym c.as_slice.ensures.value ∙ (slice_eq-Decides Decides-int_eq _ _ _ c.eq.ensures).0 c.if-eq.true in
    same_priced c.in-Some.kept.sums c.args.instance.now c.args.prices.now (rw c.in-Some.is at c.requires.kept) (c.in-Some.kept.same ∙ same)
