use Rattle.std.proofs.Common.{◌≡◌, ap, length, sym, ◌∙◌}
use Rattle.std.proofs.lemmas.List.Elements.{All-same}
use Rattle.lock_tests.proofs.Lists.{all_at, count_new}
use Rattle.lock_tests.proofs.passes.ended.Goals as goal

pub close-requires-clause-all : goal.close-requires-clause-all
close-requires-clause-all c = ap (λ l. length l) c.requires.seats ∙ count_new _ _ 0 _ ∙ sym c.requires.count

pub close-requires-clause-lock : goal.close-requires-clause-lock
close-requires-clause-lock c = All-same (λ s. s.lock ≡ c.args.lock.name) _ _ c.requires.seats (all_at _ _ 0 _)
