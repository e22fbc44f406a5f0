use Rattle.rota_cost.proofs.Common.{◌≡◌, ◌++◌, replicate}
use Rattle.rota_cost.proofs.cover.Cover.add_often.Given as goal

abbrev pub invariant-loop : goal.invariant-loop
invariant-loop l = record {
  instance : l.self.instance ≡ l.fn.self.instance;
  duties : l.self.duties ≡ l.fn.self.duties ++ replicate l.counter l.duty;
}
