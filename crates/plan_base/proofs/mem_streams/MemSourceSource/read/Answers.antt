use Rattle.plan_base.proofs.Common.{ℕ, List, ap, subst, sym, ◌∙◌, ReadsAt, MemSourceView}
use Rattle.plan_base.proofs.Taking.{read_on}
use Rattle.plan_base.proofs.mem_streams.MemSourceSource.read.Goals as goal

pub returns-clause-bytes : goal.returns-clause-bytes
returns-clause-bytes c =
    let s = c.self.inside in
    let count = c.copy_from-count.result in
    let buffer = c.copy_from-count.new.into in
    let read : ReadsAt s.bytes.items s.at buffer count = subst (λ (file : List ℕ). ReadsAt file s.at buffer count) c.deref-2.ensures.value c.copy_from-count.ensures.bytes in
    let on = read_on s.bytes.items s.at count buffer read in
    (ap (λ (v : MemSourceView). v.left) (sym c.self.view_is) ∙ on.0, on.1)
