use Rattle.std.proofs.Common.{rules, ℕ, arith, ap, subst, ◌∙◌}
use Rattle.crossbeam_utils.specs.Seq.{cell_view}
use Rattle.best_cell.specs.Told.{Follows, last_of}
use Rattle.best_cell.proofs.Moves.{last_told, later_as, longer, reads_as}
use Rattle.best_cell.proofs.cell.Reader.read.Goals as goal

pub load_as-requires : goal.load_as-requires
load_as-requires g c = (search rules, (search rules, (search rules, reads_as g.W.Telling.tells _ _ _ c.self.invariant.1)))

pub returns-clause-follows : goal.returns-clause-follows
returns-clause-follows g c =
    let i = c.self.invariant in
    let r = c.load_as.ensures.rule in
    let f = later_as _ _ r.1 i.3 r.2 in
    let found = r.3 (longer _ _ r.1 i.3) in
    let old = ap last_of c.self.view_is in
    let f₀ = f.0 in let f₁ = f.1 in
    (omega (arith, f₀, ap (λ p. p.0) found, ap (λ p. p.0) old), omega (arith, f₁, ap (λ p. p.1) found, ap (λ p. p.1) old))

pub returns-clause-tells : goal.returns-clause-tells
returns-clause-tells g c =
    let i = c.self.invariant in
    let r = c.load_as.ensures.rule in
    let full = longer _ _ r.1 i.3 in
    subst (λ (p : ℕ × ℕ). g.W.Telling.tells p.0 p.1) (r.3 full) (last_told g.W.Telling.tells _ full r.4)
