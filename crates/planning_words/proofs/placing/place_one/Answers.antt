use Rattle.std.proofs.Common.{◌∙◌}
use Rattle.planning_words.proofs.Going.{placed_one}
use Rattle.planning_words.proofs.placing.place_one.Goals as goal

pub returns-in_err-place-clause-goes : goal.returns-in_err-place-clause-goes
returns-in_err-place-clause-goes g c =
    placed_one (g.F.Folder.holds c.args.folder.now) (g.F.Folder.holds c.has_new.new.self) (g.F.Folder.holds c.keep.new.self) (g.F.Folder.holds c.place.new.self)
    (g.F.Folder.passed c.args.folder.now) (g.F.Folder.passed c.has_new.new.self) (g.F.Folder.passed c.keep.new.self) (g.F.Folder.passed c.place.new.self) c.args.file
    c.has_new.ensures.goes (λ h now. c.in_ok-has_new.ensures.found h now ∙ c.if-branch.true) c.keep.ensures.goes c.place.ensures.goes
