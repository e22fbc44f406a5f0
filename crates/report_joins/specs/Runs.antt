-- The run by which a part goes on, as it is read from the part's lines.
use Rattle.std.specs.Prelude.{◌≡◌, ◌+◌, ◌<◌, ⊤, ℕ, IsTrue, List, [], ◌∷◌, ◌++◌, length, map, slice_get, Some}
use Rattle.certificate.specs.declared.Cert.{Cert}
use Rattle.certificate.specs.declared.proof_lines.Line.{Line}
use Rattle.certificate.specs.Accepted.{is_accepted, nodes_after}
use Rattle.head_splits.specs.Nodes.{Node}
use Rattle.shift_instance.specs.Problem.{Problem}
use Rattle.report_grafts.specs.Grafted.{grafted_line, grafted_lines}
use Rattle.report_joins.specs.Faults.{Departs, IsElsewhere, IsEnd}
use Rattle.report_joins.specs.declared.fault.PartFault.{PartFault}
use Rattle.report_joins.specs.declared.fault.PartFault.TheVariants.{Refused, OtherLines, NothingFurther, NoEnd, OtherNode, OtherPlan, SameNode, TooMany, NoMemory}

-- lines are others and those of a run at one of the unsplit nodes that the others make
pub record IsRunOf (ends : List Node) (known all : List Line) (node : ℕ) (run : List Line) : Type 0 where
  pub end : IsEnd ends node
  pub some : 0 < length run
  pub lines : all ≡ grafted_lines known node run

-- what a run makes of a node alone
pub record MakesBelow (i : Problem) (ends : List Node) (node : ℕ) (run : List Line) (below : List Node) : Type 0 where
  pub top : Node
  pub at : slice_get ends node ≡ Some top
  pub made : nodes_after i (top ∷ []) run ≡ Some below

-- a part that is accepted, its run, and what that makes of its node alone
pub record IsReadPart (i : Problem) (ends : List Node) (whole part : Cert) (node : ℕ) (own : List Line) (made : List Node) : Type 0 where
  pub accepted : IsTrue (is_accepted i part)
  pub run : IsRunOf ends whole.lines part.lines node own
  pub below : MakesBelow i ends node own made

-- the first place of some lines at which others differ from them; or memory ran out
abbrev pub IsDeparture : List Line → List Line → PartFault → Type 0
IsDeparture known lines (OtherLines at) = Departs known lines at
IsDeparture known lines NoMemory = ⊤
IsDeparture known lines (Refused why) = ⊥
IsDeparture known lines NothingFurther = ⊥
IsDeparture known lines (NoEnd node) = ⊥
IsDeparture known lines (OtherNode at) = ⊥
IsDeparture known lines OtherPlan = ⊥
IsDeparture known lines (SameNode node) = ⊥
IsDeparture known lines TooMany = ⊥

-- lines are those of a run at a node after so many splits, and then one that is none of a node below it
pub record LeavesRun (node splits first : ℕ) (all : List Line) (place : ℕ) : Type 0 where
  pub run : List Line
  pub line : Line
  pub rest : List Line
  pub some : 0 < length run
  pub lines : all ≡ map (grafted_line node splits) run ++ line ∷ rest
  pub at : place ≡ first + length run
  pub elsewhere : IsElsewhere node splits line

-- that is why lines aren't those of a run; or memory ran out
abbrev pub IsLeft : ℕ → ℕ → ℕ → List Line → PartFault → Type 0
IsLeft node splits first lines (OtherNode at) = LeavesRun node splits first lines at
IsLeft node splits first lines NoMemory = ⊤
IsLeft node splits first lines (Refused why) = ⊥
IsLeft node splits first lines (OtherLines at) = ⊥
IsLeft node splits first lines NothingFurther = ⊥
IsLeft node splits first lines (NoEnd k) = ⊥
IsLeft node splits first lines OtherPlan = ⊥
IsLeft node splits first lines (SameNode k) = ⊥
IsLeft node splits first lines TooMany = ⊥
