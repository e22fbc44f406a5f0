use Rattle.head_splits.proofs.ByClasses.{settled_by_classes}
use Rattle.head_splits.proofs.laws.settled_by_classes.Goals as goal

pub returns : goal.returns
returns c = settled_by_classes
