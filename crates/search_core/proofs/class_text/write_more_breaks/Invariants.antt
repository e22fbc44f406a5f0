use Rattle.search_core.proofs.Common.{take}
use Rattle.std.specs.Fmt.{HasWritten, IsPlainFormatter}
use Rattle.search_core.specs.FaultText.{more_breaks_text}
use Rattle.search_core.proofs.class_text.write_more_breaks.Given as goal

abbrev pub invariant-loop-next : goal.invariant-loop-next
invariant-loop-next g l =
    IsPlainFormatter l.initial.f → HasWritten g.W.Write.write_str_gives l.initial.f (more_breaks_text (take l.next-index l.breaks)) l.f
