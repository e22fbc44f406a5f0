-- How a rejection is shown. Source: this project's own format.
use Rattle.std.specs.Prelude.{ℕ, List, ◌++◌, codes}
use Rattle.std.specs.Fmt.{decimal}
use Rattle.post_codec.specs.FaultText.{codec_fault_text}
use Rattle.search_core.specs.FaultText.{step_fault_text}
use Rattle.recovery.specs.declared.fault.Why.{Why}
use Rattle.recovery.specs.declared.fault.Why.TheVariants.{Codec, Step}
use Rattle.recovery.specs.declared.fault.RebuildFault.{RebuildFault}
use Rattle.recovery.specs.declared.fault.RebuildFault.TheVariants.{Rejected, NoMemory}

-- `1` and the offset at which bytes depart, or `2`, the post's number and its refusal, separated by spaces
abbrev pub why_text : Why → List ℕ
why_text (Codec fault) = codes "1 " ++ codec_fault_text fault
why_text (Step post fault) = codes "2 " ++ decimal post ++ codes " " ++ step_fault_text fault

-- the number of the record and why it is rejected, separated by a space
abbrev pub rebuild_fault_text : RebuildFault → List ℕ
rebuild_fault_text (Rejected at why) = decimal at ++ codes " " ++ why_text why
rebuild_fault_text NoMemory = codes "no memory"
