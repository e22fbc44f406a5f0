-- How the faults of bytes are shown.
use Rattle.std.specs.Prelude.{ℕ, List, codes}
use Rattle.std.specs.Fmt.{decimal}
use Rattle.post_codec.specs.declared.fault.CodecFault.{CodecFault}
use Rattle.post_codec.specs.declared.fault.CodecFault.TheVariants.{Departs, NoMemory}

-- the offset alone
abbrev pub codec_fault_text : CodecFault → List ℕ
codec_fault_text (Departs at) = decimal at
codec_fault_text NoMemory = codes "no memory"
