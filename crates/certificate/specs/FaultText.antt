-- How the faults of a text are shown.
use Rattle.std.specs.Prelude.{ℕ, List, codes}
use Rattle.std.specs.Fmt.{decimal}
use Rattle.certificate.specs.declared.fault.CertText.{CertText}
use Rattle.certificate.specs.declared.fault.CertText.TheVariants.{Departs, NoMemory}

-- the number of the line alone
abbrev pub cert_fault_text : CertText → List ℕ
cert_fault_text (Departs line) = decimal line
cert_fault_text NoMemory = codes "no memory"
