-- What a refusal shows that isn't running out of memory.
use Rattle.std.proofs.Common.{◌≡◌, refl}
use Rattle.std.specs.Prelude.{IsFalse, Some}
use Rattle.shift_instance.specs.Problem.{Problem}
use Rattle.certificate.specs.declared.Cert.{Cert}
use Rattle.certificate.specs.Accepted.{is_accepted}
use Rattle.cert_check.specs.declared.judged.Refused.{Refused}
use Rattle.cert_check.specs.declared.judged.Refused.TheVariants.{BadSplit, BadPrice, NotSettled, BoundTooHigh, BadPlan, WrongCost, NoMemory}
use Rattle.cert_check.specs.Judged.{cause_of, IsRefused}
use Rattle.check_runs.specs.Verdict.{IsCause}

-- both facts of a refusal
both : (i : Problem) (c : Cert) (why : Refused) → IsRefused i c why → IsCause why → (cause_of i c ≡ Some why) × IsFalse (is_accepted i c)
both i c (BadSplit line) refused cause = refused
both i c (BadPrice line) refused cause = refused
both i c (NotSettled line) refused cause = refused
both i c (BoundTooHigh claimed found) refused cause = refused
both i c (BadPlan row) refused cause = refused
both i c (WrongCost claimed found) refused cause = refused
both i c NoMemory refused cause = absurd (cause refl)

-- it is the first cause
pub is_cause : (i : Problem) (c : Cert) (why : Refused) → IsRefused i c why → IsCause why → cause_of i c ≡ Some why
is_cause i c why refused cause = (both i c why refused cause).0

-- and the certificate isn't accepted
pub not_accepted : (i : Problem) (c : Cert) (why : Refused) → IsRefused i c why → IsCause why → IsFalse (is_accepted i c)
not_accepted i c why refused cause = (both i c why refused cause).1
