use Rattle.std.proofs.Common.{◌≡◌, ◌<◌, ℕ, List, Option, Some, None, IfSome, Err, length, ap}
use Rattle.instance_json.specs.declared.TheConstants.{INSTANCE_MAX}
use Rattle.instance_json.specs.declared.ReadRefusal.TheVariants.{TooLong}
use Rattle.instance_json.specs.Reading.{reading_of}
use Rattle.instance_input.proofs.TooLong.{reads_too_long}
use Rattle.instance_input.proofs.read_instance.Goals as goal

all_too_long : (left : Option (List ℕ)) → IfSome left (λ all. INSTANCE_MAX < length all) → IfSome left (λ all. reading_of all ≡ Err TooLong)
all_too_long None told = tt
all_too_long (Some all) longer = reads_too_long all longer

pub returns-in-Err-TooLong-clause-err : goal.returns-in-Err-TooLong-clause-err
returns-in-Err-TooLong-clause-err g c = (λ same. cc, all_too_long (g.S.Source.left c.args.input.now) (c.in-Err-TooLong.ensures.too_long (ap Err c.in-Err-TooLong.field-0-is)))
