use Rattle.instance_json.proofs.Sizes.{canonical_length}
use Rattle.instance_json.proofs.laws.canonical_text_is_short.Goals as goal

pub returns : goal.returns
returns c = record { short = canonical_length c.args.instance.now c.parts-parts.ensures.valid }
