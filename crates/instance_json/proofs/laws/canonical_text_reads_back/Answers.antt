use Rattle.instance_json.proofs.Restored.{canonical_read}
use Rattle.instance_json.proofs.laws.canonical_text_reads_back.Goals as goal

pub returns : goal.returns
returns c = record { reads_back = canonical_read c.args.instance.now c.parts-parts.ensures.valid c.parts-parts.ensures.faultless }
