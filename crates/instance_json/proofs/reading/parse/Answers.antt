use Rattle.instance_json.proofs.Common.{◌≡◌, None, sym, ap, ◌∙◌, read}
use Rattle.instance_json.proofs.Readings.{value_of-other, value_of-text}
use Rattle.instance_json.proofs.reading.parse.Goals as goal

pub returns-in_default : goal.returns-in_default
returns-in_default c = sym (value_of-other c.args.bytes.now c.in_default.ensures.cases.0)

pub returns-in-Ok-from_str : goal.returns-in-Ok-from_str
returns-in-Ok-from_str c =
    let cases = c.in-Ok.ensures.cases in
    sym (value_of-text c.args.bytes.now cases.1 ∙ ap read (sym cases.0) ∙ c.in-Ok-from_str.ensures.ok)

pub returns-in-Err-2 : goal.returns-in-Err-2
returns-in-Err-2 c =
    let cases = c.in-Ok.ensures.cases in
    let refused : read c.in-Ok.text.now ≡ None = c.in-Err.ensures.err (λ m. cc (c.if-is_memory.ensures.1 m)) in
    sym (value_of-text c.args.bytes.now cases.1 ∙ ap read (sym cases.0) ∙ refused)
