use Rattle.instance_json.proofs.Common.{◌≡◌, Some, None, sym, ap, ◌∙◌, option_map, Err, arith, option_map_or, view, NotJson, reading_of, value_reading, value_of}
use Rattle.instance_json.proofs.Readings.{reading_of-long, reading_of-short}
use Rattle.instance_json.proofs.reading.read.Goals as goal

pub returns-then-bytes-gt-INSTANCE_MAX : goal.returns-then-bytes-gt-INSTANCE_MAX
returns-then-bytes-gt-INSTANCE_MAX c = reading_of-long c.args.bytes.now (omega arith)

pub returns-in-Some : goal.returns-in-Some
returns-in-Some c =
    let found : Some (view c.in-Some.value) ≡ value_of c.args.bytes.now = ap (option_map view) (sym c.in-Some.is) ∙ c.in_ok-value.ensures in
    let reads : reading_of c.args.bytes.now ≡ value_reading (view c.in-Some.value) =
    reading_of-short c.args.bytes.now (omega arith) ∙ ap (λ o. option_map_or value_reading o (Err NotJson)) (sym found) in
    rw reads c.instance_of.ensures

pub returns-in-None : goal.returns-in-None
returns-in-None c =
    let found : None ≡ value_of c.args.bytes.now = ap (option_map view) (sym c.in-None.is) ∙ c.in_ok-value.ensures in
    reading_of-short c.args.bytes.now (omega arith) ∙ ap (λ o. option_map_or value_reading o (Err NotJson)) (sym found)
