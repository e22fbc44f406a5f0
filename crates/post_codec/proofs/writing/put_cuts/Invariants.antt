use Rattle.post_codec.proofs.Common.{◌≡◌, ◌++◌, length, take, flat_map, Five, u32_bytes, price_bytes}
use Rattle.post_codec.proofs.writing.put_cuts.Given as goal

abbrev pub invariant-loop-item : goal.invariant-loop-item
invariant-loop-item l = l.out.items ≡ l.fn.out.items ++ u32_bytes (length l.list) ++ flat_map (price_bytes Five) (take l.item-index l.list)
