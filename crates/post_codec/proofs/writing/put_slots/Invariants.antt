use Rattle.post_codec.proofs.Common.{◌≡◌, ◌++◌, length, take, flat_map, Five, u32_bytes, slot_bytes}
use Rattle.post_codec.proofs.writing.put_slots.Given as goal

abbrev pub invariant-loop-item : goal.invariant-loop-item
invariant-loop-item l = l.out.items ≡ l.fn.out.items ++ u32_bytes (length l.list) ++ flat_map (slot_bytes Five) (take l.item-index l.list)
