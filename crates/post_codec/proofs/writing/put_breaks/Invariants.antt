use Rattle.post_codec.proofs.Common.{◌≡◌, ◌++◌, ◌∷◌, [], length, take, All, flat_map, break_bytes, FitsBreak}
use Rattle.post_codec.proofs.writing.put_breaks.Given as goal

abbrev pub invariant-loop-item : goal.invariant-loop-item
invariant-loop-item l = record {
  put : l.out.items ≡ l.fn.out.items ++ (length l.list ∷ []) ++ flat_map break_bytes (take l.item-index l.list);
  fits : All FitsBreak (take l.item-index l.list);
}
