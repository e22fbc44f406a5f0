use Rattle.post_codec.proofs.Common.{◌≡◌, ◌++◌, length, take, All, flat_map, u32_bytes, row_bytes, FitsRow}
use Rattle.post_codec.proofs.writing.put_rows.Given as goal

abbrev pub invariant-loop-item : goal.invariant-loop-item
invariant-loop-item l = record {
  put : l.out.items ≡ l.fn.out.items ++ u32_bytes (length l.list) ++ flat_map row_bytes (take l.item-index l.list);
  fits : All FitsRow (take l.item-index l.list);
}
