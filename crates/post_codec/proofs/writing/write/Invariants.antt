use Rattle.post_codec.proofs.Common.{◌≡◌, ◌++◌, length, take, All, flat_map, Five, u16_bytes, post_bytes, FitsPost}
use Rattle.post_codec.proofs.writing.write.Given as goal

abbrev pub invariant-loop-item : goal.invariant-loop-item
invariant-loop-item l = record {
  put : l.out.items ≡ u16_bytes (length l.posts) ++ flat_map (post_bytes Five) (take l.item-index l.posts);
  fits : All (FitsPost Five) (take l.item-index l.posts);
}
