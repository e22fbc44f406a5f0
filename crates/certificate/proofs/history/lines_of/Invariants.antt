use Rattle.certificate.proofs.Common.{◌≡◌, ◌≤◌, take, length, string_bytes, map, All, lines_of, lines_text, proof_line, FitsLine}
use Rattle.certificate.proofs.history.lines_of.Given as goal

abbrev pub invariant-loop-post : goal.invariant-loop-post
invariant-loop-post l = record {
  added : string_bytes l.text ≡ lines_text (map proof_line (lines_of (take l.post-index l.posts)));
  fits : All FitsLine (lines_of (take l.post-index l.posts));
  counted : l.count ≡ length (lines_of (take l.post-index l.posts));
  few : l.count ≤ l.post-index;
}
