use Rattle.certificate.proofs.Common.{◌≡◌, ◌++◌, take, string_bytes, map, All, proof_line, lines_text, FitsLine}
use Rattle.certificate.proofs.proof_writing.add_lines.Given as goal

abbrev pub invariant-loop-line : goal.invariant-loop-line
invariant-loop-line l = record {
  added : string_bytes l.text ≡ string_bytes l.fn.text ++ lines_text (map proof_line (take l.line-index l.lines));
  fits : All FitsLine (take l.line-index l.lines);
}
