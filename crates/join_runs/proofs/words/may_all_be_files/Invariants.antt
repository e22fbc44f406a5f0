use Rattle.join_runs.proofs.Common.{◌≡◌, map, drop, string_bytes, list_all, is_file}
use Rattle.join_runs.proofs.words.may_all_be_files.Given as goal

abbrev pub invariant-loop-word : goal.invariant-loop-word
invariant-loop-word l = list_all is_file (map string_bytes l.words) ≡ list_all is_file (map string_bytes (drop l.word-index l.words))
