use Rattle.local_moves.proofs.Common.{◌≡◌, ℕ, ◌+◌, ◌*◌, ◌<◌, length, get_or, take, shift_list, heads_on, rota_of}
use Rattle.local_moves.proofs.draft.count_rows.Given as goal

abbrev pub invariant-loop-row : goal.invariant-loop-row
invariant-loop-row l = record {
  instance : l.cover.instance ≡ l.instance;
  duties : l.cover.duties ≡ rota_of (take l.row-index l.rows);
  headed : (s day : ℕ) → s < length (shift_list l.instance) → day < l.instance.days → get_or l.heads (s * l.instance.days + day) 0 ≡ heads_on (rota_of (take l.row-index l.rows)) s day;
}
