-- What a sound run shows of the legal rotas that meet its cuts.
use Rattle.report_grafts.proofs.Common.{◌≡◌, ◌≤◌, true, List, [], ◌∷◌, arith, eqb-true, Duty, cost, is_legal_rota, meets, new_node, root_sound, floor_at, Run, IsSound, floor_up_to, top, is_finished}
use Rattle.report_grafts.proofs.Lines.{lines_sound}

-- each legal rota that meets the run's cuts costs at least the floor
pub floor_enough : (r : Run) → IsSound r → (rota : List Duty) → is_legal_rota r.instance rota ≡ true → meets rota r.base ≡ true → r.floor ≤ cost r.instance rota
floor_enough r s rota legal below =
    let sound = lines_sound r.instance r.base (new_node r.base ∷ []) s.nodes r.lines (root_sound r.instance r.base) s.good in
    let n = sound.covered rota legal below in
    let least : floor_up_to (top r) s.nodes ≤ n.0.floor = floor_at (top r) s.nodes n.0 n.1 n.2 in
    let costs : n.0.floor ≤ cost r.instance rota = sound.floors n.0 n.1 rota legal n.3 in
    let is : r.floor ≡ floor_up_to (top r) s.nodes = s.floor in
    omega (arith, least, costs, is)

-- where no node is open, it costs at least the top
pub finished_enough : (r : Run) → IsSound r → is_finished r ≡ true → (rota : List Duty) → is_legal_rota r.instance rota ≡ true → meets rota r.base ≡ true → top r ≤ cost r.instance rota
finished_enough r s done rota legal below =
    let low : r.floor ≤ cost r.instance rota = floor_enough r s rota legal below in
    let same : r.floor ≡ top r = eqb-true r.floor (top r) done in
    omega (arith, low, same)
