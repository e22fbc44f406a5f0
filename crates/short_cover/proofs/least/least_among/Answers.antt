use Rattle.short_cover.proofs.Common.{◌≡◌, ℕ, ◌+◌, ◌<◌, ◌≤◌, Option, Some, cond, nat_le, subst, sym, ap, ◌∙◌, option_map_or, Problem, need_at, cover, LeastCover}
use Rattle.short_cover.proofs.LeastSteps.{IsLeastSoFar, least_unwanted, least_wanted}
use Rattle.short_cover.proofs.least.least_among.Goals as goal
use Rattle.short_cover.proofs.least.least_among.Goals.{then-wanted-gt0, else-wanted-gt0}

pub loop-k-preserved : goal.loop-k-preserved
loop-k-preserved c =
    let i = c.args.instance.now in
    let rota = c.args.attendance.now.duties in
    let first = c.args.first in
    let k = c.loop-k.k in
    let found = c.loop-k.least in
    let need : c.need-wanted.result ≡ need_at i (first + k) = c.need-wanted.ensures.need in
    let working : c.working-working.result ≡ cover i rota (first + k) = c.working-working.ensures ∙ ap (λ (p : Problem). cover p rota (first + k)) c.requires.instance in
    elim c.if-wanted-gt0.branch [
      | then-wanted-gt0 w ↦
          let other : ℕ → ℕ → LeastCover = λ n m. record { slot = first + k; wanted = n; working = m } in
          let least : ℕ → ℕ → LeastCover = λ n m. option_map_or (λ known. cond (nat_le known.working m) known (other n m)) found (other n m) in
          let is : c.if-wanted-gt0.least ≡ Some (least (need_at i (first + k)) (cover i rota (first + k))) =
          w.least-is
          ∙ ap (λ (x : LeastCover). Some x)
          (w.lesser.ensures ∙ ap (λ (n : ℕ). least n c.working-working.result) need ∙ ap (λ (m : ℕ). least (need_at i (first + k)) m) working) in
          subst (λ (o : Option LeastCover). IsLeastSoFar i rota first (k + 1) o) (sym is)
          (least_wanted i rota first k found (subst (λ (n : ℕ). 0 < n) need w.if-wanted-gt0.true) c.loop-k.invariant)
      | else-wanted-gt0 w ↦
          subst (λ (o : Option LeastCover). IsLeastSoFar i rota first (k + 1) o) (sym w.least-is)
          (least_unwanted i rota first k found (subst (λ (n : ℕ). n ≤ 0) need w.if-wanted-gt0.false) c.loop-k.invariant)
    ]
