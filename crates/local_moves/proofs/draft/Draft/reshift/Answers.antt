use Rattle.local_moves.proofs.Common.{◌≡◌, ◌<◌, ◌==◌, ◌∙◌, ℕ, List, Some, filter, map, length, get_or, sym, ap, subst, slice_get, no_cause, Duty, lists_of, rota_of, heads_causes, reshifted}
use Rattle.local_moves.proofs.Applied.{now_legal}
use Rattle.local_moves.proofs.Reshifts.{own_at, pair_parts, own_there, reshifted_legal, reshifted_heads, reshifted_all}
use Rattle.local_moves.proofs.draft.Draft.reshift.Goals as goal

pub gone_over-requires-clause-own : goal.gone_over-requires-clause-own
gone_over-requires-clause-own c =
    let s = c.args.from in
    let rows : c.as_slice.result.now ≡ c.args.self.now.rows = c.as_slice.ensures ∙ c.rows.ensures.rows in
    let gone : c.in_ok-gone.gone.items ≡ filter (λ d. d.shift == s) (rota_of c.args.self.now.rows) = c.in_ok-gone.ensures ∙ ap (λ rs. filter (λ d. d.shift == s) (rota_of rs)) rows in
    subst (λ (ds : List Duty). (k : ℕ) (d : Duty) → k < length ds → (get_or ds k d).shift ≡ s) (sym (c.deref.ensures.value ∙ gone)) (own_at s (rota_of c.args.self.now.rows))

pub swap-requires-clause-there : goal.swap-requires-clause-there
swap-requires-clause-there c =
    let s = c.args.from in
    let rows : c.as_slice.result.now ≡ c.args.self.now.rows = c.as_slice.ensures ∙ c.rows.ensures.rows in
    let gone : c.in_ok-gone.gone.items ≡ filter (λ d. d.shift == s) (rota_of c.args.self.now.rows) = c.in_ok-gone.ensures ∙ ap (λ rs. filter (λ d. d.shift == s) (rota_of rs)) rows in
    own_there s (rota_of c.args.self.now.rows) c.in_ok-gone.gone.items gone

pub swap-requires-clause-legal : goal.swap-requires-clause-legal
swap-requires-clause-legal c =
    let i = c.args.instance.now in
    let s = c.args.from in
    let rota = rota_of c.args.self.now.rows in
    let rows : c.as_slice.result.now ≡ c.args.self.now.rows = c.as_slice.ensures ∙ c.rows.ensures.rows in
    let gone : c.in_ok-gone.gone.items ≡ filter (λ d. d.shift == s) rota = c.in_ok-gone.ensures ∙ ap (λ rs. filter (λ d. d.shift == s) (rota_of rs)) rows in
    let made : c.in_ok-made.made.items ≡ map (reshifted i s c.args.to) c.in_ok-gone.gone.items = c.in_ok-made.ensures ∙ ap (map (reshifted i s c.args.to)) c.deref.ensures.value in
    let p = pair_parts i s c.args.to (sym c.in_default.ensures) in
    let first : slice_get (lists_of i c.args.to) 0 ≡ Some c.in-Some-2.least = sym c.in_ok-least.ensures ∙ c.in-Some-2.is in
    let legal = now_legal c.args.self.now i c.requires.instance c.allocator-alloc.ensures.legal in
    reshifted_legal i s c.args.to rota c.in_ok-gone.gone.items c.in_ok-made.made.items c.in-Some-2.least p.from_known p.to_known p.kinds first legal gone made

pub swap-requires-clause-heads : goal.swap-requires-clause-heads
swap-requires-clause-heads c =
    let i = c.args.instance.now in
    let s = c.args.from in
    let rota = rota_of c.args.self.now.rows in
    let rows : c.as_slice.result.now ≡ c.args.self.now.rows = c.as_slice.ensures ∙ c.rows.ensures.rows in
    let gone : c.in_ok-gone.gone.items ≡ filter (λ d. d.shift == s) rota = c.in_ok-gone.ensures ∙ ap (λ rs. filter (λ d. d.shift == s) (rota_of rs)) rows in
    let made : c.in_ok-made.made.items ≡ map (reshifted i s c.args.to) c.in_ok-gone.gone.items = c.in_ok-made.ensures ∙ ap (map (reshifted i s c.args.to)) c.deref.ensures.value in
    let n = no_cause (heads_causes i rota s c.args.to) (sym c.in_default-judge_heads.ensures) in
    let legal = now_legal c.args.self.now i c.requires.instance c.allocator-alloc.ensures.legal in
    reshifted_heads i s c.args.to rota c.in_ok-gone.gone.items c.in_ok-made.made.items legal n.1.0 gone made

pub returns-clause-moved : goal.returns-clause-moved
returns-clause-moved c =
    let i = c.args.instance.now in
    let s = c.args.from in
    let rota = rota_of c.args.self.now.rows in
    let rows : c.as_slice.result.now ≡ c.args.self.now.rows = c.as_slice.ensures ∙ c.rows.ensures.rows in
    let gone : c.in_ok-gone.gone.items ≡ filter (λ d. d.shift == s) rota = c.in_ok-gone.ensures ∙ ap (λ rs. filter (λ d. d.shift == s) (rota_of rs)) rows in
    let made : c.in_ok-made.made.items ≡ map (reshifted i s c.args.to) c.in_ok-gone.gone.items = c.in_ok-made.ensures ∙ ap (map (reshifted i s c.args.to)) c.deref.ensures.value in
    reshifted_all i s c.args.to rota c.in_ok-gone.gone.items c.in_ok-made.made.items (rota_of c.swap.new.self.rows) gone made c.in_ok-done.ensures.duties
