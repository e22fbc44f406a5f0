use Rattle.local_moves.proofs.Common.{◌≡◌, ◌∙◌, ◌+◌, ◌≤◌, ℕ, List, sym, subst, rules, Sorted, Duty, Row, count_of, heads_on, rota_of, IsExchanged, IsBefore}
use Rattle.local_moves.proofs.Balance.{made_changes}
use Rattle.local_moves.proofs.OwnRows.{legal_sorted}
use Rattle.local_moves.proofs.draft.Draft.swap.Goals as goal

pub places-requires : goal.places-requires
places-requires c =
    let e : c.as_slice.result.now ≡ c.args.self.now.rows = c.as_slice.ensures ∙ c.rows.ensures.rows in
    record { order = subst (λ (rs : List Row). Sorted IsBefore rs) (sym e) (legal_sorted c.args.self.now.instance c.args.self.now.rows c.rows.ensures.legal) }

pub exchange-requires-clause-there : goal.exchange-requires-clause-there
exchange-requires-clause-there c = λ d. subst (λ (ds : List Duty). count_of ds d ≤ count_of (rota_of c.args.self.now.rows) d) (sym c.deref-4.ensures.value) (c.requires.there d)

pub exchange-requires-clause-heads : goal.exchange-requires-clause-heads
exchange-requires-clause-heads c = λ s day.
    let rota = rota_of c.args.self.now.rows in
    let e : c.in_ok-added.added.items ≡ c.args.made.items = c.in_ok-added.ensures ∙ c.deref-3.ensures.value in
    subst (λ (ds : List Duty). heads_on rota s day + heads_on ds s day ≤ c.args.instance.now.heads + heads_on c.deref-4.result.now s day) (sym e)
    (subst (λ (ds : List Duty). heads_on rota s day + heads_on c.args.made.items s day ≤ c.args.instance.now.heads + heads_on ds s day) (sym c.deref-4.ensures.value) (c.requires.heads s day))

pub complete-requires : goal.complete-requires
complete-requires c =
    let e : c.as_slice-in-Ok.result.now ≡ c.exchange.new.self.rows = c.as_slice-in-Ok.ensures ∙ c.rows-in-Ok.ensures.rows in
    record { order = subst (λ (rs : List Row). Sorted IsBefore rs) (sym e) (legal_sorted c.exchange.new.self.instance c.exchange.new.self.rows c.rows-in-Ok.ensures.legal) }

pub invariant_of-result : goal.invariant_of-result
invariant_of-result c =
    let before = c.args.self.now.rows in
    let after = c.exchange.new.self.rows in
    let gone = c.args.gone.items in
    let made = c.args.made.items in
    let from : c.as_slice.result.now ≡ before = c.as_slice.ensures ∙ c.rows.ensures.rows in
    let to : c.as_slice-in-Ok.result.now ≡ after = c.as_slice-in-Ok.ensures ∙ c.rows-in-Ok.ensures.rows in
    let swapped : IsExchanged (rota_of before) c.deref-4.result.now c.in_ok-added.added.items (rota_of after) = c.in-Ok.ensures.duties in
    (made_changes before c.as_slice.result.now after c.as_slice-in-Ok.result.now gone c.deref.result.now c.deref-4.result.now made c.deref-2.result.now c.in_ok-added.added.items
    c.in_ok-changes.changes.items c.deref_mut.result.now c.complete.new.changes from to c.deref.ensures.value c.deref-4.ensures.value c.deref-2.ensures.value (c.in_ok-added.ensures ∙ c.deref-3.ensures.value)
    swapped c.requires.there c.in_ok-changes.ensures c.deref_mut.ensures.value c.complete.ensures c.in_ok-changes.changes.len (search rules)).tied

pub returns-in-Ok-clause-done : goal.returns-in-Ok-clause-done
returns-in-Ok-clause-done c =
    let before = c.args.self.now.rows in
    let after = c.exchange.new.self.rows in
    let gone = c.args.gone.items in
    let made = c.args.made.items in
    let from : c.as_slice.result.now ≡ before = c.as_slice.ensures ∙ c.rows.ensures.rows in
    let to : c.as_slice-in-Ok.result.now ≡ after = c.as_slice-in-Ok.ensures ∙ c.rows-in-Ok.ensures.rows in
    let swapped : IsExchanged (rota_of before) c.deref-4.result.now c.in_ok-added.added.items (rota_of after) = c.in-Ok.ensures.duties in
    (made_changes before c.as_slice.result.now after c.as_slice-in-Ok.result.now gone c.deref.result.now c.deref-4.result.now made c.deref-2.result.now c.in_ok-added.added.items
    c.in_ok-changes.changes.items c.deref_mut.result.now c.complete.new.changes from to c.deref.ensures.value c.deref-4.ensures.value c.deref-2.ensures.value (c.in_ok-added.ensures ∙ c.deref-3.ensures.value)
    swapped c.requires.there c.in_ok-changes.ensures c.deref_mut.ensures.value c.complete.ensures c.in_ok-changes.changes.len (search rules)).done
