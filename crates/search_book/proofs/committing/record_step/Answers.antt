use Rattle.search_book.proofs.Common.{◌≡◌, List, ℕ, true, not, ap, sym, ◌∙◌, subst, arith, refl, eqb-true, Problem, Book, is_node_and, Drafts, Makes, cuts_in, after_step, Fits, StepFails}
use Rattle.search_book.proofs.Committed.{some_there, step_allowed, step_fails, step_idle, step_recorded}
use Rattle.search_book.proofs.committing.record_step.Goals as goal

pub draft-requires-clause-fits : goal.draft-requires-clause-fits
draft-requires-clause-fits g c = subst (λ (i : Problem). Fits i c.args.step) (sym c.state-2.ensures.instance) c.requires.fits

pub draft-requires-clause-cuts : goal.draft-requires-clause-cuts
draft-requires-clause-cuts g c = subst (λ (x : Book). c.args.step.proved.cuts ≡ cuts_in x.nodes c.args.step.node) (sym c.state-2.ensures.book) c.requires.cuts

pub draft-requires-clause-unsplit : goal.draft-requires-clause-unsplit
draft-requires-clause-unsplit g c = subst (λ (x : Book). is_node_and x c.args.step.node (λ n. not n.split) ≡ true) (sym c.state-2.ensures.book) c.requires.unsplit

pub returns-then-is_empty-clause-ok : goal.returns-then-is_empty-clause-ok
returns-then-is_empty-clause-ok g c =
    let old = c.args.log.now in
    let step = c.args.step in
    let told = c.state-2.result.now in
    let drafts : Drafts old.instance old.book c.args.worker step c.in-Ok.draft =
    subst (λ (i : Problem). Drafts i old.book c.args.worker step c.in-Ok.draft) c.state-2.ensures.instance
    (subst (λ (x : Book). Drafts told.instance x c.args.worker step c.in-Ok.draft) c.state-2.ensures.book c.in-Ok.ensures) in
    let empty = eqb-true _ 0 (sym c.is_empty.ensures ∙ c.if-is_empty.true) in
    step_idle g.D.Disk.calls old c.args.worker step c.in-Ok.draft _ drafts (omega (arith, empty, c.in-Ok.draft.posts.ok)) refl
    (c.is_cheaper-plan.ensures old.book (ap (λ (x : Book). x.cost) (sym c.state.ensures.book) ∙ sym c.cost.ensures.cost)) refl refl

pub commit-requires-clause-some : goal.commit-requires-clause-some
commit-requires-clause-some g c =
    let some = some_there _ (sym c.is_empty.ensures ∙ c.if-is_empty.false) in
    omega (arith, some, c.in-Ok.draft.posts.ok)

pub commit-requires-clause-few : goal.commit-requires-clause-few
commit-requires-clause-few g c = omega (arith, c.in-Ok.ensures.few)

pub commit-requires-clause-makes : goal.commit-requires-clause-makes
commit-requires-clause-makes g c =
    let old = c.args.log.now in
    let step = c.args.step in
    let told = c.state-2.result.now in
    let drafts : Drafts old.instance old.book c.args.worker step c.in-Ok.draft =
    subst (λ (i : Problem). Drafts i old.book c.args.worker step c.in-Ok.draft) c.state-2.ensures.instance
    (subst (λ (x : Book). Drafts told.instance x c.args.worker step c.in-Ok.draft) c.state-2.ensures.book c.in-Ok.ensures) in
    (after_step old.instance old.book c.args.worker step, subst (λ (ns : List ℕ). Makes old.instance old.book c.in-Ok.draft.posts.items ns (after_step old.instance old.book c.args.worker step)) (sym c.deref.ensures.value) drafts.makes)

pub returns-in-Ok-commit-clause-ok : goal.returns-in-Ok-commit-clause-ok
returns-in-Ok-commit-clause-ok g c =
    let old = c.args.log.now in
    let new = c.commit.new.self in
    let step = c.args.step in
    let told = c.state-2.result.now in
    let drafts : Drafts old.instance old.book c.args.worker step c.in-Ok.draft =
    subst (λ (i : Problem). Drafts i old.book c.args.worker step c.in-Ok.draft) c.state-2.ensures.instance
    (subst (λ (x : Book). Drafts told.instance x c.args.worker step c.in-Ok.draft) c.state-2.ensures.book c.in-Ok.ensures) in
    let some = some_there _ (sym c.is_empty.ensures ∙ c.if-is_empty.false) in
    let makes = subst (λ (ns : List ℕ). Makes old.instance old.book c.in-Ok.draft.posts.items ns new.book) c.deref.ensures.value c.in-Ok-commit.ensures.makes in
    step_recorded g.D.Disk.calls old new c.args.worker step c.in-Ok.draft drafts _ c.in-Ok-commit.ensures.ok makes (omega (arith, some, c.in-Ok.draft.posts.ok)) refl
    (c.is_cheaper-plan.ensures old.book (ap (λ (x : Book). x.cost) (sym c.state.ensures.book) ∙ sym c.cost.ensures.cost)) refl refl

pub returns-clause-err : goal.returns-clause-err
returns-clause-err g c =
    let old = c.args.log.now in
    let new = c.commit.new.self in
    let step = c.args.step in
    let w = c.args.worker in
    let told = c.state-2.result.now in
    let drafts : Drafts old.instance old.book w step c.in-Ok.draft =
    subst (λ (i : Problem). Drafts i old.book w step c.in-Ok.draft) c.state-2.ensures.instance
    (subst (λ (x : Book). Drafts told.instance x w step c.in-Ok.draft) c.state-2.ensures.book c.in-Ok.ensures) in
    let some = some_there _ (sym c.is_empty.ensures ∙ c.if-is_empty.false) in
    let allowed = step_allowed g.D.Disk.calls old new w step c.in-Ok.draft drafts (after_step old.instance old.book w step) drafts.makes c.made-made.ensures.log.folds in
    subst (StepFails g.D.Disk.faults w step old new) (sym c.commit_fault_of.ensures)
    (step_fails g.D.Disk.calls old new w step c.in-Ok.draft drafts g.D.Disk.faults c.in-Err.fault (omega (arith, some, c.in-Ok.draft.posts.ok)) allowed c.in-Err.ensures.err)
