use Rattle.search_book.proofs.Common.{◌≡◌, ℕ, List, map, ap, sym, ◌∙◌, subst, arith, Vec, Global, IfSome, err_from_is_err_and, canonical_text, Post, MakeBook, Refuses, Book, HeadCause, IsFound}
use Rattle.recovery.specs.declared.fault.RebuildFault.TheVariants.{NoMemory as RebuildsMemory}
use Rattle.search_book.proofs.Opens.{only_head, only_rebuild, rebuild_keeps}
use Rattle.search_book.proofs.log_opening.open_state.Goals as goal

pub returns-in_err-journal-clause-only : goal.returns-in_err-journal-clause-only
returns-in_err-journal-clause-only g c =
    let K = g.D.Disk in
    let p = err_from_is_err_and c.from_residual-in_err-journal.result c.from_residual-in_err-journal.ensures.1 in
    let fault = c.in_err-journal.field-0.0 in
    let head : c.deref.result.now ≡ canonical_text c.args.instance.now = c.deref.ensures.value ∙ c.in_ok-head.ensures in
    rw (p.1, p.2)
    (only_head c.args.limit c.args.instance.now (K.reads c.args.disk.now) (K.faults c.args.disk.now) (K.faults c.open_head.new.disk) fault (omega (arith, c.requires.most))
    (subst (λ (h : List ℕ). HeadCause c.args.limit h (K.reads c.args.disk.now) (K.faults c.args.disk.now) (K.faults c.open_head.new.disk) fault) head c.in_err-journal.ensures.cause))

pub returns-in_err-state-clause-content : goal.returns-in_err-state-clause-content
returns-in_err-state-clause-content g c =
    let K = g.D.Disk in
    let p = err_from_is_err_and c.from_residual-in_err-state.result c.from_residual-in_err-state.ensures.1 in
    let fault = c.in_err-state.field-0.0 in
    let i = c.args.instance.now in
    let j = c.in_ok-journal in
    let head : c.deref.result.now ≡ canonical_text i = c.deref.ensures.value ∙ c.in_ok-head.ensures in
    let records : map (λ (v : Vec ℕ Global). v.items) c.deref-2.result.now ≡ j.journal.records = ap (map (λ (v : Vec ℕ Global). v.items)) c.deref-2.ensures.value ∙ sym j.ensures.view.1 in
    rw (p.1, p.2)
    (rebuild_keeps c.args.limit i (canonical_text i) j.journal.records (K.reads c.args.disk.now) (K.reads c.open_head.new.disk) fault j.ensures.telling
    (subst (λ (h : List ℕ). IfSome (K.reads c.args.disk.now) (IsFound c.args.limit h j.journal.records (K.reads c.open_head.new.disk))) head j.ensures.found)
    (subst (λ (rs : List (List ℕ)). Refuses i rs fault) records c.in_err-state.ensures.refused))

pub returns-in_err-state-clause-only : goal.returns-in_err-state-clause-only
returns-in_err-state-clause-only g c =
    let K = g.D.Disk in
    let p = err_from_is_err_and c.from_residual-in_err-state.result c.from_residual-in_err-state.ensures.1 in
    let fault = c.in_err-state.field-0.0 in
    let i = c.args.instance.now in
    let j = c.in_ok-journal in
    let head : c.deref.result.now ≡ canonical_text i = c.deref.ensures.value ∙ c.in_ok-head.ensures in
    let records : map (λ (v : Vec ℕ Global). v.items) c.deref-2.result.now ≡ j.journal.records = ap (map (λ (v : Vec ℕ Global). v.items)) c.deref-2.ensures.value ∙ sym j.ensures.view.1 in
    rw (p.1, p.2)
    (only_rebuild c.args.limit i j.journal.records (K.reads c.args.disk.now) (K.reads c.open_head.new.disk) fault (omega (arith, c.requires.most))
    (subst (λ (h : List ℕ). IfSome (K.reads c.args.disk.now) (IsFound c.args.limit h j.journal.records (K.reads c.open_head.new.disk))) head j.ensures.found)
    (subst (λ (rs : List (List ℕ)). (posts : List Post) (b : Book) → MakeBook i rs posts b → fault ≡ RebuildsMemory) records c.in_err-state.ensures.only))
