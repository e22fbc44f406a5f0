use Rattle.recovery.proofs.Common.{◌≡◌, ◌∙◌, ◌+◌, ℕ, List, Vec, Global, Option, ap, fold, map, subst, sym, take, AreFoundIn, nodes_after, nodes_of, all_posts, posts_in, AreAllFound, Outcome, MakeBookBy}
use Rattle.recovery.proofs.Folds.{reads_of, zip_of}
use Rattle.recovery.proofs.Trees.{more_nodes}
use Rattle.recovery.proofs.rebuilding.add_part.Goals as goal

pub fold_records-requires-clause-reads : goal.fold_records-requires-clause-reads
fold_records-requires-clause-reads g c =
    reads_of c.args.width c.args.records.now c.split_at-2.result.0.now c.split_at.result.1.now c.args.from _ c.in_ok-outcomes.outcomes.items c.split_at.ensures.back c.split_at-2.ensures.front c.split_at-2.ensures.front_len c.in_ok-outcomes.ensures.count
    c.in_ok-outcomes.ensures.given

pub fold_records-requires-clause-found : goal.fold_records-requires-clause-found
fold_records-requires-clause-found g c =
    let i = c.args.instance.now in
    let nodes = c.add_all_nodes.new.tree in
    let found : AreAllFound i nodes c.deref-2.result.now c.in_ok-findings.findings.items =
    zip_of (λ (o : Outcome) (found : Vec (Option ℕ) Global). AreFoundIn i nodes (posts_in o) found.items) _ _ c.in_ok-findings.ensures.count c.in_ok-findings.ensures.given in
    subst (λ (l : List Outcome). AreAllFound i nodes l c.deref-3.result.now) c.deref-2.ensures.value
    (subst (λ (l : List (Vec (Option ℕ) Global)). AreAllFound i nodes c.deref-2.result.now l) (sym c.deref-3.ensures.value) found)

pub returns-clause-made : goal.returns-clause-made
returns-clause-made g c =
    subst (λ (n : ℕ). MakeBookBy c.args.width c.args.instance.now (map (λ (r : Vec ℕ Global). r.items) (take (c.args.from + n) c.args.records.now)) c.fold_records.new.state.history c.fold_records.new.state.book) c.in_ok-outcomes.ensures.count
    c.in_ok-fold_records.ensures.history

pub returns-clause-tree : goal.returns-clause-tree
returns-clause-tree g c =
    let same : c.deref.result.now ≡ c.in_ok-outcomes.outcomes.items = c.deref.ensures.value in
    more_nodes c.args.front.now.tree c.add_all_nodes.new.tree c.args.front.now.state.history (all_posts c.in_ok-outcomes.outcomes.items) c.requires.tree
    (c.in_ok-add_all_nodes.ensures ∙ ap (λ (l : List Outcome). fold nodes_after c.args.front.now.tree (all_posts l)) same)
    ∙ ap nodes_of (sym c.in_ok-fold_records.ensures.grown)
