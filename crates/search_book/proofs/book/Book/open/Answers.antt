use Rattle.search_book.proofs.Common.{◌≡◌, ◌⊎◌, inl, inr, ℕ, List, [], ◌∷◌, refl, ap, sym, subst, IfSome, TellsAlike, fresh, canonical_text, Post, Problem, IsOpenedFrom}
use Rattle.std.specs.Prelude.{Option, None, Some}
use Rattle.search_book.proofs.book.Book.open.Goals as goal

-- what a disk holds once a log of posts is opened there
opened_content : (limit used : ℕ) (i : Problem) (posts : List Post) (o o' : Option (List ℕ)) → TellsAlike o o' → IfSome o (IsOpenedFrom limit i posts used o') → (o' ≡ o) ⊎ ((o ≡ Some []) × (o' ≡ Some (fresh (canonical_text i))))
opened_content limit used i posts None None alike found = inl refl
opened_content limit used i posts None (Some file') alike found = absurd alike
opened_content limit used i posts (Some []) o' alike found = let n = found.new refl in inr (refl, n.2)
opened_content limit used i posts (Some (x ∷ xs)) o' alike found = inl (found.old (λ e. absurd (cc))).1

pub returns-in-Err-all_open-clause-content : goal.returns-in-Err-all_open-clause-content
returns-in-Err-all_open-clause-content g c =
    let K = g.D.Disk in
    let log = c.in-Ok.log in
    let i = c.args.instance.now in
    subst (λ (o : Option (List ℕ)). (o ≡ K.reads c.args.disk) ⊎ ((K.reads c.args.disk ≡ Some []) × (o ≡ Some (fresh (canonical_text i))))) (sym (ap K.reads c.into_disk.ensures))
    (opened_content c.args.limit log.used i log.history (K.reads c.args.disk) (K.reads log.disk) c.in-Ok.ensures.telling c.in-Ok.ensures.found)
