use Rattle.search_book.proofs.Common.{List, ℕ, subst, stands_once, canonical_text, one_list, SpellPosts, posts_once}
use Rattle.search_book.proofs.laws.one_history.Goals as goal

pub returns : goal.returns
returns c = λ limit i posts others file small one other.
    let a = one.journal in
    let b = other.journal in
    let same = (stands_once limit (canonical_text i) (canonical_text i) b.records a.records file small b.stands a.stands).1 in
    posts_once one_list a.records posts others a.spells (subst (λ (rs : List (List ℕ)). SpellPosts rs others) same b.spells)
