-- The tree of the posts of records, one post and one record after another.
use Rattle.recovery.proofs.Common.{◌≡◌, ℕ, ◌+◌, ◌<◌, List, [], ◌∷◌, ◌++◌, length, take, get_or, fold, sym, ap, ◌∙◌, append-nil, take_more, fold-append, Cut, Post, nodes_after, nodes_of, all_posts, posts_in, Outcome}
use Rattle.recovery.proofs.Folds.{all_posts-append}

-- one post more
pub post_more : (nodes new first : List (List Cut)) (posts : List Post) (k : ℕ) (post : Post)
    → k < length posts → post ≡ get_or posts k post → nodes ≡ fold nodes_after first (take k posts) → new ≡ nodes_after nodes post → new ≡ fold nodes_after first (take (k + 1) posts)
post_more nodes new first posts k post less is e n =
    n
    ∙ ap (λ (l : List (List Cut)). nodes_after l post) e
    ∙ sym (fold-append nodes_after first (take k posts) (post ∷ []))
    ∙ ap (λ (l : List Post). fold nodes_after first l) (sym (take_more posts k post less ∙ ap (λ (p : Post). take k posts ++ p ∷ []) (sym is)))

-- one record more
pub record_more : (nodes new first : List (List Cut)) (outcomes : List Outcome) (k : ℕ) (outcome : Outcome)
    → k < length outcomes → outcome ≡ get_or outcomes k outcome → nodes ≡ fold nodes_after first (all_posts (take k outcomes)) → new ≡ fold nodes_after nodes (posts_in outcome)
    → new ≡ fold nodes_after first (all_posts (take (k + 1) outcomes))
record_more nodes new first outcomes k outcome less is e n =
    n
    ∙ ap (λ (l : List (List Cut)). fold nodes_after l (posts_in outcome)) e
    ∙ sym (fold-append nodes_after first (all_posts (take k outcomes)) (posts_in outcome))
    ∙ ap (fold nodes_after first) (sym (all_posts-append (take k outcomes) (outcome ∷ []) ∙ ap (λ (l : List Post). all_posts (take k outcomes) ++ l) (append-nil (posts_in outcome))))
    ∙ ap (λ (l : List Outcome). fold nodes_after first (all_posts l)) (sym (take_more outcomes k outcome less ∙ ap (λ (o : Outcome). take k outcomes ++ o ∷ []) (sym is)))

-- the nodes of posts and of further ones
pub more_nodes : (nodes new : List (List Cut)) (posts more : List Post) → nodes ≡ nodes_of posts → new ≡ fold nodes_after nodes more → new ≡ nodes_of (posts ++ more)
more_nodes nodes new posts more e n = n ∙ ap (λ (l : List (List Cut)). fold nodes_after l more) e ∙ sym (fold-append nodes_after ([] ∷ []) posts more)
