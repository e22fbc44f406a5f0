-- Posts that a worker appends make a pass, which follows on those before it.
use Rattle.worker_gate.proofs.Common.{◌≡◌, ℕ, zero, suc, ◌<◌, ◌≤◌, Bool, true, List, [], ◌∷◌, ◌++◌, length, All, refl, sym, ap, ◌∙◌, subst, arith, Some, slice_get, ∥∥₁_elim, props, length-append, get_or_from_slice_get, slice_get_within, Post, worker_of, AppendsOf, FollowOn, IsPassAt}
use Rattle.turn_lock.specs.declared.pass.Pass.{Pass}

-- what stands in a list stands there still where more is appended
front_get : {X : Type 0} (xs ys : List X) (k : ℕ) → k < length xs → slice_get (xs ++ ys) k ≡ slice_get xs k
front_get [] ys k low = absurd (omega arith)
front_get (x ∷ xs) ys zero low = refl
front_get (x ∷ xs) ys (suc k) low = front_get xs ys k (omega arith)

-- what stands behind the first list has what all of the second have
behind_get : {X : Type 0} (P : X → Type 0) (xs ys : List X) (k : ℕ) (x : X) → All P ys → length xs ≤ k → slice_get (xs ++ ys) k ≡ Some x → P x
behind_get P [] ys k x all low at = subst P (get_or_from_slice_get ys k x x at) (all k x (slice_get_within ys k x at))
behind_get P (y ∷ xs) ys zero x all low at = absurd (omega arith)
behind_get P (y ∷ xs) ys (suc k) x all low at = behind_get P xs ys k x all (omega arith) at

pass_stays : (history new : List Post) (from : ℕ) (p : Pass) → IsPassAt history from p → IsPassAt (history ++ new) from p
pass_stays history new from p is = record {
  begins = is.begins;
  some = is.some;
  within = omega (arith, is.within, length-append history new);
  own = λ k post low high at. is.own k post low high (sym (front_get history new k (omega (arith, high, is.within))) ∙ at);
}

follow_stays : (history new : List Post) (from : ℕ) (passes : List Pass) (to : ℕ) → FollowOn history from passes to → FollowOn (history ++ new) from passes to
follow_stays history new from [] to is = is
follow_stays history new from (p ∷ passes) to is = (pass_stays history new from p is.0, follow_stays history new p.to passes to is.1)

follow_more : (history : List Post) (from : ℕ) (passes : List Pass) (mid : ℕ) (p : Pass) → FollowOn history from passes mid → IsPassAt history mid p → FollowOn history from (passes ++ p ∷ []) p.to
follow_more history from [] mid p is last = (subst (λ (n : ℕ). IsPassAt history n p) (sym is) last, refl)
follow_more history from (q ∷ passes) mid p is last = (is.0, follow_more history q.to passes mid p is.1 last)

-- posts of one worker behind others make a pass of that worker
pass_made : (history new : List Post) (worker : ℕ) (p : Pass) → All (λ post. worker_of post ≡ worker) new → p.seat ≡ worker → p.from ≡ length history → p.to ≡ length (history ++ new) → p.from < p.to
    → IsPassAt (history ++ new) (length history) p
pass_made history new worker p all seat from to more = record {
  begins = from;
  some = more;
  within = omega (arith, to);
  own = λ k post low high at. behind_get (λ (post : Post). worker_of post ≡ worker) history new k post all (omega (arith, from, low)) at ∙ sym seat;
}

-- there are none, and no post behind those that were there
pub never_passed : (h k : List Post) (passes : List Pass) → k ≡ h → passes ≡ [] → ∥ FollowOn k (length h) passes (length k) ∥₁
never_passed h k passes e f = rw (e, f) (∣ refl ∣₁)

-- the passes as they stand, where nothing changed
pub kept_on : (h k o q : List Post) (passes others : List Pass) (keeps still : Bool) → k ≡ h → q ≡ o → others ≡ passes → still ≡ keeps
    → (keeps ≡ true → ∥ FollowOn h (length o) passes (length h) ∥₁) → still ≡ true → ∥ FollowOn k (length q) others (length k) ∥₁
kept_on h k o q passes others keeps still e f p s was is = rw (e, f, p) (was (sym s ∙ is))

-- the passes with one more, which has all posts that were appended
pub pushed_on : (h k o q : List Post) (passes others : List Pass) (worker : ℕ) (p : Pass) → AppendsOf worker h k → q ≡ o → others ≡ passes ++ p ∷ []
    → p.seat ≡ worker → p.from ≡ length h → p.to ≡ length k → p.from < p.to
    → ∥ FollowOn h (length o) passes (length h) ∥₁ → ∥ FollowOn k (length q) others (length k) ∥₁
pushed_on h k o q passes others worker p appends f e seat from to more was =
    let posts : List Post = appends.0 in
    ∥∥₁_elim was (hlevel props) (λ there.
    let last : IsPassAt (h ++ posts) (length h) p = pass_made h posts worker p appends.2 seat from (to ∙ ap length appends.1) more in
    let all : FollowOn (h ++ posts) (length o) (passes ++ p ∷ []) p.to = follow_more (h ++ posts) (length o) passes (length h) p (follow_stays h posts (length o) passes (length h) there) last in
    ∣ rw (appends.1, f, e) (subst (λ (n : ℕ). FollowOn (h ++ posts) (length o) (passes ++ p ∷ []) n) (to ∙ ap length appends.1) all) ∣₁)
