-- What an opening finds, and why it finds nothing.
use Rattle.search_book.proofs.Common.{◌≡◌, ◌⊎◌, inl, inr, ℕ, List, [], ◌∷◌, refl, IfSome, TellsAlike, fresh, IsFound}
use Rattle.std.specs.Prelude.{Option, None, Some}

pub found_content : (limit : ℕ) (head : List ℕ) (records : List (List ℕ)) (o o' : Option (List ℕ)) → TellsAlike o o' → IfSome o (IsFound limit head records o') → (o' ≡ o) ⊎ ((o ≡ Some []) × (o' ≡ Some (fresh head)) × (records ≡ []))
found_content limit head records None None alike found = inl refl
found_content limit head records None (Some file') alike found = absurd alike
found_content limit head records (Some []) o' alike found = let n = found.new refl in inr (refl, n.1, n.0)
found_content limit head records (Some (x ∷ xs)) o' alike found = inl (found.old (λ e. absurd (cc))).1

pub no_posts_left : (limit : ℕ) (head : List ℕ) (records : List (List ℕ)) (o o' : Option (List ℕ)) → (records ≡ [] → ⊥) → (o' ≡ o) ⊎ ((o ≡ Some []) × (o' ≡ Some (fresh head)) × (records ≡ [])) → o' ≡ o
no_posts_left limit head records o o' some (inl same) = same
no_posts_left limit head records o o' some (inr new) = absurd (some new.2)

pub may_be_new : (head : List ℕ) (records : List (List ℕ)) (o o' : Option (List ℕ)) → (o' ≡ o) ⊎ ((o ≡ Some []) × (o' ≡ Some (fresh head)) × (records ≡ [])) → (o' ≡ o) ⊎ ((o ≡ Some []) × (o' ≡ Some (fresh head)))
may_be_new head records o o' (inl same) = inl same
may_be_new head records o o' (inr new) = inr (new.0, new.1)
