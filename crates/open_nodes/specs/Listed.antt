-- Open nodes in the order in which a search takes them. Source: best-first branch and bound.
use Rattle.std.specs.Prelude.{ℕ, ⊤, Bool, IsTrue, ◌&&◌, ◌||◌, ◌==◌, nat_lt, List, [], ◌∷◌, if◌then◌else◌}
use Rattle.std.specs.List.{list_all, list_any}

-- a node by its floor and its number
abbrev pub Entry : Type 0
Entry = ℕ × ℕ

-- whether a node comes before another: its floor is less, or the same and its number less
abbrev pub is_before : Entry → Entry → Bool
is_before e d = nat_lt e.0 d.0 || ((e.0 == d.0) && nat_lt e.1 d.1)

-- a list that rises strictly
abbrev pub Rises : List Entry → Type 0
Rises [] = ⊤
Rises (e ∷ entries) = IsTrue (list_all (is_before e) entries) × Rises entries

-- a rising list with a node in its place; a node that it has stays there once
abbrev pub with_entry : Entry → List Entry → List Entry
with_entry e [] = e ∷ []
with_entry e (d ∷ entries) =
    if is_before e d
    then e ∷ d ∷ entries
    else if is_before d e then d ∷ with_entry e entries else d ∷ entries

-- whether a node stands in a list with that floor
abbrev pub is_listed : List Entry → ℕ → ℕ → Bool
is_listed entries floor node = list_any (λ e. (e.0 == floor) && (e.1 == node)) entries

-- whether a node stands in a list
abbrev pub has_node : List Entry → ℕ → Bool
has_node entries node = list_any (λ e. e.1 == node) entries

-- what contracts see of open nodes
pub record OpenView : Type 0 where
  -- the nodes in their order
  pub entries : List Entry
  -- how many may be added without memory
  pub spare : ℕ
