-- Names of shift types.
use Rattle.std.specs.Prelude.{ℕ, Bool, ◌&&◌, ◌==◌, nat_le, List, length}
use Rattle.std.specs.List.{list_all, list_any}
use Rattle.std.specs.Cmp.Lexicographic.{pointwise}
use Rattle.shift_instance.specs.Kind.{Kind}

-- whether a byte may stand in a name: visible ASCII without space
abbrev pub is_name_byte : ℕ → Bool
is_name_byte b = nat_le 33 b && nat_le b 126

-- whether a text may name a type
abbrev pub is_name : List ℕ → Bool
is_name name = nat_le 1 (length name) && nat_le (length name) 32 && list_all is_name_byte name

-- whether a type has a name
abbrev pub has_name : List ℕ → Kind → Bool
has_name name k = pointwise ◌==◌ k.name name

-- whether one of some types has a name
abbrev pub is_taken : List Kind → List ℕ → Bool
is_taken kinds name = list_any (has_name name) kinds
