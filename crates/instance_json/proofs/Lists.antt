-- Lists of values beside lists of data.
use Rattle.instance_json.proofs.Common.{true, false, Bor, Option, None, option_map, find, cond, ◌≡◌, ℕ, Bool, false, ◌&&◌, List, [], ◌∷◌, map, length, ◌==◌, String, BTreeMap, Global, string_bytes, Some, is_some, option_and_then, refl, sym, ap, ◌∙◌, list_all, length-map, option_map_or, option_copied, Data, view, items_view, members_view, Value, items_at, data_list, member_names, whole, are_numbers, is_wide, is_row, are_rows, names_of}
use Rattle.std.specs.BTreeMap.{keys}
use Rattle.std.specs.Map.{keys_of}
use Rattle.serde_json.specs.Find.{get, as_array, as_object}

-- the items of a list of values
pub data_list-items_view : (vs : List Value) → data_list (items_view vs) ≡ map view vs
data_list-items_view [] = refl
data_list-items_view (v ∷ vs) = ap (λ ds. view v ∷ ds) (data_list-items_view vs)

-- a test of each item
pub list_all-items_view : (p : Data → Bool) (vs : List Value) → list_all p (data_list (items_view vs)) ≡ list_all (λ v. p (view v)) vs
list_all-items_view p [] = refl
list_all-items_view p (v ∷ vs) = ap (λ b. p (view v) && b) (list_all-items_view p vs)

-- the names of an object of values
pub member_names-members_view : (es : List (String Global × Value)) → member_names (members_view es) ≡ map string_bytes (keys_of es)
member_names-members_view [] = refl
member_names-members_view (e ∷ es) = ap (λ names. string_bytes e.0 ∷ names) (member_names-members_view es)

-- whether the items of a list of values are whole numbers
pub are_numbers_of_list : (d : Data) (vs : List Value) → Some (items_view vs) ≡ as_array d → list_all (λ v. is_some (whole (view v))) vs ≡ are_numbers d
are_numbers_of_list d vs e = sym (list_all-items_view (λ x. is_some (whole x)) vs) ∙ ap (λ o. option_map_or (λ ds. list_all (λ x. is_some (whole x)) (data_list ds)) o false) e

-- whether a list of values is that wide
pub is_wide_of_list : (wide : ℕ) (d : Data) (vs : List Value) → Some (items_view vs) ≡ as_array d → (length vs == wide) ≡ is_wide wide d
is_wide_of_list wide d vs e =
    ap (λ n. n == wide) (sym (ap length (data_list-items_view vs) ∙ length-map vs view)) ∙ ap (λ o. option_map_or (λ ds. length (data_list ds) == wide) o false) e

-- whether the items of a list of values are lists of that many whole numbers
pub are_rows_of_list : (wide : ℕ) (d : Data) (vs : List Value) → Some (items_view vs) ≡ as_array d → list_all (λ v. is_row wide (view v)) vs ≡ are_rows wide d
are_rows_of_list wide d vs e = sym (list_all-items_view (is_row wide) vs) ∙ ap (λ o. option_map_or (λ ds. list_all (is_row wide) (data_list ds)) o false) e

-- the names of what is an object
pub names_of_object : (d : Data) (m : BTreeMap (String Global) Value) → Some (members_view m.entries) ≡ as_object d → map string_bytes (keys m) ≡ names_of d
names_of_object d m e = sym (member_names-members_view m.entries) ∙ ap (λ o. option_map_or member_names o []) e

-- the items of an object's field
pub views_at : (name : List ℕ) (d : Data) (vs : List Value) → Some (items_view vs) ≡ option_and_then as_array (get name d) → map view vs ≡ items_at name d
views_at name d vs e = sym (data_list-items_view vs) ∙ ap (λ o. option_map_or data_list o []) e

mapped : {A : Type 0} (f : Data → A) (vs : List Value) → map (λ v. f (view v)) vs ≡ map f (data_list (items_view vs))
mapped f [] = refl
mapped f (v ∷ vs) = ap (λ ys. f (view v) ∷ ys) (mapped f vs)

-- a function of each item of an object's field
pub map_items_at : {A : Type 0} (f : Data → A) (name : List ℕ) (d : Data) (vs : List Value) → Some (items_view vs) ≡ option_and_then as_array (get name d) → map (λ v. f (view v)) vs ≡ map f (items_at name d)
map_items_at f name d vs e = mapped f vs ∙ ap (λ o. map f (option_map_or data_list o [])) e

found_first : (b : Bool) (k : String Global) (o : Option (String Global)) (q : Option (List ℕ)) → option_map string_bytes o ≡ q → option_map string_bytes (cond b (Some k) o) ≡ cond b (Some (string_bytes k)) q
found_first true k o q e = refl
found_first false k o q e = e

found_among : (p : List ℕ → Bool) (ks : List (String Global)) → option_map string_bytes (find (λ k. p (string_bytes k)) ks) ≡ find p (map string_bytes ks)
found_among p [] = refl
found_among p (k ∷ ks) = found_first (p (string_bytes k)) k _ _ (found_among p ks)

of_ref : (o : Option (Bor (String Global))) → option_map (λ s. string_bytes s.now) o ≡ option_map string_bytes (option_copied o)
of_ref None = refl
of_ref (Some s) = refl

-- the first of an object's names that passes a test
pub found_name : (p : List ℕ → Bool) (d : Data) (m : BTreeMap (String Global) Value) (o : Option (Bor (String Global))) → Some (members_view m.entries) ≡ as_object d
    → option_copied o ≡ find (λ k. p (string_bytes k)) (keys m) → option_map (λ s. string_bytes s.now) o ≡ find p (names_of d)
found_name p d m o e h = of_ref o ∙ ap (option_map string_bytes) h ∙ found_among p (keys m) ∙ ap (find p) (names_of_object d m e)
