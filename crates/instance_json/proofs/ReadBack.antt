-- The text of whole numbers and ASCII texts, in lists and objects, is read back.
use Rattle.instance_json.proofs.Common.{◌≡◌, ℕ, ◌^◌, ◌<◌, ◌≤◌, Bool, true, false, List, [], ◌∷◌, ◌++◌, map, All, IsUtf8, Some, option_map, option_and_then, decimal, append-nil, refl, sym, ap, ◌∙◌, arith, IsAscii-decimal, All-head, All-tail, IsUtf8-append, IsUtf8-from_ascii, quoted, are_ascii, IsUtf8-are_ascii, IsUtf8-quoted, unsigned, negative, float, Data, null, boolean, number, string, array, object, Items, no_items, item, Members, no_members, member, put, read, of_json, of_items, of_members, max_depth, compact_text, items_text, members_text, comma_if, outline, items_outline, members_outline, items_data}
use Rattle.std.specs.Bool.{⊤}
use Rattle.json.specs.Json as json
use Rattle.json.specs.Tree as tree
use Rattle.json.specs.Tree.{json_tokens, HasNumbers, ItemsHaveNumbers, MembersHaveNumbers}
use Rattle.json.proofs.Printed.Decimals.{IsNumber-decimal}
use Rattle.json.specs.Lex.{tokens}
use Rattle.json.proofs.Printed.Tokens.{tokens-print}
use Rattle.json.proofs.Printed.Trees.{value-json_tokens, ArePrintable-json_tokens}
use Rattle.serde_json.proofs.Numbers.{number_of-decimal}
use Rattle.serde_json.proofs.Texts.{print-outline}

-- the members, put one after another into others
abbrev pub puts : Members → Members → Members
puts found no_members = found
puts found (member k d ms) = puts (put k d found) ms

-- data of whole numbers below 2^64 and ASCII texts, with each object's names in byte order
abbrev mutual
  pub IsSound : Data → Type 0
  IsSound null = ⊥
  IsSound (boolean b) = ⊥
  IsSound (number (unsigned n)) = n < 2 ^ 64
  IsSound (number (negative z)) = ⊥
  IsSound (number (float x)) = ⊥
  IsSound (string s) = are_ascii s ≡ true
  IsSound (array ds) = AreSoundItems ds
  IsSound (object ms) = (puts no_members ms ≡ ms) × AreSoundMembers ms

  pub AreSoundItems : Items → Type 0
  AreSoundItems no_items = ⊤
  AreSoundItems (item d ds) = IsSound d × AreSoundItems ds

  pub AreSoundMembers : Members → Type 0
  AreSoundMembers no_members = ⊤
  AreSoundMembers (member k d ms) = (are_ascii k ≡ true) × IsSound d × AreSoundMembers ms

mutual
  of_json-outline : (d : Data) → IsSound d → of_json (outline d) ≡ Some d
  of_json-outline null h = absurd h
  of_json-outline (boolean b) h = absurd h
  of_json-outline (number (unsigned n)) h = ap (option_map number) (number_of-decimal n h)
  of_json-outline (number (negative z)) h = absurd h
  of_json-outline (number (float x)) h = absurd h
  of_json-outline (string s) h = refl
  of_json-outline (array ds) h = ap (option_map array) (of_items-outline ds h)
  of_json-outline (object ms) h = ap (option_map object) (of_members-outline ms no_members h.1 ∙ ap Some h.0)

  of_items-outline : (ds : Items) → AreSoundItems ds → of_items (items_outline ds) ≡ Some ds
  of_items-outline no_items h = refl
  of_items-outline (item d ds) h = rw (of_json-outline d h.0, of_items-outline ds h.1) refl

  of_members-outline : (ms found : Members) → AreSoundMembers ms → of_members (members_outline ms) found ≡ Some (puts found ms)
  of_members-outline no_members found h = refl
  of_members-outline (member k d ms) found h = rw (of_json-outline d h.1) (of_members-outline ms (put k d found) h.2)

mutual
  numbers_in : (d : Data) → IsSound d → HasNumbers (outline d)
  numbers_in null h = absurd h
  numbers_in (boolean b) h = absurd h
  numbers_in (number (unsigned n)) h = IsNumber-decimal n h
  numbers_in (number (negative z)) h = absurd h
  numbers_in (number (float x)) h = absurd h
  numbers_in (string s) h = tt
  numbers_in (array ds) h = numbers_in_items ds h
  numbers_in (object ms) h = numbers_in_members ms h.1

  numbers_in_items : (ds : Items) → AreSoundItems ds → ItemsHaveNumbers (items_outline ds)
  numbers_in_items no_items h = tt
  numbers_in_items (item d ds) h = (numbers_in d h.0, numbers_in_items ds h.1)

  numbers_in_members : (ms : Members) → AreSoundMembers ms → MembersHaveNumbers (members_outline ms)
  numbers_in_members no_members h = tt
  numbers_in_members (member k d ms) h = (numbers_in d h.1, numbers_in_members ms h.2)

comma_utf8 : (later : Bool) → IsUtf8 (comma_if later)
comma_utf8 true = IsUtf8-are_ascii (44 ∷ []) refl
comma_utf8 false = IsUtf8-are_ascii [] refl

then : (b : ℕ) (text : List ℕ) → are_ascii (b ∷ []) ≡ true → IsUtf8 text → IsUtf8 (b ∷ text)
then b text h u = IsUtf8-append (b ∷ []) text (IsUtf8-are_ascii (b ∷ []) h) u

mutual
  pub text_utf8 : (d : Data) → IsSound d → IsUtf8 (compact_text d)
  text_utf8 null h = absurd h
  text_utf8 (boolean b) h = absurd h
  text_utf8 (number (unsigned n)) h = IsUtf8-from_ascii (decimal n) (IsAscii-decimal n h)
  text_utf8 (number (negative z)) h = absurd h
  text_utf8 (number (float x)) h = absurd h
  text_utf8 (string s) h = IsUtf8-quoted s (IsUtf8-are_ascii s h)
  text_utf8 (array ds) h = then 91 _ refl (items_utf8 false ds h)
  text_utf8 (object ms) h = then 123 _ refl (members_utf8 false ms h.1)

  items_utf8 : (later : Bool) (ds : Items) → AreSoundItems ds → IsUtf8 (items_text later ds)
  items_utf8 later no_items h = IsUtf8-are_ascii (93 ∷ []) refl
  items_utf8 later (item d ds) h =
      IsUtf8-append (comma_if later) _ (comma_utf8 later) (IsUtf8-append (compact_text d) _ (text_utf8 d h.0) (items_utf8 true ds h.1))

  members_utf8 : (later : Bool) (ms : Members) → AreSoundMembers ms → IsUtf8 (members_text later ms)
  members_utf8 later no_members h = IsUtf8-are_ascii (125 ∷ []) refl
  members_utf8 later (member k d ms) h =
      IsUtf8-append (comma_if later) _ (comma_utf8 later)
      (IsUtf8-append (quoted k) _ (IsUtf8-quoted k (IsUtf8-are_ascii k h.0))
      (then 58 _ refl (IsUtf8-append (compact_text d) _ (text_utf8 d h.1) (members_utf8 true ms h.2))))

-- its compact text is read as the data
pub text_read : (d : Data) → IsSound d → tree.depth (outline d) ≤ max_depth → read (compact_text d) ≡ Some d
text_read d h shallow =
    let ts = json_tokens (outline d) in
    let same : tokens (compact_text d) ≡ ts ++ [] =
    ap tokens (sym (print-outline d)) ∙ tokens-print ts (ArePrintable-json_tokens (outline d) (numbers_in d h)) ∙ sym (append-nil ts) in
    ap (λ o. option_and_then of_json (option_and_then (λ p. json.if_last p.0 p.1) o)) (ap (json.value max_depth) same ∙ value-json_tokens (outline d) max_depth [] shallow)
    ∙ of_json-outline d h

-- the items of a list
pub sound_items : {A : Type 0} (f : A → Data) (P : A → Type 0) → ((x : A) → P x → IsSound (f x)) → (xs : List A) → All P xs → AreSoundItems (items_data (map f xs))
sound_items f P sound [] h = tt
sound_items f P sound (x ∷ xs) h = (sound x (All-head P x xs h), sound_items f P sound xs (All-tail P x xs h))

pub items_depth : {A : Type 0} (f : A → Data) (most : ℕ) → ((x : A) → tree.depth (outline (f x)) ≤ most) → (xs : List A) → tree.items_depth (items_outline (items_data (map f xs))) ≤ most
items_depth f most h [] = omega arith
items_depth f most h (x ∷ xs) = omega (arith, h x, items_depth f most h xs)
