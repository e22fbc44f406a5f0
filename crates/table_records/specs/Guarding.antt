-- Texts that a spreadsheet would calculate, and how tables have them.
use Rattle.std.specs.Prelude.{◌≡◌, ℕ, Bool, ◌||◌, ◌&&◌, ◌==◌, List, [], ◌∷◌, if◌then◌else◌}

-- whether a text that begins with this byte is guarded: with `=`, `+`, `-` or `@` it would be calculated, and with `'` it would be taken for a guarded one
abbrev pub begins_guarded : ℕ → Bool
begins_guarded first = (first == 61) || (first == 43) || (first == 45) || (first == 64) || (first == 39)

-- a text as a table has it: with `'` before it where it is guarded
abbrev pub guarded : List ℕ → List ℕ
guarded [] = []
guarded (first ∷ rest) = if begins_guarded first then 39 ∷ first ∷ rest else first ∷ rest

-- the text that a table has so
abbrev pub unguarded : List ℕ → List ℕ
unguarded [] = []
unguarded (first ∷ []) = first ∷ []
unguarded (first ∷ second ∷ rest) = if (first == 39) && begins_guarded second then second ∷ rest else first ∷ second ∷ rest

-- each guarded text is read as the text that was guarded
abbrev pub GuardsComeOff : Type 0
GuardsComeOff = (text : List ℕ) → unguarded (guarded text) ≡ text
