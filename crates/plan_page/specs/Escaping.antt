-- Text that stands in hypertext.
use Rattle.std.specs.Prelude.{ℕ, ◌==◌, if◌then◌else◌, List, codes, encode_utf8}
use Rattle.std.specs.List.{flat_map}
use Rattle.std.specs.Str.{chars}

-- a character as hypertext shows it: one that means something there stands by its name
unfoldable pub escaped_char : ℕ → List ℕ
escaped_char c =
    if c == 38 then codes "&amp;"
    else (if c == 60 then codes "&lt;"
    else (if c == 62 then codes "&gt;"
    else (if c == 34 then codes "&quot;"
    else (if c == 39 then codes "&#39;"
    else encode_utf8 c))))

-- a text as hypertext shows it
unfoldable pub escaped : List ℕ → List ℕ
escaped text = flat_map escaped_char (chars text)
