-- Texts of their own on a page.
use Rattle.std.specs.Prelude.{ℕ, List, ◌++◌, codes, string_bytes}
use Rattle.std.specs.List.{flat_map}
use Rattle.plan_page.specs.declared.sections.Section.{Section}
use Rattle.plan_page.specs.Escaping.{escaped}

-- what stands before the title of a text, between the title and the lines, and behind them
unfoldable pub section_begin : List ℕ
section_begin = codes "<section>\n<h2>"

unfoldable pub section_between : List ℕ
section_between = codes "</h2>\n<pre>"

unfoldable pub section_end : List ℕ
section_end = codes "</pre>\n</section>\n"

-- a text of its own: its title, and its lines as they stand
unfoldable pub section_text : Section → List ℕ
section_text s =
    section_begin ++ escaped (string_bytes s.title) ++ section_between ++ escaped (string_bytes s.text) ++ section_end

-- texts of their own, from the first
abbrev pub sections_text : List Section → List ℕ
sections_text sections = flat_map section_text sections
