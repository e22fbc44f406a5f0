-- The rows of tables in hypertext.
use Rattle.std.specs.Prelude.{List, ℕ, ◌++◌, codes}

-- a field of a row
unfoldable pub cell : List ℕ → List ℕ
cell content = codes "<td>" ++ content ++ codes "</td>"

-- the beginning of a row, with what the row is
unfoldable pub row_head : List ℕ → List ℕ
row_head name = codes "<tr><th scope=\"row\">" ++ name ++ codes "</th>"

-- the beginning of a row that has fields alone, and the end of a row
unfoldable pub row_begin : List ℕ
row_begin = codes "<tr>"

unfoldable pub row_end : List ℕ
row_end = codes "</tr>\n"
