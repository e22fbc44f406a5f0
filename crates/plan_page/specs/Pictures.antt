-- What pictures are drawn of: numbers of employees as heights, and boxes.
use Rattle.std.specs.Prelude.{ℕ, ◌-◌, ◌*◌, ◌/◌, List, ◌++◌, codes}
use Rattle.std.specs.Fmt.{decimal}

-- how far below the top of a picture, which is 240 high and shows up to so many employees, a number of employees stands
abbrev pub depth : ℕ → ℕ → ℕ
depth most employees = 240 - employees * 240 / most

-- the upper left corner of a box, and its sides from there
unfoldable pub box_corner : ℕ → ℕ → List ℕ
box_corner left top = codes "M" ++ decimal left ++ codes " " ++ decimal top

unfoldable pub box_sides : ℕ → ℕ → List ℕ
box_sides width tall = codes "h" ++ decimal width ++ codes "v" ++ decimal tall ++ codes "h-" ++ decimal width ++ codes "z"

-- a box by its left end, its top, its width and its height
unfoldable pub box_text : ℕ → ℕ → ℕ → ℕ → List ℕ
box_text left top width tall = box_corner left top ++ box_sides width tall
