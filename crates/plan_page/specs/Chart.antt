-- The picture of a day's slots: the need as a line over the employees as bars, and where bands differ from the need, the bands too. A day
-- is given by its first slot.
use Rattle.std.specs.Prelude.{ℕ, ◌+◌, ◌-◌, ◌*◌, ◌/◌, nat_lt, Bool, true, false, if◌then◌else◌, List, [], ◌++◌, codes, fold, max, min}
use Rattle.std.specs.List.{flat_map}
use Rattle.std.specs.Fmt.{decimal}
use Rattle.shift_instance.specs.declared.Duty.{Duty}
use Rattle.shift_instance.specs.Problem.{Problem, below, day_slots, need_at, need_max_at, slots}
use Rattle.shift_instance.specs.Rota.{cover}
use Rattle.plan_page.specs.declared.chart.Edge.{Edge}
use Rattle.plan_page.specs.declared.chart.Edge.TheVariants.{Least, Most}
use Rattle.plan_page.specs.declared.chart.Layer.{Layer}
use Rattle.plan_page.specs.declared.chart.Layer.TheVariants.{Band, Covered, Over, Under}
use Rattle.plan_page.specs.declared.chart.TheConstants.{GRID, HOURS}
use Rattle.plan_page.specs.Pictures.{box_text, depth}

-- the greatest number of employees that are wanted or work in any slot, and 1 where there is none
abbrev pub most_employees : Problem → List Duty → ℕ
most_employees i rota = fold (λ most t. max most (max (need_max_at i t) (cover i rota t))) 1 (below (slots i))

-- what a layer of bars is called in the page's style
abbrev pub layer_name : Layer → List ℕ
layer_name Covered = codes "covered"
layer_name Over = codes "over"
layer_name Under = codes "under"
layer_name Band = codes "band"

-- from which number of employees on up to which the bar of a slot stands, where so many are wanted at least and at most, and so many work
abbrev pub layer_ends : Layer → ℕ → ℕ → ℕ → ℕ × ℕ
layer_ends Covered least most working = (0, min working most)
layer_ends Over least most working = (most, working)
layer_ends Under least most working = (working, least)
layer_ends Band least most working = (least, most)

-- a bar from its left end on, between two numbers of employees, and nothing where the first isn't below the second
unfoldable pub bar_text : ℕ → ℕ → ℕ → ℕ × ℕ → List ℕ
bar_text most left width ends =
    if nat_lt ends.0 ends.1 then box_text left (depth most ends.1) width (depth most ends.0 - depth most ends.1) else []

-- the bar of a layer for a slot of the day, counted from 0
unfoldable pub slot_bar : Problem → List Duty → ℕ → ℕ → Layer → ℕ → List ℕ
slot_bar i rota most first layer n =
    bar_text most (n * i.slot_minutes) i.slot_minutes
    (layer_ends layer (need_at i (first + n)) (need_max_at i (first + n)) (cover i rota (first + n)))

-- the bars of a layer
unfoldable pub path_begin : List ℕ → List ℕ
path_begin name = codes "<path class=\"" ++ name ++ codes "\" d=\""

unfoldable pub path_end : List ℕ
path_end = codes "\"/>\n"

unfoldable pub layer_path : Problem → List Duty → ℕ → ℕ → Layer → List ℕ
layer_path i rota most first layer =
    path_begin (layer_name layer) ++ flat_map (slot_bar i rota most first layer) (below (day_slots i)) ++ path_end

-- an edge of the band of a slot
abbrev pub edge_at : Problem → Edge → ℕ → ℕ
edge_at i Least t = need_at i t
edge_at i Most t = need_max_at i t

-- the line of an edge of the bands: up or down to that of a slot of the day, counted from 0, and on to the slot's end
unfoldable pub need_step : Problem → ℕ → ℕ → Edge → ℕ → List ℕ
need_step i most first edge n =
    codes "V" ++ decimal (depth most (edge_at i edge (first + n))) ++ codes "H" ++ decimal ((n + 1) * i.slot_minutes)

unfoldable pub need_begin : List ℕ
need_begin = codes "<path class=\"need\" d=\"M0 240"

unfoldable pub need_end : List ℕ
need_end = codes "V240\"/>\n"

unfoldable pub need_path : Problem → ℕ → ℕ → Edge → List ℕ
need_path i most first edge = need_begin ++ flat_map (need_step i most first edge) (below (day_slots i)) ++ need_end

-- the strip of the bands and the line above it, where some slot of the day has more than one wanted number
unfoldable pub band_path : Problem → List Duty → ℕ → ℕ → Bool → List ℕ
band_path i rota most first true = layer_path i rota most first Band ++ need_path i most first Most
band_path i rota most first false = []

-- the numbers beside the picture: the most employees at its top, half of them where they stand in it, and none at its bottom
unfoldable pub axis_top : ℕ → List ℕ
axis_top most = codes "<div class=\"row\"><span class=\"axis\"><span>" ++ decimal most ++ codes " employees</span>"

unfoldable pub mark_begin : ℕ → List ℕ
mark_begin part = codes "<span style=\"top:" ++ decimal part ++ codes "%\">"

unfoldable pub axis_mark : ℕ → ℕ → List ℕ
axis_mark employees part = mark_begin part ++ decimal employees ++ codes "</span>"

unfoldable pub axis_half : ℕ → List ℕ
axis_half most = if nat_lt 1 most then axis_mark (most / 2) (depth most (most / 2) * 100 / 240) else []

unfoldable pub axis_end : List ℕ
axis_end = codes "<span>0</span></span>"

unfoldable pub axis : ℕ → List ℕ
axis most = axis_top most ++ axis_half most ++ axis_end

-- the line at half the employees
unfoldable pub half_line : ℕ → List ℕ
half_line top = codes "<path class=\"grid\" d=\"M0 " ++ decimal top ++ codes "H1440\"/>\n"

-- the lines at every third hour, and that at half the employees
unfoldable pub hour_lines : List ℕ
hour_lines = GRID.now

unfoldable pub grid_text : ℕ → List ℕ
grid_text most = hour_lines ++ half_line (depth most (most / 2))

-- the hours below the picture
unfoldable pub hours_text : List ℕ
hours_text = HOURS.now

-- the picture of a day, which shows up to so many employees, and the bands where there are some on the day
unfoldable pub chart : Problem → List Duty → ℕ → ℕ → Bool → List ℕ
chart i rota most first banded =
    axis most ++ grid_text most
    ++ layer_path i rota most first Covered ++ layer_path i rota most first Over ++ layer_path i rota most first Under
    ++ band_path i rota most first banded ++ need_path i most first Least ++ hours_text
