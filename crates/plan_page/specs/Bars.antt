-- The rows of a plan on a day, each as a bar with its breaks. A day is given by its first slot.
use Rattle.std.specs.Prelude.{ℕ, ◌+◌, ◌-◌, ◌*◌, nat_lt, Bool, true, false, not, ◌&&◌, ◌||◌, if◌then◌else◌, is_some, Option, Some, None, List, [], ◌∷◌, ◌++◌, codes, max, min, slice_get}
use Rattle.std.specs.Option.{option_map_or}
use Rattle.std.specs.List.{flat_map}
use Rattle.std.specs.Fmt.{decimal}
use Rattle.break_rules.specs.declared.Break.{Break}
use Rattle.shift_instance.specs.declared.Row.{Row}
use Rattle.shift_instance.specs.declared.Shift.{Shift}
use Rattle.shift_instance.specs.Problem.{Problem, day_slots, shift_list, slots}
use Rattle.rota_writer.specs.Table.{name_of, period_text}
use Rattle.plan_tables.specs.Tallies.{first_slot}
use Rattle.plan_page.specs.declared.stretches.Stretch.{Stretch}
use Rattle.plan_page.specs.Escaping.{escaped}
use Rattle.plan_page.specs.Pictures.{box_text}

-- the part of a stretch of slots that lies within the slots of a day, counted from the first of them
unfoldable pub part_from : Problem → ℕ → Stretch → Option Stretch
part_from i day s =
    let from = max s.first day in
    let to = min (s.first + s.len) (day + day_slots i) in
    if nat_lt from to then Some (record { first = from - day; len = to - from }) else None

-- whether some of a stretch of slots lies in a day; behind the last slot of the planning period comes the first
unfoldable pub lies_in : Problem → ℕ → Stretch → Bool
lies_in i day s = is_some (part_from i day s) || is_some (part_from i (day + slots i) s)

-- the box of a part of a day, by its top and its height
unfoldable pub part_box : Problem → ℕ → ℕ → Option Stretch → List ℕ
part_box i top tall None = []
part_box i top tall (Some p) = box_text (p.first * i.slot_minutes) top (p.len * i.slot_minutes) tall

-- the boxes of what lies in a day of a stretch of slots
unfoldable pub boxes : Problem → ℕ → ℕ → ℕ → Stretch → List ℕ
boxes i day top tall s = part_box i top tall (part_from i day s) ++ part_box i top tall (part_from i (day + slots i) s)

-- the slots of the duties of a row of a shift, and the slot in which they start
abbrev pub work_of : Problem → Shift → Row → Stretch
work_of i x r = record { first = first_slot i r.shift r.day; len = x.len }

abbrev pub start_of : Problem → Row → Stretch
start_of i r = record { first = first_slot i r.shift r.day; len = 1 }

-- the slots of a break of duties that start in a slot
abbrev pub rest_of : ℕ → Break → Stretch
rest_of first b = record { first = first + b.start; len = b.len }

-- whether duties at work on a day start on it, or else started before
unfoldable pub is_shown : Problem → ℕ → Bool → Shift → Row → Bool
is_shown i day starting x r =
    if starting then lies_in i day (start_of i r) else lies_in i day (work_of i x r) && not (lies_in i day (start_of i r))

-- what stands before the time of a row, how many employees, and what stands behind its type
unfoldable pub label_begin : List ℕ
label_begin = codes "<div class=\"row\"><span>"

unfoldable pub label_count : ℕ → List ℕ
label_count count = codes " x" ++ decimal count ++ codes " "

unfoldable pub label_note : Bool → List ℕ
label_note true = codes "<br>"
label_note false = codes " (from the day before)<br>"

unfoldable pub label_end : List ℕ
label_end = codes "</span>"

-- when the employees of a shift work, how many they are, their type, and a note where their duties started on the day before
unfoldable pub label_crew : Problem → Bool → Shift → ℕ → List ℕ
label_crew i starting x count = period_text i x.start x.len ++ label_count count ++ escaped (name_of i x.kind) ++ label_note starting

-- when a break of a shift that starts at a slot is
unfoldable pub rest_time : Problem → ℕ → Break → List ℕ
rest_time i start b = codes " " ++ period_text i (start + b.start) b.len

-- when the breaks of a shift that starts at a slot are, or that there are none
unfoldable pub rest_times : Problem → ℕ → List Break → List ℕ
rest_times i start [] = codes "no breaks"
rest_times i start (b ∷ bs) = codes "breaks" ++ flat_map (rest_time i start) (b ∷ bs)

-- what a row of a shift is: its time, how many employees, its type, and its breaks
unfoldable pub label : Problem → Bool → Shift → Row → List ℕ
label i starting x r = label_begin ++ label_crew i starting x r.count ++ rest_times i x.start r.breaks ++ label_end

-- what stands before the title of a bar, between its times and its breaks, before the boxes of the duties, before those of the breaks, and
-- behind them
unfoldable pub bar_begin : List ℕ
bar_begin = codes "<svg class=\"bar\" viewBox=\"0 0 1440 16\" preserveAspectRatio=\"none\"><title>"

unfoldable pub title_between : List ℕ
title_between = codes ", "

unfoldable pub work_begin : List ℕ
work_begin = codes "</title><path class=\"work\" d=\""

unfoldable pub breaks_begin : List ℕ
breaks_begin = codes "\"/><path class=\"break\" d=\""

unfoldable pub bar_end : List ℕ
bar_end = codes "\"/></svg></div>\n"

-- the title of the bar of a row of a shift: its time and its breaks
unfoldable pub bar_title : Problem → Shift → Row → List ℕ
bar_title i x r = bar_begin ++ period_text i x.start x.len ++ title_between ++ rest_times i x.start r.breaks

-- the boxes of what lies in a day of the breaks of duties that start in a slot
unfoldable pub break_boxes : Problem → ℕ → ℕ → List Break → List ℕ
break_boxes i day first breaks = flat_map (λ b. boxes i day 4 8 (rest_of first b)) breaks

-- the bar of a row of a shift, with its breaks
unfoldable pub bar_shape : Problem → ℕ → Shift → Row → List ℕ
bar_shape i day x r =
    work_begin ++ boxes i day 2 12 (work_of i x r) ++ breaks_begin ++ break_boxes i day (first_slot i r.shift r.day) r.breaks ++ bar_end

-- a row of a shift: what it is, and its bar below a title
unfoldable pub bar : Problem → ℕ → Bool → Shift → Row → List ℕ
bar i day starting x r = label i starting x r ++ bar_title i x r ++ bar_shape i day x r

-- the bar of a row of a shift, and nothing where it isn't shown on the day
unfoldable pub shown_bar : Problem → ℕ → Bool → Shift → Row → List ℕ
shown_bar i day starting x r = if is_shown i day starting x r then bar i day starting x r else []

-- the bar of a row, and nothing where its shift isn't in the shift list
abbrev pub row_bar : Problem → ℕ → Bool → Row → List ℕ
row_bar i day starting r = option_map_or (λ x. shown_bar i day starting x.0 r) (slice_get (shift_list i) r.shift) []

-- the bars of the rows whose duties start on a day, or else of those whose duties started before
abbrev pub bars : Problem → ℕ → Bool → List Row → List ℕ
bars i day starting rows = flat_map (row_bar i day starting) rows
