-- The names that most proofs of this crate cite, passed on from one place. Declares nothing.
pub use Rattle.std.proofs.Common.{ℕ, ◌++◌, ◌≤◌, Bor, List, length, map, ap, ◌∙◌, string_bytes, ◌≡◌, take, OnOk, codes, cond, sym, subst, arith, ◌+◌, [], ◌∷◌, max, fold, ◌<◌, get_or}
pub use Rattle.std.proofs.lemmas.Bool.{eq-eqb, ne_eqb}
pub use Rattle.std.proofs.lemmas.List.{take_all, flat_map_more, map-id, length-map}
pub use Rattle.std.specs.List.{flat_map, enumerate_from}
pub use Rattle.plan_tables.proofs.Appending.{joined, joined_last}
pub use Rattle.plan_tables.proofs.Numbered.{numbered_more}
pub use Rattle.plan_tables.proofs.Starts.{mapped_at, text_more, known_by_start}
pub use Rattle.plan_tables.specs.Starting.{IsKnown, by_start}
unfoldable pub use Rattle.plan_tables.specs.SummaryLines.{wanted_employees, wanted_hours}
pub use Rattle.plan_tables.specs.Times.{span_text}
pub use Rattle.plan_tables.specs.declared.summary.DaySummary.{DaySummary}
pub use Rattle.shift_instance.proofs.Ranges.{below_next}
pub use Rattle.shift_instance.specs.Problem.{below, day_slots, Problem, need_max_at}
pub use Rattle.shift_instance.specs.Rota.{cover, rota_of}
pub use Rattle.shift_instance.specs.declared.Row.{Row}
pub use Rattle.plan_page.specs.Bars.{row_bar, boxes, rest_of, rest_time}
pub use Rattle.plan_page.specs.Cells.{cell}
pub use Rattle.plan_page.specs.Chart.{need_step, slot_bar}
unfoldable pub use Rattle.plan_page.specs.Chart.{chart}
pub use Rattle.plan_page.specs.Escaping.{escaped_char}
unfoldable pub use Rattle.plan_page.specs.Escaping.{escaped}
pub use Rattle.plan_page.specs.Overview.{costly_row, day_row}
unfoldable pub use Rattle.plan_page.specs.Overview.{cost_table}
pub use Rattle.plan_page.specs.Page.{day_section, page_text}
unfoldable pub use Rattle.plan_page.specs.Page.{day_hours, day_pictures, spans_text}
