use Rattle.plan_page.proofs.Common.{◌≡◌, ◌++◌, take, string_bytes, flat_map}
use Rattle.plan_page.specs.Sections.{section_text}
use Rattle.plan_page.proofs.sections.add_sections.Given as goal

abbrev pub invariant-loop-section : goal.invariant-loop-section
invariant-loop-section l = string_bytes l.page ≡ string_bytes l.fn.page ++ flat_map section_text (take l.section-index l.sections)
