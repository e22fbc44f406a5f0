-- All legal duties of an instance, and rows of duties that are alike.
use Rattle.std.specs.Prelude.{ℕ, List, length, map}
use Rattle.std.specs.List.{flat_map}
use Rattle.shift_instance.specs.declared.Duty.{Duty}
use Rattle.shift_instance.specs.declared.Row.{Row}
use Rattle.shift_instance.specs.Problem.{Problem, shift_list, below}
use Rattle.shift_instance.specs.Rota.{lists_of}

-- every legal duty once, in the order of rows
abbrev pub all_duties : Problem → List Duty
all_duties i =
    flat_map (λ s. flat_map (λ day. map (λ list. record { shift = s; day = day; breaks = list }) (lists_of i s)) (below i.days))
    (below (length (shift_list i)))

-- a duty that often, as a row
abbrev pub row_of : Duty → ℕ → Row
row_of d n = record { shift = d.shift; day = d.day; breaks = d.breaks; count = n }
