-- What a text is read as.
use Rattle.std.specs.Prelude.{◌≡◌, ℕ, List, length, nat_lt, if◌then◌else◌, Option, None, Result, Ok, Err}
use Rattle.std.specs.Option.{option_map_or}
use Rattle.std.specs.Str.{is_utf8}
use Rattle.break_rules.specs.Causes.{first_cause}
use Rattle.serde_json.specs.Data.{Data}
use Rattle.serde_json.specs.Read.{read}
use Rattle.shift_instance.specs.Problem.{Problem}
use Rattle.shift_instance.specs.Faults.{instance_causes}
use Rattle.shift_instance.specs.declared.InstanceFault.{InstanceFault}
use Rattle.shift_instance.specs.declared.InstanceFault.TheVariants as fault
use Rattle.instance_json.specs.declared.TheConstants.{INSTANCE_MAX}
use Rattle.instance_json.specs.declared.ReadRefusal.{ReadRefusal}
use Rattle.instance_json.specs.declared.ReadRefusal.TheVariants.{TooLong, NotJson, Invalid, NoMemory}
use Rattle.instance_json.specs.Departures.{document_departure}
use Rattle.instance_json.specs.Document.{problem_of}

-- the JSON value of a text: none where the bytes aren't UTF-8 or aren't JSON
unfoldable pub value_of : List ℕ → Option Data
value_of bytes = if is_utf8 bytes then read bytes else None

-- what a problem is read as: itself, where nothing keeps it from being an instance
unfoldable pub problem_reading : Problem → Result Problem ReadRefusal
problem_reading p = option_map_or (λ fault. Err (Invalid fault)) (first_cause (instance_causes p)) (Ok p)

-- what a JSON value is read as: the problem that it states, where nothing departs from a document
unfoldable pub value_reading : Data → Result Problem ReadRefusal
value_reading d = option_map_or Err (document_departure d) (problem_reading (problem_of d))

-- what a text is read as: it is refused where it is too long, or isn't JSON, and else its value decides
unfoldable pub reading_of : List ℕ → Result Problem ReadRefusal
reading_of bytes = if nat_lt INSTANCE_MAX (length bytes) then Err TooLong else option_map_or value_reading (value_of bytes) (Err NotJson)

-- whether a refusal is the one that a reading gives; running out of memory may always come
abbrev pub IsAnswer : ReadRefusal → Result Problem ReadRefusal → Type 0
IsAnswer NoMemory reading = Unit {0}
IsAnswer refusal reading = reading ≡ Err refusal

-- the refusal of a document whose numbers make no instance
abbrev pub refusal_of : InstanceFault → ReadRefusal
refusal_of fault.NoMemory = NoMemory
refusal_of e = Invalid e
