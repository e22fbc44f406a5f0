-- From how a search or a demonstration ends to why a run ends so that was asked for it.
use Rattle.solve_runs.proofs.Common.{◌≡◌, inl, inr, sym, ap, subst, ℕ, ◌<◌, ◌≤◌, Bool, false, List, [], take, arith, Option, None, Some, option_and_then, unwrap_or, IfSome, Problem, Method, from_number, over_journal, Asked, Asks, IsReadAs, OverMemory, status_unread, EndsCommand, EndsDemo, EndsOver, EndsSearch, Explains, IsUnopened, IsUnread, Met, OverDisk, AreUntold, ToldMet, DiskMet, IsUncalled, SinkMet, EndsBeforeReading, EndsEarly, workers_for, workers_unsaid, AsksWorkers, Command, IsCommand, Status, Optimal, Budget, Full, Usage, Input, Workers, ReadFault, WriteFault, DiskFault, NoMemory, Journal}
use Rattle.instance_input.specs.declared.Unread.{Unread}
use Rattle.instance_input.specs.declared.Unread.TheVariants.{Refused as DocumentRefused, ReadFault as DocumentFault, NoMemory as DocumentMemory}
use Rattle.instance_input.specs.Unread.{IsReadAs as IsDocument, WhyUnread}
use Rattle.solve_runs.proofs.Demos.{demo_of_all}

-- ---- how the search of a command ends

-- a run over a disk
pub over_ends : (met : Met) (command : Command) (i : Problem) (status : Status) → IsDocument met.left i → met.demo ≡ None → OverDisk met.disk met.sink i command.table command.steps command.workers met.told met.opened status
    → EndsCommand met command status
over_ends met command i Optimal document none ends = record { i = i; document = document; ends = ends; demo = none }
over_ends met command i Budget document none ends = record { i = i; document = document; ends = ends; demo = none }
over_ends met command i (Full end limit) document none ends = record { i = i; document = document; ends = ends; demo = none }
over_ends met command i Usage document none ends = absurd ends
over_ends met command i (Input why) document none ends = absurd ends
over_ends met command i (Workers asked have) document none ends = absurd ends
over_ends met command i ReadFault document none ends = absurd ends
over_ends met command i WriteFault document none ends = record { i = i; document = document; ends = ends; demo = none }
over_ends met command i DiskFault document none ends = record { i = i; document = document; ends = ends; demo = none }
over_ends met command i NoMemory document none ends = inr (record { i = i; document = document; ends = ends; demo = none })
over_ends met command i (Journal why) document none ends = record { i = i; document = document; ends = ends; demo = none }

-- a run that has read an instance has come to its disk
pub not_early : (disk : DiskMet) (sink : SinkMet) (i : Problem) (table : Bool) (budget workers : ℕ) (told : ToldMet) (opened : Bool) (status : Status) → OverDisk disk sink i table budget workers told opened status → EndsEarly status → ⊥
not_early disk sink i table budget workers told opened Optimal ends early = early
not_early disk sink i table budget workers told opened Budget ends early = early
not_early disk sink i table budget workers told opened (Full end limit) ends early = early
not_early disk sink i table budget workers told opened Usage ends early = ends
not_early disk sink i table budget workers told opened (Input why) ends early = ends
not_early disk sink i table budget workers told opened (Workers asked have) ends early = ends
not_early disk sink i table budget workers told opened ReadFault ends early = ends
not_early disk sink i table budget workers told opened WriteFault ends early = early
not_early disk sink i table budget workers told opened DiskFault ends early = early
not_early disk sink i table budget workers told opened NoMemory ends early = early
not_early disk sink i table budget workers told opened (Journal why) ends early = early

-- a document that isn't read
pub unread_ends : (met : Met) (command : Command) (why : Unread) (status : Status) → status ≡ status_unread why → met.opened ≡ false → met.demo ≡ None → AreUntold command.workers met.told → IsUncalled met.disk
    → WhyUnread met.left met.read_faults.0 met.read_faults.1 why → EndsCommand met command status
unread_ends met command (DocumentRefused why) status is opened none untold uncalled cause = subst (EndsCommand met command) (sym is) (record { opened = opened; demo = none }, untold, cause)
unread_ends met command DocumentFault status is opened none untold uncalled cause = subst (EndsCommand met command) (sym is) (record { opened = opened; demo = none }, untold, cause)
unread_ends met command DocumentMemory status is opened none untold uncalled cause = subst (EndsCommand met command) (sym is) (inl (record { opened = opened; demo = none }, untold, uncalled))

-- nothing comes of nothing
pub none_in : {A B : Type 0} (f : A → Option B) (o : Option A) → o ≡ None → option_and_then f o ≡ None
none_in f o none = ap (option_and_then f) none

-- ---- why a run ends so

pub search_explains : (met : Met) (command : Command) (status : Status) → IsCommand met.asks command → command.workers ≤ workers_for met.told.before → EndsCommand met command status → Explains met status
search_explains met command Optimal asked enough ends = inl (record { command = command; asked = asked; enough = enough; ends = ends })
search_explains met command Budget asked enough ends = inl (record { command = command; asked = asked; enough = enough; ends = ends })
search_explains met command (Full end limit) asked enough ends = inl (record { command = command; asked = asked; enough = enough; ends = ends })
search_explains met command Usage asked enough ends = absurd ends
search_explains met command (Input why) asked enough ends = record { command = command; asked = asked; enough = enough; ends = ends }
search_explains met command (Workers n have) asked enough ends = absurd ends
search_explains met command ReadFault asked enough ends = record { command = command; asked = asked; enough = enough; ends = ends }
search_explains met command WriteFault asked enough ends = inl (record { command = command; asked = asked; enough = enough; ends = ends })
search_explains met command DiskFault asked enough ends = record { command = command; asked = asked; enough = enough; ends = ends }
search_explains met command NoMemory asked enough ends = inr (inl (record { command = command; asked = asked; enough = enough; ends = ends }))
search_explains met command (Journal why) asked enough ends = record { command = command; asked = asked; enough = enough; ends = ends }

pub demo_explains : (met : Met) (number steps : ℕ) (status : Status) → met.asks (from_number number steps) → met.opened ≡ false → 1 ≤ workers_for met.told.before
    → OverMemory (record { number = number; budget = steps; told = met.told; sink = met.sink; file = met.demo }) status → Explains met status
demo_explains met number steps Optimal asked opened enough ends = inr (record { number = number; steps = steps; asked = asked; opened = opened; enough = enough; ends = ends })
demo_explains met number steps Budget asked opened enough ends = inr (record { number = number; steps = steps; asked = asked; opened = opened; enough = enough; ends = ends })
demo_explains met number steps (Full end limit) asked opened enough ends = inr (record { number = number; steps = steps; asked = asked; opened = opened; enough = enough; ends = ends })
demo_explains met number steps Usage asked opened enough ends = absurd ends
demo_explains met number steps (Input why) asked opened enough ends = absurd ends
demo_explains met number steps (Workers n have) asked opened enough ends = absurd ends
demo_explains met number steps ReadFault asked opened enough ends = absurd ends
demo_explains met number steps WriteFault asked opened enough ends = inr (record { number = number; steps = steps; asked = asked; opened = opened; enough = enough; ends = ends })
demo_explains met number steps DiskFault asked opened enough ends = absurd ends
demo_explains met number steps NoMemory asked opened enough ends = inr (inr (record { number = number; steps = steps; asked = asked; opened = opened; enough = enough; ends = ends }))
demo_explains met number steps (Journal why) asked opened enough ends = absurd ends

-- a search has come to its source
pub reads_when : (met : Met) (command : Command) (status : Status) → EndsCommand met command status → EndsBeforeReading status → ⊥
reads_when met command Optimal ends before = before
reads_when met command Budget ends before = before
reads_when met command (Full end limit) ends before = before
reads_when met command Usage ends before = ends
reads_when met command (Input why) ends before = before
reads_when met command (Workers asked have) ends before = ends
reads_when met command ReadFault ends before = before
reads_when met command WriteFault ends before = before
reads_when met command DiskFault ends before = before
reads_when met command NoMemory ends before = before
reads_when met command (Journal why) ends before = before

-- a search that was asked for, and no demonstration, isn't unread
pub not_unread : (met : Met) (command : Command) (status : Status) → EndsCommand met command status → ((number steps : ℕ) → met.asks (from_number number steps) → ⊥) → IsUnread met.asks status → ⊥
not_unread met command status ends never (inl before) = reads_when met command status ends before
not_unread met command status ends never (inr asked) = never asked.0 asked.1 asked.2

-- a search is no demonstration
pub no_demonstration : (asked : Asked) (path : List ℕ) (workers : Option ℕ) (budget : ℕ) (table : Bool) (method : Method) (turns : Bool) (number steps : ℕ) → over_journal path workers budget table method turns ≡ asked → from_number number steps ≡ asked → ⊥
no_demonstration asked path workers budget table method turns number steps one other = absurd (cc (one, other))

-- what words leave unread is unread of what they are read as
pub unread_of : (words : List (List ℕ)) (found : Asked) (status : Status) → IsReadAs words (Some found) → IsUnread (Asks words) status → IsUnread (λ asked. asked ≡ found) status
unread_of words found status reads (inl before) = inl before
unread_of words found status reads (inr asked) = inr (asked.0, asked.1, let e : Some found ≡ Some (from_number asked.0 asked.1) = (reads (from_number asked.0 asked.1)).0 asked.2 in sym (cc (e)))

-- more workers are asked for than there are advisers for
pub too_many : (met : Met) (asked have : ℕ) (status : Status) → status ≡ Workers asked have → met.opened ≡ false → met.demo ≡ None → met.told.after ≡ []
    → AsksWorkers met.asks asked → have ≡ workers_for met.told.before → have < asked → Explains met status
too_many met asked have status is opened demo none asks all more =
    subst (Explains met) (sym is) (record { opened = opened; demo = demo }, none, record { workers = asks; all = all; more = more })

-- nothing is asked for
pub unasked : (met : Met) (status : Status) → status ≡ Usage → met.opened ≡ false → met.demo ≡ None → met.told.after ≡ [] → ((asked : Asked) → met.asks asked → ⊥) → Explains met status
unasked met status is opened demo none nothing = subst (Explains met) (sym is) (record { opened = opened; demo = demo }, none, nothing)

-- what is asked for isn't known for want of memory
pub unknown : (met : Met) (status : Status) → status ≡ NoMemory → met.opened ≡ false → met.demo ≡ None → met.told.after ≡ met.told.before → IsUncalled met.disk → Explains met status
unknown met status is opened demo same uncalled = subst (Explains met) (sym is) (inl (record { opened = opened; demo = demo }, same, uncalled))

-- a demonstration is served by the first adviser
pub demo_of_first : (met : Met) (number steps have : ℕ) (before : List ℕ) (status : Status) → met.asks (from_number number steps) → met.opened ≡ false → have ≡ workers_for before → 1 ≤ have
    → met.told.before ≡ take 1 before → OverMemory (record { number = number; budget = steps; told = met.told; sink = met.sink; file = met.demo }) status
    → Explains (record met { told = record { before = before; after = met.told.after } }) status
demo_of_first met number steps have before status asked opened all enough first ends =
    let few : 1 ≤ workers_for before = omega (arith, all, enough) in
    demo_explains (record met { told = record { before = before; after = met.told.after } }) number steps status asked opened few
    (demo_of_all (record { number = number; budget = steps; told = met.told; sink = met.sink; file = met.demo }) before first status ends)

-- ---- what the words ask for

-- words that are no command ask for nothing
pub no_command : (words : List (List ℕ)) → IsReadAs words None → (asked : Asked) → Asks words asked → ⊥
no_command words reads asked asks = let e : None ≡ Some asked = (reads asked).0 asks in absurd (cc)

-- the words ask for what they are read as
pub asks_read : (words : List (List ℕ)) (found asked : Asked) → IsReadAs words (Some found) → asked ≡ found → Asks words asked
asks_read words found asked reads same = (reads asked).1 (ap (λ (a : Asked). Some a) (sym same))

pub read_asked : (words : List (List ℕ)) (found asked : Asked) → IsReadAs words (Some found) → Asks words asked → asked ≡ found
read_asked words found asked reads asks = let e : Some found ≡ Some asked = (reads asked).0 asks in sym (cc (e))

-- how a search ended says nothing of what was asked for
module _ (met : Met) (asks : Asked → Type 0) where
  abbrev pub turned : Met
  turned = record met { asks = asks }

  unopened_turned : IsUnopened met → IsUnopened turned
  unopened_turned none = record { opened = none.opened; demo = none.demo }

  over_turned : (command : Command) (status : Status) → EndsOver met command status → EndsOver turned command status
  over_turned command status e = record { i = e.i; document = e.document; ends = e.ends; demo = e.demo }

  pub ends_turned : (command : Command) (status : Status) → EndsCommand met command status → EndsCommand turned command status
  ends_turned command Optimal e = over_turned command Optimal e
  ends_turned command Budget e = over_turned command Budget e
  ends_turned command (Full end limit) e = over_turned command (Full end limit) e
  ends_turned command WriteFault e = over_turned command WriteFault e
  ends_turned command DiskFault e = over_turned command DiskFault e
  ends_turned command (Journal why) e = over_turned command (Journal why) e
  ends_turned command (Input why) e = (unopened_turned e.0, e.1, e.2)
  ends_turned command ReadFault e = (unopened_turned e.0, e.1, e.2)
  ends_turned command NoMemory e = elim e [ inl none ↦ inl (unopened_turned none.0, none.1, none.2) | inr over ↦ inr (over_turned command NoMemory over) ]
  ends_turned command Usage e = absurd e
  ends_turned command (Workers asked have) e = absurd e

-- a run that was asked for one thing, as one with that and maybe more
module _ (met : Met) (asks : Asked → Type 0) (one : Asked) (is : met.asks one) (turn : (asked : Asked) → met.asks asked → asks asked) where
  command_turned : (command : Command) → IsCommand met.asks command → IsCommand asks command
  command_turned command c = record { workers = c.workers; method = c.method; turns = c.turns; is = turn (over_journal command.journal c.workers command.steps command.table c.method c.turns) c.is; all = c.all }

  workers_turned : (asked : ℕ) → AsksWorkers met.asks asked → AsksWorkers asks asked
  workers_turned asked (inl a) = inl (a.0, command_turned a.0 a.1, a.2)
  workers_turned asked (inr a) = inr (a.0, a.1, turn (from_number a.0 a.1) a.2, a.3)

  search_turned : (status : Status) → EndsSearch met status → EndsSearch (turned met asks) status
  search_turned status e = record { command = e.command; asked = command_turned e.command e.asked; enough = e.enough; ends = ends_turned met asks e.command status e.ends }

  demo_turned : (status : Status) → EndsDemo met status → EndsDemo (turned met asks) status
  demo_turned status e = record { number = e.number; steps = e.steps; asked = turn (from_number e.number e.steps) e.asked; opened = e.opened; enough = e.enough; ends = e.ends }

  pub explains_turned : (status : Status) → Explains met status → Explains (turned met asks) status
  explains_turned Usage e = absurd (e.2 one is)
  explains_turned (Workers asked have) e = (unopened_turned met asks e.0, e.1, record { workers = workers_turned asked e.2.workers; all = e.2.all; more = e.2.more })
  explains_turned (Input why) e = search_turned (Input why) e
  explains_turned ReadFault e = search_turned ReadFault e
  explains_turned DiskFault e = search_turned DiskFault e
  explains_turned (Journal why) e = search_turned (Journal why) e
  explains_turned Optimal e = elim e [ inl search ↦ inl (search_turned Optimal search) | inr demo ↦ inr (demo_turned Optimal demo) ]
  explains_turned Budget e = elim e [ inl search ↦ inl (search_turned Budget search) | inr demo ↦ inr (demo_turned Budget demo) ]
  explains_turned (Full end limit) e = elim e [ inl search ↦ inl (search_turned (Full end limit) search) | inr demo ↦ inr (demo_turned (Full end limit) demo) ]
  explains_turned WriteFault e = elim e [ inl search ↦ inl (search_turned WriteFault search) | inr demo ↦ inr (demo_turned WriteFault demo) ]
  explains_turned NoMemory e = elim e [
    | inl none ↦ inl (unopened_turned met asks none.0, none.1, none.2)
    | inr some ↦ inr (elim some [ inl search ↦ inl (search_turned NoMemory search) | inr demo ↦ inr (demo_turned NoMemory demo) ])
  ]

-- some worker is asked for
pub some_workers : (count : Option ℕ) → IfSome count (λ n. (1 ≤ n) × (n ≤ 9999)) → 0 < unwrap_or count workers_unsaid
some_workers None within = omega arith
some_workers (Some n) within = let least = within.0 in omega (arith, least)
