-- What a text is read as, case by case.
use Rattle.instance_json.proofs.Common.{◌≡◌, ℕ, ◌<◌, ◌≤◌, Bool, true, false, cond, List, length, Option, Some, None, Result, Ok, Err, IsUtf8, refl, sym, ap, ◌∙◌, cond, arith, nat_tests, IsUtf8-from_is_utf8, is_utf8-from_IsUtf8, option_map_or, first_cause, Data, read, Problem, instance_causes, Answers, TooLong, NotJson, Missing, UnknownField, WrongKind, Invalid, NoMemory, document_departure, problem_of, value_of, problem_reading, value_reading, reading_of, IsAnswer, refusal_of}
use Rattle.std.specs.Str.{is_utf8}
use Rattle.shift_instance.specs.declared.InstanceFault.{InstanceFault}
use Rattle.shift_instance.specs.declared.InstanceFault.TheVariants as fault
use Rattle.instance_json.specs.declared.TheConstants.{INSTANCE_MAX}
use Rattle.instance_json.specs.declared.ReadRefusal.{ReadRefusal}

not_chosen : (b : Bool) (o : Option Data) → (b ≡ true → ⊥) → cond b o None ≡ None
not_chosen true o h = absurd (h refl)
not_chosen false o h = refl

-- bytes that aren't UTF-8 have no value
pub value_of-other : (bs : List ℕ) → ¬ IsUtf8 bs → value_of bs ≡ None
unfolding value_of
value_of-other bs h = not_chosen (is_utf8 bs) (read bs) (λ e. h (IsUtf8-from_is_utf8 bs e))

-- the value of a text
pub value_of-text : (bs : List ℕ) → IsUtf8 bs → value_of bs ≡ read bs
unfolding value_of
value_of-text bs h = ap (λ b. cond b (read bs) None) (is_utf8-from_IsUtf8 bs h)

-- a problem that nothing keeps from being an instance
pub problem_reading-ok : (p i : Problem) → i ≡ p → first_cause (instance_causes p) ≡ None → problem_reading p ≡ Ok i
unfolding problem_reading
problem_reading-ok p i is h = ap (λ o. option_map_or (λ fault. Err (Invalid fault)) o (Ok p)) h ∙ ap Ok (sym is)

faulty : (p : Problem) (e : InstanceFault) → first_cause (instance_causes p) ≡ Some e → problem_reading p ≡ Err (Invalid e)
unfolding problem_reading
faulty p e h = ap (λ o. option_map_or (λ fault. Err (Invalid fault)) o (Ok p)) h

-- a problem that isn't an instance is refused
pub problem_reading-fault : (e : InstanceFault) (p : Problem) → Answers e (first_cause (instance_causes p)) → IsAnswer (refusal_of e) (problem_reading p)
problem_reading-fault fault.NoMemory p h = tt
problem_reading-fault fault.SlotMinutes p h = faulty p _ h
problem_reading-fault fault.Days p h = faulty p _ h
problem_reading-fault (fault.NeedLength found wanted) p h = faulty p _ h
problem_reading-fault (fault.NeedTooLarge slot) p h = faulty p _ h
problem_reading-fault fault.Weight p h = faulty p _ h
problem_reading-fault fault.Heads p h = faulty p _ h
problem_reading-fault (fault.Types found) p h = faulty p _ h
problem_reading-fault (fault.StartRange kind) p h = faulty p _ h
problem_reading-fault (fault.LengthRange kind) p h = faulty p _ h
problem_reading-fault (fault.Rule kind why) p h = faulty p _ h
problem_reading-fault (fault.TooManyShifts found) p h = faulty p _ h
problem_reading-fault (fault.Name kind) p h = faulty p _ h
problem_reading-fault (fault.BandLength found wanted) p h = faulty p _ h
problem_reading-fault (fault.Band slot) p h = faulty p _ h

-- a value that departs from a document is refused, with its departure
pub value_reading-refused : (d : Data) (e : ReadRefusal) → Some e ≡ document_departure d → value_reading d ≡ Err e
unfolding value_reading
value_reading-refused d e h = ap (λ o. option_map_or Err o (problem_reading (problem_of d))) (sym h)

-- a refusal is the answer to what it is the reading of
pub answers_itself : (e : ReadRefusal) (reading : Result Problem ReadRefusal) → reading ≡ Err e → IsAnswer e reading
answers_itself NoMemory reading h = tt
answers_itself TooLong reading h = h
answers_itself NotJson reading h = h
answers_itself (Missing at field) reading h = h
answers_itself (UnknownField at field) reading h = h
answers_itself (WrongKind at field) reading h = h
answers_itself (Invalid fault) reading h = h

-- a document is read as its problem
pub value_reading-document : (d : Data) → None ≡ document_departure d → value_reading d ≡ problem_reading (problem_of d)
unfolding value_reading
value_reading-document d e = ap (λ o. option_map_or Err o (problem_reading (problem_of d))) (sym e)

kept : (o : Option InstanceFault) (p i : Problem) → option_map_or (λ fault. Err (Invalid fault)) o (Ok p) ≡ Ok i → i ≡ p
kept None p i h = cc
kept (Some e) p i h = cc

stated : (o : Option ReadRefusal) (p i : Problem) → option_map_or Err o (problem_reading p) ≡ Ok i → i ≡ p
unfolding problem_reading
stated None p i h = kept (first_cause (instance_causes p)) p i h
stated (Some e) p i h = cc

-- what is read is what the document states
pub value_reading-stated : (d : Data) (i : Problem) → value_reading d ≡ Ok i → i ≡ problem_of d
unfolding value_reading
value_reading-stated d i h = stated (document_departure d) (problem_of d) i h

pub reading_of-long : (bs : List ℕ) → INSTANCE_MAX < length bs → reading_of bs ≡ Err TooLong
unfolding reading_of
reading_of-long bs h = grind (arith, nat_tests)

-- a text that is short enough is read as its value
pub reading_of-short : (bs : List ℕ) → length bs ≤ INSTANCE_MAX → reading_of bs ≡ option_map_or value_reading (value_of bs) (Err NotJson)
unfolding reading_of
reading_of-short bs h = grind (arith, nat_tests)
