-- The canonical text of a problem.
use Rattle.std.specs.Prelude.{ℕ, Bool, not, ◌==◌, codes, List, [], ◌∷◌, map, if◌then◌else◌}
use Rattle.std.specs.Cmp.Lexicographic.{pointwise}
use Rattle.serde_json.specs.Data.{Data, number, unsigned, string, array, object, Items, no_items, item, Members, no_members, member}
use Rattle.serde_json.specs.Written.{compact_text}
use Rattle.break_rules.specs.declared.Lunch.{Lunch}
use Rattle.break_rules.specs.declared.Rule.{Rule}
use Rattle.shift_instance.specs.Kind.{Kind}
use Rattle.shift_instance.specs.Problem.{Problem}

-- a number as a JSON value
abbrev pub number_data : ℕ → Data
number_data n = number (unsigned n)

-- a list as a JSON value
abbrev pub items_data : List Data → Items
items_data [] = no_items
items_data (d ∷ ds) = item d (items_data ds)

abbrev pub list_data : List Data → Data
list_data ds = array (items_data ds)

-- an entry of a rule's total break times: the length from which it counts, and the total
abbrev pub total_data : ℕ × ℕ → Data
total_data t = list_data (number_data t.0 ∷ number_data t.1 ∷ [])

-- a lunch entry: the length from which it counts, its size, and the offsets between which it lies
abbrev pub lunch_data : Lunch → Data
lunch_data l = list_data (number_data l.from_len ∷ number_data l.size ∷ number_data l.first ∷ number_data l.last ∷ [])

-- a break rule, with all its fields in byte order of their names
unfoldable pub rule_data : Rule → Data
rule_data r =
    object (member (codes "lead") (number_data r.lead)
    (member (codes "long_rest") (number_data r.long_rest)
    (member (codes "long_work") (number_data r.long_work)
    (member (codes "lunches") (list_data (map lunch_data r.lunches))
    (member (codes "resettle") (number_data r.resettle)
    (member (codes "size_max") (number_data r.size_max)
    (member (codes "size_min") (number_data r.size_min)
    (member (codes "tail") (number_data r.tail)
    (member (codes "totals") (list_data (map total_data r.totals))
    (member (codes "work_max") (number_data r.work_max)
    (member (codes "work_min") (number_data r.work_min)
    no_members)))))))))))

-- a shift type, with its break rule as an object
unfoldable pub kind_data : Kind → Data
kind_data k =
    object (member (codes "breaks") (rule_data k.rule)
    (member (codes "len_max") (number_data k.len_max)
    (member (codes "len_min") (number_data k.len_min)
    (member (codes "name") (string k.name)
    (member (codes "start_max") (number_data k.start_max)
    (member (codes "start_min") (number_data k.start_min)
    no_members))))))

-- the weights of a problem
unfoldable pub weights_data : Problem → Data
weights_data p =
    object (member (codes "excess") (number_data p.excess)
    (member (codes "shift") (number_data p.shift)
    (member (codes "shortage") (number_data p.shortage)
    no_members)))

-- whether the most wanted employees differ from the need in some slot
abbrev pub is_banded : Problem → Bool
is_banded p = not (pointwise ◌==◌ p.need p.need_max)

-- the most wanted employees as a member before others, where they are stated
abbrev pub with_bands : Bool → List ℕ → Members → Members
with_bands stated most later = if stated then member (codes "need_max") (list_data (map number_data most)) later else later

-- a problem as a document, with its bands stated or left out
abbrev pub document_stating : Bool → Problem → Data
document_stating stated p =
    object (member (codes "days") (number_data p.days)
    (member (codes "max_heads") (number_data p.heads)
    (member (codes "need") (list_data (map number_data p.need))
    (with_bands stated p.need_max
    (member (codes "slot_minutes") (number_data p.slot_minutes)
    (member (codes "types") (list_data (map kind_data p.kinds))
    (member (codes "weights") (weights_data p)
    no_members)))))))

-- a problem as a document: its bands are stated exactly where some slot has more than one wanted number
unfoldable pub document_data : Problem → Data
document_data p = document_stating (is_banded p) p

-- the compact text of a problem's document
unfoldable pub canonical_text : Problem → List ℕ
canonical_text p = compact_text (document_data p)
