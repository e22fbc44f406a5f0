-- The canonical text of a valid problem is read as that problem.
use Rattle.instance_json.proofs.Common.{◌≡◌, ℕ, ◌≤◌, Bool, true, false, nat_lt, List, [], ◌∷◌, map, All, codes, IsTrue, None, Some, Ok, Err, refl, sym, ap, ◌∙◌, arith, and_parts, nat_tests, list_all, option_map_or, are_ascii, Members, no_members, member, max_depth, compact_text, outline, first_cause, Lunch, Rule, IsTotal, IsLunch, IsRule, ranges_from_none, instance_causes, Kind, is_name, is_name_byte, Problem, IsValid, IsKind, NotJson, number_data, list_data, total_data, lunch_data, rule_data, kind_data, weights_data, is_banded, document_stating, document_data, canonical_text, reading_of, value_of, value_reading, problem_reading}
use Rattle.json.specs.Tree as tree
use Rattle.instance_json.proofs.ReadBack.{IsSound, AreSoundMembers, text_utf8, text_read, sound_items, items_depth}
use Rattle.instance_json.proofs.Readings.{reading_of-short, value_of-text, value_reading-document, problem_reading-ok}
use Rattle.instance_json.proofs.Restated.{document_fits, problem_restated}
use Rattle.instance_json.proofs.Sizes.{canonical_length, slot_minutes_limit}

total_sound : (t : ℕ × ℕ) → IsTotal t → IsSound (total_data t)
total_sound t h = (omega (arith, h.from), (omega (arith, h.total), tt))

lunch_sound : (l : Lunch) → IsLunch l → IsSound (lunch_data l)
lunch_sound l h = (omega (arith, h.from_len), (omega (arith, h.room, h.last), (omega (arith, h.room, h.last), (omega (arith, h.last), tt))))

rule_sound : (r : Rule) → IsRule r → IsSound (rule_data r)
unfolding rule_data
rule_sound r h = (
  refl,
  (
    refl,
    omega (arith, h.lead),
    (
      refl,
      omega (arith, h.long_rest),
      (
        refl,
        omega (arith, h.long_work),
        (
          refl,
          sound_items lunch_data IsLunch lunch_sound r.lunches h.lunches,
          (
            refl,
            omega (arith, h.resettle_limit),
            (
              refl,
              omega (arith, h.size_limit),
              (
                refl,
                omega (arith, h.sizes, h.size_limit),
                (
                  refl,
                  omega (arith, h.tail),
                  (
                    refl,
                    sound_items total_data IsTotal total_sound r.totals h.totals,
                    (
                      refl,
                      omega (arith, h.work_limit),
                      (
                        refl,
                        omega (arith, h.work, h.work_limit),
                        tt,
                      ),
                    ),
                  ),
                ),
              ),
            ),
          ),
        ),
      ),
    ),
  ),
)

bytes_ascii : (name : List ℕ) → list_all is_name_byte name ≡ true → are_ascii name ≡ true
bytes_ascii [] h = refl
bytes_ascii (b ∷ name) h =
    let parts = and_parts (is_name_byte b) (list_all is_name_byte name) h in
    let small : nat_lt b 128 ≡ true = grind (arith, nat_tests, parts.0) in
    rw small (bytes_ascii name parts.1)

name_ascii : (name : List ℕ) → IsTrue (is_name name) → are_ascii name ≡ true
name_ascii name h = bytes_ascii name (grind (arith, nat_tests))

kind_sound : (i : Problem) → IsValid i → (k : Kind) → IsKind i k → IsSound (kind_data k)
unfolding kind_data rule_data
kind_sound i v k h = (
  refl,
  (
    refl,
    rule_sound k.rule (ranges_from_none k.rule h.passes),
    (
      refl,
      omega (arith, h.short, v.day_limit),
      (
        refl,
        omega (arith, h.lengths, h.short, v.day_limit),
        (
          refl,
          name_ascii k.name h.name,
          (
            refl,
            omega (arith, h.early, v.day_limit),
            (
              refl,
              omega (arith, h.starts, h.early, v.day_limit),
              tt,
            ),
          ),
        ),
      ),
    ),
  ),
)

number_sound : (n : ℕ) → n ≤ 10000 → IsSound (number_data n)
number_sound n h = omega arith

wanted_sound : (ns : List ℕ) → All (λ n. n ≤ 10000) ns → IsSound (list_data (map number_data ns))
wanted_sound ns h = sound_items number_data (λ n. n ≤ 10000) number_sound ns h

-- the members of a document from the slots' length on
rest_data : Problem → Members
rest_data i =
    member (codes "slot_minutes") (number_data i.slot_minutes)
    (member (codes "types") (list_data (map kind_data i.kinds))
    (member (codes "weights") (weights_data i)
    no_members))

rest_sound : (i : Problem) → IsValid i → AreSoundMembers (rest_data i)
unfolding rest_data weights_data
rest_sound i v = (
  refl,
  omega (arith, slot_minutes_limit i v),
  (
    refl,
    sound_items kind_data (IsKind i) (kind_sound i v) i.kinds v.kinds,
    (
      refl,
      (refl, (refl, omega (arith, v.excess), (refl, omega (arith, v.shift), (refl, omega (arith, v.shortage), tt)))),
      tt,
    ),
  ),
)

stating_sound : (stated : Bool) (i : Problem) → IsValid i → IsSound (document_stating stated i)
unfolding rest_data
stating_sound true i v = (
  refl,
  (
    refl,
    omega (arith, v.days),
    (
      refl,
      omega (arith, v.heads),
      (
        refl,
        wanted_sound i.need v.need_limit,
        (
          refl,
          wanted_sound i.need_max v.band_limit,
          rest_sound i v,
        ),
      ),
    ),
  ),
)
stating_sound false i v = (
  refl,
  (
    refl,
    omega (arith, v.days),
    (
      refl,
      omega (arith, v.heads),
      (
        refl,
        wanted_sound i.need v.need_limit,
        rest_sound i v,
      ),
    ),
  ),
)

kind_depth : (k : Kind) → tree.depth (outline (kind_data k)) ≤ 4
unfolding kind_data rule_data
kind_depth k =
    omega (arith, items_depth lunch_data 1 (λ l. omega arith) k.rule.lunches, items_depth total_data 1 (λ t. omega arith) k.rule.totals)

stating_depth : (stated : Bool) (i : Problem) → tree.depth (outline (document_stating stated i)) ≤ max_depth
unfolding weights_data
stating_depth true i =
    omega (arith, items_depth number_data 0 (λ n. omega arith) i.need, items_depth number_data 0 (λ n. omega arith) i.need_max, items_depth kind_data 4 kind_depth i.kinds)
stating_depth false i = omega (arith, items_depth number_data 0 (λ n. omega arith) i.need, items_depth kind_data 4 kind_depth i.kinds)

document_sound : (i : Problem) → IsValid i → IsSound (document_data i)
unfolding document_data
document_sound i v = stating_sound (is_banded i) i v

document_depth : (i : Problem) → tree.depth (outline (document_data i)) ≤ max_depth
unfolding document_data
document_depth i = stating_depth (is_banded i) i

pub canonical_read : (i : Problem) → IsValid i → first_cause (instance_causes i) ≡ None → reading_of (canonical_text i) ≡ Ok i
unfolding canonical_text
canonical_read i v none =
    let d = document_data i in
    let text = compact_text d in
    let sound = document_sound i v in
    let value : value_of text ≡ Some d = value_of-text text (text_utf8 d sound) ∙ text_read d sound (document_depth i) in
    reading_of-short text (canonical_length i v)
    ∙ ap (λ o. option_map_or value_reading o (Err NotJson)) value
    ∙ value_reading-document d (sym (document_fits i))
    ∙ ap problem_reading (problem_restated i v)
    ∙ problem_reading-ok i i refl none
