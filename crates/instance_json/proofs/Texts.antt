-- The canonical text's value, and that it has no float.
use Rattle.instance_json.proofs.Common.{if◌then◌else◌, ◌≡◌, Bool, true, false, codes, List, [], ◌∷◌, map, refl, ap, ◌∙◌, Rule, Kind, Problem, Data, object, item, Members, no_members, put, view, items_view, has_float, items_have_float, Value, items_data, number_data, list_data, total_data, lunch_data, rule_data, kind_data, weights_data, is_banded, document_stating, document_data}

-- the items of a list of values
pub items_of_values : (vs : List Value) → items_view vs ≡ items_data (map view vs)
items_of_values [] = refl
items_of_values (v ∷ vs) = ap (item (view v)) (items_of_values vs)

no_floats : {A : Type 0} (f : A → Data) → ((x : A) → has_float (f x) ≡ false) → (xs : List A) → items_have_float (items_data (map f xs)) ≡ false
no_floats f h [] = refl
no_floats f h (x ∷ xs) = rw (h x) (no_floats f h xs)

has_float-rule : (r : Rule) → has_float (rule_data r) ≡ false
unfolding rule_data
has_float-rule r = rw (no_floats lunch_data (λ x. refl) r.lunches, no_floats total_data (λ x. refl) r.totals)

has_float-kind : (k : Kind) → has_float (kind_data k) ≡ false
unfolding kind_data
has_float-kind k = rw (has_float-rule k.rule)

-- the members of a document, put one after another: those up to the needs, and those behind the bands
abbrev pub front_put : Problem → Members
front_put p = put (codes "need") (list_data (map number_data p.need)) (put (codes "max_heads") (number_data p.heads) (put (codes "days") (number_data p.days) no_members))

abbrev pub rest_put : Problem → Members → Members
rest_put p ms =
    put (codes "weights") (weights_data p) (put (codes "types") (list_data (map kind_data p.kinds)) (put (codes "slot_minutes") (number_data p.slot_minutes) ms))

abbrev pub bands_put : Bool → Problem → Members → Members
bands_put stated p ms = if stated then put (codes "need_max") (list_data (map number_data p.need_max)) ms else ms

stating_put : (stated : Bool) (p : Problem) → object (rest_put p (bands_put stated p (front_put p))) ≡ document_stating stated p
stating_put true p = refl
stating_put false p = refl

pub document_put : (p : Problem) → object (rest_put p (bands_put (is_banded p) p (front_put p))) ≡ document_data p
unfolding document_data
document_put p = stating_put (is_banded p) p

-- the same, one put after another
pub document_joined : (p : Problem) (nv tv wv : Data) (m0 m1 m2 m3 m4 m5 m6 m7 : Members) → nv ≡ list_data (map number_data p.need) → tv ≡ list_data (map kind_data p.kinds) → wv ≡ weights_data p → m0 ≡ no_members
    → m1 ≡ put (codes "days") (number_data p.days) m0 → m2 ≡ put (codes "max_heads") (number_data p.heads) m1 → m3 ≡ put (codes "need") nv m2 → m4 ≡ bands_put (is_banded p) p m3
    → m5 ≡ put (codes "slot_minutes") (number_data p.slot_minutes) m4 → m6 ≡ put (codes "types") tv m5 → m7 ≡ put (codes "weights") wv m6 → object m7 ≡ document_data p
document_joined p nv tv wv m0 m1 m2 m3 m4 m5 m6 m7 n t w e0 e1 e2 e3 e4 e5 e6 e7 =
    let front : m3 ≡ front_put p =
    e3 ∙ ap (λ (v : Data). put (codes "need") v m2) n
    ∙ ap (put (codes "need") (list_data (map number_data p.need))) (e2 ∙ ap (put (codes "max_heads") (number_data p.heads)) (e1 ∙ ap (put (codes "days") (number_data p.days)) e0)) in
    let later : m6 ≡ put (codes "types") (list_data (map kind_data p.kinds)) m5 = e6 ∙ ap (λ (v : Data). put (codes "types") v m5) t in
    let all : m7 ≡ rest_put p m4 =
    e7 ∙ ap (λ (v : Data). put (codes "weights") v m6) w
    ∙ ap (put (codes "weights") (weights_data p)) (later ∙ ap (put (codes "types") (list_data (map kind_data p.kinds))) e5) in
    ap object (all ∙ ap (rest_put p) (e4 ∙ ap (bands_put (is_banded p) p) front)) ∙ document_put p

has_float-stating : (stated : Bool) (p : Problem) → has_float (document_stating stated p) ≡ false
unfolding weights_data
has_float-stating true p =
    rw (no_floats number_data (λ x. refl) p.need, no_floats number_data (λ x. refl) p.need_max, no_floats kind_data has_float-kind p.kinds)
has_float-stating false p = rw (no_floats number_data (λ x. refl) p.need, no_floats kind_data has_float-kind p.kinds)

-- no document has a float
pub has_float-document : (p : Problem) → has_float (document_data p) ≡ false
unfolding document_data
has_float-document p = has_float-stating (is_banded p) p
