use Rattle.instance_tables.proofs.Common.{◌≡◌, ℕ, ◌++◌, IfOk, List, [], ◌∷◌, ap, ◌∙◌, subst, default_writer, row_text, entries_text, lunch_text, total_text}
use Rattle.instance_tables.proofs.export_rules.with_rule.Goals as goal

-- two lists of fields whose first ones and whose rests are the same
before : {x y : List ℕ} {xs ys : List (List ℕ)} → x ≡ y → xs ≡ ys → x ∷ xs ≡ y ∷ ys
before {x} {y} {xs} {ys} e f = ap (λ (z : List ℕ). z ∷ xs) e ∙ ap (λ (zs : List (List ℕ)). y ∷ zs) f

-- two lists of one field, which are the same
last : {x y : List ℕ} → x ≡ y → x ∷ [] ≡ y ∷ []
last e = ap (λ (z : List ℕ). z ∷ []) e

pub returns : goal.returns
returns c =
    subst (λ (fields : List (List ℕ)). IfOk c.with.result (λ r. r ≡ c.args.records ++ row_text default_writer fields))
    (before (c.as_bytes.ensures.value ∙ c.in_ok-name.ensures)
    (before (c.as_bytes-2.ensures.value ∙ c.in_ok-work.ensures.lead)
    (before (c.as_bytes-3.ensures.value ∙ c.in_ok-work.ensures.tail)
    (before (c.as_bytes-4.ensures.value ∙ c.in_ok-work.ensures.work_min)
    (before (c.as_bytes-5.ensures.value ∙ c.in_ok-work.ensures.work_max)
    (before (c.as_bytes-6.ensures.value ∙ c.in_ok-work.ensures.long_work)
    (before (c.as_bytes-7.ensures.value ∙ c.in_ok-breaks.ensures.long_rest)
    (before (c.as_bytes-8.ensures.value ∙ c.in_ok-breaks.ensures.size_min)
    (before (c.as_bytes-9.ensures.value ∙ c.in_ok-breaks.ensures.size_max)
    (before (c.as_bytes-10.ensures.value ∙ c.in_ok-totals.ensures ∙ ap (entries_text (total_text c.args.slot_minutes)) c.as_slice.ensures)
    (before (c.as_bytes-11.ensures.value ∙ c.in_ok-lunches.ensures ∙ ap (entries_text (lunch_text c.args.slot_minutes)) c.as_slice-2.ensures)
    (last (c.as_bytes-12.ensures.value ∙ c.in_ok-breaks.ensures.resettle)))))))))))))
    c.with.ensures
