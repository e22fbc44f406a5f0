-- When a certificate is accepted whose nodes are known.
use Rattle.report_joins.proofs.Common.{◌≡◌, ◌⊎◌, ℕ, ◌<◌, ◌≤◌, Bool, true, false, ◌&&◌, nat_le, List, [], ◌∷◌, refl, sym, ap, ◌∙◌, subst, arith, Option, Some, None, IsFalse, IsTrue, option_map, option_map_or, and_from, and_parts, cases_Bool, le-leb, leb-true, lt-leb, Problem, Row, Node, new_node, Cert, is_accepted, is_bound, is_plan, least_floor, nodes_of}
use Rattle.cert_check.specs.declared.judged.Refused.{Refused}
use Rattle.cert_check.specs.declared.judged.Refused.TheVariants.{BadSplit, BadPrice, NotSettled, BoundTooHigh, BadPlan, WrongCost, NoMemory}
use Rattle.cert_check.specs.Judged.{cause_of, IsRefused}

-- both facts of a refusal that isn't running out of memory
both : (i : Problem) (c : Cert) (why : Refused) → IsRefused i c why → (why ≡ NoMemory → ⊥) → (cause_of i c ≡ Some why) × IsFalse (is_accepted i c)
both i c (BadSplit line) refused other = refused
both i c (BadPrice line) refused other = refused
both i c (NotSettled line) refused other = refused
both i c (BoundTooHigh claimed found) refused other = refused
both i c (BadPlan row) refused other = refused
both i c (WrongCost claimed found) refused other = refused
both i c NoMemory refused other = absurd (other refl)

pub not_both : (b : Bool) → b ≡ true → b ≡ false → ⊥
not_both true t f = absurd (cc)
not_both false t f = absurd (cc)

-- ---- by the nodes that the lines make

bound_is : (i : Problem) (c : Cert) (nodes : List Node) → nodes_of i c.lines ≡ Some nodes → is_bound i c.lines c.bound ≡ nat_le c.bound (least_floor nodes)
bound_is i c nodes e = ap (λ (o : Option (List Node)). option_map_or (λ ns. nat_le c.bound (least_floor ns)) o false) e

pub accepted_by : (i : Problem) (c : Cert) (nodes : List Node) → nodes_of i c.lines ≡ Some nodes → c.bound ≤ least_floor nodes → is_plan i c.plan ≡ true → is_accepted i c ≡ true
accepted_by i c nodes e low plan =
    and_from (is_bound i c.lines c.bound) (is_plan i c.plan) (bound_is i c nodes e ∙ le-leb c.bound (least_floor nodes) low) plan

and_left : (a b : Bool) → a ≡ false → (a && b) ≡ false
and_left true b e = absurd (cc)
and_left false b e = refl

pub bad_lines : (i : Problem) (c : Cert) → nodes_of i c.lines ≡ None → is_accepted i c ≡ false
bad_lines i c e =
    let bad : is_bound i c.lines c.bound ≡ false = ap (λ (o : Option (List Node)). option_map_or (λ ns. nat_le c.bound (least_floor ns)) o false) e in
    and_left (is_bound i c.lines c.bound) (is_plan i c.plan) bad

pub bad_bound : (i : Problem) (c : Cert) (nodes : List Node) → nodes_of i c.lines ≡ Some nodes → least_floor nodes < c.bound → is_accepted i c ≡ false
bad_bound i c nodes e high =
    and_left (is_bound i c.lines c.bound) (is_plan i c.plan) (bound_is i c nodes e ∙ lt-leb c.bound (least_floor nodes) high)

-- an accepted certificate's plan
pub plan_of : (i : Problem) (c : Cert) → is_accepted i c ≡ true → is_plan i c.plan ≡ true
plan_of i c h = (and_parts (is_bound i c.lines c.bound) (is_plan i c.plan) h).1

-- a certificate without lines that claims nothing is accepted by its plan alone
pub bare_plan : (i : Problem) (c : Cert) → c.lines ≡ [] → c.bound ≡ 0 → is_accepted i c ≡ is_plan i c.plan
bare_plan i c none zero =
    let low : c.bound ≤ least_floor (new_node [] ∷ []) = omega (arith, zero) in
    let good : is_bound i c.lines c.bound ≡ true = bound_is i c (new_node [] ∷ []) (ap (nodes_of i) none) ∙ le-leb c.bound (least_floor (new_node [] ∷ [])) low in
    ap (λ b. b && is_plan i c.plan) good

pub judged_plan : (i : Problem) (c : Cert) (plan : Option (ℕ × List Row)) (b : Bool) → c.lines ≡ [] → c.bound ≡ 0 → c.plan ≡ plan → is_accepted i c ≡ b → b ≡ is_plan i plan
judged_plan i c plan b none zero same judged = sym judged ∙ bare_plan i c none zero ∙ ap (is_plan i) same
