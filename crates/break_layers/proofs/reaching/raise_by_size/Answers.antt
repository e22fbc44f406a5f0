use Rattle.break_layers.proofs.Common.{◌≡◌, ◌+◌, ◌*◌, ◌-◌, ◌<◌, ◌≤◌, ◌==◌, Bool, ℕ, ℤ, inl, inr, true, false, List, [], ◌∷◌, ◌++◌, IsTrue, length, map, get_or, nat_le, bit_and, bit_or, refl, sym, ap, subst, ◌∙◌, arith, int_max, and_from, and_left, and_right, cases_lt, le-leb, lt-leb, eqb-true, Break, Lunch, Rule, end_of, is_lunch, keeps_ends, total_of, IsRule, bits_of, end_of_all, is_walk, may_follow, spot_of, is_walk-more, bounds, total_small, AreSums, Layer, NOTHING, number_in, AreLayersBefore, IsBehindBy, IsInWindow, IsRaised, IsSizeIn, layer_number, layer_of, layer_place, size_limit_of}
use Rattle.std.proofs.lemmas.Nat.{or_disjoint, and_le_r}
use Rattle.break_layers.proofs.Reach.{behind_by, behind_none, may_follow_in}
use Rattle.break_layers.proofs.Rows.{number_of_day, row_more, row_left, set_other}
use Rattle.break_layers.proofs.Table.{behind_place, behind_spot}
use Rattle.break_layers.proofs.reaching.raise_by_size.Goals as goal

none_bits : (p : Lunch → Bool) (es : List Lunch) → (length es == 0) ≡ true → bits_of p es ≡ 0
none_bits p [] h = refl
none_bits p (e ∷ es) h = absurd (omega (arith, eqb-true _ _ h))

or_nought : (n : ℕ) → bit_or n 0 ≡ n
or_nought n = or_disjoint n 0 (let e : bit_and n 0 ≡ 0 = omega (arith, and_le_r n 0) in e) ∙ omega arith

-- the number at the place behind a break is what is earned there
behind_is : (rule : Rule) (len : ℕ) (sums table : List ℤ) (layer : Layer) (b : Break) (left lunches : ℕ) (x : ℤ) → IsRule rule → AreSums len sums
    → AreLayersBefore rule len sums (layer_number rule len layer * (len + 1)) table → IsSizeIn rule len layer b.len → keeps_ends rule len b ≡ true
    → left ≡ total_of rule len - (layer.used + b.len) → lunches ≡ bit_or layer.lunches (bits_of (λ e. is_lunch e b) rule.lunches)
    → x ≡ number_in table ((left * 4 + lunches) * (len + 1) + (b.start + b.len))
    → (list : List Break) → IsTrue (is_walk rule len list) → layer ≡ layer_of rule list → IsInWindow rule list b → IsBehindBy rule len sums list b x
behind_is rule len sums table layer b left lunches x r s known size ends from bits at list walk is window =
    let follows = may_follow_in rule len sums list r s layer b is size window ends in
    let p = bounds rule len (end_of_all list) (spot_of rule list).used b follows in
    let on : is_walk rule len (list ++ b ∷ []) ≡ true =
    is_walk-more rule len list b ∙ and_from (is_walk rule len list) (may_follow rule len (end_of_all list) (spot_of rule list).used b) walk follows in
    let spot = behind_spot rule len list b r layer (b.start + b.len) (layer.used + b.len) (bits_of (λ e. is_lunch e b) rule.lunches) is refl refl refl in
    let own : (left * 4 + lunches) * (len + 1) + (b.start + b.len) ≡ layer_place rule len (spot_of rule (list ++ b ∷ [])) =
    ap (λ n. (n * 4 + lunches) * (len + 1) + (b.start + b.len)) from
    ∙ ap (λ n. ((total_of rule len - (layer.used + b.len)) * 4 + n) * (len + 1) + (b.start + b.len)) bits ∙ ap (layer_place rule len) spot in
    subst (IsBehindBy rule len sums list b) (sym (at ∙ ap (number_in table) own))
    (behind_by rule len sums list r s b (number_in table (layer_place rule len (spot_of rule (list ++ b ∷ [])))) (known (list ++ b ∷ []) on (behind_place rule len list b r layer is p.some on)))

pub loop-start-preserved : goal.loop-start-preserved
loop-start-preserved g c =
    let rule = c.args.rule.now in
    let len = c.args.len in
    let row = c.loop-start.row in
    let start = c.loop-start.start in
    let i = c.loop-start.invariant in
    let b : Break = record { start = start; len = c.args.size } in
    let x = c.raise.new.self in
    let inside : start < length row = omega (arith, c.loop-start.auto.row) in
    let ends : keeps_ends rule len b ≡ true = and_from (nat_le rule.lead start) (nat_le (end_of b + rule.tail) len) (le-leb _ _ (omega arith)) (le-leb _ _ (omega arith)) in
    let most : c.args.size ≤ size_limit_of rule len c.args.layer = c.requires.size.most in
    let used : c.saturating_add.result ≡ c.args.layer.used + c.args.size = omega (arith, total_small rule len c.requires.rule, c.requires.size.least, c.requires.rule.some_size) in
    let left : c.time_left-left.result ≡ total_of rule len - (c.args.layer.used + c.args.size) = c.time_left-left.ensures ∙ ap (λ n. total_of rule len - n) used in
    let bits : bit_or c.args.layer.lunches c.lunches_met.result ≡ bit_or c.args.layer.lunches (bits_of (λ e. is_lunch e b) rule.lunches) =
    ap (bit_or c.args.layer.lunches) (c.lunches_met.ensures.bits ∙ c.lunches_of-entries.ensures.bits b refl ∙ ap (bits_of (λ e. is_lunch e b)) c.as_slice.ensures) in
    let at : (c.time_left-left.result * 4 + bit_or c.args.layer.lunches c.lunches_met.result) * (len + 1) + (start + c.from-in-loop-start.result) ≡ (c.time_left-left.result * 4 + bit_or c.args.layer.lunches c.lunches_met.result) * (len + 1) + (start + c.args.size) =
    ap (λ n. (c.time_left-left.result * 4 + bit_or c.args.layer.lunches c.lunches_met.result) * (len + 1) + (start + n)) c.from-in-loop-start.ensures in
    record {
      early = λ day k less. set_other (g.N.Number.on day) row start k x (λ e. omega (arith, e, less)) ∙ i.early day k less;
      done = λ day sums d s known.
          let on = g.N.Number.on day in
          let old = map on c.args.row.now in
          let one : on (get_or row start c.index-row-start.result) ≡ number_in old start = sym (number_of_day on row start c.index-row-start.result inside) ∙ i.left day start (omega arith) in
          row_more on row start x (λ k (z : ℤ). rule.lead ≤ k → IsRaised rule len sums c.args.layer (record { start = k; len = c.args.size }) (number_in old k) z) inside (i.done day sums d s known)
          (λ low. record {
            most = on c.number_at-most.result;
            exact = behind_is rule len sums (map on c.args.table.now) c.args.layer b c.time_left-left.result (bit_or c.args.layer.lunches c.lunches_met.result) (on c.number_at-most.result) c.requires.rule s known c.requires.size ends left bits (c.number_at-most.ensures day d ∙ ap (number_in (map on c.args.table.now)) (c.place_at-behind-in-loop-start.ensures.place ∙ at));
            raised = inl (c.raise.ensures day d ∙ ap (λ (z : ℤ). int_max z (on c.number_at-most.result)) one);
          });
      left = λ day. row_left (g.N.Number.on day) row start x (number_in (map (g.N.Number.on day) c.args.row.now)) (i.left day);
    }

pub returns-then-is_empty : goal.returns-then-is_empty
returns-then-is_empty g c = λ day sums d s known start inside.
    let on = g.N.Number.on day in
    let rule = c.args.rule.now in
    let len = c.args.len in
    let b : Break = record { start = start; len = c.args.size } in
    let old = number_in (map on c.args.row.now) start in
    let new = number_in (map on c.raise_between.new.row) start in
    let end : c.saturating_sub-end.result ≡ len + 1 - (rule.tail + c.args.size) = omega arith in
    let kept : keeps_ends rule len b ≡ false → new ≡ old → IsRaised rule len sums c.args.layer b old new =
    λ far same. record { most = NOTHING; exact = λ list walk is window. behind_none rule len sums list c.requires.rule s b far; raised = inr (refl, same) } in
    elim (cases_lt start rule.lead) [
      | inl early ↦ kept (and_left (nat_le rule.lead start) (nat_le (end_of b + rule.tail) len) (lt-leb _ _ early)) (c.raise_between.ensures.before day start (omega arith))
      | inr first ↦ elim (cases_lt start c.saturating_sub-end.result) [
        | inl done ↦
            let ends : keeps_ends rule len b ≡ true = and_from (nat_le rule.lead start) (nat_le (end_of b + rule.tail) len) (le-leb _ _ first) (le-leb _ _ (omega arith)) in
            let most : c.args.size ≤ size_limit_of rule len c.args.layer = c.requires.size.most in
            let used : c.saturating_add.result ≡ c.args.layer.used + c.args.size = omega (arith, total_small rule len c.requires.rule, c.requires.size.least, c.requires.rule.some_size) in
            let left : c.time_left-left.result ≡ total_of rule len - (c.args.layer.used + c.args.size) = c.time_left-left.ensures ∙ ap (λ n. total_of rule len - n) used in
            let bits : c.args.layer.lunches ≡ bit_or c.args.layer.lunches (bits_of (λ e. is_lunch e b) rule.lunches) =
            sym (ap (bit_or c.args.layer.lunches) (sym (c.lunches_of-entries.ensures.bits b refl ∙ ap (bits_of (λ e. is_lunch e b)) c.as_slice.ensures) ∙ none_bits (λ e. is_lunch e b) c.lunches_of-entries.result.now (sym c.is_empty.ensures ∙ c.if-is_empty.true)) ∙ or_nought c.args.layer.lunches) in
            let place : c.place_at-behind.result + start ≡ (c.time_left-left.result * 4 + c.args.layer.lunches) * (len + 1) + (start + c.args.size) = omega (arith, c.place_at-behind.ensures.place, c.from-then-is_empty.ensures) in
            record {
              most = number_in (map on c.args.table.now) (c.place_at-behind.result + start);
              exact = behind_is rule len sums (map on c.args.table.now) c.args.layer b c.time_left-left.result c.args.layer.lunches (number_in (map on c.args.table.now) (c.place_at-behind.result + start)) c.requires.rule s known c.requires.size ends left bits (ap (number_in (map on c.args.table.now)) place);
              raised = inl (c.raise_between.ensures.inside day d start (omega (arith, c.from-then-is_empty-2.ensures, first)) done);
            }
        | inr late ↦ kept (and_right (nat_le rule.lead start) (nat_le (end_of b + rule.tail) len) (lt-leb _ _ (omega arith))) (c.raise_between.ensures.after day start late)
      ]
    ]

pub returns : goal.returns
returns g c = λ day sums d s known start inside.
    let on = g.N.Number.on day in
    let rule = c.args.rule.now in
    let len = c.args.len in
    let b : Break = record { start = start; len = c.args.size } in
    let i = c.loop-start.invariant in
    let old = number_in (map on c.args.row.now) start in
    let new = number_in (map on c.loop-start.row) start in
    let kept : keeps_ends rule len b ≡ false → new ≡ old → IsRaised rule len sums c.args.layer b old new =
    λ far same. record { most = NOTHING; exact = λ list walk is window. behind_none rule len sums list c.requires.rule s b far; raised = inr (refl, same) } in
    elim (cases_lt start rule.lead) [
      | inl early ↦ kept (and_left (nat_le rule.lead start) (nat_le (end_of b + rule.tail) len) (lt-leb _ _ early)) (i.early day start early)
      | inr first ↦ elim (cases_lt start c.loop-start.start) [
        | inl done ↦ i.done day sums d s known start done first
        | inr late ↦ kept (and_right (nat_le rule.lead start) (nat_le (end_of b + rule.tail) len) (lt-leb _ _ (omega arith))) (i.left day start late)
      ]
    ]
