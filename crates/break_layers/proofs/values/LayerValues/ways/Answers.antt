use Rattle.break_layers.proofs.Common.{◌≡◌, ℕ, List, [], ◌∷◌, ◌++◌, Some, IsTrue, map, subst, sym, ◌∙◌, ap, slice_get, IfOk-weaker, Break, is_walk, spot_of, Way, Priced, AreLayers, live_stops}
use Rattle.break_layers.proofs.LiveWays.{stops_by, spot_by}
use Rattle.break_layers.proofs.values.LayerValues.ways.Goals as goal

pub returns-clause-stops : goal.returns-clause-stops
returns-clause-stops c =
    let s = c.self.inside in
    let i = c.self.invariant in
    let layers : AreLayers s.rule.now s.len s.sums.items c.deref.result.now = subst (AreLayers s.rule.now s.len s.sums.items) (sym c.deref.ensures.value) i.2 in
    IfOk-weaker c.live_ways.result _ _ (λ ways h.
    subst (λ (v : Priced). (list : List Break) → IsTrue (is_walk v.rule v.len list) → c.args.spot ≡ spot_of v.rule list → map (λ (w : Way). w.stop) ways.items ≡ live_stops v.rule v.len list) c.self.view_is
    (λ list walk is. ap (map (λ (w : Way). w.stop)) (h s.sums.items list i.1 layers walk is) ∙ stops_by s.rule.now list (live_stops s.rule.now s.len list))) c.live_ways.ensures

pub returns-clause-spots : goal.returns-clause-spots
returns-clause-spots c =
    let s = c.self.inside in
    let i = c.self.invariant in
    let layers : AreLayers s.rule.now s.len s.sums.items c.deref.result.now = subst (AreLayers s.rule.now s.len s.sums.items) (sym c.deref.ensures.value) i.2 in
    IfOk-weaker c.live_ways.result _ _ (λ ways h.
    subst (λ (v : Priced). (list : List Break) → IsTrue (is_walk v.rule v.len list) → c.args.spot ≡ spot_of v.rule list → (k : ℕ) (w : Way) → slice_get ways.items k ≡ Some w → w.spot ≡ spot_of v.rule (list ++ w.stop ∷ [])) c.self.view_is
    (λ list walk is k w at. spot_by s.rule.now list (live_stops s.rule.now s.len list) k w (ap (λ (ws : List Way). slice_get ws k) (sym (h s.sums.items list i.1 layers walk is)) ∙ at))) c.live_ways.ensures
