-- The node where some breaks stand, one break after another.
use Rattle.break_graph.proofs.Common.{◌≡◌, inl, inr, ℕ, ◌+◌, ◌<◌, true, false, List, [], ◌∷◌, ◌++◌, length, map, take, drop, get_or, sym, ap, ◌∙◌, subst, append_assoc, take_more, take-append-drop, false≢true, cases_Bool, Break, Rule, is_legal, is_live, nexts_of, spot_of, Has, from_map, Has-filter, live_rest, live_from, rest_first, Edge, Node, IsGraph, StandsAt, node_at}
use Rattle.break_graph.proofs.Elements.{has_place}

-- some legal list begins with the first of some breaks with which some legal list begins
pub live_front : (rule : Rule) (len : ℕ) (xs ys : List Break) → is_live rule len (xs ++ ys) ≡ true → is_live rule len xs ≡ true
live_front rule len xs ys h = let r = live_rest rule len (xs ++ ys) h in live_from rule len xs (ys ++ r.0) (ap (is_legal rule len) (sym (append_assoc xs ys r.0)) ∙ r.1)

module _ (rule : Rule) (len : ℕ) (nodes : List Node) (g : IsGraph rule len nodes) (at : ℕ) (front : List Break) (i : ℕ) (d : Break) (inside : i < length front) (st : StandsAt rule len nodes at (take i front)) where
  pub stands_on : (e : Edge) → Has (node_at nodes at).edges e → e.stop ≡ get_or front i d → StandsAt rule len nodes e.next (take (i + 1) front)
  stands_on e m s =
      let p = has_place (node_at nodes at).edges e m in
      subst (StandsAt rule len nodes e.next) (ap (λ (b : Break). take i front ++ b ∷ []) s ∙ sym (take_more front i d inside)) (g.behind at p.0 e (take i front) st p.1)

  -- an edge leads on along breaks with which some legal list begins
  pub edge_on : is_live rule len front ≡ true → (e : Edge) × Has (node_at nodes at).edges e × (e.stop ≡ get_or front i d)
  edge_on t =
      let b = get_or front i d in
      let whole : is_live rule len (take (i + 1) front ++ drop (i + 1) front) ≡ true = ap (is_live rule len) (take-append-drop (i + 1) front) ∙ t in
      let live : is_live rule len (take i front ++ b ∷ []) ≡ true = ap (is_live rule len) (sym (take_more front i d inside)) ∙ live_front rule len (take (i + 1) front) (drop (i + 1) front) whole in
      let r = live_rest rule len (take i front ++ b ∷ []) live in
      let first = rest_first rule len (take i front) b r.0 (ap (is_legal rule len) (sym (append_assoc (take i front) (b ∷ []) r.0)) ∙ r.1) in
      let on : Has (map (λ e. e.stop) (node_at nodes at).edges) b =
      subst (λ l. Has l b) (sym (g.edges at (take i front) st)) (Has-filter (λ c. is_live rule len (take i front ++ c ∷ [])) (nexts_of rule len (spot_of rule (take i front))) b first.1 live) in
      from_map (λ (e : Edge). e.stop) (node_at nodes at).edges b on

  pub dead_on : ((e : Edge) → Has (node_at nodes at).edges e → e.stop ≡ get_or front i d → ⊥) → is_live rule len front ≡ false
  dead_on none =
      elim (cases_Bool (is_live rule len front)) [ inl t ↦ let e = edge_on t in absurd (none e.0 e.1 e.2) | inr f ↦ f ]

-- where no legal list begins with none, none begins with any breaks
pub dead_none : (rule : Rule) (len : ℕ) (front : List Break) → is_live rule len [] ≡ false → is_live rule len front ≡ false
dead_none rule len front dead =
    elim (cases_Bool (is_live rule len front)) [ inl t ↦ absurd (false≢true (sym dead ∙ live_front rule len [] front t)) | inr f ↦ f ]
