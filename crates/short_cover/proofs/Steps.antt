-- The short slots of one slot more.
use Rattle.short_cover.proofs.Common.{◌≡◌, ℕ, ◌+◌, ◌<◌, ◌≤◌, Bool, true, false, cond, List, [], ◌∷◌, ◌++◌, map, filter, sym, ap, ◌∙◌, subst, zero-add, append-nil, le-ltb, lt-ltb, Duty, Problem, below, ShortSlot, is_short, short_slot}
use Rattle.std.proofs.lemmas.List.FromFn.{filter_of_map_range_with_len_more}

-- one slot more that is short
pub short_more : (i : Problem) (rota : List Duty) (t : ℕ) (s : ShortSlot) → s ≡ short_slot i rota t → s.working < s.wanted → filter is_short (map (short_slot i rota) (below (t + 1))) ≡ filter is_short (map (short_slot i rota) (below t)) ++ s ∷ []
short_more i rota t s e h =
    let passes : is_short (short_slot i rota t) ≡ true = subst (λ (x : ShortSlot). is_short x ≡ true) e (lt-ltb s.working s.wanted h) in
    filter_of_map_range_with_len_more is_short (short_slot i rota) 0 t t (zero-add t)
    ∙ ap (λ (b : Bool). filter is_short (map (short_slot i rota) (below t)) ++ cond b (short_slot i rota t ∷ []) []) passes
    ∙ ap (λ (x : ShortSlot). filter is_short (map (short_slot i rota) (below t)) ++ x ∷ []) (sym e)

-- one slot more with as many as its need
pub enough_more : (i : Problem) (rota : List Duty) (t : ℕ) (s : ShortSlot) → s ≡ short_slot i rota t → s.wanted ≤ s.working → filter is_short (map (short_slot i rota) (below (t + 1))) ≡ filter is_short (map (short_slot i rota) (below t))
enough_more i rota t s e h =
    let fails : is_short (short_slot i rota t) ≡ false = subst (λ (x : ShortSlot). is_short x ≡ false) e (le-ltb s.working s.wanted h) in
    filter_of_map_range_with_len_more is_short (short_slot i rota) 0 t t (zero-add t)
    ∙ ap (λ (b : Bool). filter is_short (map (short_slot i rota) (below t)) ++ cond b (short_slot i rota t ∷ []) []) fails
    ∙ append-nil (filter is_short (map (short_slot i rota) (below t)))
