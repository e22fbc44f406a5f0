-- What an exchange of duties needs and gives.
use Rattle.local_moves.proofs.Common.{◌≡◌, ℕ, ◌+◌, ◌≤◌, Bool, List, [], refl, ap, ◌∙◌, arith, count_by, Duty, Row, Problem, same_duty, count_of, is_on, heads_on, rota_of, Covering, IsDraft, Drafting, IsExchanged}
use Rattle.local_moves.proofs.DraftFacts.{draft_alike}

view_alike : (v : Drafting) (cover : Covering) (heads : List ℕ) (rows : List Row) → IsDraft cover.instance cover heads rows → record { instance = cover.instance; rows = rows } ≡ v → (p : Duty → Bool) → count_by p cover.duties ≡ count_by p (rota_of v.rows)
view_alike v cover heads rows h e p = draft_alike cover.instance cover heads rows h p ∙ ap (λ (w : Drafting). count_by p (rota_of w.rows)) e

pub exchange_there : (v : Drafting) (cover : Covering) (heads : List ℕ) (rows : List Row) (gone : List Duty) → IsDraft cover.instance cover heads rows → record { instance = cover.instance; rows = rows } ≡ v
    → ((d : Duty) → count_of gone d ≤ count_of (rota_of v.rows) d) → (d : Duty) → count_of gone d ≤ count_of cover.duties d
exchange_there v cover heads rows gone h e there d = omega (arith, there d, view_alike v cover heads rows h e (same_duty d))

pub exchange_heads : (i : Problem) (v : Drafting) (cover : Covering) (heads : List ℕ) (rows : List Row) (gone made mid : List Duty) → IsDraft cover.instance cover heads rows → record { instance = cover.instance; rows = rows } ≡ v
    → ((s day : ℕ) → heads_on (rota_of v.rows) s day + heads_on made s day ≤ i.heads + heads_on gone s day) → IsExchanged cover.duties gone [] mid → (s day : ℕ) → heads_on mid s day + heads_on made s day ≤ i.heads
exchange_heads i v cover heads rows gone made mid h e room taken s day =
    let a : heads_on mid s day + heads_on gone s day ≡ heads_on cover.duties s day + heads_on [] s day = taken (is_on s day) in
    let none : heads_on [] s day ≡ 0 = refl in
    omega (arith, room s day, view_alike v cover heads rows h e (is_on s day))

pub exchange_all : (i : Problem) (v : Drafting) (cover new : Covering) (heads later : List ℕ) (rows after : List Row) (gone made mid : List Duty) → IsDraft cover.instance cover heads rows → record { instance = cover.instance; rows = rows } ≡ v
    → IsExchanged cover.duties gone [] mid → IsExchanged mid [] made new.duties → IsDraft i new later after → IsExchanged (rota_of v.rows) gone made (rota_of after)
exchange_all i v cover new heads later rows after gone made mid h e taken put done p =
    let a : count_by p mid + count_by p gone ≡ count_by p cover.duties + count_by p [] = taken p in
    let b : count_by p new.duties + count_by p [] ≡ count_by p mid + count_by p made = put p in
    let none : count_by p [] ≡ 0 = refl in
    omega (arith, view_alike v cover heads rows h e p, draft_alike i new later after done p)
