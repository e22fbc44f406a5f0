-- `opened` makes a value of no bytes. What it tells is set here, as its clause says.
use Rattle.search_book.proofs.Common.{List, [], ◌∷◌, refl, proved, named, Val, vstruct, vnil, ‵, raw, ◌⊛◌, ◌$◌, ◌∵◌, !, qed, done, keep, move, split, fjoin, fpack, feq_i, suffices, enter, no_more, returns, agg, alloc_all, pass_all, free_all, look_at, sets, SliceRefOf, yes, plain, types_at, shr_slice_vals, shr_slice_Tells, nothing, Valss, owns, within, alive, Stays, walk_of, says, stay_dropped, Goes-dropped, ends_at, ftrue}
use Rattle.search_book.specs.contracts.batched.Batched.{the_row as R}
use Rattle.post_codec.specs.contracts.post.Post.{the_row as P}
use Rattle.search_book.specs.contracts.batched.Batched.opened as f
use Rattle.search_book.proofs.batched.Batched.opened.Statement.{statement}
use Rattle.search_book.proofs.batched.Batched.opened.Code as code

abbrev stayed : Stays f.ended.signature.params f.ended.kept
stayed = (stay_dropped (SliceRefOf (0 ∷ []) tt (plain (λ _. P)) (λ _. tt)) yes, tt)

pub opened_spec : {M : Type 1} → statement M
opened_spec 𝓤 𝓛 𝓜 𝓡 wired =
    let c = f.clauses 𝓛 𝓜.mem 𝓡.returns in
    let W = walk_of 𝓛 f.ended stayed c in
    proved 𝓛 f.ended stayed c 𝓜 𝓡 (Goes-dropped 𝓛 1 (SliceRefOf (0 ∷ []) tt (plain (λ _. P)) (λ _. tt)) yes (λ κs x w. refl), tt)
    f.Key.name code.function (code.unfolded 𝓤 𝓛.H 𝓜 𝓡 wired)
    (λ κs. (shr_slice_vals, tt)) (λ κs. (shr_slice_Tells (named 0) κs.0 P, tt)) (λ κs qs bounds a _ are.
    let y : W.Ghost = ((κs, qs, bounds, a, (shr_slice_vals a.0, tt)), tt) in
    let told : R.Denot = record { opening = a.0.now; batches = [] } in
    qed 𝓛 ((raw (alive 𝓛 f.signature κs qs) ⊛ ‵ (owns (types_at f.signature.params κs) a y.0.4)) ∷ ‵ ftrue ∷ []) ∵
    split ! $ keep ! (0 ∷ []) $
    enter ! _ _ _ _ _ $ alloc_all ! (λ l. pass_all ! refl ((tt, (tt, (record { fits = are.0.0.1.0 }, tt))), tt) $
    sets ! (agg ! (no_more !)) refl (tt, tt) $
    returns ! (look_at ! 0 refl) $ free_all ! refl $
    suffices ! _ (ends_at 𝓛 f.ended stayed c y (vstruct vnil) told (tt, tt) (tt, tt)) $ says ! (refl, refl) $
    -- [the tokens]: the value owns what its fields own, which are none, and nothing more
    nothing ! $ feq_i ! (List Val) (vstruct vnil ∷ []) (vstruct vnil ∷ []) refl $ fjoin ! $
    fpack ! (Valss []) (within (record { name = []; args = []; types = []; fields = [] }) tt (vstruct vnil ∷ [])) tt $
    nothing ! $ move ! (1 ∷ 0 ∷ []) $ fjoin ! $
    nothing ! $ nothing ! $ fjoin ! $ move ! (2 ∷ 0 ∷ 1 ∷ []) $ done !))
