-- Lines that are read one after another: those of a certificate, and those of a run behind them.
use Rattle.report_joins.proofs.Common.{◌≡◌, ◌≢◌, ◌⊎◌, inl, inr, ℕ, zero, suc, ◌+◌, ◌*◌, ◌^◌, ◌<◌, ◌≤◌, List, [], ◌∷◌, ◌++◌, length, map, take, get_or, refl, sym, ap, ◌∙◌, subst, append_assoc, arith, Option, Some, None, slice_get, append-nil, length-append, length-map, map-append, slice_get_within, Line, Split, Priced, Settled, node_of, grafted_line, grafted_lines, grafted_number, branches_of, divisions, Node, PartFault, Refused, OtherLines, NothingFurther, NoEnd, OtherNode, OtherPlan, SameNode, TooMany, NoMemory, Departs, GoesOnAt, IsElsewhere, IsEnd, IsLineFault, LeavesNode, with_node, IsDeparture, IsLeft, LeavesRun}

-- ---- the lines of a certificate

take_front : {X : Type 0} (xs ys : List X) (k : ℕ) → k ≤ length xs → take k (take k xs ++ ys) ≡ take k xs
take_front xs ys zero h = refl
take_front [] ys (suc k) h = absurd (omega arith)
take_front (x ∷ xs) ys (suc k) h = ap (λ zs. x ∷ zs) (take_front xs ys k (omega arith))

get_behind : {X : Type 0} (xs ys : List X) (k : ℕ) → k ≤ length xs → slice_get (take k xs ++ ys) k ≡ slice_get ys 0
get_behind xs ys zero h = refl
get_behind [] ys (suc k) h = absurd (omega arith)
get_behind (x ∷ xs) ys (suc k) h = get_behind xs ys k (omega arith)

get_there : {X : Type 0} (xs : List X) (k : ℕ) (x : X) → k < length xs → x ≡ get_or xs k x → slice_get xs k ≡ Some x
get_there [] k x h e = absurd (omega arith)
get_there (z ∷ xs) zero x h e = ap Some (sym e)
get_there (z ∷ xs) (suc k) x h e = get_there xs k x (omega arith) e

pub behind_departs : (known lines reader : List Line) (at : ℕ) (x : Line) → at < length known → x ≡ get_or known at x → lines ≡ take at known ++ reader → slice_get reader 0 ≢ Some x → Departs known lines at
behind_departs known lines reader at x less is so other =
    let place : slice_get lines at ≡ slice_get reader 0 = ap (λ (ls : List Line). slice_get ls at) so ∙ get_behind known reader at (omega (arith, less)) in (
      less,
      ap (take at) so ∙ take_front known reader at (omega (arith, less)),
      λ e. other (sym place ∙ e ∙ get_there known at x less is),
    )

-- ---- the lines of a run

-- a line of a node that has a number in a run, as that line of the run
pub numbered : (node splits k : ℕ) (line : Line) → node_of line ≡ grafted_number node splits k → line ≡ grafted_line node splits (with_node k line)
numbered node splits k (Split j class m) e = ap (λ n. Split n class m) e
numbered node splits k (Priced j prices) e = ap (λ n. Priced n prices) e
numbered node splits k (Settled j) e = ap (λ n. Settled n) e

pub run_first : (node splits : ℕ) (first : Line) (rest run : List Line) → node_of first ≡ node → run ≡ with_node 0 first ∷ [] → first ∷ rest ≡ map (grafted_line node splits) run ++ rest
run_first node splits first rest run same is =
    ap (λ l. l ∷ rest) (numbered node splits 0 first same) ∙ ap (λ (ls : List Line). map (grafted_line node splits) ls ++ rest) (sym is)

pub run_more : (node splits : ℕ) (all run more reader rest : List Line) (line own : Line) → all ≡ map (grafted_line node splits) run ++ reader → reader ≡ line ∷ rest → line ≡ grafted_line node splits own
    → more ≡ run ++ own ∷ [] → all ≡ map (grafted_line node splits) more ++ rest
run_more node splits all run more reader rest line own so read same is =
    let g = grafted_line node splits in
    so ∙ ap (λ (ls : List Line). map g run ++ ls) read
    ∙ ap (λ (l : Line). map g run ++ l ∷ rest) same
    ∙ sym (append_assoc (map g run) (g own ∷ []) rest)
    ∙ ap (λ (ls : List Line). ls ++ rest) (sym (map-append g run (own ∷ [])))
    ∙ ap (λ (ls : List Line). map g ls ++ rest) (sym is)

pub some_more : (run more : List Line) (own : Line) → more ≡ run ++ own ∷ [] → 0 < length more
some_more run more own is =
    let a : length more ≡ length (run ++ own ∷ []) = ap (λ (ls : List Line). length ls) is in
    let b : length (run ++ own ∷ []) ≡ length run + length (own ∷ []) = length-append run (own ∷ []) in
    omega (arith, a, b)

pub is_elsewhere : (node splits seen : ℕ) (line : Line) → seen ≡ node_of line → ((k : ℕ) → seen ≡ grafted_number node splits k → ⊥) → IsElsewhere node splits line
is_elsewhere node splits seen line is other k e = other k (is ∙ e)

pub as_numbered : (node splits seen k : ℕ) (line own : Line) → seen ≡ node_of line → seen ≡ grafted_number node splits k → own ≡ with_node k line → line ≡ grafted_line node splits own
as_numbered node splits seen k line own is number so = numbered node splits k line (sym is ∙ number) ∙ ap (grafted_line node splits) (sym so)

pub run_leaves : (node splits first at : ℕ) (all run reader rest : List Line) (line : Line) → all ≡ map (grafted_line node splits) run ++ reader → reader ≡ line ∷ rest → 0 < length run → at ≡ first + length run
    → IsElsewhere node splits line → LeavesRun node splits first all at
run_leaves node splits first at all run reader rest line so read some is other = record {
  run = run;
  line = line;
  rest = rest;
  some = some;
  lines = so ∙ ap (λ (ls : List Line). map (grafted_line node splits) run ++ ls) read;
  at = is;
  elsewhere = other;
}

-- ---- the lines of a part

pub splits_are : (known : List Line) (ends splits : ℕ) → ends ≡ 2 * divisions known + 1 → ends ≤ 2 * splits + 2 → 2 * splits < ends → splits ≡ divisions known
splits_are known ends splits counted most least = omega (arith, counted, most, least)

pub leaves_node : (known lines reader rest : List Line) (first : Line) (node splits place : ℕ) → lines ≡ known ++ reader → reader ≡ first ∷ rest → splits ≡ divisions known → LeavesRun node splits (length known) (first ∷ rest) place
    → LeavesNode known lines node place
leaves_node known lines reader rest first node splits place so read number l =
    let g = grafted_line node splits in
    record {
      run = l.run;
      line = l.line;
      rest = l.rest;
      some = l.some;
      lines = so ∙ ap (λ (ls : List Line). known ++ ls) (read ∙ l.lines) ∙ sym (append_assoc known (map g l.run) (l.line ∷ l.rest))
          ∙ ap (λ n. (known ++ map (grafted_line node n) l.run) ++ l.line ∷ l.rest) number;
      at = l.at;
      elsewhere = subst (λ n. IsElsewhere node n l.line) number l.elsewhere;
    }

pub left_is : (ends : List Node) (known lines reader rest : List Line) (first : Line) (node at splits : ℕ) (why : PartFault) → IsEnd ends node → lines ≡ known ++ reader → reader ≡ first ∷ rest → at ≡ node → splits ≡ divisions known
    → IsLeft at splits (length known) (first ∷ rest) why → IsLineFault ends known lines why
left_is ends known lines reader rest first node at splits (OtherNode place) end so read same number h =
    (node, end, leaves_node known lines reader rest first node splits place so read number (subst (λ n. LeavesRun n splits (length known) (first ∷ rest) place) same h))
left_is ends known lines reader rest first node at splits NoMemory end so read same number h = tt
left_is ends known lines reader rest first node at splits (Refused why) end so read same number h = absurd h
left_is ends known lines reader rest first node at splits (OtherLines place) end so read same number h = absurd h
left_is ends known lines reader rest first node at splits NothingFurther end so read same number h = absurd h
left_is ends known lines reader rest first node at splits (NoEnd k) end so read same number h = absurd h
left_is ends known lines reader rest first node at splits OtherPlan end so read same number h = absurd h
left_is ends known lines reader rest first node at splits (SameNode k) end so read same number h = absurd h
left_is ends known lines reader rest first node at splits TooMany end so read same number h = absurd h

-- ---- sizes
