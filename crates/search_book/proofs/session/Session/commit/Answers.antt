use Rattle.search_book.proofs.Common.{◌≡◌, ℕ, ◌+◌, ◌<◌, ◌≤◌, ◌^◌, false, true, not, List, length, Option, None, ap, sym, ◌∙◌, subst, arith, slice_set, Problem, leaves_open, Commits, Book, is_node_and, full_hands, LeavesOpen, cuts_in, Fits, Entry, OpenView, ListsFree, board_at, KeepsSearch}
use Rattle.search_book.proofs.Committed.{commit_keeps, commits, may_refuses, open_refuses, record_refuses, recorded_closed, recorded_follows, refusal_book, refusal_keeps}
use Rattle.search_book.proofs.Listings.{empty_fills, followed, followed_as, followed_lists, listed_as, listed_low, most_full, AreLow}
use Rattle.search_book.proofs.session.Session.commit.Goals as goal

pub returns-in-Err-clause-err : goal.returns-in-Err-clause-err
returns-in-Err-clause-err g c =
    let b = c.args.self.now in
    let K = g.D.Disk in
    may_refuses K.reads K.calls K.faults b.log b.log b.hands b.taken b.budget b.halted c.args.worker c.args.step b.folds c.in-Err.fault c.in-Err.ensures.err

pub stays_open-requires-clause-fits : goal.stays_open-requires-clause-fits
stays_open-requires-clause-fits g c = subst (λ (i : Problem). Fits i c.args.step) (sym c.state.ensures.instance) c.requires.fits

pub stays_open-requires-clause-cuts : goal.stays_open-requires-clause-cuts
stays_open-requires-clause-cuts g c = subst (λ (x : Book). c.args.step.proved.cuts ≡ cuts_in x.nodes c.args.step.node) (sym c.state.ensures.book) c.in-Ok.ensures.ok.cuts

pub stays_open-requires-clause-unsplit : goal.stays_open-requires-clause-unsplit
stays_open-requires-clause-unsplit g c = subst (λ (x : Book). is_node_and x c.args.step.node (λ n. not n.split) ≡ true) (sym c.state.ensures.book) c.in-Ok.ensures.ok.unsplit

pub returns-in-Some-clause-err : goal.returns-in-Some-clause-err
returns-in-Some-clause-err g c =
    let b = c.args.self.now in
    let K = g.D.Disk in
    let w = c.args.worker in
    let step = c.args.step in
    let o = c.in-Some.ensures.open in
    let told = c.state.result.now in
    let open_there : LeavesOpen b.log.instance b.log.book w step c.in-Some.floor c.in-Some.best =
    subst (λ (i : Problem). LeavesOpen i b.log.book w step c.in-Some.floor c.in-Some.best) c.state.ensures.instance
    (subst (λ (x : Book). LeavesOpen told.instance x w step c.in-Some.floor c.in-Some.best) c.state.ensures.book (o.1 w)) in
    open_refuses K.reads K.calls K.faults b.log b.log b.hands b.taken b.budget b.halted w step b.folds c.in-Some.floor c.in-Some.best c.in-Ok.ensures.ok o.0 open_there

pub invariant_of-self-in-Err-record_step : goal.invariant_of-self-in-Err-record_step
invariant_of-self-in-Err-record_step g c =
    let b = c.args.self.now in
    let K = g.D.Disk in
    let new = c.record_step.new.log in
    let keeps : KeepsSearch b.log b.hands b.taken b.budget = record { all = b.all; folds = b.folds; apart = b.apart; unsplit = b.unsplit; counted = b.counted; sixteen = b.sixteen; within = b.within; fresh = b.fresh; past = b.past } in
    let k = refusal_keeps K.reads K.calls K.faults b.log new b.hands b.taken b.budget b.halted c.args.worker c.args.step b.folds c.in-Err-record_step.fault c.in-Err-record_step.ensures.err keeps in
    let same : new.book ≡ b.log.book = refusal_book K.reads K.calls K.faults b.log new b.hands b.taken b.budget b.halted c.args.worker c.args.step b.folds c.in-Err-record_step.fault c.in-Err-record_step.ensures.err in
    let reserved = c.in-Ok-reserve.ensures.ok in
    let entries : c.reserve.new.self.entries ≡ b.nodes.entries = ap (λ (v : OpenView). v.entries) reserved in
    let spare = ap (λ (v : OpenView). v.spare) reserved in
    let lists : ListsFree new.book b.hands c.reserve.new.self.entries = listed_as b.log.book new.book b.hands b.nodes.entries c.reserve.new.self.entries same entries b.only b.found in
    record { all = k.all; folds = k.folds; apart = k.apart; unsplit = k.unsplit; counted = k.counted; sixteen = k.sixteen; within = k.within; fresh = k.fresh; past = k.past; only = lists.only; found = lists.all; room = omega (arith, b.room, spare) }

pub returns-in-Err-record_step-clause-err : goal.returns-in-Err-record_step-clause-err
returns-in-Err-record_step-clause-err g c =
    let b = c.args.self.now in
    let K = g.D.Disk in
    let w = c.args.worker in
    let step = c.args.step in
    let told = c.state.result.now in
    let closed : leaves_open b.log.instance b.log.book w step ≡ false =
    subst (λ (i : Problem). leaves_open i b.log.book w step ≡ false) c.state.ensures.instance
    (subst (λ (x : Book). leaves_open told.instance x w step ≡ false) c.state.ensures.book (c.stays_open.ensures.closed c.in_default.is w)) in
    record_refuses K.reads K.calls K.faults b.log c.record_step.new.log b.hands b.taken b.budget b.halted w step b.folds c.in-Ok.ensures.ok closed c.in-Err-record_step.fault c.in-Err-record_step.ensures.err

pub invariant_of-self-2 : goal.invariant_of-self-2
invariant_of-self-2 g c =
    let b = c.args.self.now in
    let K = g.D.Disk in
    let w = c.args.worker in
    let step = c.args.step in
    let new = c.record_step.new.log in
    let kept = c.in-Ok-record_step.kept in
    let recorded = c.in-Ok-record_step.ensures.ok in
    let may = c.in-Ok.ensures.ok in
    let l = c.made-made-2.ensures.log in
    let told = c.state.result.now in
    let keeps : KeepsSearch b.log b.hands b.taken b.budget = record { all = b.all; folds = b.folds; apart = b.apart; unsplit = b.unsplit; counted = b.counted; sixteen = b.sixteen; within = b.within; fresh = b.fresh; past = b.past } in
    let k = subst (λ (h : List (Option ℕ)). KeepsSearch new h b.taken b.budget) (sym c.release.ensures)
    (commit_keeps K.reads K.calls K.faults b.log new b.hands b.taken b.budget b.halted w step b.folds may kept recorded l.folds l.all keeps) in
    let closed : leaves_open b.log.instance b.log.book w step ≡ false =
    subst (λ (i : Problem). leaves_open i b.log.book w step ≡ false) c.state.ensures.instance
    (subst (λ (x : Book). leaves_open told.instance x w step ≡ false) c.state.ensures.book (c.stays_open.ensures.closed c.in_default.is w)) in
    let after = recorded_follows K.reads K.calls K.faults b.log new b.hands b.taken b.budget b.halted w step b.folds kept recorded l.folds in
    let shut = recorded_closed K.reads K.calls K.faults b.log new b.hands b.taken b.budget b.halted w step b.folds kept recorded l.folds closed in
    let reserved = c.in-Ok-reserve.ensures.ok in
    let entries : c.reserve.new.self.entries ≡ b.nodes.entries = ap (λ (v : OpenView). v.entries) reserved in
    let spare = ap (λ (v : OpenView). v.spare) reserved in
    let nodes = c.follow_step.new.nodes in
    let count : length c.nodes.result.now ≡ length b.log.book.nodes = c.nodes.ensures.count ∙ ap (λ (x : Book). length x.nodes) c.state-2.ensures.book in
    let is : nodes.entries ≡ followed b.log.book new.book step.node after b.nodes.entries =
    followed_as b.log.book new.book c.state-4.result.now.book step.node after b.nodes.entries c.reserve.new.self.entries nodes.entries (length c.nodes.result.now) c.state-4.ensures.book entries count c.follow_step.ensures.entries in
    let lists : ListsFree new.book c.release.new.self nodes.entries =
    subst (λ (h : List (Option ℕ)). ListsFree new.book h nodes.entries) (sym c.release.ensures)
    (subst (λ (m : List Entry). ListsFree new.book (slice_set b.hands w None) m) (sym is)
    (followed_lists b.log.book new.book step.node after b.hands b.nodes.entries b.only b.found w b.apart may.held b.unsplit shut)) in
    let fills = empty_fills b.hands w step.node may.held in
    let hands = ap full_hands c.release.ensures in
    let most = most_full b.hands in
    let sixteen = b.sixteen in
    record { all = k.all; folds = k.folds; apart = k.apart; unsplit = k.unsplit; counted = k.counted; sixteen = k.sixteen; within = k.within; fresh = k.fresh; past = k.past; only = lists.only; found = lists.all; room = omega (arith, fills, hands, most, sixteen, spare, c.follow_step.ensures.spare) }

pub returns-clause-ok : goal.returns-clause-ok
returns-clause-ok g c =
    let b = c.args.self.now in
    let K = g.D.Disk in
    let w = c.args.worker in
    let step = c.args.step in
    let new = c.record_step.new.log in
    let told = c.state.result.now in
    let closed : leaves_open b.log.instance b.log.book w step ≡ false =
    subst (λ (i : Problem). leaves_open i b.log.book w step ≡ false) c.state.ensures.instance
    (subst (λ (x : Book). leaves_open told.instance x w step ≡ false) c.state.ensures.book (c.stays_open.ensures.closed c.in_default.is w)) in
    subst (λ (h : List (Option ℕ)). Commits w step (board_at K.reads K.calls K.faults b.log b.hands b.taken b.budget b.halted) (board_at K.reads K.calls K.faults new h b.taken b.budget b.halted) c.in-Ok-record_step.kept) (sym c.release.ensures)
    (commits K.reads K.calls K.faults b.log new b.hands b.taken b.budget b.halted w step b.folds c.in-Ok.ensures.ok closed c.in-Ok-record_step.kept c.in-Ok-record_step.ensures.ok c.made-made-2.ensures.log.folds)

pub follow_step-requires-clause-room : goal.follow_step-requires-clause-room
follow_step-requires-clause-room g c =
    let spare = ap (λ (v : OpenView). v.spare) c.in-Ok-reserve.ensures.ok in
    omega (arith, spare)

pub follow_step-requires-clause-few : goal.follow_step-requires-clause-few
follow_step-requires-clause-few g c =
    let b = c.args.self.now in
    let count : length c.nodes.result.now ≡ length b.log.book.nodes = c.nodes.ensures.count ∙ ap (λ (x : Book). length x.nodes) c.state-2.ensures.book in
    omega (arith, count, c.made-made.ensures.log.nodes)

pub follow_step-requires-clause-cost : goal.follow_step-requires-clause-cost
follow_step-requires-clause-cost g c =
    let b = c.args.self.now in
    let K = g.D.Disk in
    let new = c.record_step.new.log in
    let l = c.made-made-2.ensures.log in
    let after = recorded_follows K.reads K.calls K.faults b.log new b.hands b.taken b.budget b.halted c.args.worker c.args.step b.folds c.in-Ok-record_step.kept c.in-Ok-record_step.ensures.ok l.folds in
    let less = after.cost in
    let best : c.cost-best.result ≡ b.log.book.cost = c.cost-best.ensures.cost ∙ ap (λ (x : Book). x.cost) c.state-3.ensures.book in
    let told : c.state-4.result.now.book.cost ≡ new.book.cost = ap (λ (x : Book). x.cost) c.state-4.ensures.book in
    omega (arith, less, best, told)

pub follow_step-requires-clause-listed : goal.follow_step-requires-clause-listed
follow_step-requires-clause-listed g c =
    let b = c.args.self.now in
    let count : length c.nodes.result.now ≡ length b.log.book.nodes = c.nodes.ensures.count ∙ ap (λ (x : Book). length x.nodes) c.state-2.ensures.book in
    let best : c.cost-best.result ≡ b.log.book.cost = c.cost-best.ensures.cost ∙ ap (λ (x : Book). x.cost) c.state-3.ensures.book in
    let entries : c.reserve.new.self.entries ≡ b.nodes.entries = ap (λ (v : OpenView). v.entries) c.in-Ok-reserve.ensures.ok in
    subst (λ (l : List Entry). AreLow c.cost-best.result (length c.nodes.result.now) l) (sym entries)
    (subst (λ n. AreLow n (length c.nodes.result.now) b.nodes.entries) (sym best) (subst (λ n. AreLow b.log.book.cost n b.nodes.entries) (sym count) (listed_low b.log.book b.hands b.nodes.entries b.only b.found)))
