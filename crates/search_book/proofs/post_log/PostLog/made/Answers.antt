use Rattle.search_book.proofs.Common.{◌≡◌, ◌++◌, List, length, ap, sym, ◌∙◌, subst, arith, refl, IsSome, append_assoc, Post, Spells, book_of, IsPostLog, PostLogView, batches_told, posts_told, joined, SpellPosts, journal_of, zip_left}
use Rattle.search_book.proofs.Commits.{view_of}
use Rattle.search_book.proofs.Recording.{joined_both, kept_posts, posts_last, recorded_count, recorded_spells, shut_of}
use Rattle.search_book.proofs.post_log.PostLog.made.Goals as goal

pub returns-clause-made : goal.returns-clause-made
returns-clause-made g c =
    let b = c.self.inside in
    let i = c.self.invariant in
    let same : b.log.added ≡ length b.batched.batches = omega (arith, c.added.ensures.log.counted, recorded_count b.log.opening b.batched.opening b.log.records b.batched.batches i.recorded) in
    c.added.ensures.added ∙ same ∙ ap (λ (v : PostLogView g.row.D.Denot). length v.batches) c.self.view_is

pub returns-clause-log : goal.returns-clause-log
returns-clause-log g c =
    let K = g.D.Disk in
    let b = c.self.inside in
    let i = c.self.invariant in
    let l = c.added.ensures.log in
    let flight = batches_told b.in_flight in
    let first = b.batched.opening in
    let batches = b.batched.batches in
    let same : length batches ≡ b.log.added = omega (arith, l.counted, recorded_count b.log.opening first b.log.records batches i.recorded) in
    let view = view_of b.log b.state first batches flight (posts_told b.unfit) b.shut in
    let spells : SpellPosts b.log.records b.state.history = subst (SpellPosts b.log.records) (sym i.all) (recorded_spells b.log.opening first b.log.records batches i.recorded) in
    let run : b.state.history ++ joined flight ≡ first ++ joined (batches ++ flight) =
    ap (λ (h : List Post). h ++ joined flight) i.all ∙ append_assoc first (joined batches) (joined flight) ∙ ap (λ (h : List Post). first ++ h) (sym (joined_both batches flight)) in
    subst (λ (v : PostLogView g.row.D.Denot). IsPostLog K.reads K.images K.images_since K.calls K.faults v) c.self.view_is (record {
      valid = i.valid;
      all = i.all;
      folds = i.folds;
      running = λ none.
          let running = l.running (zip_left Spells b.log.in_flight flight i.flight none) in
          record {
            kept = kept_posts K.images view (journal_of b.log) (K.reads b.log.disk) i.head refl refl spells running.stored;
            time = omega (arith, running.time, same);
          };
      single = i.single;
      few = i.few;
      nodes = i.nodes;
      shut = shut_of b.log.limit (K.faults b.log.opened) (K.faults b.log.disk) b.log.in_flight flight b.shut i.shut i.flight l.cause;
      telling = l.telling;
      later = l.later;
      moment = omega (arith, l.moment, same);
      most = omega (arith, l.most, same);
      lasts = posts_last (K.reads b.log.disk) (K.images_since b.log.disk) (K.calls b.log.opened) b.log.limit b.state.instance b.log.head b.log.records b.log.in_flight first batches flight b.log.opening b.log.added i.head i.recorded i.flight (subst (λ (h : List Post). IsSome (book_of b.state.instance h)) run i.next) same l.lasts;
    })
