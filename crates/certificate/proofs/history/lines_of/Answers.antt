use Rattle.certificate.proofs.Common.{◌≡◌, List, [], ◌∷◌, ◌++◌, ℕ, ◌+◌, length, length-append, take, map, string_bytes, sym, ap, subst, ◌∙◌, arith, All, take_all, All-append, Post, lines_text, proof_line, FitsLine, lines_of}
use Rattle.certificate.specs.declared.proof_lines.Line.{Line as ProofLine}
use Rattle.certificate.proofs.Histories.{one_more, one_at_most, text_of_both}
use Rattle.certificate.proofs.Kept.{list_view}
use Rattle.certificate.proofs.history.lines_of.Goals as goal

pub loop-post-preserved : goal.loop-post-preserved
loop-post-preserved c =
    let posts : List Post = c.args.posts.now in
    let before : List ProofLine = lines_of (take c.loop-post.post-index posts) in
    let post : List ProofLine = lines_of (c.post-item.result ∷ []) in
    let more : lines_of (take (c.loop-post.post-index + 1) posts) ≡ before ++ post =
    one_more posts c.loop-post.post-index c.post-item.result c.loop-post-test.true ∙ ap (λ (p : Post). before ++ lines_of (p ∷ [])) (sym c.post-item.is) in
    let kept = c.loop-post.invariant in
    let done = c.in_ok-count.ensures in
    let text : string_bytes c.add_post.new.text ≡ lines_text (map proof_line (before ++ post)) =
    done.added ∙ ap (λ (t : List ℕ). t ++ lines_text (map proof_line post)) kept.added ∙ sym (text_of_both before post) in
    let count : length (before ++ post) ≡ length before + length post = length-append before post in
    let few = one_at_most c.post-item.result in
    let counted = kept.counted in
    let one = done.count in
    let at_most = kept.few in
    record {
      added = text ∙ ap (λ (l : List ProofLine). lines_text (map proof_line l)) (sym more);
      fits = subst (All FitsLine) (sym more) (All-append FitsLine before post kept.fits done.fits);
      counted = (let sum : c.loop-post.count + c.in_ok-count.field-0 ≡ length (before ++ post) = omega arith in sum ∙ ap length (sym more));
      few = omega arith;
    }

pub returns : goal.returns
returns c =
    let posts : List Post = c.args.posts.now in
    let all : take c.loop-post.post-index posts ≡ posts = take_all c.loop-post.post-index posts c.loop-post-test.false in
    let kept = c.loop-post.invariant in
    let fits : All FitsLine (lines_of posts) = subst (λ (p : List Post). All FitsLine (lines_of p)) all kept.fits in
    let count : c.loop-post.count ≡ length (lines_of posts) = kept.counted ∙ ap (λ (p : List Post). length (lines_of p)) all in
    let text : string_bytes c.loop-post.text ≡ lines_text (map proof_line (lines_of posts)) = kept.added ∙ ap (λ (p : List Post). lines_text (map proof_line (lines_of p))) all in
    rw (c.of_text.ensures, c.into_bytes.ensures.value, text, count) (list_view (lines_of posts) fits)
