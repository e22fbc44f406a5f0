-- The proof lines of a history, post by post.
use Rattle.certificate.proofs.Common.{◌≡◌, ℕ, ◌+◌, ◌<◌, ◌≤◌, List, [], ◌∷◌, ◌++◌, length, take, get_or, map, Option, Some, None, ap, ◌∙◌, arith, cons_option, flat_map-append, take_more, map-append, filter_map-append, Post, line_text, lines_text, proof_line, line_of, lines_of}
use Rattle.certificate.specs.declared.proof_lines.Line.{Line as ProofLine}

-- one post more adds its lines
pub one_more : (posts : List Post) (i : ℕ) (post : Post) → i < length posts → lines_of (take (i + 1) posts) ≡ lines_of (take i posts) ++ lines_of (get_or posts i post ∷ [])
one_more posts i post lt = ap lines_of (take_more posts i post lt) ∙ filter_map-append line_of (take i posts) (get_or posts i post ∷ [])

option_few : (o : Option ProofLine) → length (cons_option o []) ≤ 1
option_few None = omega arith
option_few (Some line) = omega arith

-- a post has one line at most
pub one_at_most : (post : Post) → length (lines_of (post ∷ [])) ≤ 1
one_at_most post = option_few (line_of post)

-- the text of lines and others behind them
pub text_of_both : (a b : List ProofLine) → lines_text (map proof_line (a ++ b)) ≡ lines_text (map proof_line a) ++ lines_text (map proof_line b)
text_of_both a b = ap lines_text (map-append proof_line a b) ∙ flat_map-append line_text (map proof_line a) (map proof_line b)
