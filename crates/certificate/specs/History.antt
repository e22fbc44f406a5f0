-- The proof lines of a search's history.
use Rattle.std.specs.Prelude.{List, Option, Some, None}
use Rattle.std.specs.List.{filter_map}
use Rattle.post_codec.specs.declared.post.Post.{Post}
use Rattle.post_codec.specs.declared.post.Post.TheVariants.{Plan, Priced as PricedPost, Split as SplitPost, Settled as SettledPost}
use Rattle.certificate.specs.declared.proof_lines.Line.{Line}
use Rattle.certificate.specs.declared.proof_lines.Line.TheVariants.{Split, Priced, Settled}

-- the proof line of a post, which a plan hasn't
abbrev pub line_of : Post → Option Line
line_of (Plan worker rows cost) = None
line_of (PricedPost worker node prices) = Some (Priced node prices)
line_of (SplitPost worker node class m) = Some (Split node class m)
line_of (SettledPost worker node) = Some (Settled node)

-- a proof line for each post but the plans, in their order
abbrev pub lines_of : List Post → List Line
lines_of posts = filter_map line_of posts
