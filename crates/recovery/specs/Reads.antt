-- What workers read of records, and find of their posts.
use Rattle.std.specs.Prelude.{ℕ, List, [], Option, Result, Ok, Err, MatchResult, Vec}
use Rattle.std.specs.List.{AllZip, flat_map}
use Rattle.std.specs.declared.alloc.Global.{Global}
use Rattle.shift_instance.specs.Problem.{Problem}
use Rattle.head_splits.specs.declared.Cut.{Cut}
use Rattle.post_codec.specs.declared.fault.CodecFault.{CodecFault}
use Rattle.post_codec.specs.declared.post.Post.{Post}
use Rattle.post_codec.specs.declared.price_width.PriceWidth.{PriceWidth}
use Rattle.post_codec.specs.Fields.{IsFaultOf}
use Rattle.post_codec.specs.Spelling.{SpellsBy}
use Rattle.recovery.specs.Findings.{AreFoundIn}

-- what reading a record gives: the posts that it spells, or why it spells none
abbrev pub Outcome : Type 0
Outcome = Result (Vec Post Global) CodecFault

abbrev pub IsReadOf : PriceWidth → List ℕ → Outcome → Type 0
IsReadOf w bytes outcome = MatchResult outcome (λ posts. SpellsBy w bytes posts.items) (IsFaultOf w bytes)

-- the posts of a record that was read, and none where it spells none
abbrev pub posts_in : Outcome → List Post
posts_in (Ok posts) = posts.items
posts_in (Err fault) = []

-- the posts of all records
abbrev pub all_posts : List Outcome → List Post
all_posts outcomes = flat_map posts_in outcomes

-- each record is read so, by its number
abbrev pub AreReads : PriceWidth → List (Vec ℕ Global) → List Outcome → Type 0
AreReads w records outcomes = AllZip (λ r outcome. IsReadOf w r.items outcome) records outcomes

-- what is found of each record's posts, by its number
abbrev pub AreAllFound : Problem → List (List Cut) → List Outcome → List (Vec (Option ℕ) Global) → Type 0
AreAllFound i nodes outcomes bounds = AllZip (λ outcome found. AreFoundIn i nodes (posts_in outcome) found.items) outcomes bounds
