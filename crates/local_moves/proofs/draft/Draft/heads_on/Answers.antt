use Rattle.local_moves.proofs.Common.{◌≡◌, ◌+◌, ◌*◌, ◌∙◌, rules, get_or_read}
use Rattle.local_moves.proofs.DraftFacts.{view_heads}
use Rattle.local_moves.proofs.draft.Draft.heads_on.Goals as goal

pub returns : goal.returns
returns c =
    let i = c.args.instance.now in
    let heads = c.self.inside.heads.items in
    let at : c.from.result * c.from-2.result + c.from-3.result ≡ c.args.shift * i.days + c.args.day = search rules in
    let read = view_heads i c.args.self.now c.self.inside.cover heads c.self.inside.rows c.args.shift c.args.day _ c.self.invariant c.self.view_is c.requires.instance c.requires.shift c.requires.day at in
    get_or_read heads _ c.index.result.now read.0 c.index.ensures 0 ∙ read.1
