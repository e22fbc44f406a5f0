use Rattle.greedy.proofs.Common.{rules}
use Rattle.greedy.proofs.Growing.{draft_none}
use Rattle.greedy.proofs.draft.GreedyDraft.empty.Goals as goal

pub returns-clause-draft : goal.returns-clause-draft
returns-clause-draft c = draft_none c.args.instance.now c.in_ok-cover.cover c.in_ok-heads.heads.items c.new-rows.result.items c.days.ensures.valid c.in_ok-cover.ensures (search rules) c.new-rows.ensures.items
