use Rattle.plan_page.proofs.Common.{ℕ, List, ◌++◌, sym, ap, ◌∙◌, string_bytes, flat_map, flat_map_more, map-id, escaped, escaped_char}
use Rattle.std.proofs.lemmas.Iterator.{YieldsList-from_chars}
use Rattle.std.proofs.lemmas.Iterator.Consumers.{YieldsList-end}
use Rattle.plan_page.proofs.escaping.add_escaped.Goals as goal

pub loop-c-preserved : goal.loop-c-preserved
loop-c-preserved c =
    c.in_ok-add_char.ensures
    ∙ ap (λ (page : List ℕ). page ++ escaped_char c.in-Some.c) c.loop-c.invariant
    ∙ flat_map_more escaped_char (string_bytes c.args.page.now) c.loop-c.yielded c.in-Some.c

pub returns : goal.returns
unfolding escaped
returns c =
    let all = YieldsList-end (YieldsList-from_chars c.args.text.now c.utf8.text cc) c.loop-c.yielded _ c.loop-c.yielded_by _ _ c.in-None.is c.next.ensures.steps in
    c.loop-c.invariant ∙ ap (λ (cs : List ℕ). string_bytes c.args.page.now ++ flat_map escaped_char cs) (sym (map-id c.loop-c.yielded) ∙ all.0)
