use Rattle.cert_check.proofs.Common.{◌∙◌, sym, subst, w64, to_z-of_z, Completes, rest_worth, IsGreatest}
use Rattle.cert_check.proofs.WaysOn.{spot_value}
use Rattle.cert_check.proofs.layers.ByLayersWalk.value.Goals as goal

pub returns : goal.returns
returns c = λ rule len sums list s.
    subst (IsGreatest (Completes rule len list) (rest_worth sums rule len list)) (sym (to_z-of_z w64 _ (record { sfits = c.unwrap_or.type_inv }) ∙ c.unwrap_or.ensures))
    (spot_value c.args.self.now.layers rule len sums c.args.place list c.value_at.result s (c.value_at.ensures list))
