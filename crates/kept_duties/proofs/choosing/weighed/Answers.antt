use Rattle.std.proofs.Common.{◌*◌, ◌≤◌, arith}
use Rattle.std.proofs.Math.Nat.{mul-le-mul_left}
use Rattle.kept_duties.proofs.choosing.weighed.Goals as goal

pub overflow_mul-result : goal.overflow_mul-result
overflow_mul-result c =
    let most : c.from-2.result * c.kept_duties.result ≤ c.from-2.result * 1208925819614629174706176 = mul-le-mul_left c.from-2.result (omega (arith, c.kept_duties.ensures.small)) in
    omega (arith, most, c.from-2.ensures, c.ranges.change.fits)

pub overflow_add-result : goal.overflow_add-result
overflow_add-result c =
    let most : c.from-2.result * c.kept_duties.result ≤ c.from-2.result * 1208925819614629174706176 = mul-le-mul_left c.from-2.result (omega (arith, c.kept_duties.ensures.small)) in
    omega (arith, most, c.from.ensures, c.recount.type_inv, c.from-2.ensures, c.ranges.change.fits)
