use Rattle.cert_check.proofs.Common.{◌≡◌, list_all, zip, is_cut_price, pairs_from}
use Rattle.cert_check.proofs.prices.are_cut_prices.Given as goal

abbrev pub invariant-loop-k : goal.invariant-loop-k
invariant-loop-k l = list_all is_cut_price (pairs_from l.cuts l.prices l.k) ≡ list_all is_cut_price (zip l.cuts l.prices)
