-- The parts of a price set, by the test of one.
use Rattle.head_splits.proofs.Common.{◌≡◌, ◌≤◌, ℤ, ◌≤ℤ◌, true, ◌&&◌, ◌==◌, nat_le, List, length, int_le, list_all, zip, and_parts, leb-true, Problem, slots, Cut, Prices, is_slot_price, is_cut_price, are_prices}
use Rattle.std.specs.Int.Signed.{le_z_yes}
use Rattle.std.proofs.lemmas.Bool.{eqb-true}
use Rattle.std.proofs.lemmas.Float.{T_from_true}

pub record Priced (i : Problem) (cuts : List Cut) (prices : Prices) : Type 0 where
  pub scale : 1 ≤ prices.q
  pub limit : prices.q ≤ 10000
  pub slot_count : length prices.slots ≡ slots i
  pub slot_prices : list_all (is_slot_price i prices.q) prices.slots ≡ true
  pub cut_count : length prices.cuts ≡ length cuts
  pub cut_prices : list_all is_cut_price (zip cuts prices.cuts) ≡ true

pub priced : (i : Problem) (cuts : List Cut) (prices : Prices) → are_prices i cuts prices ≡ true → Priced i cuts prices
priced i cuts prices h =
    let a = nat_le 1 prices.q in
    let b = nat_le prices.q 10000 in
    let c = length prices.slots == slots i in
    let d = list_all (is_slot_price i prices.q) prices.slots in
    let e = length prices.cuts == length cuts in
    let f = list_all is_cut_price (zip cuts prices.cuts) in
    let p5 = and_parts (a && b && c && d && e) f h in
    let p4 = and_parts (a && b && c && d) e p5.0 in
    let p3 = and_parts (a && b && c) d p4.0 in
    let p2 = and_parts (a && b) c p3.0 in
    let p1 = and_parts a b p2.0 in
    record {
      scale = leb-true 1 prices.q p1.0;
      limit = leb-true prices.q 10000 p1.1;
      slot_count = eqb-true _ _ p2.1;
      slot_prices = p3.1;
      cut_count = eqb-true _ _ p4.1;
      cut_prices = p5.1;
    }

pub le_from_test : (x y : ℤ) → int_le x y ≡ true → x ≤ℤ y
le_from_test x y e = le_z_yes (T_from_true (int_le x y) e)
