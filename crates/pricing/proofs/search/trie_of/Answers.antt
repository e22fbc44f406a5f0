use Rattle.pricing.proofs.Common.{◌≡◌, ℤ, List, length, get_or, sym, ap, subst, ◌∙◌, ◌≤◌, ◌+◌, arith, to_z, of_z, take_all, All-get_or, unsigned_abs, Break, with_added, bonus_of, leads_further, w64, kept_small}
use Rattle.pricing.proofs.Tries.{sums_more, prefixes_more, prefixes_kept}
use Rattle.pricing.proofs.search.trie_of.Goals as goal

pub loop-prefix-preserved : goal.loop-prefix-preserved
loop-prefix-preserved c =
    let bonus = c.args.bonus.now in
    let i = c.loop-prefix.prefix-index in
    let inv = c.loop-prefix.invariant in
    let item : List Break × ℤ = c.loop-prefix-item.result in
    let is : item ≡ get_or bonus i item = c.loop-prefix-item.is in
    let small : unsigned_abs item.1 ≤ 1000000000000 = subst (λ (e : List Break × ℤ). unsigned_abs e.1 ≤ 1000000000000) (sym is) (All-get_or (λ (e : List Break × ℤ). unsigned_abs e.1 ≤ 1000000000000) bonus i item c.loop-prefix-test.true c.requires.small) in
    let entries : c.add.new.self.entries ≡ with_added c.loop-prefix.trie.entries (get_or bonus i item).0 (get_or bonus i item).1 =
    c.in_ok-add.ensures.entries ∙ ap (λ (l : List Break). with_added c.loop-prefix.trie.entries l (to_z w64 (of_z w64 item.1))) c.as_slice.ensures
    ∙ ap (with_added c.loop-prefix.trie.entries item.0) (kept_small item.1 small) ∙ ap (λ (e : List Break × ℤ). with_added c.loop-prefix.trie.entries e.0 e.1) is in
    record {
      count = c.in_ok-add.ensures.additions ∙ ap (λ n. n + 1) inv.count;
      sums = λ list. ap (λ (l : List (List Break × ℤ)). bonus_of l list) entries ∙ sums_more bonus i item c.loop-prefix-test.true c.loop-prefix.trie.entries inv.sums list;
      prefixes = λ front h. prefixes_more bonus i item c.loop-prefix-test.true c.loop-prefix.trie.entries inv.prefixes front (sym (ap (λ (l : List (List Break × ℤ)). leads_further l front) entries) ∙ h);
      kept = λ front h. ap (λ (l : List (List Break × ℤ)). leads_further l front) entries ∙ prefixes_kept bonus i item c.loop-prefix-test.true c.loop-prefix.trie.entries inv.kept front h;
    }

pub returns-clause-sums : goal.returns-clause-sums
returns-clause-sums c =
    let all : length c.args.bonus.now ≤ c.loop-prefix.prefix-index = omega arith in
    λ list. c.loop-prefix.invariant.sums list ∙ ap (λ l. bonus_of l list) (take_all c.loop-prefix.prefix-index c.args.bonus.now all)

pub returns-clause-prefixes : goal.returns-clause-prefixes
returns-clause-prefixes c =
    let all : length c.args.bonus.now ≤ c.loop-prefix.prefix-index = omega arith in
    λ front h. sym (ap (λ l. leads_further l front) (take_all c.loop-prefix.prefix-index c.args.bonus.now all)) ∙ c.loop-prefix.invariant.prefixes front h

pub returns-clause-kept : goal.returns-clause-kept
returns-clause-kept c =
    let all : length c.args.bonus.now ≤ c.loop-prefix.prefix-index = omega arith in
    λ front h. c.loop-prefix.invariant.kept front (ap (λ l. leads_further l front) (take_all c.loop-prefix.prefix-index c.args.bonus.now all) ∙ h)
