use Rattle.solve_words.proofs.Common.{◌≡◌, ◌∙◌, ◌-◌, ◌≤◌, sym, ap, ap₂, subst, ℕ, List, [], ◌∷◌, map, take, drop, get_or, length, codes, option_map, Option, Some, string_bytes, Global, arith, take_all, bytes_eq-Decides, given, Asked, IsFoundIn, IsReadAs}
use Rattle.solve_words.specs.declared.texts.Texts.{Texts}
use Rattle.solve_words.proofs.Finding.{read_some}
use Rattle.solve_words.proofs.Within.{read_within}
use Rattle.solve_words.proofs.command.command_of.Goals as goal

-- words of which the first has that text
verb_first : {A : Type 0} (text : A → List ℕ) (words : List A) (verb : A) → 1 ≤ length words → verb ≡ get_or words 0 verb → text verb ≡ codes "solve"
    → map text words ≡ codes "solve" ∷ map text (take (length words - 1) (drop 1 words))
verb_first text [] verb some first is = absurd (omega arith)
verb_first {A} text (word ∷ words) verb some first is =
    let all : take (length (word ∷ words) - 1) words ≡ words = take_all (length (word ∷ words) - 1) words (omega arith) in
    ap₂ (λ (t : List ℕ) (l : List A). t ∷ map text l) (ap text (sym first) ∙ is) (sym all)

pub returns-in-Some-clause-reads : goal.returns-in-Some-clause-reads
returns-in-Some-clause-reads c =
    let words : List (List ℕ) = map (string_bytes {Z = Global}) c.args.words.now in
    let rest : List (List ℕ) = map (string_bytes {Z = Global}) (take (length c.args.words.now - 1) (drop 1 c.args.words.now)) in
    let solve : c.as_str.result.now ≡ codes "solve" = (bytes_eq-Decides c.as_str.result.now (codes "solve")).0 (sym c.eq.ensures ∙ c.if-eq.true) in
    let shape : words ≡ codes "solve" ∷ rest = verb_first (string_bytes {Z = Global}) c.args.words.now c.verb-item.result c.in-len1-up.len_at_least c.verb-item.is (sym c.as_str.ensures.value ∙ solve) in
    let here : IsFoundIn rest (Some (given c.in-Some.texts)) = subst (λ (o : Option Texts). IsFoundIn rest (option_map given o)) c.in-Some.is c.in_ok-texts-in-len1-up.ensures in
    subst (λ (o : Option Asked). IsReadAs words o) (sym c.asked_in.ensures) (read_some words rest (given c.in-Some.texts) shape here)

pub returns-in-Some-clause-within : goal.returns-in-Some-clause-within
returns-in-Some-clause-within c = read_within (map (string_bytes {Z = Global}) c.args.words.now) c.asked_in.result (returns-in-Some-clause-reads c)
