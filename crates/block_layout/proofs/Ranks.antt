-- Ranks that are given one by one, and what they show: no run goes round.
use Rattle.std.proofs.Common.{◌≡◌, ℕ, zero, suc, ◌+◌, ◌<◌, ◌≤◌, List, [], ◌∷◌, length, slice_index, replicate, set, ⊎_elim, sym, ap, subst, ◌∙◌, arith}
use Rattle.std.proofs.Common.{length-set, get_or-set_same, get_or-set_other}
use Rattle.std.proofs.lemmas.Bool.{cases_eq}
use Rattle.std.proofs.lemmas.List.{length-replicate}
use Rattle.semantics.specs.Step.{Program}
use Rattle.block_layout.specs.Loops.{Goes, Reaches, at_once, by_way, HasNoLoop}
use Rattle.block_layout.specs.Ranks.{unranked, AreRanks, AreRanked, HasNone, LeadsOn, AreOpenFrom}

pub unranked_set : (ranks : List ℕ) (slot rank : ℕ) → slot < length ranks → slice_index ranks slot ≡ 0 → 0 < rank → unranked (set ranks slot rank) + 1 ≡ unranked ranks
unranked_set [] slot rank within none some = absurd (omega arith)
unranked_set (zero ∷ ranks) zero zero within none some = absurd (omega arith)
unranked_set (zero ∷ ranks) zero (suc rank) within none some = omega arith
unranked_set (suc r ∷ ranks) zero rank within none some = absurd (omega arith)
unranked_set (zero ∷ ranks) (suc slot) rank within none some = let rest = unranked_set ranks slot rank (omega arith) none some in omega arith
unranked_set (suc r ∷ ranks) (suc slot) rank within none some = unranked_set ranks slot rank (omega arith) none some

unranked_zeros : (n : ℕ) → unranked (replicate n 0) ≡ n
unranked_zeros zero = omega arith
unranked_zeros (suc n) = let rest = unranked_zeros n in omega arith

pub index_zeros : (n k : ℕ) → slice_index (replicate n 0) k ≡ 0
index_zeros zero k = omega arith
index_zeros (suc n) zero = omega arith
index_zeros (suc n) (suc k) = index_zeros n k

-- no slot has a rank yet
pub none_ranked : (program : Program) (ranks : List ℕ) (n : ℕ) → ranks ≡ replicate n 0 → n ≡ length program → AreRanks program ranks 0
none_ranked program ranks n is long =
    subst (λ (l : List ℕ). AreRanks program l 0) (sym is)
    (record {
      long = length-replicate n 0 ∙ long;
      most = λ slot. let none = index_zeros n slot in omega arith;
      given = let all = unranked_zeros n in omega arith;
      once = λ slot other some same. let none = index_zeros n slot in absurd (omega arith);
      down = λ slot to some goes. let none = index_zeros n slot in absurd (omega arith);
    })

-- one more slot has a rank
module _ (program : Program) (ranks new : List ℕ) (slot count : ℕ) (are : AreRanks program ranks count) (none : HasNone ranks slot) (leads : AreRanked ranks (Goes program slot)) (is : new ≡ set ranks slot (count + 1)) where
  at_slot : slice_index new slot ≡ count + 1
  at_slot = ap (λ (l : List ℕ). slice_index l slot) is ∙ get_or-set_same ranks slot (count + 1) 0 none.0

  elsewhere : (k : ℕ) → (k ≡ slot → ⊥) → slice_index new k ≡ slice_index ranks k
  elsewhere k apart = ap (λ (l : List ℕ). slice_index l k) is ∙ get_or-set_other ranks slot k (count + 1) 0 apart

  not_slot : (to : ℕ) → 0 < slice_index ranks to → to ≡ slot → ⊥
  not_slot to some same =
      let at : slice_index ranks to ≡ slice_index ranks slot = ap (λ (k : ℕ). slice_index ranks k) same in
      let zero_at : slice_index ranks slot ≡ 0 = none.1 in
      omega arith

  most_more : (k : ℕ) → slice_index new k ≤ count + 1
  most_more k =
      ⊎_elim
      (λ (same : k ≡ slot).
      let at : slice_index new k ≡ slice_index new slot = ap (λ (i : ℕ). slice_index new i) same in
      let here = at_slot in
      omega arith)
      (λ (apart : k ≡ slot → ⊥).
      let there = elsewhere k apart in
      let before = are.most k in
      omega arith)
      (cases_eq k slot)

  down_more : (k to : ℕ) → 0 < slice_index new k → Goes program k to → (0 < slice_index new to) × (slice_index new to < slice_index new k)
  down_more k to some goes =
      ⊎_elim
      (λ (same : k ≡ slot).
      let ranked : 0 < slice_index ranks to = leads to (subst (λ (i : ℕ). Goes program i to) same goes) in
      let at : slice_index new k ≡ slice_index new slot = ap (λ (i : ℕ). slice_index new i) same in
      let here = at_slot in
      let there = elsewhere to (not_slot to ranked) in
      let low = are.most to in
      (omega arith, omega arith))
      (λ (apart : k ≡ slot → ⊥).
      let here = elsewhere k apart in
      let had : 0 < slice_index ranks k = omega arith in
      let old = are.down k to had goes in
      let ranked : 0 < slice_index ranks to = old.0 in
      let low : slice_index ranks to < slice_index ranks k = old.1 in
      let there = elsewhere to (not_slot to ranked) in
      (omega arith, omega arith))
      (cases_eq k slot)

  once_more : (k other : ℕ) → 0 < slice_index new k → slice_index new k ≡ slice_index new other → k ≡ other
  once_more k other some same =
      let here = at_slot in
      let most_k = are.most k in
      let most_other = are.most other in
      ⊎_elim
      (λ (is_k : k ≡ slot).
      ⊎_elim
      (λ (is_other : other ≡ slot). is_k ∙ sym is_other)
      (λ (apart : other ≡ slot → ⊥).
      let at : slice_index new k ≡ slice_index new slot = ap (λ (i : ℕ). slice_index new i) is_k in
      let there = elsewhere other apart in
      absurd (omega arith))
      (cases_eq other slot))
      (λ (not_k : k ≡ slot → ⊥).
      let there = elsewhere k not_k in
      ⊎_elim
      (λ (is_other : other ≡ slot).
      let at : slice_index new other ≡ slice_index new slot = ap (λ (i : ℕ). slice_index new i) is_other in
      absurd (omega arith))
      (λ (apart : other ≡ slot → ⊥).
      let other_there = elsewhere other apart in
      are.once k other (omega arith) (sym there ∙ same ∙ other_there))
      (cases_eq other slot))
      (cases_eq k slot)

  pub ranked_more : AreRanks program new (count + 1)
  ranked_more = record {
    long = ap (λ (l : List ℕ). length l) is ∙ length-set ranks slot (count + 1) ∙ are.long;
    most = most_more;
    given =
        let fewer : unranked (set ranks slot (count + 1)) + 1 ≡ unranked ranks = unranked_set ranks slot (count + 1) none.0 none.1 (omega arith) in
        let same : unranked new ≡ unranked (set ranks slot (count + 1)) = ap (λ (l : List ℕ). unranked l) is in
        let all = are.given in
        omega arith;
    once = once_more;
    down = down_more;
  }

-- one more slot was looked at
pub open_more : (program : Program) (ranks : List ℕ) (slot : ℕ) → AreOpenFrom program ranks (slot + 1) → LeadsOn program ranks slot → AreOpenFrom program ranks slot
open_more program ranks slot behind here k low =
    ⊎_elim
    (λ (same : k ≡ slot). subst (λ (i : ℕ). LeadsOn program ranks i) (sym same) here)
    (λ (apart : k ≡ slot → ⊥). behind k (omega arith))
    (cases_eq k slot)

-- the same, where ranks may have been given
pub open_next : (program : Program) (old new : List ℕ) (slot next count ranked more : ℕ) → slot ≡ next + 1 → count ≤ ranked → ranked ≤ more → (ranked ≡ count → AreOpenFrom program old slot) → (more ≡ ranked → new ≡ old) → (more ≡ ranked → LeadsOn program new next)
    → more ≡ count → AreOpenFrom program new next
open_next program old new slot next count ranked more is low high before same leads all =
    let none_given : more ≡ ranked = omega arith in
    let none_before : ranked ≡ count = omega arith in
    open_more program new next
    (subst (λ (k : ℕ). AreOpenFrom program new k) is (subst (λ (l : List ℕ). AreOpenFrom program l slot) (sym (same none_given)) (before none_before)))
    (leads none_given)

module _ (program : Program) (ranks : List ℕ) (count : ℕ) (are : AreRanks program ranks count) where
  reached : (from to : ℕ) → Reaches program from to → 0 < slice_index ranks from → (0 < slice_index ranks to) × (slice_index ranks to ≤ slice_index ranks from)
  reached from to at_once some = (some, omega arith)
  reached from to (by_way {mid = mid} first goes) some =
      let before = reached from mid first some in
      let step = are.down mid to before.0 goes in
      let high : slice_index ranks mid ≤ slice_index ranks from = before.1 in
      let low : slice_index ranks to < slice_index ranks mid = step.1 in
      (step.0, omega arith)

  pub no_loop : 0 < slice_index ranks 0 → HasNoLoop program
  no_loop some slot loop =
      let here = reached 0 slot loop.begins some in
      let step = are.down slot loop.back here.0 loop.leads in
      let again = reached loop.back slot loop.again step.0 in
      let low : slice_index ranks loop.back < slice_index ranks slot = step.1 in
      let high : slice_index ranks slot ≤ slice_index ranks loop.back = again.1 in
      omega arith
