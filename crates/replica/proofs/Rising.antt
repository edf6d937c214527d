-- Operations whose counters rise.
use Rattle.std.proofs.Common.{◌≡◌, ℕ, zero, suc, ◌<◌, ◌≤◌, ◌^◌, ◌⊎◌, inr, ⊎_elim, List, [], ◌∷◌, ◌++◌, Some, None, refl, sym, ap, ◌∙◌, subst, arith, Contains}
use Rattle.std.specs.List.{slice_get}
use Rattle.std.proofs.lemmas.Option.{none-some, same_Some}
use Rattle.std.proofs.lemmas.List.Elements.{Contains-append_right}
use Rattle.change_ops.specs.declared.id.OpId.{OpId}
use Rattle.change_ops.specs.declared.operation.Op.{Op}
use Rattle.change_ops.specs.Operations.{id_of}
use Rattle.char_sequence.specs.Acceptance.{NamesId}
use Rattle.mark_anchors.proofs.Lists.{contains_at, contains_from}
use Rattle.replica.specs.Messages.{AreRising, end_of, Rises}

pub above : (previous : ℕ) (ops : List Op) (i : ℕ) (op : Op) → AreRising previous ops → slice_get ops i ≡ Some op → previous < (id_of op).counter
above previous [] i op rise g = absurd (none-some op g)
above previous (o ∷ ops) zero op rise g = subst (λ (p : Op). previous < (id_of p).counter) (same_Some o op g) rise.0
above previous (o ∷ ops) (suc i) op rise g =
    let low : previous < (id_of o).counter = rise.0 in
    let high : (id_of o).counter < (id_of op).counter = above (id_of o).counter ops i op rise.2 g in
    omega arith

pub rising : (previous : ℕ) (ops : List Op) (i j : ℕ) (o p : Op) → AreRising previous ops → i < j → slice_get ops i ≡ Some o → slice_get ops j ≡ Some p → (id_of o).counter < (id_of p).counter
rising previous [] i j o p rise less g h = absurd (none-some o g)
rising previous (x ∷ xs) i zero o p rise less g h = absurd (omega arith)
rising previous (x ∷ xs) zero (suc j) o p rise less g h =
    let high : (id_of x).counter < (id_of p).counter = above (id_of x).counter xs j p rise.2 h in
    subst (λ (y : Op). (id_of y).counter < (id_of p).counter) (same_Some x o g) high
rising previous (x ∷ xs) (suc i) (suc j) o p rise less g h = rising (id_of x).counter xs i j o p rise.2 (omega arith) g h

pub above_named : (previous : ℕ) (ops : List Op) (i : ℕ) (op : Op) (x : OpId) → AreRising previous ops → slice_get ops i ≡ Some op → NamesId op x → x.counter < (id_of op).counter
above_named previous [] i op x rise g names = absurd (none-some op g)
above_named previous (o ∷ ops) zero op x rise g names = let all : (p : Op) → o ≡ p → NamesId p x → x.counter < (id_of p).counter = λ p e. subst (λ (q : Op). NamesId q x → x.counter < (id_of q).counter) e (rise.1 x) in all op (same_Some o op g) names
above_named previous (o ∷ ops) (suc i) op x rise g names = above_named (id_of o).counter ops i op x rise.2 g names

-- ---- operations behind others
pub end_append : (previous : ℕ) (xs ys : List Op) → end_of previous (xs ++ ys) ≡ end_of (end_of previous xs) ys
end_append previous [] ys = refl
end_append previous (x ∷ xs) ys = end_append (id_of x).counter xs ys

pub rising_append : (previous : ℕ) (xs ys : List Op) → AreRising previous xs → AreRising (end_of previous xs) ys → AreRising previous (xs ++ ys)
rising_append previous [] ys first second = second
rising_append previous (x ∷ xs) ys first second = (first.0, first.1, rising_append (id_of x).counter xs ys first.2 second)

pub rising_behind : (previous : ℕ) (xs ys : List Op) → AreRising previous (xs ++ ys) → AreRising (end_of previous xs) ys
rising_behind previous [] ys all = all
rising_behind previous (x ∷ xs) ys all = rising_behind (id_of x).counter xs ys all.2

pub rising_front : (previous : ℕ) (xs ys : List Op) → AreRising previous (xs ++ ys) → AreRising previous xs
rising_front previous [] ys all = tt
rising_front previous (x ∷ xs) ys all = (all.0, all.1, rising_front (id_of x).counter xs ys all.2)

pub rises_more : (previous last next : ℕ) (xs ys : List Op) → Rises previous xs (Some last) → Rises last ys (Some next) → Rises previous (xs ++ ys) (Some next)
rises_more previous last next xs ys first second = (
  rising_append previous xs ys first.0 (subst (λ n. AreRising n ys) (sym first.1) second.0),
  end_append previous xs ys ∙ ap (λ n. end_of n ys) first.1 ∙ second.1,
  ⊎_elim (λ (same : last ≡ next). subst (λ n. (previous ≡ n) ⊎ (n < 2 ^ 48)) same first.2) (λ (small : next < 2 ^ 48). inr small) second.2,
)

pub rises_not : (previous last : ℕ) (xs ys zs : List Op) → Rises previous xs (Some last) → Rises last ys None → Rises previous (xs ++ (ys ++ zs)) None
rises_not previous last xs ys zs first not = λ all. not (subst (λ n. AreRising n ys) first.1 (rising_front (end_of previous xs) ys zs (rising_behind previous xs (ys ++ zs) all)))

-- ---- the last counter
pub end_above : (previous : ℕ) (ops : List Op) → AreRising previous ops → previous ≤ end_of previous ops
end_above previous [] rise = omega arith
end_above previous (x ∷ xs) rise =
    let low : previous < (id_of x).counter = rise.0 in
    let high : (id_of x).counter ≤ end_of (id_of x).counter xs = end_above (id_of x).counter xs rise.2 in
    omega arith

pub end_covers : (previous : ℕ) (ops : List Op) (i : ℕ) (op : Op) → AreRising previous ops → slice_get ops i ≡ Some op → (id_of op).counter ≤ end_of previous ops
end_covers previous [] i op rise g = absurd (none-some op g)
end_covers previous (x ∷ xs) zero op rise g = subst (λ (p : Op). (id_of p).counter ≤ end_of (id_of x).counter xs) (same_Some x op g) (end_above (id_of x).counter xs rise.2)
end_covers previous (x ∷ xs) (suc i) op rise g = end_covers (id_of x).counter xs i op rise.2 g

end_op : (previous : ℕ) (op : Op) (ops : List Op) → (o : Op) × Contains (op ∷ ops) o × ((id_of o).counter ≡ end_of previous (op ∷ ops))
end_op previous op [] = (op, contains_from (op ∷ []) 0 op refl, refl)
end_op previous op (x ∷ xs) = let r = end_op (id_of op).counter x xs in (r.0, Contains-append_right (op ∷ []) (x ∷ xs) r.0 r.1, r.2)

-- the last operation has the last counter
pub last_of : (previous : ℕ) (ops : List Op) (first : Op) → Contains ops first → (o : Op) × Contains ops o × ((id_of o).counter ≡ end_of previous ops)
last_of previous [] first has = let at = contains_at [] first has in absurd (none-some first at.1)
last_of previous (op ∷ ops) first has = end_op previous op ops

pub some_operation : (previous : ℕ) (ops : List Op) → (end_of previous ops ≡ previous → ⊥) → (o : Op) × Contains ops o
some_operation previous [] other = absurd (other refl)
some_operation previous (op ∷ ops) other = (op, contains_from (op ∷ ops) 0 op refl)

pub none_above : (previous : ℕ) (ops : List Op) (first : Op) → AreRising previous ops → Contains ops first → end_of previous ops ≡ previous → ⊥
none_above previous ops first rise has same =
    let at = contains_at ops first has in
    let over : previous < (id_of first).counter = above previous ops at.0 first rise at.1 in
    let under : (id_of first).counter ≤ end_of previous ops = end_covers previous ops at.0 first rise at.1 in
    omega arith
