-- Open removals of characters, as removals are added and taken back.
use Rattle.std.proofs.Common.{◌≡◌, ℕ, ◌+◌, ◌-◌, ◌<◌, ◌≤◌, Bool, true, false, not, ◌&&◌, ◌||◌, cond, List, [], ◌∷◌, Option, Some, None, MatchOption, ◌⊎◌, inl, inr, sym, ap, refl, ◌∙◌, subst, arith, ⊎_elim}
use Rattle.std.specs.Prelude.{◌↔◌, IsTrue, nat_lt, unwrap_or}
use Rattle.std.specs.List.{Contains, count_by, list_any, AllZip}
use Rattle.std.specs.List.Sorted.{IsPermutation}
use Rattle.std.specs.BTreeMap.{BTreeMap, get}
use Rattle.std.specs.declared.cmp.Ordering.TheVariants as ordering
use Rattle.std.proofs.lemmas.Bool.{cases_Bool, cases_lt, false≢true, ltb-true, lt-ltb}
use Rattle.std.proofs.lemmas.Option.{same_Some, none-some}
use Rattle.std.proofs.lemmas.List.Sorted.{Contains-permutation, IsPermutation-sym}
use Rattle.std.proofs.lemmas.Map.Views.{Contains-from_any}
use Rattle.change_ops.specs.Ids.{id_cmp}
use Rattle.change_ops.specs.declared.id.OpId.{OpId}
use Rattle.change_ops.proofs.IdLaws.{compares_ids}
use Rattle.removal_runs.specs.Removals.{Removal}
use Rattle.removal_runs.specs.Open.{Removals, Removes, HasOpen, IsOnlyOpen, same, has_id, is_open, open_count, IsCount, AreCounted, fewer}
use Rattle.removal_runs.proofs.Joining.{nothing_there}
use Rattle.removal_runs.proofs.Counting.{cons_cases, at_front, behind_front, count_cons, count_moved, passed, failed, count_none, count_some, count_two, count_le, count_apart}

-- ---- ids
pub same_true : (a b : OpId) → a ≡ b → same a b ≡ true
same_true a b e = let tied : id_cmp a b ≡ ordering.Equal = (compares_ids a b).equal.1 e in rw tied refl

pub same_is : (a b : OpId) → same a b ≡ true → a ≡ b
same_is a b t =
    elim (id_cmp a b) as (λ o. id_cmp a b ≡ o → a ≡ b) [
      | ordering.Less ↦ λ is. let off : same a b ≡ false = rw is refl in absurd (false≢true (sym off ∙ t))
      | ordering.Equal ↦ λ is. (compares_ids a b).equal.0 is
      | ordering.Greater ↦ λ is. let off : same a b ≡ false = rw is refl in absurd (false≢true (sym off ∙ t))
    ] refl

pub same_cases : (a b : OpId) → (a ≡ b) ⊎ (a ≡ b → ⊥)
same_cases a b =
    ⊎_elim
    (λ (t : same a b ≡ true). inl (same_is a b t))
    (λ (f : same a b ≡ false). inr (λ e. false≢true (sym f ∙ same_true a b e)))
    (cases_Bool (same a b))

back_true : (back : List OpId) (id : OpId) → Contains back id → list_any (same id) back ≡ true
back_true [] id h = absurd (nothing_there id h)
back_true (x ∷ xs) id h =
    ⊎_elim
    (λ (now : x ≡ id). ap (λ b. b || list_any (same id) xs) (same_true id x (sym now)))
    (λ (old : Contains xs id).
    ⊎_elim
    (λ (t : same id x ≡ true). ap (λ b. b || list_any (same id) xs) t)
    (λ (f : same id x ≡ false). ap (λ b. b || list_any (same id) xs) f ∙ back_true xs id old)
    (cases_Bool (same id x)))
    (cons_cases x xs id h)

back_is : (back : List OpId) (id : OpId) → list_any (same id) back ≡ true → Contains back id
back_is back id t = Contains-from_any {eq = same} same_is id back t

back_false : (back : List OpId) (id : OpId) → (Contains back id → ⊥) → list_any (same id) back ≡ false
back_false back id none =
    ⊎_elim
    (λ (t : list_any (same id) back ≡ true). absurd (none (back_is back id t)))
    (λ (f : list_any (same id) back ≡ false). f)
    (cases_Bool (list_any (same id) back))

-- ---- open removals
abbrev pub removal_of : OpId → OpId → Removal
removal_of r x = record { id = r; target = x }

and_left : (a b : Bool) → (a && b) ≡ true → a ≡ true
and_left true b t = refl
and_left false b t = absurd (false≢true t)

and_right : (a b : Bool) → (a && b) ≡ true → b ≡ true
and_right true b t = t
and_right false b t = absurd (false≢true t)

not_true : (b : Bool) → not b ≡ true → b ≡ false
not_true true t = absurd (false≢true t)
not_true false t = refl

open_true : (back : List OpId) (x : OpId) (r : Removal) → x ≡ r.target → (Contains back r.id → ⊥) → is_open back x r ≡ true
open_true back x r is none =
    ap (λ b. b && not (list_any (same r.id) back)) (same_true x r.target is) ∙ ap not (back_false back r.id none)

open_is : (back : List OpId) (x : OpId) (r : Removal) → is_open back x r ≡ true → (x ≡ r.target) × (Contains back r.id → ⊥)
open_is back x r t = (
  same_is x r.target (and_left (same x r.target) (not (list_any (same r.id) back)) t),
  λ c. false≢true (sym (not_true (list_any (same r.id) back) (and_right (same x r.target) (not (list_any (same r.id) back)) t)) ∙ back_true back r.id c),
)

same_removal : (r : Removal) (x : OpId) → x ≡ r.target → removal_of r.id x ≡ r
same_removal r x is = ap (λ z. removal_of r.id z) is

pub none_open : (removals : Removals) (x : OpId) → (HasOpen removals x → ⊥) → open_count removals x ≡ 0
none_open removals x none =
    count_none (is_open removals.back x) removals.removals
    (λ r c t.
    let is = open_is removals.back x r t in
    none (r.id, subst (λ z. Contains removals.removals z) (sym (same_removal r x is.0)) c, is.1))

pub some_open : (removals : Removals) (x : OpId) → HasOpen removals x → 1 ≤ open_count removals x
some_open removals x h =
    count_some (is_open removals.back x) removals.removals (removal_of h.0 x) h.1 (open_true removals.back x (removal_of h.0 x) refl h.2)

pub one_target : (removals : Removals) (counts : BTreeMap OpId ℕ) → AreCounted removals counts → (r x y : OpId) → Removes removals r x → Removes removals r y → x ≡ y
one_target removals counts ok r x y a b =
    ⊎_elim
    (λ (is : x ≡ y). is)
    (λ (apart : x ≡ y → ⊥).
    let two = count_two (has_id r) removals.removals (removal_of r x) (removal_of r y) a b (same_true r r refl) (same_true r r refl) (λ e. apart (ap (λ (z : Removal). z.target) e)) in
    let one = ok.one r in
    absurd (omega (arith, two, one)))
    (same_cases x y)

-- a character whose only open removal this is has one
pub alone_one : (removals : Removals) (counts : BTreeMap OpId ℕ) → AreCounted removals counts → (r x : OpId) → IsOnlyOpen removals r x → open_count removals x ≤ 1
alone_one removals counts ok r x alone =
    let less =
    count_le (is_open removals.back x) (has_id r) removals.removals
    (λ s c t.
    let is = open_is removals.back x s t in
    same_true r s.id (sym (alone.only s.id (subst (λ z. Contains removals.removals z) (sym (same_removal s x is.0)) c) is.1)))
    in
    let one = ok.one r in
    omega (arith, less, one)

pub one_alone : (removals : Removals) (r x : OpId) → Removes removals r x → (Contains removals.back r → ⊥) → open_count removals x ≤ 1 → IsOnlyOpen removals r x
one_alone removals r x removes stands few = record {
  removes = removes;
  stands = stands;
  only =
      λ s c open_too.
      ⊎_elim
      (λ (is : s ≡ r). is)
      (λ (apart : s ≡ r → ⊥).
      let two = count_two (is_open removals.back x) removals.removals (removal_of s x) (removal_of r x) c removes (open_true removals.back x (removal_of s x) refl open_too) (open_true removals.back x (removal_of r x) refl stands) (λ e. apart (ap (λ (z : Removal). z.id) e)) in
      absurd (omega (arith, two, few)))
      (same_cases s r);
}

-- ---- a count that is read
pub count_is : (removals : Removals) (x : OpId) (entry : Option ℕ) → IsCount removals x entry → HasOpen removals x → unwrap_or entry 1 ≡ open_count removals x
count_is removals x None few h = let some = some_open removals x h in omega (arith, few, some)
count_is removals x (Some n) is h = is.1

count_few : (removals : Removals) (x : OpId) (entry : Option ℕ) → IsCount removals x entry → unwrap_or entry 1 ≤ 1 → open_count removals x ≤ 1
count_few removals x None few low = few
count_few removals x (Some n) is low = let count = is.1 in omega (arith, low, count)

count_many : (removals : Removals) (x : OpId) (entry : Option ℕ) → IsCount removals x entry → 1 < unwrap_or entry 1 → 2 ≤ open_count removals x
count_many removals x None few more = absurd (omega (arith, more))
count_many removals x (Some n) is more = let count = is.1 in omega (arith, count, more)

pub not_alone : (removals : Removals) (counts : BTreeMap OpId ℕ) → AreCounted removals counts → (r target x : OpId) (n : ℕ) → Removes removals r target → n ≡ unwrap_or (get id_cmp counts target) 1 → 1 < n → IsOnlyOpen removals r x → ⊥
not_alone removals counts ok r target x n removes is_count more alone =
    let is : x ≡ target = one_target removals counts ok r x target alone.removes removes in
    let few = alone_one removals counts ok r x alone in
    let many = count_many removals target (get id_cmp counts target) (ok.counted target) (subst (λ m. 1 < m) is_count more) in
    let count = ap (open_count removals) is in
    omega (arith, few, many, count)

pub is_alone : (removals : Removals) (counts : BTreeMap OpId ℕ) → AreCounted removals counts → (r target : OpId) (n : ℕ) → Removes removals r target → (Contains removals.back r → ⊥) → n ≡ unwrap_or (get id_cmp counts target) 1 → n ≤ 1 → IsOnlyOpen removals r target
is_alone removals counts ok r target n removes stands is_count low =
    one_alone removals r target removes stands (count_few removals target (get id_cmp counts target) (ok.counted target) (subst (λ m. m ≤ 1) is_count low))

-- with the same numbers the counts say as much
pub counted_same : (removals : Removals) (counts later : BTreeMap OpId ℕ) → AreCounted removals counts → ((x : OpId) → get id_cmp later x ≡ get id_cmp counts x) → AreCounted removals later
counted_same removals counts later ok alike = record {
  one = ok.one;
  known = ok.known;
  counted = λ x. subst (λ e. IsCount removals x e) (sym (alike x)) (ok.counted x);
}

-- ---- tests
pub same_false : (a b : OpId) → (a ≡ b → ⊥) → same a b ≡ false
same_false a b apart =
    ⊎_elim
    (λ (t : same a b ≡ true). absurd (apart (same_is a b t)))
    (λ (f : same a b ≡ false). f)
    (cases_Bool (same a b))

pub found_at : (N : Type 0) (P : OpId → Type 0) (r : Option OpId) (x : OpId) → r ≡ Some x → MatchOption r N P → P x
found_at N P r x is told = subst (λ o. MatchOption o N P) is told

-- a clone of counts has the same ones
pub zip_same : (es fs : List (OpId × ℕ)) → AllZip (λ (p q : OpId × ℕ). (q.0 ≡ p.0) × (q.1 ≡ p.1)) es fs → fs ≡ es
zip_same [] [] h = refl
zip_same [] (f ∷ fs) h = absurd h
zip_same (e ∷ es) [] h = absurd h
zip_same (e ∷ es) (f ∷ fs) h =
    let first : f ≡ e = ap (λ a. (a, f.1)) h.0.0 ∙ ap (λ b. (e.0, b)) h.0.1 in
    ap (λ z. z ∷ fs) first ∙ ap (λ zs. e ∷ zs) (zip_same es fs h.1)

-- ---- a removal is added
-- with the same count a number says as much
moved_count : (old new : Removals) (x : OpId) (entry : Option ℕ) → open_count new x ≡ open_count old x → IsCount old x entry → IsCount new x entry
moved_count old new x None same few = omega (arith, same, few)
moved_count old new x (Some n) same is = (is.0, is.1 ∙ sym same)

no_count : (removals : Removals) (x : OpId) (entry : Option ℕ) → open_count removals x ≡ 0 → IsCount removals x entry → entry ≡ None
no_count removals x None zero_open few = refl
no_count removals x (Some n) zero_open is = let some = is.0 in let same = is.1 in absurd (omega (arith, zero_open, some, same))

module _ (old new : Removals) (counts : BTreeMap OpId ℕ) (id target : OpId) (ok : AreCounted old counts) (moved : IsPermutation (removal_of id target ∷ old.removals) new.removals) (back : new.back ≡ old.back) (fresh : (r : Removal) → Contains old.removals r → r.id.node ≡ id.node → r.id.counter < id.counter) where
  not_there : (r : Removal) → Contains old.removals r → r.id ≡ id → ⊥
  not_there r c same_one =
      let less = fresh r c (ap (λ (z : OpId). z.node) same_one) in
      let level = ap (λ (z : OpId). z.counter) same_one in
      omega (arith, less, level)

  not_back : Contains old.back id → ⊥
  not_back c = let k = ok.known id c in not_there (removal_of id k.0) k.1 refl

  added_count : (p : Removal → Bool) → count_by p new.removals ≡ cond (p (removal_of id target)) 1 0 + count_by p old.removals
  added_count p = count_moved p (removal_of id target ∷ old.removals) new.removals moved ∙ count_cons p (removal_of id target) old.removals

  kept_member : (r : Removal) → Contains old.removals r → Contains new.removals r
  kept_member r c = Contains-permutation (removal_of id target ∷ old.removals) new.removals r moved (behind_front (removal_of id target) old.removals r c)

  pub added_member : (r x : OpId) → Removes new r x ↔ (Removes old r x ⊎ ((r ≡ id) × (x ≡ target)))
  added_member r x = (
    λ c.
        ⊎_elim
        (λ (now : removal_of id target ≡ removal_of r x). inr (sym (ap (λ (z : Removal). z.id) now), sym (ap (λ (z : Removal). z.target) now)))
        (λ (was : Removes old r x). inl was)
        (cons_cases (removal_of id target) old.removals (removal_of r x) (Contains-permutation new.removals (removal_of id target ∷ old.removals) (removal_of r x) (IsPermutation-sym (removal_of id target ∷ old.removals) new.removals moved) c)),
    λ h.
        ⊎_elim
        (λ (was : Removes old r x). kept_member (removal_of r x) was)
        (λ (now : (r ≡ id) × (x ≡ target)).
        subst (λ z. Contains new.removals (removal_of z x)) (sym now.0) (subst (λ z. Contains new.removals (removal_of id z)) (sym now.1)
        (Contains-permutation (removal_of id target ∷ old.removals) new.removals (removal_of id target) moved (at_front (removal_of id target) old.removals))))
        h,
  )

  open_added : (x : OpId) → open_count new x ≡ cond (is_open old.back x (removal_of id target)) 1 0 + open_count old x
  open_added x = ap (λ b. count_by (is_open b x) new.removals) back ∙ added_count (is_open old.back x)

  open_elsewhere : (x : OpId) → (x ≡ target → ⊥) → open_count new x ≡ open_count old x
  open_elsewhere x apart =
      let whole = open_added x in
      ⊎_elim
      (λ (t : is_open old.back x (removal_of id target) ≡ true). absurd (apart (open_is old.back x (removal_of id target) t).0))
      (λ (f : is_open old.back x (removal_of id target) ≡ false). let none = failed (is_open old.back x (removal_of id target)) f in omega (arith, whole, none))
      (cases_Bool (is_open old.back x (removal_of id target)))

  open_here : open_count new target ≡ 1 + open_count old target
  open_here =
      let whole = open_added target in
      let one = passed (is_open old.back target (removal_of id target)) (open_true old.back target (removal_of id target) refl not_back) in
      omega (arith, whole, one)

  one_more_id : (q : OpId) → count_by (has_id q) new.removals ≤ 1
  one_more_id q =
      let whole = added_count (has_id q) in
      ⊎_elim
      (λ (t : has_id q (removal_of id target) ≡ true).
      let is : q ≡ id = same_is q id t in
      let none = count_none (has_id q) old.removals (λ r c u. not_there r c (sym (same_is q r.id u) ∙ is)) in
      let one = passed (has_id q (removal_of id target)) t in
      omega (arith, whole, none, one))
      (λ (f : has_id q (removal_of id target) ≡ false).
      let none = failed (has_id q (removal_of id target)) f in
      let one = ok.one q in
      omega (arith, whole, none, one))
      (cases_Bool (has_id q (removal_of id target)))

  still_known : (r : OpId) → Contains new.back r → (x : OpId) × Removes new r x
  still_known r c = let k = ok.known r (subst (λ b. Contains b r) back c) in (k.0, kept_member (removal_of r k.0) k.1)

  -- the first open removal of a character isn't counted
  pub added_first : (HasOpen old target → ⊥) → AreCounted new counts
  added_first none = record {
    one = one_more_id;
    known = still_known;
    counted =
        λ x.
        ⊎_elim
        (λ (is : x ≡ target).
        let nothing = none_open old target none in
        let entry : get id_cmp counts target ≡ None = no_count old target (get id_cmp counts target) nothing (ok.counted target) in
        let one = open_here in
        subst (λ z. IsCount new z (get id_cmp counts z)) (sym is) (subst (λ e. IsCount new target e) (sym entry) (omega (arith, nothing, one))))
        (λ (apart : x ≡ target → ⊥). moved_count old new x (get id_cmp counts x) (open_elsewhere x apart) (ok.counted x))
        (same_cases x target);
  }

  -- each further one is
  pub added_more : (later : BTreeMap OpId ℕ) → get id_cmp later target ≡ Some (open_count old target + 1) → ((x : OpId) → (target ≡ x → ⊥) → get id_cmp later x ≡ get id_cmp counts x) → AreCounted new later
  added_more later here others = record {
    one = one_more_id;
    known = still_known;
    counted =
        λ x.
        ⊎_elim
        (λ (is : x ≡ target).
        let one = open_here in
        let more : open_count old target + 1 ≡ open_count new target = omega (arith, one) in
        subst (λ z. IsCount new z (get id_cmp later z)) (sym is) (subst (λ e. IsCount new target e) (sym here) (omega arith, more)))
        (λ (apart : x ≡ target → ⊥).
        subst (λ e. IsCount new x e) (sym (others x (λ e. apart (sym e)))) (moved_count old new x (get id_cmp counts x) (open_elsewhere x apart) (ok.counted x)))
        (same_cases x target);
  }

-- a count that is kept although it need not be
pub counted_too : (removals : Removals) (counts later : BTreeMap OpId ℕ) (target : OpId) → AreCounted removals counts → HasOpen removals target → get id_cmp later target ≡ Some (open_count removals target) → ((x : OpId) → (target ≡ x → ⊥) → get id_cmp later x ≡ get id_cmp counts x) → AreCounted removals later
counted_too removals counts later target ok h here others = record {
  one = ok.one;
  known = ok.known;
  counted =
      λ x.
      ⊎_elim
      (λ (is : x ≡ target). subst (λ z. IsCount removals z (get id_cmp later z)) (sym is) (subst (λ e. IsCount removals target e) (sym here) (some_open removals target h, refl)))
      (λ (apart : x ≡ target → ⊥). subst (λ e. IsCount removals x e) (sym (others x (λ e. apart (sym e)))) (ok.counted x))
      (same_cases x target);
}

-- ---- a removal is taken back
split_open : (t l k h : Bool) → (k ≡ true → (l ≡ true) ⊎ (h ≡ true)) → (l ≡ true → k ≡ true) → (h ≡ true → k ≡ true) → (h ≡ true → l ≡ true → ⊥) → cond (t && not l) 1 0 ≡ cond (t && not k) 1 0 + cond (h && t) 1 0
split_open false l k true new old here apart = refl
split_open false l k false new old here apart = refl
split_open true true true true new old here apart = absurd (apart refl refl)
split_open true true true false new old here apart = refl
split_open true true false h new old here apart = absurd (false≢true (old refl))
split_open true false true true new old here apart = refl
split_open true false true false new old here apart = absurd (⊎_elim (λ (e : false ≡ true). false≢true e) (λ (e : false ≡ true). false≢true e) (new refl))
split_open true false false true new old here apart = absurd (false≢true (here refl))
split_open true false false false new old here apart = refl

module _ (old new : Removals) (counts later : BTreeMap OpId ℕ) (id target : OpId) (ok : AreCounted old counts) (kept : new.removals ≡ old.removals) (back : (r : OpId) → Contains new.back r ↔ (Contains old.back r ⊎ (r ≡ id))) (stands : Contains old.back id → ⊥) (removes : Removes old id target) where
  abbrev taken : OpId → Removal → Bool
  taken x r = same id r.id && same x r.target

  taken_apart : (x : OpId) (r : Removal) → cond (is_open old.back x r) 1 0 ≡ cond (is_open new.back x r) 1 0 + cond (taken x r) 1 0
  taken_apart x r =
      split_open (same x r.target) (list_any (same r.id) old.back) (list_any (same r.id) new.back) (same id r.id)
      (λ k.
      ⊎_elim
      (λ (was : Contains old.back r.id). inl (back_true old.back r.id was))
      (λ (now : r.id ≡ id). inr (same_true id r.id (sym now)))
      ((back r.id).0 (back_is new.back r.id k)))
      (λ l. back_true new.back r.id ((back r.id).1 (inl (back_is old.back r.id l))))
      (λ h. back_true new.back r.id ((back r.id).1 (inr (sym (same_is id r.id h)))))
      (λ h l. stands (subst (λ z. Contains old.back z) (sym (same_is id r.id h)) (back_is old.back r.id l)))

  open_apart : (x : OpId) → open_count old x ≡ open_count new x + count_by (taken x) old.removals
  open_apart x =
      count_apart (is_open old.back x) (is_open new.back x) (taken x) old.removals (λ r c. taken_apart x r)
      ∙ ap (λ rs. count_by (is_open new.back x) rs + count_by (taken x) old.removals) (sym kept)

  taken_once : count_by (taken target) old.removals ≡ 1
  taken_once =
      let most = count_le (taken target) (has_id id) old.removals (λ r c t. and_left (same id r.id) (same target r.target) t) in
      let one = ok.one id in
      let here : taken target (removal_of id target) ≡ true = ap (λ b. b && same target target) (same_true id id refl) ∙ same_true target target refl in
      let least = count_some (taken target) old.removals (removal_of id target) removes here in
      omega (arith, most, one, least)

  taken_elsewhere : (x : OpId) → (x ≡ target → ⊥) → count_by (taken x) old.removals ≡ 0
  taken_elsewhere x apart =
      count_none (taken x) old.removals
      (λ r c t.
      let first : id ≡ r.id = same_is id r.id (and_left (same id r.id) (same x r.target) t) in
      let second : x ≡ r.target = same_is x r.target (and_right (same id r.id) (same x r.target) t) in
      let there : Removes old id x = subst (λ z. Contains old.removals (removal_of z x)) (sym first) (subst (λ z. Contains old.removals z) (sym (same_removal r x second)) c) in
      apart (one_target old counts ok id x target there removes))

  fewer_here : (entry : Option ℕ) → IsCount old target entry → IsCount new target (fewer entry)
  fewer_here None few = let whole = open_apart target in let one = taken_once in omega (arith, few, whole, one)
  fewer_here (Some n) is =
      let whole = open_apart target in
      let one = taken_once in
      let same_count = is.1 in
      ⊎_elim
      (λ (t : nat_lt 2 n ≡ true).
      let more : 2 < n = ltb-true 2 n t in
      let entry : fewer (Some n) ≡ Some (n - 1) = rw t refl in
      subst (λ e. IsCount new target e) (sym entry) (omega (arith, more), omega (arith, whole, one, same_count, more)))
      (λ (f : nat_lt 2 n ≡ false).
      let low : n ≤ 2 =
      ⊎_elim
      (λ (more : 2 < n). absurd (false≢true (sym f ∙ lt-ltb 2 n more)))
      (λ (le : n ≤ 2). le)
      (cases_lt 2 n)
      in
      let entry : fewer (Some n) ≡ None = rw f refl in
      subst (λ e. IsCount new target e) (sym entry) (omega (arith, whole, one, same_count, low)))
      (cases_Bool (nat_lt 2 n))

  pub taken_back : get id_cmp later target ≡ fewer (get id_cmp counts target) → ((x : OpId) → (target ≡ x → ⊥) → get id_cmp later x ≡ get id_cmp counts x) → AreCounted new later
  taken_back here others = record {
    one = λ q. let one = ok.one q in let same_list = ap (count_by (has_id q)) kept in omega (arith, one, same_list);
    known =
        λ r c.
        ⊎_elim
        (λ (was : Contains old.back r). let k = ok.known r was in (k.0, subst (λ rs. Contains rs (removal_of r k.0)) (sym kept) k.1))
        (λ (now : r ≡ id). (target, subst (λ rs. Contains rs (removal_of r target)) (sym kept) (subst (λ z. Contains old.removals (removal_of z target)) (sym now) removes)))
        ((back r).0 c);
    counted =
        λ x.
        ⊎_elim
        (λ (is : x ≡ target).
        subst (λ z. IsCount new z (get id_cmp later z)) (sym is) (subst (λ e. IsCount new target e) (sym here) (fewer_here (get id_cmp counts target) (ok.counted target))))
        (λ (apart : x ≡ target → ⊥).
        let whole = open_apart x in
        let none = taken_elsewhere x apart in
        subst (λ e. IsCount new x e) (sym (others x (λ e. apart (sym e)))) (moved_count old new x (get id_cmp counts x) (omega (arith, whole, none)) (ok.counted x)))
        (same_cases x target);
  }

-- no removal, and no count
pub none_counted : (removals : Removals) (counts : BTreeMap OpId ℕ) → removals.removals ≡ [] → removals.back ≡ [] → ((x : OpId) → get id_cmp counts x ≡ None) → AreCounted removals counts
none_counted removals counts none no_back empty = record {
  one = λ q. let same_list = ap (count_by (has_id q)) none in omega (arith, same_list);
  known = λ r c. absurd (nothing_there r (subst (λ b. Contains b r) no_back c));
  counted =
      λ x.
      let same_list : open_count removals x ≡ 0 = ap (count_by (is_open removals.back x)) none in
      subst (λ e. IsCount removals x e) (sym (empty x)) (omega (arith, same_list));
}
