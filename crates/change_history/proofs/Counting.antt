-- What is counted of the operations before a peer's next one, one operation more at a time.
use Rattle.std.proofs.Common.{◌≡◌, ℕ, zero, suc, ◌+◌, ◌<◌, ◌≤◌, ◌↔◌, List, [], ◌∷◌, ◌++◌, Bool, not, true, false, cond, nat_eq, nat_le, ◌&&◌, Option, Some, None, MatchOption, IsTrue, refl, sym, ap, ◌∙◌, subst, inl, inr, ◌⊎◌, ⊎_elim, arith, length, get_or, append_assoc, add-zero, unwrap_or}
use Rattle.std.specs.List.{count_by, Contains, AllByRecursion}
use Rattle.std.specs.List.Sorted.{IsStrictlyIncreasing}
use Rattle.std.proofs.lemmas.Bool.{cases_lt, eqb-true, false≢true}
use Rattle.std.proofs.lemmas.Bool.Decides.{nat_tests}
use Rattle.std.proofs.lemmas.Grind.{common_steps}
use Rattle.std.proofs.lemmas.List.{length_push, get_or_push, append-nil}
use Rattle.std.proofs.lemmas.List.Elements.{Contains-append_left, Contains-append_right, Contains-append_cases, Contains-push, Contains-push_cases}
use Rattle.std.proofs.lemmas.Option.{slice_get-get_or}
use Rattle.change_ops.specs.Ids.{OpId}
use Rattle.change_ops.specs.Changes.{IsLine}
use Rattle.change_ops.specs.Lines.{ops_of, ops_of_lines, first_id}
use Rattle.change_ops.specs.Runs.{inserts_from, next_id}
use Rattle.change_ops.specs.IdRuns.{removals_from, revivals_from}
use Rattle.change_ops.specs.Operations.{id_of, is_insert, is_mark, Names, NamesRemoval}
use Rattle.change_ops.specs.declared.line.Form.{Form}
use Rattle.change_ops.specs.declared.line.Line.{Line}
use Rattle.change_ops.specs.declared.line.Line.TheVariants.{Operation, Run, Removals, Revivals}
use Rattle.change_ops.specs.declared.size.Size.{Size}
use Rattle.change_ops.specs.declared.operation.Op.{Op}
use Rattle.change_ops.specs.declared.operation.Op.TheVariants.{Insert, Remove, AddMark, RemoveMark, Revive}
use Rattle.change_ops.specs.Sizes.{most_characters}
use Rattle.char_sequence.specs.Acceptance.{Used, NamesId, IsStale, IsUnknown, IsFull, HasNoRoom}
use Rattle.char_sequence.specs.Newest.{IsLast}
use Rattle.char_sequence.specs.Tree.{Present, IsRemoval}
use Rattle.char_sequence.proofs.Holding.{count_push}
use Rattle.mark_anchors.proofs.Lists.{contains_from}
use Rattle.change_history.specs.Accepted.{MayFollow}
use Rattle.change_history.specs.Tally.{AreOf, IsTally, IsShort}
use Rattle.change_history.specs.declared.tally.Tally.{Tally}

-- ---- the characters of two lists of operations
pub present_left : (ops own : List Op) (x : OpId) → Present ops x → Present (ops ++ own) x
present_left ops own x p = (p.0, (p.1.0, Contains-append_left ops own (Insert x p.0 p.1.0) p.1.1))

pub present_right : (ops own : List Op) (x : OpId) → Present own x → Present (ops ++ own) x
present_right ops own x p = (p.0, (p.1.0, Contains-append_right ops own (Insert x p.0 p.1.0) p.1.1))

pub present_cases : (ops own : List Op) (x : OpId) → Present (ops ++ own) x → Present ops x ⊎ Present own x
present_cases ops own x p =
    ⊎_elim
    (λ (a : Contains ops (Insert x p.0 p.1.0)). inl (p.0, (p.1.0, a)))
    (λ (b : Contains own (Insert x p.0 p.1.0)). inr (p.0, (p.1.0, b)))
    (Contains-append_cases ops own (Insert x p.0 p.1.0) p.1.1)

pub present_either : (ops own : List Op) (x : OpId) (r : Bool) → (Present own x → ⊥) → IsTrue r ↔ Present ops x → IsTrue r ↔ Present (ops ++ own) x
present_either ops own x r not there = (
  λ t. present_left ops own x (there.0 t),
  λ p. ⊎_elim (λ (a : Present ops x). there.1 a) (λ (b : Present own x). absurd (not b)) (present_cases ops own x p),
)

-- ---- the removals of two lists of operations
pub removal_left : (ops own : List Op) (r : OpId) → IsRemoval ops r → IsRemoval (ops ++ own) r
removal_left ops own r p = (p.0, Contains-append_left ops own (Remove r p.0) p.1)

pub removal_right : (ops own : List Op) (r : OpId) → IsRemoval own r → IsRemoval (ops ++ own) r
removal_right ops own r p = (p.0, Contains-append_right ops own (Remove r p.0) p.1)

pub removal_cases : (ops own : List Op) (r : OpId) → IsRemoval (ops ++ own) r → IsRemoval ops r ⊎ IsRemoval own r
removal_cases ops own r p =
    ⊎_elim
    (λ (a : Contains ops (Remove r p.0)). inl (p.0, a))
    (λ (b : Contains own (Remove r p.0)). inr (p.0, b))
    (Contains-append_cases ops own (Remove r p.0) p.1)

pub removal_either : (ops own : List Op) (r : OpId) (b : Bool) → (IsRemoval own r → ⊥) → IsTrue b ↔ IsRemoval ops r → IsTrue b ↔ IsRemoval (ops ++ own) r
removal_either ops own r b not there = (
  λ t. removal_left ops own r (there.0 t),
  λ p. ⊎_elim (λ (a : IsRemoval ops r). there.1 a) (λ (c : IsRemoval own r). absurd (not c)) (removal_cases ops own r p),
)

abbrev pub removes : Op → Bool
removes (Insert id p c) = false
removes (Remove id target) = true
removes (AddMark id attribute start end) = false
removes (RemoveMark id key start end) = false
removes (Revive id removal) = false

-- an operation that is no removal leaves them
pub removed_same : (own : List Op) (op : Op) (old new : List OpId) → removes op ≡ false → new ≡ old → ((r : OpId) → IsRemoval own r ↔ Contains old r) → (r : OpId) → IsRemoval (own ++ op ∷ []) r ↔ Contains new r
removed_same own op old new other same was r = subst (λ (xs : List OpId). IsRemoval (own ++ op ∷ []) r ↔ Contains xs r) (sym same) (
  λ there.
      ⊎_elim
      (λ (before : Contains own (Remove r there.0)). (was r).0 (there.0, before))
      (λ (now : op ≡ Remove r there.0). absurd (false≢true (sym other ∙ ap removes now)))
      (Contains-push_cases own op (Remove r there.0) there.1),
  λ h. removal_left own (op ∷ []) r ((was r).1 h),
)

-- a removal more
pub removed_more : (own : List Op) (op : Op) (id target : OpId) (old new : List OpId) → op ≡ Remove id target → ((r : OpId) → Contains new r ↔ (Contains old r ⊎ (r ≡ id))) → ((r : OpId) → IsRemoval own r ↔ Contains old r) → (r : OpId) → IsRemoval (own ++ op ∷ []) r ↔ Contains new r
removed_more own op id target old new is more was r = (
  λ there.
      ⊎_elim
      (λ (before : Contains own (Remove r there.0)). (more r).1 (inl ((was r).0 (there.0, before))))
      (λ (now : op ≡ Remove r there.0). (more r).1 (inr (sym (ap id_of (sym is ∙ now)))))
      (Contains-push_cases own op (Remove r there.0) there.1),
  λ h.
      ⊎_elim
      (λ (before : Contains old r). removal_left own (op ∷ []) r ((was r).1 before))
      (λ (now : r ≡ id). (target, subst (λ (o : Op). Contains (own ++ op ∷ []) o) (is ∙ ap (λ i. Remove i target) (sym now)) (Contains-push own op)))
      ((more r).0 h),
)

-- ---- the peer's last counter
pub last_counter : (ops : List Op) (node : ℕ) (last : Option ℕ) → MatchOption last ((o : Op) → Contains ops o → (id_of o).node ≡ node → ⊥) (IsLast ops node) → (id : OpId) → 1 ≤ id.counter → id.node ≡ node → (id.counter ≤ unwrap_or last 0) ↔ Used (ops ++ []) id
last_counter ops node None none id some same = (
  λ le. absurd (omega arith),
  λ u. absurd (none u.0 (subst (λ (xs : List Op). Contains xs u.0) (append-nil ops) u.1) (u.2 ∙ same)),
)
last_counter ops node (Some last) is id some same = (
  λ le.
      let r = is.reached in
      let counter : (id_of r.0).counter ≡ last = r.3 in
      (r.0, subst (λ (xs : List Op). Contains xs r.0) (sym (append-nil ops)) r.1, r.2 ∙ sym same, omega arith),
  λ u.
      let upper : (id_of u.0).counter ≤ last = is.covered u.0 (subst (λ (xs : List Op). Contains xs u.0) (append-nil ops) u.1) (u.2 ∙ same) in
      let lower : id.counter ≤ (id_of u.0).counter = u.3 in
      omega arith,
)

used_next : (ops own : List Op) (op : Op) (node : ℕ) → (id_of op).node ≡ node → (Used (ops ++ own) (id_of op) → ⊥) → (id : OpId) → id.node ≡ node → (id.counter ≤ (id_of op).counter) ↔ Used (ops ++ (own ++ op ∷ [])) id
used_next ops own op node of fresh id same = (
  λ le. (op, Contains-append_right ops (own ++ op ∷ []) op (Contains-push own op), of ∙ sym same, le),
  λ u.
      let lower : id.counter ≤ (id_of u.0).counter = u.3 in
      ⊎_elim
      (λ (old : Contains (ops ++ own) u.0).
      ⊎_elim
      (λ (less : (id_of u.0).counter < (id_of op).counter). let le : id.counter ≤ (id_of op).counter = omega arith in le)
      (λ (ge : (id_of op).counter ≤ (id_of u.0).counter). absurd (fresh (u.0, old, u.2 ∙ same ∙ sym of, ge)))
      (cases_lt (id_of u.0).counter (id_of op).counter))
      (λ (new : op ≡ u.0). subst (λ (o : Op). id.counter ≤ (id_of o).counter) (sym new) lower)
      (Contains-push_cases (ops ++ own) op u.0 (subst (λ (xs : List Op). Contains xs u.0) (sym (append_assoc ops own (op ∷ []))) u.1)),
)

-- ---- the counters of the inserts
rising_push : (xs : List ℕ) (n : ℕ) → IsStrictlyIncreasing xs → ((x : ℕ) → Contains xs x → x < n) → IsStrictlyIncreasing (xs ++ n ∷ [])
rising_push xs n rising below = λ k within.
    let size : length (xs ++ n ∷ []) ≡ length xs + 1 = length_push xs n in
    let here : get_or (xs ++ n ∷ []) k 0 ≡ get_or xs k 0 = let inside : k < length xs = omega arith in grind (arith, common_steps) in
    ⊎_elim
    (λ (low : k + 1 < length xs).
    let next : get_or (xs ++ n ∷ []) (k + 1) 0 ≡ get_or xs (k + 1) 0 = grind (arith, common_steps) in
    let less : get_or xs k 0 < get_or xs (k + 1) 0 = rising k low in
    let goal : get_or (xs ++ n ∷ []) k 0 < get_or (xs ++ n ∷ []) (k + 1) 0 = omega arith in goal)
    (λ (high : length xs ≤ k + 1).
    let next : get_or (xs ++ n ∷ []) (k + 1) 0 ≡ n = get_or_push xs n 0 (k + 1) (omega arith) in
    let less : get_or xs k 0 < n = below (get_or xs k 0) (contains_from xs k (get_or xs k 0) (slice_get-get_or xs k 0 (omega arith))) in
    let goal : get_or (xs ++ n ∷ []) k 0 < get_or (xs ++ n ∷ []) (k + 1) 0 = omega arith in goal)
    (cases_lt (k + 1) (length xs))

-- what a list of one element has
pub one_held : {X : Type 0} (y x : X) → Contains (y ∷ []) x → y ≡ x
one_held y x h =
    ⊎_elim (λ (none : Contains [] x). absurd (let less : none.0 < 0 = none.1 in omega arith)) (λ (e : y ≡ x). e) (Contains-push_cases [] y x h)

same_id : (a b : OpId) → a.counter ≡ b.counter → a.node ≡ b.node → a ≡ b
same_id a b counter node = λ i. record { counter = counter i; node = node i }

-- one operation more
module _ {size : Size} (ops own : List Op) (op : Op) (node : ℕ) (old new : Tally) (t : IsTally ops own node old) (of : (id_of op).node ≡ node) (m : MayFollow size (ops ++ own) op) (named : new.node ≡ old.node) (last : new.last ≡ (id_of op).counter) where
  alone : AreOf node (own ++ op ∷ [])
  alone o h = ⊎_elim (λ (was : Contains own o). t.alone o was) (λ (is : op ≡ o). ap (λ (p : Op). (id_of p).node) (sym is) ∙ of) (Contains-push_cases own op o h)

  used : (id : OpId) → 1 ≤ id.counter → id.node ≡ node → (id.counter ≤ new.last) ↔ Used (ops ++ (own ++ op ∷ [])) id
  used id some same = subst (λ (n : ℕ). (id.counter ≤ n) ↔ Used (ops ++ (own ++ op ∷ [])) id) (sym last) (used_next ops own op node of (λ u. m.accepted.fresh (inl u)) id same)

  counted : (p : Op → Bool) → count_by p (ops ++ (own ++ op ∷ [])) ≡ count_by p (ops ++ own) + cond (p op) 1 0
  counted p = ap (count_by p) (sym (append_assoc ops own (op ∷ []))) ∙ count_push p (ops ++ own) op

  counted_yes : (p : Op → Bool) (n : ℕ) → p op ≡ true → n ≡ count_by p (ops ++ own) → n + 1 ≡ count_by p (ops ++ (own ++ op ∷ []))
  counted_yes p n passes is = sym (counted p ∙ ap (λ b. count_by p (ops ++ own) + cond b 1 0) passes ∙ ap (λ k. k + 1) (sym is))

  counted_no : (p : Op → Bool) (n : ℕ) → p op ≡ false → n ≡ count_by p (ops ++ own) → n ≡ count_by p (ops ++ (own ++ op ∷ []))
  counted_no p n fails is = sym (counted p ∙ ap (λ b. count_by p (ops ++ own) + cond b 1 0) fails ∙ add-zero (count_by p (ops ++ own)) ∙ sym is)

  -- each insert that is counted has a lesser counter
  below : (x : ℕ) → Contains old.inserted.items x → x < (id_of op).counter
  below x h =
      let id : OpId = record { counter = x; node = node } in
      let there : Present own id = (t.inserted id).1 (refl, h) in
      ⊎_elim
      (λ (less : x < (id_of op).counter). less)
      (λ (ge : (id_of op).counter ≤ x). absurd (m.accepted.fresh (inl (Insert id there.0 there.1.0, Contains-append_right ops own (Insert id there.0 there.1.0) there.1.1, sym of, ge))))
      (cases_lt x (id_of op).counter)

  pub noted_insert : (p : Option OpId) (c : ℕ) → op ≡ Insert (id_of op) p c → is_insert op ≡ true → is_mark op ≡ false → new.inserted.items ≡ old.inserted.items ++ (id_of op).counter ∷ [] → new.characters ≡ old.characters + 1 → new.marks ≡ old.marks → ((r : OpId) → IsRemoval (own ++ op ∷ []) r ↔ Contains new.removed r) → IsTally ops (own ++ op ∷ []) node new
  noted_insert p c is insert mark grown characters marks removed = record {
    removed = removed;
    of = named ∙ t.of;
    alone = alone;
    used = used;
    characters = characters ∙ counted_yes is_insert old.characters insert t.characters;
    marks = marks ∙ counted_no is_mark old.marks mark t.marks;
    rising = subst (λ (xs : List ℕ). IsStrictlyIncreasing xs) (sym grown) (rising_push old.inserted.items (id_of op).counter t.rising below);
    inserted = λ x. (
      λ there.
          ⊎_elim
          (λ (was : Present own x).
          let r = (t.inserted x).0 was in
          (r.0, subst (λ (xs : List ℕ). Contains xs x.counter) (sym grown) (Contains-append_left old.inserted.items ((id_of op).counter ∷ []) x.counter r.1)))
          (λ (now : Present (op ∷ []) x).
          let same : op ≡ Insert x now.0 now.1.0 = one_held op (Insert x now.0 now.1.0) now.1.1 in
          let id : id_of op ≡ x = ap id_of same in
          (ap (λ (i : OpId). i.node) (sym id) ∙ of, subst (λ (xs : List ℕ). Contains xs x.counter) (sym grown) (subst (λ (i : OpId). Contains (old.inserted.items ++ (id_of op).counter ∷ []) i.counter) id (Contains-push old.inserted.items (id_of op).counter))))
          (present_cases own (op ∷ []) x there),
      λ h.
          ⊎_elim
          (λ (was : Contains old.inserted.items x.counter). present_left own (op ∷ []) x ((t.inserted x).1 (h.0, was)))
          (λ (now : (id_of op).counter ≡ x.counter).
          let id : id_of op ≡ x = same_id (id_of op) x now (of ∙ sym h.0) in
          subst (λ (i : OpId). Present (own ++ op ∷ []) i) id (p, (c, subst (λ (o : Op). Contains (own ++ op ∷ []) o) is (Contains-push own op))))
          (Contains-push_cases old.inserted.items (id_of op).counter x.counter (subst (λ (xs : List ℕ). Contains xs x.counter) grown h.1)),
    );
  }

  noted_other : is_insert op ≡ false → new.inserted.items ≡ old.inserted.items → new.characters ≡ old.characters → new.marks ≡ count_by is_mark (ops ++ (own ++ op ∷ [])) → ((r : OpId) → IsRemoval (own ++ op ∷ []) r ↔ Contains new.removed r) → IsTally ops (own ++ op ∷ []) node new
  noted_other other same characters marks removed = record {
    removed = removed;
    of = named ∙ t.of;
    alone = alone;
    used = used;
    characters = characters ∙ counted_no is_insert old.characters other t.characters;
    marks = marks;
    rising = subst (λ (xs : List ℕ). IsStrictlyIncreasing xs) (sym same) t.rising;
    inserted = λ x. subst (λ (xs : List ℕ). Present (own ++ op ∷ []) x ↔ (x.node ≡ node) × Contains xs x.counter) (sym same) (
      λ there.
          ⊎_elim
          (λ (was : Present own x). (t.inserted x).0 was)
          (λ (now : Present (op ∷ []) x). absurd (false≢true (sym other ∙ ap is_insert (one_held op (Insert x now.0 now.1.0) now.1.1))))
          (present_cases own (op ∷ []) x there),
      λ h. present_left own (op ∷ []) x ((t.inserted x).1 h),
    );
  }

  pub noted_mark : is_insert op ≡ false → is_mark op ≡ true → new.inserted.items ≡ old.inserted.items → new.characters ≡ old.characters → new.marks ≡ old.marks + 1 → ((r : OpId) → IsRemoval (own ++ op ∷ []) r ↔ Contains new.removed r) → IsTally ops (own ++ op ∷ []) node new
  noted_mark other mark same characters marks removed = noted_other other same characters (marks ∙ counted_yes is_mark old.marks mark t.marks) removed

  pub noted_edit : is_insert op ≡ false → is_mark op ≡ false → new.inserted.items ≡ old.inserted.items → new.characters ≡ old.characters → new.marks ≡ old.marks → ((r : OpId) → IsRemoval (own ++ op ∷ []) r ↔ Contains new.removed r) → IsTally ops (own ++ op ∷ []) node new
  noted_edit other mark same characters marks removed = noted_other other same characters (marks ∙ counted_no is_mark old.marks mark t.marks) removed

-- ---- what a check tells
pub not_false : (b : Bool) → not b ≡ false → b ≡ true
not_false true e = refl
not_false false e = sym e

pub stale_used : (ops own : List Op) (op : Op) (node : ℕ) (tally : Tally) (id : OpId) (n : ℕ) → IsTally ops own node tally → (id_of op).node ≡ node → id ≡ id_of op → n ≡ id.counter → 1 ≤ id.counter → n ≤ tally.last → IsStale (ops ++ own) op
stale_used ops own op node tally id n t of is counter some le =
    let same = ap (λ (i : OpId). i.counter) is in
    inl ((t.used (id_of op) (omega arith) of).0 (omega arith))

pub not_stale : (ops own : List Op) (op : Op) (node : ℕ) (tally : Tally) (id : OpId) (n : ℕ) → IsTally ops own node tally → (id_of op).node ≡ node → id ≡ id_of op → n ≡ id.counter → 1 ≤ id.counter → tally.last < n → ((x : OpId) → NamesId op x → x.counter < (id_of op).counter) → IsStale (ops ++ own) op → ⊥
not_stale ops own op node tally id n t of is counter some later above stale =
    let same = ap (λ (i : OpId). i.counter) is in
    ⊎_elim
    (λ (used : Used (ops ++ own) (id_of op)).
    let le : (id_of op).counter ≤ tally.last = (t.used (id_of op) (omega (arith, some, same)) of).1 used in
    absurd (omega (arith, le, same, counter, later)))
    (λ (named : (x : OpId) × NamesId op x × ((id_of op).counter ≤ x.counter)).
    let less = above named.0 named.1 in
    let le = named.2 in
    absurd (omega (arith, less, le)))
    stale

pub at_limit : (p : Op → Bool) (ops : List Op) (op : Op) (n limit : ℕ) → n ≡ count_by p ops → (p op && nat_le limit n) ≡ true → (p op ≡ true) × (limit ≤ count_by p ops)
at_limit p ops op n limit is h =
    let both : (p op ≡ true) × (limit ≤ n) = grind (arith, nat_tests) in
    (both.0, subst (λ (k : ℕ). limit ≤ k) is both.1)

pub below_limit : (p : Op → Bool) (ops : List Op) (op : Op) (n limit : ℕ) → n ≡ count_by p ops → (p op && nat_le limit n) ≡ false → (p op ≡ true) × (limit ≤ count_by p ops) → ⊥
below_limit p ops op n limit is h full =
    let passes : p op ≡ true = full.0 in
    let many : limit ≤ n = subst (λ (k : ℕ). limit ≤ k) (sym is) full.1 in
    grind (arith, nat_tests)

-- an operation that inserts no character too many, and that the text has room for
pub not_full : (size : Size) (ops : List Op) (op : Op) (n : ℕ) → n ≡ count_by is_insert ops → (is_insert op && nat_le (most_characters size) n) ≡ false → IsShort size ops op → IsFull size ops op → ⊥
not_full size ops op n is h short full =
    let many : (is_insert op ≡ true) × (most_characters size ≤ count_by is_insert ops) → ⊥ = below_limit is_insert ops op n (most_characters size) is h in
    ⊎_elim many
    (λ (none : HasNoRoom ops op).
    short
    (λ insert.
    ⊎_elim
    (λ (low : count_by is_insert ops < most_characters size). low)
    (λ (high : most_characters size ≤ count_by is_insert ops). absurd (many (insert, high)))
    (cases_lt (count_by is_insert ops) (most_characters size)))
    none)
    full

-- an operation that names neither an unknown character nor an unknown removal
pub not_unknown : (ops : List Op) (op : Op) → ((x : OpId) → Names op x → Present ops x) → ((r : OpId) → NamesRemoval op r → IsRemoval ops r) → IsUnknown ops op → ⊥
not_unknown ops op characters removal unknown =
    ⊎_elim
    (λ (u : (x : OpId) × Names op x × (Present ops x → ⊥)). u.2 (characters u.0 u.1))
    (λ (u : (r : OpId) × NamesRemoval op r × (IsRemoval ops r → ⊥)). u.2 (removal u.0 u.1))
    unknown

-- ---- what a tally tells
pub tally_begun : (ops : List Op) (node : ℕ) (last : Option ℕ) (tally : Tally) → MatchOption last ((o : Op) → Contains ops o → (id_of o).node ≡ node → ⊥) (IsLast ops node) → tally.node ≡ node → tally.last ≡ unwrap_or last 0 → tally.characters ≡ count_by is_insert ops → tally.marks ≡ count_by is_mark ops → tally.inserted.items ≡ [] → tally.removed ≡ [] → IsTally ops [] node tally
tally_begun ops node last tally told of is characters marks none no_removal = record {
  of = of;
  alone = λ o h. absurd (let less : h.0 < 0 = h.1 in omega arith);
  used = λ id some same. subst (λ (n : ℕ). (id.counter ≤ n) ↔ Used (ops ++ []) id) (sym is) (last_counter ops node last told id some same);
  characters = characters ∙ ap (count_by is_insert) (sym (append-nil ops));
  marks = marks ∙ ap (count_by is_mark) (sym (append-nil ops));
  rising = subst (λ (xs : List ℕ). IsStrictlyIncreasing xs) (sym none) (λ k within. absurd (omega arith));
  inserted = λ x. subst (λ (xs : List ℕ). Present [] x ↔ (x.node ≡ node) × Contains xs x.counter) (sym none) (
    λ there. absurd (let less : there.1.1.0 < 0 = there.1.1.1 in omega arith),
    λ h. absurd (let less : h.1.0 < 0 = h.1.1 in omega arith),
  );
  removed = λ r. subst (λ (xs : List OpId). IsRemoval [] r ↔ Contains xs r) (sym no_removal) (
    λ there. absurd (let less : there.1.0 < 0 = there.1.1 in omega arith),
    λ h. absurd (let less : h.0 < 0 = h.1 in omega arith),
  );
}

pub has_own : (ops own : List Op) (node : ℕ) (tally : Tally) (id : OpId) (xs : List ℕ) (n m : ℕ) (r : Bool) → IsTally ops own node tally → xs ≡ tally.inserted.items → n ≡ id.counter → m ≡ id.node → m ≡ tally.node → (IsStrictlyIncreasing xs → IsTrue r ↔ Contains xs n) → IsTrue r ↔ Present own id
has_own ops own node tally id xs n m r t are counter named of told =
    let among : IsTrue r ↔ Contains tally.inserted.items id.counter =
    subst (λ (p : List ℕ × ℕ). IsTrue r ↔ Contains p.0 p.1) (λ i. (are i, counter i)) (told (subst (λ (ys : List ℕ). IsStrictlyIncreasing ys) (sym are) t.rising)) in (
      λ yes'. (t.inserted id).1 (sym named ∙ of ∙ t.of, among.0 yes'),
      λ there. among.1 ((t.inserted id).0 there).1,
    )

pub has_none : (ops own : List Op) (node : ℕ) (tally : Tally) (id : OpId) (m : ℕ) → IsTally ops own node tally → m ≡ id.node → (m ≡ tally.node → ⊥) → IsTrue (nat_eq m tally.node) ↔ Present own id
has_none ops own node tally id m t named other = (
  λ yes'. absurd (other (eqb-true m tally.node yes')),
  λ there. absurd (other (named ∙ ((t.inserted id).0 there).0 ∙ sym t.of)),
)

-- ---- the operations of a change are its peer's
own_run : (characters : List ℕ) (id : OpId) (parent : Option OpId) (o : Op) → Contains (inserts_from id parent characters) o → (id_of o).node ≡ id.node
unfolding inserts_from
own_run [] id parent o h = absurd (let less : h.0 < 0 = h.1 in omega arith)
own_run (c ∷ cs) id parent o h =
    ⊎_elim
    (λ (first : Contains (Insert id parent c ∷ []) o). ap (λ (p : Op). (id_of p).node) (sym (one_held (Insert id parent c) o first)))
    (λ (rest : Contains (inserts_from (next_id id) (Some id) cs) o). own_run cs (next_id id) (Some id) o rest)
    (Contains-append_cases (Insert id parent c ∷ []) (inserts_from (next_id id) (Some id) cs) o h)

own_removals : (count : ℕ) (id target : OpId) (o : Op) → Contains (removals_from id target count) o → (id_of o).node ≡ id.node
unfolding removals_from
own_removals zero id target o h = absurd (let less : h.0 < 0 = h.1 in omega arith)
own_removals (suc count) id target o h =
    ⊎_elim
    (λ (first : Contains (Remove id target ∷ []) o). ap (λ (p : Op). (id_of p).node) (sym (one_held (Remove id target) o first)))
    (λ (rest : Contains (removals_from (next_id id) (next_id target) count) o). own_removals count (next_id id) (next_id target) o rest)
    (Contains-append_cases (Remove id target ∷ []) (removals_from (next_id id) (next_id target) count) o h)

own_revivals : (count : ℕ) (id removal : OpId) (o : Op) → Contains (revivals_from id removal count) o → (id_of o).node ≡ id.node
unfolding revivals_from
own_revivals zero id removal o h = absurd (let less : h.0 < 0 = h.1 in omega arith)
own_revivals (suc count) id removal o h =
    ⊎_elim
    (λ (first : Contains (Revive id removal ∷ []) o). ap (λ (p : Op). (id_of p).node) (sym (one_held (Revive id removal) o first)))
    (λ (rest : Contains (revivals_from (next_id id) (next_id removal) count) o). own_revivals count (next_id id) (next_id removal) o rest)
    (Contains-append_cases (Revive id removal ∷ []) (revivals_from (next_id id) (next_id removal) count) o h)

own_line : (line : Line) (o : Op) → Contains (ops_of line) o → (id_of o).node ≡ (first_id line).node
own_line (Operation op) o h = ap (λ (p : Op). (id_of p).node) (sym (one_held op o h))
own_line (Run run) o h = own_run run.characters run.id run.parent o h
own_line (Removals run) o h = own_removals run.count run.id run.first o h
own_line (Revivals run) o h = own_revivals run.count run.id run.first o h

pub own_lines : (form : Form) (node : ℕ) (lines : List Line) → AllByRecursion (IsLine form node) lines → AreOf node (ops_of_lines lines)
unfolding ops_of_lines
own_lines form node [] all o h = absurd (let less : h.0 < 0 = h.1 in omega arith)
own_lines form node (line ∷ lines) all o h =
    ⊎_elim
    (λ (here : Contains (ops_of line) o). own_line line o here ∙ all.0.own)
    (λ (rest : Contains (ops_of_lines lines) o). own_lines form node lines all.1 o rest)
    (Contains-append_cases (ops_of line) (ops_of_lines lines) o h)
