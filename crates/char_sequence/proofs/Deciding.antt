-- Whether a removal is taken back, and whether another one hides its character too.
use Rattle.std.proofs.Common.{◌≡◌, ℕ, zero, suc, ◌<◌, List, [], ◌∷◌, Option, inl, inr, ◌⊎◌, sym, refl, ◌∙◌, subst, arith, ⊎_elim}
use Rattle.std.specs.List.{Contains}
use Rattle.change_ops.specs.declared.id.OpId.{OpId}
use Rattle.change_ops.specs.declared.attribute.Attribute.{Attribute}
use Rattle.change_ops.specs.declared.attribute.Key.{Key}
use Rattle.change_ops.specs.declared.operation.Anchor.{Anchor}
use Rattle.change_ops.specs.declared.operation.Op.{Op}
use Rattle.change_ops.specs.declared.operation.Op.TheVariants.{Insert, Remove, AddMark, RemoveMark, Revive}
use Rattle.char_sequence.specs.Tree.{IsTakenBack, HidesAlone}
use Rattle.char_sequence.proofs.Holding.{HidesToo, same_or_not}

-- ---- members of a list with one more at the front
pub nothing_there : (x : Op) → Contains [] x → ⊥
nothing_there x h = let less : h.0 < 0 = h.1 in omega arith

pub cons_cases : (y : Op) (ys : List Op) (x : Op) → Contains (y ∷ ys) x → (y ≡ x) ⊎ Contains ys x
cons_cases y ys x (zero, less, is) = inl is
cons_cases y ys x (suc i, less, is) = inr (i, omega arith, is)

pub at_front : (y : Op) (ys : List Op) → Contains (y ∷ ys) y
at_front y ys = (zero, omega arith, refl)

pub behind_front : (y : Op) (ys : List Op) (x : Op) → Contains ys x → Contains (y ∷ ys) x
behind_front y ys x (i, less, is) = (suc i, omega arith, is)

-- ---- whether a removal is taken back
insert_revive : (x : OpId) (p : Option OpId) (c : ℕ) (v r : OpId) → Insert x p c ≡ Revive v r → ⊥
insert_revive x p c v r e = cc

remove_revive : (s x v r : OpId) → Remove s x ≡ Revive v r → ⊥
remove_revive s x v r e = cc

add_revive : (id : OpId) (attribute : Attribute) (start end : Anchor) (v r : OpId) → AddMark id attribute start end ≡ Revive v r → ⊥
add_revive id attribute start end v r e = cc

unmark_revive : (id : OpId) (key : Key) (start end : Anchor) (v r : OpId) → RemoveMark id key start end ≡ Revive v r → ⊥
unmark_revive id key start end v r e = cc

pub revive_same : (v s w r : OpId) → Revive v s ≡ Revive w r → s ≡ r
revive_same v s w r e = cc

not_first : (op : Op) (ops : List Op) (r : OpId) → ((v : OpId) → op ≡ Revive v r → ⊥) → (IsTakenBack ops r → ⊥) → IsTakenBack (op ∷ ops) r → ⊥
not_first op ops r never none b =
    ⊎_elim
    (λ (now : op ≡ Revive b.0 r). never b.0 now)
    (λ (old : Contains ops (Revive b.0 r)). none (b.0, old))
    (cons_cases op ops (Revive b.0 r) b.1)

first_back : (op : Op) (ops : List Op) (r : OpId) → (IsTakenBack ops r → ⊥) → IsTakenBack (op ∷ ops) r ⊎ (IsTakenBack (op ∷ ops) r → ⊥)
first_back (Insert x p c) ops r none = inr (not_first (Insert x p c) ops r (λ v. insert_revive x p c v r) none)
first_back (Remove s x) ops r none = inr (not_first (Remove s x) ops r (λ v. remove_revive s x v r) none)
first_back (AddMark id attribute start end) ops r none = inr (not_first (AddMark id attribute start end) ops r (λ v. add_revive id attribute start end v r) none)
first_back (RemoveMark id key start end) ops r none = inr (not_first (RemoveMark id key start end) ops r (λ v. unmark_revive id key start end v r) none)
first_back (Revive v s) ops r none =
    ⊎_elim
    (λ (same : s ≡ r). inl (v, subst (λ z. Contains (Revive v s ∷ ops) (Revive v z)) same (at_front (Revive v s) ops)))
    (λ (other : s ≡ r → ⊥). inr (not_first (Revive v s) ops r (λ w e. other (revive_same v s w r e)) none))
    (same_or_not s r)

pub back_or_not : (ops : List Op) (r : OpId) → IsTakenBack ops r ⊎ (IsTakenBack ops r → ⊥)
back_or_not [] r = inr (λ b. nothing_there (Revive b.0 r) b.1)
back_or_not (op ∷ ops) r =
    ⊎_elim
    (λ (b : IsTakenBack ops r). inl (b.0, behind_front op ops (Revive b.0 r) b.1))
    (λ (none : IsTakenBack ops r → ⊥). first_back op ops r none)
    (back_or_not ops r)

-- ---- whether another removal hides the character too
insert_remove : (x : OpId) (p : Option OpId) (c : ℕ) (s y : OpId) → Insert x p c ≡ Remove s y → ⊥
insert_remove x p c s y e = cc

revive_remove : (v r s y : OpId) → Revive v r ≡ Remove s y → ⊥
revive_remove v r s y e = cc

add_remove : (id : OpId) (attribute : Attribute) (start end : Anchor) (s y : OpId) → AddMark id attribute start end ≡ Remove s y → ⊥
add_remove id attribute start end s y e = cc

unmark_remove : (id : OpId) (key : Key) (start end : Anchor) (s y : OpId) → RemoveMark id key start end ≡ Remove s y → ⊥
unmark_remove id key start end s y e = cc

remove_same : (s y t x : OpId) → Remove s y ≡ Remove t x → (t ≡ s) × (y ≡ x)
remove_same s y t x e =
    let first : t ≡ s = cc in
    let second : y ≡ x = cc in
    (first, second)

abbrev HidesNoOther : List Op → List Op → OpId → OpId → Type 0
HidesNoOther all ops removal x = (s : OpId) → Contains ops (Remove s x) → (IsTakenBack all s → ⊥) → s ≡ removal

no_other_first : (all : List Op) (op : Op) (ops : List Op) (removal x : OpId) → ((s : OpId) → op ≡ Remove s x → (IsTakenBack all s → ⊥) → s ≡ removal) → HidesNoOther all ops removal x → HidesNoOther all (op ∷ ops) removal x
no_other_first all op ops removal x first none s c stands =
    ⊎_elim
    (λ (now : op ≡ Remove s x). first s now stands)
    (λ (old : Contains ops (Remove s x)). none s old stands)
    (cons_cases op ops (Remove s x) c)

first_other : (all : List Op) (op : Op) (ops : List Op) (removal x : OpId) → Contains all op → HidesNoOther all ops removal x → HidesToo all removal x ⊎ HidesNoOther all (op ∷ ops) removal x
first_other all (Insert y p c) ops removal x there none = inr (no_other_first all (Insert y p c) ops removal x (λ s e stands. absurd (insert_remove y p c s x e)) none)
first_other all (AddMark id attribute start end) ops removal x there none = inr (no_other_first all (AddMark id attribute start end) ops removal x (λ s e stands. absurd (add_remove id attribute start end s x e)) none)
first_other all (RemoveMark id key start end) ops removal x there none = inr (no_other_first all (RemoveMark id key start end) ops removal x (λ s e stands. absurd (unmark_remove id key start end s x e)) none)
first_other all (Revive v r) ops removal x there none = inr (no_other_first all (Revive v r) ops removal x (λ s e stands. absurd (revive_remove v r s x e)) none)
first_other all (Remove t y) ops removal x there none =
    ⊎_elim
    (λ (same : y ≡ x).
    ⊎_elim
    (λ (is : t ≡ removal). inr (no_other_first all (Remove t y) ops removal x (λ s e stands. (remove_same t y s x e).0 ∙ is) none))
    (λ (other : t ≡ removal → ⊥).
    ⊎_elim
    (λ (b : IsTakenBack all t). inr (no_other_first all (Remove t y) ops removal x (λ s e stands. absurd (stands (subst (λ z. IsTakenBack all z) (sym (remove_same t y s x e).0) b))) none))
    (λ (stands : IsTakenBack all t → ⊥). inl (t, subst (λ z. Contains all (Remove t z)) same there, stands, other))
    (back_or_not all t))
    (same_or_not t removal))
    (λ (apart : y ≡ x → ⊥). inr (no_other_first all (Remove t y) ops removal x (λ s e stands. absurd (apart (remove_same t y s x e).1)) none))
    (same_or_not y x)

other_or_none : (all ops : List Op) (removal x : OpId) → ((o : Op) → Contains ops o → Contains all o) → HidesToo all removal x ⊎ HidesNoOther all ops removal x
other_or_none all [] removal x within = inr (λ s c stands. absurd (nothing_there (Remove s x) c))
other_or_none all (op ∷ ops) removal x within =
    ⊎_elim
    (λ (found : HidesToo all removal x). inl found)
    (λ (none : HidesNoOther all ops removal x). first_other all op ops removal x (within op (at_front op ops)) none)
    (other_or_none all ops removal x (λ o c. within o (behind_front op ops o c)))

-- a removal that hides its character, but not alone
pub hides_too : (ops : List Op) (removal x : OpId) → (HidesAlone ops removal x → ⊥) → Contains ops (Remove removal x) → (IsTakenBack ops removal → ⊥) → HidesToo ops removal x
hides_too ops removal x not removes stands =
    ⊎_elim
    (λ (found : HidesToo ops removal x). found)
    (λ (none : HidesNoOther ops ops removal x). absurd (not (record { removes = removes; stands = stands; only = none })))
    (other_or_none ops ops removal x (λ o c. c))
