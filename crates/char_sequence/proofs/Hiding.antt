-- Hidden characters, and what operations show, by the removals and revivals among operations.
use Rattle.std.proofs.Common.{◌≡◌, ℕ, List, [], ◌∷◌, ◌++◌, Option, inl, inr, ◌⊎◌, sym, refl, ◌∙◌, subst, ⊎_elim}
use Rattle.std.specs.Prelude.{◌↔◌}
use Rattle.std.specs.List.{Contains}
use Rattle.std.proofs.lemmas.List.Elements.{Contains-append_left, Contains-push, Contains-push_cases}
use Rattle.change_ops.specs.Operations.{id_of}
use Rattle.change_ops.specs.declared.id.OpId.{OpId}
use Rattle.change_ops.specs.declared.operation.Op.{Op}
use Rattle.change_ops.specs.declared.operation.Op.TheVariants.{Insert, Remove, AddMark, RemoveMark, Revive}
use Rattle.removal_runs.specs.Open.{Removals, Removes, HasOpen, IsOnlyOpen}
use Rattle.char_sequence.specs.declared.sequence.Element.{Element}
use Rattle.char_sequence.specs.Tree.{IsTakenBack, IsHidden, HidesAlone}
use Rattle.char_sequence.specs.Order.{IsText, SameSet}
use Rattle.char_sequence.specs.Acceptance.{ShowsCharacter}
use Rattle.char_sequence.specs.Held.{HoldsRemovals, HasInserts}
use Rattle.char_sequence.proofs.Holding.{back_push, back_cases}

-- ---- operations with the same removals and revivals
pub record SameRemovals (ops others : List Op) : Type 0 where
  pub removes : (r x : OpId) → Contains ops (Remove r x) ↔ Contains others (Remove r x)
  pub back : (r : OpId) → IsTakenBack ops r ↔ IsTakenBack others r

pub same_removals_sym : (ops others : List Op) → SameRemovals ops others → SameRemovals others ops
same_removals_sym ops others s = record {
  removes = λ r x. ((s.removes r x).1, (s.removes r x).0);
  back = λ r. ((s.back r).1, (s.back r).0);
}

pub same_removals_of_set : (ops others : List Op) → SameSet ops others → SameRemovals ops others
same_removals_of_set ops others s = record {
  removes = λ r x. (s.forth (Remove r x), s.back (Remove r x));
  back = λ r. (λ b. (b.0, s.forth (Revive b.0 r) b.1), λ b. (b.0, s.back (Revive b.0 r) b.1));
}

pub same_removals_of_part : (all part : List Op) → HasInserts all part → SameRemovals all part
same_removals_of_part all part h = record {
  removes = λ r x. (h.removes r x, h.within (Remove r x));
  back = λ r. (λ b. (b.0, h.revives b.0 r b.1), λ b. (b.0, h.within (Revive b.0 r) b.1));
}

pub same_removals_held : (removals : Removals) (ops others : List Op) → HoldsRemovals removals ops → HoldsRemovals removals others → SameRemovals ops others
same_removals_held removals ops others h k = record {
  removes = λ r x. (λ c. (k.removes r x).1 ((h.removes r x).0 c), λ c. (h.removes r x).1 ((k.removes r x).0 c));
  back = λ r. (λ b. (k.back r).1 ((h.back r).0 b), λ b. (h.back r).1 ((k.back r).0 b));
}

pub hidden_same : (ops others : List Op) → SameRemovals ops others → (x : OpId) → IsHidden ops x → IsHidden others x
hidden_same ops others s x h = (h.0, (s.removes h.0 x).0 h.1, λ b. h.2 ((s.back h.0).1 b))

pub alone_same : (ops others : List Op) → SameRemovals ops others → (r x : OpId) → HidesAlone ops r x → HidesAlone others r x
alone_same ops others s r x a = record {
  removes = (s.removes r x).0 a.removes;
  stands = λ b. a.stands ((s.back r).1 b);
  only = λ q c stands. a.only q ((s.removes q x).1 c) (λ b. stands ((s.back q).0 b));
}

-- ---- what an operation shows
pub shows_same : (ops others : List Op) → SameRemovals ops others → ((x : OpId) (p : Option OpId) (c : ℕ) → Contains ops (Insert x p c) → (q : Option OpId) × Contains others (Insert x q c)) → (op : Op) (c : ℕ) → ShowsCharacter ops op c → ShowsCharacter others op c
shows_same ops others s inserts (Insert id p d) c is = is
shows_same ops others s inserts (Remove id target) c never = never
shows_same ops others s inserts (AddMark id attribute start end) c never = never
shows_same ops others s inserts (RemoveMark id key start end) c never = never
shows_same ops others s inserts (Revive id removal) c (x, p, i, alone) =
    let q = inserts x p c i in
    (x, q.0, q.1, alone_same ops others s removal x alone)

-- the inserts of one text's operations are those of another's, whatever their parents
pub inserts_by_text : (ops others : List Op) (es : List Element) → IsText ops es → IsText others es → (x : OpId) (p : Option OpId) (c : ℕ) → Contains ops (Insert x p c) → (q : Option OpId) × Contains others (Insert x q c)
inserts_by_text ops others es t u x p c i =
    let r = t.listed x p c i in
    let q = u.inserted r.0 r.1.0 r.1.1 in
    (q.0, subst (λ z. Contains others (Insert z q.0 c)) r.1.2 (subst (λ z. Contains others (Insert r.1.0.id q.0 z)) r.1.3 q.1))

same_insert : (x y : OpId) (p q : Option OpId) (c d : ℕ) → Insert x p c ≡ Insert y q d → c ≡ d
same_insert x y p q c d e = cc

same_target : (r s x y : OpId) → Remove r x ≡ Remove s y → x ≡ y
same_target r s x y e = cc

-- an operation shows one character at most
pub one_shown : (ops : List Op) → ((o p : Op) → Contains ops o → Contains ops p → id_of o ≡ id_of p → o ≡ p) → (op : Op) (c d : ℕ) → ShowsCharacter ops op c → ShowsCharacter ops op d → c ≡ d
one_shown ops distinct (Insert id p b) c d is other = sym is ∙ other
one_shown ops distinct (Remove id target) c d never other = absurd never
one_shown ops distinct (AddMark id attribute start end) c d never other = absurd never
one_shown ops distinct (RemoveMark id key start end) c d never other = absurd never
one_shown ops distinct (Revive id removal) c d (x, p, i, a) (y, q, j, b) =
    let both : x ≡ y = same_target removal removal x y (distinct (Remove removal x) (Remove removal y) a.removes b.removes refl) in
    same_insert x y p q c d (distinct (Insert x p c) (Insert y q d) i j both)

-- ---- what is held of them
pub held_other : (removals : Removals) (ops : List Op) (op : Op) → ((r x : OpId) → op ≡ Remove r x → ⊥) → ((v r : OpId) → op ≡ Revive v r → ⊥) → HoldsRemovals removals ops → HoldsRemovals removals (ops ++ op ∷ [])
held_other removals ops op no_removal no_revival h = record {
  removes = λ r x. (
    λ c. ⊎_elim (λ (u : Contains ops (Remove r x)). (h.removes r x).0 u) (λ (u : op ≡ Remove r x). absurd (no_removal r x u)) (Contains-push_cases ops op (Remove r x) c),
    λ c. Contains-append_left ops (op ∷ []) (Remove r x) ((h.removes r x).1 c),
  );
  back = λ r. (
    λ b. ⊎_elim (λ (u : IsTakenBack ops r). (h.back r).0 u) (λ (u : (v : OpId) × (op ≡ Revive v r)). absurd (no_revival u.0 r u.1)) (back_cases ops op r b),
    λ c. back_push ops op r ((h.back r).1 c),
  );
}

remove_apart : (id target r x : OpId) → Remove id target ≡ Remove r x → (r ≡ id) × (x ≡ target)
remove_apart id target r x e =
    let first : r ≡ id = cc in
    let second : x ≡ target = cc in
    (first, second)

no_revival_of : (id target v r : OpId) → Remove id target ≡ Revive v r → ⊥
no_revival_of id target v r e = cc

pub held_removed : (old new : Removals) (ops : List Op) (id target : OpId) → ((r x : OpId) → Removes new r x ↔ (Removes old r x ⊎ ((r ≡ id) × (x ≡ target)))) → new.back ≡ old.back → HoldsRemovals old ops → HoldsRemovals new (ops ++ Remove id target ∷ [])
held_removed old new ops id target added same h =
    let op = Remove id target in record {
      removes = λ r x. (
        λ c.
            ⊎_elim
            (λ (u : Contains ops (Remove r x)). (added r x).1 (inl ((h.removes r x).0 u)))
            (λ (u : op ≡ Remove r x). (added r x).1 (inr (remove_apart id target r x u)))
            (Contains-push_cases ops op (Remove r x) c),
        λ c.
            ⊎_elim
            (λ (u : Removes old r x). Contains-append_left ops (op ∷ []) (Remove r x) ((h.removes r x).1 u))
            (λ (u : (r ≡ id) × (x ≡ target)).
            subst (λ z. Contains (ops ++ op ∷ []) (Remove z x)) (sym u.0) (subst (λ z. Contains (ops ++ op ∷ []) (Remove id z)) (sym u.1) (Contains-push ops op)))
            ((added r x).0 c),
      );
      back = λ r. (
        λ b.
            ⊎_elim
            (λ (u : IsTakenBack ops r). subst (λ z. Contains z r) (sym same) ((h.back r).0 u))
            (λ (u : (v : OpId) × (op ≡ Revive v r)). absurd (no_revival_of id target u.0 r u.1))
            (back_cases ops op r b),
        λ c. back_push ops op r ((h.back r).1 (subst (λ z. Contains z r) same c)),
      );
    }

no_removal_of : (id removal r x : OpId) → Revive id removal ≡ Remove r x → ⊥
no_removal_of id removal r x e = cc

revive_apart : (id removal v r : OpId) → Revive id removal ≡ Revive v r → r ≡ removal
revive_apart id removal v r e = cc

pub held_revived : (old new : Removals) (ops : List Op) (id removal : OpId) → ((r : OpId) → Contains new.back r ↔ (Contains old.back r ⊎ (r ≡ removal))) → new.removals ≡ old.removals → HoldsRemovals old ops → HoldsRemovals new (ops ++ Revive id removal ∷ [])
held_revived old new ops id removal added same h =
    let op = Revive id removal in record {
      removes = λ r x. (
        λ c.
            ⊎_elim
            (λ (u : Contains ops (Remove r x)). subst (λ z. Contains z (record { id = r; target = x })) (sym same) ((h.removes r x).0 u))
            (λ (u : op ≡ Remove r x). absurd (no_removal_of id removal r x u))
            (Contains-push_cases ops op (Remove r x) c),
        λ c. Contains-append_left ops (op ∷ []) (Remove r x) ((h.removes r x).1 (subst (λ z. Contains z (record { id = r; target = x })) same c)),
      );
      back = λ r. (
        λ b.
            ⊎_elim
            (λ (u : IsTakenBack ops r). (added r).1 (inl ((h.back r).0 u)))
            (λ (u : (v : OpId) × (op ≡ Revive v r)). (added r).1 (inr (revive_apart id removal u.0 r u.1)))
            (back_cases ops op r b),
        λ c.
            ⊎_elim
            (λ (u : Contains old.back r). back_push ops op r ((h.back r).1 u))
            (λ (u : r ≡ removal). subst (λ z. IsTakenBack (ops ++ op ∷ []) z) (sym u) (id, Contains-push ops op))
            ((added r).0 c),
      );
    }

-- a character is hidden where a removal of it is open
pub hidden_open : (removals : Removals) (ops : List Op) (x : OpId) → HoldsRemovals removals ops → IsHidden ops x ↔ HasOpen removals x
hidden_open removals ops x h = (
  λ a. (a.0, (h.removes a.0 x).0 a.1, λ c. a.2 ((h.back a.0).1 c)),
  λ a. (a.0, (h.removes a.0 x).1 a.1, λ b. a.2 ((h.back a.0).0 b)),
)

pub alone_open : (removals : Removals) (ops : List Op) (r x : OpId) → HoldsRemovals removals ops → HidesAlone ops r x ↔ IsOnlyOpen removals r x
alone_open removals ops r x h = (
  λ a. record {
    removes = (h.removes r x).0 a.removes;
    stands = λ c. a.stands ((h.back r).1 c);
    only = λ s c stands. a.only s ((h.removes s x).1 c) (λ b. stands ((h.back s).0 b));
  },
  λ a. record {
    removes = (h.removes r x).1 a.removes;
    stands = λ b. a.stands ((h.back r).0 b);
    only = λ s c stands. a.only s ((h.removes s x).0 c) (λ k. stands ((h.back s).1 k));
  },
)
