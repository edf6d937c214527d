-- Whether marks end at an anchor, by the list of their ids.
use Rattle.std.proofs.Common.{◌≡◌, ℕ, zero, suc, ◌<◌, nat_eq, Bool, true, false, not, List, [], ◌∷◌, length, Contains, refl, arith}
use Rattle.std.proofs.lemmas.Bool.{false≢true}
use Rattle.std.proofs.lemmas.Bool.Decides.{nat_tests}
use Rattle.change_ops.specs.declared.id.OpId.{OpId}
use Rattle.change_ops.specs.declared.operation.Anchor.{Anchor}
use Rattle.change_ops.specs.declared.operation.Op.{Op}
use Rattle.mark_anchors.specs.Anchored.{Ends, AreIdsAt}

pub one_ends : (marks : List Op) (anchor : Anchor) (ids : List OpId) → AreIdsAt Ends marks anchor ids → 0 < length ids → (o : Op) × Contains marks o × Ends o anchor
one_ends marks anchor [] at some = absurd (omega (arith, some))
one_ends marks anchor (id ∷ more) at some =
    let (o, held, ends, same) = at.held id (0, omega arith, refl) in (o, held, ends)

pub one_listed : (marks : List Op) (anchor : Anchor) (ids : List OpId) → AreIdsAt Ends marks anchor ids → (o : Op) × Contains marks o × Ends o anchor → 0 < length ids
one_listed marks anchor ids at (o, held, ends) =
    let (i, less, same) = at.listed o held ends in omega (arith, less)

not_zero : (b : Bool) → b ≡ nat_eq 0 0 → not b ≡ true → ⊥
not_zero true is some = false≢true some
not_zero false is some = false≢true is

pub not_none : (n : ℕ) (b : Bool) → b ≡ nat_eq n 0 → not b ≡ true → 0 < n
not_none zero b is some = absurd (not_zero b is some)
not_none (suc n) b is some = omega arith

pub some_left : (n : ℕ) (b : Bool) → b ≡ nat_eq n 0 → 0 < n → not b ≡ true
some_left zero b is some = absurd (omega (arith, some))
some_left (suc n) b is some = let no : nat_eq (suc n) 0 ≡ false = grind (arith, nat_tests) in rw (is, no) refl
