-- Joined changes have the operations of the changes, in their order, and the limits of changes.
use Rattle.std.proofs.Common.{◌≡◌, ◌≤◌, Bool, true, false, List, [], ◌∷◌, ◌++◌, length, refl, sym, ap, subst, ◌∙◌, arith, append_assoc}
use Rattle.std.specs.Prelude.{All}
use Rattle.std.specs.List.{flat_map}
use Rattle.std.proofs.lemmas.List.Elements.{All-nil, All-cons, All-head, All-tail}
use Rattle.change_ops.specs.declared.size.Size.{Size}
use Rattle.change_ops.specs.Changes.{Change, IsChange, operations}
use Rattle.change_ops.specs.declared.operation.Op.{Op}
use Rattle.change_history.specs.Accepted.{operations_of, AllFollow, IsAccepted}
use Rattle.change_join.specs.Joined.{can_join, both_of, joined_with, joined}
use Rattle.change_join.specs.Replacing.{Replaces}
use Rattle.change_join.proofs.Accepting.{accepted_again}
use Rattle.change_join.proofs.Groups.{no_more}
use Rattle.change_join.proofs.Both.{both_operations, both_is_change}

next_joined : (change next : Change) (others : List Change) → can_join change next ≡ true → joined_with change (next ∷ others) ≡ joined_with (both_of change next) others
unfolding joined_with
next_joined change next others can = rw can refl

next_apart : (change next : Change) (others : List Change) → can_join change next ≡ false → joined_with change (next ∷ others) ≡ change ∷ joined_with next others
unfolding joined_with
next_apart change next others cannot = rw cannot refl

abbrev all_of : List Change → List Op
all_of changes = flat_map operations changes

abbrev HasAll : Change → List Change → Type 0
HasAll change others = all_of (joined_with change others) ≡ operations change ++ all_of others

operations_more : (change next : Change) (others : List Change) → ((one : Change) → HasAll one others) → (a : Bool) → can_join change next ≡ a → HasAll change (next ∷ others)
operations_more change next others all true e =
    ap all_of (next_joined change next others e) ∙ all (both_of change next) ∙ ap (λ (ops : List Op). ops ++ all_of others) (both_operations change next)
    ∙ append_assoc (operations change) (operations next) (all_of others)
operations_more change next others all false e = ap all_of (next_apart change next others e) ∙ ap (λ (ops : List Op). operations change ++ ops) (all next)

with_operations : (others : List Change) (change : Change) → HasAll change others
unfolding joined_with
with_operations [] change = refl
with_operations (next ∷ others) change = operations_more change next others (with_operations others) (can_join change next) refl

joined_operations : (changes : List Change) → all_of (joined changes) ≡ all_of changes
unfolding joined
joined_operations [] = refl
joined_operations (change ∷ others) = with_operations others change

abbrev AreLimited : List Change → Type 0
AreLimited others = (change : Change) → IsChange change → All IsChange others → All IsChange (joined_with change others)

limits_more : (change next : Change) (others : List Change) → AreLimited others → IsChange change → IsChange next → All IsChange others → (a : Bool) → can_join change next ≡ a
    → All IsChange (joined_with change (next ∷ others))
limits_more change next others limited h k all true e = subst (All IsChange) (sym (next_joined change next others e)) (limited (both_of change next) (both_is_change change next e h k) all)
limits_more change next others limited h k all false e = subst (All IsChange) (sym (next_apart change next others e)) (All-cons IsChange change (joined_with next others) h (limited next k all))

with_limits : (others : List Change) → AreLimited others
unfolding joined_with
with_limits [] = λ change h all. All-cons IsChange change [] h (All-nil IsChange)
with_limits (next ∷ others) = λ change h all. limits_more change next others (with_limits others) h (All-head IsChange next others all) (All-tail IsChange next others all) (can_join change next) refl

joined_limits : (changes : List Change) → All IsChange changes → All IsChange (joined changes)
unfolding joined
joined_limits [] all = All-nil IsChange
joined_limits (change ∷ others) all = with_limits others change (All-head IsChange change others all) (All-tail IsChange change others all)

-- ---- by the changes of a history
of_is_flat : (changes : List Change) → operations_of changes ≡ all_of changes
unfolding operations_of
of_is_flat [] = refl
of_is_flat (change ∷ changes) = ap (λ (ops : List Op). operations change ++ ops) (of_is_flat changes)

same_operations : (changes : List Change) → operations_of (joined changes) ≡ operations_of changes
same_operations changes = of_is_flat (joined changes) ∙ joined_operations changes ∙ sym (of_is_flat changes)

module _ {size : Size} where
  same_follow : (changes new : List Change) → operations_of new ≡ operations_of changes → length new ≤ length changes → (change : Change) → IsAccepted size changes change → IsAccepted size new change
  same_follow changes new same few change h = record {
    room = let room = h.room in omega (arith, room, few);
    follow = subst (λ (ops : List Op). AllFollow size ops (operations change) (length (operations change))) (sym same) h.follow;
  }

pub replaces : (size : Size) (changes : List Change) → Replaces size changes (joined changes)
replaces size changes =
    let same = same_operations changes in
    let few = no_more changes in
    record {
      same = same;
      limited = joined_limits changes;
      fewer = few;
      accepted = λ all. accepted_again size changes (joined changes) same few all;
      later = same_follow changes (joined changes) same few;
    }
