-- What is accepted at any size is accepted at the large one.
use Rattle.std.proofs.Common.{◌≡◌, true, ℕ, ◌≤◌, List, Option, Some, length, take, inl, inr, ⊎_elim, arith}
use Rattle.std.specs.List.{count_by}
use Rattle.change_ops.specs.Changes.{Change, operations}
use Rattle.change_ops.specs.Operations.{is_insert, is_mark}
use Rattle.change_ops.specs.Sizes.{most_characters, most_marks, most_changes}
use Rattle.change_ops.specs.declared.operation.Op.{Op}
use Rattle.change_ops.specs.declared.size.Size.{Size}
use Rattle.change_ops.specs.declared.size.Size.TheVariants.{Small, Large}
use Rattle.char_sequence.specs.Acceptance.{HasNoRoom, Accepts}
use Rattle.change_history.specs.declared.parts.Parts.{Parts}
use Rattle.change_history.specs.Kept.{IsSpare, IsLast, CanCatchUp}
use Rattle.change_history.specs.Accepted.{operations_of, MayFollow, AllFollow, IsAccepted, AreAccepted}

pub most_characters-large : (size : Size) → most_characters size ≤ 262144
most_characters-large Small = omega arith
most_characters-large Large = omega arith

pub most_marks-large : (size : Size) → most_marks size ≤ 16384
most_marks-large Small = omega arith
most_marks-large Large = omega arith

pub most_changes-large : (size : Size) → most_changes size ≤ 65536
most_changes-large Small = omega arith
most_changes-large Large = omega arith

pub accepts_large : {size : Size} {ops : List Op} {op : Op} → Accepts size ops op → Accepts Large ops op
accepts_large {size} {ops} {op} a = record {
  fresh = a.fresh;
  known = a.known;
  removal = a.removal;
  room =
      λ full.
      ⊎_elim
      (λ (many : (is_insert op ≡ true) × (262144 ≤ count_by is_insert ops)). a.room (inl (many.0, let much = many.1 in let most = most_characters-large size in omega (arith, much, most))))
      (λ (none : HasNoRoom ops op). a.room (inr none))
      full;
}

pub follows_large : {size : Size} {ops : List Op} {op : Op} → MayFollow size ops op → MayFollow Large ops op
follows_large {size} {ops} {op} m = record {
  accepted = accepts_large m.accepted;
  room = λ many. m.room (many.0, let much : 16384 ≤ count_by is_mark ops = many.1 in let most = most_marks-large size in omega (arith, much, most));
}

pub follow_large : {size : Size} (ops added : List Op) (count : ℕ) → AllFollow size ops added count → AllFollow Large ops added count
follow_large ops added count follow i op low here = follows_large (follow i op low here)

pub accepted_large : {size : Size} (changes : List Change) (change : Change) → IsAccepted size changes change → IsAccepted Large changes change
accepted_large {size} changes change a = record {
  room = let room = a.room in let most = most_changes-large size in omega (arith, room, most);
  follow = follow_large (operations_of changes) (operations change) (length (operations change)) a.follow;
}

pub all_accepted_large : (size : Size) (changes : List Change) → AreAccepted size changes → AreAccepted Large changes
all_accepted_large size changes all n change here = accepted_large (take n changes) change (all n change here)

-- the last of a history's changes can be applied to the spare parts
pub can_catch_up : {size : Size} {changes : List Change} {last : Option Change} {spare : Option Parts} (parts : Parts) → AreAccepted size changes → IsSpare changes spare → IsLast changes last → spare ≡ Some parts → CanCatchUp changes last parts
can_catch_up {size} {changes} {last} {spare} parts all without is there = record {
  accepted = all_accepted_large size changes all;
  is = is;
  kept = without parts there;
}
