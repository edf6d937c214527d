-- No other groups are fewer than the joined changes.
use Rattle.std.proofs.Common.{◌≡◌, ℕ, suc, ◌+◌, ◌≤◌, Bool, true, false, List, [], ◌∷◌, ◌++◌, length, refl, sym, subst, ◌∙◌, arith, length-append}
use Rattle.std.specs.Prelude.{◌==◌, ◌&&◌}
use Rattle.std.specs.List.{AllByRecursion, flat_map}
use Rattle.std.proofs.lemmas.Bool.{and_from, le-leb, eq-eqb}
use Rattle.change_ops.specs.Changes.{Change, operations}
use Rattle.change_ops.specs.Lines.{count_of_lines}
use Rattle.change_ops.specs.declared.line.Line.{Line}
use Rattle.change_join.specs.Joined.{can_join, both_of, joined_with, joined}
use Rattle.change_join.specs.Groups.{CanBeOne, AreGroups}
use Rattle.change_join.proofs.Both.{counts_fit, meanings_fit, joinable, both_count, both_meant, count-append}

abbrev size : Change → ℕ
size change = count_of_lines change.lines

abbrev meant : Change → ℕ
meant change = length (operations change)

-- one that is no more operations than another, and means no more
record IsSmaller (change other : Change) : Type 0 where
  few : size change ≤ size other
  meant : meant change ≤ meant other

cost : Change → List Change → ℕ
cost change others = length (joined_with change others)

pub can_from : (change next : Change) → change.node ≡ next.node → size change + size next ≤ 256 → meant change + meant next ≤ 262144 → can_join change next ≡ true
can_from change next node few mean =
    and_from (change.node == next.node) (counts_fit change next && meanings_fit change next) (eq-eqb _ _ node)
    (and_from (counts_fit change next) (meanings_fit change next) (le-leb _ _ few) (le-leb _ _ mean))

cost_none : (change : Change) → cost change [] ≡ 1
unfolding cost joined_with
cost_none change = refl

cost_joined : (change next : Change) (others : List Change) → can_join change next ≡ true → cost change (next ∷ others) ≡ cost (both_of change next) others
unfolding cost joined_with
cost_joined change next others can = rw can refl

cost_apart : (change next : Change) (others : List Change) → can_join change next ≡ false → cost change (next ∷ others) ≡ suc (cost next others)
unfolding cost joined_with
cost_apart change next others cannot = rw cannot refl

-- a smaller change of the peer costs no more, and any change at most one more than another
record Costs (others : List Change) : Type 0 where
  smaller : (change other : Change) → change.node ≡ other.node → IsSmaller change other → cost change others ≤ cost other others
  one_more : (change other : Change) → cost change others ≤ suc (cost other others)

both_larger : (other next : Change) → IsSmaller next (both_of other next)
both_larger other next = record { few = omega (arith, both_count other next); meant = omega (arith, both_meant other next) }

both_smaller : (change other next : Change) → IsSmaller change other → IsSmaller (both_of change next) (both_of other next)
both_smaller change other next less =
    let few = less.few in
    let mean = less.meant in
    record {
      few = omega (arith, both_count change next, both_count other next, few);
      meant = omega (arith, both_meant change next, both_meant other next, mean);
    }

smaller_next : (next : Change) (others : List Change) → Costs others → (change other : Change) → change.node ≡ other.node → IsSmaller change other
    → (a b : Bool) → can_join change next ≡ a → can_join other next ≡ b → cost change (next ∷ others) ≤ cost other (next ∷ others)
smaller_next next others h change other node less true true e f =
    let k = h.smaller (both_of change next) (both_of other next) node (both_smaller change other next less) in
    omega (arith, cost_joined change next others e, cost_joined other next others f, k)
smaller_next next others h change other node less true false e f =
    let k = h.one_more (both_of change next) next in
    omega (arith, cost_joined change next others e, cost_apart other next others f, k)
smaller_next next others h change other node less false true e f =
    let j = joinable other next f in
    let few = j.few in
    let mean = j.meant in
    let fewer = less.few in
    let means_fewer = less.meant in
    let can : can_join change next ≡ true = can_from change next (node ∙ j.node) (omega (arith, few, fewer)) (omega (arith, mean, means_fewer)) in
    absurd cc
smaller_next next others h change other node less false false e f = omega (arith, cost_apart change next others e, cost_apart other next others f)

one_more_next : (next : Change) (others : List Change) → Costs others → (change other : Change)
    → (a b : Bool) → can_join change next ≡ a → can_join other next ≡ b → cost change (next ∷ others) ≤ suc (cost other (next ∷ others))
one_more_next next others h change other true true e f =
    let k = h.one_more (both_of change next) (both_of other next) in
    omega (arith, cost_joined change next others e, cost_joined other next others f, k)
one_more_next next others h change other true false e f =
    let k = h.one_more (both_of change next) next in
    omega (arith, cost_joined change next others e, cost_apart other next others f, k)
one_more_next next others h change other false true e f =
    let j = joinable other next f in
    let k = h.smaller next (both_of other next) (sym j.node) (both_larger other next) in
    omega (arith, cost_apart change next others e, cost_joined other next others f, k)
one_more_next next others h change other false false e f = omega (arith, cost_apart change next others e, cost_apart other next others f)

costs : (others : List Change) → Costs others
costs [] = record {
  smaller = λ change other node less. omega (arith, cost_none change, cost_none other);
  one_more = λ change other. omega (arith, cost_none change, cost_none other);
}
costs (next ∷ others) = record {
  smaller = λ change other node less. smaller_next next others (costs others) change other node less (can_join change next) (can_join other next) refl refl;
  one_more = λ change other. one_more_next next others (costs others) change other (can_join change next) (can_join other next) refl refl;
}

-- ---- a group costs at most one
total : List Change → ℕ
total changes = length (joined changes)

total_none : total [] ≡ 0
unfolding total joined
total_none = refl

total_with : (change : Change) (others : List Change) → total (change ∷ others) ≡ cost change others
unfolding total joined cost
total_with change others = refl

one_at_seam : (change : Change) (rest : List Change) → cost change rest ≤ suc (total rest)
one_at_seam change [] = omega (arith, cost_none change, total_none)
one_at_seam change (next ∷ others) = go (can_join change next) refl where
  go : (a : Bool) → can_join change next ≡ a → cost change (next ∷ others) ≤ suc (total (next ∷ others))
  go true e =
      let h = costs others in
      let k = h.one_more (both_of change next) next in
      omega (arith, cost_joined change next others e, total_with next others, k)
  go false e = omega (arith, cost_apart change next others e, total_with next others)

abbrev all_lines : List Change → List Line
all_lines group = flat_map (λ (change : Change). change.lines) group

group_count : (change : Change) (group : List Change) → count_of_lines (all_lines (change ∷ group)) ≡ size change + count_of_lines (all_lines group)
group_count change group = count-append change.lines (all_lines group)

group_with : (change : Change) (group rest : List Change) → AllByRecursion (λ (other : Change). other.node ≡ change.node) group → size change + count_of_lines (all_lines group) ≤ 256 → meant change + length (flat_map operations group) ≤ 262144
    → cost change (group ++ rest) ≤ suc (total rest)
group_with change [] rest own few mean = one_at_seam change rest
group_with change (next ∷ group) rest own few mean =
    let counts = group_count next group in
    let parts = length-append (operations next) (flat_map operations group) in
    let can : can_join change next ≡ true = can_from change next (sym own.0) (omega (arith, few, counts)) (omega (arith, mean, parts)) in
    let more : size (both_of change next) + count_of_lines (all_lines group) ≤ 256 = omega (arith, few, counts, both_count change next) in
    let means : meant (both_of change next) + length (flat_map operations group) ≤ 262144 = omega (arith, mean, parts, both_meant change next) in
    let k = group_with (both_of change next) group rest own.1 more means in
    omega (arith, cost_joined change next (group ++ rest) can, k)

all_own : (node : ℕ) (change : Change) (group : List Change) → change.node ≡ node → AllByRecursion (λ (other : Change). other.node ≡ node) group → AllByRecursion (λ (other : Change). other.node ≡ change.node) group
all_own node change group same own = subst (λ (n : ℕ). AllByRecursion (λ (other : Change). other.node ≡ n) group) (sym same) own

one_group : (group rest : List Change) → CanBeOne group → total (group ++ rest) ≤ suc (total rest)
one_group [] rest can = omega arith
one_group (change ∷ group) rest can =
    let few = can.few in
    let mean = can.meant in
    let counts = group_count change group in
    let parts = length-append (operations change) (flat_map operations group) in
    let k = group_with change group rest (all_own can.node change group can.own.0 can.own.1) (omega (arith, few, counts)) (omega (arith, mean, parts)) in
    omega (arith, total_with change (group ++ rest), k)

all_groups : (groups : List (List Change)) → AllByRecursion CanBeOne groups → total (flat_map (λ (group : List Change). group) groups) ≤ length groups
all_groups [] each = omega (arith, total_none)
all_groups (group ∷ groups) each =
    let k = one_group group (flat_map (λ (g : List Change). g) groups) each.0 in
    let m = all_groups groups each.1 in
    omega (arith, k, m)

pub fewest : (changes : List Change) (groups : List (List Change)) → AreGroups changes groups → length (joined changes) ≤ length groups
unfolding total
fewest changes groups are = subst (λ (all : List Change). total all ≤ length groups) are.whole (all_groups groups are.each)

-- ---- each change costs at most one
most : (change : Change) (others : List Change) → ((one : Change) → cost one others ≤ suc (length others)) → (next : Change) → (a : Bool) → can_join change next ≡ a → cost change (next ∷ others) ≤ suc (suc (length others))
most change others all next true e = let k = all (both_of change next) in omega (arith, cost_joined change next others e, k)
most change others all next false e = let k = all next in omega (arith, cost_apart change next others e, k)

cost_most : (others : List Change) (change : Change) → cost change others ≤ suc (length others)
cost_most [] change = omega (arith, cost_none change)
cost_most (next ∷ others) change = most change others (cost_most others) next (can_join change next) refl

pub no_more : (changes : List Change) → length (joined changes) ≤ length changes
unfolding total
no_more [] = let none : length (joined []) ≡ 0 = total_none in omega (arith, none)
no_more (change ∷ others) =
    let with : length (joined (change ∷ others)) ≡ cost change others = total_with change others in
    let k = cost_most others change in
    omega (arith, with, k)
