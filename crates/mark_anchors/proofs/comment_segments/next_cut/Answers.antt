use Rattle.std.proofs.Common.{◌≡◌, ◌∙◌, ◌<◌, ◌≤◌, ℕ, Bool, List, Option, Some, None, length, get_or, sym, arith, rules}
use Rattle.std.specs.Prelude.{nat_le}
use Rattle.std.specs.List.{slice_get}
use Rattle.std.specs.Option.{IfSome}
use Rattle.std.proofs.lemmas.List.Sorted.{IsPartitionPoint-from_clause, IsPartitionedBy-leb}
use Rattle.std.proofs.lemmas.Option.{slice_get_within, get_or_from_slice_get}
use Rattle.mark_anchors.proofs.Counting.{past_point}
use Rattle.mark_anchors.proofs.Painting.{copied_from_get}
use Rattle.mark_anchors.proofs.comment_segments.next_cut.Goals as goal

some_behind : (places : List ℕ) (i from : ℕ) (found : Option ℕ) → found ≡ slice_get places i → ((k : ℕ) → i ≤ k → k < length places → from < get_or places k 0) → IfSome found (λ cut. from < cut)
some_behind places i from None is behind = tt
some_behind places i from (Some cut) is behind =
    let at : get_or places i 0 ≡ cut = get_or_from_slice_get places i cut 0 (sym is) in
    let past : from < get_or places i 0 = behind i (omega arith) (slice_get_within places i cut (sym is)) in
    omega arith

pub returns : goal.returns
returns c =
    let places : List ℕ = c.args.changes.now in
    let from : ℕ = c.args.from in
    let p : ℕ → Bool = λ place. nat_le place from in
    let point = IsPartitionPoint-from_clause p places c.partition_point-passed.result c.partition_point-passed.ensures.partitioned (IsPartitionedBy-leb (λ x. x) places from c.requires) (λ a r f called. search rules) in
    some_behind places c.saturating_add.result from c.copied.result
    (c.copied.ensures ∙ copied_from_get places c.saturating_add.result c.get.result c.get.ensures.lookup)
    (λ k low within. past_point (λ x. x) places k from 0 (point.1 k 0 (omega arith) within))
