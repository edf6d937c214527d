use Rattle.std.proofs.Common.{◌≡◌, ◌<◌, ◌≤◌, ◌∙◌, ℕ, Bool, List, Some, length, sym, subst, arith, rules}
use Rattle.std.specs.List.{slice_get}
use Rattle.std.proofs.lemmas.Bool.{false≢true, eqb-true, le-leb, leb-true, ltb-true, ltb-false}
use Rattle.std.proofs.lemmas.List.Sorted.{IsPartitionPoint-from_clause}
use Rattle.std.proofs.lemmas.Option.{same_Some, slice_get_within}
use Rattle.mark_anchors.specs.declared.comment_runs.CommentRun.{CommentRun}
use Rattle.mark_anchors.proofs.Lists.{read_at}
use Rattle.mark_anchors.proofs.Searching.{is_before, parted_before, found, has_here}
use Rattle.mark_anchors.proofs.comment_table.holds.Goals as goal

pub returns-then-number : goal.returns-then-number
returns-then-number c =
    let runs : List CommentRun = c.args.runs.now in
    let n : ℕ = c.args.number in
    let place : ℕ = c.args.place in
    let index : ℕ = c.partition_point-index.result in
    let p : CommentRun → Bool = is_before n place in
    let point = IsPartitionPoint-from_clause p runs index c.partition_point-index.ensures.partitioned (parted_before runs c.requires n place) (λ a r f called. search rules) in
    let bound : index ≤ length runs = c.partition_point-index.ensures.bound in
    let here : CommentRun = c.in-Some.run'.now in
    let g : slice_get runs index ≡ Some here = read_at runs index here c.in-Some.ensures.lookup.1 (ltb-true index (length runs) (sym c.in-Some.ensures.lookup.0)) in
    let same : here.number ≡ n = sym c.number.ensures.value ∙ c.if-number.true ∙ c.number-in-Some.ensures.value in (
      λ begun. has_here runs c.requires n place index (λ k d less. point.0 k d (omega arith) less) (λ k d low within. point.1 k d low within) here g same (leb-true here.from place begun),
      λ has.
          let f = found runs c.requires n place index (λ k d less. point.0 k d (omega arith) less) (λ k d low within. point.1 k d low within) has in
          le-leb here.from place (subst (λ (z : CommentRun). z.from ≤ place) (same_Some f.0 here (sym f.1 ∙ g)) f.3),
    )

pub returns-else-number : goal.returns-else-number
returns-else-number c =
    let runs : List CommentRun = c.args.runs.now in
    let n : ℕ = c.args.number in
    let place : ℕ = c.args.place in
    let index : ℕ = c.partition_point-index.result in
    let p : CommentRun → Bool = is_before n place in
    let point = IsPartitionPoint-from_clause p runs index c.partition_point-index.ensures.partitioned (parted_before runs c.requires n place) (λ a r f called. search rules) in
    let bound : index ≤ length runs = c.partition_point-index.ensures.bound in
    let here : CommentRun = c.in-Some.run'.now in
    let g : slice_get runs index ≡ Some here = read_at runs index here c.in-Some.ensures.lookup.1 (ltb-true index (length runs) (sym c.in-Some.ensures.lookup.0)) in (
      λ same. absurd (c.if-number.false (eqb-true c.number.result c.number-in-Some.result same)),
      λ has.
          let f = found runs c.requires n place index (λ k d less. point.0 k d (omega arith) less) (λ k d low within. point.1 k d low within) has in
          let same : here.number ≡ n = subst (λ (z : CommentRun). z.number ≡ n) (same_Some f.0 here (sym f.1 ∙ g)) f.2 in
          absurd (c.if-number.false (c.number.ensures.value ∙ same ∙ sym c.number-in-Some.ensures.value)),
    )

pub returns-in-None : goal.returns-in-None
returns-in-None c =
    let runs : List CommentRun = c.args.runs.now in
    let n : ℕ = c.args.number in
    let place : ℕ = c.args.place in
    let index : ℕ = c.partition_point-index.result in
    let p : CommentRun → Bool = is_before n place in
    let point = IsPartitionPoint-from_clause p runs index c.partition_point-index.ensures.partitioned (parted_before runs c.requires n place) (λ a r f called. search rules) in
    let bound : index ≤ length runs = c.partition_point-index.ensures.bound in
    let past : length runs ≤ index = ltb-false index (length runs) (sym c.in-None.ensures.lookup.0) in (
      λ is. absurd (false≢true is),
      λ has.
          let f = found runs c.requires n place index (λ k d less. point.0 k d (omega arith) less) (λ k d low within. point.1 k d low within) has in
          let within : index < length runs = slice_get_within runs index f.0 f.1 in
          absurd (omega arith),
    )
