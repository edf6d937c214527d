-- What a walk over the text finds is what the operations of a run touch.
use Rattle.std.proofs.Common.{◌≡◌, ℕ, ◌<◌, List, length, refl, sym, subst, ◌∙◌}
use Rattle.std.specs.List.{Contains}
use Rattle.std.proofs.lemmas.Option.{same_Some, slice_get_within}
use Rattle.change_ops.specs.IdRuns.{IdRun, later_id, removals_of, revivals_of}
use Rattle.change_ops.specs.declared.id.OpId.{OpId}
use Rattle.change_ops.specs.declared.operation.Op.{Op}
use Rattle.change_ops.specs.declared.operation.Op.TheVariants.{Remove, Revive}
use Rattle.change_ops.proofs.IdRunOps.{removal_of, removals_count, revival_of, revivals_count}
use Rattle.char_sequence.specs.Held.{Sequence, HoldsRemovals}
use Rattle.char_sequence.specs.Order.{Shows}
use Rattle.char_sequence.specs.Tree.{Present}
use Rattle.char_sequence.proofs.Steps.{stands}
use Rattle.mark_places.specs.declared.range.PlaceRange.{PlaceRange}
use Rattle.span_flatten.proofs.Showing.{at_contains}
use Rattle.version_laws.specs.Touched.{StandsWithin, TouchesWithin}
use Rattle.version_windows.specs.Touches.{AllTouchWithin}
use Rattle.version_windows.specs.Walked.{AreRemoved, CoversIds}

module _ (sequence : Sequence) (run : IdRun) (range : PlaceRange) (ops : List Op) (shows : Shows sequence.elements ops) where
  stands_in : (first : OpId) (k : ℕ) (x : OpId) → CoversIds sequence.elements first run.count (length sequence.elements) range → k < run.count → x ≡ later_id first k → Present ops x
      → StandsWithin sequence.elements range.low range.high x
  stands_in first k x covers less same there =
      let at = stands ops sequence.elements shows.text x there in
      let here = covers k at.0 less (slice_get_within sequence.elements at.0 at.1.0 at.1.1) (at.1.0, at.1.1, at.1.2 ∙ same) in
      (at.0, at.1, here.0, here.1)

  pub walked_removals : ((o : Op) → Contains (removals_of run) o → Contains ops o) → CoversIds sequence.elements run.first run.count (length sequence.elements) range
      → AllTouchWithin sequence (removals_of run) range
  walked_removals held covers all removals o is =
      let at = at_contains (removals_of run) o is in
      let k : ℕ = at.0 in
      let less : k < run.count = subst (λ n. k < n) (removals_count run.count run.id run.first) (slice_get_within (removals_of run) k o at.1) in
      let op : Op = Remove (later_id run.id k) (later_id run.first k) in
      let same : op ≡ o = same_Some op o (sym (removal_of run.count run.id run.first k less) ∙ at.1) in
      let there : Present ops (later_id run.first k) = shows.named op (later_id run.first k) (subst (Contains ops) (sym same) (held o is)) refl in
      subst (TouchesWithin all sequence.elements range.low range.high) same (stands_in run.first k (later_id run.first k) covers less refl there)

  pub walked_revivals : HoldsRemovals sequence.removals ops → (first : OpId) → AreRemoved sequence run.first run.count first → CoversIds sequence.elements first run.count (length sequence.elements) range
      → AllTouchWithin sequence (revivals_of run) range
  walked_revivals own first are covers all removals o is =
      let at = at_contains (revivals_of run) o is in
      let k : ℕ = at.0 in
      let less : k < run.count = subst (λ n. k < n) (revivals_count run.count run.id run.first) (slice_get_within (revivals_of run) k o at.1) in
      let op : Op = Revive (later_id run.id k) (later_id run.first k) in
      let same : op ≡ o = same_Some op o (sym (revival_of run.count run.id run.first k less) ∙ at.1) in
      let touches : TouchesWithin all sequence.elements range.low range.high op =
      λ x removed.
      let mine = (own.removes (later_id run.first k) x).1 ((removals.removes (later_id run.first k) x).0 removed) in
      let there : Present ops x = shows.named (Remove (later_id run.first k) x) x mine refl in
      stands_in first k x covers less (are all removals k x less removed) there in
      subst (TouchesWithin all sequence.elements range.low range.high) same touches
