use Rattle.std.proofs.Common.{◌≡◌, ◌∙◌, ◌<◌, ℕ, List, Option, None, Bor, length, get_or, set, sym, ap, subst, arith}
use Rattle.std.specs.Option.{option_copied}
use Rattle.std.proofs.lemmas.List.{get_or_default}
use Rattle.change_ops.specs.declared.keys.TheConstants.{KEYS}
use Rattle.change_ops.specs.declared.value.Value.{Value}
use Rattle.mark_anchors.specs.Resolution.{AreTyped}
use Rattle.mark_anchors.proofs.Decisions.{all_kept, done_more, none_of, put_none, rest_more, size_kept, typed_value}
use Rattle.mark_anchors.proofs.values.Values.of.Goals.{in-Some+in_ok-set, in_default}
use Rattle.mark_anchors.proofs.values.Values.of.Goals as goal

pub set-requires-clause-typed : goal.set-requires-clause-typed
set-requires-clause-typed c =
    let held : List (Option (Bor Value)) = c.values-held.result.now in
    let sized : length held ≡ KEYS = c.values-held.ensures.sized in
    let within : c.loop-row.row < length held = omega arith in
    typed_value held c.loop-row.row c.in-Some.value within (get_or_default held c.loop-row.row None _ within ∙ c.in-Some.is)
    (subst AreTyped (sym c.values-held.ensures.value) c.values-held.ensures.typed)

pub loop-row-preserved : goal.loop-row-preserved
loop-row-preserved c =
    let held : List (Option (Bor Value)) = c.values-held.result.now in
    let old : List (Option Value) = c.loop-row.values in
    let new : List (Option Value) = c.match-held-row.values in
    let row : ℕ = c.loop-row.row in
    let sized : length held ≡ KEYS = c.values-held.ensures.sized in
    let long : length old ≡ KEYS = c.loop-row.invariant.sized in
    let within : row < length held = omega arith in
    let put : new ≡ set old row (option_copied (get_or held row None)) =
    elim c.match-held-row.branch [
      | in-Some+in_ok-set w ↦ w.values-is ∙ w.in_ok-set.ensures ∙ ap (λ z. set old row (option_copied z)) (sym (get_or_default held row None _ within ∙ w.in-Some.is))
      | in_default w ↦ w.values-is ∙ put_none held old row (get_or_default held row None _ within ∙ none_of _ w.in_default.not-Some) (c.loop-row.invariant.rest row (omega arith))
    ] in
    record {
      sized = size_kept held old new row (omega arith) put ∙ long;
      done = done_more held old new row (omega arith) put c.loop-row.invariant.done;
      rest = rest_more held old new row (omega arith) put c.loop-row.invariant.rest;
    }

pub returns : goal.returns
returns c =
    let held : List (Option (Bor Value)) = c.values-held.result.now in
    let sized : length held ≡ KEYS = c.values-held.ensures.sized in
    let long : length c.loop-row.values ≡ KEYS = c.loop-row.invariant.sized in
    all_kept held c.loop-row.values (long ∙ sym sized) (λ k less. c.loop-row.invariant.done k (omega arith)) ∙ c.values-held.ensures.value
