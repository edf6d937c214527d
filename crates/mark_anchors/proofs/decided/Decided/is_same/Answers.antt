use Rattle.std.proofs.Common.{◌≡◌, ◌∙◌, ℕ, List, Option, Bor, length, map, refl, sym, arith, true≢false}
use Rattle.std.proofs.lemmas.Bool.{false≢true}
use Rattle.std.specs.Option.{option_copied}
use Rattle.change_ops.specs.declared.keys.TheConstants.{KEYS}
use Rattle.change_ops.specs.declared.value.Value.{Value}
use Rattle.mark_anchors.proofs.Decisions.{same_at, same_rows}
use Rattle.mark_anchors.proofs.decided.Decided.is_same.Goals as goal

pub returns-then-not-is_same_value : goal.returns-then-not-is_same_value
returns-then-not-is_same_value c =
    let held : List (Option (Bor Value)) = c.values-held.result.now in
    let others : List (Option (Bor Value)) = c.values-others.result.now in
    let row : ℕ = c.loop-row.row in
    let long : length held ≡ KEYS = c.values-held.ensures.sized in
    let size : length others ≡ KEYS = c.values-others.ensures.sized in
    let one : map option_copied held ≡ c.args.self.now = c.values-held.ensures.value in
    let two : map option_copied others ≡ c.args.other.now = c.values-others.ensures.value in (
      λ yes. absurd (true≢false (sym yes)),
      λ same.
          absurd
          (false≢true
          (sym c.if-not-is_same_value.true
          ∙ c.is_same_value.ensures.1 (same_at held others row c.index-held-row.result c.index-others-row.result c.index-held-row.is c.index-others-row.is (omega arith) (omega arith) (one ∙ same ∙ sym two)))),
    )

pub returns : goal.returns
returns c =
    let held : List (Option (Bor Value)) = c.values-held.result.now in
    let others : List (Option (Bor Value)) = c.values-others.result.now in
    let long : length held ≡ KEYS = c.values-held.ensures.sized in
    let size : length others ≡ KEYS = c.values-others.ensures.sized in (
      λ yes. sym c.values-held.ensures.value ∙ same_rows held others (long ∙ sym size) (λ row less. c.loop-row.invariant row (omega arith)) ∙ c.values-others.ensures.value,
      λ same. refl,
    )
