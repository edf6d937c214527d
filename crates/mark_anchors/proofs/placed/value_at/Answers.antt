use Rattle.std.proofs.Common.{◌≡◌, ◌∙◌, Some, ap, sym, subst}
use Rattle.std.proofs.lemmas.Option.{same_Some, none-some}
use Rattle.change_ops.specs.Operations.{key_of}
use Rattle.change_ops.specs.declared.attribute.Key.TheVariants as key
use Rattle.change_ops.specs.declared.attribute.Attribute.TheVariants.{Row, Comment}
use Rattle.mark_anchors.specs.Placed.{IsValue}
use Rattle.mark_anchors.proofs.KeyValues.{row_from_value, no_row, typed_row}
use Rattle.mark_anchors.proofs.placed.value_at.Goals as goal

pub returns-in_err-valued-clause-bears : goal.returns-in_err-valued-clause-bears
returns-in_err-valued-clause-bears c =
    λ es ops row e h are placed at value.
    rw c.from_residual.ensures (no_row ops e row _ (c.in_err-valued.ensures.value es ops _ e h are placed at) (λ held is. none-some _ is) value)

pub returns-in-Row-clause-bears : goal.returns-in-Row-clause-bears
returns-in-Row-clause-bears c =
    λ es ops row e h are placed at value.
    row_from_value ops e row c.in-Row.valued c.value.result.now c.value.ensures.value
    (subst (λ a. IsValue ops (key.Row row) e (Some a)) c.in-Row.is (c.in_ok-valued.ensures.value es ops _ e h are placed at)) value

pub returns-in-Row-clause-typed : goal.returns-in-Row-clause-typed
returns-in-Row-clause-typed c =
    λ es row placed.
    typed_row c.in-Row.valued row c.value.result.now (sym (ap key_of c.in-Row.is) ∙ c.in_ok-valued.ensures.of_key es _ placed) c.value.ensures.value c.value.ensures.typed

pub returns-in-Comment-clause-bears : goal.returns-in-Comment-clause-bears
returns-in-Comment-clause-bears c =
    λ es ops row e h are placed at value.
    no_row ops e row _ (c.in_ok-valued.ensures.value es ops _ e h are placed at)
    (λ held is. let apart : Comment c.in-Comment.field-0 ≡ Row held = sym c.in-Comment.is ∙ same_Some _ _ is in cc)
    value
