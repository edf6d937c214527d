use Rattle.std.proofs.Common.{arith, below_more}
use Rattle.std.proofs.lemmas.Option.{get_or_from_slice_get}
use Rattle.span_context.specs.ContextField.{every_field}
use Rattle.span_context.proofs.FieldAt.{index_of, among-all, refused-field}
use Rattle.span_context.proofs.context_field.ContextField.at.Goals as goal

pub loop-field-preserved : goal.loop-field-preserved
loop-field-preserved c = below_more _ _ c.loop-field.invariant
    (λ f is begins sized.
    refused-field f _ c.args.offset c.args.size c.begins.result c.begins.ensures c.if-begins.false
    (get_or_from_slice_get every_field c.loop-field.field-index f _ is) begins sized)

pub returns-clause-found : goal.returns-clause-found
returns-clause-found c = λ f begins sized.
    let there = among-all f in
    absurd (c.loop-field.invariant (index_of f) (omega (arith, there.0, c.loop-field-test.false)) f there.1 begins sized)
