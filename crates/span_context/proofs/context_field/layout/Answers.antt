use Rattle.std.proofs.Common.{refl}
use Rattle.span_context.specs.ContextField.{bytes_of_fields}
use Rattle.span_context.proofs.context_field.layout.Goals as goal

pub returns-clause-whole : goal.returns-clause-whole
unfolding bytes_of_fields
returns-clause-whole c = λ facts. refl
