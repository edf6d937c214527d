use Rattle.std.proofs.Common.{◌≡◌, ℕ, Option, Some, None, ap, sym, subst, ◌∙◌}
use Rattle.span_context.specs.declared.size.Size.{Size}
use Rattle.std.proofs.lemmas.Option.{none-some}
use Rattle.std.proofs.lemmas.Result.{IfOk-weaker}
use Rattle.span_context.specs.ContextField.{offset_of, size_of}
use Rattle.abstract_state.specs.Known.{WithinKnown}
use Rattle.abstract_state.specs.State.{lengths_of}
use Rattle.std.specs.Option.{option_map_or}
use Rattle.span_context.specs.declared.context_field.ContextField.{ContextField}
use Rattle.abstract_state.specs.Loading.{field_at, lent_field, part_at, context_at}
use Rattle.abstract_state.proofs.Loading.{field_found, field_none}
use Rattle.abstract_state.proofs.Memories.{read_as}
use Rattle.abstract_state.proofs.Fields.{begin_is_field, end_is_field, number_is_field}
use Rattle.abstract_state.proofs.memory.field.Goals as goal

pub returns-in-Some-clause-sound : goal.returns-in-Some-clause-sound
returns-in-Some-clause-sound c = IfOk-weaker c.lent_field.result _ _
    (λ o h span same.
    subst (λ (n : ℕ). WithinKnown o (lengths_of span) n)
    (read_as (size_of c.in-Some.field) c.args.size (offset_of c.in-Some.field) c.args.offset span.bytes.context c.in-Some.ensures.begins.1 c.in-Some.ensures.begins.0)
    (h span same))
    c.lent_field.ensures.sound

pub returns-in-None-clause-sound : goal.returns-in-None-clause-sound
returns-in-None-clause-sound c = IfOk-weaker c.part.result _ _ (λ o h span same. h span) c.part.ensures.sound

pub returns-in-None-clause-begin : goal.returns-in-None-clause-begin
returns-in-None-clause-begin c = λ at lends size offset.
    let some = begin_is_field at in absurd (none-some some.0 (c.in-None.ensures.found some.0 (some.1 ∙ sym offset) (some.2 ∙ sym size)))

pub returns-in-None-clause-end : goal.returns-in-None-clause-end
returns-in-None-clause-end c = λ at lends size offset.
    let some = end_is_field at in absurd (none-some some.0 (c.in-None.ensures.found some.0 (some.1 ∙ sym offset) (some.2 ∙ sym size)))

pub returns-in-None-clause-floor : goal.returns-in-None-clause-floor
returns-in-None-clause-floor c = λ number.
    let some = number_is_field c.args.size c.args.offset number in absurd (none-some some.0 (c.in-None.ensures.found some.0 some.1 some.2))

pub returns-in-Some-clause-rule : goal.returns-in-Some-clause-rule
unfolding context_at
returns-in-Some-clause-rule c =
    let found : field_at c.args.offset c.args.size ≡ Some c.in-Some.field = subst (λ (n : ℕ). field_at n c.args.size ≡ Some c.in-Some.field) c.in-Some.ensures.begins.0 (subst (λ (z : Size). field_at (offset_of c.in-Some.field) z ≡ Some c.in-Some.field) c.in-Some.ensures.begins.1 (field_found c.in-Some.field)) in
    c.lent_field.ensures.rule ∙ sym (ap (λ (o : Option ContextField). option_map_or (lent_field c.args.profile) o (part_at c.args.profile c.args.offset c.args.size)) found)

pub returns-in-None-clause-rule : goal.returns-in-None-clause-rule
unfolding context_at
returns-in-None-clause-rule c =
    let none : field_at c.args.offset c.args.size ≡ None = field_none c.args.offset c.args.size (λ f at size. let is = c.in-None.ensures.found f at size in absurd (cc)) in
    c.part.ensures.rule ∙ sym (ap (λ (o : Option ContextField). option_map_or (lent_field c.args.profile) o (part_at c.args.profile c.args.offset c.args.size)) none)
