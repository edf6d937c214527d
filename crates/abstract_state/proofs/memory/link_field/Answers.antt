use Rattle.std.proofs.Common.{Some, ℕ, length, refl, ap, subst, arith}
use Rattle.std.proofs.lemmas.Result.{IfOk-weaker}
use Rattle.span_context.specs.ContextField.{offset_of, size_of}
use Rattle.abstract_state.specs.declared.region.Region.TheVariants.{Link}
use Rattle.abstract_state.specs.Known.{WithinKnown}
use Rattle.abstract_state.specs.State.{lengths_of}
use Rattle.abstract_state.proofs.Memories.{link_begin, link_end, link_count}
use Rattle.abstract_state.proofs.memory.link_field.Goals as goal

pub returns-in-Link-clause-sound : goal.returns-in-Link-clause-sound
returns-in-Link-clause-sound c = λ span same.
    (_, refl, (0, link_begin span (size_of c.args.field) (offset_of c.args.field) same (ap size_of c.in-Link.is) (ap offset_of c.in-Link.is), c.begin.ensures.contains (lengths_of span)))

pub returns-in-LinkEnd-clause-sound : goal.returns-in-LinkEnd-clause-sound
returns-in-LinkEnd-clause-sound c = IfOk-weaker c.lent.result _ _
    (λ o h span same.
    let limit = span.whole.fits.link_short in
    subst (λ (n : ℕ). WithinKnown o (lengths_of span) n) (link_end span (size_of c.args.field) (offset_of c.args.field) same (ap size_of c.in-LinkEnd.is) (ap offset_of c.in-LinkEnd.is))
    (h (lengths_of span) (length span.bytes.link) (c.up_to_end.ensures.contains (lengths_of span) (length span.bytes.link) (omega arith) (omega arith))))
    c.lent.ensures.sound

pub returns-in-LinkLength-clause-sound : goal.returns-in-LinkLength-clause-sound
returns-in-LinkLength-clause-sound c = λ span same.
    let limit = span.whole.fits.link_short in
    subst (λ (n : ℕ). WithinKnown c.number.result (lengths_of span) n) (link_count span (size_of c.args.field) (offset_of c.args.field) same (ap size_of c.in-LinkLength.is) (ap offset_of c.in-LinkLength.is))
    (c.number.ensures.contains (lengths_of span) (length span.bytes.link) (c.up_to_end-in-LinkLength.ensures.contains (lengths_of span) (length span.bytes.link) (omega arith) (omega arith)))

pub returns-in-LinkEnd-clause-link_end : goal.returns-in-LinkEnd-clause-link_end
returns-in-LinkEnd-clause-link_end c = λ at. c.lent.ensures.there Link 0 1024 (Some 0) refl (c.up_to_end.ensures.is (omega arith)) (omega arith)

pub returns-in_default-clause-sound : goal.returns-in_default-clause-sound
returns-in_default-clause-sound c = IfOk-weaker c.text_field.result _ _ (λ o h span same. h span) c.text_field.ensures.sound
