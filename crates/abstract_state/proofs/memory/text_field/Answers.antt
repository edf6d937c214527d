use Rattle.std.proofs.Common.{Some, ℕ, ◌^◌, length, refl, ap, subst, arith}
use Rattle.std.proofs.lemmas.Result.{IfOk-weaker}
use Rattle.span_context.specs.ContextField.{offset_of, size_of}
use Rattle.span_context.specs.declared.size.Size.{Size}
use Rattle.semantics.specs.Memory.{bytes_in}
use Rattle.abstract_state.specs.declared.region.Region.TheVariants.{Text}
use Rattle.abstract_state.specs.Known.{WithinKnown}
use Rattle.abstract_state.specs.State.{lengths_of}
use Rattle.abstract_state.proofs.Memories.{number_fits, field_begin, field_end, field_count}
use Rattle.abstract_state.proofs.Fields.{plain_between}
use Rattle.abstract_state.proofs.memory.text_field.Goals as goal

pub returns-in-Text-clause-sound : goal.returns-in-Text-clause-sound
returns-in-Text-clause-sound c = λ span.
    (_, refl, (0, field_begin span (size_of c.args.field) (offset_of c.args.field) (ap size_of c.in-Text.is) (ap offset_of c.in-Text.is), c.begin.ensures.contains (lengths_of span)))

pub returns-in-End-clause-sound : goal.returns-in-End-clause-sound
returns-in-End-clause-sound c = IfOk-weaker c.lent.result _ _
    (λ o h span.
    let limit = span.whole.fits.short in
    subst (λ (n : ℕ). WithinKnown o (lengths_of span) n) (field_end span (size_of c.args.field) (offset_of c.args.field) (ap size_of c.in-End.is) (ap offset_of c.in-End.is))
    (h (lengths_of span) (length span.bytes.text) (c.up_to_end.ensures.contains (lengths_of span) (length span.bytes.text) (omega arith) (omega arith))))
    c.lent.ensures.sound

pub returns-in-Length-clause-sound : goal.returns-in-Length-clause-sound
returns-in-Length-clause-sound c = λ span.
    let limit = span.whole.fits.short in
    subst (λ (n : ℕ). WithinKnown c.number.result (lengths_of span) n) (field_count span (size_of c.args.field) (offset_of c.args.field) (ap size_of c.in-Length.is) (ap offset_of c.in-Length.is))
    (c.number.ensures.contains (lengths_of span) (length span.bytes.text) (c.up_to_end-in-Length.ensures.contains (lengths_of span) (length span.bytes.text) (omega arith) (omega arith)))

pub returns-in-End-clause-end : goal.returns-in-End-clause-end
returns-in-End-clause-end c = λ at. c.lent.ensures.there Text 0 131072 (Some 0) refl (c.up_to_end.ensures.is (omega arith)) (omega arith)

pub returns-in-Characters-clause-within : goal.returns-in-Characters-clause-within
returns-in-Characters-clause-within c = (plain_between c.args.field c.in-Characters.is).within

pub returns-in-Characters-clause-sound : goal.returns-in-Characters-clause-sound
returns-in-Characters-clause-sound c = λ span.
    let sized = ap (λ (z : Size). 256 ^ bytes_in z) c.size.ensures in
    let fits = number_fits (bytes_in (size_of c.args.field)) (offset_of c.args.field) span.bytes.context span.whole.context_bytes in
    (_, refl, c.loaded.ensures.contains (lengths_of span) _ (omega (arith, sized, fits)))

pub returns-in-Characters-clause-begin : goal.returns-in-Characters-clause-begin
returns-in-Characters-clause-begin c = λ at.
    let behind = (plain_between c.args.field c.in-Characters.is).behind in
    let none : ⊥ = omega (arith, at, behind) in absurd none

pub returns-in-Characters-clause-end : goal.returns-in-Characters-clause-end
returns-in-Characters-clause-end c = λ at.
    let behind = (plain_between c.args.field c.in-Characters.is).behind in
    let none : ⊥ = omega (arith, at, behind) in absurd none
