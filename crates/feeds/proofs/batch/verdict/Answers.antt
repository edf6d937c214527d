use Rattle.std.proofs.Common.{◌≡◌, ◌∙◌, ap, refl, sym, subst}
use Rattle.span_context.specs.Context.{SpanBytes, span_bytes}
use Rattle.program_reads.specs.Reads.{AgreesOn}
use Rattle.span_view.specs.Views.{SpanView}
use Rattle.span_view.specs.ContextOf.{bytes_of, context_of, link_of}
use Rattle.feeds.proofs.Hits.{verdict_is}
use Rattle.feeds.proofs.batch.verdict.Goals as goal

pub returns-clause-alike : goal.returns-clause-alike
returns-clause-alike c = λ reads other determines lent agrees.
    let text : c.args.span.now.text ≡ c.as_bytes.result.now = sym (ap (λ (span : SpanView). span.text) c.span.view_is) ∙ sym c.as_bytes.ensures.value in
    let here : bytes_of c.args.span.now ≡ span_bytes c.context.result c.as_bytes.result.now c.link.result.now = λ i. span_bytes (sym c.context.ensures.value i) (text i) (sym c.link.ensures.value i) in
    verdict_is c.args.program.now other (context_of other) other.text (link_of other) c.run.result refl refl refl
    (c.run.ensures.alike reads (bytes_of other) determines lent (subst (λ (bytes : SpanBytes). AgreesOn reads bytes (bytes_of other)) here agrees))
