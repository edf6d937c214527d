use Rattle.std.proofs.Common.{◌≡◌, List, ℕ, sym, ap, ◌∙◌}
use Rattle.span_context.specs.Context.{span_bytes, context_bytes}
use Rattle.filters.specs.Filters.{whole_outcome}
use Rattle.filter_cases.specs.Marks.{facts_of, link_of}
use Rattle.hub_commands.proofs.filter_test.verdict.Goals as goal

pub returns : goal.returns
returns c =
    let case = c.args.case.now in
    let context : c.context.result ≡ context_bytes (facts_of case.marks case.text) = c.context.ensures.value in
    let text : c.as_bytes.result.now ≡ case.text = c.as_bytes.ensures.value ∙ c.text.ensures.value in
    let link : c.link.result.now ≡ link_of case.marks = c.link.ensures.value in
    sym (ap (λ (x : List ℕ × List ℕ × List ℕ). whole_outcome c.args.filter.now (span_bytes x.0 x.1 x.2)) (λ i. (context i, text i, link i))) ∙ c.run.ensures.verdict
