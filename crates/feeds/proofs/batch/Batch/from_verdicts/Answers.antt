use Rattle.std.proofs.Common.{◌≡◌, ◌≤◌, length, arith, ap, sym, subst, ◌∙◌}
use Rattle.span_flatten.specs.Version.{Version}
use Rattle.feeds.specs.Batches.{Job, items_of}
use Rattle.feeds.specs.Verdicts.{verdicts_of}
use Rattle.feeds.proofs.Hits.{verdict_count, batch_whole}
use Rattle.feeds.proofs.batch.Batch.from_verdicts.Goals as goal

pub invariant_of-result : goal.invariant_of-result
invariant_of-result g c =
    let job : Job = c.args.job.now in
    let verdicts = c.args.verdicts.now in
    let are : verdicts ≡ verdicts_of job.program.value job.version.value = c.requires in
    let version : c.look-version.result.now ≡ job.version.value = c.look-version.ensures ∙ ap (λ (j : Job). j.version.value) c.job.view_is in
    let number = c.number-number.ensures ∙ ap (λ (v : Version). v.number) version in
    let spans : c.span_count-spans.result ≡ length job.version.value.rows = c.span_count-spans.ensures.value ∙ ap (λ (v : Version). length v.rows) version in
    let past : length verdicts ≤ c.loop-span.span = omega arith in
    let few : c.span_count-spans.result ≤ 131072 = omega (arith, c.span_count-spans.ensures.whole.limits.few, c.span_count-spans.ensures.value) in
    let count : length verdicts ≡ length job.version.value.rows = ap length are ∙ verdict_count job.program.value job.version.value in (
      subst (λ (j : Job). c.push_finding.new.items.items ≡ items_of j.program j.version) (sym c.again.ensures)
          (batch_whole c.loop-span.items.items c.push_finding.new.items.items job.program job.version verdicts c.number-number.result _ c.loop-span.span
          are number spans past c.loop-span.invariant.whole c.in_ok-push_finding.ensures.items),
      omega (arith, c.loop-span.invariant.few, c.in_ok-push_finding.ensures.few),
    )
