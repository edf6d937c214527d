use Rattle.std.proofs.Common.{◌≡◌, ◌∙◌, ℕ, List, IfOk, ap, subst}
use Rattle.feeds.specs.Batches.{Job}
use Rattle.feeds.specs.Verdicts.{verdicts_of}
use Rattle.stream_readers.proofs.Indexes.{whole}
use Rattle.stream_readers.proofs.verdicts.verdicts.Goals as goal

pub returns-in-None : goal.returns-in-None
returns-in-None g c =
    let job : Job = c.args.job.now in
    let program : c.program-program.result.now ≡ job.program.value = c.program-program.ensures ∙ ap (λ (j : Job). j.program.value) c.job.view_is in
    let version : c.look-version.result.now ≡ job.version.value = c.look-version.ensures ∙ ap (λ (j : Job). j.version.value) c.job.view_is in
    let all = whole c.program-program.result.now c.look-version.result.now c.span_count-count.result c.span_count-count.ensures.value in
    let named : verdicts_of c.program-program.result.now c.look-version.result.now ≡ verdicts_of job.program.value job.version.value =
    λ i. verdicts_of (program i) (version i) in
    subst (λ (l : List ℕ). IfOk c.verdicts_between.result (λ found. found.items ≡ l)) (all ∙ named) c.verdicts_between.ensures
