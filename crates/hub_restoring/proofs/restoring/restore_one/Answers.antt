use Rattle.std.proofs.Common.{◌≡◌, ℕ, Ok, subst, arith}
use Rattle.change_ops.specs.Changes.{Change}
use Rattle.core_history.specs.Shares.{accepted_count}
use Rattle.ingest_workers.specs.Holdings.{Ingests}
use Rattle.hub_restoring.proofs.Growing.{only_change}
use Rattle.hub_restoring.proofs.restoring.restore_one.Goals as goal

pub returns-in-Ok : goal.returns-in-Ok
returns-in-Ok g c = λ change spelled.
    let read = c.in-Ok.ensures.call in
    let new = c.ingest.new.share in
    let same : read.0 ≡ change = only_change c.args.text.now read.0 change read.1 spelled in
    let numbered : c.in-Ok.number ≡ accepted_count new = omega (arith, c.if-number-count.true, c.count.ensures) in
    subst (λ (n : ℕ). Ingests g.N.Naming.size c.args.share.now change (Ok n) new) numbered
    (subst (λ (one : Change). Ingests g.N.Naming.size c.args.share.now one (Ok c.in-Ok.number) new) same read.2)
