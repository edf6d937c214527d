use Rattle.std.proofs.Common.{◌≡◌, ◌∙◌, sym}
use Rattle.change_ops.specs.Ids.{within_limits}
use Rattle.change_ops.specs.Reading.{id_at, within, both, id_run_made}
use Rattle.change_ops.proofs.IdRunReading.{id_run_line}
use Rattle.change_ops.proofs.id_run_reading.id_run_of.Goals as goal

pub returns : goal.returns
returns c =
    let line = id_run_line c.args.peer c.args.room c.args.fields.now _ _ _ _ c.in_ok-id.ensures c.in_ok-first.ensures in
    let ids : c.both-ids.result ≡ both (within within_limits (id_at c.in_ok-id.id.now)) (within within_limits (id_at c.in_ok-first.first.now)) = cc in
    c.made_of.ensures ∙ (λ i. id_run_made c.args.peer c.args.room (c.number.ensures i) (ids i)) ∙ sym line
