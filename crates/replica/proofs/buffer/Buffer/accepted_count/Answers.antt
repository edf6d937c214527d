use Rattle.std.proofs.Common.{◌≡◌, [], length, ap, sym, ◌∙◌}
use Rattle.replica.specs.Buffers.{Buffered}
use Rattle.replica.proofs.Accepting.{length_behind}
use Rattle.replica.proofs.buffer.Buffer.accepted_count.Goals as goal

pub returns : goal.returns
returns c =
    let many : length c.args.self.now.accepted ≡ length c.self.inside.history.changes = ap (λ (b : Buffered). length b.accepted) (sym c.self.view_is) ∙ length_behind [] c.self.inside.history.changes in
    c.len.ensures.value ∙ sym many
