use Rattle.std.proofs.Common.{rules, ◌≡◌, map}
use Rattle.feeds.specs.Batches.{item_of}
use Rattle.stream_readers.proofs.Judging.{pending_given}
use Rattle.stream_readers.proofs.reader.StreamReader.next_finding.Goals as goal

pub returns-clause-pending : goal.returns-clause-pending
returns-clause-pending g c =
    let judged = c.in_ok-judged.judged.now in
    let before : c.args.self.now.pending ≡ map (item_of c.self.inside.program judged.version) judged.pending = search rules in
    pending_given c.next.result c.self.inside.program judged.version c.next.new.self.version judged.pending c.next.new.self.pending c.args.self.now.pending c.next.ensures.same.0 before c.next.ensures.pending
