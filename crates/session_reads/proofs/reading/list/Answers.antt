use Rattle.std.proofs.Common.{◌≡◌, length, take, drop, arith}
use Rattle.session_reads.proofs.Listing.{listed, as_many}
use Rattle.session_reads.proofs.reading.list.Goals as goal

pub returns-clause-ok : goal.returns-clause-ok
returns-clause-ok g c =
    let found = rw c.in-Some.is at c.in_ok-texts.ensures in
    let changes = take c.args.most (drop c.args.from found.0.changes) in
    let spelled = found.2.1 in
    let many = as_many c.in-Some.texts.items changes spelled in
    let count : c.len.result ≡ length changes = omega (arith, many, c.len.ensures) in
    (found.0, found.1, (found.2.0, (listed c.in-Some.texts.items changes spelled, count)))
