use Rattle.std.proofs.Common.{◌≡◌, length, subst}
use Rattle.change_ops.specs.declared.size.Size.{Size}
use Rattle.session_reads.specs.Counting.{left_of}
use Rattle.session_reads.proofs.Counted.{left_told}
use Rattle.session_reads.proofs.counting.left.Goals as goal

pub returns : goal.returns
returns g c =
    let found = c.counts-latest.ensures.counts in
    let counts = c.counts-latest.result.1 in
    let latest = c.counts-latest.result.0 in
    let left = subst (λ (size : Size). c.left_of.result ≡ left_of size counts c.text_bytes-bytes.result) c.size.ensures c.left_of.ensures in (
      found.0,
      found.1,
      record {
        counts = counts;
        counted = found.2.1;
        latest = latest;
        newest = found.2.0;
        told = left_told g.N.Naming.size c.left_of.result counts c.look.result.now latest.value c.text_bytes-bytes.result left c.text_bytes-bytes.ensures.value c.look.ensures;
      },
    )
