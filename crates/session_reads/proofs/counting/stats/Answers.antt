use Rattle.std.proofs.Common.{◌≡◌, subst}
use Rattle.change_ops.specs.declared.size.Size.{Size}
use Rattle.session_reads.specs.Counting.{stats_of}
use Rattle.session_reads.proofs.Counted.{limited, told}
use Rattle.session_reads.proofs.counting.stats.Goals as goal

pub returns : goal.returns
returns g c =
    let found = c.counts-latest.ensures.counts in
    let counts = c.counts-latest.result.1 in
    let latest = c.counts-latest.result.0 in
    let memory = c.memory_of-memory.result in
    let stats = subst (λ (size : Size). c.stats_of.result ≡ stats_of size counts c.look.result.now c.session_count.result c.lag.result memory) c.size.ensures c.stats_of.ensures in (
      found.0,
      found.1,
      record {
        counts = counts;
        counted = found.2.1;
        latest = latest;
        newest = found.2.0;
        told = told g.N.Naming.size c.stats_of.result counts c.look.result.now latest.value c.session_count.result c.lag.result memory stats c.look.ensures;
        limited = limited g.N.Naming.size c.stats_of.result counts c.look.result.now c.session_count.result c.lag.result memory c.args.limit stats c.memory_of-memory.ensures;
      },
    )
