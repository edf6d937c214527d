use Rattle.std.proofs.Common.{◌≡◌, ◌++◌, drop, map, vec_len}
use Rattle.span_flatten.specs.Version.{spans_of}
use Rattle.span_view.specs.Views.{views}
use Rattle.feeds.specs.Verdicts.{verdict_on, verdicts_of}
use Rattle.feeds.proofs.batch.verdicts.Given as goal

abbrev pub invariant-loop-span : goal.invariant-loop-span
invariant-loop-span l = record {
  left : l.span-iterator ≡ drop (vec_len l.found) (spans_of l.version);
  whole : l.found.items ++ map (verdict_on l.program) (drop (vec_len l.found) (views l.version)) ≡ verdicts_of l.program l.version;
}
