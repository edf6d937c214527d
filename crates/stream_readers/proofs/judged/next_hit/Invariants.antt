use Rattle.std.proofs.Common.{◌≡◌, ℕ, drop}
use Rattle.feeds.specs.Batches.{hits_from}
use Rattle.stream_readers.proofs.judged.next_hit.Given as goal

abbrev pub invariant-loop-span : goal.invariant-loop-span
invariant-loop-span l = (number : ℕ) → hits_from number l.from (drop l.from l.verdicts) ≡ hits_from number l.span (drop l.span l.verdicts)
