use Rattle.std.proofs.Common.{rules}
use Rattle.std.proofs.lemmas.List.Sorted.{IsNonDecreasingBy-from_sort, answers_always}
use Rattle.version_windows.specs.Joined.{low_of}
use Rattle.version_windows.proofs.ranges.by_low.Goals as goal

pub returns-clause-sorted : goal.returns-clause-sorted
returns-clause-sorted c =
    IsNonDecreasingBy-from_sort low_of c.sort_unstable_by_key.new.self.items
    (c.sort_unstable_by_key.ensures.sorted low_of (answers_always _ _ _ (λ f a r q k. search rules)))
