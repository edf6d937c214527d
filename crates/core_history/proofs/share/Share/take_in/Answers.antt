use Rattle.std.proofs.Common.{◌+◌, arith, ap, sym, ◌∙◌, subst}
use Rattle.subscriber_queues.specs.Queue.{was_sent, IsFull, closed_end, unsent}
use Rattle.call_history.specs.Calls.{AreDistinct}
use Rattle.core_history.specs.Runs.{IsLegal}
use Rattle.core_history.specs.Shares.{Counts, accepted_count}
use Rattle.core_history.proofs.Counting.{few_counted, counts_both}
use Rattle.core_history.proofs.share.Share.take_in.Goals as goal

pub overflow_add-self : goal.overflow_add-self
overflow_add-self g c =
    let same = c.has_distinct_places.ensures.same in
    let distinct = subst (λ w. AreDistinct w.own) same c.has_distinct_places.ensures.distinct in
    let both = counts_both (IsLegal g.N.Naming.size was_sent IsFull closed_end unsent) _ _ _ _ _ c.self.invariant c.other.invariant c.take_in.ensures.me distinct in
    omega (arith, few_counted g.N.Naming.size was_sent IsFull closed_end unsent _ _ both c.take_in.ensures.me.legal)

pub invariant_of-self : goal.invariant_of-self
invariant_of-self g c =
    let same = c.has_distinct_places.ensures.same in
    let distinct = subst (λ w. AreDistinct w.own) same c.has_distinct_places.ensures.distinct in
    let both = counts_both (IsLegal g.N.Naming.size was_sent IsFull closed_end unsent) _ _ _ _ _ c.self.invariant c.other.invariant c.take_in.ensures.me distinct in
    subst (Counts (c.self.inside.count + c.other.inside.count)) (sym same) both

pub returns-clause-count : goal.returns-clause-count
returns-clause-count g c =
    let same = c.has_distinct_places.ensures.same in
    let distinct = subst (λ w. AreDistinct w.own) same c.has_distinct_places.ensures.distinct in
    let both = counts_both (IsLegal g.N.Naming.size was_sent IsFull closed_end unsent) _ _ _ _ _ c.self.invariant c.other.invariant c.take_in.ensures.me distinct in
    let mine = c.self.invariant.accepted ∙ ap accepted_count c.self.view_is in
    let theirs = c.other.invariant.accepted ∙ ap accepted_count c.other.view_is in
    let now = ap accepted_count same ∙ sym both.accepted in
    omega (arith, mine, theirs, now)
