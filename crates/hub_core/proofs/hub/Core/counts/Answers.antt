use Rattle.std.proofs.Common.{◌≡◌, ◌≤◌, length, arith, ap, ◌∙◌, subst}
use Rattle.std.specs.Prelude.{count_by}
use Rattle.change_ops.specs.declared.size.Size.{Size}
use Rattle.hub_core.specs.Counting.{AreCounts, AreWithinLimits, greatest_lag}
use Rattle.hub_core.specs.declared.counts.Counts.{Counts}
use Rattle.hub_core.specs.Machine.{Core, is_open}
use Rattle.hub_core.proofs.Opened.{open_count}
use Rattle.hub_core.proofs.hub.Core.counts.Goals as goal

pub returns-clause-counts : goal.returns-clause-counts
returns-clause-counts g c =
    let counts : Counts = record {
      changes = c.latest-changes.result;
      inserted = c.inserted.result;
      marks = c.mark_count.result;
      subscribers = c.len.result;
      subscribed = length c.as_slice-subscribers.result.now;
      lag = c.greatest_lag.result;
    } in
    let opened : c.len.result ≡ length c.self.inside.open.items = omega (arith, c.len.ensures) in
    subst (λ (z : Core g.row.S.Denot). AreCounts z counts) c.self.view_is (record {
      changes = c.latest-changes.ensures.value;
      inserted = c.inserted.ensures.count;
      marks = c.mark_count.ensures.count;
      subscribers = opened ∙ ap length c.self.invariant.2 ∙ open_count 0 c.self.inside.subscribers.items;
      subscribed = ap length c.as_slice-subscribers.ensures.value;
      lag = c.greatest_lag.ensures ∙ (λ i. greatest_lag (c.latest-changes.ensures.value i) (c.as_slice-subscribers.ensures.value i));
    })

pub returns-clause-few : goal.returns-clause-few
returns-clause-few g c =
    let counts : Counts = record {
      changes = c.latest-changes.result;
      inserted = c.inserted.result;
      marks = c.mark_count.result;
      subscribers = c.len.result;
      subscribed = length c.as_slice-subscribers.result.now;
      lag = c.greatest_lag.result;
    } in
    let sound = c.self.invariant.1 in
    let opened : c.len.result ≡ count_by is_open c.self.inside.subscribers.items =
    omega (arith, c.len.ensures, ap length c.self.invariant.2, open_count 0 c.self.inside.subscribers.items) in
    subst (λ (z : Size). AreWithinLimits z counts) c.self.invariant.0 (record {
      changes = omega (arith, c.latest-changes.ensures.value, sound.few);
      inserted = c.inserted.ensures.few;
      marks = c.mark_count.ensures.few;
      subscribers = omega (arith, opened, sound.few_open);
      subscribed = omega (arith, ap length c.as_slice-subscribers.ensures.value, sound.few_subscribers);
    })
