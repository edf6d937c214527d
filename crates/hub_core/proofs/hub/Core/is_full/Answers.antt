use Rattle.std.proofs.Common.{◌≡◌, ◌<◌, length, arith, ap, ◌∙◌}
use Rattle.std.specs.Prelude.{count_by}
use Rattle.change_ops.specs.Sizes.{most_subscribers, most_open}
use Rattle.hub_core.specs.Machine.{is_open}
use Rattle.hub_core.proofs.Opened.{open_count}
use Rattle.hub_core.proofs.Places.{full_by_open}
use Rattle.hub_core.proofs.hub.Core.is_full.Goals as goal

pub returns-else-len-subscribers : goal.returns-else-len-subscribers
returns-else-len-subscribers g c =
    let limit = c.subscribers.ensures ∙ ap most_subscribers c.size-size.ensures in
    let fewer : length c.self.inside.subscribers.items < most_subscribers c.self.inside.history.size = omega (arith, limit) in
    let counted : c.len-else-len-subscribers.result ≡ count_by is_open c.self.inside.subscribers.items =
    omega (arith, c.len-else-len-subscribers.ensures, ap length c.self.invariant.2, open_count 0 c.self.inside.subscribers.items) in
    full_by_open c.args.self.now _ c.len-else-len-subscribers.result c.open_subscribers.result c.self.view_is fewer counted (c.open_subscribers.ensures ∙ ap most_open c.size-size.ensures)
