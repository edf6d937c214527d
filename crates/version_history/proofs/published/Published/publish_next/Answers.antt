use Rattle.std.proofs.Common.{ap}
use Rattle.span_flatten.specs.Version.{Version}
use Rattle.version_history.specs.Tokens.{Token}
use Rattle.version_history.proofs.Linked.{next_links}
use Rattle.version_history.proofs.published.Published.publish_next.Goals as goal

pub put-requires-clause-links : goal.put-requires-clause-links
put-requires-clause-links g c =
    let parts = c.into_parts-version in
    next_links c.before-2.inside.at.value c.args.before.now.value parts.result.0 c.args.next.version parts.result.1 c.args.next.alike c.span_count.result
    (ap (λ (t : Token Version). t.value) c.before-2.view_is) parts.ensures.0 parts.ensures.1 c.span_count.ensures.value c.before-2.invariant.1 c.requires.alike c.keep_links.ensures
