use Rattle.std.proofs.Common.{◌∙◌, sym}
use Rattle.span_flatten.specs.Version.{spans_of}
use Rattle.version_history.proofs.Linked.{all_links, as_many}
use Rattle.version_history.proofs.published.Published.publish.Goals as goal

pub put-requires-clause-links : goal.put-requires-clause-links
put-requires-clause-links g c =
    all_links (spans_of c.args.version) c.span_count.result (c.span_count.ensures.value ∙ sym (as_many c.args.version)) c.keep_links.ensures
