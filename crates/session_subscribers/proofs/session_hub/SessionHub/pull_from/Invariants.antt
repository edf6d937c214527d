use Rattle.std.proofs.Common.{◌≡◌, ◌+◌, ◌<◌, ◌≤◌, [], List, take, drop, string_bytes}
use Rattle.span_flatten.specs.Version.{Version}
use Rattle.version_history.specs.Tokens.{Token}
use Rattle.session_subscribers.specs.Items.{Gives}
use Rattle.session_subscribers.proofs.session_hub.SessionHub.pull_from.Given as goal

abbrev pub invariant-loop-version : goal.invariant-loop-version
invariant-loop-version g l = record {
  next : l.reader.next ≡ l.from + l.version-index;
  each : l.version-index ≤ l.given;
  most : l.given ≤ l.count;
  none : l.given < l.count → l.reader.pending ≡ [];
  gives : (all : List (Token Version)) → l.version-items ≡ take l.count (drop l.from all) → Gives all l.given l.fn.reader l.reader (string_bytes l.fn.out) (string_bytes l.out);
}
