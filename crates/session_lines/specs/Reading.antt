-- Reading a line from left to right.
use Rattle.std.specs.Prelude.{ℕ, nat_le, ◌==◌, ◌&&◌, not, Bool, true, false, if◌then◌else◌, List, length}
use Rattle.std.specs.Prelude.{codes, Option, Some, None}
use Rattle.std.specs.List.{list_all}
use Rattle.std.specs.Str.{bytes_eq}
use Rattle.span_context.specs.declared.profile.Profile.TheVariants.{One, Two, Three}
use Rattle.filters.specs.declared.rules.RuleSet.{RuleSet}
use Rattle.filters.specs.declared.rules.RuleSet.TheVariants.{Straight, Looping}
use Rattle.change_ops.specs.Words.{split, number_in, small}
use Rattle.change_ops.specs.Reading.{◌>>=◌}
use Rattle.session_lines.specs.Commands.{Command, subscribe, pull, close, read}
use Rattle.session_lines.specs.declared.commands.LentCommand.{LentCommand}
use Rattle.session_lines.specs.declared.commands.LentCommand.TheVariants.{Subscribe, Pull, Close, Read}
use Rattle.session_lines.specs.declared.query.Query.{Query}
use Rattle.session_lines.specs.declared.query.Query.TheVariants.{Latest, Left, Hub, Stats, Show, Changes, Newest}

abbrev pub is_count : ℕ → Bool
is_count n = nat_le 1 n && nat_le n 1024

abbrev pub is_few_changes : ℕ → Bool
is_few_changes n = nat_le 1 n && nat_le n 64

abbrev pub is_one_word : List ℕ → Bool
is_one_word word = nat_le 1 (length word) && list_all (λ b. not (b == 32)) word

-- what a line says, as it is read
abbrev pub said : LentCommand → Command
said (Subscribe rules capacity digits first) = subscribe rules capacity digits.now first
said (Pull subscriber count) = pull subscriber count
said (Close subscriber) = close subscriber
said (Read query) = read query

unfoldable pub from_at : RuleSet → ℕ → List ℕ → Option Command
from_at rules capacity text = do
  parts ← split 32 text
  more ← split 32 parts.1
  first ← small (number_in 10 more.1)
  if is_one_word parts.0 && bytes_eq more.0 (codes "from") then Some (subscribe rules capacity parts.0 (Some first))
      else None

abbrev pub program_at : RuleSet → ℕ → List ℕ → Option Command
program_at rules capacity text =
    if is_one_word text then Some (subscribe rules capacity text None) else from_at rules capacity text

unfoldable pub subscribe_at : RuleSet → List ℕ → Option Command
subscribe_at rules fields = do
  parts ← split 32 fields
  capacity ← small (number_in 10 parts.0)
  program_at rules capacity parts.1

unfoldable pub pull_at : List ℕ → Option Command
pull_at fields = do
  parts ← split 32 fields
  subscriber ← small (number_in 10 parts.0)
  count ← small (number_in 10 parts.1)
  if is_count count then Some (pull subscriber count) else None

unfoldable pub close_at : List ℕ → Option Command
close_at fields = do
  subscriber ← small (number_in 10 fields)
  Some (close subscriber)

unfoldable pub show_at : Bool → List ℕ → Option Command
show_at further fields = do
  parts ← split 32 fields
  more ← split 32 parts.1
  version ← small (number_in 10 parts.0)
  first ← small (number_in 10 more.0)
  count ← small (number_in 10 more.1)
  if is_count count then Some (read (Show version first count further)) else None

unfoldable pub changes_at : List ℕ → Option Command
changes_at fields = do
  parts ← split 32 fields
  from ← small (number_in 10 parts.0)
  count ← small (number_in 10 parts.1)
  if is_few_changes count then Some (read (Changes from count)) else None

unfoldable pub newest_at : List ℕ → Option Command
newest_at fields = do
  node ← small (number_in 10 fields)
  Some (read (Newest node))

-- what a line of several words says that asks to read
abbrev pub query_at : List ℕ → List ℕ → Option Command
query_at name fields = if bytes_eq name (codes "show") then show_at false fields else
    if bytes_eq name (codes "show3") then show_at true fields else
    if bytes_eq name (codes "changes") then changes_at fields else
    if bytes_eq name (codes "newest") then newest_at fields else None

-- what a line of several words says, if it has a form
unfoldable pub words_at : List ℕ → Option Command
words_at line = do
  parts ← split 32 line
  if bytes_eq parts.0 (codes "sub") then subscribe_at (Straight One) parts.1 else
      if bytes_eq parts.0 (codes "sub2") then subscribe_at (Straight Two) parts.1 else
      if bytes_eq parts.0 (codes "sub3") then subscribe_at (Straight Three) parts.1 else
      if bytes_eq parts.0 (codes "sub4") then subscribe_at Looping parts.1 else
      if bytes_eq parts.0 (codes "pull") then pull_at parts.1 else
      if bytes_eq parts.0 (codes "close") then close_at parts.1 else query_at parts.0 parts.1

-- what a line of one word says
abbrev pub alone_at : List ℕ → Option Query
alone_at line = if bytes_eq line (codes "latest") then Some Latest else
    if bytes_eq line (codes "left") then Some Left else
    if bytes_eq line (codes "hub") then Some Hub else
    if bytes_eq line (codes "stats") then Some Stats else None

-- the first, if there is one, and else the second
abbrev pub either_of : Option Query → Option Command → Option Command
either_of (Some query) other = Some (read query)
either_of None other = other

-- what a line says, if it has a form
unfoldable pub command_at : List ℕ → Option Command
command_at line = either_of (alone_at line) (words_at line)
