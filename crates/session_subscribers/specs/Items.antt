-- What a session prints of the items that it takes.
use Rattle.std.specs.Prelude.{◌≡◌, ℕ, ◌+◌, ◌≤◌, List, [], ◌∷◌, ◌++◌, length}
use Rattle.std.specs.List.{flat_map}
use Rattle.span_flatten.specs.Version.{Version}
use Rattle.version_history.specs.Tokens.{Token}
use Rattle.feeds.specs.declared.item.Finding.{Finding}
use Rattle.feeds.specs.declared.item.Finding.TheVariants as finding
use Rattle.feeds.specs.Batches.{Item}
use Rattle.stream_readers.specs.Readers.{Reader, Reads}
use Rattle.session_lines.specs.Replies.{reply_text}
use Rattle.session_lines.specs.declared.reply.Reply.{Reply}
use Rattle.session_lines.specs.declared.reply.Reply.TheVariants as reply

-- what is printed of a finding
abbrev pub item_reply : Finding → Reply
item_reply (finding.Hit version span verdict) = reply.Hit version span verdict
item_reply (finding.End version spans) = reply.End version spans

-- the line of an item, with its LF
abbrev pub item_line : Item → List ℕ
item_line item = reply_text (item_reply item.what) ++ 10 ∷ []

-- `count` of the items that a reader had were given, in order, and their lines appended in the same order
pub record Takes (count : ℕ) (r r' : Reader) (out out' : List ℕ) : Type 0 where
  pub items : List Item
  pub program : r'.program ≡ r.program
  pub next : r'.next ≡ r.next
  pub pending : r.pending ≡ items ++ r'.pending
  pub printed : out' ≡ out ++ flat_map item_line items
  pub many : length items ≡ count

-- no memory was found for the line of an item, or for the one after it: at most `most` items were given, and their
-- lines appended in the same order, each whole, but for the last item, which may have none
pub record TakesShort (most : ℕ) (r r' : Reader) (out out' : List ℕ) : Type 0 where
  pub shown : List Item
  pub unshown : List Item
  pub program : r'.program ≡ r.program
  pub next : r'.next ≡ r.next
  pub pending : r.pending ≡ (shown ++ unshown) ++ r'.pending
  pub printed : out' ≡ out ++ flat_map item_line shown
  pub few : length shown + length unshown ≤ most
  pub last : length unshown ≤ 1

-- `count` items were given, where these are all versions there are, and their lines appended in the same order
pub record Gives (all : List (Token Version)) (count : ℕ) (r r' : Reader) (out out' : List ℕ) : Type 0 where
  pub items : List Item
  pub reads : Reads all r items r'
  pub printed : out' ≡ out ++ flat_map item_line items
  pub many : length items ≡ count

-- the same, at most `most`, of which the last may have no line, since no memory was found
pub record GivesShort (all : List (Token Version)) (most : ℕ) (r r' : Reader) (out out' : List ℕ) : Type 0 where
  pub shown : List Item
  pub unshown : List Item
  pub reads : Reads all r (shown ++ unshown) r'
  pub printed : out' ≡ out ++ flat_map item_line shown
  pub few : length shown + length unshown ≤ most
  pub last : length unshown ≤ 1
