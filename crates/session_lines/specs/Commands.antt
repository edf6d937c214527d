-- What a line of a session asks for, other than a change's.
use Rattle.std.specs.Prelude.{◌≡◌, ◌≢◌, ℕ, ◌^◌, ◌<◌, ◌≤◌, Bool, true, false, List, length, codes}
use Rattle.std.specs.Prelude.{Option, None, Some, Result, Ok, Err}
use Rattle.std.specs.List.{AllByRecursion}
use Rattle.hex.specs.Hex.{decode_of}
use Rattle.hex.specs.declared.error.FromHexError.{FromHexError}
use Rattle.span_context.specs.declared.profile.Profile.TheVariants.{One, Two, Three}
use Rattle.filters.specs.declared.rules.RuleSet.{RuleSet}
use Rattle.filters.specs.declared.rules.RuleSet.TheVariants.{Straight, Looping}
use Rattle.change_ops.specs.Forms.{Numeral, Word, ◌⎵◌}
use Rattle.session_lines.specs.declared.request.SessionRequest.{SessionRequest}
use Rattle.session_lines.specs.declared.request.SessionRequest.TheVariants.{Subscribe, Pull, Close, Read}
use Rattle.session_lines.specs.declared.query.Query.{Query}
use Rattle.session_lines.specs.declared.query.Query.TheVariants.{Latest, Left, Hub, Stats, Show, Changes, Newest}
use Rattle.session_lines.specs.declared.fault.LineRefusal.{LineRefusal}
use Rattle.session_lines.specs.declared.fault.LineRefusal.TheVariants.{BadCommand, BadCapacity, BadHex, OutOfMemory}

-- what a line says; a subscription is of a program that these rules accept, and from the latest version on, or from the
-- one that it names
pub data Command : Type 0 where
  subscribe : (rules : RuleSet) (capacity : ℕ) (digits : List ℕ) (first : Option ℕ) → Command
  pull : (subscriber count : ℕ) → Command
  close : (subscriber : ℕ) → Command
  read : (query : Query) → Command

-- a number of 64 bits, in decimal
pub record Number (n : ℕ) (word : List ℕ) : Type 0 where
  pub numeral : Numeral 10 n word
  pub small : n < 2 ^ 64

-- 1 to 1,024: the room in a subscriber's queue, and what can be pulled at once
pub record IsCount (n : ℕ) : Type 0 where
  pub some : 1 ≤ n
  pub few : n ≤ 1024

pub record Count (n : ℕ) (word : List ℕ) : Type 0 where
  pub number : Number n word
  pub limits : IsCount n

-- 1 to 64: how many changes can be read at once
pub record IsFewChanges (n : ℕ) : Type 0 where
  pub some : 1 ≤ n
  pub few : n ≤ 64

pub record FewChanges (n : ℕ) (word : List ℕ) : Type 0 where
  pub number : Number n word
  pub limits : IsFewChanges n

-- at least one byte, and no space
pub record OneWord (digits word : List ℕ) : Type 0 where
  pub whole : word ≡ digits
  pub some : 1 ≤ length digits
  pub one : AllByRecursion (λ b. b ≢ 32) digits

-- the word for a subscription
abbrev pub name_of : RuleSet → List ℕ
name_of (Straight One) = codes "sub"
name_of (Straight Two) = codes "sub2"
name_of (Straight Three) = codes "sub3"
name_of Looping = codes "sub4"

-- the word for a look at spans, without or with the keys of the third form of changes
abbrev pub show_word : Bool → List ℕ
show_word false = codes "show"
show_word true = codes "show3"

-- a line, without its LF
abbrev pub CommandForm : Command → List ℕ → Type 0
CommandForm (subscribe rules capacity digits None) = Word (name_of rules) ⎵ Number capacity ⎵ OneWord digits
CommandForm (subscribe rules capacity digits (Some first)) =
    Word (name_of rules) ⎵ Number capacity ⎵ OneWord digits ⎵ Word (codes "from") ⎵ Number first
CommandForm (pull subscriber count) = Word (codes "pull") ⎵ Number subscriber ⎵ Count count
CommandForm (close subscriber) = Word (codes "close") ⎵ Number subscriber
CommandForm (read Latest) = Word (codes "latest")
CommandForm (read Left) = Word (codes "left")
CommandForm (read Hub) = Word (codes "hub")
CommandForm (read Stats) = Word (codes "stats")
CommandForm (read (Show version first count further)) =
    Word (show_word further) ⎵ Number version ⎵ Number first ⎵ Count count
CommandForm (read (Changes from count)) = Word (codes "changes") ⎵ Number from ⎵ FewChanges count
CommandForm (read (Newest node)) = Word (codes "newest") ⎵ Number node

-- What is asked for by what a line says, or why it is refused; the capacity is looked at before the digits.
abbrev pub Grants : Command → Result SessionRequest LineRefusal → Type 0
Grants (subscribe rules capacity digits first) (Ok (Subscribe reads room program from)) =
    (reads ≡ rules) × (room ≡ capacity) × IsCount capacity × (decode_of digits ≡ Ok program.items) × (from ≡ first)
Grants (subscribe rules capacity digits first) (Err BadCapacity) = ¬ (IsCount capacity)
Grants (subscribe rules capacity digits first) (Err BadHex) =
    IsCount capacity × ((error : FromHexError) × (decode_of digits ≡ Err error))
Grants (subscribe rules capacity digits first) (Err OutOfMemory) = IsCount capacity
Grants (pull subscriber count) (Ok (Pull id most)) = (id ≡ subscriber) × (most ≡ count)
Grants (close subscriber) (Ok (Close id)) = id ≡ subscriber
Grants (read query) (Ok (Read asked)) = asked ≡ query
Grants command answer = ⊥

-- a line that begins no change is answered so
abbrev pub IsAsked : List ℕ → Result SessionRequest LineRefusal → Type 0
IsAsked line (Err BadCommand) = (command : Command) → CommandForm command line → ⊥
IsAsked line answer = (command : Command) × CommandForm command line × Grants command answer
