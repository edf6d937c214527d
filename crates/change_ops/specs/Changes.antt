-- Reading a change from left to right, with the first fault that is met.
use Rattle.std.specs.Prelude.{◌≡◌, ℕ, zero, suc, ◌+◌, ◌≤◌, nat_le, ◌&&◌, if◌then◌else◌, Bool, List, [], ◌∷◌}
use Rattle.std.specs.Prelude.{length, Option, Some, None, Result, Ok, Err, IsTrue}
use Rattle.std.specs.List.{AllByRecursion}
use Rattle.change_ops.specs.Ids.{is_node}
use Rattle.change_ops.specs.Words.{split}
use Rattle.change_ops.specs.Lines.{ops_of_lines, count_of_lines, first_id, line_within, line_has_characters, has_line}
use Rattle.change_ops.specs.Rooms.{whole_room, room_behind}
use Rattle.change_ops.specs.Reading.{header_at, line_in, line_verdict}
use Rattle.change_ops.specs.declared.operation.Op.{Op}
use Rattle.change_ops.specs.declared.line.Form.{Form}
use Rattle.change_ops.specs.declared.line.Line.{Line}
use Rattle.change_ops.specs.declared.room.Room.{Room}
use Rattle.change_ops.specs.declared.refusal.LineFault.{LineFault}
use Rattle.change_ops.specs.declared.refusal.LineFault.TheVariants as line
use Rattle.change_ops.specs.declared.refusal.ChangeError.{ChangeError}
use Rattle.change_ops.specs.declared.refusal.ChangeError.TheVariants.{BadLine, Truncated, Limit, CharRefused, WrongPeer}
use Rattle.change_ops.specs.declared.refusal.ChangeError.TheVariants.{OutOfMemory}

-- a change: its form, its peer's node, and its lines
pub record Change : Type 0 where
  pub form : Form
  pub node : ℕ
  pub lines : List Line

-- the operations that its lines mean
abbrev pub operations : Change → List Op
operations change = ops_of_lines change.lines

infixl 10 ◌>>=◌
abbrev pub ◌>>=◌ : {A B : Type 0} → Result A ChangeError → (A → Result B ChangeError) → Result B ChangeError
(Ok x) >>= f = f x
(Err e) >>= f = Err e

-- What a function returned, seen by view, is what reading gives, unless memory ran out.
abbrev pub Fails : {Y : Type 0} → ChangeError → Result Y ChangeError → Type 0
Fails OutOfMemory read = Unit {0}
Fails (BadLine n) read = read ≡ Err (BadLine n)
Fails Truncated read = read ≡ Err Truncated
Fails (Limit n) read = read ≡ Err (Limit n)
Fails (CharRefused n) read = read ≡ Err (CharRefused n)
Fails (WrongPeer n) read = read ≡ Err (WrongPeer n)

abbrev pub Gives : {X Y : Type 0} → (X → Y) → Result X ChangeError → Result Y ChangeError → Type 0
Gives view (Ok x) read = read ≡ Ok (view x)
Gives view (Err e) read = Fails e read

-- a fault and its line
abbrev pub at_line : ℕ → LineFault → ChangeError
at_line n line.BadLine = BadLine n
at_line n line.Limit = Limit n
at_line n line.CharRefused = CharRefused n
at_line n line.WrongPeer = WrongPeer n
at_line n line.OutOfMemory = OutOfMemory

abbrev pub lined : {A : Type 0} → ℕ → Result A LineFault → Result A ChangeError
lined n (Ok x) = Ok x
lined n (Err fault) = Err (at_line n fault)

abbrev pub ended : Option (List ℕ × List ℕ) → Result (List ℕ × List ℕ) ChangeError
ended None = Err Truncated
ended (Some parts) = Ok parts

-- the line of number `n` of a change with this room, and what follows the line
unfoldable pub next_at : Form → ℕ → Room → ℕ → List ℕ → Result (Line × List ℕ) ChangeError
next_at form peer room n bytes = do
  parts ← ended (split 10 bytes)
  found ← lined n (line_verdict peer room (line_in form parts.0))
  Ok (found, parts.1)

-- `count` lines, the first with the number `n`, in this room
unfoldable pub lines_at : Form → ℕ → Room → ℕ → ℕ → List ℕ → Result (List Line × List ℕ) ChangeError
lines_at form peer room n zero bytes = Ok ([], bytes)
lines_at form peer room n (suc count) bytes = do
  first ← next_at form peer room n bytes
  others ← lines_at form peer (room_behind room first.0) (n + 1) count first.1
  Ok (first.0 ∷ others.0, others.1)

-- form, node and count, and the limits of these
abbrev pub Header : Type 0
Header = Form × ℕ × ℕ

abbrev pub is_header : Header → Bool
is_header h = is_node h.1 && nat_le 1 h.2 && nat_le h.2 256

abbrev pub limited_header : Header → Option Header
limited_header h = if is_header h then Some h else None

abbrev pub within_header : Option Header → Result Header LineFault
within_header None = Err line.Limit
within_header (Some h) = Ok h

abbrev pub header_verdict : Option Header → Result Header LineFault
header_verdict None = Err line.BadLine
header_verdict (Some h) = within_header (limited_header h)

-- the change at the front of a text, and what follows it
unfoldable pub change_at : List ℕ → Result (Change × List ℕ) ChangeError
change_at bytes = do
  parts ← ended (split 10 bytes)
  header ← lined 1 (header_verdict (header_at parts.0))
  found ← lines_at header.0 header.1 whole_room 2 header.2 parts.1
  Ok (record { form = header.0; node = header.1; lines = found.0 }, found.1)

-- a line of this peer's change, of the change's form and within the limits
pub record IsLine (form : Form) (peer : ℕ) (found : Line) : Type 0 where
  pub own : (first_id found).node ≡ peer
  pub within : IsTrue (line_within found)
  pub characters : IsTrue (line_has_characters found)
  pub formed : IsTrue (has_line form found)

-- a change within the limits, whose lines are its peer's
pub record IsChange (change : Change) : Type 0 where
  pub named : 1 ≤ change.node
  pub known : change.node ≤ 65535
  pub some : 1 ≤ length change.lines
  pub few : count_of_lines change.lines ≤ 256
  pub meant : length (operations change) ≤ 262144
  pub lines : AllByRecursion (IsLine change.form change.node) change.lines

-- `count` lines of this peer, for which there is room
pub record OwnLines (form : Form) (peer : ℕ) (room : Room) (count : ℕ) (found : List Line) : Type 0 where
  pub counted : length found ≡ count
  pub few : count_of_lines found ≤ room.operations
  pub meant : length (ops_of_lines found) ≤ room.meant
  pub lines : AllByRecursion (IsLine form peer) found
