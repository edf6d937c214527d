-- Why a text begins with no change: the first fault by line, and in a line by order, told by the grammar.
use Rattle.std.specs.Prelude.{◌≡◌, ◌≢◌, ℕ, ◌+◌, ◌<◌, ◌⊎◌, ◌&&◌, List, [], ◌∷◌, ◌++◌, length, IsTrue}
use Rattle.std.specs.Prelude.{IsFalse}
use Rattle.std.specs.List.{AllByRecursion}
use Rattle.change_ops.specs.Lines.{first_id, line_within, line_has_characters}
use Rattle.change_ops.specs.Rooms.{whole_room, line_fits, room_behind, room_left}
use Rattle.change_ops.specs.Changes.{is_header}
use Rattle.change_ops.specs.Forms.{LineForm, HeaderForm}
use Rattle.change_ops.specs.declared.line.Form.{Form}
use Rattle.change_ops.specs.declared.line.Line.{Line as Spelled}
use Rattle.change_ops.specs.declared.room.Room.{Room}
use Rattle.change_ops.specs.declared.refusal.LineFault.{LineFault}
use Rattle.change_ops.specs.declared.refusal.LineFault.TheVariants as why
use Rattle.change_ops.specs.declared.refusal.ChangeError.{ChangeError}
use Rattle.change_ops.specs.declared.refusal.ChangeError.TheVariants.{BadLine, Truncated, Limit, CharRefused, WrongPeer}
use Rattle.change_ops.specs.declared.refusal.ChangeError.TheVariants.{OutOfMemory}

-- no LF, so no line that ends
abbrev pub IsUnended : List ℕ → Type 0
IsUnended text = AllByRecursion (λ b. b ≢ 10) text

-- a text's first line, and what follows its LF
pub record Line (text line rest : List ℕ) : Type 0 where
  pub whole : text ≡ line ++ 10 ∷ rest
  pub one : IsUnended line

-- A line of this peer's change is refused so, where the change has this form and this room: of no form, past the
-- limits or the room, no character, another's.
abbrev pub IsFaulty : Form → ℕ → Room → List ℕ → LineFault → Type 0
IsFaulty form peer room text why.BadLine = (line : Spelled) → LineForm form line text → ⊥
IsFaulty form peer room text why.Limit =
    (line : Spelled) × LineForm form line text × IsFalse (line_within line && line_fits room line)
IsFaulty form peer room text why.CharRefused =
    (line : Spelled) × LineForm form line text × IsTrue (line_within line && line_fits room line)
    × IsFalse (line_has_characters line)
IsFaulty form peer room text why.WrongPeer =
    (line : Spelled) × LineForm form line text × IsTrue (line_within line && line_fits room line)
    × IsTrue (line_has_characters line) × ((first_id line).node ≢ peer)
IsFaulty form peer room text why.OutOfMemory = ⊥

-- a change's first line is refused so
abbrev pub IsFaultyHeader : List ℕ → LineFault → Type 0
IsFaultyHeader line why.BadLine = (form : Form) (node count : ℕ) → HeaderForm form node count line → ⊥
IsFaultyHeader line why.Limit =
    (form : Form) × (node : ℕ) × (count : ℕ) × HeaderForm form node count line × IsFalse (is_header (form, node, count))
IsFaultyHeader line why.CharRefused = ⊥
IsFaultyHeader line why.WrongPeer = ⊥
IsFaultyHeader line why.OutOfMemory = ⊥

-- one line of this peer's change, which has this form and this room
pub record Accepted (form : Form) (peer : ℕ) (room : Room) (found : Spelled) (text rest : List ℕ) : Type 0 where
  pub line : List ℕ
  pub first : Line text line rest
  pub spelled : LineForm form found line
  pub within : IsTrue (line_within found && line_fits room found)
  pub characters : IsTrue (line_has_characters found)
  pub own : (first_id found).node ≡ peer

-- such lines, one behind the other
abbrev pub AcceptedLines : Form → ℕ → Room → List Spelled → List ℕ → List ℕ → Type 0
AcceptedLines form peer room [] text rest = text ≡ rest
AcceptedLines form peer room (found ∷ others) text rest =
    (behind : List ℕ) × Accepted form peer room found text behind
    × AcceptedLines form peer (room_behind room found) others behind rest

-- A change's line of this number is wanted, and all before it are accepted; what remains begins with it, and there is
-- this room left of the whole.
pub record Reached (text : List ℕ) (number : ℕ) (form : Form) (node : ℕ) (room : Room) (remains : List ℕ) : Type 0 where
  pub header : List ℕ
  pub rest : List ℕ
  pub count : ℕ
  pub first : Line text header rest
  pub spelled : HeaderForm form node count header
  pub within : IsTrue (is_header (form, node, count))
  pub before : List Spelled
  pub numbered : number ≡ length before + 2
  pub wanted : length before < count
  pub accepted : AcceptedLines form node whole_room before rest remains
  pub left : room ≡ room_left whole_room before

-- a fault of the line of this number
abbrev pub IsFaultAt : List ℕ → ℕ → LineFault → Type 0
IsFaultAt text number fault =
    ((number ≡ 1) × ((line : List ℕ) × (rest : List ℕ) × Line text line rest × IsFaultyHeader line fault))
    ⊎ ((form : Form) × (node : ℕ) × (room : Room) × (remains : List ℕ) × (line : List ℕ) × (rest : List ℕ)
    × Reached text number form node room remains × Line remains line rest × IsFaulty form node room line fault)

-- the refusal of a text that begins with no change
abbrev pub IsRefused : List ℕ → ChangeError → Type 0
IsRefused text (BadLine number) = IsFaultAt text number why.BadLine
IsRefused text Truncated =
    IsUnended text
    ⊎ ((number : ℕ) × (form : Form) × (node : ℕ) × (room : Room) × (remains : List ℕ)
    × Reached text number form node room remains × IsUnended remains)
IsRefused text (Limit number) = IsFaultAt text number why.Limit
IsRefused text (CharRefused number) = IsFaultAt text number why.CharRefused
IsRefused text (WrongPeer number) = IsFaultAt text number why.WrongPeer
IsRefused text OutOfMemory = ⊥
