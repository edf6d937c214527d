-- A text that begins with no change begins with none whatever is appended, where a line feed isn't all that is missing.
use Rattle.std.proofs.Common.{◌≡◌, ◌≢◌, ◌⊎◌, ℕ, List, [], ◌∷◌, ◌++◌, refl, ap, ◌∙◌, append_assoc, inl, inr}
use Rattle.change_ops.specs.Changes.{Change}
use Rattle.change_ops.specs.Spelling.{change_text, Spells}
use Rattle.change_ops.specs.Rooms.{whole_room, room_behind}
use Rattle.change_ops.specs.Refusals.{Line, Accepted, AcceptedLines, Reached, IsRefused}
use Rattle.change_ops.specs.declared.line.Form.{Form}
use Rattle.change_ops.specs.declared.line.Line.{Line as Spelled}
use Rattle.change_ops.specs.declared.refusal.ChangeError.{ChangeError}
use Rattle.change_ops.specs.declared.refusal.ChangeError.TheVariants.{BadLine, Truncated, Limit, CharRefused, WrongPeer, OutOfMemory}

module _ (more : List ℕ) where
  line_more : (text line rest : List ℕ) → Line text line rest → Line (text ++ more) line (rest ++ more)
  line_more text line rest l = record { whole = ap (λ (t : List ℕ). t ++ more) l.whole ∙ append_assoc line (10 ∷ rest) more; one = l.one }

  accepted_more : (form : Form) (peer : ℕ) (room : _) (found : Spelled) (text rest : List ℕ) → Accepted form peer room found text rest → Accepted form peer room found (text ++ more) (rest ++ more)
  accepted_more form peer room found text rest a =
      record { line = a.line; first = line_more text a.line rest a.first; spelled = a.spelled; within = a.within; characters = a.characters; own = a.own }

  lines_more : (form : Form) (peer : ℕ) (room : _) (before : List Spelled) (text rest : List ℕ) → AcceptedLines form peer room before text rest → AcceptedLines form peer room before (text ++ more) (rest ++ more)
  lines_more form peer room [] text rest same = ap (λ (t : List ℕ). t ++ more) same
  lines_more form peer room (found ∷ others) text rest a =
      (a.0 ++ more, accepted_more form peer room found text a.0 a.1, lines_more form peer (room_behind room found) others a.0 rest a.2)

  reached_more : (text : List ℕ) (number : ℕ) (form : Form) (node : ℕ) (room : _) (remains : List ℕ) → Reached text number form node room remains
      → Reached (text ++ more) number form node room (remains ++ more)
  reached_more text number form node room remains r = record {
    header = r.header;
    rest = r.rest ++ more;
    count = r.count;
    first = line_more text r.header r.rest r.first;
    spelled = r.spelled;
    within = r.within;
    before = r.before;
    numbered = r.numbered;
    wanted = r.wanted;
    accepted = lines_more form node whole_room r.before r.rest remains r.accepted;
    left = r.left;
  }

  -- a fault of the line of a number, of any kind
  fault_more : (Header : List ℕ → Type 0) (Later : Form → ℕ → _ → List ℕ → Type 0) (text : List ℕ) (number : ℕ)
      → (((number ≡ 1) × ((line : List ℕ) × (rest : List ℕ) × Line text line rest × Header line))
      ⊎ ((form : Form) × (node : ℕ) × (room : _) × (remains : List ℕ) × (line : List ℕ) × (rest : List ℕ)
      × Reached text number form node room remains × Line remains line rest × Later form node room line))
      → (((number ≡ 1) × ((line : List ℕ) × (rest : List ℕ) × Line (text ++ more) line rest × Header line))
      ⊎ ((form : Form) × (node : ℕ) × (room : _) × (remains : List ℕ) × (line : List ℕ) × (rest : List ℕ)
      × Reached (text ++ more) number form node room remains × Line remains line rest × Later form node room line))
  fault_more Header Later text number (inl h) = inl (h.0, (h.1.0, h.1.1 ++ more, line_more text h.1.0 h.1.1 h.1.2, h.1.3))
  fault_more Header Later text number (inr h) =
      inr (h.0, h.1, h.2, h.3 ++ more, h.4, h.5 ++ more, reached_more text number h.0 h.1 h.2 h.3 h.6, line_more h.3 h.4 h.5 h.7, h.8)

  pub refused_more : (text : List ℕ) (error : ChangeError) → IsRefused text error → error ≢ Truncated → IsRefused (text ++ more) error
  refused_more text (BadLine number) h other = fault_more _ _ text number h
  refused_more text Truncated h other = absurd (other refl)
  refused_more text (Limit number) h other = fault_more _ _ text number h
  refused_more text (CharRefused number) h other = fault_more _ _ text number h
  refused_more text (WrongPeer number) h other = fault_more _ _ text number h
  refused_more text OutOfMemory h other = h

  pub spells_more : (text : List ℕ) (change : Change) (rest : List ℕ) → Spells text change rest → Spells (text ++ more) change (rest ++ more)
  spells_more text change rest s = (s.0, ap (λ (t : List ℕ). t ++ more) s.1 ∙ append_assoc (change_text change) rest more)
