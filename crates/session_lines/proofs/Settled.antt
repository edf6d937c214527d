-- What is read of a text, where it doesn't wait for further lines, is read of it with more behind it too.
use Rattle.std.proofs.Common.{◌≡◌, ℕ, ◌⊎◌, List, [], ◌∷◌, ◌++◌, Result, Ok, Err, inl, inr, sym, ap, ◌∙◌, append_assoc}
use Rattle.change_ops.specs.Changes.{Change}
use Rattle.change_ops.specs.Rooms.{whole_room, room_behind}
use Rattle.change_ops.specs.Spelling.{change_text}
use Rattle.change_ops.specs.Refusals.{Line, Accepted, AcceptedLines, Reached, IsRefused}
use Rattle.change_ops.specs.declared.line.Form.{Form}
use Rattle.change_ops.specs.declared.line.Line.{Line as Spelled}
use Rattle.change_ops.specs.declared.refusal.ChangeError.{ChangeError}
use Rattle.change_ops.specs.declared.refusal.ChangeError.TheVariants.{BadLine, Truncated, Limit, CharRefused, WrongPeer, OutOfMemory}
use Rattle.session_lines.specs.Requests.{IsRead}
use Rattle.session_lines.specs.Gathering.{IsSettled}

line_on : (text line rest more : List ℕ) → Line text line rest → Line (text ++ more) line (rest ++ more)
line_on text line rest more l = record { whole = ap (λ t. t ++ more) l.whole ∙ append_assoc line (10 ∷ rest) more; one = l.one }

accepted_on : (form : Form) (peer : ℕ) (room : _) (found : Spelled) (text rest more : List ℕ) → Accepted form peer room found text rest
    → Accepted form peer room found (text ++ more) (rest ++ more)
accepted_on form peer room found text rest more a = record {
  line = a.line;
  first = line_on text a.line rest more a.first;
  spelled = a.spelled;
  within = a.within;
  characters = a.characters;
  own = a.own;
}

lines_on : (form : Form) (peer : ℕ) (room : _) (lines : List Spelled) (text rest more : List ℕ) → AcceptedLines form peer room lines text rest
    → AcceptedLines form peer room lines (text ++ more) (rest ++ more)
lines_on form peer room [] text rest more same = ap (λ t. t ++ more) same
lines_on form peer room (line ∷ lines) text rest more a =
    (a.0 ++ more, accepted_on form peer room line text a.0 more a.1, lines_on form peer (room_behind room line) lines a.0 rest more a.2)

reached_on : (text : List ℕ) (number : ℕ) (form : Form) (node : ℕ) (room : _) (remains more : List ℕ) → Reached text number form node room remains
    → Reached (text ++ more) number form node room (remains ++ more)
reached_on text number form node room remains more r = record {
  header = r.header;
  rest = r.rest ++ more;
  count = r.count;
  first = line_on text r.header r.rest more r.first;
  spelled = r.spelled;
  within = r.within;
  before = r.before;
  numbered = r.numbered;
  wanted = r.wanted;
  accepted = lines_on form node whole_room r.before r.rest remains more r.accepted;
  left = r.left;
}

-- a fault of the first line, or of one that is reached, whatever makes a line faulty
fault_on : (text more : List ℕ) (number : ℕ) (Header : List ℕ → Type 0) (Faulty : Form → ℕ → _ → List ℕ → Type 0)
    → (((number ≡ 1) × ((line : List ℕ) × (rest : List ℕ) × Line text line rest × Header line))
    ⊎ ((form : Form) × (node : ℕ) × (room : _) × (remains : List ℕ) × (line : List ℕ) × (rest : List ℕ)
    × Reached text number form node room remains × Line remains line rest × Faulty form node room line))
    → (((number ≡ 1) × ((line : List ℕ) × (rest : List ℕ) × Line (text ++ more) line rest × Header line))
    ⊎ ((form : Form) × (node : ℕ) × (room : _) × (remains : List ℕ) × (line : List ℕ) × (rest : List ℕ)
    × Reached (text ++ more) number form node room remains × Line remains line rest × Faulty form node room line))
fault_on text more number Header Faulty (inl f) = inl (f.0, (f.1.0, f.1.1 ++ more, line_on text f.1.0 f.1.1 more f.1.2, f.1.3))
fault_on text more number Header Faulty (inr f) =
    inr (f.0, f.1, f.2, f.3 ++ more, f.4, f.5 ++ more, reached_on text number f.0 f.1 f.2 f.3 more f.6, line_on f.3 f.4 f.5 more f.7, f.8)

refused_on : (text : List ℕ) (e : ChangeError) (more : List ℕ) → IsSettled text → IsRefused text e → IsRefused (text ++ more) e
refused_on text (BadLine number) more settled r = fault_on text more number _ _ r
refused_on text Truncated more settled r = absurd (settled r)
refused_on text (Limit number) more settled r = fault_on text more number _ _ r
refused_on text (CharRefused number) more settled r = fault_on text more number _ _ r
refused_on text (WrongPeer number) more settled r = fault_on text more number _ _ r
refused_on text OutOfMemory more settled r = r

pub read_on : (text more : List ℕ) (read : Result Change ChangeError) → IsSettled text → IsRead text read → IsRead (text ++ more) read
read_on text more (Ok change) settled r = (r.0 ++ more, (r.1.0, ap (λ t. t ++ more) r.1.1 ∙ append_assoc (change_text change) r.0 more))
read_on text more (Err e) settled (inl none) = inl none
read_on text more (Err e) settled (inr r) = inr (refused_on text e more settled r)

-- a text that is read so, and neither as one that is cut short nor without memory, waits for no further lines
pub settles : {T : Type 0} (read : Result T ChangeError) (text : List ℕ) → ((e : ChangeError) → IsRefused text e → (read ≡ Err e) ⊎ (read ≡ Err OutOfMemory))
    → (read ≡ Err Truncated → ⊥) → (read ≡ Err OutOfMemory → ⊥) → IsSettled text
settles read text first cut memory = λ refused. elim (first Truncated refused) [ inl e ↦ absurd (cut e) | inr e ↦ absurd (memory e) ]

pub same_error : {T : Type 0} (read : Result T ChangeError) (e f : ChangeError) → read ≡ Err e → read ≡ Err f → e ≡ f
same_error read e f is other = let one : Err e ≡ Err f = sym is ∙ other in cc (one)

pub no_error : {T : Type 0} (read : Result T ChangeError) (value : T) (e : ChangeError) → read ≡ Ok value → read ≡ Err e → ⊥
no_error read value e is other = absurd (cc (is, other))
