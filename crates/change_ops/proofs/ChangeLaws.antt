-- A change is read as what it spells, and spells what it is read as.
use Rattle.std.proofs.Common.{◌≡◌, ℕ, zero, suc, ◌+◌, ◌-◌, ◌<◌, ◌≤◌, Bool, true, false, cond, eqb, leb, List, [], ◌∷◌, ◌++◌, length, Option, Some, None, Result, Ok, Err, refl, sym, ap, subst, ◌∙◌, inl, inr, arith, append_assoc, length-append, lit≤}
use Rattle.std.specs.Prelude.{◌&&◌, not, IfOk}
use Rattle.std.specs.Fmt.{decimal}
use Rattle.std.specs.List.{AllByRecursion}
use Rattle.std.proofs.lemmas.Bool.{and_parts, and_from, leb-true, le-leb, eqb-true, eq-eqb}
use Rattle.change_ops.specs.Ids.{is_node}
use Rattle.change_ops.specs.Lines.{ops_of, ops_of_lines, count_of, count_of_lines, first_id, line_within, line_has_characters, has_line}
use Rattle.change_ops.specs.Rooms.{whole_room, line_fits, room_behind}
use Rattle.change_ops.specs.Words.{split, number_in}
use Rattle.change_ops.specs.Reading.{form_at, header_at, line_in, judged, line_verdict, Reads}
use Rattle.change_ops.specs.Reading as reading
use Rattle.change_ops.specs.Changes.{Change, operations, IsLine, IsChange, OwnLines, Header, ◌>>=◌, Gives, lined, ended, limited_header, within_header, header_verdict, next_at, lines_at, change_at}
use Rattle.change_ops.specs.Spelling.{◌␣◌, line_text, lines_text, form_text, change_text, Spells, Answers, NoneBeginsAnother}
use Rattle.change_ops.specs.declared.line.Form.{Form}
use Rattle.change_ops.specs.declared.line.Form.TheVariants.{First, Second, Third}
use Rattle.change_ops.specs.declared.line.Line.{Line}
use Rattle.change_ops.specs.declared.line.Line.TheVariants.{Operation, Run, Removals, Revivals}
use Rattle.change_ops.specs.declared.room.Room.{Room}
use Rattle.change_ops.specs.declared.refusal.LineFault.{LineFault}
use Rattle.change_ops.specs.declared.refusal.LineFault.TheVariants as why
use Rattle.change_ops.specs.declared.refusal.ChangeError.{ChangeError}
use Rattle.change_ops.specs.declared.refusal.ChangeError.TheVariants.{BadLine, Truncated, Limit, CharRefused, WrongPeer, OutOfMemory}
use Rattle.change_ops.proofs.Grammar.{Lacks, bind_some, split_again, split_takes}
use Rattle.change_ops.proofs.Phrases.{lacks_joined, decimal_again, decimal_takes, decimal_lacks}
use Rattle.change_ops.proofs.LineLaws.{both}
use Rattle.change_ops.proofs.RunLaws.{run_limits}
use Rattle.change_ops.proofs.RoomLaws.{more_count, no_count, more_ops, no_ops, fits_parts, fits_from}
use Rattle.change_ops.proofs.SpelledLines.{inserts_count, in_again, in_takes, line_takes, line_lacks}
use Rattle.change_ops.proofs.LineForms.{form_takes, form_again, form_lacks}

abbrev pub Parts : Type 0
Parts = List ℕ × List ℕ

abbrev pub One : Type 0
One = Line × List ℕ

abbrev pub Lines : Type 0
Lines = List Line × List ℕ

pub bind_ok : {A B : Type 0} (r : Result A ChangeError) (f : A → Result B ChangeError) (y : B) → (r >>= f) ≡ Ok y → (x : A) × (r ≡ Ok x) × (f x ≡ Ok y)
bind_ok (Ok x) f y e = (x, refl, e)
bind_ok (Err d) f y e = absurd cc

pub same_ok : {A : Type 0} (x y : A) (r : Result A ChangeError) → r ≡ Ok x → r ≡ Ok y → x ≡ y
same_ok x y r e f = cc

-- what a verdict says of the line that it accepts

pub record Judged (peer : ℕ) (room : Room) (line : Line) : Type 0 where
  pub within : line_within line ≡ true
  pub fits : line_fits room line ≡ true
  pub characters : line_has_characters line ≡ true
  pub own : (first_id line).node ≡ peer

choose : (within character same : Bool) (line line' : Line) → cond (not within) (Err why.Limit) (cond (not character) (Err why.CharRefused) (cond same (Ok line) (Err why.WrongPeer))) ≡ Ok line' → (within ≡ true) × (character ≡ true) × (same ≡ true) × (line ≡ line')
choose true true true line line' e = (refl, refl, refl, cc)
choose true true false line line' e = absurd cc
choose true false same line line' e = absurd cc
choose false character same line line' e = absurd cc

pub lined_takes : {A : Type 0} (n : ℕ) (r : Result A LineFault) (x : A) → lined n r ≡ Ok x → r ≡ Ok x
lined_takes n (Ok y) x e = cc
lined_takes n (Err fault) x e = absurd cc

pub record Verdict (peer : ℕ) (room : Room) (o : Option Line) (line : Line) : Type 0 where
  pub read : o ≡ Some line
  pub judged : Judged peer room line

pub verdict_takes : (peer : ℕ) (room : Room) (read : Option Line) (line : Line) → line_verdict peer room read ≡ Ok line → Verdict peer room read line
verdict_takes peer room None line e = absurd cc
verdict_takes peer room (Some x) line e =
    let c = choose (line_within x && line_fits room x) (line_has_characters x) (eqb (first_id x).node peer) x line e in
    let w = and_parts (line_within x) (line_fits room x) c.0 in
    let found : Judged peer room x = record { within = w.0; fits = w.1; characters = c.1; own = eqb-true _ _ c.2 } in
    subst (λ (y : Line). Verdict peer room (Some x) y) c.3 (record { read = refl; judged = found })

pub verdict_fits : (peer : ℕ) (room : Room) (read : Option Line) (line : Line) → Reads (Ok line) (line_verdict peer room read) → line_fits room line ≡ true
verdict_fits peer room read line (inl memory) = absurd cc
verdict_fits peer room read line (inr same) = let v = verdict_takes peer room read line (sym same) in v.judged.fits

verdict_again : (peer : ℕ) (room : Room) (line : Line) → Judged peer room line → judged peer room line ≡ Ok line
verdict_again peer room line h = rw (and_from (line_within line) (line_fits room line) h.within h.fits, h.characters, eq-eqb _ _ h.own) refl

-- one line

pub ended_takes : (bytes : List ℕ) (parts : Parts) → ended (split 10 bytes) ≡ Ok parts → bytes ≡ parts.0 ++ 10 ∷ parts.1
ended_takes bytes parts e = go (split 10 bytes) refl e where
  go : (o : Option Parts) → split 10 bytes ≡ o → ended o ≡ Ok parts → bytes ≡ parts.0 ++ 10 ∷ parts.1
  go None f e = absurd cc
  go (Some x) f e = let same : x ≡ parts = cc in (split_takes 10 bytes parts.0 parts.1 (f ∙ ap (λ (y : Parts). Some y) same)).0

next_again : (form : Form) (peer : ℕ) (room : Room) (n : ℕ) (line : Line) (rest : List ℕ) → IsLine form peer line → line_fits room line ≡ true → next_at form peer room n (line_text line ++ 10 ∷ rest) ≡ Ok (line, rest)
unfolding next_at
next_again form peer room n line rest h fits =
    let judged : Judged peer room line = record { within = h.within; fits = fits; characters = h.characters; own = h.own } in
    rw (split_again 10 (line_text line) rest (line_lacks line h.within h.characters), in_again form line h.within h.characters h.formed, verdict_again peer room line judged) refl

pub record LineTaken (form : Form) (peer : ℕ) (room : Room) (bytes : List ℕ) (x : One) : Type 0 where
  pub text : bytes ≡ line_text x.0 ++ 10 ∷ x.1
  pub line : IsLine form peer x.0
  pub fits : line_fits room x.0 ≡ true

pub next_takes : (form : Form) (peer : ℕ) (room : Room) (n : ℕ) (bytes : List ℕ) (x : One) → next_at form peer room n bytes ≡ Ok x → LineTaken form peer room bytes x
unfolding next_at
next_takes form peer room n bytes x e =
    let a = bind_ok (ended (split 10 bytes)) (λ parts. lined n (line_verdict peer room (line_in form parts.0)) >>= λ found. made found parts.1) x e in
    let b = bind_ok (lined n (line_verdict peer room (line_in form a.0.0))) (λ found. made found a.0.1) x a.2 in
    let read : One = (b.0, a.0.1) in
    let same : read ≡ x = same_ok read x (Ok read) refl b.2 in
    let v = verdict_takes peer room (line_in form a.0.0) b.0 (lined_takes n (line_verdict peer room (line_in form a.0.0)) b.0 b.1) in
    let had = in_takes form a.0.0 b.0 v.read in
    let line : IsLine form peer b.0 = record { own = v.judged.own; within = v.judged.within; characters = v.judged.characters; formed = had.had } in
    let text = ended_takes bytes a.0 a.1 ∙ ap (λ (y : List ℕ). y ++ 10 ∷ a.0.1) (line_takes a.0.0 b.0 had.read v.judged.within v.judged.characters) in
    let taken : LineTaken form peer room bytes read = record { text = text; line = line; fits = v.judged.fits } in
    subst (LineTaken form peer room bytes) same taken
  where
    made : Line → List ℕ → Result One ChangeError
    made found rest = Ok (found, rest)

-- all lines

pub record LinesTaken (form : Form) (peer : ℕ) (room : Room) (count : ℕ) (bytes : List ℕ) (x : Lines) : Type 0 where
  pub whole : bytes ≡ lines_text x.0 ++ x.1
  pub lines : AllByRecursion (IsLine form peer) x.0
  pub counted : length x.0 ≡ count
  pub few : count_of_lines x.0 ≤ room.operations
  pub meant : length (ops_of_lines x.0) ≤ room.meant

pub lines_taken : (form : Form) (peer : ℕ) (room : Room) (n count : ℕ) (bytes : List ℕ) (x : Lines) → lines_at form peer room n count bytes ≡ Ok x → LinesTaken form peer room count bytes x
unfolding lines_at lines_text
lines_taken form peer room n zero bytes x e =
    let read : Lines = ([], bytes) in
    let same : read ≡ x = cc in
    let none = no_ops in
    let nothing = no_count in
    let few : count_of_lines [] ≤ room.operations = omega arith in
    let meant : length (ops_of_lines []) ≤ room.meant = omega arith in
    let taken : LinesTaken form peer room 0 bytes read = record { whole = refl; lines = tt; counted = refl; few = few; meant = meant } in
    subst (LinesTaken form peer room 0 bytes) same taken
lines_taken form peer room n (suc count) bytes x e =
    let a = bind_ok (next_at form peer room n bytes) (λ first. lines_at form peer (room_behind room first.0) (n + 1) count first.1 >>= λ others. made first.0 others) x e in
    let b = bind_ok (lines_at form peer (room_behind room a.0.0) (n + 1) count a.0.1) (λ others. made a.0.0 others) x a.2 in
    let first = next_takes form peer room n bytes a.0 a.1 in
    let rest = lines_taken form peer (room_behind room a.0.0) (n + 1) count a.0.1 b.0 b.1 in
    let read : Lines = (a.0.0 ∷ b.0.0, b.0.1) in
    let same : read ≡ x = same_ok read x (Ok read) refl b.2 in
    let text = first.text ∙ ap (λ (y : List ℕ). line_text a.0.0 ++ 10 ∷ y) rest.whole ∙ sym (append_assoc (line_text a.0.0) (10 ∷ lines_text b.0.0) b.0.1) in
    let fits = fits_parts room a.0.0 first.fits in
    let fits_count = fits.operations in
    let others_count = rest.few in
    let all_count = more_count a.0.0 b.0.0 in
    let few : count_of_lines (a.0.0 ∷ b.0.0) ≤ room.operations = omega arith in
    let fits_meant = fits.meant in
    let others_meant = rest.meant in
    let all_meant = more_ops a.0.0 b.0.0 in
    let meant : length (ops_of_lines (a.0.0 ∷ b.0.0)) ≤ room.meant = omega arith in
    let taken : LinesTaken form peer room (suc count) bytes read = record { whole = text; lines = (first.line, rest.lines); counted = ap suc rest.counted; few = few; meant = meant } in
    subst (LinesTaken form peer room (suc count) bytes) same taken
  where
    made : Line → Lines → Result Lines ChangeError
    made line others = Ok (line ∷ others.0, others.1)

pub lines_own : (form : Form) (peer : ℕ) (room : Room) (n count : ℕ) (bytes : List ℕ) (x : Lines) → lines_at form peer room n count bytes ≡ Ok x → OwnLines form peer room count x.0
lines_own form peer room n count bytes x e = let t = lines_taken form peer room n count bytes x e in record { counted = t.counted; few = t.few; meant = t.meant; lines = t.lines }

lines_again : (form : Form) (peer : ℕ) (room : Room) (n : ℕ) (lines : List Line) (rest : List ℕ) → AllByRecursion (IsLine form peer) lines → count_of_lines lines ≤ room.operations → length (ops_of_lines lines) ≤ room.meant → lines_at form peer room n (length lines) (lines_text lines ++ rest) ≡ Ok (lines, rest)
unfolding lines_at lines_text
lines_again form peer room n [] rest h few meant = refl
lines_again form peer room n (line ∷ lines) rest h few meant =
    let all_count = more_count line lines in
    let all_meant = more_ops line lines in
    let fits = fits_from room line (omega arith) (omega arith) in
    let left_count : count_of_lines lines ≤ room.operations - count_of line = omega arith in
    let left_meant : length (ops_of_lines lines) ≤ room.meant - length (ops_of line) = omega arith in
    rw (append_assoc (line_text line) (10 ∷ lines_text lines) rest, next_again form peer room n line (lines_text lines ++ rest) h.0 fits, lines_again form peer (room_behind room line) (n + 1) lines rest h.1 left_count left_meant) refl

-- the first line

abbrev header : Form → ℕ → ℕ → List ℕ
header form node count = form_text form ␣ decimal node ␣ decimal count

header_again : (form : Form) (node count : ℕ) → 0 < node → node ≤ 65535 → 0 < count → count ≤ 256 → header_at (header form node count) ≡ Some (form, node, count)
unfolding header_at
header_again form node count n1 n2 c1 c2 =
    let one = split_again 32 (form_text form) (decimal node ␣ decimal count) (form_lacks 32 form (omega arith)) in
    let two = split_again 32 (decimal node) (decimal count) (decimal_lacks 32 node (lit≤ tt) n1 (omega arith)) in
    rw (one, two, form_again form, decimal_again node n1 (omega arith), decimal_again count c1 (omega arith)) refl

header_lacks : (form : Form) (node count : ℕ) → 0 < node → node ≤ 65535 → 0 < count → count ≤ 256 → Lacks 10 (header form node count)
header_lacks form node count n1 n2 c1 c2 =
    lacks_joined 10 (form_text form) (decimal node ␣ decimal count) 32 (form_lacks 10 form (omega arith)) refl
    (lacks_joined 10 (decimal node) (decimal count) 32 (decimal_lacks 10 node (lit≤ tt) n1 (omega arith)) refl (decimal_lacks 10 count (lit≤ tt) c1 (omega arith)))

-- the limits of a header's numbers
pub record HeaderLimits (h : Header) : Type 0 where
  pub named : 1 ≤ h.1
  pub known : h.1 ≤ 65535
  pub some : 1 ≤ h.2
  pub few : h.2 ≤ 256

header_within : (h : Header) → HeaderLimits h → limited_header h ≡ Some h
header_within h l = rw (le-leb 1 h.1 l.named, le-leb h.1 65535 l.known, le-leb 1 h.2 l.some, le-leb h.2 256 l.few) refl

-- each line is an operation at least
line_counts : (line : Line) → line_within line ≡ true → 1 ≤ count_of line
line_counts (Operation op) h = omega arith
line_counts (Run run) h = let l = run_limits run h in let s = l.some in omega arith
line_counts (Removals run) h = omega arith
line_counts (Revivals run) h = omega arith

lines_count : (form : Form) (peer : ℕ) (lines : List Line) → AllByRecursion (IsLine form peer) lines → length lines ≤ count_of_lines lines
lines_count form peer [] h = let none = no_count in omega arith
lines_count form peer (line ∷ lines) h =
    let one = line_counts line h.0.within in
    let others = lines_count form peer lines h.1 in
    let all = more_count line lines in
    omega arith

-- in the first two forms each line means as many operations as it is
no_more : (form : Form) (line : Line) → (form ≡ Third → ⊥) → has_line form line ≡ true → length (ops_of line) ≡ count_of line
no_more form (Operation op) older h = refl
no_more form (Run run) older h = inserts_count run.characters run.id run.parent
no_more First (Removals run) older h = absurd cc
no_more First (Revivals run) older h = absurd cc
no_more Second (Removals run) older h = absurd cc
no_more Second (Revivals run) older h = absurd cc
no_more Third (Removals run) older h = absurd (older refl)
no_more Third (Revivals run) older h = absurd (older refl)

pub older_lines : (form : Form) (peer : ℕ) (lines : List Line) → (form ≡ Third → ⊥) → AllByRecursion (IsLine form peer) lines → length (ops_of_lines lines) ≡ count_of_lines lines
older_lines form peer [] older h = let none = no_ops in let nothing = no_count in omega arith
older_lines form peer (line ∷ lines) older h =
    let one = no_more form line older h.0.formed in
    let others = older_lines form peer lines older h.1 in
    let all_count = more_count line lines in
    let all_meant = more_ops line lines in
    omega arith

-- so a change of them means at most 256
pub few_operations : (change : Change) → (change.form ≡ Third → ⊥) → IsChange change → length (operations change) ≤ 256
few_operations change older h =
    let same = older_lines change.form change.node change.lines older h.lines in
    let few = h.few in
    omega arith

pub change_again : (change : Change) (rest : List ℕ) → IsChange change → change_at (change_text change ++ rest) ≡ Ok (change, rest)
unfolding change_at change_text
change_again change rest h =
    let count = length change.lines in
    let line = header change.form change.node count in
    let each = lines_count change.form change.node change.lines h.lines in
    let all = h.few in
    let few : count ≤ 256 = omega arith in
    let limits : HeaderLimits (change.form, change.node, count) = record { named = h.named; known = h.known; some = h.some; few = few } in
    let grouped : (line ++ 10 ∷ lines_text change.lines) ++ rest ≡ line ++ 10 ∷ (lines_text change.lines ++ rest) = append_assoc line (10 ∷ lines_text change.lines) rest in
    let parts = split_again 10 line (lines_text change.lines ++ rest) (header_lacks change.form change.node count h.named h.known h.some few) in
    rw (grouped, parts, header_again change.form change.node count h.named h.known h.some few, header_within (change.form, change.node, count) limits, lines_again change.form change.node whole_room 2 change.lines rest h.lines h.few h.meant) refl

record HeaderTaken (h x : Header) : Type 0 where
  same : h ≡ x
  limits : HeaderLimits x

limited_takes : (h x : Header) → limited_header h ≡ Some x → HeaderTaken h x
limited_takes h x e = go (is_node h.1 && leb 1 h.2 && leb h.2 256) refl e where
  go : (b : Bool) → (is_node h.1 && leb 1 h.2 && leb h.2 256) ≡ b → cond b (Some h) None ≡ Some x → HeaderTaken h x
  go false f g = absurd cc
  go true f g =
      let same : h ≡ x = cc in
      let a = and_parts (is_node h.1 && leb 1 h.2) (leb h.2 256) f in
      let b = and_parts (is_node h.1) (leb 1 h.2) a.0 in
      let c = and_parts (leb 1 h.1) (leb h.1 65535) b.0 in
      let limits : HeaderLimits h = record { named = leb-true _ _ c.0; known = leb-true _ _ c.1; some = leb-true _ _ b.1; few = leb-true _ _ a.1 } in
      record { same = same; limits = subst HeaderLimits same limits }

pub record HeaderRead (o : Option Header) (x : Header) : Type 0 where
  pub read : o ≡ Some x
  pub limits : HeaderLimits x

pub verdict_header : (o : Option Header) (x : Header) → header_verdict o ≡ Ok x → HeaderRead o x
verdict_header None x e = absurd cc
verdict_header (Some h) x e = go (limited_header h) refl e where
  go : (o : Option Header) → limited_header h ≡ o → within_header o ≡ Ok x → HeaderRead (Some h) x
  go None f g = absurd cc
  go (Some y) f g =
      let same : y ≡ x = cc in
      let l = limited_takes h x (f ∙ ap (λ (z : Header). Some z) same) in
      record { read = ap (λ (z : Header). Some z) l.same; limits = l.limits }

header_takes : (text : List ℕ) (h : Header) → HeaderLimits h → header_at text ≡ Some h → text ≡ header h.0 h.1 h.2
unfolding header_at
header_takes text h l e =
    let a = bind_some (split 32 text) (λ first. reading.◌>>=◌ (split 32 first.1) (λ second. reading.◌>>=◌ (form_at first.0) (λ form. reading.◌>>=◌ (number_in 10 second.0) (λ node. reading.◌>>=◌ (number_in 10 second.1) (λ count. made form node count))))) h e in
    let b = bind_some (split 32 a.0.1) (λ second. reading.◌>>=◌ (form_at a.0.0) (λ form. reading.◌>>=◌ (number_in 10 second.0) (λ node. reading.◌>>=◌ (number_in 10 second.1) (λ count. made form node count)))) h a.2 in
    let f = bind_some (form_at a.0.0) (λ form. reading.◌>>=◌ (number_in 10 b.0.0) (λ node. reading.◌>>=◌ (number_in 10 b.0.1) (λ count. made form node count))) h b.2 in
    let c = bind_some (number_in 10 b.0.0) (λ node. reading.◌>>=◌ (number_in 10 b.0.1) (λ count. made f.0 node count)) h f.2 in
    let d = bind_some (number_in 10 b.0.1) (λ count. made f.0 c.0 count) h c.2 in
    let read : Header = (f.0, c.0, d.0) in
    let same : read ≡ h = some_header read h d.2 in
    let one = (split_takes 32 text a.0.0 a.0.1 a.1).0 in
    let two = (split_takes 32 a.0.1 b.0.0 b.0.1 b.1).0 in
    let limits : HeaderLimits read = subst HeaderLimits (sym same) l in
    let node = decimal_takes c.0 b.0.0 limits.named (let k = limits.known in omega arith) c.1 in
    let count = decimal_takes d.0 b.0.1 limits.some (let k = limits.few in omega arith) d.1 in
    one ∙ both (form_takes a.0.0 f.0 f.1) (two ∙ both node count) ∙ ap (λ (x : Header). header x.0 x.1 x.2) same
  where
    made : Form → ℕ → ℕ → Option Header
    made form node count = Some (form, node, count)

    some_header : (x y : Header) → Some x ≡ Some y → x ≡ y
    some_header x y e = cc

abbrev pub Pair : Type 0
Pair = Change × List ℕ

abbrev Taken : List ℕ → Pair → Type 0
Taken text x = Spells text x.0 x.1

pub change_takes : (text : List ℕ) (x : Pair) → change_at text ≡ Ok x → Spells text x.0 x.1
unfolding change_at change_text
change_takes text x e =
    let a = bind_ok (ended (split 10 text)) (λ parts. lined 1 (header_verdict (header_at parts.0)) >>= λ h. lines_at h.0 h.1 whole_room 2 h.2 parts.1 >>= λ found. edited h found) x e in
    let b = bind_ok (lined 1 (header_verdict (header_at a.0.0))) (λ h. lines_at h.0 h.1 whole_room 2 h.2 a.0.1 >>= λ found. edited h found) x a.2 in
    let h = b.0 in
    let d = bind_ok (lines_at h.0 h.1 whole_room 2 h.2 a.0.1) (λ found. edited h found) x b.2 in
    let change : Change = record { form = h.0; node = h.1; lines = d.0.0 } in
    let read : Pair = (change, d.0.1) in
    let same : read ≡ x = same_ok read x (Ok read) refl d.2 in
    let v = verdict_header (header_at a.0.0) h (lined_takes 1 (header_verdict (header_at a.0.0)) h b.1) in
    let o = lines_taken h.0 h.1 whole_room 2 h.2 a.0.1 d.0 d.1 in
    let first : a.0.0 ≡ header h.0 h.1 (length d.0.0) = header_takes a.0.0 h v.limits v.read ∙ ap (λ (k : ℕ). header h.0 h.1 k) (sym o.counted) in
    let joined : a.0.0 ++ 10 ∷ a.0.1 ≡ header h.0 h.1 (length d.0.0) ++ 10 ∷ (lines_text d.0.0 ++ d.0.1) = (λ i. first i ++ 10 ∷ o.whole i) in
    let whole = ended_takes text a.0 a.1 ∙ joined ∙ sym (append_assoc (header h.0 h.1 (length d.0.0)) (10 ∷ lines_text d.0.0) d.0.1) in
    let limits : IsChange change = record { named = v.limits.named; known = v.limits.known; some = rw (← o.counted) at v.limits.some; few = o.few; meant = o.meant; lines = o.lines } in
    subst (Taken text) same (limits, whole)
  where
    edited : Header → Lines → Result Pair ChangeError
    edited h found = Ok (record { form = h.0; node = h.1; lines = found.0 }, found.1)

-- from what reading on lists gives to what is answered

pub gives_spells : {X : Type 0} (view : X → Pair) (r : Result X ChangeError) (text : List ℕ) → Gives view r (change_at text) → IfOk r (λ x. Spells text (view x).0 (view x).1)
gives_spells view (Ok x) text h = change_takes text (view x) h
gives_spells view (Err e) text h = tt

gives_answer : {X : Type 0} (view : X → Pair) (r : Result X ChangeError) (read : Result Pair ChangeError) (wanted : Pair) → Gives view r read → read ≡ Ok wanted → Answers r view wanted
gives_answer view (Ok x) read wanted h e = cc
gives_answer view (Err OutOfMemory) read wanted h e = tt
gives_answer view (Err (BadLine n)) read wanted h e = absurd cc
gives_answer view (Err Truncated) read wanted h e = absurd cc
gives_answer view (Err (Limit n)) read wanted h e = absurd cc
gives_answer view (Err (CharRefused n)) read wanted h e = absurd cc
gives_answer view (Err (WrongPeer n)) read wanted h e = absurd cc

pub gives_answers : {X : Type 0} (view : X → Pair) (r : Result X ChangeError) (text : List ℕ) → Gives view r (change_at text) → (change : Change) (rest : List ℕ) → Spells text change rest → Answers r view (change, rest)
gives_answers view r text h change rest s = gives_answer view r (change_at text) (change, rest) h (ap change_at s.1 ∙ change_again change rest s.0)

-- what follows a change is shorter
some_text : (change : Change) → 0 < length (change_text change)
unfolding change_text
some_text change = omega (arith, length-append (header change.form change.node (length change.lines)) (10 ∷ lines_text change.lines))

change_longer : (change : Change) (rest : List ℕ) → length rest < length (change_text change ++ rest)
change_longer change rest = omega (arith, length-append (change_text change) rest, some_text change)

pub gives_shorter : {X : Type 0} (view : X → Pair) (r : Result X ChangeError) (text : List ℕ) → Gives view r (change_at text) → IfOk r (λ x. length (view x).1 < length text)
gives_shorter view (Ok x) text h = rw (change_takes text (view x) h).1 (change_longer (view x).0 (view x).1)
gives_shorter view (Err e) text h = tt

abbrev Answer : Type 0
Answer = Result Pair ChangeError

made : Pair → Answer
made p = Ok p

one_answer : (p q : Pair) → made p ≡ made q → p ≡ q
unfolding made
one_answer p q e = cc

answers : (a b : Change) (x y : List ℕ) → IsChange a → IsChange b → change_text a ++ x ≡ change_text b ++ y → made (a, x) ≡ made (b, y)
unfolding made
answers a b x y one two e = sym (change_again a x one) ∙ ap change_at e ∙ change_again b y two

-- no text of a change begins another's
pub no_other : NoneBeginsAnother
no_other a b x y one two e =
    let p : Pair = (a, x) in
    let q : Pair = (b, y) in
    let same = one_answer p q (answers a b x y one two e) in
    (ap (λ (z : Pair). z.0) same, ap (λ (z : Pair). z.1) same)
