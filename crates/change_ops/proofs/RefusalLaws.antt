-- A text is refused as the grammar says, and with no other refusal.
use Rattle.std.proofs.Common.{◌≡◌, ◌≢◌, ℕ, zero, suc, ◌+◌, ◌<◌, Bool, true, false, cond, eqb, List, [], ◌∷◌, length, Option, Some, None, Result, Ok, Err, ◌⊎◌, inl, inr, refl, sym, ap, subst, ◌∙◌, arith}
use Rattle.std.specs.Prelude.{not, ◌&&◌, IsTrue, IfErr}
use Rattle.std.specs.List.{position_or_len}
use Rattle.std.proofs.lemmas.Bool.{cases_lt, and_from, lt-ltb, eq-eqb}
use Rattle.std.proofs.lemmas.Bool.Decides.{eqb_tells}
use Rattle.std.proofs.lemmas.List.Sums.{fails_before_first}
use Rattle.change_ops.specs.Lines.{first_id, line_within, line_has_characters}
use Rattle.change_ops.specs.Rooms.{whole_room, line_fits, room_behind, room_left}
use Rattle.change_ops.specs.declared.room.Room.{Room}
use Rattle.change_ops.specs.Words.{split}
use Rattle.change_ops.specs.Reading.{header_at, line_in, line_verdict}
use Rattle.change_ops.specs.Changes.{Header, ◌>>=◌, Gives, at_line, lined, ended, is_header, within_header, header_verdict, next_at, lines_at, change_at}
use Rattle.change_ops.specs.Forms.{LineForm, HeaderForm}
use Rattle.change_ops.specs.Refusals.{IsUnended, Line, IsFaulty, IsFaultyHeader, Accepted, AcceptedLines, Reached, IsFaultAt, IsRefused}
use Rattle.change_ops.specs.declared.line.Form.{Form}
use Rattle.change_ops.specs.declared.line.Line.{Line as Spelled}
use Rattle.change_ops.specs.declared.refusal.LineFault.{LineFault}
use Rattle.change_ops.specs.declared.refusal.LineFault.TheVariants as why
use Rattle.change_ops.specs.declared.refusal.ChangeError.{ChangeError}
use Rattle.change_ops.specs.declared.refusal.ChangeError.TheVariants.{BadLine, Truncated, Limit, CharRefused, WrongPeer, OutOfMemory}
use Rattle.change_ops.proofs.Grammar.{Lacks, split_again, split_takes}
use Rattle.change_ops.proofs.Phrases.{lacks_nil, lacks_cons}
use Rattle.change_ops.proofs.Splitting.{split_none}
use Rattle.change_ops.proofs.LineForms.{line_form, line_read, header_form, header_read}
use Rattle.change_ops.proofs.RoomLaws.{left_none, left_more}
use Rattle.change_ops.proofs.ChangeLaws.{bind_ok, same_ok, lined_takes, verdict_takes, Parts, One, Lines, Pair}

-- a text's first line

unended : (bytes : List ℕ) → Lacks 10 bytes → IsUnended bytes
unended [] h = tt
unended (b ∷ bs) h = (λ same. let f : eqb b 10 ≡ true = eq-eqb b 10 same in let g = h zero (omega arith) in absurd cc, unended bs (λ k lt. h (suc k) (omega arith)))

lacking : (bytes : List ℕ) → IsUnended bytes → Lacks 10 bytes
lacking [] h = lacks_nil 10
lacking (b ∷ bs) h = lacks_cons 10 b bs (elim (eqb_tells b 10) [ inl same ↦ absurd (h.0 same.1) | inr other ↦ other.0 ]) (lacking bs h.1)

split_nothing : (bytes : List ℕ) → split 10 bytes ≡ None → Lacks 10 bytes
unfolding split
split_nothing bytes e = elim (cases_lt (position_or_len (λ b. eqb b 10) bytes) (length bytes)) [
  | inl lt ↦ absurd (let f = rw (lt-ltb _ _ lt) at e in cc)
  | inr le ↦ λ k small. fails_before_first (λ b. eqb b 10) bytes k 0 (omega arith)
]

first_line : (bytes line rest : List ℕ) → split 10 bytes ≡ Some (line, rest) → Line bytes line rest
first_line bytes line rest e = let t = split_takes 10 bytes line rest e in record { whole = t.0; one = unended line t.1 }

line_again : (bytes line rest : List ℕ) → Line bytes line rest → split 10 bytes ≡ Some (line, rest)
line_again bytes line rest h = ap (split 10) h.whole ∙ split_again 10 line rest (lacking line h.one)

none_again : (bytes : List ℕ) → IsUnended bytes → split 10 bytes ≡ None
none_again bytes h = split_none 10 bytes (lacking bytes h)

-- where a step of reading failed

abbrev ErrBind : {A B : Type 0} → Result A ChangeError → (A → Result B ChangeError) → ChangeError → Type 0
ErrBind {A} r f e = (r ≡ Err e) ⊎ ((x : A) × (r ≡ Ok x) × (f x ≡ Err e))

bind_err : {A B : Type 0} (r : Result A ChangeError) (f : A → Result B ChangeError) (e : ChangeError) → (r >>= f) ≡ Err e → ErrBind r f e
bind_err (Ok x) f e h = inr (x, refl, h)
bind_err (Err d) f e h = let same : d ≡ e = cc in inl (ap Err same)

ended_err : (o : Option Parts) (e : ChangeError) → ended o ≡ Err e → (o ≡ None) × (Truncated ≡ e)
ended_err None e h = (refl, cc)
ended_err (Some x) e h = absurd cc

ended_ok : (o : Option Parts) (x : Parts) → ended o ≡ Ok x → o ≡ Some x
ended_ok None x h = absurd cc
ended_ok (Some y) x h = let same : y ≡ x = cc in ap Some same

lined_err : {A : Type 0} (n : ℕ) (r : Result A LineFault) (e : ChangeError) → lined n r ≡ Err e → (fault : LineFault) × (r ≡ Err fault) × (at_line n fault ≡ e)
lined_err n (Ok x) e h = absurd cc
lined_err n (Err fault) e h = (fault, refl, cc)

-- one line

verdict_err : (form : Form) (peer : ℕ) (room : Room) (text : List ℕ) (read : Option Spelled) (fault : LineFault) → line_in form text ≡ read → line_verdict peer room read ≡ Err fault → IsFaulty form peer room text fault
verdict_err form peer room text None fault e h =
    let same : why.BadLine ≡ fault = cc in
    subst (IsFaulty form peer room text) same (λ line spelled. let f = line_read form text line spelled in absurd cc)
verdict_err form peer room text (Some line) fault e h = go (line_within line && line_fits room line) (line_has_characters line) (eqb (first_id line).node peer) refl refl refl h where
  spelled : LineForm form line text
  spelled = line_form form text line e

  other : eqb (first_id line).node peer ≡ false → (first_id line).node ≢ peer
  other f same = let g : eqb (first_id line).node peer ≡ true = eq-eqb _ _ same in absurd cc

  go : (a b c : Bool) → (line_within line && line_fits room line) ≡ a → line_has_characters line ≡ b → eqb (first_id line).node peer ≡ c
      → cond (not a) (Err why.Limit) (cond (not b) (Err why.CharRefused) (cond c (Ok line) (Err why.WrongPeer))) ≡ Err fault → IsFaulty form peer room text fault
  go false b c f1 f2 f3 h = let same : why.Limit ≡ fault = cc in subst (IsFaulty form peer room text) same (line, spelled, f1)
  go true false c f1 f2 f3 h = let same : why.CharRefused ≡ fault = cc in subst (IsFaulty form peer room text) same (line, spelled, f1, f2)
  go true true false f1 f2 f3 h = let same : why.WrongPeer ≡ fault = cc in subst (IsFaulty form peer room text) same (line, spelled, f1, f2, other f3)
  go true true true f1 f2 f3 h = absurd cc

-- the line of this number, which what remains begins with, is refused
abbrev NextRefused : Form → ℕ → Room → ℕ → List ℕ → ChangeError → Type 0
NextRefused form peer room n remains e =
    (IsUnended remains × (Truncated ≡ e)) ⊎ ((fault : LineFault) × (line : List ℕ) × (rest : List ℕ) × Line remains line rest × IsFaulty form peer room line fault × (at_line n fault ≡ e))

next_err : (form : Form) (peer : ℕ) (room : Room) (n : ℕ) (bytes : List ℕ) (e : ChangeError) → next_at form peer room n bytes ≡ Err e → NextRefused form peer room n bytes e
unfolding next_at
next_err form peer room n bytes e h = elim (bind_err (ended (split 10 bytes)) (λ parts. lined n (line_verdict peer room (line_in form parts.0)) >>= λ line. Ok (line, parts.1)) e h) [
  | inl none ↦ let x = ended_err (split 10 bytes) e none in inl (unended bytes (split_nothing bytes x.0), x.1)
  | inr some ↦ elim (bind_err (lined n (line_verdict peer room (line_in form some.0.0))) (λ line. Ok (line, some.0.1)) e some.2) [
    | inl refused ↦
        let p = lined_err n (line_verdict peer room (line_in form some.0.0)) e refused in
        inr (p.0, some.0.0, some.0.1, first_line bytes some.0.0 some.0.1 (ended_ok (split 10 bytes) some.0 some.1), verdict_err form peer room some.0.0 (line_in form some.0.0) p.0 refl p.1, p.2)
    | inr read ↦ absurd (let f = read.2 in cc)
  ]
]

next_ok : (form : Form) (peer : ℕ) (room : Room) (n : ℕ) (bytes : List ℕ) (x : One) → next_at form peer room n bytes ≡ Ok x → Accepted form peer room x.0 bytes x.1
unfolding next_at
next_ok form peer room n bytes x e =
    let a = bind_ok (ended (split 10 bytes)) (λ parts. lined n (line_verdict peer room (line_in form parts.0)) >>= λ line. Ok (line, parts.1)) x e in
    let b = bind_ok (lined n (line_verdict peer room (line_in form a.0.0))) (λ line. Ok (line, a.0.1)) x a.2 in
    let read : One = (b.0, a.0.1) in
    let same : read ≡ x = same_ok read x (Ok read) refl b.2 in
    let v = verdict_takes peer room (line_in form a.0.0) b.0 (lined_takes n (line_verdict peer room (line_in form a.0.0)) b.0 b.1) in
    let j = v.judged in
    let fits = and_from (line_within b.0) (line_fits room b.0) j.within j.fits in
    let taken : Accepted form peer room b.0 bytes a.0.1 = record { line = a.0.0; first = first_line bytes a.0.0 a.0.1 (ended_ok (split 10 bytes) a.0 a.1); spelled = line_form form a.0.0 b.0 v.read; within = fits; characters = j.characters; own = j.own } in
    subst (λ (y : One). Accepted form peer room y.0 bytes y.1) same taken

-- all lines

record LinesRefused (form : Form) (peer : ℕ) (room : Room) (n count : ℕ) (bytes : List ℕ) (e : ChangeError) : Type 0 where
  before : List Spelled
  remains : List ℕ
  left : Room
  wanted : length before < count
  accepted : AcceptedLines form peer room before bytes remains
  left_is : left ≡ room_left room before
  refused : NextRefused form peer left (length before + n) remains e

lines_err : (form : Form) (peer : ℕ) (room : Room) (n count : ℕ) (bytes : List ℕ) (e : ChangeError) → lines_at form peer room n count bytes ≡ Err e → LinesRefused form peer room n count bytes e
unfolding lines_at
lines_err form peer room n zero bytes e h = absurd cc
lines_err form peer room n (suc count) bytes e h = elim (bind_err (next_at form peer room n bytes) (λ first. lines_at form peer (room_behind room first.0) (n + 1) count first.1 >>= λ others. Ok (first.0 ∷ others.0, others.1)) e h) [
  | inl refused ↦
      let here : 0 + n ≡ n = omega arith in
      record { before = []; remains = bytes; left = room; wanted = omega arith; accepted = refl; left_is = sym (left_none room); refused = rw here (next_err form peer room n bytes e refused) }
  | inr first ↦ elim (bind_err (lines_at form peer (room_behind room first.0.0) (n + 1) count first.0.1) (λ others. Ok (first.0.0 ∷ others.0, others.1)) e first.2) [
    | inl refused ↦
        let r = lines_err form peer (room_behind room first.0.0) (n + 1) count first.0.1 e refused in
        let number_is : length r.before + (n + 1) ≡ suc (length r.before) + n = omega arith in
        let small : length r.before < count = r.wanted in
        let left_is = r.left_is ∙ sym (left_more room first.0.0 r.before) in
        record { before = first.0.0 ∷ r.before; remains = r.remains; left = r.left; wanted = omega arith; accepted = (first.0.1, next_ok form peer room n bytes first.0 first.1, r.accepted); left_is = left_is; refused = subst (λ (m : ℕ). NextRefused form peer r.left m r.remains e) number_is r.refused }
    | inr read ↦ absurd (let f = read.2 in cc)
  ]
]

-- the first line

header_err : (line : List ℕ) (read : Option Header) (fault : LineFault) → header_at line ≡ read → header_verdict read ≡ Err fault → IsFaultyHeader line fault
header_err line None fault e h =
    let same : why.BadLine ≡ fault = cc in
    subst (IsFaultyHeader line) same (λ form node count spelled. let f = header_read line form node count spelled in absurd cc)
header_err line (Some x) fault e h = go (is_header x) refl h where
  go : (b : Bool) → is_header x ≡ b → within_header (cond b (Some x) None) ≡ Err fault → IsFaultyHeader line fault
  go true f h = absurd cc
  go false f h = let same : why.Limit ≡ fault = cc in subst (IsFaultyHeader line) same (x.0, x.1, x.2, header_form line x e, f)

header_ok : (line : List ℕ) (read : Option Header) (x : Header) → header_at line ≡ read → header_verdict read ≡ Ok x → HeaderForm x.0 x.1 x.2 line × IsTrue (is_header x)
header_ok line None x e h = absurd cc
header_ok line (Some y) x e h = go (is_header y) refl h where
  go : (b : Bool) → is_header y ≡ b → within_header (cond b (Some y) None) ≡ Ok x → HeaderForm x.0 x.1 x.2 line × IsTrue (is_header x)
  go false f h = absurd cc
  go true f h = let same : y ≡ x = cc in subst (λ (z : Header). HeaderForm z.0 z.1 z.2 line × IsTrue (is_header z)) same (header_form line y e, f)

-- a fault of a line is the refusal with its number
fault_at : (text : List ℕ) (n : ℕ) (fault : LineFault) (e : ChangeError) → at_line n fault ≡ e → IsFaultAt text n fault → IsRefused text e
fault_at text n why.BadLine e same h = subst (IsRefused text) same h
fault_at text n why.Limit e same h = subst (IsRefused text) same h
fault_at text n why.CharRefused e same h = subst (IsRefused text) same h
fault_at text n why.WrongPeer e same h = subst (IsRefused text) same h
fault_at text n why.OutOfMemory e same (inl h) = absurd h.1.3
fault_at text n why.OutOfMemory e same (inr h) = absurd h.8

lines_refused : (text header rest : List ℕ) (x : Header) (e : ChangeError) → Line text header rest → HeaderForm x.0 x.1 x.2 header → IsTrue (is_header x) → LinesRefused x.0 x.1 whole_room 2 x.2 rest e → IsRefused text e
lines_refused text header rest x e first spelled within r =
    let n = length r.before + 2 in
    let reached : Reached text n x.0 x.1 r.left r.remains = record { header = header; rest = rest; count = x.2; first = first; spelled = spelled; within = within; before = r.before; numbered = refl; wanted = r.wanted; accepted = r.accepted; left = r.left_is } in
    elim r.refused [
      | inl none ↦ subst (IsRefused text) none.1 (inr (n, x.0, x.1, r.left, r.remains, reached, none.0))
      | inr f ↦ fault_at text n f.0 e f.5 (inr (x.0, x.1, r.left, r.remains, f.1, f.2, reached, f.3, f.4))
    ]

edited : Header → Lines → Result Pair ChangeError
edited header found = Ok (record { form = header.0; node = header.1; lines = found.0 }, found.1)

pub change_err : (text : List ℕ) (e : ChangeError) → change_at text ≡ Err e → IsRefused text e
unfolding change_at edited
change_err text e h = elim (bind_err (ended (split 10 text)) (λ parts. lined 1 (header_verdict (header_at parts.0)) >>= λ header. lines_at header.0 header.1 whole_room 2 header.2 parts.1 >>= λ found. edited header found) e h) [
  | inl none ↦ let x = ended_err (split 10 text) e none in subst (IsRefused text) x.1 (inl (unended text (split_nothing text x.0)))
  | inr some ↦
      let parts = some.0 in
      let first = first_line text parts.0 parts.1 (ended_ok (split 10 text) parts some.1) in
      elim (bind_err (lined 1 (header_verdict (header_at parts.0))) (λ header. lines_at header.0 header.1 whole_room 2 header.2 parts.1 >>= λ found. edited header found) e some.2) [
        | inl refused ↦
            let p = lined_err 1 (header_verdict (header_at parts.0)) e refused in
            fault_at text 1 p.0 e p.2 (inl (refl, (parts.0, parts.1, first, header_err parts.0 (header_at parts.0) p.0 refl p.1)))
        | inr header ↦
            let x = header.0 in
            let fine = header_ok parts.0 (header_at parts.0) x refl (lined_takes 1 (header_verdict (header_at parts.0)) x header.1) in
            elim (bind_err (lines_at x.0 x.1 whole_room 2 x.2 parts.1) (λ found. edited x found) e header.2) [
              | inl refused ↦ lines_refused text parts.0 parts.1 x e first fine.0 fine.1 (lines_err x.0 x.1 whole_room 2 x.2 parts.1 e refused)
              | inr read ↦ absurd (let f = read.2 in cc)
            ]
      ]
]

abbrev RefusedAs : List ℕ → ChangeError → Type 0
RefusedAs text e = (e ≡ OutOfMemory) ⊎ IsRefused text e

pub gives_refused : {X : Type 0} (view : X → Pair) (r : Result X ChangeError) (text : List ℕ) → Gives view r (change_at text) → IfErr r (λ e. RefusedAs text e)
gives_refused view (Ok x) text h = tt
gives_refused view (Err OutOfMemory) text h = inl refl
gives_refused view (Err (BadLine n)) text h = inr (change_err text (BadLine n) h)
gives_refused view (Err Truncated) text h = inr (change_err text Truncated h)
gives_refused view (Err (Limit n)) text h = inr (change_err text (Limit n) h)
gives_refused view (Err (CharRefused n)) text h = inr (change_err text (CharRefused n) h)
gives_refused view (Err (WrongPeer n)) text h = inr (change_err text (WrongPeer n) h)

-- a text at fault is refused with that refusal, and no other

line_fault_again : (form : Form) (peer : ℕ) (room : Room) (text : List ℕ) (fault : LineFault) → IsFaulty form peer room text fault → line_verdict peer room (line_in form text) ≡ Err fault
line_fault_again form peer room text why.BadLine h = go (line_in form text) refl where
  go : (o : Option Spelled) → line_in form text ≡ o → line_verdict peer room o ≡ Err why.BadLine
  go None e = refl
  go (Some line) e = absurd (h line (line_form form text line e))
line_fault_again form peer room text why.Limit h = let e = line_read form text h.0 h.1 in ap (line_verdict peer room) e ∙ rw h.2 refl
line_fault_again form peer room text why.CharRefused h = let e = line_read form text h.0 h.1 in ap (line_verdict peer room) e ∙ rw (h.2, h.3) refl
line_fault_again form peer room text why.WrongPeer h =
    let other : eqb (first_id h.0).node peer ≡ false = elim (eqb_tells (first_id h.0).node peer) [ inl same ↦ absurd (h.4 same.1) | inr differs ↦ differs.0 ] in
    let e = line_read form text h.0 h.1 in
    ap (line_verdict peer room) e ∙ rw (h.2, h.3, other) refl
line_fault_again form peer room text why.OutOfMemory h = absurd h

next_fault_again : (form : Form) (peer : ℕ) (room : Room) (n : ℕ) (bytes line rest : List ℕ) (fault : LineFault) → Line bytes line rest → IsFaulty form peer room line fault → next_at form peer room n bytes ≡ Err (at_line n fault)
unfolding next_at
next_fault_again form peer room n bytes line rest fault first h = rw (line_again bytes line rest first, line_fault_again form peer room line fault h) refl

next_none_again : (form : Form) (peer : ℕ) (room : Room) (n : ℕ) (bytes : List ℕ) → IsUnended bytes → next_at form peer room n bytes ≡ Err Truncated
unfolding next_at
next_none_again form peer room n bytes h = rw (none_again bytes h) refl

accepted_again : (form : Form) (peer : ℕ) (room : Room) (n : ℕ) (line : Spelled) (bytes rest : List ℕ) → Accepted form peer room line bytes rest → next_at form peer room n bytes ≡ Ok (line, rest)
unfolding next_at
accepted_again form peer room n line bytes rest a =
    let read : line_verdict peer room (line_in form a.line) ≡ Ok line = ap (line_verdict peer room) (line_read form a.line line a.spelled) ∙ rw (a.within, a.characters, eq-eqb _ _ a.own) refl in
    rw (line_again bytes a.line rest a.first, read) refl

lines_fault_again : (form : Form) (peer : ℕ) (room : Room) (n count : ℕ) (before : List Spelled) (bytes remains : List ℕ) (e : ChangeError) → AcceptedLines form peer room before bytes remains → length before < count
    → next_at form peer (room_left room before) (length before + n) remains ≡ Err e → lines_at form peer room n count bytes ≡ Err e
unfolding lines_at
lines_fault_again form peer room n zero before bytes remains e accepted small h = absurd (omega arith)
lines_fault_again form peer room n (suc count) [] bytes remains e accepted small h =
    let here : 0 + n ≡ n = omega arith in
    let next : next_at form peer room n bytes ≡ Err e = (λ i. next_at form peer (sym (left_none room) i) (sym here i) (accepted i)) ∙ h in
    rw next refl
lines_fault_again form peer room n (suc count) (line ∷ before) bytes remains e accepted small h =
    let number_is : suc (length before) + n ≡ length before + (n + 1) = omega arith in
    let left = left_more room line before in
    let next : next_at form peer (room_left (room_behind room line) before) (length before + (n + 1)) remains ≡ Err e = (λ i. next_at form peer (sym left i) (sym number_is i) remains) ∙ h in
    rw (accepted_again form peer room n line bytes accepted.0 accepted.1, lines_fault_again form peer (room_behind room line) (n + 1) count before accepted.0 remains e accepted.2 (omega arith) next) refl

header_fault_again : (line : List ℕ) (fault : LineFault) → IsFaultyHeader line fault → header_verdict (header_at line) ≡ Err fault
header_fault_again line why.BadLine h = go (header_at line) refl where
  go : (o : Option Header) → header_at line ≡ o → header_verdict o ≡ Err why.BadLine
  go None e = refl
  go (Some x) e = absurd (h x.0 x.1 x.2 (header_form line x e))
header_fault_again line why.Limit h = rw (header_read line h.0 h.1 h.2 h.3, h.4) refl
header_fault_again line why.CharRefused h = absurd h
header_fault_again line why.WrongPeer h = absurd h
header_fault_again line why.OutOfMemory h = absurd h

reached_again : (text : List ℕ) (n : ℕ) (form : Form) (node : ℕ) (room : Room) (remains : List ℕ) (e : ChangeError) → Reached text n form node room remains → next_at form node room n remains ≡ Err e → change_at text ≡ Err e
unfolding change_at
reached_again text n form node room remains e r h =
    let next : next_at form node (room_left whole_room r.before) (length r.before + 2) remains ≡ Err e = (λ i. next_at form node (sym r.left i) (sym r.numbered i) remains) ∙ h in
    rw (line_again text r.header r.rest r.first, header_read r.header form node r.count r.spelled, r.within, lines_fault_again form node whole_room 2 r.count r.before r.rest remains e r.accepted r.wanted next) refl

first_fault_again : (text line rest : List ℕ) (fault : LineFault) → Line text line rest → IsFaultyHeader line fault → change_at text ≡ Err (at_line 1 fault)
unfolding change_at
first_fault_again text line rest fault first h = rw (line_again text line rest first, header_fault_again line fault h) refl

fault_at_again : (text : List ℕ) (n : ℕ) (fault : LineFault) → IsFaultAt text n fault → change_at text ≡ Err (at_line n fault)
fault_at_again text n fault (inl h) = first_fault_again text h.1.0 h.1.1 fault h.1.2 h.1.3 ∙ ap (λ (m : ℕ). Err (at_line m fault)) (sym h.0)
fault_at_again text n fault (inr h) = reached_again text n h.0 h.1 h.2 h.3 (at_line n fault) h.6 (next_fault_again h.0 h.1 h.2 n h.3 h.4 h.5 fault h.7 h.8)

unended_again : (text : List ℕ) → IsUnended text → change_at text ≡ Err Truncated
unfolding change_at
unended_again text h = rw (none_again text h) refl

pub refused_again : (text : List ℕ) (e : ChangeError) → IsRefused text e → change_at text ≡ Err e
refused_again text OutOfMemory h = absurd h
refused_again text (BadLine n) h = fault_at_again text n why.BadLine h
refused_again text Truncated (inl h) = unended_again text h
refused_again text Truncated (inr h) = reached_again text h.0 h.1 h.2 h.3 h.4 Truncated h.5 (next_none_again h.1 h.2 h.3 h.0 h.4 h.6)
refused_again text (Limit n) h = fault_at_again text n why.Limit h
refused_again text (CharRefused n) h = fault_at_again text n why.CharRefused h
refused_again text (WrongPeer n) h = fault_at_again text n why.WrongPeer h

abbrev Read : Type 0
Read = Result Pair ChangeError

abbrev OneOf : {X : Type 0} → Result X ChangeError → ChangeError → Type 0
OneOf r e = (r ≡ Err e) ⊎ (r ≡ Err OutOfMemory)

given_first : {X : Type 0} (view : X → Pair) (r : Result X ChangeError) (read : Read) (e : ChangeError) → Gives view r read → read ≡ Err e → OneOf r e
given_first view (Ok x) read e h f = absurd cc
given_first view (Err OutOfMemory) read e h f = inr refl
given_first view (Err (BadLine n)) read e h f = let same : BadLine n ≡ e = cc in inl (ap Err same)
given_first view (Err Truncated) read e h f = let same : Truncated ≡ e = cc in inl (ap Err same)
given_first view (Err (Limit n)) read e h f = let same : Limit n ≡ e = cc in inl (ap Err same)
given_first view (Err (CharRefused n)) read e h f = let same : CharRefused n ≡ e = cc in inl (ap Err same)
given_first view (Err (WrongPeer n)) read e h f = let same : WrongPeer n ≡ e = cc in inl (ap Err same)

pub gives_first : {X : Type 0} (view : X → Pair) (r : Result X ChangeError) (text : List ℕ) → Gives view r (change_at text) → (e : ChangeError) → IsRefused text e → OneOf r e
gives_first view r text h e refused = given_first view r (change_at text) e h (refused_again text e refused)
