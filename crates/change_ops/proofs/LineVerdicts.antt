-- The verdict on a line by its kind: operations with room and with none, runs, and runs of removals and of revivals.
use Rattle.std.proofs.Common.{◌≡◌, ℕ, ◌≤◌, Bool, true, false, cond, leb, eqb, List, length, Option, Some, None, Result, Ok, Err, refl, sym, ap, ◌∙◌, inl, inr}
use Rattle.std.specs.Prelude.{◌&&◌, not, codes}
use Rattle.std.specs.Str.{bytes_eq}
use Rattle.std.proofs.lemmas.Bool.{le-leb}
use Rattle.change_ops.specs.Limits.{op_within, has_character}
use Rattle.change_ops.specs.Operations.{id_of}
use Rattle.change_ops.specs.Words.{split}
use Rattle.change_ops.specs.Runs.{Run, run_within, run_has_characters}
use Rattle.change_ops.specs.IdRuns.{IdRun, id_run_within}
use Rattle.change_ops.specs.Rooms.{line_fits, single_room}
use Rattle.change_ops.specs.Lines.{has_op, has_line}
use Rattle.change_ops.specs.Reading.{◌>>=◌, kept_if, op_at, line_at, line_in, op_judged, op_verdict, op_verdict_in, unless_formless, run_at, run_judged, run_verdict_in, is_counted, id_run_at, id_run_judged, id_run_verdict_in, judged, line_verdict, Reads}
use Rattle.change_ops.specs.declared.operation.Op.{Op}
use Rattle.change_ops.specs.declared.line.Form.{Form}
use Rattle.change_ops.specs.declared.line.Form.TheVariants.{First, Second, Third}
use Rattle.change_ops.specs.declared.line.Line.{Line}
use Rattle.change_ops.specs.declared.line.Line.TheVariants.{Operation, Run as RunLine, Removals, Revivals}
use Rattle.change_ops.specs.declared.room.Room.{Room}
use Rattle.change_ops.specs.declared.refusal.LineFault.{LineFault}
use Rattle.change_ops.specs.declared.refusal.LineFault.TheVariants.{BadLine, Limit, CharRefused, WrongPeer}
use Rattle.change_ops.proofs.RoomLaws.{least_fits}
use Rattle.change_ops.proofs.IdRunOps.{removals_count, revivals_count}
use Rattle.change_ops.proofs.SpelledLines.{inserts_count}

limit : (a b c : Bool) (op : Op) → unless_formless (cond (not a) (Err Limit) (cond (not b) (Err CharRefused) (cond c (Ok op) (Err WrongPeer)))) ≡ Limit
limit false b c op = refl
limit true false c op = refl
limit true true false op = refl
limit true true true op = refl

abbrev refused : LineFault → Result Op LineFault
refused fault = Err fault

-- a fault of the form comes before want of room
pub no_room : (form : Form) (peer room : ℕ) (text : List ℕ) (read : Result Op LineFault) → room ≡ 0 → Reads read (op_verdict peer (kept_if (has_op form) (op_at text))) → Reads {A = Op} (Err (unless_formless read)) (op_verdict_in form peer room (op_at text))
no_room form peer room text read none (inl memory) = inl (rw memory refl)
no_room form peer room text read none (inr same) = inr (rw (same, none) (go (op_at text))) where
  had : (op : Op) (b : Bool) → refused (unless_formless (op_verdict peer (cond b (Some op) None))) ≡ cond (not b) (Err BadLine) (Err Limit)
  had op false = refl
  had op true = ap refused (limit (op_within op) (has_character op) (eqb (id_of op).node peer) op)

  go : (o : Option Op) → refused (unless_formless (op_verdict peer (kept_if (has_op form) o))) ≡ op_verdict_in form peer 0 o
  go None = refl
  go (Some op) = had op (has_op form op)

pub some_room : (form : Form) (peer room : ℕ) (text : List ℕ) (read : Result Op LineFault) → 1 ≤ room → Reads read (op_verdict peer (kept_if (has_op form) (op_at text))) → Reads read (op_verdict_in form peer room (op_at text))
some_room form peer room text read some (inl memory) = inl memory
some_room form peer room text read some (inr same) = inr (same ∙ go (op_at text)) where
  had : (op : Op) (b : Bool) → op_verdict peer (cond b (Some op) None) ≡ cond (not b) (Err BadLine) (cond (not (leb 1 room)) (Err Limit) (op_judged peer op))
  had op false = refl
  had op true = rw (le-leb 1 room some) refl

  go : (o : Option Op) → op_verdict peer (kept_if (has_op form) o) ≡ op_verdict_in form peer room o
  go None = refl
  go (Some op) = had op (has_op form op)

-- the line of an operation
abbrev pub as_line : Result Op LineFault → Result Line LineFault
as_line (Ok op) = Ok (Operation op)
as_line (Err fault) = Err fault

judged_op : (peer : ℕ) (room : Room) (op : Op) → as_line (cond (not (leb 1 (single_room room))) (Err Limit) (op_judged peer op)) ≡ judged peer room (Operation op)
judged_op peer room op = rw (least_fits 1 room.operations room.meant) (go (op_within op) (leb 1 room.operations && leb 1 room.meant) (has_character op) (eqb (id_of op).node peer)) where
  go : (a b c d : Bool) → as_line (cond (not b) (Err Limit) (cond (not a) (Err Limit) (cond (not c) (Err CharRefused) (cond d (Ok op) (Err WrongPeer))))) ≡ cond (not (a && b)) (Err Limit) (cond (not c) (Err CharRefused) (cond d (Ok (Operation op)) (Err WrongPeer)))
  go false false c d = refl
  go false true c d = refl
  go true false c d = refl
  go true true false d = refl
  go true true true false = refl
  go true true true true = refl

pub op_line : (form : Form) (peer : ℕ) (room : Room) (text name fields : List ℕ) → split 32 text ≡ Some (name, fields) → bytes_eq name (codes "r") ≡ false → (bytes_eq name (codes "d") && is_counted fields) ≡ false → (bytes_eq name (codes "v") && is_counted fields) ≡ false
    → line_verdict peer room (line_in form text) ≡ as_line (op_verdict_in form peer (single_room room) (op_at text))
unfolding line_at
op_line form peer room text name fields parts other no_removals no_revivals = rw (parts, other, no_removals, no_revivals) (go (op_at text)) where
  chosen : (op : Op) (b : Bool) → line_verdict peer room (cond b (Some (Operation op)) None) ≡ as_line (cond (not b) (Err BadLine) (cond (not (leb 1 (single_room room))) (Err Limit) (op_judged peer op)))
  chosen op false = refl
  chosen op true = sym (judged_op peer room op)

  go : (o : Option Op) → line_verdict peer room ((o >>= λ op. Some (Operation op)) >>= λ line. cond (has_line form line) (Some line) None) ≡ as_line (op_verdict_in form peer (single_room room) o)
  go None = refl
  go (Some op) = chosen op (has_line form (Operation op))

pub reads_line : (read verdict : Result Op LineFault) → Reads read verdict → Reads (as_line read) (as_line verdict)
reads_line read verdict (inl memory) = inl (ap as_line memory)
reads_line read verdict (inr same) = inr (ap as_line same)

-- the line of a run
abbrev pub as_run : Result Run LineFault → Result Line LineFault
as_run (Ok run) = Ok (RunLine run)
as_run (Err fault) = Err fault

run_fits : (room : Room) (run : Run) → leb (length run.characters) (single_room room) ≡ line_fits room (RunLine run)
run_fits room run = rw (inserts_count run.characters run.id run.parent) (least_fits (length run.characters) room.operations room.meant)

judged_run : (peer : ℕ) (room : Room) (run : Run) → judged peer room (RunLine run) ≡ as_run (run_judged peer (single_room room) run)
judged_run peer room run = rw (run_fits room run) (go (run_within run && line_fits room (RunLine run)) (run_has_characters run) (eqb run.id.node peer)) where
  go : (a b c : Bool) → cond (not a) (Err Limit) (cond (not b) (Err CharRefused) (cond c (Ok (RunLine run)) (Err WrongPeer))) ≡ as_run (cond (not a) (Err Limit) (cond (not b) (Err CharRefused) (cond c (Ok run) (Err WrongPeer))))
  go false b c = refl
  go true false c = refl
  go true true false = refl
  go true true true = refl

pub run_line : (form : Form) (peer : ℕ) (room : Room) (text name fields : List ℕ) → split 32 text ≡ Some (name, fields) → bytes_eq name (codes "r") ≡ true → line_verdict peer room (line_in form text) ≡ as_run (run_verdict_in form peer (single_room room) (run_at fields))
unfolding line_at
run_line form peer room text name fields parts same = rw (parts, same) (go form (run_at fields)) where
  go : (form : Form) (o : Option Run) → line_verdict peer room ((o >>= λ run. Some (RunLine run)) >>= λ line. cond (has_line form line) (Some line) None) ≡ as_run (run_verdict_in form peer (single_room room) o)
  go First None = refl
  go First (Some run) = refl
  go Second None = refl
  go Second (Some run) = judged_run peer room run
  go Third None = refl
  go Third (Some run) = judged_run peer room run

pub reads_run : (read verdict : Result Run LineFault) → Reads read verdict → Reads (as_run read) (as_run verdict)
reads_run read verdict (inl memory) = inl (ap as_run memory)
reads_run read verdict (inr same) = inr (ap as_run same)

-- the line of a run of removals or of revivals
abbrev pub as_counted : (IdRun → Line) → Result IdRun LineFault → Result Line LineFault
as_counted kind (Ok run) = Ok (kind run)
as_counted kind (Err fault) = Err fault

judged_counted : (peer : ℕ) (room : Room) (run : IdRun) (kind : IdRun → Line) → cond (not (id_run_within run && (leb 1 room.operations && leb run.count room.meant))) (Err Limit) (cond (eqb run.id.node peer) (Ok (kind run)) (Err WrongPeer)) ≡ as_counted kind (id_run_judged peer room run)
judged_counted peer room run kind = go (id_run_within run && (leb 1 room.operations && leb run.count room.meant)) (eqb run.id.node peer) where
  go : (a b : Bool) → cond (not a) (Err Limit) (cond b (Ok (kind run)) (Err WrongPeer)) ≡ as_counted kind (cond (not a) (Err Limit) (cond b (Ok run) (Err WrongPeer)))
  go false b = refl
  go true false = refl
  go true true = refl

judged_removals : (peer : ℕ) (room : Room) (run : IdRun) → judged peer room (Removals run) ≡ as_counted Removals (id_run_judged peer room run)
judged_removals peer room run = rw (removals_count run.count run.id run.first) (judged_counted peer room run Removals)

judged_revivals : (peer : ℕ) (room : Room) (run : IdRun) → judged peer room (Revivals run) ≡ as_counted Revivals (id_run_judged peer room run)
judged_revivals peer room run = rw (revivals_count run.count run.id run.first) (judged_counted peer room run Revivals)

pub removals_line : (form : Form) (peer : ℕ) (room : Room) (text name fields : List ℕ) → split 32 text ≡ Some (name, fields) → bytes_eq name (codes "r") ≡ false → (bytes_eq name (codes "d") && is_counted fields) ≡ true
    → line_verdict peer room (line_in form text) ≡ as_counted Removals (id_run_verdict_in form peer room (id_run_at fields))
unfolding line_at
removals_line form peer room text name fields parts other same = rw (parts, other, same) (go form (id_run_at fields)) where
  go : (form : Form) (o : Option IdRun) → line_verdict peer room ((o >>= λ run. Some (Removals run)) >>= λ line. cond (has_line form line) (Some line) None) ≡ as_counted Removals (id_run_verdict_in form peer room o)
  go First None = refl
  go First (Some run) = refl
  go Second None = refl
  go Second (Some run) = refl
  go Third None = refl
  go Third (Some run) = judged_removals peer room run

pub revivals_line : (form : Form) (peer : ℕ) (room : Room) (text name fields : List ℕ) → split 32 text ≡ Some (name, fields) → bytes_eq name (codes "r") ≡ false → (bytes_eq name (codes "d") && is_counted fields) ≡ false → (bytes_eq name (codes "v") && is_counted fields) ≡ true
    → line_verdict peer room (line_in form text) ≡ as_counted Revivals (id_run_verdict_in form peer room (id_run_at fields))
unfolding line_at
revivals_line form peer room text name fields parts other no_removals same = rw (parts, other, no_removals, same) (go form (id_run_at fields)) where
  go : (form : Form) (o : Option IdRun) → line_verdict peer room ((o >>= λ run. Some (Revivals run)) >>= λ line. cond (has_line form line) (Some line) None) ≡ as_counted Revivals (id_run_verdict_in form peer room o)
  go First None = refl
  go First (Some run) = refl
  go Second None = refl
  go Second (Some run) = refl
  go Third None = refl
  go Third (Some run) = judged_revivals peer room run
