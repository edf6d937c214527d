-- Reading lines one after the other, as a loop does.
use Rattle.std.proofs.Common.{◌≡◌, ℕ, suc, ◌-◌, ◌+◌, ◌≤◌, ◌<◌, List, [], ◌∷◌, ◌++◌, Result, Ok, Err, refl, sym, ap, ◌∙◌, append_assoc, arith}
use Rattle.std.proofs.lemmas.List.{append-nil}
use Rattle.change_ops.specs.Rooms.{room_behind}
use Rattle.change_ops.specs.declared.room.Room.{Room}
use Rattle.change_ops.specs.declared.line.Form.{Form}
use Rattle.change_ops.specs.declared.line.Line.{Line}
use Rattle.change_ops.specs.declared.refusal.ChangeError.{ChangeError}
use Rattle.change_ops.specs.declared.refusal.ChangeError.TheVariants.{BadLine, Truncated, Limit, CharRefused, WrongPeer, OutOfMemory}
use Rattle.change_ops.specs.Changes.{◌>>=◌, Fails, next_at, lines_at}

abbrev pub Lines : Type 0
Lines = Result (List Line × List ℕ) ChangeError

-- what was read before, and what is still read
abbrev pub with_front : List Line → Lines → Lines
with_front front read = read >>= λ x. Ok (front ++ x.0, x.1)

regroup : (front : List Line) (n : Line) (read : Lines) → with_front front (read >>= λ x. Ok (n ∷ x.0, x.1)) ≡ with_front (front ++ n ∷ []) read
regroup front n (Ok x) = ap (λ (ns : List Line). Ok (ns, x.1)) (simp append_assoc)
regroup front n (Err f) = refl

pub goes_on : (form : Form) (peer : ℕ) (room : Room) (front : List Line) (count i : ℕ) (bytes : List ℕ) (n : Line) (after : List ℕ) (total : Lines) → i < count → next_at form peer room (i + 2) bytes ≡ Ok (n, after)
    → with_front front (lines_at form peer room (i + 2) (count - i) bytes) ≡ total → with_front (front ++ n ∷ []) (lines_at form peer (room_behind room n) (i + 1 + 2) (count - (i + 1)) after) ≡ total
unfolding lines_at
goes_on form peer room front count i bytes n after total lt h so_far =
    let k : count - i ≡ suc (count - (i + 1)) = omega arith in
    let j : i + 2 + 1 ≡ i + 1 + 2 = omega arith in
    let one : with_front front (lines_at form peer room (i + 2) (count - i) bytes) ≡ with_front (front ++ n ∷ []) (lines_at form peer (room_behind room n) (i + 1 + 2) (count - (i + 1)) after) = rw (k, h, j) (regroup front n (lines_at form peer (room_behind room n) (i + 1 + 2) (count - (i + 1)) after)) in
    sym one ∙ so_far

failed : (e : ChangeError) (front : List Line) (read : Result (Line × List ℕ) ChangeError) (f : Line × List ℕ → Lines) → Fails e read → Fails e (with_front front (read >>= f))
failed OutOfMemory front read f h = tt
failed (BadLine n) front read f h = rw h refl
failed Truncated front read f h = rw h refl
failed (Limit n) front read f h = rw h refl
failed (CharRefused n) front read f h = rw h refl
failed (WrongPeer n) front read f h = rw h refl

pub ends : (form : Form) (peer : ℕ) (room : Room) (e : ChangeError) (front : List Line) (count i : ℕ) (bytes : List ℕ) (total : Lines) → i < count → Fails e (next_at form peer room (i + 2) bytes)
    → with_front front (lines_at form peer room (i + 2) (count - i) bytes) ≡ total → Fails e total
unfolding lines_at
ends form peer room e front count i bytes total lt h so_far =
    let k : count - i ≡ suc (count - (i + 1)) = omega arith in
    let one : Fails e (with_front front (lines_at form peer room (i + 2) (suc (count - (i + 1))) bytes)) = failed e front (next_at form peer room (i + 2) bytes) _ h in
    rw (← so_far, k) one

pub is_done : (form : Form) (peer : ℕ) (room : Room) (front : List Line) (count i : ℕ) (bytes : List ℕ) (total : Lines) → count ≤ i → with_front front (lines_at form peer room (i + 2) (count - i) bytes) ≡ total → total ≡ Ok (front, bytes)
unfolding lines_at
is_done form peer room front count i bytes total le so_far =
    let k : count - i ≡ 0 = omega arith in
    let one : with_front front (lines_at form peer room (i + 2) (count - i) bytes) ≡ Ok (front, bytes) = rw k (ap (λ (ns : List Line). Ok (ns, bytes)) (append-nil front)) in
    sym so_far ∙ one

pub ruleset steps = (goes_on, ends, is_done)
