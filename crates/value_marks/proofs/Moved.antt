-- What becomes of the machine's marks when registers and slots are written.
use Rattle.std.proofs.Common.{◌≡◌, ◌≢◌, ℕ, ◌+◌, ◌%◌, ◌^◌, ◌<◌, ◌≤◌, Bool, true, false, cond, nat_eq, List, length, get_or, set, Option, Some, None, sym, ◌∙◌, ap, subst, ⊎_elim, arith}
use Rattle.std.proofs.lemmas.Bool.{cases_lt, cases_Bool}
use Rattle.std.proofs.lemmas.Bool.Decides.{nat_tests}
use Rattle.std.proofs.lemmas.Grind.{common_steps}
use Rattle.bpf_words.specs.declared.instruction.Width.TheVariants.{Full}
use Rattle.semantics.specs.State.{State}
use Rattle.semantics.specs.Value.{cut}
use Rattle.abstract_state.specs.State.{with_register, bytes_of, HasNumber}
use Rattle.abstract_state.proofs.Loads.{number_back}
use Rattle.value_marks.specs.declared.mark.Mark.{Mark}
use Rattle.value_marks.specs.declared.marks.Marks.{Marks}
use Rattle.value_marks.specs.Mark.{new_mark, Agrees, AgreesAt}
use Rattle.value_marks.specs.Marking.{Marking, marking_of, IsMarking, mark_register, mark_slot}
use Rattle.value_marks.specs.Bearing.{InRegister, InSlot, BearsBy, AreBelow}

-- ---- tests of places
pub at_place : (i j : ℕ) → nat_eq i j ≡ true → i ≡ j
at_place i j e = grind (arith, nat_tests)

pub not_place : (i j : ℕ) → nat_eq i j ≡ false → i ≢ j
not_place i j e = grind (arith, nat_tests)

pub same_place : (i : ℕ) → nat_eq i i ≡ true
same_place i = grind (arith, nat_tests)

pub other_place : (i j : ℕ) → i ≢ j → nat_eq i j ≡ false
other_place i j h = grind (arith, nat_tests)

pub by_test : (P : Type 0) (b : Bool) → (b ≡ true → P) → (b ≡ false → P) → P
by_test P b here apart = ⊎_elim here apart (cases_Bool b)

-- ---- the number that stands in a slot is one
pub some_same : (m n : ℕ) → Some m ≡ Some n → m ≡ n
some_same m n e = cc

pub one_word : (stack : List (Option ℕ)) (offset m n : ℕ) → HasNumber (bytes_of stack) offset m → HasNumber (bytes_of stack) offset n → m % 2 ^ 64 ≡ n % 2 ^ 64
one_word stack offset m n a b =
    let e : m % 256 ^ 8 ≡ n % 256 ^ 8 = some_same _ _ (sym (number_back stack offset 8 m a) ∙ number_back stack offset 8 n b) in
    omega arith

pub one_number : (stack : List (Option ℕ)) (offset m n : ℕ) → m < 2 ^ 64 → n < 2 ^ 64 → HasNumber (bytes_of stack) offset m → HasNumber (bytes_of stack) offset n → m ≡ n
one_number stack offset m n small less a b = let e = one_word stack offset m n a b in omega arith

-- ---- a mark is written
pub bears_register : (origins : ℕ → ℕ) (w : Marking) (s : State) (r : ℕ) (mark : Option Mark) → BearsBy origins w s → AgreesAt origins mark (InRegister s r) → BearsBy origins (mark_register r mark w) s
bears_register origins w s r mark was agrees = record {
  registers = λ i h m n e stands.
      by_test (Agrees origins m n) (nat_eq i r)
      (λ here. agrees m n (sym (ap (λ (b : Bool). cond b mark (w.registers i)) here) ∙ e) (ap (λ (k : ℕ). get_or s.registers k None) (sym (at_place i r here)) ∙ stands))
      (λ apart. was.registers i h m n (sym (ap (λ (b : Bool). cond b mark (w.registers i)) apart) ∙ e) stands);
  slots = was.slots;
}

pub bears_slot : (origins : ℕ → ℕ) (w : Marking) (s : State) (slot : ℕ) (mark : Option Mark) → BearsBy origins w s → AgreesAt origins mark (InSlot s slot) → BearsBy origins (mark_slot slot mark w) s
bears_slot origins w s slot mark was agrees = record {
  registers = was.registers;
  slots = λ i h m n e stands.
      by_test (Agrees origins m n) (nat_eq i slot)
      (λ here. agrees m n (sym (ap (λ (b : Bool). cond b mark (w.slots i)) here) ∙ e) (subst (λ (k : ℕ). InSlot s k n) (at_place i slot here) stands))
      (λ apart. was.slots i h m n (sym (ap (λ (b : Bool). cond b mark (w.slots i)) apart) ∙ e) stands);
}

-- ---- a register is written
written_there : (registers : List (Option ℕ)) (d v i : ℕ) → i ≡ d → d < length registers → get_or (set registers d (Some v)) i None ≡ Some v
written_there registers d v i e h = grind (arith, common_steps)

written_other : (registers : List (Option ℕ)) (d v i : ℕ) → i ≢ d → get_or (set registers d (Some v)) i None ≡ get_or registers i None
written_other registers d v i e = grind (arith, common_steps)

pub bears_written : (origins : ℕ → ℕ) (w : Marking) (s : State) (d v : ℕ) (mark : Option Mark) → length s.registers ≡ 11 → BearsBy origins w s → ((m : Mark) → mark ≡ Some m → Agrees origins m v) → BearsBy origins (mark_register d mark w) (with_register s d v)
bears_written origins w s d v mark eleven was agrees = record {
  registers = λ i h m n e stands.
      by_test (Agrees origins m n) (nat_eq i d)
      (λ here.
      let at = at_place i d here in
      let within : d < length s.registers = omega (arith, at) in
      let is : v ≡ n = some_same v n (sym (written_there s.registers d v i at within) ∙ stands) in
      subst (λ (k : ℕ). Agrees origins m k) is (agrees m (sym (ap (λ (b : Bool). cond b mark (w.registers i)) here) ∙ e)))
      (λ apart. was.registers i h m n (sym (ap (λ (b : Bool). cond b mark (w.registers i)) apart) ∙ e) (sym (written_other s.registers d v i (not_place i d apart)) ∙ stands));
  slots = was.slots;
}

-- ---- an origin below which all are names another value
abbrev pub renamed : ℕ → ℕ → (ℕ → ℕ) → ℕ → ℕ
renamed at n origins k = cond (nat_eq k at) n (origins k)

renamed_other : (at n : ℕ) (origins : ℕ → ℕ) (m : Mark) (v : ℕ) → m.origin < at → Agrees origins m v → Agrees (renamed at n origins) m v
renamed_other at n origins m v h agrees =
    let apart : m.origin ≢ at = omega arith in
    agrees ∙ ap (λ (b : Bool). cut m.width (cond b n (origins m.origin) + m.addend)) (sym (other_place m.origin at apart))

pub bears_renamed : (at n : ℕ) (origins : ℕ → ℕ) (w : Marking) (s : State) → AreBelow at w → BearsBy origins w s → BearsBy (renamed at n origins) w s
bears_renamed at n origins w s below was = record {
  registers = λ i h m v e stands. renamed_other at n origins m v (below.registers i m e) (was.registers i h m v e stands);
  slots = λ i h m v e stands. renamed_other at n origins m v (below.slots i m e) (was.slots i h m v e stands);
}

pub new_agrees : (at n : ℕ) (origins : ℕ → ℕ) → Agrees (renamed at n origins) (new_mark at) n
new_agrees at n origins = sym (ap (λ (b : Bool). cut Full (cond b n (origins at) + 0)) (same_place at) ∙ omega arith)

-- ---- marks of the code, and of the marking that they are
pub bears_same : (marks : Marks) (w : Marking) (origins : ℕ → ℕ) (s : State) → IsMarking marks w → BearsBy origins w s → BearsBy origins (marking_of marks) s
bears_same marks w origins s is was = record {
  registers = λ i h m n e stands. was.registers i h m n (sym (is.registers i h) ∙ e) stands;
  slots = λ i h m n e stands. was.slots i h m n (sym (is.slots i h) ∙ e) stands;
}

past_end : (marks : List (Option Mark)) (i : ℕ) → length marks ≤ i → get_or marks i None ≡ None
past_end marks i h = grind (arith, common_steps)

none_some : (o : Option Mark) (m : Mark) → o ≡ None → o ≡ Some m → ⊥
none_some o m e f = cc

pub below_same : (marks : Marks) (w : Marking) (at : ℕ) → length marks.registers ≡ 11 → length marks.slots ≡ 64 → IsMarking marks w → AreBelow at w → AreBelow at (marking_of marks)
below_same marks w at eleven long is was = record {
  registers = λ i m e.
      ⊎_elim
      (λ (within : i < 11). was.registers i m (sym (is.registers i within) ∙ e))
      (λ (past : 11 ≤ i). absurd (none_some _ m (past_end marks.registers i (omega arith)) e))
      (cases_lt i 11);
  slots = λ i m e.
      ⊎_elim
      (λ (within : i < 64). was.slots i m (sym (is.slots i within) ∙ e))
      (λ (past : 64 ≤ i). absurd (none_some _ m (past_end marks.slots i (omega arith)) e))
      (cases_lt i 64);
}
