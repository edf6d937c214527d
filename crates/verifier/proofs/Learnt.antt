-- What is left past a comparison, though its sides tell their copies.
use Rattle.std.specs.Prelude.{slice_index_or}
use Rattle.std.proofs.Common.{◌≡◌, ◌≢◌, ℕ, ◌/◌, ◌%◌, ◌<◌, ◌≤◌, Bool, true, false, Option, Some, List, refl, sym, subst, arith}
use Rattle.bpf_words.specs.declared.instruction.Operand.{Operand}
use Rattle.bpf_words.specs.declared.instruction.Operand.TheVariants.{Source}
use Rattle.abstract_state.specs.declared.address.LentAddress.{LentAddress}
use Rattle.abstract_state.specs.declared.known.Known.TheVariants.{Number, Context, Stack, Lent}
use Rattle.abstract_state.specs.declared.slot.Slot.{Slot}
use Rattle.abstract_state.specs.declared.slot.Slot.TheVariants.{Marks, Spilled}
use Rattle.abstract_state.specs.declared.state.AbsReg.{AbsReg}
use Rattle.abstract_state.specs.declared.state.AbsReg.TheVariants.{Unset, Set}
use Rattle.abstract_state.specs.declared.state.AbsState.{AbsState}
use Rattle.abstract_state.specs.Addresses.{Content, content_of}
use Rattle.abstract_state.specs.Frame.{IsMarkedAt}
use Rattle.abstract_state.specs.Kinds.{KeepsKind, IsContextAt, IsStackAt, IsMarked}
use Rattle.abstract_state.specs.Situation.{register_of}
use Rattle.abstract_state.specs.Stacks.{Eight, eight_of}
use Rattle.abstract_state.specs.State.{register_at, slot_at}
use Rattle.tracked_state.specs.Learning.{LearnsRegister, LearnsEight, LearnsSides}
use Rattle.tracked_state.proofs.Learned.{kind_kept}

-- a register that is on neither side
pub record IsAside (one : ℕ) (other : Operand) (i : ℕ) : Type 0 where
  pub few : i < 11
  pub left : i ≢ one
  pub right : other ≡ Source i → ⊥

pub aside_learns : (left : ℕ) (right : Operand) (i : ℕ) (a b : AbsState) → IsAside left right i → LearnsSides left right a b → LearnsRegister (register_of (register_at a.registers i)) (register_of (register_at b.registers i))
aside_learns left right i a b aside (e, leaves, memory, (t, is, learns)) =
    let same : register_at e.registers i ≡ register_at a.registers i = leaves.others i aside.left aside.right in
    subst (λ (r : AbsReg). LearnsRegister (register_of r) (register_of (register_at b.registers i))) same
    (subst (λ (o : Option Content). LearnsRegister (register_of (register_at e.registers i)) o) (sym (is.registers i aside.few)) (learns.registers i))

pub aside_keeps : (left : ℕ) (right : Operand) (i : ℕ) (a b : AbsState) → IsAside left right i → LearnsSides left right a b → KeepsKind (register_at a.registers i) (register_at b.registers i)
aside_keeps left right i a b aside learns = kind_kept (register_at a.registers i) (register_at b.registers i) (aside_learns left right i a b aside learns)

pub keeps_context : (n : ℕ) (x y : AbsReg) → KeepsKind x y → IsContextAt n x → IsContextAt n y
keeps_context n Unset y keeps at = absurd at
keeps_context n (Set (Number q)) y keeps at = absurd at
keeps_context n (Set (Context p)) y keeps at = subst (IsContextAt n) (sym keeps) at
keeps_context n (Set (Stack p)) y keeps at = absurd at
keeps_context n (Set (Lent p)) y keeps at = absurd at

pub keeps_stack : (n : ℕ) (x y : AbsReg) → KeepsKind x y → IsStackAt n x → IsStackAt n y
keeps_stack n Unset y keeps at = absurd at
keeps_stack n (Set (Number q)) y keeps at = absurd at
keeps_stack n (Set (Context p)) y keeps at = absurd at
keeps_stack n (Set (Stack p)) y keeps at = subst (IsStackAt n) (sym keeps) at
keeps_stack n (Set (Lent p)) y keeps at = absurd at

pub keeps_unset : (x y : AbsReg) → KeepsKind x y → x ≡ Unset → y ≡ Unset
keeps_unset Unset y keeps unset = keeps
keeps_unset (Set known) y keeps unset = absurd (cc (unset))

-- ---- an address in a lent region stays in it, and no further from its begin
lent_stays : (p : LentAddress) (y : AbsReg) → LearnsRegister (Some (content_of (Lent p))) (register_of y) → (q : LentAddress) × (y ≡ Set (Lent q)) × (p.region ≡ q.region) × (q.offset.range.high ≤ p.offset.range.high)
lent_stays p Unset learns = absurd learns
lent_stays p (Set (Number q)) learns = absurd learns
lent_stays p (Set (Context q)) learns = absurd learns
lent_stays p (Set (Stack q)) learns = absurd learns
lent_stays p (Set (Lent q)) learns = (q, refl, learns.0, learns.1.1)

pub lent_learns : (p : LentAddress) (x y : AbsReg) → x ≡ Set (Lent p) → LearnsRegister (register_of x) (register_of y) → (q : LentAddress) × (y ≡ Set (Lent q)) × (p.region ≡ q.region) × (q.offset.range.high ≤ p.offset.range.high)
lent_learns p x y is learns = lent_stays p y (subst (λ (r : AbsReg). LearnsRegister (register_of r) (register_of y)) is learns)

-- ---- bytes of the stack that are set for sure
marked_stays : (x y : Slot) (j : ℕ) → LearnsEight (eight_of x) (eight_of y) → IsMarked x j → IsMarked y j
marked_stays (Marks marks) (Marks others) j learns marked = let same : others ≡ marks = cc in subst (λ (m : List Bool). slice_index_or m j false ≡ true) (sym same) marked
marked_stays (Marks marks) (Spilled known) j learns marked = absurd (cc (learns))
marked_stays (Spilled (Number q)) (Spilled (Number r)) j learns marked = tt
marked_stays (Spilled (Number q)) (Spilled (Context r)) j learns marked = absurd learns
marked_stays (Spilled (Number q)) (Spilled (Stack r)) j learns marked = absurd learns
marked_stays (Spilled (Number q)) (Spilled (Lent r)) j learns marked = absurd learns
marked_stays (Spilled (Number q)) (Marks marks) j learns marked = absurd learns
marked_stays (Spilled (Context q)) y j learns marked = absurd marked
marked_stays (Spilled (Stack q)) y j learns marked = absurd marked
marked_stays (Spilled (Lent q)) y j learns marked = absurd marked

pub bytes_stay : (left : ℕ) (right : Operand) (p : ℕ) (a b : AbsState) → p < 512 → LearnsSides left right a b → IsMarkedAt a.stack p → IsMarkedAt b.stack p
bytes_stay left right p a b less (e, leaves, memory, (t, is, learns)) marked =
    let there : IsMarkedAt e.stack p = subst (λ (slots : List Slot). IsMarkedAt slots p) (sym memory.0) marked in
    marked_stays (slot_at e.stack (p / 8)) (slot_at b.stack (p / 8)) (p % 8)
    (subst (λ (s : Eight). LearnsEight (eight_of (slot_at e.stack (p / 8))) s) (sym (is.slots (p / 8) (omega (arith, less)))) (learns.slots (p / 8)))
    there
