-- In a plain program each register that is read is a number.
use Rattle.std.proofs.Common.{◌≡◌, ℕ, ◌<◌, ◌⊎◌, inl, inr, ⊎_elim, Option, Some, None, List, [], ◌∷◌, refl, sym, ap, subst, arith}
use Rattle.std.specs.List.{Contains}
use Rattle.std.proofs.lemmas.List.Elements.{Contains-append_cases, Contains-append_left, Contains-append_right, Contains-push_cases}
use Rattle.std.proofs.lemmas.Bool.{cases_eq}
use Rattle.std.proofs.lemmas.Option.{same_Some}
use Rattle.span_context.specs.declared.profile.Profile.{Profile}
use Rattle.bpf_words.specs.declared.instruction.Arithmetic.{Arithmetic}
use Rattle.bpf_words.specs.declared.instruction.Arithmetic.TheVariants.{Add, Sub, Mul, Div, Or, And, Lsh, Rsh, Mod, Xor, Mov, Arsh, SignedDiv, SignedMod}
use Rattle.bpf_words.specs.declared.instruction.Operand.{Operand}
use Rattle.bpf_words.specs.declared.instruction.Operand.TheVariants.{Immediate, Source}
use Rattle.bpf_words.specs.declared.instruction.Insn.{Insn}
use Rattle.bpf_words.specs.declared.instruction.Insn.TheVariants.{Compute, Negate, Extend, Convert, Jump, JumpLong, Branch, Load, LoadSigned, Store, LoadWide, Exit}
use Rattle.bpf_words.specs.Flow.{StartsAt, read_by, read_first, read_operand, written_by}
use Rattle.semantics.specs.Step.{Program}
use Rattle.abstract_state.specs.declared.state.AbsState.{AbsState}
use Rattle.abstract_state.specs.State.{register_at}
use Rattle.abstract_state.specs.Kinds.{HasNumberAt, HasNumberIn, IsContextAt, ReadsFirst, ReadsNumbers}
use Rattle.verifier.specs.Plain.{IsFree, IsFreeOperand, IsPlainInsn, IsPlain, Leads, Path, begins, goes, with_written}
use Rattle.verifier.proofs.Learnt.{IsAside, aside_keeps, keeps_context}
use Rattle.verifier.specs.Arises.{Leaves, Takes, Arises, first, fell, jumped, joined, MayRefuse, of_numbers}

pub nothing_in : (i : ℕ) → Contains [] i → ⊥
nothing_in i (k, h, e) = omega arith

pub is_written : (o : Option ℕ) (i : ℕ) → (o ≡ Some i) ⊎ (o ≡ Some i → ⊥)
is_written None i = inr (λ e. cc)
is_written (Some r) i =
    ⊎_elim (λ (same : r ≡ i). inl (ap Some same)) (λ (other : r ≡ i → ⊥). inr (λ e. other (same_Some r i e))) (cases_eq r i)

pub not_in : (o : Option ℕ) (done : List ℕ) (i : ℕ) → (o ≡ Some i → ⊥) → (Contains done i → ⊥) → Contains (with_written o done) i → ⊥
not_in None done i spared missing c = missing c
not_in (Some r) done i spared missing c =
    ⊎_elim (λ one. ⊎_elim (nothing_in i) (λ same. spared (ap Some same)) (Contains-push_cases [] r i one)) missing (Contains-append_cases (r ∷ []) done i c)

-- a register is a number, or a path leaves it unwritten
abbrev pub Known : Program → ℕ → AbsState → ℕ → Type 0
Known program slot a i = HasNumberAt a i ⊎ ((done : List ℕ) × Path program slot done × (Contains done i → ⊥))

-- what is known before a slot of a plain program
record PlainAt (program : Program) (slot : ℕ) (a : AbsState) : Type 0 where
  context : IsContextAt 0 (register_at a.registers 1)
  registers : (i : ℕ) → i < 11 → Known program slot a i

-- ---- what is read
first_number : (a : AbsState) (op : Arithmetic) (d : ℕ) → (Contains (read_first op d) d → HasNumberAt a d) → ReadsFirst a op d
first_number a Add d h = h (0, omega arith, refl)
first_number a Sub d h = h (0, omega arith, refl)
first_number a Mul d h = h (0, omega arith, refl)
first_number a Div d h = h (0, omega arith, refl)
first_number a Or d h = h (0, omega arith, refl)
first_number a And d h = h (0, omega arith, refl)
first_number a Lsh d h = h (0, omega arith, refl)
first_number a Rsh d h = h (0, omega arith, refl)
first_number a Mod d h = h (0, omega arith, refl)
first_number a Xor d h = h (0, omega arith, refl)
first_number a Mov d h = tt
first_number a Arsh d h = h (0, omega arith, refl)
first_number a SignedDiv d h = h (0, omega arith, refl)
first_number a SignedMod d h = h (0, omega arith, refl)

pub operand_number : (a : AbsState) (o : Operand) → IsFreeOperand o → ((r : ℕ) → Contains (read_operand o) r → IsFree r → HasNumberAt a r) → HasNumberIn a o
operand_number a (Immediate value) free h = tt
operand_number a (Source register) free h = h register (0, omega arith, refl) free

pub reads : (a : AbsState) (insn : Insn) → IsPlainInsn insn → IsContextAt 0 (register_at a.registers 1) → ((r : ℕ) → Contains (read_by insn) r → IsFree r → HasNumberAt a r) → ReadsNumbers a insn
reads a (Compute w op d o) (fd, fo) context h = (
  first_number a op d (λ c. h d (Contains-append_left (read_first op d) (read_operand o) d c) fd),
  operand_number a o fo (λ r c f. h r (Contains-append_right (read_first op d) (read_operand o) r c) f),
)
reads a (Negate w d) free context h = h d (0, omega arith, refl) free
reads a (Extend x d r) (fd, fr) context h = h r (0, omega arith, refl) fr
reads a (Convert c b d) free context h = h d (0, omega arith, refl) free
reads a (Jump distance) p context h = tt
reads a (JumpLong distance) p context h = tt
reads a (Branch w c l r distance) (fl, fr) context h =
    (h l (0, omega arith, refl) fl, operand_number a r fr (λ i c f. h i (Contains-append_right (l ∷ []) (read_operand r) i c) f))
reads a (Load z d b o) (fd, base, field) context h = (subst (λ k. IsContextAt 0 (register_at a.registers k)) (sym base) context, field)
reads a (LoadSigned z d b o) p context h = p
reads a (Store z b o v) p context h = p
reads a (LoadWide d v) p context h = tt
reads a Exit p context h = h 0 (0, omega arith, refl) (omega arith, λ e. (omega arith))

reads_at : (program : Program) (slot : ℕ) (a : AbsState) (insn : Insn) → IsPlain program → PlainAt program slot a → StartsAt program slot insn → ReadsNumbers a insn
reads_at program slot a insn plain at starts =
    reads a insn (plain.scalar slot insn starts) at.context
    (λ r read free.
    let below = free.0 in
    ⊎_elim
    (λ (number : HasNumberAt a r). number)
    (λ (path : (done : List ℕ) × Path program slot done × (Contains done r → ⊥)). absurd (path.2 (plain.set slot r path.0 insn path.1 starts read free.1)))
    (at.registers r (omega arith)))

-- ---- what an instruction leaves
is_no_side : (left : ℕ) (right : Operand) → IsFree left → IsFreeOperand right → IsAside left right 1
is_no_side left (Immediate value) free operand = record { few = omega arith; left = λ e. free.1 (sym e); right = λ e. cc }
is_no_side left (Source register) free operand = record {
  few = omega arith;
  left = λ e. free.1 (sym e);
  right = λ e. let same : register ≡ 1 = cc in operand.1 same;
}

same_context : (a b : AbsState) → register_at b.registers 1 ≡ register_at a.registers 1 → IsContextAt 0 (register_at a.registers 1) → IsContextAt 0 (register_at b.registers 1)
same_context a b same at = subst (IsContextAt 0) (sym same) at

leaves_r1 : (profile : Profile) (a b : AbsState) (insn : Insn) → IsPlainInsn insn → Leaves profile a insn b → IsContextAt 0 (register_at a.registers 1) → IsContextAt 0 (register_at b.registers 1)
leaves_r1 profile a b (Compute w op d o) (free, fo) leaves at = same_context a b (leaves.0.others 1 (λ e. free.1 (sym e))) at
leaves_r1 profile a b (Negate w d) free leaves at = same_context a b (leaves.0.others 1 (λ e. free.1 (sym e))) at
leaves_r1 profile a b (Extend x d r) (free, fr) leaves at = same_context a b (leaves.0.others 1 (λ e. free.1 (sym e))) at
leaves_r1 profile a b (Convert c x d) free leaves at = same_context a b (leaves.0.others 1 (λ e. free.1 (sym e))) at
leaves_r1 profile a b (Jump distance) p leaves at = same_context a b (ap (λ (s : AbsState). register_at s.registers 1) leaves.0) at
leaves_r1 profile a b (JumpLong distance) p leaves at = same_context a b (ap (λ (s : AbsState). register_at s.registers 1) leaves.0) at
leaves_r1 profile a b (Branch w c l r distance) (fl, fr) leaves at =
    keeps_context 0 (register_at a.registers 1) (register_at b.registers 1) (aside_keeps l r 1 a b (is_no_side l r fl fr) leaves.0) at
leaves_r1 profile a b (Load z d base o) (free, fb, ff) leaves at = same_context a b (leaves.0.others 1 (λ e. free.1 (sym e))) at
leaves_r1 profile a b (LoadSigned z d base o) p leaves at = absurd p
leaves_r1 profile a b (Store z base o v) p leaves at = absurd p
leaves_r1 profile a b (LoadWide d v) free leaves at = same_context a b (leaves.0.others 1 (λ e. free.1 (sym e))) at
leaves_r1 profile a b Exit p leaves at = same_context a b (ap (λ (s : AbsState). register_at s.registers 1) leaves.0) at

carried_at : (profile : Profile) (program : Program) (slot to : ℕ) (a b : AbsState) (insn : Insn) → IsPlain program → PlainAt program slot a → StartsAt program slot insn → Leads insn slot to → Takes profile a insn b → PlainAt program to b
carried_at profile program slot to a b insn plain at starts leads takes =
    let taken = takes.numbers (reads_at program slot a insn plain at starts) in
    record {
      context = leaves_r1 profile a b insn (plain.scalar slot insn starts) takes.leaves at.context;
      registers = λ i h.
          ⊎_elim
          (λ (wrote : written_by insn ≡ Some i). inl (taken.written i wrote))
          (λ (spared : written_by insn ≡ Some i → ⊥).
          ⊎_elim
          (λ (was : HasNumberAt a i). inl (taken.kept i was))
          (λ (path : (done : List ℕ) × Path program slot done × (Contains done i → ⊥)).
          inr (with_written (written_by insn) path.0, goes path.1 starts leads, not_in (written_by insn) path.0 i spared path.2))
          (at.registers i h))
          (is_written (written_by insn) i);
    }

plain_at : (profile : Profile) (program : Program) (slot : ℕ) (a : AbsState) → IsPlain program → Arises profile program slot a → PlainAt program slot a
plain_at profile program slot a plain (first context frame unset) = record {
  context = context;
  registers = λ i h. inr ([], begins, nothing_in i);
}
plain_at profile program slot a plain (fell {slot = before} {a = old} {insn = insn} from starts falls takes long) =
    carried_at profile program before slot old a insn plain (plain_at profile program before old plain from) starts (inl (falls, refl)) takes
plain_at profile program slot a plain (jumped {slot = before} {n = n} {a = old} {insn = insn} from starts jumps takes) =
    carried_at profile program before slot old a insn plain (plain_at profile program before old plain from) starts (inr (n, jumps, refl)) takes
plain_at profile program slot a plain (joined {a = left} {b = right} target one two joins) =
    let at_left = plain_at profile program slot left plain one in
    let at_right = plain_at profile program slot right plain two in
    record {
      context = (joins.registers 1 (omega arith)).context 0 at_left.context at_right.context;
      registers = λ i h.
          ⊎_elim
          (λ (x : HasNumberAt left i). ⊎_elim (λ (y : HasNumberAt right i). inl ((joins.registers i h).numbers x y)) (λ p. inr p) (at_right.registers i h))
          (λ p. inr p)
          (at_left.registers i h);
    }

-- each instruction of a plain program reads numbers alone, so it is never refused
pub plain_grants : (profile : Profile) (program : Program) → IsPlain program → MayRefuse profile program → ⊥
plain_grants profile program plain may =
    may.refused (of_numbers (reads_at program may.slot may.state may.insn plain (plain_at profile program may.slot may.state plain may.arises) may.starts))
