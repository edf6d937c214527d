-- In a guard program each instruction is granted.
use Rattle.std.proofs.Common.{◌≡◌, ℕ, zero, suc, ◌+◌, ◌<◌, ◌≤◌, true, Some, None, length, refl, sym, ap, ◌∙◌, subst, arith}
use Rattle.std.specs.Prelude.{pos}
use Rattle.std.specs.List.{slice_get}
use Rattle.std.proofs.lemmas.Option.{same_Some}
use Rattle.span_context.specs.declared.profile.Profile.{Profile}
use Rattle.span_context.specs.declared.size.Size.TheVariants.{Byte, Double}
use Rattle.bpf_words.specs.declared.instruction.Width.TheVariants.{Full}
use Rattle.bpf_words.specs.declared.instruction.Arithmetic.TheVariants.{Mov, Add}
use Rattle.bpf_words.specs.declared.instruction.Comparison.TheVariants.{Greater}
use Rattle.bpf_words.specs.declared.instruction.Operand.TheVariants.{Immediate, Source}
use Rattle.bpf_words.specs.declared.instruction.Insn.{Insn}
use Rattle.bpf_words.specs.declared.instruction.Insn.TheVariants.{Compute, Branch, Load, Exit}
use Rattle.bpf_words.specs.Flow.{StartsAt, jump_of, slots_of, falls_through, written_by}
use Rattle.semantics.specs.Step.{Program}
use Rattle.abstract_state.specs.declared.region.Region.{Region}
use Rattle.abstract_state.specs.Lent.{begin_field, end_field, limit_of, bound_of, tail_of, Lends}
use Rattle.abstract_state.specs.declared.address.LentAddress.{LentAddress}
use Rattle.abstract_state.specs.declared.known.Known.TheVariants.{Lent}
use Rattle.abstract_state.specs.declared.state.AbsReg.{AbsReg}
use Rattle.abstract_state.specs.declared.state.AbsReg.TheVariants.{Set}
use Rattle.abstract_state.specs.declared.state.AbsState.{AbsState}
use Rattle.abstract_state.specs.State.{register_at}
use Rattle.abstract_state.specs.Kinds.{HasNumberAt, IsContextAt}
use Rattle.abstract_state.specs.Exact.{Fact, LentIn, NumberIn, AnyNumber, Holds, tail_after}
use Rattle.abstract_state.specs.Guard.{Yields, lent_begin, lent_end, lent_moved, lent_added, copied, lent_read}
use Rattle.abstract_state.proofs.Exact.{any_is_number, in_is_number, lent_set}
use Rattle.abstract_state.proofs.KindLaws.{keeps_number}
use Rattle.abstract_state.proofs.Regions.{limit_low}
use Rattle.tracked_state.specs.Learning.{LearnsSides}
use Rattle.verifier.proofs.Learnt.{IsAside, aside_learns, aside_keeps, lent_learns}
use Rattle.verifier.specs.declared.refusal.StructureFault.TheVariants.{BackwardJump, JumpOut, JumpIntoWide, FallOff, WriteR10}
use Rattle.verifier.specs.Structure.{IsSound, IsStructured}
use Rattle.verifier.specs.Guard.{guard, IsGuard}
use Rattle.verifier.specs.Arises.{Guards, behind, IsGranted, of_numbers, of_row, of_guard, Takes, IsLongBehind, IsTarget, Arises, first, fell, jumped, joined, MayRefuse}

-- ---- its instructions
data Row (region : Region) (n offset : ℕ) : ℕ → Insn → Type 0 where
  row_begin : Row region n offset 0 (Load Double 2 1 (pos (begin_field region)))
  row_end : Row region n offset 1 (Load Double 3 1 (pos (end_field region)))
  row_move : Row region n offset 2 (Compute Full Mov 4 (Source 2))
  row_add : Row region n offset 3 (Compute Full Add 4 (Immediate (pos n)))
  row_zero : Row region n offset 4 (Compute Full Mov 0 (Immediate (pos 0)))
  row_branch : Row region n offset 5 (Branch Full Greater 4 (Source 3) (pos 1))
  row_read : Row region n offset 6 (Load Byte 0 2 (pos offset))
  row_exit : Row region n offset 7 Exit

row_here : (region : Region) (n offset slot : ℕ) (here insn : Insn) → Row region n offset slot here → Some (Some here) ≡ Some (Some insn) → Row region n offset slot insn
row_here region n offset slot here insn row e = subst (Row region n offset slot) (same_Some here insn (same_Some (Some here) (Some insn) e)) row

row_at : (region : Region) (n offset slot : ℕ) (insn : Insn) → StartsAt (guard region n offset) slot insn → Row region n offset slot insn
row_at region n offset zero insn e = row_here region n offset 0 _ insn row_begin e
row_at region n offset (suc zero) insn e = row_here region n offset 1 _ insn row_end e
row_at region n offset (suc (suc zero)) insn e = row_here region n offset 2 _ insn row_move e
row_at region n offset (suc (suc (suc zero))) insn e = row_here region n offset 3 _ insn row_add e
row_at region n offset (suc (suc (suc (suc zero)))) insn e = row_here region n offset 4 _ insn row_zero e
row_at region n offset (suc (suc (suc (suc (suc zero))))) insn e = row_here region n offset 5 _ insn row_branch e
row_at region n offset (suc (suc (suc (suc (suc (suc zero)))))) insn e = row_here region n offset 6 _ insn row_read e
row_at region n offset (suc (suc (suc (suc (suc (suc (suc zero))))))) insn e = row_here region n offset 7 _ insn row_exit e
row_at region n offset (suc (suc (suc (suc (suc (suc (suc (suc k)))))))) insn e = absurd (cc)

-- ---- its structure
straight_sound : (program : Program) (slot : ℕ) (insn : Insn) → jump_of insn ≡ None → slot + slots_of insn < length program → (written_by insn ≡ Some 10 → ⊥) → IsSound program slot insn
straight_sound program slot insn none within spared BackwardJump (d, jumps, back) = absurd (cc)
straight_sound program slot insn none within spared JumpOut (d, jumps, out) = absurd (cc)
straight_sound program slot insn none within spared JumpIntoWide (d, jumps, into) = absurd (cc)
straight_sound program slot insn none within spared FallOff (going, out) = omega arith
straight_sound program slot insn none within spared WriteR10 writes = spared writes

other_written : (i : ℕ) → i < 10 → Some i ≡ Some 10 → ⊥
other_written i small e = let same = same_Some i 10 e in omega arith

branch_sound : (region : Region) (n offset : ℕ) → IsSound (guard region n offset) 5 (Branch Full Greater 4 (Source 3) (pos 1))
branch_sound region n offset BackwardJump (d, jumps, (m, back)) = absurd (cc)
branch_sound region n offset JumpOut (d, jumps, (m, to, out)) =
    let one : m ≡ 1 = cc in
    omega arith
branch_sound region n offset JumpIntoWide (d, jumps, (m, to, into)) =
    let one : m ≡ 1 = cc in
    let none : Some (Some Exit) ≡ Some None = subst (λ k. slice_get (guard region n offset) (5 + 1 + k) ≡ Some None) one into in
    absurd (cc)
branch_sound region n offset FallOff (going, out) = omega arith
branch_sound region n offset WriteR10 writes = absurd (cc)

exit_sound : (program : Program) (slot : ℕ) → IsSound program slot Exit
exit_sound program slot BackwardJump (d, jumps, back) = absurd (cc)
exit_sound program slot JumpOut (d, jumps, out) = absurd (cc)
exit_sound program slot JumpIntoWide (d, jumps, into) = absurd (cc)
exit_sound program slot FallOff (going, out) = going refl
exit_sound program slot WriteR10 writes = absurd (cc)

row_sound : (region : Region) (n offset slot : ℕ) (insn : Insn) → Row region n offset slot insn → IsSound (guard region n offset) slot insn
row_sound region n offset slot insn row_begin = straight_sound (guard region n offset) 0 (Load Double 2 1 (pos (begin_field region))) refl (omega arith) (other_written 2 (omega arith))
row_sound region n offset slot insn row_end = straight_sound (guard region n offset) 1 (Load Double 3 1 (pos (end_field region))) refl (omega arith) (other_written 3 (omega arith))
row_sound region n offset slot insn row_move = straight_sound (guard region n offset) 2 (Compute Full Mov 4 (Source 2)) refl (omega arith) (other_written 4 (omega arith))
row_sound region n offset slot insn row_add = straight_sound (guard region n offset) 3 (Compute Full Add 4 (Immediate (pos n))) refl (omega arith) (other_written 4 (omega arith))
row_sound region n offset slot insn row_zero = straight_sound (guard region n offset) 4 (Compute Full Mov 0 (Immediate (pos 0))) refl (omega arith) (other_written 0 (omega arith))
row_sound region n offset slot insn row_branch = branch_sound region n offset
row_sound region n offset slot insn row_read = straight_sound (guard region n offset) 6 (Load Byte 0 2 (pos offset)) refl (omega arith) (other_written 0 (omega arith))
row_sound region n offset slot insn row_exit = exit_sound (guard region n offset) 7

pub guard_structured : (profile : Profile) (program : Program) → IsGuard profile program → IsStructured program
guard_structured profile program is = subst IsStructured (sym is.is) (λ slot insn within starts. row_sound is.region is.count is.offset slot insn (row_at is.region is.count is.offset slot insn starts))

-- ---- what is known before its instructions
abbrev Holding : AbsState → ℕ → Fact → Type 0
Holding a register fact = Holds fact (register_at a.registers register)

-- r2 is the region's begin
abbrev HasBegin : Region → AbsState → Type 0
HasBegin region a = Holding a 2 (LentIn region 0 0 (Some 0))

-- and r3 its end
abbrev HasEnds : Region → AbsState → Type 0
HasEnds region a = HasBegin region a × Holding a 3 (LentIn region 0 (limit_of region) (Some 0))

-- past a comparison r2 is in the region still, and not past its begin
abbrev IsNearBegin : Region → AbsState → Type 0
IsNearBegin region a =
    (p : LentAddress) × (register_at a.registers 2 ≡ Set (Lent p)) × (p.region ≡ region) × (p.offset.range.high ≤ 0)

stays_near : (region : Region) (a b : AbsState) → LearnsSides 4 (Source 3) a b → HasBegin region a → IsNearBegin region b
stays_near region a b learns begin =
    let address = lent_set region 0 0 (Some 0) (register_at a.registers 2) begin in
    let aside : IsAside 4 (Source 3) 2 = record { few = omega arith; left = λ e. omega arith; right = λ e. cc } in
    let (q, is, same, less) = lent_learns address.0 (register_at a.registers 2) (register_at b.registers 2) address.1 (aside_learns 4 (Source 3) 2 a b aside learns) in
    let high : address.0.offset.range.high ≡ 0 = address.3.1 in
    (q, is, sym same ∙ address.2, omega (arith, high, less))

abbrev At : Region → ℕ → ℕ → AbsState → Type 0
At region n zero a = IsContextAt 0 (register_at a.registers 1)
At region n (suc zero) a = IsContextAt 0 (register_at a.registers 1) × HasBegin region a
At region n (suc (suc zero)) a = HasEnds region a
At region n (suc (suc (suc zero))) a = HasEnds region a × Holding a 4 (LentIn region 0 0 (Some 0))
At region n (suc (suc (suc (suc zero)))) a = HasEnds region a × Holding a 4 (LentIn region n n (tail_after (Some 0) n))
At region n (suc (suc (suc (suc (suc zero))))) a = HasEnds region a × Holding a 4 (LentIn region n n (tail_after (Some 0) n)) × HasNumberAt a 0
At region n (suc (suc (suc (suc (suc (suc zero)))))) a = IsNearBegin region a × (n ≤ bound_of a.bounds region)
At region n (suc (suc (suc (suc (suc (suc (suc zero))))))) a = HasNumberAt a 0
At region n (suc (suc (suc (suc (suc (suc (suc (suc k)))))))) a = Unit {0}

-- a register that stays
stays : (a b : AbsState) (i : ℕ) (P : AbsReg → Type 0) → register_at b.registers i ≡ register_at a.registers i → P (register_at a.registers i) → P (register_at b.registers i)
stays a b i P same holds = subst P (sym same) holds

ends_stay : (region : Region) (a b : AbsState) → register_at b.registers 2 ≡ register_at a.registers 2 → register_at b.registers 3 ≡ register_at a.registers 3 → HasEnds region a → HasEnds region b
ends_stay region a b two three ends = (stays a b 2 (Holds (LentIn region 0 0 (Some 0))) two ends.0, stays a b 3 (Holds (LentIn region 0 (limit_of region) (Some 0))) three ends.1)

-- what the sizes of a guard allow
record IsSized (profile : Profile) (region : Region) (n offset : ℕ) : Type 0 where
  lends : Lends region profile
  short : n ≤ limit_of region
  within : offset < n
  fits : offset ≤ 32767

adds : (profile : Profile) (region : Region) (n : ℕ) (a : AbsState) → n ≤ limit_of region → At region n 3 a → Yields profile a (Compute Full Add 4 (Immediate (pos n))) 4 (LentIn region n n (tail_after (Some 0) n))
adds profile region n a short at =
    let low = limit_low region in
    let same : 0 + n ≡ n = omega arith in
    subst (λ k. Yields profile a (Compute Full Add 4 (Immediate (pos n))) 4 (LentIn region k k (tail_after (Some 0) n))) same (lent_added region 4 n 0 (Some 0) at.1 (omega arith))

tests : (region : Region) (n : ℕ) (a : AbsState) → At region n 5 a → Guards a (Branch Full Greater 4 (Source 3) (pos 1)) region n
tests region n a at =
    let left = lent_set region n n (tail_after (Some 0) n) (register_at a.registers 4) at.1 in
    let right = lent_set region 0 (limit_of region) (Some 0) (register_at a.registers 3) at.0.1 in
    let ends : tail_of right.0.offset.tails left.0.region ≡ Some 0 =
    ap (λ (r : Region). tail_of right.0.offset.tails r) left.2 ∙ right.3.2 in
    let given : Guards a (Branch Full Greater 4 (Source 3) (pos 1)) left.0.region left.0.offset.range.low =
    behind 4 3 0 left.0 right.0 (pos 1) (λ e. omega arith) left.1 right.1 (left.2 ∙ sym right.2) ends in
    subst (λ (r : Region). Guards a (Branch Full Greater 4 (Source 3) (pos 1)) r n) left.2
    (subst (λ (k : ℕ). Guards a (Branch Full Greater 4 (Source 3) (pos 1)) left.0.region k) left.3.0 given)

reads : (profile : Profile) (region : Region) (n offset : ℕ) (a : AbsState) → IsSized profile region n offset → At region n 6 a → Yields profile a (Load Byte 0 2 (pos offset)) 0 AnyNumber
reads profile region n offset a sized at =
    let inside = sized.within in
    let fits = sized.fits in
    let long = at.1 in
    let address = at.0 in
    let high : address.0.offset.range.high ≤ 0 = address.3 in
    let same : bound_of a.bounds address.0.region ≡ bound_of a.bounds region = ap (bound_of a.bounds) address.2 in
    lent_read Byte 0 2 offset address.0 address.1 (omega arith) (omega arith)

row_granted : (profile : Profile) (region : Region) (n offset slot : ℕ) (insn : Insn) (a : AbsState) → IsSized profile region n offset → Row region n offset slot insn → At region n slot a → IsGranted profile a insn
row_granted profile region n offset slot insn a sized row_begin at = of_row 2 _ (lent_begin region 2 1 sized.lends at)
row_granted profile region n offset slot insn a sized row_end at = of_row 3 _ (lent_end region 3 1 sized.lends at.0)
row_granted profile region n offset slot insn a sized row_move at = of_row 4 _ (lent_moved region 4 2 0 (Some 0) at.0)
row_granted profile region n offset slot insn a sized row_add at = of_row 4 _ (adds profile region n a sized.short at)
row_granted profile region n offset slot insn a sized row_zero at = of_row 0 _ (copied region 0 0 (Immediate (pos 0)) refl)
row_granted profile region n offset slot insn a sized row_branch at = of_guard region n (tests region n a at)
row_granted profile region n offset slot insn a sized row_read at = of_row 0 AnyNumber (reads profile region n offset a sized at)
row_granted profile region n offset slot insn a sized row_exit at = of_numbers at

-- what falls into the next slot
fell_at : (profile : Profile) (region : Region) (n offset slot : ℕ) (insn : Insn) (a b : AbsState) → IsSized profile region n offset → Row region n offset slot insn → At region n slot a → Takes profile a insn b → IsLongBehind a insn b → falls_through insn ≡ true → At region n (slot + slots_of insn) b
fell_at profile region n offset slot insn a b sized row_begin at takes long falls = (
  stays a b 1 (IsContextAt 0) (takes.leaves.0.others 1 (λ e. omega arith)) at,
  takes.yields 2 (LentIn region 0 0 (Some 0)) (lent_begin region 2 1 sized.lends at),
)
fell_at profile region n offset slot insn a b sized row_end at takes long falls = (
  stays a b 2 (Holds (LentIn region 0 0 (Some 0))) (takes.leaves.0.others 2 (λ e. omega arith)) at.1,
  takes.yields 3 (LentIn region 0 (limit_of region) (Some 0)) (lent_end region 3 1 sized.lends at.0),
)
fell_at profile region n offset slot insn a b sized row_move at takes long falls = (
  ends_stay region a b (takes.leaves.0.others 2 (λ e. omega arith)) (takes.leaves.0.others 3 (λ e. omega arith)) at,
  takes.yields 4 (LentIn region 0 0 (Some 0)) (lent_moved region 4 2 0 (Some 0) at.0),
)
fell_at profile region n offset slot insn a b sized row_add at takes long falls = (
  ends_stay region a b (takes.leaves.0.others 2 (λ e. omega arith)) (takes.leaves.0.others 3 (λ e. omega arith)) at.0,
  takes.yields 4 (LentIn region n n (tail_after (Some 0) n)) (adds profile region n a sized.short at),
)
fell_at profile region n offset slot insn a b sized row_zero at takes long falls = (
  ends_stay region a b (takes.leaves.0.others 2 (λ e. omega arith)) (takes.leaves.0.others 3 (λ e. omega arith)) at.0,
  stays a b 4 (Holds (LentIn region n n (tail_after (Some 0) n))) (takes.leaves.0.others 4 (λ e. omega arith)) at.1,
  in_is_number region 0 0 None _ (takes.yields 0 (NumberIn region 0 0 None) (copied region 0 0 (Immediate (pos 0)) refl)),
)
fell_at profile region n offset slot insn a b sized row_branch at takes long falls = (
  stays_near region a b takes.leaves.0 at.0.0,
  long region n (tests region n a at),
)
fell_at profile region n offset slot insn a b sized row_read at takes long falls = any_is_number _ (takes.yields 0 AnyNumber (reads profile region n offset a sized at))
fell_at profile region n offset slot insn a b sized row_exit at takes long falls = absurd (cc)

-- the one jump leads to the exit
one_jump : (region : Region) (n offset slot k : ℕ) (insn : Insn) → Row region n offset slot insn → jump_of insn ≡ Some (pos k) → slot + 1 + k ≡ 7
one_jump region n offset slot k insn row_begin jumps = absurd (cc)
one_jump region n offset slot k insn row_end jumps = absurd (cc)
one_jump region n offset slot k insn row_move jumps = absurd (cc)
one_jump region n offset slot k insn row_add jumps = absurd (cc)
one_jump region n offset slot k insn row_zero jumps = absurd (cc)
one_jump region n offset slot k insn row_branch jumps =
    let one : 1 ≡ k = cc in
    omega arith
one_jump region n offset slot k insn row_read jumps = absurd (cc)
one_jump region n offset slot k insn row_exit jumps = absurd (cc)

jump_keeps : (profile : Profile) (region : Region) (n offset slot k : ℕ) (insn : Insn) (a b : AbsState) → Row region n offset slot insn → At region n slot a → Takes profile a insn b → jump_of insn ≡ Some (pos k) → HasNumberAt b 0
jump_keeps profile region n offset slot k insn a b row_begin at takes jumps = absurd (cc)
jump_keeps profile region n offset slot k insn a b row_end at takes jumps = absurd (cc)
jump_keeps profile region n offset slot k insn a b row_move at takes jumps = absurd (cc)
jump_keeps profile region n offset slot k insn a b row_add at takes jumps = absurd (cc)
jump_keeps profile region n offset slot k insn a b row_zero at takes jumps = absurd (cc)
jump_keeps profile region n offset slot k insn a b row_branch at takes jumps =
    let aside : IsAside 4 (Source 3) 0 = record { few = omega arith; left = λ e. omega arith; right = λ e. cc } in
    keeps_number (register_at a.registers 0) (register_at b.registers 0) (aside_keeps 4 (Source 3) 0 a b aside takes.leaves.0) at.2
jump_keeps profile region n offset slot k insn a b row_read at takes jumps = absurd (cc)
jump_keeps profile region n offset slot k insn a b row_exit at takes jumps = absurd (cc)

target_is : (region : Region) (n offset slot : ℕ) → IsTarget (guard region n offset) slot → slot ≡ 7
target_is region n offset slot target =
    target.there ∙ one_jump region n offset target.from target.distance target.insn (row_at region n offset target.from target.insn target.starts) target.jumps

at_seven : (region : Region) (n slot : ℕ) (a : AbsState) → slot ≡ 7 → At region n slot a → HasNumberAt a 0
at_seven region n slot a is at = subst (λ k. At region n k a) is at

guard_at : (profile : Profile) (region : Region) (n offset slot : ℕ) (a : AbsState) → IsSized profile region n offset → Arises profile (guard region n offset) slot a → At region n slot a
guard_at profile region n offset slot a sized (first context frame unset) = context
guard_at profile region n offset slot a sized (fell {slot = before} {a = old} {insn = insn} from starts falls takes long) =
    fell_at profile region n offset before insn old a sized (row_at region n offset before insn starts) (guard_at profile region n offset before old sized from) takes long falls
guard_at profile region n offset slot a sized (jumped {slot = before} {n = k} {a = old} {insn = insn} from starts jumps takes) =
    let row = row_at region n offset before insn starts in
    subst (λ (to : ℕ). At region n to a) (sym (one_jump region n offset before k insn row jumps)) (jump_keeps profile region n offset before k insn old a row (guard_at profile region n offset before old sized from) takes jumps)
guard_at profile region n offset slot a sized (joined {a = left} {b = right} target one two joins) =
    let is = target_is region n offset slot target in
    subst (λ (to : ℕ). At region n to a) (sym is)
    ((joins.registers 0 (omega arith)).numbers (at_seven region n slot left is (guard_at profile region n offset slot left sized one)) (at_seven region n slot right is (guard_at profile region n offset slot right sized two)))

guard_may : (profile : Profile) (region : Region) (n offset : ℕ) → IsSized profile region n offset → MayRefuse profile (guard region n offset) → ⊥
guard_may profile region n offset sized may =
    may.refused (row_granted profile region n offset may.slot may.insn may.state sized (row_at region n offset may.slot may.insn may.starts) (guard_at profile region n offset may.slot may.state sized may.arises))

-- each instruction of a guard program is granted, so it is never refused
pub guard_grants : (profile : Profile) (program : Program) → IsGuard profile program → MayRefuse profile program → ⊥
guard_grants profile program is may =
    guard_may profile is.region is.count is.offset (record { lends = is.lends; short = is.short; within = is.within; fits = is.fits }) (subst (MayRefuse profile) is.is may)
