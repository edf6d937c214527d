-- The rows of an instruction.
use Rattle.std.proofs.Common.{◌≡◌, ℕ, ℤ, pos, ◌+◌, ◌*◌, ◌^◌, ◌<◌, ◌≤◌, Option, Some, None, Result, sym, subst}
use Rattle.std.specs.Option.{IfSome}
use Rattle.bpf_words.specs.declared.instruction.Width.{Width}
use Rattle.bpf_words.specs.declared.instruction.Width.TheVariants.{Full}
use Rattle.bpf_words.specs.declared.instruction.Arithmetic.{Arithmetic}
use Rattle.bpf_words.specs.declared.instruction.Arithmetic.TheVariants.{Mov, Add}
use Rattle.bpf_words.specs.declared.instruction.Operand.{Operand}
use Rattle.bpf_words.specs.declared.instruction.Operand.TheVariants.{Immediate, Source}
use Rattle.span_context.specs.declared.size.Size.{Size}
use Rattle.span_context.specs.declared.size.Size.TheVariants.{Double}
use Rattle.span_context.specs.declared.profile.Profile.{Profile}
use Rattle.bpf_words.specs.declared.instruction.Insn.{Insn}
use Rattle.bpf_words.specs.declared.instruction.Insn.TheVariants.{Compute, Load, LoadSigned, LoadWide}
use Rattle.std.specs.Int.{cast_unsigned, w64}
use Rattle.bpf_words.specs.declared.instruction.SignedSize.{SignedSize}
use Rattle.semantics.specs.Memory.{bytes_in, bytes_in_signed}
use Rattle.semantics.specs.Value.{value_of}
use Rattle.abstract_state.specs.declared.region.Region.{Region}
use Rattle.abstract_state.specs.Lent.{begin_field, end_field, limit_of, bound_of, Lends}
use Rattle.abstract_state.specs.declared.state.AbsState.{AbsState}
use Rattle.abstract_state.specs.declared.refusal.Refusal.{Refusal}
use Rattle.abstract_state.specs.declared.step.Flow.{Flow}
use Rattle.abstract_state.specs.declared.known.Known.{Known}
use Rattle.abstract_state.specs.declared.known.Known.TheVariants.{Lent}
use Rattle.abstract_state.specs.declared.address.LentAddress.{LentAddress}
use Rattle.abstract_state.specs.declared.state.AbsReg.TheVariants.{Set}
use Rattle.abstract_state.specs.declared.slot.Slot.TheVariants.{Spilled}
use Rattle.abstract_state.specs.State.{register_at, slot_at}
use Rattle.abstract_state.specs.Frame.{IsStackByte, AreMarked}
use Rattle.abstract_state.specs.Kinds.{IsContextAt}
use Rattle.abstract_state.specs.Exact.{Fact, Folds, LentIn, NumberIn, AnyNumber, Exactly, NoLess, Holds, tail_after}
use Rattle.abstract_state.specs.Guard.{Yields, lent_begin, lent_end, lent_moved, lent_added, copied, moved, folded, wide, lent_read, lent_read_signed, stack_read, stack_read_signed, refilled, Keeps, IsOperand}

pub compute_rows : (profile : Profile) (a : AbsState) (insn : Insn) (d : ℕ) (fact : Fact) (w : Width) (op : Arithmetic) (dest : ℕ) (operand : Operand) (result : Result Flow Refusal) (b : AbsState) → Yields profile a insn d fact → insn ≡ Compute w op dest operand → ((region : Region) (r n : ℕ) (t : Option ℕ) → w ≡ Full → op ≡ Mov → operand ≡ Source r → Holds (LentIn region n n t) (register_at a.registers r) → Keeps result b dest (LentIn region n n t)) → ((region : Region) (k n : ℕ) (t : Option ℕ) → w ≡ Full → op ≡ Add → operand ≡ Immediate (pos k) → Holds (LentIn region n n t) (register_at a.registers dest) → n + k ≤ 2 ^ 20 → Keeps result b dest (LentIn region (n + k) (n + k) (tail_after t k))) → ((r : ℕ) (known : Known) → w ≡ Full → op ≡ Mov → operand ≡ Source r → Holds (Exactly known) (register_at a.registers r) → Keeps result b dest (NoLess known)) → ((region : Region) (n : ℕ) → w ≡ Full → op ≡ Mov → IsOperand region a operand n → Keeps result b dest (NumberIn region n n None)) → ((region : Region) (m n : ℕ) → w ≡ Full → Folds op m n → Holds (NumberIn region m m None) (register_at a.registers dest) → IsOperand region a operand n → Keeps result b dest (NumberIn region (value_of op Full m n) (value_of op Full m n) None)) → Keeps result b d fact
compute_rows profile a insn d fact w op dest operand result b (lent_begin region d' base lends h) e lent added moved_so copied_so folded_so = absurd (cc)
compute_rows profile a insn d fact w op dest operand result b (lent_end region d' base lends h) e lent added moved_so copied_so folded_so = absurd (cc)
compute_rows profile a insn d fact w op dest operand result b (lent_moved region d' r n t h) e lent added moved_so copied_so folded_so =
    let wide : w ≡ Full = cc in
    let is : op ≡ Mov = cc in
    let at : dest ≡ d' = cc in
    let right : operand ≡ Source r = cc in
    subst (λ (i : ℕ). Keeps result b i (LentIn region n n t)) at (lent region r n t wide is right h)
compute_rows profile a insn d fact w op dest operand result b (lent_added region d' k n t h near) e lent added moved_so copied_so folded_so =
    let wide : w ≡ Full = cc in
    let is : op ≡ Add = cc in
    let at : dest ≡ d' = cc in
    let right : operand ≡ Immediate (pos k) = cc in
    subst (λ (i : ℕ). Keeps result b i (LentIn region (n + k) (n + k) (tail_after t k))) at (added region k n t wide is right (subst (λ (i : ℕ). Holds (LentIn region n n t) (register_at a.registers i)) (sym at) h) near)
compute_rows profile a insn d fact w op dest operand result b (copied region d' n o h) e lent added moved_so copied_so folded_so =
    let wide_so : w ≡ Full = cc in
    let is : op ≡ Mov = cc in
    let at : dest ≡ d' = cc in
    let right : operand ≡ o = cc in
    subst (λ (i : ℕ). Keeps result b i (NumberIn region n n None)) at (copied_so region n wide_so is (subst (λ (v : Operand). IsOperand region a v n) (sym right) h))
compute_rows profile a insn d fact w op dest operand result b (moved d' r known h) e lent added moved_so copied_so folded_so =
    let wide_so : w ≡ Full = cc in
    let is : op ≡ Mov = cc in
    let at : dest ≡ d' = cc in
    let right : operand ≡ Source r = cc in
    subst (λ (i : ℕ). Keeps result b i (NoLess known)) at (moved_so r known wide_so is right h)
compute_rows profile a insn d fact w op dest operand result b (folded region operation d' m n o folds left h) e lent added moved_so copied_so folded_so =
    let wide_so : w ≡ Full = cc in
    let is : op ≡ operation = cc in
    let at : dest ≡ d' = cc in
    let right : operand ≡ o = cc in
    subst (λ (i : ℕ). Keeps result b i (NumberIn region (value_of operation Full m n) (value_of operation Full m n) None)) at
    (subst (λ (v : Arithmetic). Keeps result b dest (NumberIn region (value_of v Full m n) (value_of v Full m n) None)) is
    (folded_so region m n wide_so (subst (λ (v : Arithmetic). Folds v m n) (sym is) folds) (subst (λ (i : ℕ). Holds (NumberIn region m m None) (register_at a.registers i)) (sym at) left) (subst (λ (v : Operand). IsOperand region a v n) (sym right) h)))
compute_rows profile a insn d fact w op dest operand result b (wide region d' n) e lent added moved_so copied_so folded_so = absurd (cc)
compute_rows profile a insn d fact w op dest operand result b (lent_read size d' r o p h short within) e lent added moved_so copied_so folded_so = absurd (cc)
compute_rows profile a insn d fact w op dest operand result b (lent_read_signed size d' r o p h short within) e lent added moved_so copied_so folded_so = absurd (cc)
compute_rows profile a insn d fact w op dest operand result b (stack_read size d' base' p o h m) e lent added moved_so copied_so folded_so = absurd (cc)
compute_rows profile a insn d fact w op dest operand result b (stack_read_signed size d' base' p o h m) e lent added moved_so copied_so folded_so = absurd (cc)
compute_rows profile a insn d fact w op dest operand result b (refilled d' base' i o known h less is) e lent added moved_so copied_so folded_so = absurd (cc)

byte_moves : (a : AbsState) (p : ℕ) (o offset : ℤ) (r base : ℕ) → o ≡ offset → r ≡ base → IsStackByte p (cast_unsigned w64 o) (register_at a.registers r) → IsStackByte p (cast_unsigned w64 offset) (register_at a.registers base)
byte_moves a p o offset r base far from h =
    subst (λ (k : ℕ). IsStackByte p (cast_unsigned w64 offset) (register_at a.registers k)) from (subst (λ (z : ℤ). IsStackByte p (cast_unsigned w64 z) (register_at a.registers r)) far h)

pub load_rows : (profile : Profile) (a : AbsState) (insn : Insn) (d : ℕ) (fact : Fact) (z : Size) (dest base : ℕ) (offset : ℤ) (result : Result Flow Refusal) (b : AbsState) → Yields profile a insn d fact → insn ≡ Load z dest base offset → ((region : Region) → Lends region profile → offset ≡ pos (begin_field region) → z ≡ Double → IsContextAt 0 (register_at a.registers base) → Keeps result b dest (LentIn region 0 0 (Some 0))) → ((region : Region) → Lends region profile → offset ≡ pos (end_field region) → z ≡ Double → IsContextAt 0 (register_at a.registers base) → Keeps result b dest (LentIn region 0 (limit_of region) (Some 0))) → ((o : ℕ) (p : LentAddress) → offset ≡ pos o → register_at a.registers base ≡ Set (Lent p) → o < 2 ^ 15 → p.offset.range.high + o + bytes_in z ≤ bound_of a.bounds p.region → Keeps result b dest AnyNumber) → ((p : ℕ) → IsStackByte p (cast_unsigned w64 offset) (register_at a.registers base) → AreMarked a.stack p (bytes_in z) → Keeps result b dest AnyNumber) → ((i : ℕ) (known : Known) → IsStackByte (8 * i) (cast_unsigned w64 offset) (register_at a.registers base) → i < 64 → z ≡ Double → slot_at a.stack i ≡ Spilled known → Keeps result b dest (Exactly known)) → Keeps result b d fact
load_rows profile a insn d fact z dest base offset result b (lent_begin region d' base' lends h) e begin end read marked spilled_so =
    let size : z ≡ Double = cc in
    let at : dest ≡ d' = cc in
    let from : base' ≡ base = cc in
    let far : offset ≡ pos (begin_field region) = cc in
    subst (λ (i : ℕ). Keeps result b i (LentIn region 0 0 (Some 0))) at (begin region lends far size (subst (λ (i : ℕ). IsContextAt 0 (register_at a.registers i)) from h))
load_rows profile a insn d fact z dest base offset result b (lent_end region d' base' lends h) e begin end read marked spilled_so =
    let size : z ≡ Double = cc in
    let at : dest ≡ d' = cc in
    let from : base' ≡ base = cc in
    let far : offset ≡ pos (end_field region) = cc in
    subst (λ (i : ℕ). Keeps result b i (LentIn region 0 (limit_of region) (Some 0))) at (end region lends far size (subst (λ (i : ℕ). IsContextAt 0 (register_at a.registers i)) from h))
load_rows profile a insn d fact z dest base offset result b (lent_moved region d' r n t h) e begin end read marked spilled_so = absurd (cc)
load_rows profile a insn d fact z dest base offset result b (lent_added region d' k n t h near) e begin end read marked spilled_so = absurd (cc)
load_rows profile a insn d fact z dest base offset result b (copied region d' n o h) e begin end read marked spilled_so = absurd (cc)
load_rows profile a insn d fact z dest base offset result b (moved d' r known h) e begin end read marked spilled_so = absurd (cc)
load_rows profile a insn d fact z dest base offset result b (folded region operation d' m n o folds left h) e begin end read marked spilled_so = absurd (cc)
load_rows profile a insn d fact z dest base offset result b (wide region d' n) e begin end read marked spilled_so = absurd (cc)
load_rows profile a insn d fact z dest base offset result b (lent_read size d' r o p h short within) e begin end read marked spilled_so =
    let same : size ≡ z = cc in
    let at : dest ≡ d' = cc in
    let from : r ≡ base = cc in
    let far : offset ≡ pos o = cc in
    subst (λ (i : ℕ). Keeps result b i AnyNumber) at
    (read o p far (subst (λ (i : ℕ). register_at a.registers i ≡ Set (Lent p)) from h) short
    (subst (λ (v : Size). p.offset.range.high + o + bytes_in v ≤ bound_of a.bounds p.region) same within))
load_rows profile a insn d fact z dest base offset result b (lent_read_signed size d' r o p h short within) e begin end read marked spilled_so = absurd (cc)
load_rows profile a insn d fact z dest base offset result b (stack_read size d' base' p o h m) e begin end read marked spilled_so =
    let same : size ≡ z = cc in
    let at : dest ≡ d' = cc in
    let from : base' ≡ base = cc in
    let far : o ≡ offset = cc in
    subst (λ (i : ℕ). Keeps result b i AnyNumber) at
    (marked p (byte_moves a p o offset base' base far from h) (subst (λ (v : Size). AreMarked a.stack p (bytes_in v)) same m))
load_rows profile a insn d fact z dest base offset result b (stack_read_signed size d' base' p o h m) e begin end read marked spilled_so = absurd (cc)
load_rows profile a insn d fact z dest base offset result b (refilled d' base' i o known h less is) e begin end read marked spilled_so =
    let same : z ≡ Double = cc in
    let at : dest ≡ d' = cc in
    let from : base' ≡ base = cc in
    let far : o ≡ offset = cc in
    subst (λ (k : ℕ). Keeps result b k (Exactly known)) at (spilled_so i known (byte_moves a (8 * i) o offset base' base far from h) less same is)

pub wide_rows : (profile : Profile) (a : AbsState) (insn : Insn) (d : ℕ) (fact : Fact) (dest value : ℕ) (o : Option AbsState) → Yields profile a insn d fact → insn ≡ LoadWide dest value → ((region : Region) → IfSome o (λ b. Holds (NumberIn region value value None) (register_at b.registers dest))) → IfSome o (λ b. Holds fact (register_at b.registers d))
wide_rows profile a insn d fact dest value o (lent_begin region d' base lends h) e one = absurd (cc)
wide_rows profile a insn d fact dest value o (lent_end region d' base lends h) e one = absurd (cc)
wide_rows profile a insn d fact dest value o (lent_moved region d' r n t h) e one = absurd (cc)
wide_rows profile a insn d fact dest value o (lent_added region d' k n t h near) e one = absurd (cc)
wide_rows profile a insn d fact dest value o (copied region d' n right h) e one = absurd (cc)
wide_rows profile a insn d fact dest value o (moved d' r known h) e one = absurd (cc)
wide_rows profile a insn d fact dest value o (folded region operation d' m n right folds left h) e one = absurd (cc)
wide_rows profile a insn d fact dest value o (wide region d' n) e one =
    let at : dest ≡ d' = cc in
    let same : value ≡ n = cc in
    subst (λ (i : ℕ). IfSome o (λ b. Holds (NumberIn region n n None) (register_at b.registers i))) at
    (subst (λ (v : ℕ). IfSome o (λ b. Holds (NumberIn region v v None) (register_at b.registers dest))) same (one region))
wide_rows profile a insn d fact dest value o (lent_read size d' r k p h short within) e one = absurd (cc)
wide_rows profile a insn d fact dest value out (lent_read_signed size d' r o p h short within) e one = absurd (cc)
wide_rows profile a insn d fact dest value out (stack_read size d' base' p o h m) e one = absurd (cc)
wide_rows profile a insn d fact dest value out (stack_read_signed size d' base' p o h m) e one = absurd (cc)
wide_rows profile a insn d fact dest value out (refilled d' base' i o known h less is) e one = absurd (cc)

pub signed_rows : (profile : Profile) (a : AbsState) (insn : Insn) (d : ℕ) (fact : Fact) (z : SignedSize) (dest base : ℕ) (offset : ℤ) (result : Result Flow Refusal) (b : AbsState) → Yields profile a insn d fact → insn ≡ LoadSigned z dest base offset → ((o : ℕ) (p : LentAddress) → offset ≡ pos o → register_at a.registers base ≡ Set (Lent p) → o < 2 ^ 15 → p.offset.range.high + o + bytes_in_signed z ≤ bound_of a.bounds p.region → Keeps result b dest AnyNumber) → ((p : ℕ) → IsStackByte p (cast_unsigned w64 offset) (register_at a.registers base) → AreMarked a.stack p (bytes_in_signed z) → Keeps result b dest AnyNumber) → Keeps result b d fact
signed_rows profile a insn d fact z dest base offset result b (lent_begin region d' base' lends h) e read marked = absurd (cc)
signed_rows profile a insn d fact z dest base offset result b (lent_end region d' base' lends h) e read marked = absurd (cc)
signed_rows profile a insn d fact z dest base offset result b (lent_moved region d' r n t h) e read marked = absurd (cc)
signed_rows profile a insn d fact z dest base offset result b (lent_added region d' k n t h near) e read marked = absurd (cc)
signed_rows profile a insn d fact z dest base offset result b (copied region d' n right h) e read marked = absurd (cc)
signed_rows profile a insn d fact z dest base offset result b (moved d' r known h) e read marked = absurd (cc)
signed_rows profile a insn d fact z dest base offset result b (folded region operation d' m n right folds left h) e read marked = absurd (cc)
signed_rows profile a insn d fact z dest base offset result b (wide region d' n) e read marked = absurd (cc)
signed_rows profile a insn d fact z dest base offset result b (lent_read size d' r o p h short within) e read marked = absurd (cc)
signed_rows profile a insn d fact z dest base offset result b (lent_read_signed size d' r o p h short within) e read marked =
    let same : size ≡ z = cc in
    let at : dest ≡ d' = cc in
    let from : r ≡ base = cc in
    let far : offset ≡ pos o = cc in
    subst (λ (i : ℕ). Keeps result b i AnyNumber) at
    (read o p far (subst (λ (i : ℕ). register_at a.registers i ≡ Set (Lent p)) from h) short
    (subst (λ (v : SignedSize). p.offset.range.high + o + bytes_in_signed v ≤ bound_of a.bounds p.region) same within))
signed_rows profile a insn d fact z dest base offset result b (stack_read size d' base' p o h m) e read marked = absurd (cc)
signed_rows profile a insn d fact z dest base offset result b (stack_read_signed size d' base' p o h m) e read marked =
    let same : size ≡ z = cc in
    let at : dest ≡ d' = cc in
    let from : base' ≡ base = cc in
    let far : o ≡ offset = cc in
    subst (λ (i : ℕ). Keeps result b i AnyNumber) at
    (marked p (byte_moves a p o offset base' base far from h) (subst (λ (v : SignedSize). AreMarked a.stack p (bytes_in_signed v)) same m))
signed_rows profile a insn d fact z dest base offset result b (refilled d' base' i o known h less is) e read marked = absurd (cc)
