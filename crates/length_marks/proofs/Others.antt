-- Instructions of which the rules here say no more than those of value_marks.
use Rattle.std.proofs.Common.{◌≡◌, ℕ, ℤ, Option, Some, None, refl, sym, subst}
use Rattle.std.specs.Option.{option_map_or}
use Rattle.span_context.specs.declared.size.Size.{Size}
use Rattle.bpf_words.specs.declared.instruction.Insn.{Insn}
use Rattle.bpf_words.specs.declared.instruction.Insn.TheVariants.{Compute, Negate, Extend, Convert, Jump, JumpLong, Branch, Load, LoadSigned, Store, LoadWide, Exit}
use Rattle.bpf_words.specs.declared.instruction.Arithmetic.{Arithmetic}
use Rattle.bpf_words.specs.declared.instruction.Arithmetic.TheVariants.{Add, Sub}
use Rattle.bpf_words.specs.declared.instruction.Operand.{Operand}
use Rattle.bpf_words.specs.declared.instruction.Width.{Width}
use Rattle.bpf_words.specs.declared.instruction.Width.TheVariants.{Narrow, Full}
use Rattle.abstract_state.specs.Situation.{Situation, Registers}
use Rattle.value_marks.specs.declared.mark.Mark.{Mark}
use Rattle.value_marks.specs.declared.marks.Marks.{Marks}
use Rattle.value_marks.specs.Marking as marks
use Rattle.value_marks.specs.Marking.{Marking, IsMarking, mark_register}
use Rattle.length_marks.specs.Lengths.{mark_at}
use Rattle.length_marks.specs.Following.{arithmetic, loaded, noted}

operations : (at : ℕ) (width : Width) (operation : Arithmetic) (d : ℕ) (o : Operand) (registers : Registers) (w : Marking) → (operation ≡ Add → ⊥) → (operation ≡ Sub → ⊥) → marks.arithmetic at width operation d o registers w ≡ arithmetic at width operation d o registers w
unfolding arithmetic
operations at Full Add d o registers w sum difference = absurd (sum refl)
operations at Full Sub d o registers w sum difference = absurd (difference refl)
operations at Narrow Add d o registers w sum difference = absurd (sum refl)
operations at Narrow Sub d o registers w sum difference = absurd (difference refl)
operations at Full _ d o registers w sum difference = refl
operations at Narrow _ d o registers w sum difference = refl

pub by_operation : (m : Marks) (at : ℕ) (insn : Insn) (width : Width) (operation : Arithmetic) (d : ℕ) (o : Operand) (s : Situation) (w : Marking) → insn ≡ Compute width operation d o → (operation ≡ Add → ⊥) → (operation ≡ Sub → ⊥) → IsMarking m (marks.followed at insn s w) → IsMarking m (arithmetic at width operation d o s.registers w)
unfolding marks.followed
by_operation m at insn width operation d o s w same sum difference is =
    let there : IsMarking m (marks.arithmetic at width operation d o s.registers w) = subst (λ (i : Insn). IsMarking m (marks.followed at i s w)) same is in
    subst (λ (v : Marking). IsMarking m v) (operations at width operation d o s.registers w sum difference) there

pub by_load : (m : Marks) (at : ℕ) (insn : Insn) (size : Size) (d base : ℕ) (offset : ℤ) (s : Situation) (w : Marking) → insn ≡ Load size d base offset → mark_at size (s.registers base) offset ≡ None → IsMarking m (marks.followed at insn s w) → IsMarking m (loaded at size d base offset s w)
unfolding marks.followed
by_load m at insn size d base offset s w same none is =
    let there : IsMarking m (marks.loaded at size d base offset s w) = subst (λ (i : Insn). IsMarking m (marks.followed at i s w)) same is in
    subst (λ (k : Option Mark). IsMarking m (option_map_or (λ v. mark_register d (Some v) w) k (marks.loaded at size d base offset s w))) (sym none) there

pub by_other : (at : ℕ) (insn : Insn) (s : Situation) (w : Marking) → ((width : Width) (operation : Arithmetic) (d : ℕ) (o : Operand) → insn ≡ Compute width operation d o → ⊥) → ((size : Size) (d base : ℕ) (offset : ℤ) → insn ≡ Load size d base offset → ⊥) → marks.followed at insn s w ≡ noted at insn s w
unfolding noted
by_other at (Compute width operation d o) s w computes loads = absurd (computes width operation d o refl)
by_other at (Load size d base offset) s w computes loads = absurd (loads size d base offset refl)
by_other at (Negate width d) s w computes loads = refl
by_other at (Extend x d r) s w computes loads = refl
by_other at (Convert x b d) s w computes loads = refl
by_other at (Jump distance) s w computes loads = refl
by_other at (JumpLong distance) s w computes loads = refl
by_other at (Branch width comparison left right distance) s w computes loads = refl
by_other at (LoadSigned size d base offset) s w computes loads = refl
by_other at (Store size base offset value) s w computes loads = refl
by_other at (LoadWide d value) s w computes loads = refl
by_other at Exit s w computes loads = refl
