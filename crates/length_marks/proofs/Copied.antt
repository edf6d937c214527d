-- Registers that are copied, that forget their mark, and that an operation writes.
use Rattle.std.proofs.Common.{◌≡◌, ℕ, ℤ, ◌<◌, length, Option, Some, None, Ok, sym, ◌∙◌, subst}
use Rattle.bpf_words.specs.declared.instruction.Insn.{Insn}
use Rattle.bpf_words.specs.declared.instruction.Insn.TheVariants.{Compute}
use Rattle.bpf_words.specs.declared.instruction.Arithmetic.{Arithmetic}
use Rattle.bpf_words.specs.declared.instruction.Arithmetic.TheVariants.{Mov}
use Rattle.bpf_words.specs.declared.instruction.Operand.{Operand}
use Rattle.bpf_words.specs.declared.instruction.Operand.TheVariants.{Source}
use Rattle.bpf_words.specs.declared.instruction.Width.{Width}
use Rattle.bpf_words.specs.Flow.{written_by}
use Rattle.semantics.specs.State.{State, register_of, operand_in}
use Rattle.semantics.specs.Value.{cut, value_of}
use Rattle.semantics.specs.Step.{On, first_of}
use Rattle.abstract_state.specs.declared.state.AbsState.{AbsState}
use Rattle.abstract_state.specs.Lent.{Lengths}
use Rattle.abstract_state.specs.State.{Span, lengths_of, Contains, does, register_at}
use Rattle.abstract_state.specs.Situation.{registers_of, operand_of}
use Rattle.value_marks.specs.declared.mark.Mark.{Mark}
use Rattle.value_marks.specs.Mark.{Agrees}
use Rattle.value_marks.specs.Marking.{Marking, mark_register, named, exactly, copied, computed}
use Rattle.value_marks.specs.Bearing.{BearsBy}
use Rattle.value_marks.proofs.Machine.{unwound, wrote, wrote_one, holds_it}
use Rattle.value_marks.proofs.Moved.{bears_written}
use Rattle.value_marks.proofs.Held.{among, known_of, exact_operand, narrow_register}
use Rattle.value_marks.proofs.Naming.{copied_agrees, computed_agrees}
use Rattle.length_marks.specs.Names.{BearsIn}
use Rattle.length_marks.proofs.Anew.{AreApart, name_register}

pub forgets : (lengths : Lengths) (span : Span) (s next : State) (insn : Insn) (d : ℕ) (far : ℤ) (w : Marking) → length s.registers ≡ 11 → written_by insn ≡ Some d → does span s insn ≡ Ok (On next far) → BearsIn lengths w s → BearsIn lengths (mark_register d None w) next
forgets lengths span s next insn d far w eleven writes ran was =
    let one = wrote_one span s next insn d far writes ran in
    (was.0, was.1, subst (λ (t : State). BearsBy was.0 (mark_register d None w) t) (sym one.1) (bears_written was.0 w s d one.0 None eleven was.2 (λ m e. absurd (cc))))

pub stays : (lengths : Lengths) (w : Marking) (s next : State) → next ≡ s → BearsIn lengths w s → BearsIn lengths w next
stays lengths w s next same was = (was.0, was.1, subst (λ (t : State). BearsBy was.0 w t) (sym same) was.2)

-- ---- moves
pub copies : (a : AbsState) (span : Span) (s next : State) (at : ℕ) (width : Width) (d r : ℕ) (far : ℤ) (w : Marking) → at < 4096 → Contains a (lengths_of span) s → AreApart at w → BearsIn (lengths_of span) w s → does span s (Compute width Mov d (Source r)) ≡ Ok (On next far) → BearsIn (lengths_of span) (copied at width d r (registers_of a.registers) w) next
unfolding copied
copies a span s next at width d r far w low c apart was ran =
    let u = unwound (register_of s r) _ _ ran in
    let is = wrote s next d _ _ far u.2 in
    let y = u.0 in
    let known = known_of a (lengths_of span) s r y c u.1 in
    let content = registers_of a.registers r in
    let given = name_register at y r (lengths_of span) w s content low (among s r y c.eleven u.1) apart was (holds_it s r y u.1) in (
      given.0,
      given.1,
      subst (λ (t : State). BearsBy given.0 (copied at width d r (registers_of a.registers) w) t) (sym is)
          (bears_written given.0 _ s d (cut width y) _ c.eleven given.2
          (copied_agrees given.0 width content (named at content (w.registers r)) y (narrow_register (register_at a.registers r) (lengths_of span) y known) given.3)),
    )

-- ---- an operation but a move reads the register that it writes: what holds for what it reads holds for the mark
pub writes : (a : AbsState) (span : Span) (s next : State) (width : Width) (operation : Arithmetic) (d : ℕ) (o : Operand) (mark : Option Mark) (far : ℤ) (w : Marking) → Contains a (lengths_of span) s → BearsIn (lengths_of span) w s → first_of s operation d ≡ register_of s d → ((origins : ℕ → ℕ) (x y : ℕ) (m : Mark) → register_of s d ≡ Ok x → operand_in s o ≡ Ok y → ((k : Mark) → w.registers d ≡ Some k → Agrees origins k x) → mark ≡ Some m → Agrees origins m (value_of operation width (cut width x) (cut width y))) → does span s (Compute width operation d o) ≡ Ok (On next far) → BearsIn (lengths_of span) (mark_register d mark w) next
writes a span s next width operation d o mark far w c was reads agrees ran =
    let u = unwound (first_of s operation d) _ _ ran in
    let t = unwound (operand_in s o) _ _ u.2 in
    let is = wrote s next d _ _ far t.2 in
    let x = u.0 in
    let y = t.0 in
    let read = sym reads ∙ u.1 in (
      was.0,
      was.1,
      subst (λ (n : State). BearsBy was.0 (mark_register d mark w) n) (sym is)
          (bears_written was.0 w s d (value_of operation width (cut width x) (cut width y)) mark c.eleven was.2
          (λ m e. agrees was.0 x y m read t.1 (λ k there. was.2.registers d (among s d x c.eleven read) k x there (holds_it s d x read)) e)),
    )

-- by the rule of value_marks
pub computes : (a : AbsState) (span : Span) (s next : State) (width : Width) (operation : Arithmetic) (d : ℕ) (o : Operand) (far : ℤ) (w : Marking) → Contains a (lengths_of span) s → BearsIn (lengths_of span) w s → first_of s operation d ≡ register_of s d → does span s (Compute width operation d o) ≡ Ok (On next far) → BearsIn (lengths_of span) (mark_register d (computed width operation (exactly (operand_of (registers_of a.registers) o)) (w.registers d)) w) next
computes a span s next width operation d o far w c was reads ran =
    let by = exactly (operand_of (registers_of a.registers) o) in
    writes a span s next width operation d o (computed width operation by (w.registers d)) far w c was reads
    (λ origins x y m first second marked e.
    computed_agrees origins width operation by (w.registers d) x y m
    (λ n one. exact_operand a (lengths_of span) s o n y c second one) marked e)
    ran
