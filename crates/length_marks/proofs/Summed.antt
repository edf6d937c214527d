-- Sums and differences bear marks that are true.
use Rattle.std.proofs.Common.{◌≡◌, ℕ, ℤ, ◌<◌, Option, Some, None, Ok, option_map, refl, sym, ◌∙◌, subst, arith}
use Rattle.bpf_words.specs.declared.instruction.Insn.TheVariants.{Compute}
use Rattle.bpf_words.specs.declared.instruction.Arithmetic.{Arithmetic}
use Rattle.bpf_words.specs.declared.instruction.Arithmetic.TheVariants.{Add, Sub}
use Rattle.bpf_words.specs.declared.instruction.Operand.{Operand}
use Rattle.bpf_words.specs.declared.instruction.Operand.TheVariants.{Immediate, Source}
use Rattle.bpf_words.specs.declared.instruction.Width.TheVariants.{Narrow, Full}
use Rattle.semantics.specs.State.{State, register_of}
use Rattle.semantics.specs.Value.{cut, value_of}
use Rattle.semantics.specs.Step.{On, first_of}
use Rattle.abstract_state.specs.declared.state.AbsState.{AbsState}
use Rattle.abstract_state.specs.State.{Span, lengths_of, Contains, does, register_at}
use Rattle.abstract_state.specs.Situation.{registers_of, operand_of, read}
use Rattle.value_marks.specs.declared.mark.Mark.{Mark}
use Rattle.value_marks.specs.Mark.{raised_mark, Agrees}
use Rattle.value_marks.specs.Marking.{Marking, mark_register, named, computed, shifted}
use Rattle.value_marks.specs.Bearing.{BearsBy}
use Rattle.value_marks.proofs.Machine.{unwound, wrote, holds_it}
use Rattle.value_marks.proofs.Moved.{bears_written}
use Rattle.value_marks.proofs.Naming.{computed_agrees}
use Rattle.value_marks.proofs.Held.{among, known_of}
use Rattle.length_marks.specs.Names.{BearsIn}
use Rattle.length_marks.specs.Sums.{number_in, raised_by, lowered_by, onto, sum_by, summed, taken, narrowly, narrowed_by}
use Rattle.length_marks.proofs.Anew.{AreApart, name_register}
use Rattle.length_marks.proofs.Copied.{forgets, writes}
use Rattle.length_marks.proofs.Numbers.{one_held, one_operand}
use Rattle.length_marks.proofs.Narrow.{Adds, narrowed_agrees}

-- ---- by all 64 bits, as the rule of value_marks has it of numbers
same_raised : (by : Option ℕ) (o : Option Mark) → computed Full Add by o ≡ raised_by by o
unfolding computed shifted
same_raised None o = refl
same_raised (Some n) None = refl
same_raised (Some n) (Some k) = refl

same_lowered : (by : Option ℕ) (o : Option Mark) → computed Full Sub by o ≡ lowered_by by o
unfolding computed shifted
same_lowered None o = refl
same_lowered (Some n) None = refl
same_lowered (Some n) (Some k) = refl

pub takes : (a : AbsState) (span : Span) (s next : State) (d : ℕ) (o : Operand) (far : ℤ) (w : Marking) → Contains a (lengths_of span) s → BearsIn (lengths_of span) w s → does span s (Compute Full Sub d o) ≡ Ok (On next far) → BearsIn (lengths_of span) (taken d o (registers_of a.registers) w) next
takes a span s next d o far w c was ran =
    let by = number_in (operand_of (registers_of a.registers) o) in
    writes a span s next Full Sub d o (lowered_by by (w.registers d)) far w c was refl
    (λ origins x y m first second marked e.
    computed_agrees origins Full Sub by (w.registers d) x y m
    (λ n one. one_operand a (lengths_of span) s o n y c second one) marked (same_lowered by (w.registers d) ∙ e))
    ran

pub narrows : (a : AbsState) (span : Span) (s next : State) (operation : Arithmetic) (d : ℕ) (o : Operand) (far : ℤ) (w : Marking) → Adds operation → first_of s operation d ≡ register_of s d → Contains a (lengths_of span) s → BearsIn (lengths_of span) w s → does span s (Compute Narrow operation d o) ≡ Ok (On next far) → BearsIn (lengths_of span) (narrowly operation d o (registers_of a.registers) w) next
narrows a span s next operation d o far w adds reads c was ran =
    let by = number_in (operand_of (registers_of a.registers) o) in
    let mark = narrowed_by operation (registers_of a.registers d) by (w.registers d) in
    writes a span s next Narrow operation d o mark far w c was reads
    (λ origins x y m first second marked e.
    narrowed_agrees origins (lengths_of span) operation (register_at a.registers d) by (w.registers d) x y m adds
    (known_of a (lengths_of span) s d x c first)
    (λ n one. one_operand a (lengths_of span) s o n y c second one) marked e)
    ran

-- ---- a sum of which the second side's number is known
adds_number : (a : AbsState) (span : Span) (s next : State) (d n : ℕ) (o : Operand) (far : ℤ) (w : Marking) → Contains a (lengths_of span) s → BearsIn (lengths_of span) w s → number_in (operand_of (registers_of a.registers) o) ≡ Some n → does span s (Compute Full Add d o) ≡ Ok (On next far) → BearsIn (lengths_of span) (mark_register d (raised_by (Some n) (w.registers d)) w) next
adds_number a span s next d n o far w c was known ran =
    writes a span s next Full Add d o (raised_by (Some n) (w.registers d)) far w c was refl
    (λ origins x y m first second marked e.
    computed_agrees origins Full Add (Some n) (w.registers d) x y m
    (λ k one. one_operand a (lengths_of span) s o k y c second (known ∙ one)) marked (same_raised (Some n) (w.registers d) ∙ e))
    ran

-- and one of which the first side's number is
turned : (x y : ℕ) → value_of Add Full (cut Full y) (cut Full x) ≡ value_of Add Full (cut Full x) (cut Full y)
turned x y = omega arith

raised_there : (origins : ℕ → ℕ) (n x y : ℕ) (o : Option Mark) (m : Mark) → x ≡ n → ((k : Mark) → o ≡ Some k → Agrees origins k y) → option_map (raised_mark n) o ≡ Some m → Agrees origins m (value_of Add Full (cut Full x) (cut Full y))
raised_there origins n x y o m is marked e =
    subst (λ (v : ℕ). Agrees origins m v) (turned x y)
    (computed_agrees origins Full Add (Some n) o y x m (λ k one. let same : n ≡ k = cc in is ∙ same) marked (same_raised (Some n) o ∙ e))

adds_onto : (a : AbsState) (span : Span) (s next : State) (at d n source : ℕ) (far : ℤ) (w : Marking) → at < 4096 → Contains a (lengths_of span) s → AreApart at w → BearsIn (lengths_of span) w s → number_in (read (registers_of a.registers d)) ≡ Some n → does span s (Compute Full Add d (Source source)) ≡ Ok (On next far) → BearsIn (lengths_of span) (onto at d n source (registers_of a.registers) w) next
unfolding onto
adds_onto a span s next at d n source far w low c apart was known ran =
    let u = unwound (register_of s d) _ _ ran in
    let t = unwound (register_of s source) _ _ u.2 in
    let is = wrote s next d _ _ far t.2 in
    let content = registers_of a.registers source in
    let mark = named at content (w.registers source) in
    let given = name_register at t.0 source (lengths_of span) w s content low (among s source t.0 c.eleven t.1) apart was (holds_it s source t.0 t.1) in (
      given.0,
      given.1,
      subst (λ (r : State). BearsBy given.0 (onto at d n source (registers_of a.registers) w) r) (sym is)
          (bears_written given.0 (mark_register source mark w) s d (value_of Add Full (cut Full u.0) (cut Full t.0)) (option_map (raised_mark n) mark) c.eleven given.2
          (λ m e. raised_there given.0 n u.0 t.0 mark m (one_held a (lengths_of span) s d n u.0 c u.1 known) given.3 e)),
    )

adds_by : (a : AbsState) (span : Span) (s next : State) (at d : ℕ) (o : Operand) (second first : Option ℕ) (far : ℤ) (w : Marking) → at < 4096 → Contains a (lengths_of span) s → AreApart at w → BearsIn (lengths_of span) w s → number_in (operand_of (registers_of a.registers) o) ≡ second → number_in (read (registers_of a.registers d)) ≡ first → does span s (Compute Full Add d o) ≡ Ok (On next far) → BearsIn (lengths_of span) (sum_by at d o second first (registers_of a.registers) w) next
unfolding sum_by
adds_by a span s next at d o (Some n) first far w low c apart was is one ran = adds_number a span s next d n o far w c was is ran
adds_by a span s next at d (Immediate value) None first far w low c apart was is one ran = forgets (lengths_of span) span s next (Compute Full Add d (Immediate value)) d far w c.eleven refl ran was
adds_by a span s next at d (Source source) None None far w low c apart was is one ran = forgets (lengths_of span) span s next (Compute Full Add d (Source source)) d far w c.eleven refl ran was
adds_by a span s next at d (Source source) None (Some n) far w low c apart was is one ran = adds_onto a span s next at d n source far w low c apart was one ran

pub adds : (a : AbsState) (span : Span) (s next : State) (at d : ℕ) (o : Operand) (far : ℤ) (w : Marking) → at < 4096 → Contains a (lengths_of span) s → AreApart at w → BearsIn (lengths_of span) w s → does span s (Compute Full Add d o) ≡ Ok (On next far) → BearsIn (lengths_of span) (summed at d o (registers_of a.registers) w) next
adds a span s next at d o far w low c apart was ran = adds_by a span s next at d o _ _ far w low c apart was refl refl ran
