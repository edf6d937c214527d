-- The marks after an instruction are true of the machine after it, by the lengths of its run.
use Rattle.std.proofs.Common.{◌≡◌, ℕ, ℤ, ◌<◌, Option, Some, None, Ok, refl, sym, ◌∙◌, subst}
use Rattle.std.specs.Option.{option_map_or}
use Rattle.span_context.specs.declared.profile.Profile.TheVariants.{Three}
use Rattle.span_context.specs.declared.size.Size.{Size}
use Rattle.bpf_words.specs.declared.instruction.Insn.{Insn}
use Rattle.bpf_words.specs.declared.instruction.Insn.TheVariants.{Compute, Negate, Extend, Convert, Jump, JumpLong, Branch, Load, LoadSigned, Store, LoadWide, Exit}
use Rattle.bpf_words.specs.declared.instruction.Arithmetic.{Arithmetic}
use Rattle.bpf_words.specs.declared.instruction.Arithmetic.TheVariants.{Add, Sub, Mov}
use Rattle.bpf_words.specs.declared.instruction.Operand.{Operand}
use Rattle.bpf_words.specs.declared.instruction.Operand.TheVariants.{Immediate, Source}
use Rattle.bpf_words.specs.declared.instruction.Width.{Width}
use Rattle.bpf_words.specs.declared.instruction.Width.TheVariants.{Narrow, Full}
use Rattle.semantics.specs.State.{State, register_of, operand_in}
use Rattle.semantics.specs.Memory.{address_of, load, bytes_in}
use Rattle.semantics.specs.Step.{Moved, On, Returns}
use Rattle.abstract_state.specs.declared.state.AbsReg.{AbsReg}
use Rattle.abstract_state.specs.declared.state.AbsState.{AbsState}
use Rattle.abstract_state.specs.State.{Span, lengths_of, Contains, does, with_register, register_at, slot_at}
use Rattle.abstract_state.specs.Stacks.{whole_in, eight_of}
use Rattle.abstract_state.specs.Situation.{situation_of, registers_of}
use Rattle.abstract_state.specs.Situation as rules
use Rattle.value_marks.specs.declared.mark.Mark.{Mark}
use Rattle.value_marks.specs.declared.marks.Marks.{Marks}
use Rattle.value_marks.specs.Marking as marks
use Rattle.value_marks.specs.Marking.{Marking, marking_of, IsMarking, mark_register, place, slot_of, filled}
use Rattle.value_marks.proofs.Machine.{unwound, wrote, went}
use Rattle.value_marks.proofs.Moved.{bears_written, bears_same}
use Rattle.value_marks.proofs.Held.{Fits, known_of}
use Rattle.value_marks.proofs.Itself.{itself}
use Rattle.length_marks.specs.Names.{BearsIn, without}
use Rattle.length_marks.specs.Lengths.{mark_at}
use Rattle.length_marks.specs.Following.{arithmetic, loaded, noted, followed}
use Rattle.length_marks.proofs.Anew.{AreApart, without_apart, without_bears}
use Rattle.length_marks.proofs.Copied.{forgets, stays, copies, computes}
use Rattle.length_marks.proofs.Stored.{stores}
use Rattle.length_marks.proofs.Loaded.{load_by}
use Rattle.length_marks.proofs.Fields.{load_agrees}
use Rattle.length_marks.proofs.Narrow.{add_adds, sub_adds}
use Rattle.length_marks.proofs.Summed.{adds, takes, narrows}

-- ---- loads
load_or : (at n v d : ℕ) (span : Span) (s : State) (a : AbsState) (size : Size) (reg : AbsReg) (offset : ℤ) (w : Marking) (o : Option Mark) → at < 4096 → span.profile ≡ Three → Contains a (lengths_of span) s → AreApart at w → BearsIn (lengths_of span) w s → Fits reg (lengths_of span) n → load span.bytes s.stack (address_of n offset) (bytes_in size) ≡ Ok v → mark_at size (rules.register_of reg) offset ≡ o → BearsIn (lengths_of span) (option_map_or (λ m. mark_register d (Some m) w) o (option_map_or (λ slot. filled at d slot (whole_in (eight_of (slot_at a.stack slot))) w) (slot_of size (place (rules.register_of reg) offset)) (mark_register d None w))) (with_register s d v)
load_or at n v d span s a size reg offset w None low third c apart was fits ran is = load_by at n v d span s a size reg offset w (slot_of size (place (rules.register_of reg) offset)) low c apart was fits ran refl
load_or at n v d span s a size reg offset w (Some k) low third c apart was fits ran is = (
  was.0,
  was.1,
  bears_written was.0 w s d v (Some k) c.eleven was.2
      (λ m e. load_agrees span s size reg offset n v m was.0 third was.1 fits (is ∙ e) ran),
)

loads : (a : AbsState) (span : Span) (s next : State) (at : ℕ) (size : Size) (d base : ℕ) (offset far : ℤ) (w : Marking) → at < 4096 → span.profile ≡ Three → Contains a (lengths_of span) s → AreApart at w → BearsIn (lengths_of span) w s → does span s (Load size d base offset) ≡ Ok (On next far) → BearsIn (lengths_of span) (loaded at size d base offset (situation_of a) w) next
unfolding marks.loaded
loads a span s next at size d base offset far w low third c apart was ran =
    let u = unwound (register_of s base) _ _ ran in
    let t = unwound (load span.bytes s.stack (address_of u.0 offset) (bytes_in size)) _ _ u.2 in
    let is = wrote s next d t.0 _ far t.2 in
    let reg = register_at a.registers base in
    subst (λ (n : State). BearsIn (lengths_of span) (loaded at size d base offset (situation_of a) w) n) (sym is)
    (load_or at u.0 t.0 d span s a size reg offset w (mark_at size (rules.register_of reg) offset) low third c apart was (known_of a (lengths_of span) s base u.0 c u.1) t.1 refl)

-- ---- each instruction
arithmetics : (a : AbsState) (span : Span) (s next : State) (at : ℕ) (width : Width) (operation : Arithmetic) (d : ℕ) (o : Operand) (far : ℤ) (w : Marking) → at < 4096 → Contains a (lengths_of span) s → AreApart at w → BearsIn (lengths_of span) w s → does span s (Compute width operation d o) ≡ Ok (On next far) → BearsIn (lengths_of span) (arithmetic at width operation d o (registers_of a.registers) w) next
unfolding arithmetic marks.arithmetic
arithmetics a span s next at Full Add d o far w low c apart was ran = adds a span s next at d o far w low c apart was ran
arithmetics a span s next at Full Sub d o far w low c apart was ran = takes a span s next d o far w c was ran
arithmetics a span s next at Narrow Add d o far w low c apart was ran = narrows a span s next Add d o far w add_adds refl c was ran
arithmetics a span s next at Narrow Sub d o far w low c apart was ran = narrows a span s next Sub d o far w sub_adds refl c was ran
arithmetics a span s next at Full Mov d (Source r) far w low c apart was ran = copies a span s next at Full d r far w low c apart was ran
arithmetics a span s next at Narrow Mov d (Source r) far w low c apart was ran = copies a span s next at Narrow d r far w low c apart was ran
arithmetics a span s next at Full Mov d (Immediate value) far w low c apart was ran = forgets (lengths_of span) span s next (Compute Full Mov d (Immediate value)) d far w c.eleven refl ran was
arithmetics a span s next at Narrow Mov d (Immediate value) far w low c apart was ran = forgets (lengths_of span) span s next (Compute Narrow Mov d (Immediate value)) d far w c.eleven refl ran was
arithmetics a span s next at Full _ d o far w low c apart was ran = computes a span s next Full _ d o far w c was refl ran
arithmetics a span s next at Narrow _ d o far w low c apart was ran = computes a span s next Narrow _ d o far w c was refl ran

ends : (v : ℕ) (next : State) (far : ℤ) (m : Moved) → m ≡ Ok (Returns v) → m ≡ Ok (On next far) → ⊥
ends v next far m e f = cc

noted_bears : (a : AbsState) (span : Span) (s next : State) (at : ℕ) (insn : Insn) (far : ℤ) (w : Marking) → at < 4096 → span.profile ≡ Three → Contains a (lengths_of span) s → AreApart at w → BearsIn (lengths_of span) w s → does span s insn ≡ Ok (On next far) → BearsIn (lengths_of span) (noted at insn (situation_of a) w) next
unfolding noted marks.followed
noted_bears a span s next at (Compute width operation d o) far w low third c apart was ran = arithmetics a span s next at width operation d o far w low c apart was ran
noted_bears a span s next at (Negate width d) far w low third c apart was ran = forgets (lengths_of span) span s next (Negate width d) d far w c.eleven refl ran was
noted_bears a span s next at (Extend x d r) far w low third c apart was ran = forgets (lengths_of span) span s next (Extend x d r) d far w c.eleven refl ran was
noted_bears a span s next at (Convert x b d) far w low third c apart was ran = forgets (lengths_of span) span s next (Convert x b d) d far w c.eleven refl ran was
noted_bears a span s next at (Jump distance) far w low third c apart was ran = stays (lengths_of span) w s next (went s next _ far _ refl ran) was
noted_bears a span s next at (JumpLong distance) far w low third c apart was ran = stays (lengths_of span) w s next (went s next _ far _ refl ran) was
noted_bears a span s next at (Branch width comparison left right distance) far w low third c apart was ran =
    let u = unwound (register_of s left) _ _ ran in
    let t = unwound (operand_in s right) _ _ u.2 in
    stays (lengths_of span) w s next (went s next _ far _ refl t.2) was
noted_bears a span s next at (Load size d base offset) far w low third c apart was ran = loads a span s next at size d base offset far w low third c apart was ran
noted_bears a span s next at (LoadSigned size d base offset) far w low third c apart was ran = forgets (lengths_of span) span s next (LoadSigned size d base offset) d far w c.eleven refl ran was
noted_bears a span s next at (Store size base offset value) far w low third c apart was ran = stores a span s next at size base offset value far w low c apart was ran
noted_bears a span s next at (LoadWide d value) far w low third c apart was ran = forgets (lengths_of span) span s next (LoadWide d value) d far w c.eleven refl ran was
noted_bears a span s next at Exit far w low third c apart was ran = let u = unwound (register_of s 0) _ _ ran in absurd (ends u.0 next far _ refl u.2)

pub follows : (old new : Marks) (a : AbsState) (span : Span) (s next : State) (at : ℕ) (insn : Insn) (far : ℤ) → ((w : Marking) → IsMarking old w → IsMarking new (followed at insn (situation_of a) w)) → at < 4096 → span.profile ≡ Three → Contains a (lengths_of span) s → BearsIn (lengths_of span) (marking_of old) s → does span s insn ≡ Ok (On next far) → BearsIn (lengths_of span) (marking_of new) next
follows old new a span s next at insn far rule low third c was ran =
    let w = marking_of old in
    let on = noted_bears a span s next at insn far (without at w) low third c (without_apart at w) (was.0, was.1, without_bears at w was.0 s was.2) ran in
    (on.0, on.1, bears_same new (followed at insn (situation_of a) w) on.0 next (rule w (itself old)) on.2)
