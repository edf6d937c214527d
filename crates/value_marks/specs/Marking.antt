-- Which registers and slots of the stack bear marks, and what an instruction makes of them.
use Rattle.std.specs.Prelude.{◌≡◌, ◌<◌, ℕ, ℤ, ◌+◌, ◌*◌, ◌/◌, ◌%◌, ◌^◌, nat_eq, nat_lt, ◌&&◌, if◌then◌else◌}
use Rattle.std.specs.Prelude.{Bool, true, false}
use Rattle.std.specs.Prelude.{Option, Some, None, Result, Ok, Err, option_map, option_and_then}
use Rattle.std.specs.Option.{option_map_or}
use Rattle.std.specs.Int.{cast_unsigned, w64}
use Rattle.span_context.specs.declared.size.Size.{Size}
use Rattle.span_context.specs.declared.size.Size.TheVariants.{Double}
use Rattle.bpf_words.specs.declared.instruction.Insn.{Insn}
use Rattle.bpf_words.specs.declared.instruction.Insn.TheVariants.{Compute, Negate, Extend, Convert, Jump, JumpLong}
use Rattle.bpf_words.specs.declared.instruction.Insn.TheVariants.{Branch, Load, LoadSigned, Store, LoadWide, Exit}
use Rattle.bpf_words.specs.declared.instruction.Arithmetic.{Arithmetic}
use Rattle.bpf_words.specs.declared.instruction.Arithmetic.TheVariants.{Mov, Add, Sub}
use Rattle.bpf_words.specs.declared.instruction.Operand.{Operand}
use Rattle.bpf_words.specs.declared.instruction.Operand.TheVariants.{Immediate, Source}
use Rattle.bpf_words.specs.declared.instruction.Width.{Width}
use Rattle.bpf_words.specs.declared.instruction.Width.TheVariants.{Narrow, Full}
use Rattle.semantics.specs.Memory.{bytes_in}
use Rattle.abstract_state.specs.declared.refusal.Refusal.{Refusal}
use Rattle.abstract_state.specs.Estimate.{Estimate, only}
use Rattle.abstract_state.specs.Addresses.{Content, ANumber, InContext, InStack, InRegion}
use Rattle.abstract_state.specs.Stacks.{whole_in}
use Rattle.abstract_state.specs.Situation.{Situation, Registers, operand_of}
use Rattle.value_marks.specs.declared.mark.Mark.{Mark}
use Rattle.value_marks.specs.declared.marks.Marks.{Marks}
use Rattle.value_marks.specs.Mark.{new_mark, raised_mark, lowered_mark, cut_mark, mark_at}

pub record Marking : Type 0 where
  pub registers : ℕ → Option Mark
  pub slots : ℕ → Option Mark

abbrev pub marking_of : Marks → Marking
marking_of marks = record { registers = mark_at marks.registers; slots = mark_at marks.slots }

-- marks of the code are the marking
pub record IsMarking (marks : Marks) (w : Marking) : Type 0 where
  pub registers : (i : ℕ) → i < 11 → mark_at marks.registers i ≡ w.registers i
  pub slots : (i : ℕ) → i < 64 → mark_at marks.slots i ≡ w.slots i

abbrev pub no_marks : Marking
no_marks = record { registers = λ i. None; slots = λ i. None }

abbrev pub mark_register : ℕ → Option Mark → Marking → Marking
mark_register register mark w = record {
  registers = λ i. if nat_eq i register then mark else w.registers i;
  slots = w.slots;
}

abbrev pub mark_slot : ℕ → Option Mark → Marking → Marking
mark_slot slot mark w = record {
  registers = w.registers;
  slots = λ i. if nat_eq i slot then mark else w.slots i;
}

-- ---- naming
abbrev pub several : Estimate → Bool
several a = option_map_or (λ n. false) (only a) true

-- a number, or an address in a lent region, of which more than one value is possible
abbrev pub varies : Option Content → Bool
varies None = false
varies (Some (ANumber a)) = several a
varies (Some (InContext p)) = false
varies (Some (InStack p)) = false
varies (Some (InRegion r a)) = several a

-- the mark of a place that an instruction copies: its own, or a new one where the value may vary
unfoldable pub named : ℕ → Option Content → Option Mark → Option Mark
named at content (Some m) = Some m
named at content None = if varies content then Some (new_mark at) else None

-- ---- moves: the source and the copy bear one mark; of 32 bits of what may be more, that of the low bits
abbrev pub fits_narrow : Option Content → Bool
fits_narrow None = false
fits_narrow (Some (ANumber a)) = nat_lt a.range.high (2 ^ 32)
fits_narrow (Some (InContext p)) = false
fits_narrow (Some (InStack p)) = false
fits_narrow (Some (InRegion r a)) = false

abbrev pub moved_mark : Width → Option Content → Mark → Mark
moved_mark width content m = if fits_narrow content then m else cut_mark width m

unfoldable pub copied : ℕ → Width → ℕ → ℕ → Registers → Marking → Marking
copied at width d source registers w =
    let mark = named at (registers source) (w.registers source) in
    mark_register d (option_map (moved_mark width (registers source)) mark) (mark_register source mark w)

-- ---- an exact number is added or taken away
unfoldable pub shifted : Width → Arithmetic → ℕ → Mark → Option Mark
shifted width Add n m = Some (cut_mark width (raised_mark n m))
shifted width Sub n m = Some (cut_mark width (lowered_mark n m))
shifted width operation n m = None

abbrev pub exactly : Result Content Refusal → Option ℕ
exactly (Ok (ANumber a)) = only a
exactly (Ok (InContext p)) = None
exactly (Ok (InStack p)) = None
exactly (Ok (InRegion r a)) = None
exactly (Err refusal) = None

unfoldable pub computed : Width → Arithmetic → Option ℕ → Option Mark → Option Mark
computed width operation by mark = option_and_then (λ n. option_and_then (shifted width operation n) mark) by

unfoldable pub arithmetic : ℕ → Width → Arithmetic → ℕ → Operand → Registers → Marking → Marking
arithmetic at width Mov d (Source source) registers w = copied at width d source registers w
arithmetic at width Mov d (Immediate value) registers w = mark_register d None w
arithmetic at width operation d operand registers w =
    mark_register d (computed width operation (exactly (operand_of registers operand)) (w.registers d)) w

-- ---- the stack: the byte at which a load or a store begins
abbrev pub below_512 : ℕ → Option ℕ
below_512 p = if nat_lt p 512 then Some p else None

unfoldable pub place : Option Content → ℤ → Option ℕ
place (Some (InStack p)) offset = below_512 ((p + cast_unsigned w64 offset) % 2 ^ 64)
place content offset = None

-- the slot of which a load or a store takes all eight bytes
abbrev pub whole_slot : ℕ → Option ℕ
whole_slot p = if nat_eq (p % 8) 0 then Some (p / 8) else None

unfoldable pub slot_of : Size → Option ℕ → Option ℕ
slot_of Double at = option_and_then whole_slot at
slot_of size at = None

-- a store of count bytes takes away the marks of the slots that it touches
unfoldable pub overwritten : Option ℕ → ℕ → Marking → Marking
overwritten None count w = record { registers = w.registers; slots = λ i. None }
overwritten (Some p) count w = record {
  registers = w.registers;
  slots = λ i. if nat_lt p (8 * i + 8) && nat_lt (8 * i) (p + count) then None else w.slots i;
}

-- a store of a register to all of a slot: the slot bears the register's mark
unfoldable pub spilled : ℕ → ℕ → ℕ → Registers → Marking → Marking
spilled at slot source registers w =
    let mark = named at (registers source) (w.registers source) in
    mark_slot slot mark (mark_register source mark w)

unfoldable pub stored : ℕ → Size → ℕ → ℤ → Operand → Registers → Marking → Marking
stored at size base offset (Source source) registers w =
    option_map_or (λ slot. spilled at slot source registers w) (slot_of size (place (registers base) offset))
    (overwritten (place (registers base) offset) (bytes_in size) w)
stored at size base offset (Immediate value) registers w =
    overwritten (place (registers base) offset) (bytes_in size) w

-- a load of all that was spilled: the register bears the slot's mark
unfoldable pub filled : ℕ → ℕ → ℕ → Option Content → Marking → Marking
filled at d slot None w = mark_register d None w
filled at d slot (Some content) w =
    let mark = named at (Some content) (w.slots slot) in
    mark_register d mark (mark_slot slot mark w)

unfoldable pub loaded : ℕ → Size → ℕ → ℕ → ℤ → Situation → Marking → Marking
loaded at size d base offset s w =
    option_map_or (λ slot. filled at d slot (whole_in (s.slots slot)) w)
    (slot_of size (place (s.registers base) offset)) (mark_register d None w)

-- ---- where ways join, a mark stays where both have the same
abbrev pub same_width : Width → Width → Bool
same_width Narrow Narrow = true
same_width Full Full = true
same_width v w = false

abbrev pub same_mark : Mark → Mark → Bool
same_mark m n = nat_eq m.origin n.origin && nat_eq m.addend n.addend && same_width m.width n.width

abbrev pub mark_of_both : Option Mark → Option Mark → Option Mark
mark_of_both None o = None
mark_of_both (Some m) None = None
mark_of_both (Some m) (Some n) = if same_mark m n then Some m else None

abbrev pub joined : Marking → Marking → Marking
joined v w = record {
  registers = λ i. mark_of_both (v.registers i) (w.registers i);
  slots = λ i. mark_of_both (v.slots i) (w.slots i);
}

-- ---- the instructions, by what is known before; each other write of a register takes its mark away
unfoldable pub followed : ℕ → Insn → Situation → Marking → Marking
followed at (Compute width operation d operand) s w = arithmetic at width operation d operand s.registers w
followed at (Negate width d) s w = mark_register d None w
followed at (Extend extension d source) s w = mark_register d None w
followed at (Convert conversion bits d) s w = mark_register d None w
followed at (Jump offset) s w = w
followed at (JumpLong offset) s w = w
followed at (Branch width comparison left right offset) s w = w
followed at (Load size d base offset) s w = loaded at size d base offset s w
followed at (LoadSigned size d base offset) s w = mark_register d None w
followed at (Store size base offset value) s w = stored at size base offset value s.registers w
followed at (LoadWide d value) s w = mark_register d None w
followed at Exit s w = w
