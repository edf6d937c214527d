-- What a slot reads as is refused by the first of its faults.
use Rattle.std.proofs.Common.{◌≡◌, ℕ, ◌+◌, ◌||◌, if◌then◌else◌, Bool, true, false, List, Option, Some, None, Ok, Err, refl}
use Rattle.std.specs.Prelude.{◌==◌, not, ◌%◌, ◌^◌}
use Rattle.bpf_words.specs.declared.fields.Fields.{Fields}
use Rattle.bpf_words.specs.declared.opcode.Opcode.{Opcode}
use Rattle.bpf_words.specs.declared.opcode.Opcode.TheVariants.{Computing, Negating, Converting, Jumping, JumpingLong, Branching, Loading, LoadingSigned, Storing, LoadingWide, Exiting, LeftOut, Undefined}
use Rattle.bpf_words.specs.declared.instruction.Width.{Width}
use Rattle.bpf_words.specs.declared.instruction.Width.TheVariants.{Narrow, Full}
use Rattle.bpf_words.specs.declared.instruction.Arithmetic.{Arithmetic}
use Rattle.bpf_words.specs.declared.instruction.Arithmetic.TheVariants.{Add, Sub, Mul, Div, Or, And, Lsh, Rsh, Mod, Xor, Mov, Arsh, SignedDiv, SignedMod}
use Rattle.bpf_words.specs.declared.instruction.Insn.{Insn}
use Rattle.bpf_words.specs.declared.refusal.SlotFault.{SlotFault}
use Rattle.bpf_words.specs.declared.refusal.SlotFault.TheVariants.{OutOfProfile, UnusedField, BadRegister, BadWidth}
use Rattle.bpf_words.specs.Slots.{slot_at, fields_of}
use Rattle.bpf_words.specs.Opcodes.{opcode_of}
use Rattle.bpf_words.specs.Reading.{Read, refuse_if, with_part, reading, is_set, no_register, no_operand, other_is_set, computed}
use Rattle.bpf_words.specs.Words.{fault_in, fault_at, is_second, next_slot, read_at}
use Rattle.bpf_words.specs.Faults.{first_fault, first_fault_at}

-- one test after the other
abbrev named : Bool → SlotFault → Option SlotFault → Option SlotFault
named test fault rest = if test then Some fault else rest

refused : (test : Bool) (fault : SlotFault) (rest : Read) (first : Option SlotFault) → fault_in false rest ≡ first → fault_in false (refuse_if test fault rest) ≡ named test fault first
refused true fault rest first h = refl
refused false fault rest first h = h

-- a part that is refused as a width
with_2 : {A : Type 0} (p q : Bool) (a b : A) (rest : A → Read) (first : Option SlotFault) → ((x : A) → fault_in false (rest x) ≡ first) → fault_in false (with_part (if p then Ok a else if q then Ok b else Err BadWidth) rest) ≡ named (not (p || q)) BadWidth first
with_2 true q a b rest first h = h a
with_2 false true a b rest first h = h b
with_2 false false a b rest first h = refl

with_3 : {A : Type 0} (p q r : Bool) (a b c : A) (rest : A → Read) (first : Option SlotFault) → ((x : A) → fault_in false (rest x) ≡ first) → fault_in false (with_part (if p then Ok a else if q then Ok b else if r then Ok c else Err BadWidth) rest) ≡ named (not (p || q || r)) BadWidth first
with_3 true q r a b c rest first h = h a
with_3 false true r a b c rest first h = h b
with_3 false false true a b c rest first h = h c
with_3 false false false a b c rest first h = refl

with_4 : {A : Type 0} (p q r s : Bool) (a b c d : A) (rest : A → Read) (first : Option SlotFault) → ((x : A) → fault_in false (rest x) ≡ first) → fault_in false (with_part (if p then Ok a else if q then Ok b else if r then Ok c else if s then Ok d else Err BadWidth) rest) ≡ named (not (p || q || r || s)) BadWidth first
with_4 true q r s a b c d rest first h = h a
with_4 false true r s a b c d rest first h = h b
with_4 false false true s a b c d rest first h = h c
with_4 false false false true a b c d rest first h = h d
with_4 false false false false a b c d rest first h = refl

-- an offset that nothing uses
with_none : {A : Type 0} (p test : Bool) (a : A) (rest : A → Read) → ((x : A) → fault_in false (rest x) ≡ named test UnusedField None) → fault_in false (with_part (if p then Ok a else Err UnusedField) rest) ≡ named (not p || test) UnusedField None
with_none true test a rest h = h a
with_none false test a rest h = refl

last : (test : Bool) (insn : Insn) → fault_in false (refuse_if test UnusedField (Ok insn)) ≡ named test UnusedField None
last test insn = refused test UnusedField (Ok insn) None refl

-- how an arithmetic instruction is refused
arithmetic_order : (w : Width) (op : Arithmetic) (by_register : Bool) (fields : Fields) (next : Option ℕ) → fault_in false (reading (Computing w op by_register) fields next) ≡ first_fault (Computing w op by_register) fields next
arithmetic_order w Div by_register fields next = refused (no_register fields.destination || no_operand by_register fields) BadRegister _ _ (with_2 (fields.offset == 0) (fields.offset == 1) _ _ _ _ (λ one. last (other_is_set by_register fields) (computed w by_register fields one)))
arithmetic_order w Mod by_register fields next = refused (no_register fields.destination || no_operand by_register fields) BadRegister _ _ (with_2 (fields.offset == 0) (fields.offset == 1) _ _ _ _ (λ one. last (other_is_set by_register fields) (computed w by_register fields one)))
arithmetic_order Full Mov true fields next = refused (no_register fields.destination || no_operand true fields) BadRegister _ _ (with_4 (fields.offset == 0) (fields.offset == 8) (fields.offset == 16) (fields.offset == 32) _ _ _ _ _ _ (λ one. last (other_is_set true fields) (computed Full true fields one)))
arithmetic_order Narrow Mov true fields next = refused (no_register fields.destination || no_operand true fields) BadRegister _ _ (with_3 (fields.offset == 0) (fields.offset == 8) (fields.offset == 16) _ _ _ _ _ (λ one. last (other_is_set true fields) (computed Narrow true fields one)))
arithmetic_order Full Mov false fields next = refused (no_register fields.destination || no_operand false fields) BadRegister _ _ (with_none (fields.offset == 0) (other_is_set false fields) _ _ (λ one. last (other_is_set false fields) (computed Full false fields one)))
arithmetic_order Narrow Mov false fields next = refused (no_register fields.destination || no_operand false fields) BadRegister _ _ (with_none (fields.offset == 0) (other_is_set false fields) _ _ (λ one. last (other_is_set false fields) (computed Narrow false fields one)))
arithmetic_order w Add by_register fields next = refused (no_register fields.destination || no_operand by_register fields) BadRegister _ _ (with_none (fields.offset == 0) (other_is_set by_register fields) _ _ (λ one. last (other_is_set by_register fields) (computed w by_register fields one)))
arithmetic_order w Sub by_register fields next = refused (no_register fields.destination || no_operand by_register fields) BadRegister _ _ (with_none (fields.offset == 0) (other_is_set by_register fields) _ _ (λ one. last (other_is_set by_register fields) (computed w by_register fields one)))
arithmetic_order w Mul by_register fields next = refused (no_register fields.destination || no_operand by_register fields) BadRegister _ _ (with_none (fields.offset == 0) (other_is_set by_register fields) _ _ (λ one. last (other_is_set by_register fields) (computed w by_register fields one)))
arithmetic_order w Or by_register fields next = refused (no_register fields.destination || no_operand by_register fields) BadRegister _ _ (with_none (fields.offset == 0) (other_is_set by_register fields) _ _ (λ one. last (other_is_set by_register fields) (computed w by_register fields one)))
arithmetic_order w And by_register fields next = refused (no_register fields.destination || no_operand by_register fields) BadRegister _ _ (with_none (fields.offset == 0) (other_is_set by_register fields) _ _ (λ one. last (other_is_set by_register fields) (computed w by_register fields one)))
arithmetic_order w Lsh by_register fields next = refused (no_register fields.destination || no_operand by_register fields) BadRegister _ _ (with_none (fields.offset == 0) (other_is_set by_register fields) _ _ (λ one. last (other_is_set by_register fields) (computed w by_register fields one)))
arithmetic_order w Rsh by_register fields next = refused (no_register fields.destination || no_operand by_register fields) BadRegister _ _ (with_none (fields.offset == 0) (other_is_set by_register fields) _ _ (λ one. last (other_is_set by_register fields) (computed w by_register fields one)))
arithmetic_order w Xor by_register fields next = refused (no_register fields.destination || no_operand by_register fields) BadRegister _ _ (with_none (fields.offset == 0) (other_is_set by_register fields) _ _ (λ one. last (other_is_set by_register fields) (computed w by_register fields one)))
arithmetic_order w Arsh by_register fields next = refused (no_register fields.destination || no_operand by_register fields) BadRegister _ _ (with_none (fields.offset == 0) (other_is_set by_register fields) _ _ (λ one. last (other_is_set by_register fields) (computed w by_register fields one)))
arithmetic_order w SignedDiv by_register fields next = refused (no_register fields.destination || no_operand by_register fields) BadRegister _ _ (with_none (fields.offset == 0) (other_is_set by_register fields) _ _ (λ one. last (other_is_set by_register fields) (computed w by_register fields one)))
arithmetic_order w SignedMod by_register fields next = refused (no_register fields.destination || no_operand by_register fields) BadRegister _ _ (with_none (fields.offset == 0) (other_is_set by_register fields) _ _ (λ one. last (other_is_set by_register fields) (computed w by_register fields one)))

wide_order : (fields : Fields) (next : Option ℕ) → fault_in false (reading LoadingWide fields next) ≡ first_fault LoadingWide fields next
wide_order fields None = refused (is_set fields.source) OutOfProfile _ _ refl
wide_order fields (Some second) =
    refused (is_set fields.source) OutOfProfile _ _ (refused (no_register fields.destination) BadRegister _ _ (last (is_set fields.offset || is_set (second % 2 ^ 32)) _))

pub reading-order : (op : Opcode) (fields : Fields) (next : Option ℕ) → fault_in false (reading op fields next) ≡ first_fault op fields next
reading-order (Computing w op by_register) fields next = arithmetic_order w op by_register fields next
reading-order (Negating w) fields next = refused (no_register fields.destination) BadRegister _ _ (last (is_set fields.source || is_set fields.offset || is_set fields.immediate) _)
reading-order (Converting conversion) fields next =
    refused (no_register fields.destination) BadRegister _ _
    (with_3 (fields.immediate == 16) (fields.immediate == 32) (fields.immediate == 64) _ _ _ _ _ (λ bits. last (is_set fields.source || is_set fields.offset) _))
reading-order Jumping fields next = last (is_set fields.destination || is_set fields.source || is_set fields.immediate) _
reading-order JumpingLong fields next = last (is_set fields.destination || is_set fields.source || is_set fields.offset) _
reading-order (Branching w comparison by_register) fields next =
    refused (no_register fields.destination || no_operand by_register fields) BadRegister _ _ (last (other_is_set by_register fields) _)
reading-order (Loading size) fields next =
    refused (no_register fields.destination || no_register fields.source) BadRegister _ _ (last (is_set fields.immediate) _)
reading-order (LoadingSigned size) fields next =
    refused (no_register fields.destination || no_register fields.source) BadRegister _ _ (last (is_set fields.immediate) _)
reading-order (Storing size by_register) fields next =
    refused (no_register fields.destination || no_operand by_register fields) BadRegister _ _ (last (other_is_set by_register fields) _)
reading-order LoadingWide fields next = wide_order fields next
reading-order Exiting fields next = last (is_set fields.destination || is_set fields.source || is_set fields.offset || is_set fields.immediate) _
reading-order LeftOut fields next = refl
reading-order Undefined fields next = refl

-- the fault of a slot that has to be an instruction is the first that it has
pub fault-order : (bytes : List ℕ) (index : ℕ) → is_second bytes index ≡ false → fault_at bytes index ≡ first_fault_at bytes index
unfolding read_at
fault-order bytes index first =
    rw first (reading-order (opcode_of (fields_of (slot_at bytes index)).opcode) (fields_of (slot_at bytes index)) (next_slot bytes (index + 1)))

pub ruleset orders = (fault-order)
