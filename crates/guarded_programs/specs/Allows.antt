-- What an instruction needs of the facts before it.
use Rattle.std.specs.Prelude.{◌≡◌, ℕ, ℤ, ◌+◌, ◌/◌, ◌%◌, ◌^◌, ◌<◌, ◌≤◌, true, List, Contains}
use Rattle.std.specs.Int.{cast_unsigned, w64}
use Rattle.span_context.specs.declared.profile.Profile.{Profile}
use Rattle.span_context.specs.Profile.{context_length}
use Rattle.span_context.specs.declared.size.Size.{Size}
use Rattle.span_context.specs.declared.size.Size.TheVariants.{Double}
use Rattle.span_context.specs.declared.context_field.ContextField.{ContextField}
use Rattle.span_context.specs.ContextField.{offset_of, size_of}
use Rattle.bpf_words.specs.declared.instruction.Insn.{Insn}
use Rattle.bpf_words.specs.declared.instruction.Insn.TheVariants.{Compute, Negate, Extend, Convert, Jump, JumpLong}
use Rattle.bpf_words.specs.declared.instruction.Insn.TheVariants.{Branch, Load, LoadSigned, Store, LoadWide, Exit}
use Rattle.bpf_words.specs.declared.instruction.Arithmetic.{Arithmetic}
use Rattle.bpf_words.specs.declared.instruction.Arithmetic.TheVariants as operation
use Rattle.bpf_words.specs.declared.instruction.Comparison.{Comparison}
use Rattle.bpf_words.specs.declared.instruction.Conversion.{Conversion}
use Rattle.bpf_words.specs.declared.instruction.ConvertedBits.{ConvertedBits}
use Rattle.bpf_words.specs.declared.instruction.Extension.{Extension}
use Rattle.bpf_words.specs.declared.instruction.Operand.{Operand}
use Rattle.bpf_words.specs.declared.instruction.Operand.TheVariants.{Immediate}
use Rattle.bpf_words.specs.declared.instruction.SignedSize.{SignedSize}
use Rattle.bpf_words.specs.declared.instruction.Width.{Width}
use Rattle.bpf_words.specs.declared.instruction.Width.TheVariants.{Full}
use Rattle.semantics.specs.Memory.{bytes_in, bytes_in_signed}
use Rattle.abstract_state.specs.declared.region.Region.{Region}
use Rattle.abstract_state.specs.Edges.{is_order}
use Rattle.guarded_rules.specs.Facts.{Register, Slot, Kind, Number, AddressIn, Property, Any, AtMost, Value, Of}
use Rattle.guarded_rules.specs.Facts.{ContextAt, StackAt}
use Rattle.guarded_rules.specs.Facts.{Fact, Holds, Long, Stored}
use Rattle.guarded_rules.specs.Sums.{Sums, Takes}
use Rattle.guarded_rules.specs.Values.{Adding, Fields}
use Rattle.guarded_rules.specs.Steps.{Reaches}
use Rattle.guarded_programs.specs.Gives.{At, Reads, RightIs, IsStackAt}

pub data Allows (profile : Profile) (before : List Fact) : Insn → Type 0 where
  -- of an address all 64 bits are moved
  moves : (d : ℕ) (operand : Operand) (v : Value) → Reads before operand v
      → Allows profile before (Compute Full operation.Mov d operand)
  moves_number : (width : Width) (d : ℕ) (operand : Operand) → Reads before operand (Of Number Any)
      → Allows profile before (Compute width operation.Mov d operand)
  computes : (width : Width) (op : Arithmetic) (d : ℕ) (operand : Operand) → (op ≡ operation.Mov → ⊥)
      → At before d Number Any → Reads before operand (Of Number Any)
      → Allows profile before (Compute width op d operand)
  -- an address stays within 2^20 of its region's begin
  sums : {k l : Kind} (d : ℕ) (operand : Operand) (region : Region) (most : ℕ) → Adding k l (AddressIn region)
      → At before d k Any → Reads before operand (Of l Any)
      → Sums profile Full (At before d k) (λ q. Reads before operand (Of l q)) (AtMost most) → most ≤ 2 ^ 20
      → Allows profile before (Compute Full operation.Add d operand)
  takes : (d : ℕ) (operand : Operand) (region : Region) (most near : ℕ) → At before d (AddressIn region) Any
      → Reads before operand (Of Number Any) → Reads before operand (Of Number (AtMost most)) → most < 2 ^ 63
      → Takes (At before d (AddressIn region)) (λ q. Reads before operand (Of Number q)) (AtMost near) → near ≤ 2 ^ 20
      → Allows profile before (Compute Full operation.Sub d operand)
  displaces_stack : (d : ℕ) (value : ℤ) (begin n : ℕ) → Contains before (Holds (Register d) (StackAt begin))
      → (begin + cast_unsigned w64 value) % 2 ^ 64 ≡ n → n ≤ 512
      → Allows profile before (Compute Full operation.Add d (Immediate value))
  displaces_context : (d : ℕ) (value : ℤ) (begin n : ℕ) → Contains before (Holds (Register d) (ContextAt begin))
      → (begin + cast_unsigned w64 value) % 2 ^ 64 ≡ n → n ≤ context_length profile
      → Allows profile before (Compute Full operation.Add d (Immediate value))
  negates : (width : Width) (d : ℕ) → At before d Number Any → Allows profile before (Negate width d)
  extends : (extension : Extension) (d source : ℕ) → At before source Number Any
      → Allows profile before (Extend extension d source)
  converts : (conversion : Conversion) (bits : ConvertedBits) (d : ℕ) → At before d Number Any
      → Allows profile before (Convert conversion bits d)
  jumps : (distance : ℤ) → Allows profile before (Jump distance)
  jumps_long : (distance : ℤ) → Allows profile before (JumpLong distance)
  -- numbers are compared by each comparison, addresses in one region by all 64 bits and without sign
  tests_numbers : (width : Width) (comparison : Comparison) (left : ℕ) (right : Operand) (distance : ℤ)
      → At before left Number Any → RightIs before width Number right Any
      → Allows profile before (Branch width comparison left right distance)
  tests_addresses : (comparison : Comparison) (left : ℕ) (right : Operand) (distance : ℤ) (region : Region)
      → is_order comparison ≡ true → At before left (AddressIn region) Any
      → RightIs before Full (AddressIn region) right Any
      → Allows profile before (Branch Full comparison left right distance)
  -- fields are loaded whole, and bytes of a lent region where it has them
  field : (d base : ℕ) (offset : ℤ) (start : ℕ) (f : ContextField) (k : Kind) (p : Property)
      → Contains before (Holds (Register base) (ContextAt start))
      → (start + cast_unsigned w64 offset) % 2 ^ 64 ≡ offset_of f → offset_of f ≤ start + 2 ^ 16 → Fields profile f k p
      → Allows profile before (Load (size_of f) d base offset)
  loads : (size : Size) (d base : ℕ) (offset : ℤ) (region : Region) → At before base (AddressIn region) Any
      → Reaches region (At before base (AddressIn region)) (λ n. Contains before (Long region n))
      (cast_unsigned w64 offset) (bytes_in size)
      → Allows profile before (Load size d base offset)
  loads_signed : (size : SignedSize) (d base : ℕ) (offset : ℤ) (region : Region) → At before base (AddressIn region) Any
      → Reaches region (At before base (AddressIn region)) (λ n. Contains before (Long region n))
      (cast_unsigned w64 offset) (bytes_in_signed size)
      → Allows profile before (LoadSigned size d base offset)
  -- a number may be stored anywhere in the stack, an address only as all of a slot
  stores : (size : Size) (base : ℕ) (offset : ℤ) (operand : Operand) (n : ℕ)
      → IsStackAt before base offset (bytes_in size) n → Reads before operand (Of Number Any)
      → Allows profile before (Store size base offset operand)
  spills : (base : ℕ) (offset : ℤ) (operand : Operand) (n : ℕ) (v : Value) → IsStackAt before base offset 8 n
      → n % 8 ≡ 0 → Reads before operand v → Allows profile before (Store Double base offset operand)
  -- what is loaded of the stack was stored
  fills : (d base : ℕ) (offset : ℤ) (n : ℕ) (v : Value) → IsStackAt before base offset 8 n → n % 8 ≡ 0
      → Contains before (Holds (Slot (n / 8)) v) → Allows profile before (Load Double d base offset)
  loads_stored : (size : Size) (d base : ℕ) (offset : ℤ) (n : ℕ) → (size ≡ Double → ⊥)
      → IsStackAt before base offset (bytes_in size) n
      → ((j : ℕ) → j < bytes_in size → Contains before (Stored (n + j)))
      → Allows profile before (Load size d base offset)
  wide : (d value : ℕ) → Allows profile before (LoadWide d value)
  -- a run ends with a number
  ends : At before 0 Number Any → Allows profile before Exit
