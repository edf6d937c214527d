-- Which facts an instruction gives on a way that leads on from it, by the facts before it.
use Rattle.std.specs.Prelude.{◌≡◌, ℕ, ℤ, ◌+◌, ◌-◌, ◌/◌, ◌%◌, ◌^◌, ◌<◌, ◌≤◌, Bool, true, false, List, Contains, Some}
use Rattle.std.specs.Int.{cast_unsigned, w64}
use Rattle.span_context.specs.declared.profile.Profile.{Profile}
use Rattle.span_context.specs.Profile.{context_length}
use Rattle.span_context.specs.declared.size.Size.{Size}
use Rattle.span_context.specs.declared.size.Size.TheVariants.{Double}
use Rattle.span_context.specs.declared.context_field.ContextField.{ContextField}
use Rattle.span_context.specs.ContextField.{offset_of, size_of}
use Rattle.bpf_words.specs.declared.instruction.Insn.{Insn}
use Rattle.bpf_words.specs.declared.instruction.Insn.TheVariants.{Compute, Negate, Extend, Convert, Jump, JumpLong}
use Rattle.bpf_words.specs.declared.instruction.Insn.TheVariants.{Branch, Load, LoadSigned, Store, LoadWide, Exit}
use Rattle.bpf_words.specs.declared.instruction.Arithmetic.{Arithmetic}
use Rattle.bpf_words.specs.declared.instruction.Arithmetic.TheVariants as operation
use Rattle.bpf_words.specs.declared.instruction.Comparison.{Comparison}
use Rattle.bpf_words.specs.declared.instruction.Conversion.{Conversion}
use Rattle.bpf_words.specs.declared.instruction.ConvertedBits.{ConvertedBits}
use Rattle.bpf_words.specs.declared.instruction.Extension.{Extension}
use Rattle.bpf_words.specs.declared.instruction.Operand.{Operand}
use Rattle.bpf_words.specs.declared.instruction.Operand.TheVariants.{Immediate, Source}
use Rattle.bpf_words.specs.declared.instruction.SignedSize.{SignedSize}
use Rattle.bpf_words.specs.declared.instruction.Width.{Width}
use Rattle.bpf_words.specs.declared.instruction.Width.TheVariants.{Narrow, Full}
use Rattle.semantics.specs.Value.{bits_of, bytes_kept, cut}
use Rattle.semantics.specs.Memory.{bytes_in}
use Rattle.abstract_state.specs.declared.region.Region.{Region}
use Rattle.abstract_state.specs.declared.relation.Relation.{Relation}
use Rattle.abstract_state.specs.Addresses.{width_of}
use Rattle.abstract_state.specs.Comparing.{relation_of}
use Rattle.abstract_state.specs.Loading.{is_whole}
use Rattle.abstract_state.specs.Edges.{is_order, is_register}
use Rattle.guarded_rules.specs.Facts.{Place, Register, Slot, Kind, Number, AddressIn, Property, Any, AtLeast, AtMost}
use Rattle.guarded_rules.specs.Facts.{Behind}
use Rattle.guarded_rules.specs.Facts.{Value, Of, ContextAt, StackAt, Fact, Holds, Long}
use Rattle.guarded_rules.specs.Facts.{Stored}
use Rattle.guarded_rules.specs.Sums.{Exactly, Sums, Takes}
use Rattle.guarded_rules.specs.Tests.{Side, Left, Right, Tells, Excludes}
use Rattle.guarded_rules.specs.Values.{Adding, Fields}
use Rattle.guarded_rules.specs.Steps.{Spares}
use Rattle.guarded_rules.specs.Stack.{IsBeside, IsSpared}

-- to the next instruction, or by the jump
pub data Way : Type 0 where
  Falls : Way
  Jumps : Way

abbrev pub is_taken : Way → Bool
is_taken Falls = false
is_taken Jumps = true

-- a fact says no more than another
pub data Weaker : Fact → Fact → Type 0 where
  any : {k : Kind} {p : Property} (place : Place) → Weaker (Holds place (Of k Any)) (Holds place (Of k p))
  zero : {k : Kind} {p : Property} (place : Place) → Weaker (Holds place (Of k (AtLeast 0))) (Holds place (Of k p))
  lower : {k : Kind} (place : Place) (m n : ℕ) → m ≤ n
      → Weaker (Holds place (Of k (AtLeast m))) (Holds place (Of k (AtLeast n)))
  higher : {k : Kind} (place : Place) (m n : ℕ) → n ≤ m
      → Weaker (Holds place (Of k (AtMost m))) (Holds place (Of k (AtMost n)))
  nearer : {k : Kind} (place : Place) (region : Region) (m n : ℕ) → m ≤ n
      → Weaker (Holds place (Of k (Behind region m))) (Holds place (Of k (Behind region n)))
  shorter : (region : Region) (m n : ℕ) → m ≤ n → Weaker (Long region m) (Long region n)

-- what a register is, by the facts before
abbrev pub At : List Fact → ℕ → Kind → Property → Type 0
At before r k p = Contains before (Holds (Register r) (Of k p))

-- what an operand is; a constant is a word
abbrev pub Reads : List Fact → Operand → Value → Type 0
Reads before (Source r) v = Contains before (Holds (Register r) v)
Reads before (Immediate value) (Of Number p) =
    (cast_unsigned w64 value < 2 ^ 64) × Exactly (cast_unsigned w64 value) p
Reads before (Immediate value) (Of (AddressIn region) p) = ⊥
Reads before (Immediate value) (ContextAt n) = ⊥
Reads before (Immediate value) (StackAt n) = ⊥

-- what a side of a test is; a constant as the test's width reads it
abbrev pub RightIs : List Fact → Width → Kind → Operand → Property → Type 0
RightIs before width k (Source r) p = At before r k p
RightIs before width Number (Immediate value) p = Exactly (cut width (cast_unsigned w64 value)) p
RightIs before width (AddressIn region) (Immediate value) p = ⊥

abbrev pub Sides : List Fact → Width → Kind → ℕ → Operand → Side → Property → Type 0
Sides before width k left right Left p = At before left k p
Sides before width k left right Right p = RightIs before width k right p

-- a test of 32 bits reads numbers of 32 bits
abbrev pub Below : Width → (Property → Type 0) → Type 0
Below Full P = Unit {0}
Below Narrow P = (n : ℕ) × P (AtMost n) × (n < 2 ^ 32)

-- count bytes at an offset from a register that holds the address of a byte of the stack; the first is byte n
pub record IsStackAt (before : List Fact) (base : ℕ) (offset : ℤ) (count n : ℕ) : Type 0 where
  pub begin : ℕ
  pub holds : Contains before (Holds (Register base) (StackAt begin))
  pub at : (begin + cast_unsigned w64 offset) % 2 ^ 64 ≡ n
  pub few : n + count ≤ 512

-- on a way the sides of a test stand to one another so: a test without sign, of two registers or of one and a constant
pub record IsTested (before : List Fact) (width : Width) (comparison : Comparison) (way : Way) (k : Kind) (left : ℕ)
    (right : Operand) (r : Relation) : Type 0 where
  pub plain : is_order comparison ≡ true
  pub relation : relation_of comparison (is_taken way) ≡ Some r
  pub apart : is_register left right ≡ false
  pub sides : (side : Side) → Sides before width k left right side Any
  pub fit : (side : Side) → Below width (Sides before width k left right side)

pub data Gives (profile : Profile) (before : List Fact) : Insn → Way → Fact → Type 0 where
  weaken : {insn : Insn} {way : Way} (f g : Fact) → Weaker f g → Gives profile before insn way g
      → Gives profile before insn way f
  keeps : {insn : Insn} {way : Way} (f : Fact) → Contains before f → Spares insn f → Gives profile before insn way f
  -- no way falls on from an exit or a jump
  ended : (f : Fact) → Gives profile before Exit Falls f
  jumped : (distance : ℤ) (f : Fact) → Gives profile before (Jump distance) Falls f
  jumped_long : (distance : ℤ) (f : Fact) → Gives profile before (JumpLong distance) Falls f
  -- moves and constants
  moves : (d : ℕ) (operand : Operand) (v : Value) → Reads before operand v
      → Gives profile before (Compute Full operation.Mov d operand) Falls (Holds (Register d) v)
  wide : (d value : ℕ) (p : Property) → value < 2 ^ 64 → Exactly value p
      → Gives profile before (LoadWide d value) Falls (Holds (Register d) (Of Number p))
  moves_word : (width : Width) (d : ℕ) (operand : Operand) → Reads before operand (Of Number Any)
      → Gives profile before (Compute width operation.Mov d operand) Falls
      (Holds (Register d) (Of Number (AtMost (2 ^ bits_of width - 1))))
  moves_low : (d : ℕ) (operand : Operand) (p : Property) → Reads before operand (Of Number p)
      → Below Narrow (λ q. Reads before operand (Of Number q))
      → Gives profile before (Compute Narrow operation.Mov d operand) Falls (Holds (Register d) (Of Number p))
  -- of a constant an operation of 32 bits reads the low half
  moves_constant : (d : ℕ) (value : ℤ) (p : Property) → Exactly (cut Narrow (cast_unsigned w64 value)) p
      → Gives profile before (Compute Narrow operation.Mov d (Immediate value)) Falls (Holds (Register d) (Of Number p))
  sums_constant : {p : Property} (d : ℕ) (value : ℤ) → At before d Number Any → Below Narrow (At before d Number)
      → Sums profile Narrow (At before d Number) (Exactly (cut Narrow (cast_unsigned w64 value))) p
      → Gives profile before (Compute Narrow operation.Add d (Immediate value)) Falls (Holds (Register d) (Of Number p))
  -- a constant is added to the address of a byte of the stack, or of the context
  displaces_stack : (d : ℕ) (value : ℤ) (begin n : ℕ) → Contains before (Holds (Register d) (StackAt begin))
      → (begin + cast_unsigned w64 value) % 2 ^ 64 ≡ n → n ≤ 512
      → Gives profile before (Compute Full operation.Add d (Immediate value)) Falls (Holds (Register d) (StackAt n))
  displaces_context : (d : ℕ) (value : ℤ) (begin n : ℕ) → Contains before (Holds (Register d) (ContextAt begin))
      → (begin + cast_unsigned w64 value) % 2 ^ 64 ≡ n → n ≤ context_length profile
      → Gives profile before (Compute Full operation.Add d (Immediate value)) Falls (Holds (Register d) (ContextAt n))
  -- sums; other arithmetic gives a number of its width
  sums : {k l m : Kind} {p : Property} (d : ℕ) (operand : Operand) → Adding k l m → At before d k Any
      → Reads before operand (Of l Any) → Sums profile Full (At before d k) (λ q. Reads before operand (Of l q)) p
      → Gives profile before (Compute Full operation.Add d operand) Falls (Holds (Register d) (Of m p))
  sums_low : {p : Property} (d : ℕ) (operand : Operand) → At before d Number Any → Reads before operand (Of Number Any)
      → Below Narrow (At before d Number) → Below Narrow (λ q. Reads before operand (Of Number q))
      → Sums profile Narrow (At before d Number) (λ q. Reads before operand (Of Number q)) p
      → Gives profile before (Compute Narrow operation.Add d operand) Falls (Holds (Register d) (Of Number p))
  -- a number of which the sign bit is 0, and that is no greater, is taken away
  takes : {k : Kind} {p : Property} (d : ℕ) (operand : Operand) (most : ℕ) → At before d k Any
      → Reads before operand (Of Number Any) → Reads before operand (Of Number (AtMost most)) → most < 2 ^ 63
      → Takes (At before d k) (λ q. Reads before operand (Of Number q)) p
      → Gives profile before (Compute Full operation.Sub d operand) Falls (Holds (Register d) (Of k p))
  computes : (width : Width) (op : Arithmetic) (d : ℕ) (operand : Operand) → (op ≡ operation.Mov → ⊥)
      → At before d Number Any → Reads before operand (Of Number Any)
      → Gives profile before (Compute width op d operand) Falls
      (Holds (Register d) (Of Number (AtMost (2 ^ bits_of width - 1))))
  negates : (width : Width) (d : ℕ) → At before d Number Any
      → Gives profile before (Negate width d) Falls (Holds (Register d) (Of Number (AtMost (2 ^ bits_of width - 1))))
  extends : (extension : Extension) (d source : ℕ) → At before source Number Any
      → Gives profile before (Extend extension d source) Falls
      (Holds (Register d) (Of Number (AtMost (2 ^ bits_of (width_of extension) - 1))))
  converts : (conversion : Conversion) (bits : ConvertedBits) (d : ℕ) → At before d Number Any
      → Gives profile before (Convert conversion bits d) Falls
      (Holds (Register d) (Of Number (AtMost (256 ^ bytes_kept bits - 1))))
  -- loads of fields, and of bytes of a lent region
  field : (d base : ℕ) (offset : ℤ) (start : ℕ) (f : ContextField) (k : Kind) (p : Property)
      → Contains before (Holds (Register base) (ContextAt start))
      → (start + cast_unsigned w64 offset) % 2 ^ 64 ≡ offset_of f → offset_of f ≤ start + 2 ^ 16 → Fields profile f k p
      → Gives profile before (Load (size_of f) d base offset) Falls (Holds (Register d) (Of k p))
  loads : (size : Size) (d base : ℕ) (offset : ℤ) (region : Region) → At before base (AddressIn region) Any
      → Gives profile before (Load size d base offset) Falls
      (Holds (Register d) (Of Number (AtMost (256 ^ bytes_in size - 1))))
  loads_signed : (size : SignedSize) (d base : ℕ) (offset : ℤ)
      → Gives profile before (LoadSigned size d base offset) Falls
      (Holds (Register d) (Of Number (AtMost (2 ^ 64 - 1))))
  -- all eight bytes of a slot of the stack are stored, or loaded, at once
  spills : (base : ℕ) (offset : ℤ) (operand : Operand) (n : ℕ) (v : Value) → IsStackAt before base offset 8 n
      → n % 8 ≡ 0 → Reads before operand v
      → Gives profile before (Store Double base offset operand) Falls (Holds (Slot (n / 8)) v)
  spills_beside : (base : ℕ) (offset : ℤ) (operand : Operand) (n : ℕ) (f : Fact) → IsStackAt before base offset 8 n
      → n % 8 ≡ 0 → Contains before f → IsBeside (n / 8) f
      → Gives profile before (Store Double base offset operand) Falls f
  spills_number : (base : ℕ) (offset : ℤ) (operand : Operand) (n byte : ℕ) → IsStackAt before base offset 8 n
      → n % 8 ≡ 0 → Reads before operand (Of Number Any) → byte / 8 ≡ n / 8
      → Gives profile before (Store Double base offset operand) Falls (Stored byte)
  fills : (d base : ℕ) (offset : ℤ) (n : ℕ) (v : Value) → IsStackAt before base offset 8 n → n % 8 ≡ 0
      → Contains before (Holds (Slot (n / 8)) v)
      → Gives profile before (Load Double d base offset) Falls (Holds (Register d) v)
  -- other bytes of a number
  stores : (size : Size) (base : ℕ) (offset : ℤ) (operand : Operand) (n byte : ℕ)
      → IsStackAt before base offset (bytes_in size) n → is_whole n (bytes_in size) ≡ false
      → Reads before operand (Of Number Any) → n ≤ byte → byte < n + bytes_in size
      → Gives profile before (Store size base offset operand) Falls (Stored byte)
  stores_beside : (size : Size) (base : ℕ) (offset : ℤ) (operand : Operand) (n : ℕ) (f : Fact)
      → IsStackAt before base offset (bytes_in size) n → is_whole n (bytes_in size) ≡ false
      → Reads before operand (Of Number Any) → Contains before f → IsSpared n (bytes_in size) f
      → Gives profile before (Store size base offset operand) Falls f
  loads_part : (size : Size) (d base : ℕ) (offset : ℤ) (n : ℕ) → (size ≡ Double → ⊥)
      → Contains before (Holds (Register base) (StackAt n))
      → Gives profile before (Load size d base offset) Falls
      (Holds (Register d) (Of Number (AtMost (256 ^ bytes_in size - 1))))
  -- what a test tells of its sides, and of how long a region is
  tells_left : {k : Kind} {p : Property} {way : Way} (width : Width) (comparison : Comparison) (left : ℕ)
      (right : Operand) (distance : ℤ) (r : Relation) → IsTested before width comparison way k left right r
      → Tells r (Sides before width k left right) Left p
      → Gives profile before (Branch width comparison left right distance) way (Holds (Register left) (Of k p))
  tells_right : {k : Kind} {p : Property} {way : Way} (width : Width) (comparison : Comparison) (left right : ℕ)
      (distance : ℤ) (r : Relation) → IsTested before width comparison way k left (Source right) r
      → Tells r (Sides before width k left (Source right)) Right p
      → Gives profile before (Branch width comparison left (Source right) distance) way
      (Holds (Register right) (Of k p))
  tells_long : {k : Kind} {way : Way} (width : Width) (comparison : Comparison) (left : ℕ) (right : Operand)
      (distance : ℤ) (r : Relation) (region : Region) (m n : ℕ) (side : Side)
      → IsTested before width comparison way k left right r
      → Tells r (Sides before width k left right) side (AtLeast m)
      → Tells r (Sides before width k left right) side (Behind region n)
      → Gives profile before (Branch width comparison left right distance) way (Long region (m + n))
  -- no run takes a way on which the test can't come out so
  never : {k : Kind} {way : Way} (width : Width) (comparison : Comparison) (left : ℕ) (right : Operand) (distance : ℤ)
      (r : Relation) (f : Fact) → IsTested before width comparison way k left right r
      → Excludes r (Sides before width k left right)
      → Gives profile before (Branch width comparison left right distance) way f
