-- The mnemonics: one table, read both ways.
use Rattle.std.specs.Prelude.{ℕ, ◌==◌, List, [], ◌∷◌, ◌++◌, map, filter, flat_map, slice_index, Option, codes}
use Rattle.std.specs.List.{find}
use Rattle.std.specs.Str.{bytes_eq}
use Rattle.bpf_words.specs.declared.instruction.Width.{Width}
use Rattle.bpf_words.specs.declared.instruction.Width.TheVariants.{Narrow, Full}
use Rattle.bpf_words.specs.declared.instruction.Arithmetic.{Arithmetic}
use Rattle.bpf_words.specs.declared.instruction.Arithmetic.TheVariants.{Add, Sub, Mul, Div, Or, And, Lsh, Rsh, Mod, Xor}
use Rattle.bpf_words.specs.declared.instruction.Arithmetic.TheVariants.{Mov, Arsh, SignedDiv, SignedMod}
use Rattle.bpf_words.specs.declared.instruction.Extension.{Extension}
use Rattle.bpf_words.specs.declared.instruction.Extension.TheVariants.{FromByte, FromHalf, FromWord, NarrowFromByte}
use Rattle.bpf_words.specs.declared.instruction.Extension.TheVariants.{NarrowFromHalf}
use Rattle.bpf_words.specs.declared.instruction.Conversion.{Conversion}
use Rattle.bpf_words.specs.declared.instruction.Conversion.TheVariants.{ToLittleEndian, ToBigEndian, Swap}
use Rattle.bpf_words.specs.declared.instruction.ConvertedBits.{ConvertedBits}
use Rattle.bpf_words.specs.declared.instruction.ConvertedBits.TheVariants.{Bits16, Bits32, Bits64}
use Rattle.bpf_words.specs.declared.instruction.Comparison.{Comparison}
use Rattle.bpf_words.specs.declared.instruction.Comparison.TheVariants.{Equal, Greater, GreaterOrEqual, AnyBit}
use Rattle.bpf_words.specs.declared.instruction.Comparison.TheVariants.{NotEqual, SignedGreater, SignedGreaterOrEqual}
use Rattle.bpf_words.specs.declared.instruction.Comparison.TheVariants.{Less, LessOrEqual, SignedLess}
use Rattle.bpf_words.specs.declared.instruction.Comparison.TheVariants.{SignedLessOrEqual}
use Rattle.span_context.specs.declared.size.Size.{Size}
use Rattle.span_context.specs.declared.size.Size.TheVariants.{Byte, Half, Word, Double}
use Rattle.bpf_words.specs.declared.instruction.SignedSize.{SignedSize}
use Rattle.bpf_words.specs.declared.instruction.SignedSize.TheVariants.{SignedByte, SignedHalf, SignedWord}
use Rattle.assembler_lines.specs.declared.form.Form.{Form}
use Rattle.assembler_lines.specs.declared.form.Form.TheVariants.{Compute, Negate, Extend, Convert, Jump, JumpLong}
use Rattle.assembler_lines.specs.declared.form.Form.TheVariants.{Branch, Load, LoadSigned, StoreImmediate}
use Rattle.assembler_lines.specs.declared.form.Form.TheVariants.{StoreRegister, LoadWide, Exit}

-- an instruction on 32 bits has `32` behind its name
abbrev pub width_suffix : Width → List ℕ
width_suffix Full = []
width_suffix Narrow = codes "32"

abbrev pub arithmetic_name : Arithmetic → List ℕ
arithmetic_name Add = codes "add"
arithmetic_name Sub = codes "sub"
arithmetic_name Mul = codes "mul"
arithmetic_name Div = codes "div"
arithmetic_name Or = codes "or"
arithmetic_name And = codes "and"
arithmetic_name Lsh = codes "lsh"
arithmetic_name Rsh = codes "rsh"
arithmetic_name Mod = codes "mod"
arithmetic_name Xor = codes "xor"
arithmetic_name Mov = codes "mov"
arithmetic_name Arsh = codes "arsh"
arithmetic_name SignedDiv = codes "sdiv"
arithmetic_name SignedMod = codes "smod"

abbrev pub comparison_name : Comparison → List ℕ
comparison_name Equal = codes "jeq"
comparison_name Greater = codes "jgt"
comparison_name GreaterOrEqual = codes "jge"
comparison_name AnyBit = codes "jset"
comparison_name NotEqual = codes "jne"
comparison_name SignedGreater = codes "jsgt"
comparison_name SignedGreaterOrEqual = codes "jsge"
comparison_name Less = codes "jlt"
comparison_name LessOrEqual = codes "jle"
comparison_name SignedLess = codes "jslt"
comparison_name SignedLessOrEqual = codes "jsle"

abbrev pub extension_name : Extension → List ℕ
extension_name FromByte = codes "movsx8"
extension_name FromHalf = codes "movsx16"
extension_name FromWord = codes "movsx32"
extension_name NarrowFromByte = codes "mov32sx8"
extension_name NarrowFromHalf = codes "mov32sx16"

abbrev pub conversion_name : Conversion → List ℕ
conversion_name ToLittleEndian = codes "le"
conversion_name ToBigEndian = codes "be"
conversion_name Swap = codes "swap"

abbrev pub bits_suffix : ConvertedBits → List ℕ
bits_suffix Bits16 = codes "16"
bits_suffix Bits32 = codes "32"
bits_suffix Bits64 = codes "64"

abbrev pub size_suffix : Size → List ℕ
size_suffix Byte = codes "b"
size_suffix Half = codes "h"
size_suffix Word = codes "w"
size_suffix Double = codes "dw"

abbrev pub signed_size_suffix : SignedSize → List ℕ
signed_size_suffix SignedByte = codes "b"
signed_size_suffix SignedHalf = codes "h"
signed_size_suffix SignedWord = codes "w"

-- the mnemonic of each form
unfoldable pub name_of : Form → List ℕ
name_of (Compute width operation) = arithmetic_name operation ++ width_suffix width
name_of (Negate width) = codes "neg" ++ width_suffix width
name_of (Extend extension) = extension_name extension
name_of (Convert conversion bits) = conversion_name conversion ++ bits_suffix bits
name_of Jump = codes "ja"
name_of JumpLong = codes "ja32"
name_of (Branch width comparison) = comparison_name comparison ++ width_suffix width
name_of (Load size) = codes "ldx" ++ size_suffix size
name_of (LoadSigned size) = codes "ldxs" ++ signed_size_suffix size
name_of (StoreImmediate size) = codes "st" ++ size_suffix size
name_of (StoreRegister size) = codes "stx" ++ size_suffix size
name_of LoadWide = codes "lddw"
name_of Exit = codes "exit"

abbrev pub widths : List Width
widths = Full ∷ Narrow ∷ []

abbrev pub arithmetics : List Arithmetic
arithmetics = Add ∷ Sub ∷ Mul ∷ Div ∷ Or ∷ And ∷ Lsh ∷ Rsh ∷ Mod ∷ Xor ∷ Mov ∷ Arsh ∷ SignedDiv ∷ SignedMod ∷ []

abbrev pub comparisons : List Comparison
comparisons =
    Equal ∷ Greater ∷ GreaterOrEqual ∷ AnyBit ∷ NotEqual ∷ SignedGreater ∷ SignedGreaterOrEqual ∷ Less ∷ LessOrEqual
    ∷ SignedLess ∷ SignedLessOrEqual ∷ []

abbrev pub extensions : List Extension
extensions = FromByte ∷ FromHalf ∷ FromWord ∷ NarrowFromByte ∷ NarrowFromHalf ∷ []

abbrev pub conversions : List Conversion
conversions = ToLittleEndian ∷ ToBigEndian ∷ Swap ∷ []

abbrev pub all_bits : List ConvertedBits
all_bits = Bits16 ∷ Bits32 ∷ Bits64 ∷ []

abbrev pub sizes : List Size
sizes = Byte ∷ Half ∷ Word ∷ Double ∷ []

abbrev pub signed_sizes : List SignedSize
signed_sizes = SignedByte ∷ SignedHalf ∷ SignedWord ∷ []

-- every form, once
unfoldable pub all_forms : List Form
all_forms =
    flat_map (λ width. map (Compute width) arithmetics) widths ++ (map Negate widths ++ (map Extend extensions ++
    (flat_map (λ conversion. map (Convert conversion) all_bits) conversions ++ (Jump ∷ JumpLong ∷
    flat_map (λ width. map (Branch width) comparisons) widths ++ (map Load sizes ++ (map LoadSigned signed_sizes ++
    (map StoreImmediate sizes ++ (map StoreRegister sizes ++ LoadWide ∷ Exit ∷ []))))))))

-- the form that a mnemonic names: the table, read the other way
unfoldable pub form_named : List ℕ → Option Form
form_named word = find (λ form. bytes_eq (name_of form) word) all_forms

-- the forms whose mnemonics have a second byte
unfoldable pub forms_on : ℕ → List Form
forms_on byte = filter (λ form. slice_index (name_of form) 1 == byte) all_forms
