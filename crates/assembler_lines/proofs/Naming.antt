-- The table of mnemonics, read both ways.
use Rattle.std.proofs.Common.{◌≡◌, ℕ, List, Some, refl, ap, ◌∙◌}
use Rattle.bpf_words.specs.declared.instruction.Width.TheVariants.{Narrow, Full}
use Rattle.bpf_words.specs.declared.instruction.Arithmetic.TheVariants.{Add, Sub, Mul, Div, Or, And, Lsh, Rsh, Mod, Xor, Mov, Arsh, SignedDiv, SignedMod}
use Rattle.bpf_words.specs.declared.instruction.Extension.TheVariants.{FromByte, FromHalf, FromWord, NarrowFromByte, NarrowFromHalf}
use Rattle.bpf_words.specs.declared.instruction.Conversion.TheVariants.{ToLittleEndian, ToBigEndian, Swap}
use Rattle.bpf_words.specs.declared.instruction.ConvertedBits.TheVariants.{Bits16, Bits32, Bits64}
use Rattle.bpf_words.specs.declared.instruction.Comparison.TheVariants.{Equal, Greater, GreaterOrEqual, AnyBit, NotEqual, SignedGreater, SignedGreaterOrEqual, Less, LessOrEqual, SignedLess, SignedLessOrEqual}
use Rattle.span_context.specs.declared.size.Size.TheVariants.{Byte, Half, Word, Double}
use Rattle.bpf_words.specs.declared.instruction.SignedSize.TheVariants.{SignedByte, SignedHalf, SignedWord}
use Rattle.assembler_lines.specs.declared.form.Form.{Form}
use Rattle.assembler_lines.specs.declared.form.Form.TheVariants.{Compute, Negate, Extend, Convert, Jump, JumpLong, Branch, Load, LoadSigned, StoreImmediate, StoreRegister, LoadWide, Exit}
use Rattle.assembler_lines.specs.Mnemonics.{name_of, form_named, all_forms}

-- a form's mnemonic names that form, and so no two forms have one name
pub form_again : (form : Form) → form_named (name_of form) ≡ Some form
unfolding name_of form_named all_forms
form_again (Compute Full Add) = refl
form_again (Compute Full Sub) = refl
form_again (Compute Full Mul) = refl
form_again (Compute Full Div) = refl
form_again (Compute Full Or) = refl
form_again (Compute Full And) = refl
form_again (Compute Full Lsh) = refl
form_again (Compute Full Rsh) = refl
form_again (Compute Full Mod) = refl
form_again (Compute Full Xor) = refl
form_again (Compute Full Mov) = refl
form_again (Compute Full Arsh) = refl
form_again (Compute Full SignedDiv) = refl
form_again (Compute Full SignedMod) = refl
form_again (Compute Narrow Add) = refl
form_again (Compute Narrow Sub) = refl
form_again (Compute Narrow Mul) = refl
form_again (Compute Narrow Div) = refl
form_again (Compute Narrow Or) = refl
form_again (Compute Narrow And) = refl
form_again (Compute Narrow Lsh) = refl
form_again (Compute Narrow Rsh) = refl
form_again (Compute Narrow Mod) = refl
form_again (Compute Narrow Xor) = refl
form_again (Compute Narrow Mov) = refl
form_again (Compute Narrow Arsh) = refl
form_again (Compute Narrow SignedDiv) = refl
form_again (Compute Narrow SignedMod) = refl
form_again (Negate Full) = refl
form_again (Negate Narrow) = refl
form_again (Extend FromByte) = refl
form_again (Extend FromHalf) = refl
form_again (Extend FromWord) = refl
form_again (Extend NarrowFromByte) = refl
form_again (Extend NarrowFromHalf) = refl
form_again (Convert ToLittleEndian Bits16) = refl
form_again (Convert ToLittleEndian Bits32) = refl
form_again (Convert ToLittleEndian Bits64) = refl
form_again (Convert ToBigEndian Bits16) = refl
form_again (Convert ToBigEndian Bits32) = refl
form_again (Convert ToBigEndian Bits64) = refl
form_again (Convert Swap Bits16) = refl
form_again (Convert Swap Bits32) = refl
form_again (Convert Swap Bits64) = refl
form_again Jump = refl
form_again JumpLong = refl
form_again (Branch Full Equal) = refl
form_again (Branch Full Greater) = refl
form_again (Branch Full GreaterOrEqual) = refl
form_again (Branch Full AnyBit) = refl
form_again (Branch Full NotEqual) = refl
form_again (Branch Full SignedGreater) = refl
form_again (Branch Full SignedGreaterOrEqual) = refl
form_again (Branch Full Less) = refl
form_again (Branch Full LessOrEqual) = refl
form_again (Branch Full SignedLess) = refl
form_again (Branch Full SignedLessOrEqual) = refl
form_again (Branch Narrow Equal) = refl
form_again (Branch Narrow Greater) = refl
form_again (Branch Narrow GreaterOrEqual) = refl
form_again (Branch Narrow AnyBit) = refl
form_again (Branch Narrow NotEqual) = refl
form_again (Branch Narrow SignedGreater) = refl
form_again (Branch Narrow SignedGreaterOrEqual) = refl
form_again (Branch Narrow Less) = refl
form_again (Branch Narrow LessOrEqual) = refl
form_again (Branch Narrow SignedLess) = refl
form_again (Branch Narrow SignedLessOrEqual) = refl
form_again (Load Byte) = refl
form_again (Load Half) = refl
form_again (Load Word) = refl
form_again (Load Double) = refl
form_again (LoadSigned SignedByte) = refl
form_again (LoadSigned SignedHalf) = refl
form_again (LoadSigned SignedWord) = refl
form_again (StoreImmediate Byte) = refl
form_again (StoreImmediate Half) = refl
form_again (StoreImmediate Word) = refl
form_again (StoreImmediate Double) = refl
form_again (StoreRegister Byte) = refl
form_again (StoreRegister Half) = refl
form_again (StoreRegister Word) = refl
form_again (StoreRegister Double) = refl
form_again LoadWide = refl
form_again Exit = refl

pub named_again : (form : Form) (name : List ℕ) → name ≡ name_of form → form_named name ≡ Some form
named_again form name same = ap form_named same ∙ form_again form
