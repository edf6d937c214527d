-- What is printed of the samples, by computation.
use Rattle.std.proofs.Common.{◌≡◌, refl}
use Rattle.std.specs.Fmt.{digits}
use Rattle.span_context.specs.Context.{SpanBytes}
use Rattle.semantics.specs.Samples.{returns_one}
use Rattle.semantics.specs.State.{start}
use Rattle.semantics.specs.Memory.{stack_number}
use Rattle.assembler_lines.specs.Mnemonics.{name_of}
use Rattle.disassembler.specs.Canonical.{canonical_line}
use Rattle.step_lines.specs.Steps.{steps_text}
use Rattle.step_lines.specs.Samples.{first_told, both_told, jumps_into_load, jump_told, keeps_address, store_told, nothing_lent}

pub first-told : (bytes : SpanBytes) → steps_text returns_one bytes 1 start ≡ first_told
unfolding steps_text canonical_line name_of digits
first-told bytes = refl

pub both-told : (bytes : SpanBytes) → steps_text returns_one bytes 2 start ≡ both_told
unfolding steps_text canonical_line name_of digits
both-told bytes = refl

pub jump-told : (bytes : SpanBytes) → steps_text jumps_into_load bytes 3 start ≡ jump_told
unfolding steps_text canonical_line name_of digits
jump-told bytes = refl

pub store-told : steps_text keeps_address nothing_lent 2 start ≡ store_told
unfolding steps_text canonical_line name_of digits stack_number
store-told = refl

pub ruleset told = (first-told, both-told, jump-told, store-told)
