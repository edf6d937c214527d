-- A worked case: a load of two bytes at an address in the text, behind a test that is enough for one.
use Rattle.std.specs.Prelude.{nat_eq, pos, if◌then◌else◌, Some, None}
use Rattle.span_context.specs.declared.size.Size.TheVariants.{Half}
use Rattle.bpf_words.specs.declared.instruction.Insn.{Insn}
use Rattle.bpf_words.specs.declared.instruction.Insn.TheVariants.{Load}
use Rattle.abstract_state.specs.declared.region.Region.TheVariants.{Text}
use Rattle.abstract_state.specs.Estimate.{Estimate}
use Rattle.abstract_state.specs.Addresses.{InRegion}
use Rattle.abstract_state.specs.Stacks.{Marked, none_set}
use Rattle.abstract_state.specs.Situation.{Situation}

-- from the text's begin up to 131071 bytes on, with a byte from there on
abbrev pub one_byte : Estimate
one_byte = record {
  bits = record { ones = 0; unknown = 131071 };
  range = record { low = 0; high = 131071 };
  tails = record { text = Some 1; link = None };
}

-- r2 is that address, and the text has at least one byte
abbrev pub behind_the_test : Situation
behind_the_test = record {
  registers = λ i. if nat_eq i 2 then Some (InRegion Text one_byte) else None;
  slots = λ i. Marked none_set;
  least = record { text = 1; link = 0 };
}

-- `ldxh r0, [r2+0]`
abbrev pub two_bytes : Insn
two_bytes = Load Half 0 2 (pos 0)
