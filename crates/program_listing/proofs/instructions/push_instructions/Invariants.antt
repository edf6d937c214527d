use Rattle.std.proofs.Common.{◌≡◌, ◌≤◌, ◌++◌, max, string_bytes}
use Rattle.bpf_words.specs.Words.{program_of}
use Rattle.program_listing.specs.Listing.{instructions_text}
use Rattle.program_listing.proofs.instructions.push_instructions.Given as goal

abbrev pub invariant-loop-slot : goal.invariant-loop-slot
invariant-loop-slot l = record {
  text : string_bytes l.text ≡ string_bytes l.fn.text ++ instructions_text (program_of l.words) l.first l.slot;
  most : l.slot ≤ max l.first l.slot-end;
}
