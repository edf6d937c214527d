use Rattle.std.proofs.Common.{◌≡◌, ◌++◌, string_bytes}
use Rattle.bpf_words.specs.Words.{program_of}
use Rattle.program_listing.specs.Listing.{lines_above, listing_text}
use Rattle.program_listing.proofs.listing.push_listing.Given as goal

abbrev pub invariant-loop-slot : goal.invariant-loop-slot
invariant-loop-slot l = record {
  text : string_bytes l.text ≡ string_bytes l.fn.text ++ listing_text l.knowledge.profile (program_of l.knowledge.words.now) l.slot;
  above : l.above ≡ lines_above l.knowledge.profile (program_of l.knowledge.words.now) l.slot;
}
