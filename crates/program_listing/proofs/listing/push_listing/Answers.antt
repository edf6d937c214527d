use Rattle.std.proofs.Common.{string_bytes}
use Rattle.bpf_words.specs.Words.{program_of}
use Rattle.program_listing.proofs.Texts.{listing_begins, listing_more, none_above, above_more}
use Rattle.program_listing.proofs.listing.push_listing.Goals as goal

pub loop-slot-init : goal.loop-slot-init
loop-slot-init c =
    let knowledge = c.args.knowledge.now in
    let program = program_of knowledge.words.now in
    record {
      text = listing_begins knowledge.profile program (string_bytes c.args.text.now);
      above = none_above knowledge.profile program;
    }

pub loop-slot-preserved : goal.loop-slot-preserved
loop-slot-preserved c =
    let knowledge = c.args.knowledge.now in
    let program = program_of knowledge.words.now in
    record {
      text = listing_more knowledge.profile program c.loop-slot.slot (string_bytes c.args.text.now) (string_bytes c.loop-slot.text) (string_bytes c.push_next.new.text) c.loop-slot.invariant.text c.in_ok-above.ensures.text;
      above = above_more knowledge.profile program c.loop-slot.slot c.loop-slot.above _ c.loop-slot.invariant.above c.in_ok-above.ensures.next;
    }
