use Rattle.std.proofs.Common.{◌∙◌, List, ℕ, ◌++◌, ap, string_bytes}
use Rattle.bpf_words.specs.Words.{program_of}
use Rattle.need_trails.specs.Trail.{trail_text}
use Rattle.program_listing.specs.Listing.{slot_text}
use Rattle.hub_commands.specs.Explained.{listing_if, refused_text}
use Rattle.hub_commands.proofs.Explaining.{told_behind}
use Rattle.hub_commands.proofs.explain.push_known_refused.Goals as goal

pub returns : goal.returns
unfolding refused_text
returns c =
    let profile = c.args.knowledge.now.profile in
    let program = program_of c.args.knowledge.now.words.now in
    let old : List ℕ = string_bytes c.args.text.now in
    let listing : List ℕ = listing_if c.args.is_whole profile program c.args.slot in
    let slot : List ℕ = slot_text profile program c.args.slot in
    let trail : List ℕ = trail_text profile program c.args.slot c.args.fault in
    c.in_ok-push_trail.ensures
    ∙ ap (λ (front : List ℕ). front ++ trail) (c.in_ok-push_slot.ensures ∙ ap (λ (front : List ℕ). front ++ slot) c.in_ok-push_listing_if.ensures)
    ∙ told_behind old listing slot trail
