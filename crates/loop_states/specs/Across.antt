-- What is known of a number is known of the addresses that have it as their offset, and the other way round: the name
-- of an address is that of the number that was added to its region's first address.
use Rattle.std.specs.Prelude.{ℕ, ◌^◌, nat_le, if◌then◌else◌, Option, Some, None, option_map, option_and_then}
use Rattle.bpf_words.specs.declared.instruction.Operand.{Operand}
use Rattle.bpf_words.specs.declared.instruction.Operand.TheVariants.{Immediate, Source}
use Rattle.abstract_state.specs.declared.region.Region.{Region}
use Rattle.abstract_state.specs.declared.region.Region.TheVariants.{Text, Link}
use Rattle.abstract_state.specs.Lent.{base_of}
use Rattle.abstract_state.specs.Estimate.{Estimate}
use Rattle.abstract_state.specs.Addresses.{Content, ANumber, InContext, InStack, InRegion}
use Rattle.abstract_state.specs.Situation.{Situation, put}
use Rattle.value_marks.specs.declared.mark.Mark.{Mark}
use Rattle.value_marks.specs.Mark.{raised_mark, lowered_mark}
use Rattle.value_marks.specs.Marking.{Marking}
use Rattle.value_marks.specs.Telling.{Teller, teller, all_hear}
use Rattle.tracked_state.specs.Tracked.{TrackedSituation, tracked}

-- ---- a register tells as if it held another content, by another name; it stays what it is
abbrev pub told_as : Teller → Content → Marking → Situation → Option Situation
told_as t held w s =
    option_map (put t.register held) (all_hear t w (put t.register t.content s))

-- a number, as the address in a region whose offset it is
abbrev pub tells_as_address : ℕ → Mark → Estimate → Region → Marking → Situation → Option Situation
tells_as_address register m a region w s =
    told_as (teller register (raised_mark (base_of region) m) (InRegion region a)) (ANumber a) w s

-- an address, as its offset
abbrev pub tells_as_number : ℕ → Mark → Region → Estimate → Marking → Situation → Option Situation
tells_as_number register m region a w s =
    told_as (teller register (lowered_mark (base_of region) m) (ANumber a)) (InRegion region a) w s

-- a number, as an address in either region
unfoldable pub tells_addresses : ℕ → Mark → Estimate → Marking → Situation → Option Situation
tells_addresses register m a w s =
    option_and_then (tells_as_address register m a Link w) (tells_as_address register m a Text w s)

-- no address is further from its region's begin
unfoldable pub number_tells : ℕ → Mark → Estimate → Marking → Situation → Option Situation
number_tells register m a w s = if nat_le a.range.high (2 ^ 20) then tells_addresses register m a w s else Some s

unfoldable pub content_tells : ℕ → Mark → Content → Marking → Situation → Option Situation
content_tells register m (ANumber a) w s = number_tells register m a w s
content_tells register m (InRegion region a) w s = tells_as_number register m region a w s
content_tells register m (InContext p) w s = Some s
content_tells register m (InStack p) w s = Some s

-- ---- each side of a comparison, the left one first
unfoldable pub marked_tells : ℕ → Option Mark → Option Content → Marking → Situation → Option Situation
marked_tells register (Some m) (Some content) w s = content_tells register m content w s
marked_tells register m content w s = Some s

abbrev pub side_tells : ℕ → Marking → Situation → Option Situation
side_tells register w s = marked_tells register (w.registers register) (s.registers register) w s

unfoldable pub other_side_tells : Operand → Marking → Situation → Option Situation
other_side_tells (Immediate value) w s = Some s
other_side_tells (Source register) w s = side_tells register w s

unfoldable pub both_sides_tell : ℕ → Operand → Marking → Situation → Option Situation
both_sides_tell left right w s = option_and_then (other_side_tells right w) (side_tells left w s)

-- ---- on an edge; none where no run comes there
abbrev pub tell_if_marked : ℕ → Operand → Option Marking → Situation → Option Situation
tell_if_marked left right None s = Some s
tell_if_marked left right (Some w) s = both_sides_tell left right w s

abbrev pub told_across : ℕ → Operand → Option Marking → TrackedSituation → Option TrackedSituation
told_across left right marking t = option_map (tracked t.marking) (tell_if_marked left right marking t.situation)

abbrev pub edge_across : ℕ → Operand → Option Marking → Option TrackedSituation → Option TrackedSituation
edge_across left right marking edge = option_and_then (told_across left right marking) edge
