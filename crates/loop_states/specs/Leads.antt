-- How far the number in one register is ahead of that in another at least: it is a region's length, less something, and
-- the other has a tail that is no less.
use Rattle.std.specs.Prelude.{ℕ, ◌+◌, ◌-◌, ◌%◌, ◌^◌, nat_le, nat_eq, if◌then◌else◌, Option, Some, None, option_and_then}
use Rattle.bpf_words.specs.declared.instruction.Width.{Width}
use Rattle.bpf_words.specs.declared.instruction.Width.TheVariants.{Narrow, Full}
use Rattle.abstract_state.specs.declared.region.Region.{Region}
use Rattle.abstract_state.specs.declared.region.Region.TheVariants.{Text, Link}
use Rattle.abstract_state.specs.declared.region.Tails.{Tails}
use Rattle.abstract_state.specs.Lent.{base_of, tail_of}
use Rattle.abstract_state.specs.Addresses.{Content, ANumber, InContext, InStack, InRegion}
use Rattle.value_marks.specs.declared.mark.Mark.{Mark}
use Rattle.tracked_state.specs.Tracked.{TrackedSituation}
use Rattle.state_inclusion.specs.Partners.{marks_in}
use Rattle.length_marks.specs.Names.{text_name, link_name}

abbrev pub region_of : ℕ → Option Region
region_of name =
    if nat_eq name text_name then Some Text else (if nat_eq name link_name then Some Link else None)

-- what a mark takes from the length, counted from a base
abbrev pub taken_off : ℕ → Mark → ℕ
taken_off base m = (base + (2 ^ 64 - m.addend % 2 ^ 64)) % 2 ^ 64

-- behind a number with that tail
abbrev pub left_of : ℕ → ℕ → Option ℕ
left_of taken tail = if nat_le taken tail then Some (tail - taken) else None

abbrev pub lead_in_region : ℕ → Tails → Mark → Region → Option ℕ
lead_in_region base tails m region = option_and_then (left_of (taken_off base m)) (tail_of tails region)

abbrev pub lead_by : Width → ℕ → Tails → Mark → Option ℕ
lead_by Narrow base tails m = None
lead_by Full base tails m = option_and_then (lead_in_region base tails m) (region_of m.origin)

-- numbers are compared at both widths, addresses by all 64 bits
abbrev pub lead_from : Content → Width → Mark → Option ℕ
lead_from (ANumber a) width m = lead_by m.width 0 a.tails m
lead_from (InRegion region a) Full m = lead_by m.width (base_of region) a.tails m
lead_from (InRegion region a) Narrow m = None
lead_from (InContext p) width m = None
lead_from (InStack p) width m = None

abbrev pub lead_in : Width → TrackedSituation → ℕ → ℕ → Option ℕ
lead_in width t behind ahead =
    option_and_then (λ content. option_and_then (lead_from content width) ((marks_in t).registers ahead))
    (t.situation.registers behind)
