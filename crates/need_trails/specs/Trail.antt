-- Where what a refused instruction wants was known last, and how that is printed.
use Rattle.std.specs.Prelude.{ℕ, zero, suc, ◌-◌, ◌<◌, ◌≤◌, nat_lt, nat_eq, Bool, true, false, not, ◌&&◌, ◌||◌}
use Rattle.std.specs.Prelude.{ℤ, pos, ◌-ℤ◌, neg_ℤ, if◌then◌else◌, List, [], ◌∷◌, ◌++◌, codes, length, slice_get}
use Rattle.std.specs.Prelude.{Option, Some, None, option_map, option_and_then, unwrap_or}
use Rattle.std.specs.Option.{option_map_or, option_or}
use Rattle.std.specs.Fmt.{decimal}
use Rattle.span_context.specs.declared.profile.Profile.{Profile}
use Rattle.bpf_words.specs.declared.instruction.Insn.{Insn}
use Rattle.semantics.specs.Step.{Program}
use Rattle.abstract_state.specs.declared.region.Region.TheVariants.{Text}
use Rattle.abstract_state.specs.declared.refusal.Refusal.{Refusal}
use Rattle.abstract_state.specs.Situation.{Situation}
use Rattle.refusal_needs.specs.declared.wanted.Place.{Place}
use Rattle.refusal_needs.specs.declared.wanted.Place.TheVariants.{Register, Eight, Bytes}
use Rattle.refusal_needs.specs.declared.wanted.Need.{Need}
use Rattle.refusal_needs.specs.declared.wanted.Need.TheVariants.{Set, Number, OneNumber, Address, StackAddress}
use Rattle.refusal_needs.specs.declared.wanted.Need.TheVariants.{Within, Behind, AtMost}
use Rattle.refusal_needs.specs.declared.wanted.Wanted.{Wanted}
use Rattle.refusal_needs.specs.Wanted.{in_i64, is_known, place_text, difference_text, wanted_text}
use Rattle.refusal_needs.specs.Refused.{refused_for}
use Rattle.known_ways.specs.Ways.{Way, ways_into, only_from, situation_before}
use Rattle.need_trails.specs.declared.origin.Origin.{Origin}
use Rattle.need_trails.specs.declared.origin.Origin.TheVariants as origin
use Rattle.need_trails.specs.declared.back.End.{End}
use Rattle.need_trails.specs.declared.back.End.TheVariants.{Written, Lost, Joined, Start}
use Rattle.need_trails.specs.declared.back.Back.{Back}
use Rattle.need_trails.specs.declared.back.Back.TheVariants.{Ends, Same, Other}
use Rattle.need_trails.specs.declared.back.Trail.{Trail}
use Rattle.need_trails.specs.declared.distance.Distance.{Distance}
use Rattle.need_trails.specs.declared.distance.Pair.{Pair}
use Rattle.need_trails.specs.declared.copies.Neighbor.{Neighbor}
use Rattle.need_trails.specs.Origins.{before_adding, origin_of}

-- the instruction of a slot, if one begins there
abbrev pub insn_at : Program → ℕ → Option Insn
insn_at program slot = unwrap_or (slice_get program slot) None

-- ---- one step back from a slot before which what is wanted isn't known
-- through an instruction, before which this is known
unfoldable pub back_through : Situation → ℕ → Wanted → Origin → Back
back_through s from wanted origin.Left = if is_known s wanted then Ends (Lost from) else Same from
back_through s from wanted (origin.Of before) = if is_known s before then Ends (Lost from) else Other from before
back_through s from wanted origin.Written = Ends (Written from (is_known s wanted))

abbrev pub back_past : Option Situation → Option Insn → ℕ → Wanted → Back
back_past (Some s) (Some insn) from wanted = back_through s from wanted (origin_of s insn wanted)
back_past (Some s) None from wanted = Ends Start
back_past None insn from wanted = Ends Start

unfoldable pub is_known_on_some : Wanted → List Way → Bool
is_known_on_some wanted [] = false
is_known_on_some wanted (way ∷ ways) = is_known way.known wanted || is_known_on_some wanted ways

-- on the last of the ways
abbrev pub back_along : Profile → Program → Wanted → Option Way → Back
back_along profile program wanted None = Ends Start
back_along profile program wanted (Some way) =
    back_past (situation_before profile program way.from) (insn_at program way.from) way.from wanted

-- ways join, and one of them knows it
abbrev pub is_joined : Wanted → List Way → Bool
is_joined wanted ways = nat_lt 1 (length ways) && is_known_on_some wanted ways

abbrev pub back_by : Profile → Program → Wanted → ℕ → List Way → Back
back_by profile program wanted at ways =
    if is_joined wanted ways
    then Ends (Joined at)
    else back_along profile program wanted (slice_get ways (length ways - 1))

-- where one goes back no further as ways join, that is not behind a slot
abbrev pub EndsBy : ℕ → End → Type 0
EndsBy slot (Written at known) = Unit {0}
EndsBy slot (Lost at) = Unit {0}
EndsBy slot (Joined at) = at ≤ slot
EndsBy slot Start = Unit {0}

-- a step back from a slot leads to one below it
abbrev pub GoesBelow : ℕ → Back → Type 0
GoesBelow at (Ends end) = EndsBy at end
GoesBelow at (Same from) = from < at
GoesBelow at (Other from before) = from < at

unfoldable pub back_from : Profile → Program → Wanted → ℕ → Back
back_from profile program wanted at = back_by profile program wanted at (ways_into profile program at)

-- ---- the trail: what is wanted at last and before which slot, and where one goes back no further
abbrev pub trail_at : Wanted → ℕ → End → Trail
trail_at wanted slot end = record { wanted = wanted; slot = slot; end = end }

abbrev pub onward : (Wanted → ℕ → ℕ → Trail) → Wanted → ℕ → Back → Trail
onward go wanted slot (Ends end) = trail_at wanted slot end
onward go wanted slot (Same from) = go wanted slot from
onward go wanted slot (Other from before) = go before from from

-- by so many steps, from a slot on, where this is wanted since another one
unfoldable pub trail_from : Profile → Program → ℕ → Wanted → ℕ → ℕ → Trail
trail_from profile program zero wanted slot at = trail_at wanted slot Start
trail_from profile program (suc steps) wanted slot at =
    onward (λ w s a. trail_from profile program steps w s a) wanted slot (back_from profile program wanted at)

abbrev pub trail : Profile → Program → Wanted → ℕ → Trail
trail profile program wanted slot = trail_from profile program slot wanted slot slot

-- ---- how far one register's value is from another's, where it is computed from that, or both from one
abbrev pub distance_in : Place → Need → Option Distance
distance_in place Set = None
distance_in place Number = None
distance_in place OneNumber = None
distance_in place Address = None
distance_in place StackAddress = None
distance_in place (Within region by) = Some (record { place = place; by = by })
distance_in place (Behind region by) = None
distance_in place (AtMost most) = None

abbrev pub distance_by : Distance → Origin → Option Distance
distance_by value origin.Left = Some value
distance_by value (origin.Of wanted) = distance_in wanted.place wanted.need
distance_by value origin.Written = None

-- what a value behind an instruction was before it
unfoldable pub earlier : Situation → Insn → Distance → Option Distance
earlier s insn value =
    distance_by value (origin_of s insn (record { place = value.place; need = Within Text value.by }))

abbrev pub pair_at : ℕ → Distance → Distance → Pair
pair_at slot first second = record { first = first; second = second; slot = slot }

abbrev pub pair_earlier : Situation → Insn → ℕ → Pair → Option Pair
pair_earlier s insn from pair =
    option_and_then
    (λ first. option_map (pair_at from first) (earlier s insn pair.second))
    (earlier s insn pair.first)

abbrev pub both_earlier : Option Situation → Option Insn → ℕ → Pair → Option Pair
both_earlier (Some s) (Some insn) from pair = pair_earlier s insn from pair
both_earlier (Some s) None from pair = None
both_earlier None insn from pair = None

-- before the instruction from which alone a way leads there
unfoldable pub pair_before : Profile → Program → Pair → Option Pair
pair_before profile program pair =
    option_and_then
    (λ from. both_earlier (situation_before profile program from) (insn_at program from) from pair)
    (only_from (ways_into profile program pair.slot))

abbrev pub is_same_place : Place → Place → Bool
is_same_place (Register a) (Register b) = nat_eq a b
is_same_place (Eight a) (Eight b) = nat_eq a b
is_same_place (Bytes a m) (Bytes b n) = nat_eq a b && nat_eq m n
is_same_place a b = false

abbrev pub met : Pair → Option ℤ
met pair =
    if is_same_place pair.first.place pair.second.place then in_i64 (pair.first.by -ℤ pair.second.by) else None

-- by so many steps, as long as the two are not from one value
unfoldable pub distance_after : Profile → Program → ℕ → Pair → Option ℤ
distance_after profile program zero pair = met pair
distance_after profile program (suc steps) pair =
    if is_same_place pair.first.place pair.second.place
    then in_i64 (pair.first.by -ℤ pair.second.by)
    else option_and_then (λ p. distance_after profile program steps p) (pair_before profile program pair)

abbrev pub of_register : ℕ → Distance
of_register register = record { place = Register register; by = pos 0 }

abbrev pub distance_between : Profile → Program → ℕ → ℕ → ℕ → Option ℤ
distance_between profile program slot register other =
    distance_after profile program slot (pair_at slot (of_register register) (of_register other))

-- ---- the first register that is so far from the wanted one and of which it is known
abbrev pub is_order : Need → Bool
is_order Set = false
is_order Number = false
is_order OneNumber = false
is_order Address = false
is_order StackAddress = false
is_order (Within region bytes) = true
is_order (Behind region bytes) = true
is_order (AtMost most) = true

abbrev pub wanted_in : ℕ → Need → Wanted
wanted_in register need = record { place = Register register; need = need }

abbrev pub neighbor_of : Situation → ℕ → ℤ → Need → Option Neighbor
neighbor_of s register by need =
    if is_known s (wanted_in register need)
    then Some (record { register = register; by = by; need = need })
    else None

unfoldable pub neighbor_by : Situation → Need → ℕ → ℤ → Option Neighbor
neighbor_by s need register by =
    option_and_then (neighbor_of s register by) (option_and_then (before_adding need) (in_i64 (neg_ℤ by)))

unfoldable pub neighbor_at : Profile → Program → Situation → ℕ → ℕ → Need → ℕ → Option Neighbor
neighbor_at profile program s slot number need register =
    if nat_eq register number
    then None
    else option_and_then (neighbor_by s need register) (distance_between profile program slot register number)

-- of so many registers, the last of which is r9
unfoldable pub first_neighbor : Profile → Program → Situation → ℕ → ℕ → Need → ℕ → Option Neighbor
first_neighbor profile program s slot number need zero = None
first_neighbor profile program s slot number need (suc left) =
    option_or
    (neighbor_at profile program s slot number need (9 - left))
    (first_neighbor profile program s slot number need left)

-- ---- how it is printed
abbrev pub relation_text : ℕ → Neighbor → List ℕ
relation_text number n =
    codes "r" ++ decimal n.register ++ codes " is r" ++ decimal number ++ difference_text n.by

abbrev pub neighbor_text : Situation → ℕ → Neighbor → List ℕ
neighbor_text s number n =
    relation_text number n ++ codes ", and known is: " ++ wanted_text s (wanted_in n.register n.need) ++ 10 ∷ []

abbrev pub copy_text_in : Profile → Program → Situation → Place → Need → ℕ → List ℕ
copy_text_in profile program s (Register number) need slot =
    if is_order need
    then option_map_or (neighbor_text s number) (first_neighbor profile program s slot number need 10) []
    else []
copy_text_in profile program s (Eight index) need slot = []
copy_text_in profile program s (Bytes first count) need slot = []

unfoldable pub copy_text : Profile → Program → Situation → Wanted → ℕ → List ℕ
copy_text profile program s wanted slot = copy_text_in profile program s wanted.place wanted.need slot

abbrev pub agrees : Bool → Bool → Bool
agrees true b = b
agrees false b = not b

abbrev pub between : Bool → List ℕ
between false = codes " "
between true = codes ", "

-- the slots from which ways lead, those on which what is wanted is known or the others; behind some others or not
unfoldable pub slots_text : Wanted → Bool → Bool → List Way → List ℕ
slots_text wanted known some [] = []
slots_text wanted known some (way ∷ ways) =
    if agrees known (is_known way.known wanted)
    then between some ++ decimal way.from ++ slots_text wanted known true ways
    else slots_text wanted known some ways

unfoldable pub is_unknown_on_some : Wanted → List Way → Bool
is_unknown_on_some wanted [] = false
is_unknown_on_some wanted (way ∷ ways) = not (is_known way.known wanted) || is_unknown_on_some wanted ways

abbrev pub others_text : Wanted → List Way → List ℕ
others_text wanted ways =
    if is_unknown_on_some wanted ways then codes ", not from" ++ slots_text wanted false false ways else []

-- on which of the ways that join at a slot what is wanted is known
unfoldable pub joined_text : Wanted → ℕ → List Way → List ℕ
joined_text wanted slot ways =
    codes "lost where ways join at slot " ++ decimal slot ++ codes ": known from"
    ++ slots_text wanted true false ways ++ others_text wanted ways ++ 10 ∷ []

abbrev pub until_text : Bool → List ℕ
until_text true = codes "known until slot "
until_text false = codes "never known: slot "

-- why one goes back no further
abbrev pub end_text_in : Profile → Program → Wanted → End → List ℕ
end_text_in profile program wanted (Written slot known) =
    until_text known ++ decimal slot ++ codes " writes " ++ place_text wanted.place ++ 10 ∷ []
end_text_in profile program wanted (Lost slot) =
    codes "known before slot " ++ decimal slot ++ codes ", not behind it" ++ 10 ∷ []
end_text_in profile program wanted (Joined slot) = joined_text wanted slot (ways_into profile program slot)
end_text_in profile program wanted Start = codes "never known" ++ 10 ∷ []

unfoldable pub end_text : Profile → Program → Trail → List ℕ
end_text profile program t = end_text_in profile program t.wanted t.end

-- what is wanted of the value where it comes from, if that is before another slot
abbrev pub origin_text : ℕ → Wanted → Situation → List ℕ
origin_text slot wanted s = codes "before slot " ++ decimal slot ++ codes ": " ++ wanted_text s wanted ++ 10 ∷ []

unfoldable pub since_text : Profile → Program → Trail → ℕ → List ℕ
since_text profile program t slot =
    if nat_lt t.slot slot
    then option_map_or (origin_text t.slot t.wanted) (situation_before profile program t.slot) []
    else []

abbrev pub back_text : Profile → Program → Trail → ℕ → List ℕ
back_text profile program t slot = since_text profile program t slot ++ end_text profile program t

unfoldable pub wanted_trail_text : Profile → Program → Situation → ℕ → Wanted → List ℕ
wanted_trail_text profile program s slot wanted =
    codes "wanted: " ++ wanted_text s wanted ++ 10 ∷ [] ++ copy_text profile program s wanted slot
    ++ back_text profile program (trail profile program wanted slot) slot

abbrev pub refused_text : Profile → Program → ℕ → Refusal → Option Situation → Option Insn → List ℕ
refused_text profile program slot fault (Some s) (Some insn) =
    option_map_or (wanted_trail_text profile program s slot) (refused_for s insn fault) []
refused_text profile program slot fault (Some s) None = []
refused_text profile program slot fault None insn = []

-- what the refused instruction of a slot wants of a value, what is wanted of that value where it comes from, and where
-- that was known last; nothing where more than one value is at fault
unfoldable pub trail_text : Profile → Program → ℕ → Refusal → List ℕ
trail_text profile program slot fault =
    refused_text profile program slot fault (situation_before profile program slot) (insn_at program slot)
