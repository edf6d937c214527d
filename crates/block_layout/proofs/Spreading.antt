-- A program spread by the ranks of another means the same.
use Rattle.std.proofs.Common.{◌≡◌, ℕ, ℤ, pos, negsuc, ◌+ℤ◌, zero, suc, ◌+◌, ◌<◌, ◌≤◌, ◌⊎◌, ◌≢◌, List, [], ◌∷◌, length, slice_index, Option, Some, None, Ok, true, false, ⊎_elim, inl, inr, refl, sym, ap, subst, ◌∙◌, arith}
use Rattle.std.specs.List.{slice_get}
use Rattle.std.proofs.lemmas.Bool.{cases_eq}
use Rattle.std.proofs.lemmas.Option.{slice_get_within}
use Rattle.bpf_words.specs.declared.instruction.Insn.{Insn}
use Rattle.bpf_words.specs.declared.instruction.Insn.TheVariants.{Compute, Negate, Extend, Convert, Jump, JumpLong, Branch, Load, LoadSigned, Store, LoadWide, Exit}
use Rattle.bpf_words.specs.Words.{IsProgram, is_wide, program_of}
use Rattle.bpf_words.specs.Flow.{StartsAt, IsPaired, falls_through, jump_of, slots_of}
use Rattle.semantics.specs.Step.{Program}
use Rattle.block_layout.specs.declared.refusal.WayFault.TheVariants.{JumpOut, JumpIntoWide}
use Rattle.block_layout.specs.Loops.{IsAway, JumpsTo, Goes}
use Rattle.block_layout.specs.Meaning.{MeansSame, IsForward}
use Rattle.block_layout.specs.Kept.{aimed, LeadsTo, Arrives, IsMoved, IsDropped, IsKept}
use Rattle.block_layout.specs.Ranks.{AreRanks}
use Rattle.block_layout.specs.Structure.{IsConnected}
use Rattle.block_layout.specs.Spread.{spot, led, AreRooms, IsLater, Holds, IsBlock, Filled, Added, Blocked, IsPlaced, RankAdded, AreSpread}
use Rattle.block_layout.specs.Rooms.{above, rooms_of}
use Rattle.block_layout.proofs.Rooms.{above_lower, above_none, above_same, above_one, length-rooms, room_at}
use Rattle.block_layout.proofs.Leading.{same_insn, falls_within, jumps_within}
use Rattle.bpf_words.proofs.Paired.{program_of-paired}
use Rattle.block_layout.proofs.Filling.{one_or_wide, is_program, starts, length_is, leads_forward}
use Rattle.block_layout.proofs.Same.{means_same}

-- ---- an instruction with another distance
pub led_slots : (insn : Insn) (onward : ℤ) → slots_of (led insn onward) ≡ slots_of insn
led_slots (Compute width operation destination operand) onward = refl
led_slots (Negate width destination) onward = refl
led_slots (Extend extension destination source) onward = refl
led_slots (Convert conversion bits destination) onward = refl
led_slots (Jump distance) onward = refl
led_slots (JumpLong distance) onward = refl
led_slots (Branch width comparison left right distance) onward = refl
led_slots (Load size destination base offset) onward = refl
led_slots (LoadSigned size destination base offset) onward = refl
led_slots (Store size base offset operand) onward = refl
led_slots (LoadWide destination value) onward = refl
led_slots Exit onward = refl

pub led_jump : (insn : Insn) (onward distance : ℤ) → jump_of (led insn onward) ≡ Some distance → distance ≡ onward
led_jump (Compute width operation destination operand) onward distance is = absurd (cc)
led_jump (Negate width destination) onward distance is = absurd (cc)
led_jump (Extend extension destination source) onward distance is = absurd (cc)
led_jump (Convert conversion bits destination) onward distance is = absurd (cc)
led_jump (Jump other) onward distance is = cc
led_jump (JumpLong other) onward distance is = cc
led_jump (Branch width comparison left right other) onward distance is = cc
led_jump (Load size destination base offset) onward distance is = absurd (cc)
led_jump (LoadSigned size destination base offset) onward distance is = absurd (cc)
led_jump (Store size base offset operand) onward distance is = absurd (cc)
led_jump (LoadWide destination value) onward distance is = absurd (cc)
led_jump Exit onward distance is = absurd (cc)

-- a jump that stands alone
pub record IsJump (insn : Insn) : Type 0 where
  pub alone : falls_through insn ≡ false
  pub distance : ℤ
  pub jumps : jump_of insn ≡ Some distance
  pub led : (onward : ℤ) → led insn onward ≡ Jump onward

kind : (insn : Insn) → ((onward : ℤ) → led insn onward ≡ aimed insn onward) ⊎ IsJump insn
kind (Compute width operation destination operand) = inl (λ onward. refl)
kind (Negate width destination) = inl (λ onward. refl)
kind (Extend extension destination source) = inl (λ onward. refl)
kind (Convert conversion bits destination) = inl (λ onward. refl)
kind (Jump distance) = inr (record { alone = refl; distance = distance; jumps = refl; led = λ onward. refl })
kind (JumpLong distance) = inr (record { alone = refl; distance = distance; jumps = refl; led = λ onward. refl })
kind (Branch width comparison left right distance) = inl (λ onward. refl)
kind (Load size destination base offset) = inl (λ onward. refl)
kind (LoadSigned size destination base offset) = inl (λ onward. refl)
kind (Store size base offset operand) = inl (λ onward. refl)
kind (LoadWide destination value) = inl (λ onward. refl)
kind Exit = inl (λ onward. refl)

-- ---- where an instruction leads, another is
pub entry_at : (program : Program) (slot : ℕ) → slot < length program → (entry : Option Insn) × (slice_get program slot ≡ Some entry)
entry_at [] slot within = absurd (omega arith)
entry_at (entry ∷ program) zero within = (entry, refl)
entry_at (entry ∷ program) (suc slot) within = entry_at program slot (omega arith)

insn_at : (program : Program) (slot : ℕ) (entry : Option Insn) → slice_get program slot ≡ Some entry → (slice_get program slot ≡ Some None → ⊥) → (insn : Insn) × StartsAt program slot insn
insn_at program slot None is some = absurd (some is)
insn_at program slot (Some insn) is some = (insn, is)

falls_at : (program : Program) (slot : ℕ) (insn : Insn) → IsPaired program → StartsAt program slot insn → slice_get program (slot + slots_of insn) ≡ Some None → ⊥
falls_at program slot insn paired starts none =
    ⊎_elim
    (λ (one : slots_of insn ≡ 1).
    let here : slice_get program (slot + 1) ≡ Some None = subst (λ (n : ℕ). slice_get program (slot + n) ≡ Some None) one none in
    let wide = paired.wide_before slot here in
    let same : wide.0 ≡ insn = same_insn program slot wide.0 insn wide.1 starts in
    let two : slots_of insn ≡ 2 = subst (λ (i : Insn). slots_of i ≡ 2) same wide.2 in
    omega arith)
    (λ (wide : (slots_of insn ≡ 2) × (is_wide (Ok insn) ≡ true)).
    let is : slots_of insn ≡ 2 = wide.0 in
    let more : slot + slots_of insn ≡ slot + 1 + 1 = omega arith in
    let here : slice_get program (slot + 1 + 1) ≡ Some None = subst (λ (k : ℕ). slice_get program k ≡ Some None) more none in
    let before = paired.wide_before (slot + 1) here in
    let second : slice_get program (slot + 1) ≡ Some None = paired.after_wide slot (insn, starts, is) in
    let first : slice_get program (slot + 1) ≡ Some (Some before.0) = before.1 in
    absurd (cc))
    (one_or_wide insn)

away_or_not : (sum : ℤ) → ((to : ℕ) × (pos to ≡ sum)) ⊎ ((to : ℕ) → pos to ≡ sum → ⊥)
away_or_not (pos n) = inl (n, refl)
away_or_not (negsuc n) = inr (λ to is. absurd (cc))

jumps_at : (program : Program) (slot : ℕ) (insn : Insn) (distance : ℤ) → IsConnected program → slot < length program → StartsAt program slot insn → jump_of insn ≡ Some distance → (to : ℕ) × JumpsTo slot insn to
jumps_at program slot insn distance connected within starts jumps =
    ⊎_elim
    (λ (away : (to : ℕ) × (pos to ≡ pos (slot + 1) +ℤ distance)). (away.0, (distance, jumps, away.1)))
    (λ (not : (to : ℕ) → pos to ≡ pos (slot + 1) +ℤ distance → ⊥). absurd (connected slot insn within starts JumpOut (distance, jumps, λ to away. absurd (not to away))))
    (away_or_not (pos (slot + 1) +ℤ distance))

pub ranked_within : (ranks : List ℕ) (slot : ℕ) → 0 < slice_index ranks slot → slot < length ranks
ranked_within [] slot some = absurd (omega arith)
ranked_within (rank ∷ ranks) zero some = omega arith
ranked_within (rank ∷ ranks) (suc slot) some = let rest = ranked_within ranks slot some in omega arith

insn_within : (program : Program) (slot : ℕ) (insn : Insn) (ranks : List ℕ) → length ranks ≡ length program → StartsAt program slot insn → slot < length ranks
insn_within program slot insn ranks long starts =
    let within = slice_get_within program slot (Some insn) starts in
    omega arith

room_is : (program : Program) (rooms : List ℕ) (slot : ℕ) (insn : Insn) → rooms ≡ rooms_of program → StartsAt program slot insn → slice_index rooms slot ≡ slots_of insn + 1
room_is program rooms slot insn is starts = ap (λ (l : List ℕ). slice_index l slot) is ∙ room_at program slot (Some insn) starts

rooms_low : (program : Program) (slot : ℕ) → slice_index (rooms_of program) slot ≤ 3
rooms_low [] slot = omega arith
rooms_low (None ∷ program) zero = omega arith
rooms_low (None ∷ program) (suc slot) = rooms_low program slot
rooms_low (Some insn ∷ program) zero =
    ⊎_elim
    (λ (one : slots_of insn ≡ 1). omega arith)
    (λ (wide : (slots_of insn ≡ 2) × (is_wide (Ok insn) ≡ true)). let two : slots_of insn ≡ 2 = wide.0 in omega arith)
    (one_or_wide insn)
rooms_low (Some insn ∷ program) (suc slot) = rooms_low program slot

pub are_rooms : (program : Program) (ranks rooms : List ℕ) → length ranks ≡ length program → length program ≤ 4096 → rooms ≡ rooms_of program → AreRooms ranks rooms
are_rooms program ranks rooms long few is =
    let many : length rooms ≡ length program = ap (λ (l : List ℕ). length l) is ∙ length-rooms program in
    record {
      same = omega arith;
      few = omega arith;
      low = λ slot. let low = rooms_low program slot in let same : slice_index rooms slot ≡ slice_index (rooms_of program) slot = ap (λ (l : List ℕ). slice_index l slot) is in omega arith;
    }

-- where it leads, rooms begin behind its own
pub later : (program : Program) (ranks rooms : List ℕ) (given from to : ℕ) (insn : Insn) → AreRanks program ranks given → rooms ≡ rooms_of program → above ranks rooms 0 ≤ 4095 → 0 < slice_index ranks from → StartsAt program from insn → Goes program from to → IsLater ranks rooms from (slots_of insn) to
later program ranks rooms given from to insn are is fits some starts goes =
    let down = are.down from to some goes in
    let ranked : 0 < slice_index ranks to = down.0 in
    let long = are.long in
    let many : length rooms ≡ length program = ap (λ (l : List ℕ). length l) is ∙ length-rooms program in
    let taken = room_is program rooms from insn is starts in
    let behind = above_lower ranks rooms from (slice_index ranks from) (slice_index ranks to) (omega arith) refl down.1 in
    let end = above_lower ranks rooms to (slice_index ranks to) 0 (omega arith) refl ranked in
    (ranked_within ranks to ranked, omega arith, omega arith)

-- ---- heights and places by slots
abbrev heights_of : Program → List ℕ → List ℕ
heights_of [] ranks = []
heights_of (None ∷ program) [] = []
heights_of (Some insn ∷ program) [] = []
heights_of (None ∷ program) (rank ∷ ranks) = 0 ∷ heights_of program ranks
heights_of (Some insn ∷ program) (rank ∷ ranks) = rank ∷ heights_of program ranks

height_at : (program : Program) (ranks : List ℕ) (slot : ℕ) (insn : Insn) → length ranks ≡ length program → StartsAt program slot insn → slice_index (heights_of program ranks) slot ≡ slice_index ranks slot
height_at [] ranks slot insn long starts = absurd (cc)
height_at (None ∷ program) [] slot insn long starts = absurd (omega arith)
height_at (Some other ∷ program) [] slot insn long starts = absurd (omega arith)
height_at (None ∷ program) (rank ∷ ranks) zero insn long starts = absurd (cc)
height_at (None ∷ program) (rank ∷ ranks) (suc slot) insn long starts = height_at program ranks slot insn (omega arith) starts
height_at (Some other ∷ program) (rank ∷ ranks) zero insn long starts = refl
height_at (Some other ∷ program) (rank ∷ ranks) (suc slot) insn long starts = height_at program ranks slot insn (omega arith) starts

has_insn : (program : Program) (ranks : List ℕ) (slot : ℕ) → 0 < slice_index (heights_of program ranks) slot → (insn : Insn) × StartsAt program slot insn
has_insn [] ranks slot some = absurd (omega arith)
has_insn (None ∷ program) [] slot some = absurd (omega arith)
has_insn (Some other ∷ program) [] slot some = absurd (omega arith)
has_insn (None ∷ program) (rank ∷ ranks) zero some = absurd (omega arith)
has_insn (None ∷ program) (rank ∷ ranks) (suc slot) some = has_insn program ranks slot some
has_insn (Some other ∷ program) (rank ∷ ranks) zero some = (other, refl)
has_insn (Some other ∷ program) (rank ∷ ranks) (suc slot) some = has_insn program ranks slot some

abbrev places_of : List ℕ → List ℕ → List ℕ → List ℕ
places_of all rooms [] = []
places_of all rooms (rank ∷ ranks) = (1 + above all rooms rank) ∷ places_of all rooms ranks

place_at : (all rooms ranks : List ℕ) (slot : ℕ) → slot < length ranks → slice_index (places_of all rooms ranks) slot ≡ 1 + above all rooms (slice_index ranks slot)
place_at all rooms [] slot within = absurd (omega arith)
place_at all rooms (rank ∷ ranks) zero within = refl
place_at all rooms (rank ∷ ranks) (suc slot) within = place_at all rooms ranks slot (omega arith)

-- ---- what is spread is kept
module _ (old new : Program) (ranks rooms bytes : List ℕ) (given : ℕ) (are : AreRanks old ranks given) (rooms_are : rooms ≡ rooms_of old) (connected : IsConnected old) (paired : IsPaired old) (holds_at : (slot : ℕ) (insn : Insn) → slot < 1 + above ranks rooms 0 → Holds bytes slot insn → StartsAt new slot insn) (wide : length new ≡ 1 + above ranks rooms 0) (each : (slot : ℕ) (insn : Insn) → 0 < slice_index ranks slot → StartsAt old slot insn → IsPlaced ranks rooms bytes slot insn) where
  abbrev places : List ℕ
  places = places_of ranks rooms ranks

  abbrev heights : List ℕ
  heights = heights_of old ranks

  inside : (slot : ℕ) (insn : Insn) → StartsAt old slot insn → slot < length ranks
  inside slot insn starts =
      let within = slice_get_within old slot (Some insn) starts in
      let long = are.long in
      omega arith

  at_spot : (slot : ℕ) (insn : Insn) → StartsAt old slot insn → slice_index places slot ≡ spot ranks rooms slot
  at_spot slot insn starts = place_at ranks rooms ranks slot (inside slot insn starts)

  high : (slot : ℕ) (insn : Insn) → StartsAt old slot insn → slice_index heights slot ≡ slice_index ranks slot
  high slot insn starts = height_at old ranks slot insn are.long starts

  arrives : (from to next : ℕ) (a b : Insn) → StartsAt old from a → StartsAt old to b → 0 < slice_index ranks to → slice_index ranks to < slice_index ranks from → LeadsTo new next (spot ranks rooms to) → Arrives new places heights from to next
  arrives from to next a b is_a is_b some low leads =
      let from_high = high from a is_a in
      let to_high = high to b is_b in
      (omega arith, omega arith, subst (λ (k : ℕ). LeadsTo new next k) (sym (at_spot to b is_b)) leads)

  ranks_low : (slot : ℕ) → slice_index ranks slot ≤ length ranks
  ranks_low slot =
      let most = are.most slot in
      let all = are.given in
      let long = are.long in
      omega arith

  spot_within : (slot : ℕ) (insn : Insn) → StartsAt old slot insn → 0 < slice_index ranks slot → spot ranks rooms slot + slots_of insn < length new
  spot_within slot insn starts some =
      let long = are.long in
      let many : length rooms ≡ length old = ap (λ (l : List ℕ). length l) rooms_are ∙ length-rooms old in
      let taken = room_is old rooms slot insn rooms_are starts in
      let end = above_lower ranks rooms slot (slice_index ranks slot) 0 (omega arith) refl some in
      let all = wide in
      omega arith

  -- where its jump leads
  jump_arrives : (slot : ℕ) (insn : Insn) (distance : ℤ) → StartsAt old slot insn → 0 < slice_index ranks slot → jump_of insn ≡ Some distance → (next : ℕ → ℕ) → ((to : ℕ) (other : Insn) → JumpsTo slot insn to → StartsAt old to other → 0 < slice_index ranks to → LeadsTo new (next to) (spot ranks rooms to))
      → (to : ℕ) × JumpsTo slot insn to × Arrives new places heights slot to (next to)
  jump_arrives slot insn distance starts some jumps next leads =
      let long = are.long in
      let within = inside slot insn starts in
      let goes = jumps_at old slot insn distance connected (omega arith) starts jumps in
      let in_old = jumps_within old slot insn connected (omega arith) starts goes.0 goes.1 in
      let entry = entry_at old goes.0 in_old in
      let other = insn_at old goes.0 entry.0 entry.1 (λ none. connected slot insn (omega arith) starts JumpIntoWide (goes.0, goes.1, none)) in
      let down = are.down slot goes.0 some (insn, starts, inr goes.1) in
      (goes.0, goes.1, arrives slot goes.0 (next goes.0) insn other.0 starts other.1 down.0 down.1 (leads goes.0 other.0 goes.1 other.1 down.0))

  fall_arrives : (slot : ℕ) (insn : Insn) (next : ℕ) → StartsAt old slot insn → 0 < slice_index ranks slot → falls_through insn ≡ true → ((other : Insn) → StartsAt old (slot + slots_of insn) other → 0 < slice_index ranks (slot + slots_of insn) → LeadsTo new next (spot ranks rooms (slot + slots_of insn)))
      → Arrives new places heights slot (slot + slots_of insn) next
  fall_arrives slot insn next starts some falls leads =
      let long = are.long in
      let within = inside slot insn starts in
      let in_old = falls_within old slot insn connected (omega arith) starts (falls, refl) in
      let entry = entry_at old (slot + slots_of insn) in_old in
      let other = insn_at old (slot + slots_of insn) entry.0 entry.1 (falls_at old slot insn paired starts) in
      let down = are.down slot (slot + slots_of insn) some (insn, starts, inl (falls, refl)) in
      arrives slot (slot + slots_of insn) next insn other.0 starts other.1 down.0 down.1 (leads other.0 other.1 down.0)

  by_jump : (from to : ℕ) (distance : ℤ) (other : Insn) → from < length new → StartsAt old to other → 0 < slice_index ranks to → Holds bytes from (Jump distance) → IsAway from distance (spot ranks rooms to) → LeadsTo new from (spot ranks rooms to)
  by_jump from to distance other within starts some holds away =
      let end = spot_within to other starts some in
      let all = wide in
      (omega arith, inr (distance, holds_at from (Jump distance) (omega arith) holds, away))

  some_slots : (insn : Insn) → (0 < slots_of insn) × (slots_of insn ≤ 2)
  some_slots insn =
      ⊎_elim
      (λ (one : slots_of insn ≡ 1). (omega arith, omega arith))
      (λ (two : (slots_of insn ≡ 2) × (is_wide (Ok insn) ≡ true)). let is : slots_of insn ≡ 2 = two.0 in (omega arith, omega arith))
      (one_or_wide insn)

  moved : (slot : ℕ) (insn : Insn) → StartsAt old slot insn → 0 < slice_index ranks slot → ((onward : ℤ) → led insn onward ≡ aimed insn onward) → IsMoved new places heights slot insn
  moved slot insn starts some same =
      let placed = each slot insn some starts in
      let block = placed.block in
      let spot_is = at_spot slot insn starts in
      let end = spot_within slot insn starts some in
      let all = wide in
      let slots = some_slots insn in
      let few : slots_of insn ≤ 2 = slots.1 in
      record {
        moved = placed.first;
        starts = subst (λ (k : ℕ). StartsAt new k placed.first) (sym spot_is) (holds_at (spot ranks rooms slot) placed.first (omega arith) placed.holds);
        same = (block.onward, block.is ∙ same block.onward);
        falls = λ falls.
            let goes = block.goes falls in
            let jump : Holds bytes (spot ranks rooms slot + slots_of insn) (Jump goes.0) = subst (λ (i : Insn). Holds bytes (spot ranks rooms slot + slots_of insn) i) goes.1 placed.next in
            subst (λ (k : ℕ). Arrives new places heights slot (slot + slots_of insn) (k + slots_of insn)) (sym spot_is)
            (fall_arrives slot insn (spot ranks rooms slot + slots_of insn) starts some falls
            (λ other begins ranked. by_jump (spot ranks rooms slot + slots_of insn) (slot + slots_of insn) goes.0 other (omega arith) begins ranked jump goes.2));
        jumps = λ distance onward jumps is.
            let arrived = jump_arrives slot insn distance starts some jumps (λ to. spot ranks rooms to) (λ to other way begins ranked. let to_end = spot_within to other begins ranked in (omega arith, inl refl)) in
            let way : JumpsTo slot insn arrived.0 = arrived.1 in
            let distances : Some way.0 ≡ Some distance = sym way.1 ∙ jumps in
            let same_distance : way.0 ≡ distance = cc in
            let onward_is : onward ≡ block.onward = led_jump insn block.onward onward (subst (λ (i : Insn). jump_of i ≡ Some onward) block.is is) in
            record {
              to = arrived.0;
              next = spot ranks rooms arrived.0;
              was = subst (λ (d : ℤ). IsAway slot d arrived.0) same_distance way.2;
              is = subst (λ (k : ℕ). IsAway k onward (spot ranks rooms arrived.0)) (sym spot_is) (subst (λ (d : ℤ). IsAway (spot ranks rooms slot) d (spot ranks rooms arrived.0)) (sym onward_is) (block.aims arrived.0 way));
              arrives = arrived.2;
            };
      }

  dropped : (slot : ℕ) (insn : Insn) → StartsAt old slot insn → 0 < slice_index ranks slot → IsJump insn → IsDropped new places heights slot insn
  dropped slot insn starts some jump =
      let placed = each slot insn some starts in
      let block = placed.block in
      let spot_is = at_spot slot insn starts in
      let end = spot_within slot insn starts some in
      let all = wide in
      let holds : Holds bytes (spot ranks rooms slot) (Jump block.onward) = subst (λ (i : Insn). Holds bytes (spot ranks rooms slot) i) (block.is ∙ jump.led block.onward) placed.holds in
      let arrived = jump_arrives slot insn jump.distance starts some jump.jumps (λ to. spot ranks rooms slot)
      (λ to other way begins ranked. by_jump (spot ranks rooms slot) to block.onward other (omega arith) begins ranked holds (block.aims to way)) in
      record {
        alone = jump.alone;
        to = arrived.0;
        jumps = arrived.1;
        arrives = subst (λ (k : ℕ). Arrives new places heights slot arrived.0 k) (sym spot_is) arrived.2;
      }

  kept : (slot : ℕ) → 0 < slice_index heights slot → IsKept old new places heights slot
  kept slot some =
      let at = has_insn old ranks slot some in
      let insn : Insn = at.0 in
      let starts : StartsAt old slot insn = at.1 in
      let is = high slot insn starts in
      let ranked : 0 < slice_index ranks slot = omega arith in (
        insn,
        starts,
        ⊎_elim
            (λ (same : (onward : ℤ) → led insn onward ≡ aimed insn onward). inl (moved slot insn starts ranked same))
            (λ (jump : IsJump insn). inr (dropped slot insn starts ranked jump))
            (kind insn),
      )

  pub spread_same : (distance : ℤ) → IsForward new → Holds bytes 0 (Jump distance) → IsAway 0 distance (spot ranks rooms 0) → 0 < slice_index ranks 0 → MeansSame old new
  spread_same distance forward holds away some =
      let long = are.long in
      let all = wide in
      let within = ranked_within ranks 0 some in
      let entry = entry_at old 0 (omega arith) in
      let first = insn_at old 0 entry.0 entry.1 paired.begins in
      let is = high 0 first.0 first.1 in
      let low = ranks_low 0 in
      means_same old new places heights (record {
        some = omega arith;
        few = omega arith;
        begins = subst (λ (k : ℕ). LeadsTo new 0 k) (sym (at_spot 0 first.0 first.1)) (by_jump 0 0 distance first.0 (omega arith) first.1 some holds away);
        each = kept;
        forward = forward;
      })

-- ---- the layout, rank by rank
module _ (program : Program) (ranks rooms : List ℕ) (given rank next : ℕ) (are : AreRanks program ranks given) (is : rooms ≡ rooms_of program) (below : next + 1 ≡ rank) where
  same_rooms : length ranks ≡ length rooms
  same_rooms =
      let long = are.long in
      let many : length rooms ≡ length program = ap (λ (l : List ℕ). length l) is ∙ length-rooms program in
      omega arith

  same_slot : (slot other : ℕ) → slice_index ranks slot ≡ rank → slice_index ranks other ≡ rank → other ≡ slot
  same_slot slot other at also = are.once other slot (omega arith) (also ∙ sym at)

  -- no slot has the rank
  pub none_added : (bytes : List ℕ) → ((slot : ℕ) → slot < length ranks → slice_index ranks slot ≢ rank) → Filled bytes (1 + above ranks rooms rank) → RankAdded program ranks rooms bytes bytes rank next
  none_added bytes none filled =
      let same = above_same ranks rooms rank next below (λ slot within at. absurd (none slot within at)) in
      record {
        filled = subst (λ (n : ℕ). Filled bytes (1 + n)) (sym same) filled;
        grows = λ slot insn holds. holds;
        each = λ slot insn at starts. absurd (none slot (ranked_within ranks slot (omega arith)) at);
      }

  -- the slot of the rank isn't an instruction's
  pub second_added : (bytes : List ℕ) (slot : ℕ) → slice_index ranks slot ≡ rank → slice_get program slot ≡ Some None → Filled bytes (1 + above ranks rooms rank) → RankAdded program ranks rooms bytes bytes rank next
  second_added bytes slot at second filled =
      let empty : slice_index rooms slot ≡ 0 = ap (λ (l : List ℕ). slice_index l slot) is ∙ room_at program slot None second in
      let same = above_same ranks rooms rank next below (λ other within also. ap (λ (k : ℕ). slice_index rooms k) (same_slot slot other at also) ∙ empty) in
      record {
        filled = subst (λ (n : ℕ). Filled bytes (1 + n)) (sym same) filled;
        grows = λ k insn holds. holds;
        each = λ k insn also starts.
            let here : slice_get program slot ≡ Some (Some insn) = subst (λ (i : ℕ). slice_get program i ≡ Some (Some insn)) (same_slot slot k at also) starts in
            absurd (cc);
      }

  -- it is
  pub insn_added : (old new : List ℕ) (slot : ℕ) (insn first behind : Insn) → slice_index ranks slot ≡ rank → StartsAt program slot insn → IsBlock ranks rooms slot insn first behind → Blocked old new (1 + above ranks rooms rank) first behind → RankAdded program ranks rooms old new rank next
  insn_added old new slot insn first behind at starts block blocked =
      let slots : slots_of first ≡ slots_of insn = ap slots_of block.is ∙ led_slots insn block.onward in
      let taken = room_is program rooms slot insn is starts in
      let more = above_one ranks rooms slot rank next below same_rooms (ranked_within ranks slot (omega arith)) at (λ other within also. same_slot slot other at also) in
      let end : 1 + above ranks rooms rank + slots_of first + 1 ≡ 1 + above ranks rooms next = omega arith in
      let begin : 1 + above ranks rooms rank ≡ spot ranks rooms slot = ap (λ (r : ℕ). 1 + above ranks rooms r) (sym at) in
      let back : 1 + above ranks rooms rank + slots_of first ≡ spot ranks rooms slot + slots_of insn = omega arith in
      let placed : IsPlaced ranks rooms new slot insn = record {
        first = first;
        behind = behind;
        block = block;
        holds = subst (λ (k : ℕ). Holds new k first) begin blocked.holds;
        next = subst (λ (k : ℕ). Holds new k behind) back blocked.next;
      } in
      record {
        filled = subst (λ (k : ℕ). Filled new k) end blocked.filled;
        grows = blocked.grows;
        each = λ k other also begins.
            let place : slot ≡ k = sym (same_slot slot k at also) in
            let here : StartsAt program slot other = subst (λ (i : ℕ). StartsAt program i other) (sym place) begins in
            let same : insn ≡ other = same_insn program slot insn other starts here in
            subst (λ (i : ℕ). IsPlaced ranks rooms new i other) place (subst (λ (i : Insn). IsPlaced ranks rooms new slot i) same placed);
      }

pub spread_begun : (program : Program) (ranks rooms old new : List ℕ) (given rank : ℕ) (distance : ℤ) → AreRanks program ranks given → rank ≡ length ranks → Added old new 0 (Jump distance) → IsAway 0 distance (spot ranks rooms 0) → AreSpread program ranks rooms new rank
spread_begun program ranks rooms old new given rank distance are is added away =
    let low : (slot : ℕ) → slice_index ranks slot ≤ rank = λ slot.
    let most = are.most slot in
    let all = are.given in
    let long = are.long in
    omega arith in
    let none = above_none ranks rooms rank low in
    let one : 0 + 1 ≡ 1 + above ranks rooms rank = omega arith in
    record {
      filled = subst (λ (k : ℕ). Filled new k) one added.filled;
      begins = (distance, added.holds, away);
      each = λ slot insn over starts. let most = low slot in absurd (omega arith);
    }

pub spread_more : (program : Program) (ranks rooms old new : List ℕ) (rank next : ℕ) → next + 1 ≡ rank → AreSpread program ranks rooms old rank → RankAdded program ranks rooms old new rank next → AreSpread program ranks rooms new next
spread_more program ranks rooms old new rank next is spread added =
    record {
      filled = added.filled;
      begins = (spread.begins.0, added.grows 0 (Jump spread.begins.0) spread.begins.1, spread.begins.2);
      each = λ slot insn over starts.
          ⊎_elim
          (λ (same : slice_index ranks slot ≡ rank). added.each slot insn same starts)
          (λ (apart : slice_index ranks slot ≡ rank → ⊥).
          let placed = spread.each slot insn (omega arith) starts in
          record {
            first = placed.first;
            behind = placed.behind;
            block = placed.block;
            holds = added.grows (spot ranks rooms slot) placed.first placed.holds;
            next = added.grows (spot ranks rooms slot + slots_of insn) placed.behind placed.next;
          })
          (cases_eq (slice_index ranks slot) rank);
    }

module _ (words bytes ranks rooms : List ℕ) (given rank : ℕ) (is : IsProgram words) (connected : IsConnected (program_of words)) (are : AreRanks (program_of words) ranks given) (rooms_are : rooms ≡ rooms_of (program_of words)) (fits : above ranks rooms 0 ≤ 4095) (first : 0 < slice_index ranks 0) (none : rank ≡ 0) (spread : AreSpread (program_of words) ranks rooms bytes rank) where
  filled : Filled bytes (1 + above ranks rooms 0)
  filled = subst (λ (k : ℕ). Filled bytes (1 + above ranks rooms k)) none spread.filled

  pub right_program : IsProgram bytes
  right_program = is_program bytes (1 + above ranks rooms 0) filled (omega arith) (omega arith)

  pub right_forward : IsForward (program_of bytes)
  right_forward = leads_forward bytes (1 + above ranks rooms 0) filled (omega arith) (omega arith)

  pub right_same : MeansSame (program_of words) (program_of bytes)
  right_same =
      spread_same (program_of words) (program_of bytes) ranks rooms bytes given are rooms_are connected (program_of-paired words is)
      (starts bytes (1 + above ranks rooms 0) filled (omega arith) (omega arith))
      (length_is bytes (1 + above ranks rooms 0) filled (omega arith) (omega arith))
      (λ slot insn some begins. spread.each slot insn (omega arith) begins)
      spread.begins.0 right_forward spread.begins.1 spread.begins.2 first
