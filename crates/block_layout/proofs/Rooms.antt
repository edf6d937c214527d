-- How much room the slots above a rank take.
use Rattle.std.proofs.Common.{◌≡◌, ℕ, zero, suc, ◌+◌, ◌<◌, ◌≤◌, List, [], ◌∷◌, ◌++◌, length, drop, slice_index, Option, Some, None, ⊎_elim, refl, sym, ap, ◌∙◌, append_assoc, arith}
use Rattle.std.specs.List.{slice_get}
use Rattle.std.proofs.lemmas.Bool.{cases_eq, cases_lt}
use Rattle.std.proofs.lemmas.Bool.Decides.{nat_tests}
use Rattle.bpf_words.specs.declared.instruction.Insn.{Insn}
use Rattle.bpf_words.specs.Flow.{slots_of}
use Rattle.semantics.specs.Step.{Program}
use Rattle.block_layout.specs.Rooms.{room, room_of, rooms_of, pick, above}

pick_some : (rank other taken : ℕ) → rank < other → pick rank other taken ≡ taken
pick_some rank other taken less = grind (arith, nat_tests)

pick_none : (rank other taken : ℕ) → other ≤ rank → pick rank other taken ≡ 0
pick_none rank other taken more = grind (arith, nat_tests)

pick_few : (rank other taken : ℕ) → pick rank other taken ≤ taken
pick_few rank other taken = grind (arith, nat_tests)

pick_more : (high low other taken : ℕ) → low ≤ high → pick high other taken ≤ pick low other taken
pick_more high low other taken less =
    ⊎_elim
    (λ (is : high < other). let first = pick_some high other taken is in let second = pick_some low other taken (omega arith) in omega arith)
    (λ (not : other ≤ high). let none = pick_none high other taken not in omega arith)
    (cases_lt high other)

-- a slot of another rank is above both or neither
pick_next : (rank next other taken : ℕ) → next + 1 ≡ rank → (other ≡ rank → ⊥) → pick next other taken ≡ pick rank other taken
pick_next rank next other taken is apart =
    ⊎_elim
    (λ (more : rank < other). pick_some next other taken (omega arith) ∙ sym (pick_some rank other taken more))
    (λ (less : other ≤ rank). pick_none next other taken (omega arith) ∙ sym (pick_none rank other taken less))
    (cases_lt rank other)

pub above_more : (ranks rooms : List ℕ) (high low : ℕ) → low ≤ high → above ranks rooms high ≤ above ranks rooms low
above_more [] rooms high low less = omega arith
above_more (other ∷ ranks) [] high low less = omega arith
above_more (other ∷ ranks) (taken ∷ rooms) high low less =
    let rest = above_more ranks rooms high low less in
    let first = pick_more high low other taken less in
    omega arith

pub above_lower : (ranks rooms : List ℕ) (slot high low : ℕ) → length ranks ≡ length rooms → slice_index ranks slot ≡ high → low < high → above ranks rooms high + slice_index rooms slot ≤ above ranks rooms low
above_lower [] rooms slot high low long is less = absurd (omega arith)
above_lower (other ∷ ranks) [] slot high low long is less = absurd (omega arith)
above_lower (other ∷ ranks) (taken ∷ rooms) zero high low long is less =
    let rest = above_more ranks rooms high low (omega arith) in
    let none = pick_none high other taken (omega arith) in
    let some = pick_some low other taken (omega arith) in
    omega arith
above_lower (other ∷ ranks) (taken ∷ rooms) (suc slot) high low long is less =
    let rest = above_lower ranks rooms slot high low (omega arith) is less in
    let first = pick_more high low other taken (omega arith) in
    omega arith

-- no slot is above
pub above_none : (ranks rooms : List ℕ) (rank : ℕ) → ((slot : ℕ) → slice_index ranks slot ≤ rank) → above ranks rooms rank ≡ 0
above_none [] rooms rank low = refl
above_none (other ∷ ranks) [] rank low = refl
above_none (other ∷ ranks) (taken ∷ rooms) rank low =
    let rest = above_none ranks rooms rank (λ slot. low (suc slot)) in
    let first = pick_none rank other taken (low 0) in
    omega arith

-- no slot of the rank takes room
pub above_same : (ranks rooms : List ℕ) (rank next : ℕ) → next + 1 ≡ rank → ((slot : ℕ) → slot < length ranks → slice_index ranks slot ≡ rank → slice_index rooms slot ≡ 0) → above ranks rooms next ≡ above ranks rooms rank
above_same [] rooms rank next is none = refl
above_same (other ∷ ranks) [] rank next is none = refl
above_same (other ∷ ranks) (taken ∷ rooms) rank next is none =
    let rest = above_same ranks rooms rank next is (λ slot within at. none (suc slot) (omega arith) at) in
    ⊎_elim
    (λ (same : other ≡ rank).
    let empty : taken ≡ 0 = none 0 (omega arith) same in
    let first = pick_few next other taken in
    let second = pick_few rank other taken in
    omega arith)
    (λ (apart : other ≡ rank → ⊥). let first = pick_next rank next other taken is apart in omega arith)
    (cases_eq other rank)

-- one slot has the rank
pub above_one : (ranks rooms : List ℕ) (slot rank next : ℕ) → next + 1 ≡ rank → length ranks ≡ length rooms → slot < length ranks → slice_index ranks slot ≡ rank → ((other : ℕ) → other < length ranks → slice_index ranks other ≡ rank → other ≡ slot) → above ranks rooms next ≡ above ranks rooms rank + slice_index rooms slot
above_one [] rooms slot rank next is long within at once = absurd (omega arith)
above_one (other ∷ ranks) [] slot rank next is long within at once = absurd (omega arith)
above_one (other ∷ ranks) (taken ∷ rooms) zero rank next is long within at once =
    let rest = above_same ranks rooms rank next is (λ slot inside here. let same : suc slot ≡ 0 = once (suc slot) (omega arith) here in absurd (omega arith)) in
    let none = pick_none rank other taken (omega arith) in
    let some = pick_some next other taken (omega arith) in
    omega arith
above_one (other ∷ ranks) (taken ∷ rooms) (suc slot) rank next is long within at once =
    let rest = above_one ranks rooms slot rank next is (omega arith) (omega arith) at (λ k inside here. let same : suc k ≡ suc slot = once (suc k) (omega arith) here in omega arith) in
    let first = pick_next rank next other taken is (λ same. let first_is : 0 ≡ suc slot = once 0 (omega arith) same in omega arith) in
    omega arith

-- a slot more is looked at
pub above_from : (ranks rooms : List ℕ) (slot next rank : ℕ) → next ≡ suc slot → slot < length ranks → slot < length rooms → above (drop slot ranks) (drop slot rooms) rank ≡ pick rank (slice_index ranks slot) (slice_index rooms slot) + above (drop next ranks) (drop next rooms) rank
above_from ranks rooms slot next rank is in_ranks in_rooms =
    go ranks rooms slot in_ranks in_rooms ∙ ap (λ (k : ℕ). pick rank (slice_index ranks slot) (slice_index rooms slot) + above (drop k ranks) (drop k rooms) rank) (sym is)
  where
    go : (ranks rooms : List ℕ) (slot : ℕ) → slot < length ranks → slot < length rooms → above (drop slot ranks) (drop slot rooms) rank ≡ pick rank (slice_index ranks slot) (slice_index rooms slot) + above (drop (suc slot) ranks) (drop (suc slot) rooms) rank
    go [] rooms slot in_ranks in_rooms = absurd (omega arith)
    go (other ∷ ranks) [] slot in_ranks in_rooms = absurd (omega arith)
    go (other ∷ ranks) (taken ∷ rooms) zero in_ranks in_rooms = refl
    go (other ∷ ranks) (taken ∷ rooms) (suc slot) in_ranks in_rooms = go ranks rooms slot (omega arith) (omega arith)

pub above_few : (ranks : List ℕ) (program : Program) (rank : ℕ) → above ranks (rooms_of program) rank ≤ room program
above_few [] program rank = omega arith
above_few (other ∷ ranks) [] rank = omega arith
above_few (other ∷ ranks) (None ∷ program) rank =
    let rest = above_few ranks program rank in
    let first = pick_few rank other 0 in
    omega arith
above_few (other ∷ ranks) (Some insn ∷ program) rank =
    let rest = above_few ranks program rank in
    let first = pick_few rank other (slots_of insn + 1) in
    omega arith

pub length-rooms : (program : Program) → length (rooms_of program) ≡ length program
length-rooms [] = refl
length-rooms (None ∷ program) = let rest = length-rooms program in omega arith
length-rooms (Some insn ∷ program) = let rest = length-rooms program in omega arith

pub room_at : (program : Program) (slot : ℕ) (entry : Option Insn) → slice_get program slot ≡ Some entry → slice_index (rooms_of program) slot ≡ room_of entry
room_at [] slot entry is = absurd (cc)
room_at (None ∷ program) zero entry is = let same : None ≡ entry = cc in ap room_of same
room_at (None ∷ program) (suc slot) entry is = room_at program slot entry is
room_at (Some insn ∷ program) zero entry is = let same : Some insn ≡ entry = cc in ap room_of same
room_at (Some insn ∷ program) (suc slot) entry is = room_at program slot entry is

-- a slot more is written
pub rooms_next : (program : Program) (slot next : ℕ) (entry : Option Insn) → next ≡ suc slot → slice_get program slot ≡ Some entry → rooms_of (drop slot program) ≡ room_of entry ∷ rooms_of (drop next program)
rooms_next program slot next entry is at =
    go program slot at ∙ ap (λ (k : ℕ). room_of entry ∷ rooms_of (drop k program)) (sym is)
  where
    go : (program : Program) (slot : ℕ) → slice_get program slot ≡ Some entry → rooms_of (drop slot program) ≡ room_of entry ∷ rooms_of (drop (suc slot) program)
    go [] slot at = absurd (cc)
    go (None ∷ program) zero at = let same : None ≡ entry = cc in ap (λ (e : Option Insn). room_of e ∷ rooms_of program) same
    go (Some insn ∷ program) zero at = let same : Some insn ≡ entry = cc in ap (λ (e : Option Insn). room_of e ∷ rooms_of program) same
    go (None ∷ program) (suc slot) at = go program slot at
    go (Some insn ∷ program) (suc slot) at = go program slot at

pub rooms_more : (program : Program) (items new : List ℕ) (slot next taken : ℕ) (entry : Option Insn) → next ≡ suc slot → slice_get program slot ≡ Some entry → taken ≡ room_of entry → new ≡ items ++ taken ∷ [] → items ++ rooms_of (drop slot program) ≡ rooms_of program → new ++ rooms_of (drop next program) ≡ rooms_of program
rooms_more program items new slot next taken entry is at takes is_new before =
    ap (λ (l : List ℕ). l ++ rooms_of (drop next program)) is_new
    ∙ append_assoc items (taken ∷ []) (rooms_of (drop next program))
    ∙ ap (λ (t : ℕ). items ++ (t ∷ rooms_of (drop next program))) takes
    ∙ ap (λ (l : List ℕ). items ++ l) (sym (rooms_next program slot next entry is at))
    ∙ before
