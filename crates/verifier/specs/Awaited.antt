-- What the walk over the slots carries from one to the next: what falls into it, and what the jumps below it lead to
-- each slot.
use Rattle.std.specs.Prelude.{ℕ, zero, suc, nat_eq, if◌then◌else◌, slice_get, Option, Some, None, Result, Ok, Err}
use Rattle.span_context.specs.declared.profile.Profile.{Profile}
use Rattle.bpf_words.specs.declared.instruction.Insn.{Insn}
use Rattle.bpf_words.specs.Flow.{jump_of}
use Rattle.semantics.specs.Step.{Program}
use Rattle.abstract_state.specs.declared.refusal.Refusal.{Refusal}
use Rattle.tracked_state.specs.Tracked.{TrackedSituation}
use Rattle.tracked_state.specs.Rules.{TrackedWays, entry}
use Rattle.verifier.specs.Decides.{led, jump_target, either_way, arrived}

-- what jumps lead to each slot
abbrev pub Waits : Type 0
Waits = ℕ → Option TrackedSituation

-- what falls into a slot from the one below it, and what the jumps below it lead to each slot
pub record Awaited : Type 0 where
  pub falling : Option TrackedSituation
  pub waiting : Waits

abbrev pub awaited : Option TrackedSituation → Waits → Awaited
awaited falling waiting = record { falling = falling; waiting = waiting }

-- what a jump leads to its target is joined to what the jumps before it led there
abbrev pub with_jump : Profile → ℕ → Option TrackedSituation → Waits → Waits
with_jump profile target taken waiting slot =
    if nat_eq slot target then either_way profile (waiting slot) taken else waiting slot

-- beyond an instruction; one that is refused leads nothing on
abbrev pub led_on : Profile → ℕ → Insn → Waits → Result TrackedWays Refusal → Awaited
led_on profile slot insn waiting (Ok w) =
    awaited w.untaken (with_jump profile (jump_target slot (jump_of insn)) w.taken waiting)
led_on profile slot insn waiting (Err fault) = awaited None waiting

unfoldable pub passed : Profile → ℕ → Insn → Option TrackedSituation → Waits → Awaited
passed profile slot insn None waiting = awaited None waiting
passed profile slot insn (Some t) waiting = led_on profile slot insn waiting (led profile slot insn t)

-- beyond a slot; at the second one of a wide load stands no instruction
unfoldable pub stepped_over : Profile → ℕ → Option (Option Insn) → Awaited → Awaited
stepped_over profile slot (Some (Some insn)) a =
    passed profile slot insn (arrived profile a.falling (a.waiting slot)) a.waiting
stepped_over profile slot place a = a

unfoldable pub awaited_at : Profile → Program → ℕ → Awaited
awaited_at profile program zero = awaited (Some (entry profile)) (λ slot. None)
awaited_at profile program (suc slot) =
    stepped_over profile slot (slice_get program slot) (awaited_at profile program slot)
