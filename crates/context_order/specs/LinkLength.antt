-- Programs that load no length of a link: all by which context 2 knows less than context 1 does.
use Rattle.std.specs.Prelude.{◌≡◌, ℕ, Option, Some, None}
use Rattle.std.specs.Int.{cast_unsigned, w64}
use Rattle.span_context.specs.declared.profile.Profile.TheVariants.{One}
use Rattle.span_context.specs.declared.size.Size.TheVariants.{Word}
use Rattle.bpf_words.specs.declared.instruction.Insn.{Insn}
use Rattle.bpf_words.specs.declared.instruction.Insn.TheVariants.{Load}
use Rattle.bpf_words.specs.Flow.{StartsAt}
use Rattle.semantics.specs.Step.{Program}
use Rattle.abstract_state.specs.Addresses.{InContext}
use Rattle.abstract_state.specs.Loading.{place}
use Rattle.abstract_state.specs.Situation.{Situation}
use Rattle.tracked_state.specs.Tracked.{TrackedSituation}
use Rattle.verifier.specs.Decides.{known_before}

-- an instruction loads four bytes of the context, from its byte 32 on
abbrev pub LoadsLength : Insn → Situation → Type 0
LoadsLength (Load Word destination base offset) s =
    (p : ℕ) × (s.registers base ≡ Some (InContext p)) × (place p (cast_unsigned w64 offset) ≡ Some 32)
LoadsLength insn s = ⊥

-- where a run may come
abbrev pub MayLoadLength : Insn → Option TrackedSituation → Type 0
MayLoadLength insn None = ⊥
MayLoadLength insn (Some t) = LoadsLength insn t.situation

-- no instruction does, by what context 1 knows before it
abbrev pub LoadsNoLength : Program → Type 0
LoadsNoLength program =
    (slot : ℕ) (insn : Insn) → StartsAt program slot insn → MayLoadLength insn (known_before One program slot) → ⊥
