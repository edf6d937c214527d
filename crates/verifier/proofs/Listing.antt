-- What the walk lists of the loads at the slots that it is past.
use Rattle.std.proofs.Common.{◌≡◌, ℕ, ◌+◌, ⊎_elim, length, Some, None, refl, subst, arith}
use Rattle.std.specs.List.{slice_get}
use Rattle.std.proofs.lemmas.Bool.{cases_eq}
use Rattle.std.proofs.lemmas.Option.{slice_get_within}
use Rattle.span_context.specs.declared.profile.Profile.{Profile}
use Rattle.bpf_words.specs.declared.instruction.Insn.{Insn}
use Rattle.bpf_words.specs.Flow.{StartsAt}
use Rattle.semantics.specs.State.{State}
use Rattle.semantics.specs.Step.{Program}
use Rattle.tracked_state.specs.declared.state.TrackedState.{TrackedState}
use Rattle.abstract_state.specs.Lent.{Lengths}
use Rattle.abstract_state.specs.State.{lengths_of, Contains}
use Rattle.program_reads.specs.declared.reads.Reads.{Reads}
use Rattle.program_reads.specs.Loads.{CoversLoad, CoversRuns}
use Rattle.program_reads.specs.Marks.{Grows}
use Rattle.program_reads.proofs.Growing.{covers_load}
use Rattle.verifier.specs.Reaches.{TracksRuns, ListsBelow}
use Rattle.verifier.proofs.Waits.{within_some}

pub lists_none : (profile : Profile) (program : Program) (reads : Reads) → ListsBelow profile program 0 reads
lists_none profile program reads span s insn which reached less = absurd (omega arith)

one_insn : (program : Program) (at slot : ℕ) (i j : Insn) → at ≡ slot → StartsAt program at i → StartsAt program slot j → j ≡ i
one_insn program at slot i j here starts others = let there = subst (λ k. StartsAt program k i) here starts in cc

pub lists_more : (profile : Profile) (program : Program) (slot : ℕ) (insn : Insn) (known : TrackedState) (old new : Reads) → StartsAt program slot insn → TracksRuns profile program slot (Some known) → Grows old new
    → ((lengths : Lengths) (s : State) → Contains known.state lengths s → CoversLoad new s insn) → ListsBelow profile program slot old → ListsBelow profile program (slot + 1) new
lists_more profile program slot insn known old new starts contains grows covers below span s other which reached less there =
    ⊎_elim
    (λ (here : s.slot ≡ slot).
    let within = within_some (Some known) known (lengths_of span) s refl (contains span s which reached here) in
    subst (λ i. CoversLoad new s i) (one_insn program s.slot slot other insn here there starts) (covers (lengths_of span) s within.state))
    (λ (apart : s.slot ≡ slot → ⊥). covers_load old new grows s other (below span s other which reached (omega arith) there))
    (cases_eq s.slot slot)

-- where no run comes to a slot, it reads nothing
pub lists_dead : (profile : Profile) (program : Program) (slot : ℕ) (reads : Reads) → TracksRuns profile program slot None → ListsBelow profile program slot reads → ListsBelow profile program (slot + 1) reads
lists_dead profile program slot reads contains below span s insn which reached less there =
    ⊎_elim
    (λ (here : s.slot ≡ slot). absurd (let within = contains span s which reached here in let is = within.1 in cc))
    (λ (apart : s.slot ≡ slot → ⊥). below span s insn which reached (omega arith) there)
    (cases_eq s.slot slot)

-- nor does the second slot of a wide load
pub lists_over : (profile : Profile) (program : Program) (slot : ℕ) (reads : Reads) → slice_get program slot ≡ Some None → ListsBelow profile program slot reads → ListsBelow profile program (slot + 1) reads
lists_over profile program slot reads second below span s insn which reached less there =
    ⊎_elim
    (λ (here : s.slot ≡ slot). absurd (let starts = subst (λ k. StartsAt program k insn) here there in cc))
    (λ (apart : s.slot ≡ slot → ⊥). below span s insn which reached (omega arith) there)
    (cases_eq s.slot slot)

pub lists_all : (profile : Profile) (program : Program) (end : ℕ) (reads : Reads) → end ≡ length program → ListsBelow profile program end reads → CoversRuns reads profile program
lists_all profile program end reads all below span s insn which reached there =
    let within = slice_get_within program s.slot (Some insn) there in
    below span s insn which reached (omega arith) there
