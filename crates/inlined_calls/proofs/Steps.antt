-- An instruction with another distance does the same at another slot, and how a run goes on behind it.
use Rattle.std.proofs.Common.{◌≡◌, ℕ, ℤ, pos, ◌+ℤ◌, zero, suc, ◌+◌, ◌-◌, ◌<◌, ◌⊎◌, inl, inr, Bool, true, false, if◌then◌else◌, cond, eqb, List, length, set, Option, Some, Result, Ok, Err, refl, sym, ap, ◌∙◌, arith}
use Rattle.std.proofs.lemmas.Bool.{lt-ltb}
use Rattle.span_context.specs.Context.{SpanBytes}
use Rattle.bpf_words.specs.declared.instruction.Insn.{Insn}
use Rattle.bpf_words.specs.declared.instruction.Insn.TheVariants.{Compute, Negate, Extend, Convert, Jump, JumpLong, Branch, Load, LoadSigned, Store, LoadWide, Exit}
use Rattle.bpf_words.specs.Flow.{StartsAt, jump_of, falls_through, slots_of}
use Rattle.semantics.specs.declared.FaultKind.{FaultKind}
use Rattle.semantics.specs.declared.FaultKind.TheVariants.{WriteR10}
use Rattle.semantics.specs.declared.Outcome.TheVariants.{Done, Fault}
use Rattle.semantics.specs.State.{State, register_of, operand_in}
use Rattle.semantics.specs.Value.{cut, value_of, negated, extended, converted, holds_of, with_sign}
use Rattle.semantics.specs.Memory.{address_of, load, store, bytes_in, bytes_in_signed}
use Rattle.semantics.specs.Step.{Program, Moved, On, Returns, Next, then_with, write_and_go, first_of, perform, go_to, land, step}
use Rattle.semantics.specs.Outcomes.{after, outcome_from}
use Rattle.inlined_calls.specs.Calls.{Ended, Number, Faults, Meaningless, OutOfSteps, follow}
use Rattle.inlined_calls.specs.Inlined.{IsAway, aimed, EndsAs}

-- the state at another slot
abbrev pub at : ℕ → State → State
at slot s = record s { slot = slot }

-- both go on to the next instruction, or both as their jumps say
abbrev pub BothFall : Insn → ℤ → ℤ → Type 0
BothFall insn distance onward = (falls_through insn ≡ true) × (distance ≡ pos (slots_of insn - 1)) × (onward ≡ distance)

abbrev pub BothGo : Insn → ℤ → ℤ → ℤ → Type 0
BothGo insn aim distance onward = BothFall insn distance onward ⊎ ((jump_of insn ≡ Some distance) × (onward ≡ aim))

abbrev pub Shifted : ℕ → Insn → ℤ → Moved → Moved → Type 0
Shifted here insn aim (Ok (On next distance)) there = (onward : ℤ) × (there ≡ Ok (On (at here next) onward)) × BothGo insn aim distance onward
Shifted here insn aim (Ok (Returns value)) there = there ≡ Ok (Returns value)
Shifted here insn aim (Err kind) there = there ≡ Err kind

shifts_then : {A : Type 0} (here : ℕ) (insn : Insn) (aim : ℤ) (part : Result A FaultKind) (rest there : A → Moved) → ((a : A) → Shifted here insn aim (rest a) (there a)) → Shifted here insn aim (then_with part rest) (then_with part there)
shifts_then here insn aim (Ok a) rest there h = h a
shifts_then here insn aim (Err kind) rest there h = refl

shifts_write : (s : State) (here : ℕ) (insn : Insn) (aim : ℤ) (register value : ℕ) → falls_through insn ≡ true → Shifted here insn aim (write_and_go s register value (pos (slots_of insn - 1))) (write_and_go (at here s) register value (pos (slots_of insn - 1)))
shifts_write s here insn aim register value falls =
    let go : State → Moved = λ new. Ok (On new (pos (slots_of insn - 1))) in
    let new : State = record s { registers = set s.registers register (Some value) } in
    elim (eqb register 10) as (λ b. Shifted here insn aim (then_with (cond b (Err WriteR10) (Ok new)) go) (then_with (cond b (Err WriteR10) (Ok (at here new))) go)) [
      | true ↦ refl
      | false ↦ (pos (slots_of insn - 1), refl, inl (falls, refl, refl))
    ]

shifts_one : {A : Type 0} (s : State) (here : ℕ) (insn : Insn) (aim : ℤ) (register : ℕ) (part : Result A FaultKind) (value : A → ℕ) → falls_through insn ≡ true → Shifted here insn aim (then_with part (λ a. write_and_go s register (value a) (pos (slots_of insn - 1)))) (then_with part (λ a. write_and_go (at here s) register (value a) (pos (slots_of insn - 1))))
shifts_one s here insn aim register part value falls =
    shifts_then here insn aim part (λ a. write_and_go s register (value a) (pos (slots_of insn - 1))) (λ a. write_and_go (at here s) register (value a) (pos (slots_of insn - 1)))
    (λ a. shifts_write s here insn aim register (value a) falls)

shifts_two : {A B : Type 0} (s : State) (here : ℕ) (insn : Insn) (aim : ℤ) (register : ℕ) (first : Result A FaultKind) (second : A → Result B FaultKind) (value : A → B → ℕ) → falls_through insn ≡ true → Shifted here insn aim (then_with first (λ a. then_with (second a) (λ b. write_and_go s register (value a b) (pos (slots_of insn - 1))))) (then_with first (λ a. then_with (second a) (λ b. write_and_go (at here s) register (value a b) (pos (slots_of insn - 1)))))
shifts_two s here insn aim register first second value falls =
    shifts_then here insn aim first (λ a. then_with (second a) (λ b. write_and_go s register (value a b) (pos (slots_of insn - 1)))) (λ a. then_with (second a) (λ b. write_and_go (at here s) register (value a b) (pos (slots_of insn - 1))))
    (λ a. shifts_one s here insn aim register (second a) (value a) falls)

both_ways : (insn : Insn) (holds : Bool) (distance aim : ℤ) → falls_through insn ≡ true → slots_of insn ≡ 1 → jump_of insn ≡ Some distance → BothGo insn aim (if holds then distance else pos 0) (if holds then aim else pos 0)
both_ways insn true distance aim falls one was = inr (was, refl)
both_ways insn false distance aim falls one was = inl (falls, rw one refl, refl)

pub shifts : (bytes : SpanBytes) (s : State) (here : ℕ) (insn : Insn) (aim : ℤ) → Shifted here insn aim (perform bytes s insn) (perform bytes (at here s) (aimed insn aim))
shifts bytes s here (Compute width operation destination operand) aim =
    shifts_two s here (Compute width operation destination operand) aim destination (first_of s operation destination) (λ a. operand_in s operand) (λ a b. value_of operation width (cut width a) (cut width b)) refl
shifts bytes s here (Negate width destination) aim =
    shifts_one s here (Negate width destination) aim destination (register_of s destination) (λ a. negated width (cut width a)) refl
shifts bytes s here (Extend extension destination source) aim =
    shifts_one s here (Extend extension destination source) aim destination (register_of s source) (λ a. extended extension a) refl
shifts bytes s here (Convert conversion bits destination) aim =
    shifts_one s here (Convert conversion bits destination) aim destination (register_of s destination) (λ a. converted conversion bits a) refl
shifts bytes s here (Jump distance) aim = (aim, refl, inr (refl, refl))
shifts bytes s here (JumpLong distance) aim = (aim, refl, inr (refl, refl))
shifts bytes s here (Branch width comparison left right distance) aim =
    let was : Insn = Branch width comparison left right distance in
    let holds : ℕ → ℕ → Bool = λ a b. holds_of comparison width (cut width a) (cut width b) in
    let goes : ℕ → ℕ → Moved = λ a b. Ok (On s (if holds a b then distance else pos 0)) in
    let there : ℕ → ℕ → Moved = λ a b. Ok (On (at here s) (if holds a b then aim else pos 0)) in
    shifts_then here was aim (register_of s left) (λ a. then_with (operand_in s right) (goes a)) (λ a. then_with (operand_in s right) (there a))
    (λ a. shifts_then here was aim (operand_in s right) (goes a) (there a)
    (λ b. ((if holds a b then aim else pos 0), refl, both_ways was (holds a b) distance aim refl refl refl)))
shifts bytes s here (Load size destination base offset) aim =
    shifts_two s here (Load size destination base offset) aim destination (register_of s base) (λ address. load bytes s.stack (address_of address offset) (bytes_in size)) (λ address value. value) refl
shifts bytes s here (LoadSigned size destination base offset) aim =
    shifts_two s here (LoadSigned size destination base offset) aim destination (register_of s base) (λ address. load bytes s.stack (address_of address offset) (bytes_in_signed size)) (λ address value. with_sign size value) refl
shifts bytes s here (Store size base offset operand) aim =
    let insn : Insn = Store size base offset operand in
    let goes : List (Option ℕ) → Moved = λ stack. Ok (On (record s { stack = stack }) (pos 0)) in
    let there : List (Option ℕ) → Moved = λ stack. Ok (On (at here (record s { stack = stack })) (pos 0)) in
    let stores : ℕ → ℕ → Result (List (Option ℕ)) FaultKind = λ address value. store bytes s.stack (address_of address offset) (bytes_in size) value in
    shifts_then here insn aim (register_of s base) (λ address. then_with (operand_in s operand) (λ value. then_with (stores address value) goes)) (λ address. then_with (operand_in s operand) (λ value. then_with (stores address value) there))
    (λ address. shifts_then here insn aim (operand_in s operand) (λ value. then_with (stores address value) goes) (λ value. then_with (stores address value) there)
    (λ value. shifts_then here insn aim (stores address value) goes there (λ stack. (pos 0, refl, inl (refl, refl, refl)))))
shifts bytes s here (LoadWide destination value) aim = shifts_write s here (LoadWide destination value) aim destination value refl
shifts bytes s here Exit aim = shifts_then here Exit aim (register_of s 0) (λ value. Ok (Returns value)) (λ value. Ok (Returns value)) (λ value. refl)

-- ---- a step of the program
lands : (program : Program) (next : State) (distance : ℤ) (to : ℕ) → IsAway next.slot distance to → to < length program → land program (On next distance) ≡ Ok (Next (at to next))
lands program next distance to away within =
    let test = lt-ltb to (length program) within in
    ap (λ (target : ℤ). go_to program next target) (sym away) ∙ rw test refl

stepped : (program : Program) (bytes : SpanBytes) (s : State) (insn : Insn) → StartsAt program s.slot insn → step program bytes s ≡ then_with (perform bytes s insn) (land program)
stepped program bytes s insn starts = rw starts refl

pub goes : (program : Program) (bytes : SpanBytes) (here to : ℕ) (s next : State) (insn : Insn) (onward : ℤ) → StartsAt program here insn → perform bytes (at here s) insn ≡ Ok (On (at here next) onward) → IsAway here onward to → to < length program → (steps : ℕ) → outcome_from program bytes (suc steps) (at here s) ≡ outcome_from program bytes steps (at to next)
unfolding outcome_from
goes program bytes here to s next insn onward starts does away within steps =
    ap (λ g. after g here (λ state. outcome_from program bytes steps state)) (stepped program bytes (at here s) insn starts ∙ ap (λ (m : Moved). then_with m (land program)) does ∙ lands program (at here next) onward to away within)

faulted : (program : Program) (bytes : SpanBytes) (here : ℕ) (s : State) (insn : Insn) (kind : FaultKind) → StartsAt program here insn → perform bytes (at here s) insn ≡ Err kind → outcome_from program bytes (suc zero) (at here s) ≡ Fault here kind
unfolding outcome_from
faulted program bytes here s insn kind starts does =
    ap (λ g. after g here (λ state. outcome_from program bytes zero state)) (stepped program bytes (at here s) insn starts ∙ ap (λ (m : Moved). then_with m (land program)) does)

returned : (program : Program) (bytes : SpanBytes) (here : ℕ) (s : State) (insn : Insn) (value : ℕ) → StartsAt program here insn → perform bytes (at here s) insn ≡ Ok (Returns value) → outcome_from program bytes (suc zero) (at here s) ≡ Done value
unfolding outcome_from
returned program bytes here s insn value starts does =
    ap (λ g. after g here (λ state. outcome_from program bytes zero state)) (stepped program bytes (at here s) insn starts ∙ ap (λ (m : Moved). then_with m (land program)) does)

-- what is over behind a step is over before it
pub earlier : (program : Program) (bytes : SpanBytes) (s next : State) (ended : Ended) → ((steps : ℕ) → outcome_from program bytes (suc steps) s ≡ outcome_from program bytes steps next) → EndsAs program bytes next ended → EndsAs program bytes s ended
earlier program bytes s next (Number value) same (steps, is) = (suc steps, same steps ∙ is)
earlier program bytes s next (Faults kind) same (steps, slot, is) = (suc steps, slot, same steps ∙ is)
earlier program bytes s next Meaningless same none = none
earlier program bytes s next OutOfSteps same over = over

-- where the program goes on behind a step, and ends as a run with calls
abbrev pub Arrives : Program → SpanBytes → ℕ → State → ℤ → Ended → Type 0
Arrives program bytes here next onward ended = (to : ℕ) × IsAway here onward to × (to < length program) × EndsAs program bytes (at to next) ended

pub follows : (program : Program) (bytes : SpanBytes) (here : ℕ) (s : State) (insn : Insn) (aim : ℤ) (rest : State → ℤ → Ended) → StartsAt program here (aimed insn aim) → ((next : State) (distance onward : ℤ) → BothGo insn aim distance onward → Arrives program bytes here next onward (rest next distance)) → (m : Moved) → Shifted here insn aim m (perform bytes (at here s) (aimed insn aim)) → EndsAs program bytes (at here s) (follow m rest)
follows program bytes here s insn aim rest starts on (Ok (On next distance)) (onward, is, both) =
    let way = on next distance onward both in
    earlier program bytes (at here s) (at way.0 next) (rest next distance) (goes program bytes here way.0 s next (aimed insn aim) onward starts is way.1 way.2) way.3
follows program bytes here s insn aim rest starts on (Ok (Returns value)) is = (suc zero, returned program bytes here s (aimed insn aim) value starts is)
follows program bytes here s insn aim rest starts on (Err kind) is = (suc zero, here, faulted program bytes here s (aimed insn aim) kind starts is)

-- to the next instruction
pub falls_away : (here n : ℕ) (onward : ℤ) → 0 < n → onward ≡ pos (n - 1) → IsAway here onward (here + n)
falls_away here n onward some is =
    let to : here + n ≡ here + 1 + (n - 1) = omega arith in
    ap pos to ∙ ap (λ (d : ℤ). pos (here + 1) +ℤ d) (sym is)
