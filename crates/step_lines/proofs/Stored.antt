-- The line of what a store wrote, from the two reads that it is told by.
use Rattle.std.proofs.Common.{◌≡◌, ℕ, ℤ, List, Result, Ok, ap, ◌∙◌}
use Rattle.span_context.specs.Context.{SpanBytes}
use Rattle.span_context.specs.declared.size.Size.{Size}
use Rattle.semantics.specs.declared.FaultKind.{FaultKind}
use Rattle.semantics.specs.State.{State, register_of}
use Rattle.semantics.specs.Memory.{address_of, bytes_in, load}
use Rattle.step_lines.specs.Steps.{line_of_set, stack_line, stored_now}

pub stored-told : (bytes : SpanBytes) (state : State) (size : Size) (base : ℕ) (offset : ℤ) (first address number : ℕ) → Ok first ≡ register_of state base → address ≡ address_of first offset
    → Ok number ≡ load bytes state.stack address (bytes_in size) → stack_line address number ≡ stored_now bytes state size base offset
stored-told bytes state size base offset first address number set addressed loaded =
    ap (λ (r : Result ℕ FaultKind). line_of_set r (λ n. stack_line address n)) loaded
    ∙ ap (λ (a : ℕ). line_of_set (load bytes state.stack a (bytes_in size)) (λ n. stack_line a n)) addressed
    ∙ ap (λ (r : Result ℕ FaultKind). line_of_set r (λ f. line_of_set (load bytes state.stack (address_of f offset) (bytes_in size)) (λ n. stack_line (address_of f offset) n))) set
