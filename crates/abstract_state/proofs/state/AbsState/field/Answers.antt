use Rattle.std.proofs.Common.{◌≡◌, ◌≤◌, ◌+◌, ◌-◌, ◌%◌, ◌^◌, ℕ, ap, sym, subst, ◌∙◌, arith}
use Rattle.span_context.specs.Context.{context_base}
use Rattle.span_context.specs.Profile.{context_length}
use Rattle.span_context.specs.declared.profile.Profile.{Profile}
use Rattle.semantics.specs.Memory.{bytes_in}
use Rattle.abstract_state.proofs.Memories.{loads_field}
use Rattle.abstract_state.proofs.state.AbsState.field.Goals as goal

pub returns-clause-sound : goal.returns-clause-sound
returns-clause-sound c = λ span s n same a b.
    let offset = c.args.address.offset in
    let at = c.in-Some.ensures.at context_base offset (omega arith) (omega (arith, c.args.address.within)) in
    let address = ap (λ (m : ℕ). (m + c.args.offset) % 2 ^ 64) b ∙ at ∙ ap (λ (m : ℕ). context_base + m) (let here : c.in-Some.p + (offset - offset) ≡ c.in-Some.p = omega arith in here) in
    let within = subst (λ (p : Profile). c.in-Some.p + bytes_in c.args.size ≤ context_length p) (sym same) c.in_ok-known.ensures.within in
    (_, loads_field span s.stack _ c.in-Some.p _ address within, c.in_ok-known.ensures.sound span same)
