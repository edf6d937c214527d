use Rattle.std.proofs.Common.{◌≡◌, ◌+◌, ◌-◌, ◌%◌, ◌^◌, ℕ, ap, ◌∙◌, arith}
use Rattle.std.proofs.lemmas.Result.{IfOk-weaker}
use Rattle.span_context.specs.Context.{context_base}
use Rattle.abstract_state.proofs.memory.part_of_context.Goals as goal

pub returns-clause-sound : goal.returns-clause-sound
returns-clause-sound c = IfOk-weaker c.part_of_number.result _ _
    (λ done within span n same b.
    let offset = c.args.address.offset in
    let at = c.in-Some.ensures.at context_base offset (omega arith) (omega (arith, c.args.address.within)) in
    let address = ap (λ (m : ℕ). (m + c.args.offset) % 2 ^ 64) b ∙ at ∙ ap (λ (m : ℕ). context_base + m) (let here : c.in-Some.p + (offset - offset) ≡ c.in-Some.p = omega arith in here) in
    (c.in-Some.p, address, within))
    c.part_of_number.ensures.within
