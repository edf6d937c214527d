use Rattle.std.proofs.Common.{◌≡◌, ℕ, ◌∙◌, ap, subst, string_bytes}
use Rattle.semantics.specs.Step.{Program}
use Rattle.loop_check.specs.Labels.{bound_of}
use Rattle.hub_commands.specs.Answers.{done}
use Rattle.hub_commands.specs.Loops.{IsTold, bound_line, accepted}
use Rattle.hub_commands.proofs.check_loops.accepted_answer.Goals as goal

pub returns : goal.returns
returns c =
    let bound = bound_of c.bound-bound.result in
    let made : string_bytes c.in_ok-text.text ≡ bound_line c.len-slots.result bound = c.in_ok-text.ensures.ok in
    let told : IsTold c.args.filter.now bound = record {
      ends = c.bound-bound.ensures.bound;
      straight = c.bound-bound.ensures.straight;
      looping = c.bound-bound.ensures.labels;
    } in
    accepted bound c.requires.accepted
    (subst (λ (program : Program). IsTold program bound) c.requires.same told)
    (c.done.ensures ∙ ap done (made ∙ ap (λ (n : ℕ). bound_line n bound) c.len-slots.ensures.value))
