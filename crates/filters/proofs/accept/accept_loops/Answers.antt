use Rattle.std.proofs.Common.{sym, subst}
use Rattle.bpf_words.specs.Words.{program_of}
use Rattle.semantics.specs.Step.{Program}
use Rattle.loop_check.specs.Labels.{bound_of}
use Rattle.filters.specs.Codes.{IsKept}
use Rattle.filters.specs.declared.filter.Code.TheVariants.{Looping}
use Rattle.filters.proofs.Ends.{back_not_forward, looping_bound}
use Rattle.filters.proofs.accept.accept_loops.Goals as goal

pub returns-in-Err-clause-refused : goal.returns-in-Err-clause-refused
returns-in-Err-clause-refused c =
    let program = program_of c.args.words.now in
    c.of_way.ensures program (back_not_forward program c.args.back c.requires) c.in-Err.ensures

pub returns-in-Ok-of-clause-accepted : goal.returns-in-Ok-of-clause-accepted
returns-in-Ok-of-clause-accepted c =
    let program = program_of c.args.words.now in
    let bound = bound_of c.in-Ok.bound in (
      λ forward. absurd (back_not_forward program c.args.back c.requires forward),
      λ loops. c.in_default.ensures,
      (bound, looping_bound program bound c.in-Ok.ensures.ends c.in-Ok.ensures.limit, λ loops. c.in-Ok.ensures.labels),
    )

pub invariant_of-result : goal.invariant_of-result
invariant_of-result c =
    let program = program_of c.args.words.now in
    let kept : IsKept (Looping program c.in-Ok.bound) = (
      back_not_forward program c.args.back c.requires,
      c.in-Ok.ensures.ends,
      c.in-Ok.ensures.limit,
      c.in-Ok.ensures.labels,
    ) in
    subst (λ (rows : Program). IsKept (Looping rows c.in-Ok.bound)) (sym c.in-Ok-of.ensures) kept
