use Rattle.std.proofs.Common.{subst}
use Rattle.span_context.specs.declared.profile.Profile.TheVariants.{Two}
use Rattle.program_reads.specs.Reads.{Determines}
use Rattle.hub_commands.proofs.explain.explained_answer.Goals as goal

pub accepted_answer-requires-clause-determines : goal.accepted_answer-requires-clause-determines
accepted_answer-requires-clause-determines c = subst (Determines c.reads.result Two) c.in-Ok.ensures.same c.reads.ensures
