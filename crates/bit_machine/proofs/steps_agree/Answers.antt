use Rattle.bit_machine.proofs.Memory.{step_bytes}
use Rattle.bit_machine.proofs.Steps.{unsigned_agrees, step_agrees, start_bytes, span_bytes}
use Rattle.bit_machine.proofs.steps_agree.Goals as goal

pub returns-clause-instruction : goal.returns-clause-instruction
returns-clause-instruction c = unsigned_agrees

pub returns-clause-step : goal.returns-clause-step
returns-clause-step c = step_agrees

pub returns-clause-kept : goal.returns-clause-kept
returns-clause-kept c = step_bytes

pub returns-clause-start : goal.returns-clause-start
returns-clause-start c = start_bytes

pub returns-clause-span : goal.returns-clause-span
returns-clause-span c = span_bytes
