use Rattle.guarded_programs.proofs.Walks.{guarded_allowed}
use Rattle.guarded_programs.proofs.Sampled.{first_byte_guarded}
use Rattle.guarded_programs.proofs.Question.{question_guarded}
use Rattle.guarded_programs.proofs.Refused.{unguarded_not}
use Rattle.guarded_programs.proofs.guarded_programs_are_allowed.Goals as goal

pub returns-clause-law : goal.returns-clause-law
returns-clause-law c = guarded_allowed

pub returns-clause-by_length : goal.returns-clause-by_length
returns-clause-by_length c = first_byte_guarded

pub returns-clause-by_addresses : goal.returns-clause-by_addresses
returns-clause-by_addresses c = question_guarded

pub returns-clause-near_miss : goal.returns-clause-near_miss
returns-clause-near_miss c = unguarded_not
