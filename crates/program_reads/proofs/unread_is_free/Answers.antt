use Rattle.program_reads.proofs.Narrow.{whole_spans}
use Rattle.program_reads.proofs.Runs.{determines}
use Rattle.program_reads.proofs.unread_is_free.Goals as goal

pub returns-clause-lent : goal.returns-clause-lent
returns-clause-lent c = λ profile program reads safe covers. determines reads profile program safe covers

pub returns-clause-whole : goal.returns-clause-whole
returns-clause-whole c = λ profile program reads safe covers. whole_spans reads profile program safe covers
