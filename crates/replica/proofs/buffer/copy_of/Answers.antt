use Rattle.std.proofs.Common.{[], ap, sym, ◌∙◌}
use Rattle.std.proofs.lemmas.List.{append-nil}
use Rattle.change_ops.specs.Spelling.{change_text}
use Rattle.replica.proofs.buffer.copy_of.Goals as goal

pub returns-in-Ok : goal.returns-in-Ok
returns-in-Ok c = λ change valid spelled. ap (λ p. p.0) (c.in-Ok.ensures.complete change [] (valid, spelled ∙ sym (append-nil (change_text change))))
