use Rattle.std.proofs.Common.{◌≡◌, [], sym, ap, ◌∙◌}
use Rattle.std.specs.Prelude.{Some}
use Rattle.stream_readers.specs.Readers.{Reader, pending_of}
use Rattle.stream_readers.proofs.Judging.{not_over}
use Rattle.stream_readers.proofs.reader.StreamReader.first_ungiven.Goals as goal

pub returns-in-Some-clause-whole : goal.returns-in-Some-clause-whole
returns-in-Some-clause-whole g c = λ none.
    let here : pending_of c.self.inside.program (Some c.in-Some.judged) ≡ [] =
    ap (pending_of c.self.inside.program) (sym c.in-Some.is) ∙ ap (λ (r : Reader). r.pending) c.self.view_is ∙ none in
    absurd (not_over c.is_over.result c.in-Some.judged.pending c.self.inside.program c.in-Some.judged.version c.is_over.ensures c.if-not-is_over.true here)
