use Rattle.std.proofs.Common.{sym, ap, ◌∙◌, subst}
use Rattle.char_sequence.specs.Chunks.{joined}
use Rattle.char_sequence.specs.Rooms.{IsRoom}
use Rattle.char_sequence.specs.RunElements.{elements_from, insert_all}
use Rattle.char_sequence.proofs.RunSteps.{joined_run}
use Rattle.char_sequence.proofs.chunk_list.ChunkList.put_some.Goals as goal

pub returns-in_ok-put_run-in-In-clause-ok : goal.returns-in_ok-put_run-in-In-clause-ok
returns-in_ok-put_run-in-In-clause-ok c =
    λ place room.
    let r = subst (λ z. IsRoom c.args.self.now z place) c.in-In.is room in
    let cs = c.args.self.now.chunks in
    ap joined (c.in_ok-put_run-in-In.ensures.ok r.0 r.1)
    ∙ joined_run (elements_from c.args.id c.split_at.result.0.now) cs c.in-In.spot.position c.in-In.spot.at r.0 r.1 r.3
    ∙ ap (λ n. insert_all (joined cs) n (elements_from c.args.id c.split_at.result.0.now)) (sym r.4)
    ∙ ap (λ l. insert_all (joined cs) place (elements_from c.args.id l)) c.split_at.ensures.front
