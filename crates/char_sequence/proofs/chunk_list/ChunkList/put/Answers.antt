use Rattle.std.proofs.Common.{subst}
use Rattle.char_sequence.specs.Rooms.{IsRoom}
use Rattle.char_sequence.proofs.Chunking.{put_joined}
use Rattle.char_sequence.proofs.chunk_list.ChunkList.put.Goals as goal

pub returns-in_ok-put_in-in-In-clause-ok : goal.returns-in_ok-put_in-in-In-clause-ok
returns-in_ok-put_in-in-In-clause-ok c =
    λ place room.
    let r = subst (λ z. IsRoom c.args.self.now z place) c.in-In.is room in
    put_joined _ _ _ _ place c.args.element r.0 r.1 r.3 r.4 c.in_ok-put_in-in-In.ensures.ok
