use Rattle.char_sequence.proofs.Chunking.{split_same, split_spot}
use Rattle.char_sequence.proofs.chunk_list.ChunkList.split.Goals as goal

pub returns-clause-same : goal.returns-clause-same
returns-clause-same c = split_same _ _ _ _ _ c.requires.1 (c.in_ok-split_chunk.ensures.split c.requires.0 c.requires.1)

pub returns-clause-spot : goal.returns-clause-spot
returns-clause-spot c =
    split_spot _ _ _ _ c.split_point-at.result _ _ c.requires.0 c.requires.1 c.requires.2 c.split_point-at.ensures.0 c.split_point-at.ensures.1 c.requires.3 (c.in_ok-split_chunk.ensures.split c.requires.0 c.requires.1) c.after_split.ensures
