use Rattle.char_sequence.proofs.Ranges.{rest_from, rest_within}
use Rattle.char_sequence.proofs.visible_cursor.VisibleCursor.at.Goals as goal

pub invariant_of-result : goal.invariant_of-result
invariant_of-result c =
    rest_within c.args.chunks.now c.split_at.result.1.now c.args.first.position c.args.first.start c.args.place
    c.requires.first.start c.requires.first.reached c.requires.within c.split_at.ensures.back c.requires.few

pub returns : goal.returns
returns c =
    rest_from c.args.chunks.now c.split_at.result.1.now c.args.first.position c.args.first.start c.args.place
    c.requires.first.start c.requires.first.reached c.split_at.ensures.back
