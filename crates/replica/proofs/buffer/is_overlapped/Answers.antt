use Rattle.std.proofs.Common.{◌<◌, length, arith}
use Rattle.std.proofs.lemmas.Bool.{iff_false}
use Rattle.std.proofs.lemmas.Option.{slice_get_within}
use Rattle.replica.proofs.Opening.{next_free, found, all_free}
use Rattle.replica.proofs.buffer.is_overlapped.Goals as goal

pub loop-index-init : goal.loop-index-init
loop-index-init c = λ k y low g o. absurd (omega arith)

pub loop-index-preserved : goal.loop-index-preserved
loop-index-preserved c = next_free c.args.messages.now c.args.message.now c.message_at.result.now c.loop-index.index c.message_at.ensures (iff_false c.overlaps.ensures c.if-overlaps.false) c.loop-index.invariant

pub returns-then-overlaps : goal.returns-then-overlaps
returns-then-overlaps c = found c.args.messages.now c.args.message.now c.message_at.result.now c.loop-index.index c.message_at.ensures (c.overlaps.ensures.0 c.if-overlaps.true)

pub returns : goal.returns
returns c = all_free c.args.messages.now c.args.message.now c.loop-index.index (λ k y g. let within : k < length c.args.messages.now = slice_get_within c.args.messages.now k y g in omega arith) c.loop-index.invariant
