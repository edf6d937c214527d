use Rattle.std.proofs.Common.{◌≡◌, inl, inr, refl, rules, arith}
use Rattle.bpf_words.specs.Words.{program_of}
use Rattle.block_layout.specs.Spread.{led}
use Rattle.block_layout.proofs.Spreading.{later, are_rooms, ranked_within}
use Rattle.block_layout.proofs.spread.block_at.Goals as goal

pub onward-distance-requires-clause-rooms : goal.onward-distance-requires-clause-rooms
onward-distance-requires-clause-rooms c = are_rooms (program_of c.args.words.now) c.args.ranks.now c.args.rooms.now c.requires.ranks.1.long (omega arith) c.requires.rooms

pub onward-distance-requires-clause-within : goal.onward-distance-requires-clause-within
onward-distance-requires-clause-within c = ranked_within c.args.ranks.now c.args.slot c.requires.some

pub onward-distance-requires-clause-later : goal.onward-distance-requires-clause-later
onward-distance-requires-clause-later c = λ to jumps.
    let is = later (program_of c.args.words.now) c.args.ranks.now c.args.rooms.now c.requires.ranks.0 c.args.slot to c.args.insn c.requires.ranks.1 c.requires.rooms c.requires.fits c.requires.some c.requires.starts (c.args.insn, c.requires.starts, inr jumps) in
    (is.0, omega (arith, is.1), is.2)

pub behind-requires-clause-rooms : goal.behind-requires-clause-rooms
behind-requires-clause-rooms c = are_rooms (program_of c.args.words.now) c.args.ranks.now c.args.rooms.now c.requires.ranks.1.long (omega arith) c.requires.rooms

pub behind-requires-clause-within : goal.behind-requires-clause-within
behind-requires-clause-within c = ranked_within c.args.ranks.now c.args.slot c.requires.some

pub behind-requires-clause-later : goal.behind-requires-clause-later
behind-requires-clause-later c = λ falls.
    later (program_of c.args.words.now) c.args.ranks.now c.args.rooms.now c.requires.ranks.0 c.args.slot _ c.args.insn c.requires.ranks.1 c.requires.rooms c.requires.fits c.requires.some c.requires.starts (c.args.insn, c.requires.starts, inl (falls, refl))

pub returns-clause-is : goal.returns-clause-is
returns-clause-is c =
    let is : c.led.result ≡ led c.args.insn c.onward-distance.result = search rules in
    record { onward = c.onward-distance.result; is = is; aims = c.onward-distance.ensures.aims; goes = c.behind.ensures.goes }
