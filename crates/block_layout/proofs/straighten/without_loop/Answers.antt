use Rattle.std.proofs.Common.{◌≡◌, ℕ, List, ap, rules, arith}
use Rattle.bpf_words.specs.Words.{program_of}
use Rattle.block_layout.specs.Rooms.{above, rooms_of}
use Rattle.block_layout.proofs.Ranks.{no_loop}
use Rattle.block_layout.proofs.Rooms.{above_few}
use Rattle.block_layout.proofs.Spreading.{are_rooms}
use Rattle.block_layout.proofs.straighten.without_loop.Goals as goal

pub fits-requires : goal.fits-requires
fits-requires c =
    let is : c.deref-2.result.now ≡ rooms_of (program_of c.args.words.now) = search rules in
    are_rooms (program_of c.args.words.now) c.args.ranks.now c.deref-2.result.now c.requires.ranks.1.long (omega arith) is

pub returns-clause-refused : goal.returns-clause-refused
returns-clause-refused c =
    let is : c.deref-2.result.now ≡ rooms_of (program_of c.args.words.now) = search rules in
    let few = above_few c.args.ranks.now (program_of c.args.words.now) 0 in
    let same = ap (λ (l : List ℕ). above c.args.ranks.now l 0) is in
    let taken = c.if-fits.ensures in
    (c.requires.connected, c.requires.back, no_loop (program_of c.args.words.now) c.args.ranks.now c.requires.ranks.0 c.requires.ranks.1 c.requires.first, omega arith)
