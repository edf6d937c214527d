use Rattle.std.proofs.Common.{◌-◌, ℕ, List, length, slice_index, refl, sym, subst, arith}
use Rattle.bpf_words.specs.declared.instruction.Insn.{Insn}
use Rattle.bpf_words.specs.Words.{program_of}
use Rattle.block_layout.specs.Loops.{IsAway}
use Rattle.block_layout.specs.Spread.{Filled, Added}
use Rattle.block_layout.proofs.Filling.{begun}
use Rattle.block_layout.proofs.Rooms.{above_more}
use Rattle.block_layout.proofs.Spreading.{are_rooms, spread_begun, spread_more, right_program, right_same, right_forward}
use Rattle.block_layout.proofs.spread.spread.Goals as goal

pub spot-requires-clause-rooms : goal.spot-requires-clause-rooms
spot-requires-clause-rooms c = are_rooms (program_of c.args.words.now) c.args.ranks.now c.args.rooms.now c.requires.ranks.1.long (omega arith) c.requires.rooms

pub jump-requires-clause-few : goal.jump-requires-clause-few
jump-requires-clause-few c =
    let more = above_more c.args.ranks.now c.args.rooms.now (slice_index c.args.ranks.now 0) 0 (omega arith) in
    let is = c.spot.ensures in
    let fits = c.requires.fits in
    omega arith

pub ranks-init : goal.ranks-init
ranks-init c =
    let filled : Filled c.new-bytes.result.items 0 = subst (λ (l : List ℕ). Filled l 0) (sym c.new-bytes.ensures.items) begun in
    let leads = c.jump.ensures.leads in
    let added = c.in_ok-push.ensures 0 c.jump.ensures.forward filled in
    spread_begun (program_of c.args.words.now) c.args.ranks.now c.args.rooms.now c.new-bytes.result.items c.push.new.bytes.items c.requires.ranks.0 (length c.args.ranks.now) leads.0 c.requires.ranks.1 refl
    (subst (λ (i : Insn). Added c.new-bytes.result.items c.push.new.bytes.items 0 i) leads.1 added)
    (subst (λ (k : ℕ). IsAway 0 leads.0 k) c.spot.ensures leads.2)

pub ranks-preserved : goal.ranks-preserved
ranks-preserved c =
    spread_more (program_of c.args.words.now) c.args.ranks.now c.args.rooms.now c.ranks.bytes.items c.push_rank.new.bytes.items c.ranks.rank (c.ranks.rank - 1) (omega arith) c.ranks.invariant
    (c.in_ok-push_rank.ensures (c.ranks.rank - 1) (omega arith) c.ranks.invariant.filled)

pub returns-clause-program : goal.returns-clause-program
returns-clause-program c =
    right_program c.args.words.now c.ranks.bytes.items c.args.ranks.now c.args.rooms.now c.requires.ranks.0 c.ranks.rank c.len-count.ensures.sound c.requires.connected c.requires.ranks.1 c.requires.rooms c.requires.fits c.requires.first (omega arith) c.ranks.invariant

pub returns-clause-same : goal.returns-clause-same
returns-clause-same c =
    right_same c.args.words.now c.ranks.bytes.items c.args.ranks.now c.args.rooms.now c.requires.ranks.0 c.ranks.rank c.len-count.ensures.sound c.requires.connected c.requires.ranks.1 c.requires.rooms c.requires.fits c.requires.first (omega arith) c.ranks.invariant

pub returns-clause-forward : goal.returns-clause-forward
returns-clause-forward c =
    right_forward c.args.words.now c.ranks.bytes.items c.args.ranks.now c.args.rooms.now c.requires.ranks.0 c.ranks.rank c.len-count.ensures.sound c.requires.connected c.requires.ranks.1 c.requires.rooms c.requires.fits c.requires.first (omega arith) c.ranks.invariant
