use Rattle.std.proofs.Common.{◌≡◌, ◌+◌, ◌-◌, ◌<◌, ℕ, length, slice_index, set, ap, sym, subst, rules, arith}
use Rattle.std.proofs.lemmas.List.{get_or_read}
use Rattle.bpf_words.specs.Words.{program_of}
use Rattle.block_layout.specs.Ranks.{unranked, IsRound}
use Rattle.block_layout.proofs.Ranks.{unranked_set}
use Rattle.block_layout.proofs.Rounds.{walk_on, come_round}
use Rattle.block_layout.proofs.loops.walk_round.Goals as goal

pub slots-smaller : goal.slots-smaller
slots-smaller c =
    let long = c.slots.invariant.long in
    let within = c.slots.invariant.none.0 in
    let some = c.slots.invariant.some in
    let len : c.len-in-slots.result ≡ length c.slots.path.items = search rules in
    let none : slice_index c.slots.lengths.items c.slots.slot ≡ 0 = search rules in
    let fewer : unranked (set c.slots.lengths.items c.slots.slot c.len-in-slots.result) + 1 ≡ unranked c.slots.lengths.items =
    unranked_set c.slots.lengths.items c.slots.slot c.len-in-slots.result (omega arith) none (omega arith) in
    let less : unranked (set c.slots.lengths.items c.slots.slot c.len-in-slots.result) < unranked c.slots.lengths.items = omega arith in
    less

pub slots-preserved : goal.slots-preserved
slots-preserved c =
    let len : c.len-in-slots.result ≡ length c.slots.path.items = search rules in
    walk_on (program_of c.args.words.now) c.args.ranks.now c.slots.path.items c.push.new.self.items c.slots.lengths.items (set c.slots.lengths.items c.slots.slot c.len-in-slots.result) c.slots.slot c.in-Some.to
    c.slots.invariant c.in-Some.ensures.0 c.in-Some.ensures.1 c.in_ok-push.ensures.items (ap (λ (n : ℕ). set c.slots.lengths.items c.slots.slot n) len)

pub returns : goal.returns
returns c =
    let long = c.slots.invariant.long in
    let in_ranks = c.slots.invariant.none.0 in
    let within : c.slots.slot < length c.slots.lengths.items = omega arith in
    let first : c.index.result.now ≡ slice_index c.slots.lengths.items c.slots.slot = get_or_read c.slots.lengths.items c.slots.slot c.index.result.now within c.index.ensures 0 in
    let second : c.index-2.result.now ≡ slice_index c.slots.lengths.items c.slots.slot = get_or_read c.slots.lengths.items c.slots.slot c.index-2.result.now within c.index-2.ensures 0 in
    let was : 0 < c.index.result.now = search rules in
    let some : 0 < slice_index c.slots.lengths.items c.slots.slot = omega arith in
    subst (λ (n : ℕ). IsRound (program_of c.args.words.now) c.slots.path.items (n - 1)) (sym second) (come_round (program_of c.args.words.now) c.args.ranks.now c.slots.path.items c.slots.lengths.items c.slots.slot c.slots.invariant some)
