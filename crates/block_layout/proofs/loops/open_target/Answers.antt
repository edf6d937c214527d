use Rattle.std.proofs.Common.{sym, rules}
use Rattle.block_layout.specs.Loops.{IsAway}
use Rattle.block_layout.specs.Ranks.{HasNone}
use Rattle.block_layout.proofs.Leading.{target_ranked}
use Rattle.block_layout.proofs.loops.open_target.Goals as goal

pub returns-else-is_open : goal.returns-else-is_open
returns-else-is_open c =
    let not : HasNone c.args.ranks.now c.in_ok-to.to → ⊥ = λ none. search rules in
    let away : IsAway c.args.slot c.in_ok-distance.distance c.in_ok-to.to = search rules in
    target_ranked c.args.ranks.now c.args.slot c.args.insn.now c.in_ok-distance.distance c.in_ok-to.to (sym c.in_ok-distance.ensures) away c.requires.sound not
