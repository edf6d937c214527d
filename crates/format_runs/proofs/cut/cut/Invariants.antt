use Rattle.std.proofs.Common.{◌≡◌, ◌<◌, ◌≤◌, ◌+◌, ◌-◌, ◌*◌, All, length, take, drop}
use Rattle.std.specs.Vec.Iter.{into_iter_items}
use Rattle.piece_tree.specs.Nodes.{pieces_of}
use Rattle.format_runs.proofs.cut.cut.Given as goal

abbrev pub invariant-loop-at : goal.invariant-loop-at
invariant-loop-at l = record {
  rest : into_iter_items l.left ≡ drop l.at (into_iter_items l.initial.left);
  within : l.at ≤ length (into_iter_items l.initial.left);
  flat : pieces_of l.pieces.items ≡ take l.at (into_iter_items l.initial.left);
  filled : All (λ piece. 0 < length piece) l.pieces.items;
  small : All (λ piece. length piece ≤ 48) l.pieces.items;
  few : l.at < length (into_iter_items l.initial.left) → 16 * length l.pieces.items ≤ l.at;
  few_all : 16 * length l.pieces.items < l.at + 16;
  spent : l.initial.budget ≤ l.budget + (96 * length l.pieces.items + 16 * l.at);
  less : l.budget ≤ l.initial.budget;
}

abbrev pub decreases-loop-at : goal.decreases-loop-at
decreases-loop-at l = length (into_iter_items l.initial.left) - l.at
