use Rattle.std.proofs.Common.{ℕ, List, ◌++◌, subst, sym}
use Rattle.hub_commands.specs.ChangesInput.{Holds}
use Rattle.hub_commands.proofs.ReadingChanges.{on_ok, pushed}
use Rattle.hub_commands.proofs.changes_input.ChangesInputGather.push_piece.Goals as goal

pub returns : goal.returns
returns c =
    let self = c.args.self.now in
    let piece = c.args.piece.now in
    on_ok _ _ c.read_lines.result c.read_lines.ensures (λ step size input kept.
    let P : List ℕ → Type 0 = λ l. Holds self.history.size (input ++ piece) self.history.changes l self.fault in
    step size (input ++ piece) (record {
      of = kept.of;
      front = c.in_ok-keep.ensures input kept.front;
      held = subst P (sym c.in_ok-append.ensures) (pushed self.history.size input self.left.items piece self.history.changes self.fault kept.held);
    }))
