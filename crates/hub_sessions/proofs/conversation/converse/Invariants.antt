use Rattle.std.proofs.Common.{◌≡◌}
use Rattle.hub_sessions.specs.Sessions.{session_state, Converses}
use Rattle.hub_sessions.proofs.conversation.converse.Given as goal

abbrev pub invariant-loop : goal.invariant-loop
invariant-loop g l =
    (goal.iterator-loop g).can_next l.iterator' × (goal.iterator-loop g).is_finite l.iterator' × (g.K.Keeper.stores l.keeper ≡ g.K.Keeper.stores l.initial.keeper)
    × Converses (session_state g.N.Naming.size g.K.Keeper.kept (g.K.Keeper.stores l.initial.keeper) l.initial.share l.initial.held.items l.initial.left l.hub.options) l.initial.lines.left (g.O.Write.contents l.initial.writer)
    (session_state g.N.Naming.size g.K.Keeper.kept (g.K.Keeper.stores l.keeper) l.share l.held.items l.left l.hub.options) l.lines.left (g.O.Write.contents l.writer)
