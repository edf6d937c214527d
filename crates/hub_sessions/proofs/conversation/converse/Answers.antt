use Rattle.std.proofs.Common.{rules, ◌∙◌, ◌++◌, inl, subst, string_bytes}
use Rattle.std.specs.Io.KnownBytes.{Appends}
use Rattle.hub_sessions.specs.Sessions.{SessionState, session_state, read_in}
use Rattle.hub_sessions.proofs.Conversing.{turned, ended, unread, broke, unfinished, write_failed, read_failed}
use Rattle.hub_sessions.proofs.conversation.converse.Goals as goal

pub returns-in_err-write_reply-clause-ends : goal.returns-in_err-write_reply-clause-ends
returns-in_err-write_reply-clause-ends g c =
    let before : SessionState g.N.Naming.size g.K.Keeper.kept = session_state g.N.Naming.size g.K.Keeper.kept (g.K.Keeper.stores c.loop.keeper) c.loop.share c.loop.held.items c.loop.left c.args.hub.now.options in
    let after : SessionState g.N.Naming.size g.K.Keeper.kept = session_state g.N.Naming.size g.K.Keeper.kept (g.K.Keeper.stores c.take_turn-turn.new.keeper) c.take_turn-turn.new.share c.take_turn-turn.new.held.items c.take_turn-turn.new.left c.args.hub.now.options in
    let made = unread c.take_turn-turn.result before c.loop.lines.left (string_bytes c.take_turn-turn.new.out) after c.take_turn-turn.new.lines.left c.take_turn-turn.ensures.ok c.take_turn-turn.ensures.err in
    write_failed c.from_residual.result c.in_err-write_reply.field-0.0 _ _ _ before _ _ after _ c.loop.invariant.3 made c.from_residual.ensures.1 c.in_err-write_reply.ensures.err

pub loop-preserved-in-Ok-More : goal.loop-preserved-in-Ok-More
loop-preserved-in-Ok-More g c =
    let before : SessionState g.N.Naming.size g.K.Keeper.kept = session_state g.N.Naming.size g.K.Keeper.kept (g.K.Keeper.stores c.loop.keeper) c.loop.share c.loop.held.items c.loop.left c.args.hub.now.options in
    let after : SessionState g.N.Naming.size g.K.Keeper.kept = session_state g.N.Naming.size g.K.Keeper.kept (g.K.Keeper.stores c.take_turn-turn.new.keeper) c.take_turn-turn.new.share c.take_turn-turn.new.held.items c.take_turn-turn.new.left c.args.hub.now.options in
    let wrote = subst (λ l. Appends (g.O.Write.contents c.loop.writer) (g.O.Write.contents c.write_reply.new.writer) (read_in c.take_turn-turn.result ++ l)) c.as_str.ensures.value c.in_ok-write_reply.ensures.ok in (
      tt,
      tt,
      c.take_turn-turn.ensures.same ∙ c.loop.invariant.2,
      turned _ _ _ before _ _ c.take_turn-turn.result c.in-Ok-More.field-0-0 (string_bytes c.take_turn-turn.new.out) after _ _ c.loop.invariant.3 (search rules) c.take_turn-turn.ensures.ok wrote,
    )

pub loop-preserved-in-Ok-More-2 : goal.loop-preserved-in-Ok-More-2
loop-preserved-in-Ok-More-2 g c =
    let before : SessionState g.N.Naming.size g.K.Keeper.kept = session_state g.N.Naming.size g.K.Keeper.kept (g.K.Keeper.stores c.loop.keeper) c.loop.share c.loop.held.items c.loop.left c.args.hub.now.options in
    let after : SessionState g.N.Naming.size g.K.Keeper.kept = session_state g.N.Naming.size g.K.Keeper.kept (g.K.Keeper.stores c.take_turn-turn.new.keeper) c.take_turn-turn.new.share c.take_turn-turn.new.held.items c.take_turn-turn.new.left c.args.hub.now.options in
    let wrote = subst (λ l. Appends (g.O.Write.contents c.loop.writer) (g.O.Write.contents c.write_reply.new.writer) (read_in c.take_turn-turn.result ++ l)) c.as_str.ensures.value c.in_ok-write_reply.ensures.ok in (
      tt,
      tt,
      c.take_turn-turn.ensures.same ∙ c.loop.invariant.2,
      turned _ _ _ before _ _ c.take_turn-turn.result c.in-Ok-More.field-0-0 (string_bytes c.take_turn-turn.new.out) after _ _ c.loop.invariant.3 (search rules) c.take_turn-turn.ensures.ok wrote,
    )

pub returns-in-Ok-Last-clause-ends : goal.returns-in-Ok-Last-clause-ends
returns-in-Ok-Last-clause-ends g c =
    let before : SessionState g.N.Naming.size g.K.Keeper.kept = session_state g.N.Naming.size g.K.Keeper.kept (g.K.Keeper.stores c.loop.keeper) c.loop.share c.loop.held.items c.loop.left c.args.hub.now.options in
    let after : SessionState g.N.Naming.size g.K.Keeper.kept = session_state g.N.Naming.size g.K.Keeper.kept (g.K.Keeper.stores c.take_turn-turn.new.keeper) c.take_turn-turn.new.share c.take_turn-turn.new.held.items c.take_turn-turn.new.left c.args.hub.now.options in
    let wrote = subst (λ l. Appends (g.O.Write.contents c.loop.writer) (g.O.Write.contents c.write_reply.new.writer) (read_in c.take_turn-turn.result ++ l)) c.as_str.ensures.value c.in_ok-write_reply.ensures.ok in
    inl (ended _ _ _ before _ _ c.take_turn-turn.result (string_bytes c.take_turn-turn.new.out) after _ _ c.loop.invariant.3 (search rules) c.take_turn-turn.ensures.ok wrote)

pub returns-in-Err-Read-clause-ends : goal.returns-in-Err-Read-clause-ends
returns-in-Err-Read-clause-ends g c =
    let before : SessionState g.N.Naming.size g.K.Keeper.kept = session_state g.N.Naming.size g.K.Keeper.kept (g.K.Keeper.stores c.loop.keeper) c.loop.share c.loop.held.items c.loop.left c.args.hub.now.options in
    let after : SessionState g.N.Naming.size g.K.Keeper.kept = session_state g.N.Naming.size g.K.Keeper.kept (g.K.Keeper.stores c.take_turn-turn.new.keeper) c.take_turn-turn.new.share c.take_turn-turn.new.held.items c.take_turn-turn.new.left c.args.hub.now.options in
    let wrote = subst (λ l. Appends (g.O.Write.contents c.loop.writer) (g.O.Write.contents c.write_reply.new.writer) (read_in c.take_turn-turn.result ++ l)) c.as_str.ensures.value c.in_ok-write_reply.ensures.ok in
    read_failed c.take_turn-turn.result c.in-Err-Read.error _ _ _ before _ _ (string_bytes c.take_turn-turn.new.out) after _ _ c.loop.invariant.3 (search rules) c.take_turn-turn.ensures.err wrote

pub returns-in-Err-Memory-clause-ends : goal.returns-in-Err-Memory-clause-ends
returns-in-Err-Memory-clause-ends g c =
    let before : SessionState g.N.Naming.size g.K.Keeper.kept = session_state g.N.Naming.size g.K.Keeper.kept (g.K.Keeper.stores c.loop.keeper) c.loop.share c.loop.held.items c.loop.left c.args.hub.now.options in
    let after : SessionState g.N.Naming.size g.K.Keeper.kept = session_state g.N.Naming.size g.K.Keeper.kept (g.K.Keeper.stores c.take_turn-turn.new.keeper) c.take_turn-turn.new.share c.take_turn-turn.new.held.items c.take_turn-turn.new.left c.args.hub.now.options in
    let wrote = subst (λ l. Appends (g.O.Write.contents c.loop.writer) (g.O.Write.contents c.write_reply.new.writer) (read_in c.take_turn-turn.result ++ l)) c.as_str.ensures.value c.in_ok-write_reply.ensures.ok in
    let met = broke c.take_turn-turn.result before c.loop.lines.left (string_bytes c.take_turn-turn.new.out) after _ _ _ (search rules) c.take_turn-turn.ensures.err wrote in
    unfinished _ _ _ _ before _ _ _ after _ _ _ c.loop.invariant.3 met.0 met.1 c.write_no_memory.ensures.ok c.write_no_memory.ensures.err
