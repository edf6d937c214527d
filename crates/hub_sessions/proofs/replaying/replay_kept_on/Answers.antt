use Rattle.std.proofs.Common.{◌≡◌, true, length, vec_len, sym, ◌∙◌, rules}
use Rattle.change_keeping.specs.Kept.{some_log}
use Rattle.ingest_workers.specs.Holdings.{IsIdle}
use Rattle.hub_sessions.specs.Sessions.{begins}
use Rattle.hub_sessions.proofs.Making.{then_made, ingested_make, session_makes}
use Rattle.hub_sessions.proofs.Replayed.{one_idle, parts_of_one, replayed}
use Rattle.hub_sessions.proofs.replaying.replay_kept_on.Goals as goal

pub settle-count-requires : goal.settle-count-requires
settle-count-requires g c =
    let size = g.N.Naming.size in
    let shares = c.in-Ok.shares in
    let v = c.index_mut-share.result.now in
    let u = c.restore.new.share in
    let w = c.session-ended.new.share in
    let kept = g.N.Keeping.kept in
    let len : vec_len shares ≡ length shares.items = search rules in
    let one : length shares.items ≡ 1 = sym len ∙ c.in-Ok.ensures.0 in
    let idle : IsIdle size v = one_idle size shares.items v one c.in-Ok.ensures.1 c.index_mut-share.ensures.value in
    let began = ingested_make size v c.in-Ok-restore.stored.changes u c.in-Ok-restore.ensures.restored.0 in
    let made = session_makes size (some_log kept.size g.L.ChangeLog.kept) c.session-ended.result (begins size (some_log kept.size g.L.ChangeLog.kept) true u c.args.options) (g.I.Read.remaining c.args.reader) (g.O.Write.contents c.args.writer.now) w (g.O.Write.contents c.session-ended.new.writer) c.session-ended.ensures.session in
    parts_of_one size shares.items v w g.N.Ledger.parts one idle (then_made size v u w began made) c.requires.start.3

pub returns-clause-ok : goal.returns-clause-ok
returns-clause-ok g c =
    let size = g.N.Naming.size in
    let shares = c.in-Ok.shares in
    let v = c.index_mut-share.result.now in
    let restored = c.in-Ok-restore.ensures.restored in
    let len : vec_len shares ≡ length shares.items = search rules in
    let one : length shares.items ≡ 1 = sym len ∙ c.in-Ok.ensures.0 in
    let idle : IsIdle size v = one_idle size shares.items v one c.in-Ok.ensures.1 c.index_mut-share.ensures.value in
    replayed c.args.size size g.N.Keeping.kept.size g.L.ChangeLog.kept c.args.options c.session-ended.result (g.I.Read.remaining c.args.reader) (g.O.Write.contents c.args.writer.now) (g.O.Write.contents c.session-ended.new.writer) c.in-Ok-restore.stored.changes c.in-Ok-restore.stored.log shares.items v c.restore.new.share
    c.session-ended.new.share c.settle-count.ensures.0 c.settle-count.result c.requires.named.0 c.requires.kept one idle restored.0 restored.1 restored.2 c.session-ended.ensures.session c.settle-count.ensures.1
