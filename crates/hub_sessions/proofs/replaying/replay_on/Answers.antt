use Rattle.std.proofs.Common.{◌≡◌, false, Ok, Err, length, vec_len, sym, ◌∙◌, rules}
use Rattle.change_ops.specs.declared.size.Size.TheVariants.{Small}
use Rattle.change_keeping.specs.Kept.{none_kept}
use Rattle.ingest_workers.specs.Holdings.{IsIdle}
use Rattle.hub_sessions.specs.Sessions.{begins, IsSession}
use Rattle.hub_sessions.proofs.Making.{session_makes}
use Rattle.hub_sessions.proofs.Replayed.{one_idle, parts_of_one, whole}
use Rattle.hub_sessions.proofs.replaying.replay_on.Goals as goal

pub settle-count-requires : goal.settle-count-requires
settle-count-requires g c =
    let size = g.N.Naming.size in
    let shares = c.in_ok-hub.shares in
    let v = c.index_mut-share.result.now in
    let w = c.session-ended.new.share in
    let len : vec_len shares ≡ length shares.items = search rules in
    let one : length shares.items ≡ 1 = sym len ∙ c.in_ok-hub.ensures.0 in
    let idle : IsIdle size v = one_idle size shares.items v one c.in_ok-hub.ensures.1 c.index_mut-share.ensures.value in
    let made = session_makes size (none_kept Small) c.session-ended.result (begins size (none_kept Small) false v c.args.options) (g.I.Read.remaining c.args.reader) (g.O.Write.contents c.args.writer.now) w (g.O.Write.contents c.session-ended.new.writer) c.session-ended.ensures.session in
    parts_of_one size shares.items v w g.N.Ledger.parts one idle made c.requires.start.3

pub returns-in-Ok : goal.returns-in-Ok
returns-in-Ok g c =
    let size = g.N.Naming.size in
    let shares = c.in_ok-hub.shares in
    let v = c.index_mut-share.result.now in
    let len : vec_len shares ≡ length shares.items = search rules in
    let one : length shares.items ≡ 1 = sym len ∙ c.in_ok-hub.ensures.0 in
    let idle : IsIdle size v = one_idle size shares.items v one c.in_ok-hub.ensures.1 c.index_mut-share.ensures.value in
    whole c.args.size size (λ z x y. IsSession (Ok tt) (begins z (none_kept Small) false x c.args.options) (g.I.Read.remaining c.args.reader) (g.O.Write.contents c.args.writer.now) y (g.O.Write.contents c.session-ended.new.writer)) shares.items v c.session-ended.new.share c.settle-count.ensures.0 c.settle-count.result
    c.requires.named.0 one idle c.in-Ok.ensures.session c.settle-count.ensures.1

pub returns-in-Err : goal.returns-in-Err
returns-in-Err g c =
    let size = g.N.Naming.size in
    let shares = c.in_ok-hub.shares in
    let v = c.index_mut-share.result.now in
    let len : vec_len shares ≡ length shares.items = search rules in
    let one : length shares.items ≡ 1 = sym len ∙ c.in_ok-hub.ensures.0 in
    let idle : IsIdle size v = one_idle size shares.items v one c.in_ok-hub.ensures.1 c.index_mut-share.ensures.value in
    whole c.args.size size (λ z x y. IsSession (Err c.in-Err.fault) (begins z (none_kept Small) false x c.args.options) (g.I.Read.remaining c.args.reader) (g.O.Write.contents c.args.writer.now) y (g.O.Write.contents c.session-ended.new.writer)) shares.items v c.session-ended.new.share c.settle-count.ensures.0 c.settle-count.result
    c.requires.named.0 one idle c.in-Err.ensures.session c.settle-count.ensures.1
