use Rattle.std.proofs.Common.{rules, ◌≡◌, [], None, sym, subst}
use Rattle.ingest_workers.proofs.Calls.{makes_look, makes_then, was_after, was_looked}
use Rattle.session_subscribers.specs.Holding.{IsFirst}
use Rattle.session_subscribers.proofs.session_hub.SessionHub.first_version.Goals as goal

pub returns-in_default-clause-ok : goal.returns-in_default-clause-ok
returns-in_default-clause-ok g c =
    let size = g.N.Naming.size in
    let none : c.args.named ≡ None = search rules in
    let before = makes_look size c.args.share.now c.is_full.new.share _ c.is_full.ensures in
    let look = c.latest.ensures in (
      subst (λ n. IsFirst size c.args.share.now c.latest.new.share n c.latest.result) (sym none)
          (was_after size c.args.share.now c.is_full.new.share c.latest.new.share [] _ before (was_looked size c.is_full.new.share c.latest.new.share _ look)),
      makes_then size c.args.share.now c.is_full.new.share c.latest.new.share [] [] before (makes_look size c.is_full.new.share c.latest.new.share _ look),
    )
