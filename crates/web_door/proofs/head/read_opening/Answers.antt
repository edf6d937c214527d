use Rattle.std.proofs.Common.{Some, sym, subst, inl}
use Rattle.std.proofs.KnownBytes.{Consumes-trans}
use Rattle.std.specs.Io.KnownBytes.{Consumes}
use Rattle.web_door.specs.Request.{IsOpenedBy}
use Rattle.web_door.proofs.head.read_opening.Goals as goal

pub returns-in-Some : goal.returns-in-Some
returns-in-Some g c =
    let remaining = g.R.Read.remaining in
    let text = g.S.AsStr.text in
    let more = c.in_ok-read_more.ensures in (
      c.read_more.new.read.items,
      subst (λ bytes. Consumes (remaining c.args.reader.now) (remaining c.read_more.new.reader) bytes) (sym more.2)
          (Consumes-trans (remaining c.args.reader.now) (remaining c.loop.reader) (remaining c.read_more.new.reader)
          c.loop.read.items more.0 c.loop.invariant more.1),
      inl (subst (λ bytes. IsOpenedBy text c.args.origins.now bytes (Some c.in-Some.opening)) c.deref.ensures.value
          (subst (λ found. IsOpenedBy text c.args.origins.now c.deref.result.now found) c.in-Some.is c.in_ok-opening.ensures)),
    )
