use Rattle.std.proofs.Common.{◌≡◌, ◌+◌, ◌<◌, None, length, subst, sym, true≢false, arith}
use Rattle.memchr.specs.Find.{FindsNeedle}
use Rattle.web_door.proofs.tags.occurs.Goals as goal

-- a place is within the bytes where it was looked for
pub returns-in-None : goal.returns-in-None
returns-in-None c =
    let nowhere = subst (FindsNeedle c.args.value.now c.args.tag.now 0) c.in-None.is c.find.ensures in
    (λ is. absurd (true≢false (sym is)), λ found. absurd (nowhere found.0 (omega arith) (omega (arith, found.1.fits)) found.1))
