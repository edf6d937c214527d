use Rattle.std.proofs.Common.{subst}
use Rattle.feeds.proofs.Standing.{stretch_stands}
use Rattle.feeds.proofs.Walking.{AreKept}
use Rattle.feeds.proofs.stretch.known_alike.Goals as goal

pub returns : goal.returns
returns g c =
    let before : AreKept c.look-before.result.now = record { maximal = c.keeps.ensures.maximal; short = c.keeps.ensures.short } in
    let after : AreKept c.look-after.result.now = record { maximal = c.keeps-2.ensures.maximal; short = c.keeps-2.ensures.short } in
    stretch_stands c.args.older.now.value c.args.newer.now.value c.in-Some.alike.front c.in-Some.alike.behind (subst AreKept c.look-before.ensures before)
    (subst AreKept c.look-after.ensures after) c.keeps_links.ensures c.keeps_links-2.ensures c.in-Some.ensures
