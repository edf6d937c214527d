use Rattle.std.proofs.Common.{sym, subst, arith}
use Rattle.std.specs.Prelude.{All}
use Rattle.std.proofs.lemmas.List.Elements.{All-push}
use Rattle.hub_doors.specs.Serving.{IsOfSessions}
use Rattle.hub_doors.proofs.Served.{parts_of_all}
use Rattle.hub_doors.proofs.common.Common.end.Goals as goal

pub loop-place-preserved-in-Some-place : goal.loop-place-preserved-in-Some-place
loop-place-preserved-in-Some-place g c = record {
  room = omega (arith, c.push_reserved.ensures.len, c.push_reserved.ensures.capacity, c.in-Some.ensures, c.loop-place.invariant.room);
  sessions = subst (All (IsOfSessions g.N.Naming.size g.N.Keeping.kept)) (sym c.push_reserved.ensures.items)
      (All-push (IsOfSessions g.N.Naming.size g.N.Keeping.kept) c.loop-place.back.items c.into_share.result c.loop-place.invariant.sessions c.into_share.ensures.sessions);
}

-- each share has one part
pub settle-count-requires : goal.settle-count-requires
settle-count-requires g c =
    omega (arith, parts_of_all g.N.Naming.size g.N.Keeping.kept c.loop-place.back.items c.loop-place.invariant.sessions, c.loop-place.back.ok.0, c.len.ensures, c.requires)
