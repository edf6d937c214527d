use Rattle.std.proofs.Common.{◌≡◌, ◌-◌, ◌<◌, ◌≤◌, Some, length, sym, ◌∙◌, subst, refl, arith, ltb-true, leb-true, le-leb}
use Rattle.std.specs.List.{slice_get, Contains}
use Rattle.std.proofs.lemmas.Option.{same_Some, slice_get_read}
use Rattle.removal_runs.specs.Apart.{HaveBegun}
use Rattle.removal_runs.specs.IdSets.{PeerCounters, begin_of_range}
use Rattle.removal_runs.specs.declared.peer_ranges.Range.{Range}
use Rattle.removal_runs.proofs.RangeLists.{StandsAt, stands_at, stands_there}
use Rattle.removal_runs.proofs.peer_ranges.PeerRanges.has.Goals as goal

pub returns-then-begun-gt0 : goal.returns-then-begun-gt0
returns-then-begun-gt0 c =
    let ranges = c.self.inside.ranges.items in
    let begun = c.begun_by-begun.result in
    let range = c.index.result.now in
    let begins : HaveBegun begin_of_range ranges c.args.counter begun = subst (λ z. HaveBegun begin_of_range z c.args.counter begun) c.deref.ensures.value c.begun_by-begun.ensures in
    let less : begun - 1 < length ranges = omega (arith, begins.within, c.if-begun-gt0.true) in
    let at : slice_get ranges (begun - 1) ≡ Some range = slice_get_read ranges (length ranges) (begun - 1) range refl less c.index.ensures in (
      λ test.
          subst (λ (v : PeerCounters). Contains v.counters c.args.counter) c.self.view_is
          (stands_there ranges c.args.counter begun range begins (omega (arith, c.if-begun-gt0.true)) at (leb-true c.args.counter range.last test)),
      λ has.
          let stands : StandsAt ranges c.args.counter begun = stands_at ranges c.args.counter begun c.self.invariant begins (subst (λ (v : PeerCounters). Contains v.counters c.args.counter) (sym c.self.view_is) has) in
          le-leb c.args.counter range.last (subst (λ (z : Range). c.args.counter ≤ z.last) (same_Some stands.range range (sym stands.at ∙ at)) stands.to),
    )

pub returns-else-begun-gt0 : goal.returns-else-begun-gt0
returns-else-begun-gt0 c =
    let ranges = c.self.inside.ranges.items in
    let begun = c.begun_by-begun.result in
    let begins : HaveBegun begin_of_range ranges c.args.counter begun = subst (λ z. HaveBegun begin_of_range z c.args.counter begun) c.deref.ensures.value c.begun_by-begun.ensures in (
      λ test. let some : 0 < begun = ltb-true 0 begun test in absurd (omega (arith, c.if-begun-gt0.false)),
      λ has.
          let stands : StandsAt ranges c.args.counter begun = stands_at ranges c.args.counter begun c.self.invariant begins (subst (λ (v : PeerCounters). Contains v.counters c.args.counter) (sym c.self.view_is) has) in
          absurd (omega (arith, stands.some, c.if-begun-gt0.false)),
    )
