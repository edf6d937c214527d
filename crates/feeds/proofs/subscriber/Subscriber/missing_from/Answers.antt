use Rattle.std.proofs.Common.{◌≡◌, ◌≤◌, ◌<◌, ◌-◌, ◌+◌, get_or, below_more, arith, ap, subst, ⊎_elim}
use Rattle.std.proofs.lemmas.Bool.{cases_lt}
use Rattle.feeds.specs.Feed.{Subscriber, IsDue}
use Rattle.feeds.proofs.Feeding.{held_skipped, none_missing}
use Rattle.feeds.proofs.subscriber.Subscriber.missing_from.Goals as goal

pub returns-then-is_none : goal.returns-then-is_none
returns-then-is_none g c =
    let cursor : c.self.inside.cursor ≡ c.args.self.now.cursor = ap (λ (z : Subscriber g.row.S.Denot). z.cursor) c.self.view_is in
    let low : c.args.self.now.cursor ≤ c.loop-number.number = omega arith in
    let near : c.loop-number.number ≤ c.args.self.now.cursor + 7 = omega arith in
    record {
      due = record {
        above_handed = omega arith;
        above_cursor = low;
        published = omega arith;
        near = near;
        missing = none_missing c.args.latest c.args.self.now c.loop-number.number c.index.result.now c.requires.wide low near
            (subst (λ (z : Subscriber g.row.S.Denot). c.index.result.now ≡ get_or z.held (c.loop-number.number - z.cursor) c.index.result.now) c.self.view_is c.index.ensures)
            c.if-is_none.ensures;
      };
      least = c.loop-number.invariant;
    }

pub loop-number-preserved : goal.loop-number-preserved
loop-number-preserved g c =
    let cursor : c.self.inside.cursor ≡ c.args.self.now.cursor = ap (λ (z : Subscriber g.row.S.Denot). z.cursor) c.self.view_is in
    let low : c.args.self.now.cursor ≤ c.loop-number.number = omega arith in
    let near : c.loop-number.number ≤ c.args.self.now.cursor + 7 = omega arith in
    below_more (λ m. IsDue c.args.latest (record c.args.self.now { handed = c.args.handed }) m → ⊥) c.loop-number.number c.loop-number.invariant
    (held_skipped c.args.latest (record c.args.self.now { handed = c.args.handed }) c.loop-number.number c.index.result.now c.requires.wide low near
    (subst (λ (z : Subscriber g.row.S.Denot). c.index.result.now ≡ get_or z.held (c.loop-number.number - z.cursor) c.index.result.now) c.self.view_is c.index.ensures)
    c.if-is_none.ensures)

pub returns : goal.returns
returns g c =
    let cursor : c.self.inside.cursor ≡ c.args.self.now.cursor = ap (λ (z : Subscriber g.row.S.Denot). z.cursor) c.self.view_is in
    λ n due.
    let published = due.published in
    let near = due.near in
    ⊎_elim (λ (l : n < c.loop-number.number). c.loop-number.invariant n l due) (λ (h : c.loop-number.number ≤ n). absurd (omega arith)) (cases_lt n c.loop-number.number)
