use Rattle.std.proofs.Common.{rules, ◌+◌, refl}
use Rattle.feeds.proofs.Reuse.{alike_more}
use Rattle.feeds.proofs.Walking.{AreKept, alike_here, left_on}
use Rattle.feeds.proofs.stretch.alike_front.Goals as goal

pub loop-front-preserved : goal.loop-front-preserved
loop-front-preserved c =
    let inv = c.loop-front.invariant in
    let next = c.are_next_alike.ensures in
    let older : AreKept c.args.older.now = record { maximal = c.keeps.ensures.maximal; short = c.keeps.ensures.short } in
    let newer : AreKept c.args.newer.now = record { maximal = c.keeps-2.ensures.maximal; short = c.keeps-2.ensures.short } in
    record {
      few = search rules;
      one = left_on c.args.older.now c.loop-front.front (c.loop-front.front + 1) c.loop-front.one c.are_next_alike.new.older inv.one next.older refl;
      other = left_on c.args.newer.now c.loop-front.front (c.loop-front.front + 1) c.loop-front.other c.are_next_alike.new.newer inv.other next.newer refl;
      alike = alike_more c.args.older.now c.args.newer.now c.loop-front.front inv.alike
          (alike_here c.args.older.now c.args.newer.now c.loop-front.front c.loop-front.front c.loop-front.one c.loop-front.other older newer inv.one inv.other (next.alike (search rules)));
    }
