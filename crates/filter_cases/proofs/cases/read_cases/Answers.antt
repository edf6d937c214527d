use Rattle.std.proofs.Common.{◌≢◌, [], Bool, arith, sym, subst, ◌∙◌}
use Rattle.std.specs.Prelude.{MatchBool}
use Rattle.filter_cases.specs.Cases.{Adds, IsNoCase}
use Rattle.filter_cases.proofs.LineByLine.{begins_none, begins_more, some_left, positive}
use Rattle.filter_cases.proofs.cases.read_cases.Goals as goal

pub loop-rest-init : goal.loop-rest-init
loop-rest-init c = record {
  begins = begins_none _ _ c.new-cases.ensures.items;
  counted = omega arith;
}

pub loop-rest-preserved : goal.loop-rest-preserved
loop-rest-preserved c =
    let some : c.loop-rest.rest.now ≢ [] = some_left c.loop-rest.rest.now (sym c.is_empty.ensures ∙ c.loop-rest-test.true) in
    let adds : Adds c.first_line.result.0.now c.loop-rest.number c.loop-rest.cases.items c.take_line.new.cases.items =
    subst (λ (b : Bool). MatchBool b (Adds c.first_line.result.0.now c.loop-rest.number c.loop-rest.cases.items c.take_line.new.cases.items) (IsNoCase c.first_line.result.0.now)) c.if-not-taken.false c.in_ok-taken.ensures in
    record {
      begins = begins_more _ c.loop-rest.rest.now _ _ _ _ c.loop-rest.number c.first_line.ensures.parts some adds c.loop-rest.invariant.begins;
      counted = omega (arith, c.loop-rest.invariant.counted, c.first_line.ensures.shorter (positive _ some));
    }
