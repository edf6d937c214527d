use Rattle.std.proofs.Common.{◌≡◌, ◌+◌, ◌-◌, ◌∙◌, suc, Some, None, sym, arith}
use Rattle.bpf_words.specs.Words.{program_of}
use Rattle.need_trails.proofs.Going.{distance_met, distance_on, distance_last, some_below}
use Rattle.need_trails.proofs.distance.distance_between.Goals as goal

pub returns-then-is_same_place : goal.returns-then-is_same_place
returns-then-is_same_place c =
    let more : c.args.slot - c.loop-step._step ≡ suc (c.args.slot - (c.loop-step._step + 1)) = omega (arith, c.loop-step-test.true) in
    c.apart.ensures
    ∙ distance_met c.args.knowledge.now.profile (program_of c.args.knowledge.now.words.now) (c.args.slot - (c.loop-step._step + 1)) (c.args.slot - c.loop-step._step) c.loop-step.pair c.is_same_place.result _ more c.is_same_place.ensures c.if-is_same_place.true c.loop-step.invariant.same

pub loop-step-preserved : goal.loop-step-preserved
loop-step-preserved c =
    let more : c.args.slot - c.loop-step._step ≡ suc (c.args.slot - (c.loop-step._step + 1)) = omega (arith, c.loop-step-test.true) in
    let less = some_below c.in_ok-earlier.earlier c.in-Some.before c.loop-step.pair.slot c.in_ok-earlier.ensures.below c.in-Some.is in
    record {
      same = distance_on c.args.knowledge.now.profile (program_of c.args.knowledge.now.words.now) (c.args.slot - (c.loop-step._step + 1)) (c.args.slot - c.loop-step._step) c.loop-step.pair c.is_same_place.result (Some c.in-Some.before) _ more c.is_same_place.ensures c.if-is_same_place.false (sym c.in-Some.is ∙ c.in_ok-earlier.ensures.value) c.loop-step.invariant.same;
      within = omega (arith, less, c.loop-step.invariant.within);
    }

pub returns-in-None : goal.returns-in-None
returns-in-None c =
    let more : c.args.slot - c.loop-step._step ≡ suc (c.args.slot - (c.loop-step._step + 1)) = omega (arith, c.loop-step-test.true) in
    distance_on c.args.knowledge.now.profile (program_of c.args.knowledge.now.words.now) (c.args.slot - (c.loop-step._step + 1)) (c.args.slot - c.loop-step._step) c.loop-step.pair c.is_same_place.result None _ more c.is_same_place.ensures c.if-is_same_place.false (sym c.in-None.is ∙ c.in_ok-earlier.ensures.value) c.loop-step.invariant.same

pub returns : goal.returns
returns c =
    let none : c.args.slot - c.loop-step._step ≡ 0 = omega (arith, c.loop-step-test.false) in
    c.met.ensures
    ∙ distance_last c.args.knowledge.now.profile (program_of c.args.knowledge.now.words.now) (c.args.slot - c.loop-step._step) c.loop-step.pair _ none c.loop-step.invariant.same
