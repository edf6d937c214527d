use Rattle.std.proofs.Common.{◌≡◌, ◌+◌, ◌-◌, ◌∙◌, suc, ℕ, ap, length, arith}
use Rattle.bpf_words.specs.Words.{program_of}
use Rattle.refusal_needs.specs.declared.wanted.Wanted.{Wanted}
use Rattle.need_trails.specs.Trail.{trail_from}
use Rattle.need_trails.proofs.Going.{trail_same, trail_other, trail_ends, trail_out, ends_within, same_below, other_below}
use Rattle.need_trails.proofs.back.follow.Goals.{in-Same, in-Other}
use Rattle.need_trails.proofs.back.follow.Goals as goal

pub returns-in-Ends-clause-value : goal.returns-in-Ends-clause-value
returns-in-Ends-clause-value c =
    let more : c.args.slot - c.loop-step._step ≡ suc (c.args.slot - (c.loop-step._step + 1)) = omega (arith, c.loop-step-test.true) in
    trail_ends c.args.knowledge.now.profile (program_of c.args.knowledge.now.words.now) (c.args.slot - (c.loop-step._step + 1)) (c.args.slot - c.loop-step._step) c.loop-step.last c.loop-step.since c.loop-step.at c.in-Ends.end c.in_ok-back.back _ more c.in_ok-back.ensures.value c.in-Ends.is c.loop-step.invariant.same

pub returns-in-Ends-clause-within : goal.returns-in-Ends-clause-within
returns-in-Ends-clause-within c =
    ends_within c.loop-step.at (length c.args.knowledge.now.states.items) c.in_ok-back.back c.in-Ends.end (omega (arith, c.loop-step.invariant.within, c.requires.within)) c.in_ok-back.ensures.below c.in-Ends.is

pub loop-step-preserved : goal.loop-step-preserved
loop-step-preserved c =
    let profile = c.args.knowledge.now.profile in
    let program = program_of c.args.knowledge.now.words.now in
    let left : ℕ = c.args.slot - (c.loop-step._step + 1) in
    let more : c.args.slot - c.loop-step._step ≡ suc left = omega (arith, c.loop-step-test.true) in
    elim c.match-back.branch [
      | in-Same w ↦
          (let less = same_below c.loop-step.at w.in-Same.from c.in_ok-back.back c.in_ok-back.ensures.below w.in-Same.is in
          record {
            same =
                ap (λ (x : Wanted). trail_from profile program left x c.match-back.since c.match-back.at) w.last-is
                ∙ ap (λ (x : ℕ). trail_from profile program left c.loop-step.last x c.match-back.at) w.since-is
                ∙ ap (λ (x : ℕ). trail_from profile program left c.loop-step.last c.loop-step.since x) w.at-is
                ∙ trail_same profile program left (c.args.slot - c.loop-step._step) c.loop-step.last c.loop-step.since c.loop-step.at w.in-Same.from c.in_ok-back.back _ more c.in_ok-back.ensures.value w.in-Same.is c.loop-step.invariant.same;
            within = omega (arith, less, w.at-is, c.loop-step.invariant.within);
          })
      | in-Other w ↦
          (let less = other_below c.loop-step.at w.in-Other.from w.in-Other.before c.in_ok-back.back c.in_ok-back.ensures.below w.in-Other.is in
          record {
            same =
                ap (λ (x : Wanted). trail_from profile program left x c.match-back.since c.match-back.at) w.last-is
                ∙ ap (λ (x : ℕ). trail_from profile program left w.in-Other.before x c.match-back.at) w.since-is
                ∙ ap (λ (x : ℕ). trail_from profile program left w.in-Other.before w.in-Other.from x) w.at-is
                ∙ trail_other profile program left (c.args.slot - c.loop-step._step) c.loop-step.last w.in-Other.before c.loop-step.since c.loop-step.at w.in-Other.from c.in_ok-back.back _ more c.in_ok-back.ensures.value w.in-Other.is c.loop-step.invariant.same;
            within = omega (arith, less, w.at-is, c.loop-step.invariant.within);
          })
    ]

pub returns-clause-value : goal.returns-clause-value
returns-clause-value c =
    let none : c.args.slot - c.loop-step._step ≡ 0 = omega (arith, c.loop-step-test.false) in
    trail_out c.args.knowledge.now.profile (program_of c.args.knowledge.now.words.now) (c.args.slot - c.loop-step._step) c.loop-step.last c.loop-step.since c.loop-step.at _ none c.loop-step.invariant.same
