use Rattle.std.proofs.Common.{◌≡◌, ℕ, ◌+◌, ◌-◌, ◌++◌, ◌∷◌, [], List, min, max, replicate, take, arith, sym, ap, subst, ◌∙◌}
use Rattle.mark_anchors.specs.Formatting.{Format}
use Rattle.format_runs.specs.Runs.{AreApart, Run, character_count}
use Rattle.format_runs.proofs.Slices.{count_more, part_apart, part_more}
use Rattle.format_runs.proofs.draft.between.Goals as goal

pub add_some-requires-clause-apart : goal.add_some-requires-clause-apart
add_some-requires-clause-apart c =
    let runs : List Run = c.args.runs.now in
    let i : ℕ = c.loop-run.run-index in
    let r : Run = c.run-item.result in
    let k : ℕ = c.saturating_sub.result in
    let size : k ≡ min c.args.to (character_count (take i runs) + r.characters) - max c.args.from (character_count (take i runs)) =
    omega (arith, c.saturating_sub.ensures, c.min-high.ensures, c.max-low.ensures, c.characters.ensures, c.loop-run.invariant.counted) in
    λ some. subst (λ (l : List Format). AreApart l (r.format ∷ [])) (sym c.loop-run.invariant.formats)
    (part_apart runs i r c.args.from c.args.to k c.loop-run-test.true c.run-item.is c.requires.maximal size some)

pub loop-run-preserved : goal.loop-run-preserved
loop-run-preserved c =
    let runs : List Run = c.args.runs.now in
    let i : ℕ = c.loop-run.run-index in
    let r : Run = c.run-item.result in
    let k : ℕ = c.saturating_sub.result in
    let size : k ≡ min c.args.to (character_count (take i runs) + r.characters) - max c.args.from (character_count (take i runs)) =
    omega (arith, c.saturating_sub.ensures, c.min-high.ensures, c.max-low.ensures, c.characters.ensures, c.loop-run.invariant.counted) in
    record {
      counted = omega (arith, count_more runs i r c.loop-run-test.true c.run-item.is, c.characters.ensures, c.loop-run.invariant.counted);
      formats = c.in_ok-add_some.ensures.formats ∙ ap (λ (l : List Format). l ++ replicate k r.format) c.loop-run.invariant.formats
          ∙ sym (part_more runs i r c.args.from c.args.to k c.loop-run-test.true c.run-item.is size);
      maximal = c.in_ok-add_some.ensures.maximal;
      count = omega (arith, c.in_ok-add_some.ensures.count, c.loop-run.invariant.count);
    }
