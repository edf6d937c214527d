use Rattle.std.proofs.Common.{◌≡◌, ℕ, ◌+◌, ◌++◌, List, rules, replicate, take, arith, sym, ap, ◌∙◌}
use Rattle.std.specs.List.{slice_range}
use Rattle.std.proofs.lemmas.List.{take_all}
use Rattle.mark_anchors.specs.Formatting.{Format}
use Rattle.span_flatten.specs.declared.version.Row.{Row}
use Rattle.format_runs.specs.Runs.{formats_in, formats_of}
use Rattle.format_runs.proofs.Formats.{rows_more}
use Rattle.format_runs.proofs.Slices.{slice_more, slice_nothing}
use Rattle.format_runs.proofs.runs.SharedRuns.shows.Goals as goal

pub loop-row-init : goal.loop-row-init
loop-row-init c = record {
  order = omega arith;
  shown = slice_nothing (formats_of c.args.self.now) c.args.from c.args.from (omega arith);
}

pub overflow_add-place : goal.overflow_add-place
overflow_add-place c = omega (arith, c.keeps.ensures.short, c.shows_at.ensures.within (search rules))

pub loop-row-preserved : goal.loop-row-preserved
loop-row-preserved c =
    let all : List Format = formats_of c.args.self.now in
    let place : ℕ = c.loop-row.place in
    let row : Row = c.row-item.result in
    let shown : slice_range all place (place + row.characters) ≡ replicate row.characters row.format = c.shows_at.ensures.shown (search rules) in
    record {
      order = omega (arith, c.loop-row.invariant.order);
      shown = slice_more all c.args.from place row.characters c.loop-row.invariant.order
          ∙ ap (λ (l : List Format). l ++ slice_range all place (place + row.characters)) c.loop-row.invariant.shown
          ∙ ap (λ (l : List Format). formats_in (take c.loop-row.row-index c.args.rows.now) ++ l) shown
          ∙ sym (rows_more c.args.rows.now c.loop-row.row-index row c.loop-row-test.true c.row-item.is);
    }

pub returns : goal.returns
returns c = λ same.
    let ended : c.loop-row.place ≡ c.args.to = search rules in
    ap (λ (n : ℕ). slice_range (formats_of c.args.self.now) c.args.from n) (sym ended) ∙ c.loop-row.invariant.shown
    ∙ ap formats_in (take_all c.loop-row.row-index c.args.rows.now c.loop-row-test.false)
