use Rattle.std.proofs.Common.{◌≡◌, ℕ, List, length, drop, sym, ap, ◌∙◌, arith}
use Rattle.std.proofs.lemmas.List.{length-drop}
use Rattle.format_runs.specs.Runs.{Run, character_count}
use Rattle.version_pieces.specs.Along.{spans_along}
use Rattle.version_pieces.proofs.Walking.{all_behind, count_parted, drop_along}
use Rattle.version_pieces.proofs.spans.Spans.spans_from.Goals as goal

pub invariant_of-result : goal.invariant_of-result
invariant_of-result c =
    let cs : List ℕ = c.self.inside.text in
    let rs : List Run = c.self.inside.runs in
    let start : ℕ = c.runs_from-runs.result.1 in
    let text : c.between-text.result ≡ drop start cs = c.between-text.ensures ∙ all_behind cs start c.character_count.result c.character_count.ensures in
    omega (
      arith,
      ap length text,
      length-drop start cs,
      ap character_count c.runs_from-runs.ensures.runs,
      c.runs_from-runs.ensures.start,
      count_parted rs c.args.index,
      c.self.invariant.whole,
    )

pub returns : goal.returns
returns c =
    let cs : List ℕ = c.self.inside.text in
    let rs : List Run = c.self.inside.runs in
    let start : ℕ = c.runs_from-runs.result.1 in
    let text : c.between-text.result ≡ drop start cs = c.between-text.ensures ∙ all_behind cs start c.character_count.result c.character_count.ensures in
    ap (λ (l : List Run). spans_along l c.between-text.result) c.runs_from-runs.ensures.runs
    ∙ ap (spans_along (drop c.args.index rs)) (text ∙ ap (λ (n : ℕ). drop n cs) c.runs_from-runs.ensures.start)
    ∙ sym (drop_along rs cs c.args.index) ∙ ap (drop c.args.index) c.self.view_is
