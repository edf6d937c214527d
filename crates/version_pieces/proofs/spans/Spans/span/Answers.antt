use Rattle.std.proofs.Common.{◌≡◌, ◌≤◌, ◌+◌, ◌-◌, ℕ, List, Some, length, take, drop, sym, ap, ◌∙◌, arith, encode_utf8_all}
use Rattle.std.specs.List.{slice_get}
use Rattle.std.proofs.lemmas.List.{length-drop, length-take-le}
use Rattle.std.proofs.lemmas.Option.{get_or_from_slice_get, slice_get_past, slice_get_within}
use Rattle.mark_anchors.specs.Formatting.{Format}
use Rattle.span_flatten.specs.Spans.{Span}
use Rattle.format_runs.specs.Runs.{Run, character_count}
use Rattle.format_runs.proofs.Slices.{count_within}
use Rattle.version_pieces.proofs.Along.{get_along, length_along}
use Rattle.version_pieces.proofs.spans.Spans.span.Goals as goal

run_within : (rs : List Run) (i : ℕ) (r : Run) → slice_get rs i ≡ Some r → character_count (take i rs) + r.characters ≤ character_count rs
run_within rs i r is =
    count_within rs i r (slice_get_within rs i r is) (sym (get_or_from_slice_get rs i r r is))

pub returns-in_default : goal.returns-in_default
returns-in_default c =
    sym (slice_get_past c.args.self.now c.args.index (omega (arith, c.in_default.ensures, length_along c.self.inside.runs c.self.inside.text, ap length c.self.view_is)))

pub overflow_add-placed : goal.overflow_add-placed
overflow_add-placed c =
    omega (arith, c.in-Some.ensures.starts, c.characters-characters.ensures, run_within c.self.inside.runs c.args.index c.in-Some.placed.run.now c.in-Some.ensures.is, c.keeps.ensures.short)

pub between-requires-clause-within : goal.between-requires-clause-within
between-requires-clause-within c =
    omega (
      arith,
      c.in-Some.ensures.starts,
      c.characters-characters.ensures,
      run_within c.self.inside.runs c.args.index c.in-Some.placed.run.now c.in-Some.ensures.is,
      c.self.invariant.whole,
    )

pub invariant_of-result : goal.invariant_of-result
invariant_of-result c =
    let start : ℕ = c.in-Some.placed.start in
    let n : ℕ = c.characters-characters.result in
    let within : start + n ≤ length c.self.inside.text =
    omega (
      arith,
      c.in-Some.ensures.starts,
      c.characters-characters.ensures,
      run_within c.self.inside.runs c.args.index c.in-Some.placed.run.now c.in-Some.ensures.is,
      c.self.invariant.whole,
    ) in
    omega (arith, ap length c.between.ensures, length-take-le ((start + n) - start) (drop start c.self.inside.text) (omega (arith, length-drop start c.self.inside.text)))

pub returns : goal.returns
returns c =
    let cs : List ℕ = c.self.inside.text in
    let rs : List Run = c.self.inside.runs in
    let i : ℕ = c.args.index in
    let r : Run = c.in-Some.placed.run.now in
    let start : ℕ = c.in-Some.placed.start in
    let n : ℕ = c.characters-characters.result in
    let width : (start + n) - start ≡ r.characters = omega (arith, c.characters-characters.ensures) in
    let text : c.between.result ≡ take r.characters (drop (character_count (take i rs)) cs) =
    c.between.ensures ∙ ap (λ (k : ℕ). take k (drop start cs)) width ∙ ap (λ (k : ℕ). take r.characters (drop k cs)) c.in-Some.ensures.starts in
    ap (λ (l : List ℕ). let span : Span = record { text = encode_utf8_all l; format = c.format.result.now } in Some span) text
    ∙ ap (λ (f : Format). let span : Span = record { text = encode_utf8_all (take r.characters (drop (character_count (take i rs)) cs)); format = f } in Some span) c.format.ensures
    ∙ sym (get_along rs cs i r c.in-Some.ensures.is) ∙ ap (λ (l : List Span). slice_get l i) c.self.view_is
