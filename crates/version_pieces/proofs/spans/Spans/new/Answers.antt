use Rattle.std.proofs.Common.{◌≡◌, ◌++◌, ℕ, List, length, sym, ap, ◌∙◌, arith, encode_utf8_all}
use Rattle.std.specs.Str.{chars}
use Rattle.std.proofs.lemmas.List.{append-nil}
use Rattle.std.proofs.lemmas.Str.{encodes-chars}
use Rattle.mark_anchors.specs.Formatting.{Format}
use Rattle.span_flatten.specs.declared.version.Row.{Row}
use Rattle.format_runs.specs.Runs.{Run, character_count, formats_in, formats_of}
use Rattle.format_runs.proofs.Formats.{length_formats, length_rows}
use Rattle.text_pieces.proofs.Texts.{chars_few}
use Rattle.version_pieces.proofs.Rows.{rows_maximal}
use Rattle.version_pieces.specs.Along.{paired}
use Rattle.version_pieces.proofs.Along.{AreShown, glyphs_along, scalars_are, shown}
use Rattle.version_pieces.proofs.spans.Spans.new.Goals as goal

pub with_window-requires-clause-short : goal.with_window-requires-clause-short
with_window-requires-clause-short c =
    let text : List ℕ = c.args.text.now in
    let same : chars text ++ c.in_ok-no_text.no_text ≡ chars text = ap (λ (l : List ℕ). chars text ++ l) c.in_ok-no_text.ensures.text ∙ append-nil (chars text) in
    omega (arith, ap (λ (l : List ℕ). length (encode_utf8_all l)) same, ap length (encodes-chars text c.utf8.text), c.requires.whole.limits.short)

pub with_window-requires-2-clause-short : goal.with_window-requires-2-clause-short
with_window-requires-2-clause-short c =
    let text : List ℕ = c.args.text.now in
    let rows : List Row = c.args.rows.now in
    let told : AreShown text rows = shown text rows c.utf8.text c.requires.whole in
    omega (
      arith,
      ap (λ (l : List Run). character_count l) c.in_ok-no_runs.ensures.runs,
      length_rows rows,
      told.fits,
      chars_few text c.utf8.text,
      c.requires.whole.limits.short,
    )

pub with_window-requires-2-clause-maximal : goal.with_window-requires-2-clause-maximal
with_window-requires-2-clause-maximal c = rows_maximal c.args.text.now c.args.rows.now c.requires.whole c.requires.maximal

-- nothing stands before the window or behind it
pub with_window-requires-2-clause-edges : goal.with_window-requires-2-clause-edges
with_window-requires-2-clause-edges c = record {
  front = λ some. absurd (omega arith);
  back = λ some. absurd (omega (arith, ap (λ (l : List Run). length (formats_of l)) c.in_ok-no_runs.ensures.runs));
}

pub invariant_of-result : goal.invariant_of-result
invariant_of-result c =
    let text : List ℕ = c.args.text.now in
    let rows : List Row = c.args.rows.now in
    let told : AreShown text rows = shown text rows c.utf8.text c.requires.whole in
    let cs : c.in_ok-own.own ≡ chars text = c.in_ok-own.ensures.text ∙ ap (λ (l : List ℕ). chars text ++ l) c.in_ok-no_text.ensures.text ∙ append-nil (chars text) in
    let fs : formats_of c.in_ok-runs.runs ≡ formats_in rows =
    c.in_ok-runs.ensures.formats ∙ ap (λ (l : List Run). formats_in rows ++ formats_of l) c.in_ok-no_runs.ensures.runs ∙ append-nil (formats_in rows) in
    let whole : character_count c.in_ok-runs.runs ≡ length c.in_ok-own.own =
    sym (length_formats c.in_ok-runs.runs) ∙ ap length fs ∙ sym told.fits ∙ ap length (sym cs) in
    record { spelt = c.keeps.ensures.spelt; maximal = c.keeps-2.ensures.maximal; whole = whole }

pub returns-clause-glyphs : goal.returns-clause-glyphs
returns-clause-glyphs c =
    let text : List ℕ = c.args.text.now in
    let rows : List Row = c.args.rows.now in
    let told : AreShown text rows = shown text rows c.utf8.text c.requires.whole in
    let cs : c.in_ok-own.own ≡ chars text = c.in_ok-own.ensures.text ∙ ap (λ (l : List ℕ). chars text ++ l) c.in_ok-no_text.ensures.text ∙ append-nil (chars text) in
    let fs : formats_of c.in_ok-runs.runs ≡ formats_in rows =
    c.in_ok-runs.ensures.formats ∙ ap (λ (l : List Run). formats_in rows ++ formats_of l) c.in_ok-no_runs.ensures.runs ∙ append-nil (formats_in rows) in
    let whole : character_count c.in_ok-runs.runs ≡ length c.in_ok-own.own =
    sym (length_formats c.in_ok-runs.runs) ∙ ap length fs ∙ sym told.fits ∙ ap length (sym cs) in
    glyphs_along c.in_ok-runs.runs c.in_ok-own.own (scalars_are c.in_ok-own.own c.keeps.ensures.spelt) whole
    ∙ ap (λ (l : List ℕ). paired l (formats_of c.in_ok-runs.runs)) cs ∙ ap (λ (l : List Format). paired (chars text) l) fs ∙ sym told.glyphs_are
