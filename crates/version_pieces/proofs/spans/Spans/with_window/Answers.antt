use Rattle.std.proofs.Common.{◌≡◌, ◌≤◌, ◌++◌, ℕ, List, length, take, drop, sym, subst, ap, ◌∙◌, arith, encode_utf8_all}
use Rattle.std.specs.Str.{chars}
use Rattle.mark_anchors.specs.Formatting.{Format}
use Rattle.span_flatten.specs.Edges.{KeepEdges}
use Rattle.span_flatten.specs.declared.version.Row.{Row}
use Rattle.span_flatten.specs.Spans.{Span}
use Rattle.span_flatten.specs.Version.{IsWhole, joined, spans_in}
use Rattle.text_pieces.proofs.Bytes.{bytes_with}
use Rattle.format_runs.specs.Runs.{Run, formats_in, formats_of}
use Rattle.format_runs.proofs.Formats.{length_rows}
use Rattle.version_glyphs.specs.declared.replacement.Replacement.{Replacement}
use Rattle.version_glyphs.specs.Glyphs.{AreMaximal, Glyph, glyphs}
use Rattle.version_pieces.proofs.Rows.{rows_maximal}
use Rattle.version_pieces.specs.Along.{IsAlong, paired}
use Rattle.version_glyphs.specs.Replacements.{formats, glyphs_in}
use Rattle.version_pieces.proofs.Along.{AreShown, bytes_after, count_along, formats_along, formats_paired, joined_along, length_along, length_paired, shown, whole_after, window_glyphs}
use Rattle.version_pieces.proofs.spans.Spans.with_window.Goals as goal

pub text_with-requires-clause-within : goal.text_with-requires-clause-within
text_with-requires-clause-within c =
    omega (
      arith,
      c.requires.within,
      ap (λ (l : List Span). length (glyphs l)) c.self.view_is,
      count_along c.self.inside.text c.self.inside.runs c.self.invariant,
    )

pub text_with-requires-clause-short : goal.text_with-requires-clause-short
text_with-requires-clause-short c =
    let cs : List ℕ = c.self.inside.text in
    let rs : List Run = c.self.inside.runs in
    let a : IsAlong cs rs = c.self.invariant in
    let r : Replacement = c.args.window.now in
    let new : List ℕ = chars c.text-new.result.now in
    let rows : List Row = c.rows-rows.result.now in
    let whole : IsWhole c.text-new.result.now rows =
    subst (λ (t : List ℕ). IsWhole t rows) (sym c.text-new.ensures) (subst (λ (l : List Row). IsWhole r.window.text l) (sym c.rows-rows.ensures.value) c.rows-rows.ensures.whole) in
    let told : AreShown c.text-new.result.now rows = shown c.text-new.result.now rows c.text-new.utf8 whole in
    let brought : glyphs_in r ≡ paired new (formats_in rows) =
    ap (λ (t : List ℕ). glyphs (spans_in t r.window.rows)) (sym c.text-new.ensures) ∙ ap (λ (l : List Row). glyphs (spans_in c.text-new.result.now l)) (sym c.rows-rows.ensures.value)
    ∙ told.glyphs_are in
    let many : length (glyphs_in r) ≡ length new = ap length brought ∙ length_paired new (formats_in rows) told.fits in
    let size : length (glyphs c.args.self.now) ≡ length cs = ap (λ (l : List Span). length (glyphs l)) (sym c.self.view_is) ∙ count_along cs rs a in
    let within : r.to ≤ length cs = omega (arith, c.requires.within) in
    bytes_after cs new r.from r.to c.requires.order within (omega (arith, c.requires.few))

pub runs_with-requires-clause-within : goal.runs_with-requires-clause-within
runs_with-requires-clause-within c =
    let cs : List ℕ = c.self.inside.text in
    let rs : List Run = c.self.inside.runs in
    let a : IsAlong cs rs = c.self.invariant in
    let r : Replacement = c.args.window.now in
    let new : List ℕ = chars c.text-new.result.now in
    let rows : List Row = c.rows-rows.result.now in
    let whole : IsWhole c.text-new.result.now rows =
    subst (λ (t : List ℕ). IsWhole t rows) (sym c.text-new.ensures) (subst (λ (l : List Row). IsWhole r.window.text l) (sym c.rows-rows.ensures.value) c.rows-rows.ensures.whole) in
    let told : AreShown c.text-new.result.now rows = shown c.text-new.result.now rows c.text-new.utf8 whole in
    let brought : glyphs_in r ≡ paired new (formats_in rows) =
    ap (λ (t : List ℕ). glyphs (spans_in t r.window.rows)) (sym c.text-new.ensures) ∙ ap (λ (l : List Row). glyphs (spans_in c.text-new.result.now l)) (sym c.rows-rows.ensures.value)
    ∙ told.glyphs_are in
    let many : length (glyphs_in r) ≡ length new = ap length brought ∙ length_paired new (formats_in rows) told.fits in
    let size : length (glyphs c.args.self.now) ≡ length cs = ap (λ (l : List Span). length (glyphs l)) (sym c.self.view_is) ∙ count_along cs rs a in
    let within : r.to ≤ length cs = omega (arith, c.requires.within) in
    omega (arith, a.whole)

pub runs_with-requires-clause-short : goal.runs_with-requires-clause-short
runs_with-requires-clause-short c =
    let cs : List ℕ = c.self.inside.text in
    let rs : List Run = c.self.inside.runs in
    let a : IsAlong cs rs = c.self.invariant in
    let r : Replacement = c.args.window.now in
    let new : List ℕ = chars c.text-new.result.now in
    let rows : List Row = c.rows-rows.result.now in
    let whole : IsWhole c.text-new.result.now rows =
    subst (λ (t : List ℕ). IsWhole t rows) (sym c.text-new.ensures) (subst (λ (l : List Row). IsWhole r.window.text l) (sym c.rows-rows.ensures.value) c.rows-rows.ensures.whole) in
    let told : AreShown c.text-new.result.now rows = shown c.text-new.result.now rows c.text-new.utf8 whole in
    let brought : glyphs_in r ≡ paired new (formats_in rows) =
    ap (λ (t : List ℕ). glyphs (spans_in t r.window.rows)) (sym c.text-new.ensures) ∙ ap (λ (l : List Row). glyphs (spans_in c.text-new.result.now l)) (sym c.rows-rows.ensures.value)
    ∙ told.glyphs_are in
    let many : length (glyphs_in r) ≡ length new = ap length brought ∙ length_paired new (formats_in rows) told.fits in
    let size : length (glyphs c.args.self.now) ≡ length cs = ap (λ (l : List Span). length (glyphs l)) (sym c.self.view_is) ∙ count_along cs rs a in
    let within : r.to ≤ length cs = omega (arith, c.requires.within) in
    omega (arith, a.whole, c.requires.few, length_rows rows, told.fits)

pub runs_with-requires-clause-edges : goal.runs_with-requires-clause-edges
runs_with-requires-clause-edges c =
    let cs : List ℕ = c.self.inside.text in
    let rs : List Run = c.self.inside.runs in
    let a : IsAlong cs rs = c.self.invariant in
    let r : Replacement = c.args.window.now in
    let new : List ℕ = chars c.text-new.result.now in
    let rows : List Row = c.rows-rows.result.now in
    let whole : IsWhole c.text-new.result.now rows =
    subst (λ (t : List ℕ). IsWhole t rows) (sym c.text-new.ensures) (subst (λ (l : List Row). IsWhole r.window.text l) (sym c.rows-rows.ensures.value) c.rows-rows.ensures.whole) in
    let told : AreShown c.text-new.result.now rows = shown c.text-new.result.now rows c.text-new.utf8 whole in
    let brought : glyphs_in r ≡ paired new (formats_in rows) =
    ap (λ (t : List ℕ). glyphs (spans_in t r.window.rows)) (sym c.text-new.ensures) ∙ ap (λ (l : List Row). glyphs (spans_in c.text-new.result.now l)) (sym c.rows-rows.ensures.value)
    ∙ told.glyphs_are in
    let now : formats (glyphs c.args.self.now) ≡ formats_of rs =
    ap (λ (l : List Span). formats (glyphs l)) (sym c.self.view_is) ∙ formats_along cs rs a in
    let brings : formats (glyphs_in r) ≡ formats_in rows = ap formats brought ∙ formats_paired new (formats_in rows) told.fits in
    subst (λ (l : List Format). KeepEdges (formats_of rs) r.from r.to l) brings
    (subst (λ (l : List Format). KeepEdges l r.from r.to (formats (glyphs_in r))) now c.requires.edged)

pub runs_with-requires-clause-maximal : goal.runs_with-requires-clause-maximal
runs_with-requires-clause-maximal c =
    let r : Replacement = c.args.window.now in
    let rows : List Row = c.rows-rows.result.now in
    let same : spans_in r.window.text r.window.rows ≡ spans_in c.text-new.result.now rows =
    ap (λ (t : List ℕ). spans_in t r.window.rows) (sym c.text-new.ensures) ∙ ap (λ (l : List Row). spans_in c.text-new.result.now l) (sym c.rows-rows.ensures.value) in
    let whole : IsWhole c.text-new.result.now rows =
    subst (λ (t : List ℕ). IsWhole t rows) (sym c.text-new.ensures) (subst (λ (l : List Row). IsWhole r.window.text l) (sym c.rows-rows.ensures.value) c.rows-rows.ensures.whole) in
    rows_maximal c.text-new.result.now rows whole (subst AreMaximal same c.requires.maximal)

pub invariant_of-result : goal.invariant_of-result
invariant_of-result c =
    let cs : List ℕ = c.self.inside.text in
    let rs : List Run = c.self.inside.runs in
    let a : IsAlong cs rs = c.self.invariant in
    let r : Replacement = c.args.window.now in
    let new : List ℕ = chars c.text-new.result.now in
    let rows : List Row = c.rows-rows.result.now in
    let whole : IsWhole c.text-new.result.now rows =
    subst (λ (t : List ℕ). IsWhole t rows) (sym c.text-new.ensures) (subst (λ (l : List Row). IsWhole r.window.text l) (sym c.rows-rows.ensures.value) c.rows-rows.ensures.whole) in
    let told : AreShown c.text-new.result.now rows = shown c.text-new.result.now rows c.text-new.utf8 whole in
    let brought : glyphs_in r ≡ paired new (formats_in rows) =
    ap (λ (t : List ℕ). glyphs (spans_in t r.window.rows)) (sym c.text-new.ensures) ∙ ap (λ (l : List Row). glyphs (spans_in c.text-new.result.now l)) (sym c.rows-rows.ensures.value)
    ∙ told.glyphs_are in
    let many : length (glyphs_in r) ≡ length new = ap length brought ∙ length_paired new (formats_in rows) told.fits in
    let size : length (glyphs c.args.self.now) ≡ length cs = ap (λ (l : List Span). length (glyphs l)) (sym c.self.view_is) ∙ count_along cs rs a in
    let within : r.to ≤ length cs = omega (arith, c.requires.within) in
    record {
      spelt = c.keeps.ensures.spelt;
      maximal = c.keeps-2.ensures.maximal;
      whole = whole_after cs c.in_ok-text.text new rs c.in_ok-runs.runs (formats_in rows) r.from r.to a.whole c.requires.order within told.fits c.in_ok-text.ensures.text c.in_ok-runs.ensures.formats;
    }

pub returns-clause-glyphs : goal.returns-clause-glyphs
returns-clause-glyphs c =
    let cs : List ℕ = c.self.inside.text in
    let rs : List Run = c.self.inside.runs in
    let a : IsAlong cs rs = c.self.invariant in
    let r : Replacement = c.args.window.now in
    let new : List ℕ = chars c.text-new.result.now in
    let rows : List Row = c.rows-rows.result.now in
    let whole : IsWhole c.text-new.result.now rows =
    subst (λ (t : List ℕ). IsWhole t rows) (sym c.text-new.ensures) (subst (λ (l : List Row). IsWhole r.window.text l) (sym c.rows-rows.ensures.value) c.rows-rows.ensures.whole) in
    let told : AreShown c.text-new.result.now rows = shown c.text-new.result.now rows c.text-new.utf8 whole in
    let brought : glyphs_in r ≡ paired new (formats_in rows) =
    ap (λ (t : List ℕ). glyphs (spans_in t r.window.rows)) (sym c.text-new.ensures) ∙ ap (λ (l : List Row). glyphs (spans_in c.text-new.result.now l)) (sym c.rows-rows.ensures.value)
    ∙ told.glyphs_are in
    let many : length (glyphs_in r) ≡ length new = ap length brought ∙ length_paired new (formats_in rows) told.fits in
    let size : length (glyphs c.args.self.now) ≡ length cs = ap (λ (l : List Span). length (glyphs l)) (sym c.self.view_is) ∙ count_along cs rs a in
    let within : r.to ≤ length cs = omega (arith, c.requires.within) in
    let b : IsAlong c.in_ok-text.text c.in_ok-runs.runs = record {
      spelt = c.keeps.ensures.spelt;
      maximal = c.keeps-2.ensures.maximal;
      whole = whole_after cs c.in_ok-text.text new rs c.in_ok-runs.runs (formats_in rows) r.from r.to a.whole c.requires.order within told.fits c.in_ok-text.ensures.text c.in_ok-runs.ensures.formats;
    } in
    window_glyphs cs c.in_ok-text.text new rs c.in_ok-runs.runs (formats_in rows) r.from r.to a b told.fits c.in_ok-text.ensures.text c.in_ok-runs.ensures.formats
    ∙ ap (λ (l : List Span). take r.from (glyphs l) ++ (paired new (formats_in rows) ++ drop r.to (glyphs l))) c.self.view_is
    ∙ ap (λ (l : List Glyph). take r.from (glyphs c.args.self.now) ++ (l ++ drop r.to (glyphs c.args.self.now))) (sym brought)

-- ---- what is paid for
pub returns-in_err-text-clause-spent : goal.returns-in_err-text-clause-spent
returns-in_err-text-clause-spent c =
    let cs : List ℕ = c.self.inside.text in
    let rs : List Run = c.self.inside.runs in
    let a : IsAlong cs rs = c.self.invariant in
    let r : Replacement = c.args.window.now in
    let bytes : length (joined c.args.self.now) ≡ length (encode_utf8_all cs) =
    ap (λ (l : List Span). length (joined l)) (sym c.self.view_is) ∙ ap length (joined_along rs cs a.whole) in
    let spans : length c.args.self.now ≡ length rs = ap length (sym c.self.view_is) ∙ length_along rs cs in
    let text : length c.text-new.result.now ≡ length r.window.text = ap length c.text-new.ensures in
    let rows : length c.rows-rows.result.now ≡ length r.window.rows = ap length c.rows-rows.ensures.value in
    omega (arith, bytes, spans, text, rows, c.text_with.ensures.spent)

pub returns-in_err-runs-clause-spent : goal.returns-in_err-runs-clause-spent
returns-in_err-runs-clause-spent c =
    let cs : List ℕ = c.self.inside.text in
    let rs : List Run = c.self.inside.runs in
    let a : IsAlong cs rs = c.self.invariant in
    let r : Replacement = c.args.window.now in
    let bytes : length (joined c.args.self.now) ≡ length (encode_utf8_all cs) =
    ap (λ (l : List Span). length (joined l)) (sym c.self.view_is) ∙ ap length (joined_along rs cs a.whole) in
    let spans : length c.args.self.now ≡ length rs = ap length (sym c.self.view_is) ∙ length_along rs cs in
    let text : length c.text-new.result.now ≡ length r.window.text = ap length c.text-new.ensures in
    let rows : length c.rows-rows.result.now ≡ length r.window.rows = ap length c.rows-rows.ensures.value in
    omega (arith, bytes, spans, text, rows, c.text_with.ensures.spent, c.runs_with.ensures.spent)

pub returns-clause-spent : goal.returns-clause-spent
returns-clause-spent c =
    let cs : List ℕ = c.self.inside.text in
    let rs : List Run = c.self.inside.runs in
    let a : IsAlong cs rs = c.self.invariant in
    let r : Replacement = c.args.window.now in
    let bytes : length (joined c.args.self.now) ≡ length (encode_utf8_all cs) =
    ap (λ (l : List Span). length (joined l)) (sym c.self.view_is) ∙ ap length (joined_along rs cs a.whole) in
    let spans : length c.args.self.now ≡ length rs = ap length (sym c.self.view_is) ∙ length_along rs cs in
    let text : length c.text-new.result.now ≡ length r.window.text = ap length c.text-new.ensures in
    let rows : length c.rows-rows.result.now ≡ length r.window.rows = ap length c.rows-rows.ensures.value in
    omega (arith, bytes, spans, text, rows, c.text_with.ensures.spent, c.runs_with.ensures.spent)

pub returns-clause-rows : goal.returns-clause-rows
returns-clause-rows c =
    let cs : List ℕ = c.self.inside.text in
    let rs : List Run = c.self.inside.runs in
    let a : IsAlong cs rs = c.self.invariant in
    let r : Replacement = c.args.window.now in
    let bytes : length (joined c.args.self.now) ≡ length (encode_utf8_all cs) =
    ap (λ (l : List Span). length (joined l)) (sym c.self.view_is) ∙ ap length (joined_along rs cs a.whole) in
    let spans : length c.args.self.now ≡ length rs = ap length (sym c.self.view_is) ∙ length_along rs cs in
    let text : length c.text-new.result.now ≡ length r.window.text = ap length c.text-new.ensures in
    let rows : length c.rows-rows.result.now ≡ length r.window.rows = ap length c.rows-rows.ensures.value in
    omega (arith, spans, rows, length_along c.in_ok-runs.runs c.in_ok-text.text, c.in_ok-runs.ensures.count)

pub returns-clause-bytes : goal.returns-clause-bytes
returns-clause-bytes c =
    let cs : List ℕ = c.self.inside.text in
    let rs : List Run = c.self.inside.runs in
    let a : IsAlong cs rs = c.self.invariant in
    let r : Replacement = c.args.window.now in
    let new : List ℕ = chars c.text-new.result.now in
    let rows : List Row = c.rows-rows.result.now in
    let whole : IsWhole c.text-new.result.now rows =
    subst (λ (t : List ℕ). IsWhole t rows) (sym c.text-new.ensures) (subst (λ (l : List Row). IsWhole r.window.text l) (sym c.rows-rows.ensures.value) c.rows-rows.ensures.whole) in
    let told : AreShown c.text-new.result.now rows = shown c.text-new.result.now rows c.text-new.utf8 whole in
    let brought : glyphs_in r ≡ paired new (formats_in rows) =
    ap (λ (t : List ℕ). glyphs (spans_in t r.window.rows)) (sym c.text-new.ensures) ∙ ap (λ (l : List Row). glyphs (spans_in c.text-new.result.now l)) (sym c.rows-rows.ensures.value)
    ∙ told.glyphs_are in
    let many : length (glyphs_in r) ≡ length new = ap length brought ∙ length_paired new (formats_in rows) told.fits in
    let size : length (glyphs c.args.self.now) ≡ length cs = ap (λ (l : List Span). length (glyphs l)) (sym c.self.view_is) ∙ count_along cs rs a in
    let within : r.to ≤ length cs = omega (arith, c.requires.within) in
    let b : IsAlong c.in_ok-text.text c.in_ok-runs.runs = record {
      spelt = c.keeps.ensures.spelt;
      maximal = c.keeps-2.ensures.maximal;
      whole = whole_after cs c.in_ok-text.text new rs c.in_ok-runs.runs (formats_in rows) r.from r.to a.whole c.requires.order within told.fits c.in_ok-text.ensures.text c.in_ok-runs.ensures.formats;
    } in
    let bytes : length (joined c.args.self.now) ≡ length (encode_utf8_all cs) =
    ap (λ (l : List Span). length (joined l)) (sym c.self.view_is) ∙ ap length (joined_along rs cs a.whole) in
    omega (
      arith,
      bytes,
      ap length c.text-new.ensures,
      ap length (joined_along c.in_ok-runs.runs c.in_ok-text.text b.whole),
      ap (λ (l : List ℕ). length (encode_utf8_all l)) c.in_ok-text.ensures.text,
      bytes_with cs c.text-new.result.now r.from r.to c.text-new.utf8 c.requires.order,
    )
