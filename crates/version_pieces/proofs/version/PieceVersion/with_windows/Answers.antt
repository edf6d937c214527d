use Rattle.std.proofs.Common.{◌≡◌, ◌≤◌, ◌+◌, ℕ, List, All, length, refl, sym, subst, ap, ◌∙◌, arith}
use Rattle.span_flatten.specs.Spans.{Span}
use Rattle.span_flatten.proofs.Laying.{length-rows_from}
use Rattle.span_flatten.specs.Version.{Version, joined, spans_of}
use Rattle.version_glyphs.specs.Glyphs.{AreMaximal, Glyph, glyphs, text_of}
use Rattle.version_glyphs.specs.Laid.{laid}
use Rattle.version_glyphs.specs.Replacements.{AreEdged, AreInOrder, HasMaximalSpans, put_all}
use Rattle.version_glyphs.specs.declared.replacement.Replacement.{Replacement}
use Rattle.version_pieces.specs.Alike.{AreAlike}
use Rattle.version_pieces.specs.Budgets.{roots_bytes, windows_bytes}
use Rattle.version_pieces.specs.Putting.{CanTake}
use Rattle.version_glyphs.proofs.Laid.{laid_spans}
use Rattle.version_glyphs.proofs.Putting.{few_with}
use Rattle.version_pieces.proofs.Putting.{next_is}
use Rattle.version_glyphs.proofs.Spelling.{glyphs_few, joined_text}
use Rattle.version_pieces.proofs.version.PieceVersion.with_windows.Goals as goal

-- windows that the version can take can be put in place of its spans' characters
can_take : (own : List Span) (now : Version) (windows : List Replacement) → own ≡ spans_of now → AreMaximal own → length (joined own) ≤ 131072
    → AreInOrder windows 0 (length (glyphs (spans_of now))) → All HasMaximalSpans windows → AreEdged (glyphs (spans_of now)) windows
    → length (text_of (put_all windows (glyphs (spans_of now)))) ≤ 131072 → CanTake (glyphs own) windows
can_take own now windows back maximal few order spans edged short =
    let gs : List Glyph = glyphs own in
    let in_order : AreInOrder windows 0 (length gs) = subst (λ (l : List Span). AreInOrder windows 0 (length (glyphs l))) (sym back) order in
    let short_text : length (text_of (put_all windows gs)) ≤ 131072 =
    subst (λ (l : List Span). length (text_of (put_all windows (glyphs l))) ≤ 131072) (sym back) short in
    record {
      order = in_order;
      spans = spans;
      edged = subst (λ (l : List Span). AreEdged (glyphs l) windows) (sym back) edged;
      few = few_with windows gs in_order (omega (arith, glyphs_few own maximal, few)) short_text;
    }

pub alike-alike-requires : goal.alike-alike-requires
alike-alike-requires c =
    let back : c.self.inside.spans ≡ spans_of c.args.self.now = sym (laid_spans c.self.inside.number c.self.inside.spans) ∙ ap (λ (v : Version). spans_of v) c.self.view_is in
    can_take c.self.inside.spans c.args.self.now c.args.windows.now back c.keeps.ensures c.self.invariant c.requires.order c.requires.windows c.requires.edged c.requires.short

pub with_windows-requires : goal.with_windows-requires
with_windows-requires c =
    let back : c.self.inside.spans ≡ spans_of c.args.self.now = sym (laid_spans c.self.inside.number c.self.inside.spans) ∙ ap (λ (v : Version). spans_of v) c.self.view_is in
    can_take c.self.inside.spans c.args.self.now c.args.windows.now back c.keeps.ensures c.self.invariant c.requires.order c.requires.windows c.requires.edged c.requires.short

pub invariant_of-version : goal.invariant_of-version
invariant_of-version c =
    let back : c.self.inside.spans ≡ spans_of c.args.self.now = sym (laid_spans c.self.inside.number c.self.inside.spans) ∙ ap (λ (v : Version). spans_of v) c.self.view_is in
    subst (λ (t : List ℕ). length t ≤ 131072) (joined_text c.in_ok-spans.spans c.keeps-2.ensures)
    (subst (λ (gs : List Glyph). length (text_of gs) ≤ 131072) (sym (c.in_ok-spans.ensures.glyphs ∙ ap (λ (l : List Span). put_all c.args.windows.now (glyphs l)) back)) c.requires.short)

pub returns-clause-glyphs : goal.returns-clause-glyphs
returns-clause-glyphs c =
    let back : c.self.inside.spans ≡ spans_of c.args.self.now = sym (laid_spans c.self.inside.number c.self.inside.spans) ∙ ap (λ (v : Version). spans_of v) c.self.view_is in
    (next_is c.args.number c.in_ok-spans.spans (spans_of c.args.self.now) (laid c.args.number c.in_ok-spans.spans) c.args.windows.now c.keeps-2.ensures
    (c.in_ok-spans.ensures.glyphs ∙ ap (λ (l : List Span). put_all c.args.windows.now (glyphs l)) back) refl).spelt

pub returns-clause-maximal : goal.returns-clause-maximal
returns-clause-maximal c =
    let back : c.self.inside.spans ≡ spans_of c.args.self.now = sym (laid_spans c.self.inside.number c.self.inside.spans) ∙ ap (λ (v : Version). spans_of v) c.self.view_is in
    (next_is c.args.number c.in_ok-spans.spans (spans_of c.args.self.now) (laid c.args.number c.in_ok-spans.spans) c.args.windows.now c.keeps-2.ensures
    (c.in_ok-spans.ensures.glyphs ∙ ap (λ (l : List Span). put_all c.args.windows.now (glyphs l)) back) refl).maximal

pub returns-clause-laid : goal.returns-clause-laid
returns-clause-laid c =
    let back : c.self.inside.spans ≡ spans_of c.args.self.now = sym (laid_spans c.self.inside.number c.self.inside.spans) ∙ ap (λ (v : Version). spans_of v) c.self.view_is in
    (next_is c.args.number c.in_ok-spans.spans (spans_of c.args.self.now) (laid c.args.number c.in_ok-spans.spans) c.args.windows.now c.keeps-2.ensures
    (c.in_ok-spans.ensures.glyphs ∙ ap (λ (l : List Span). put_all c.args.windows.now (glyphs l)) back) refl).is

pub returns-clause-alike : goal.returns-clause-alike
returns-clause-alike c =
    let own : List Span = c.self.inside.spans in
    let next : List Span = c.in_ok-spans.spans in
    let front : ℕ = c.alike-alike.result.front in
    let behind : ℕ = c.alike-alike.result.behind in
    let back : own ≡ spans_of c.args.self.now = sym (laid_spans c.self.inside.number own) ∙ ap (λ (v : Version). spans_of v) c.self.view_is in
    let laid_next : next ≡ spans_of (laid c.args.number next) = sym (laid_spans c.args.number next) in
    let alike : AreAlike own next front behind = c.alike-alike.ensures next c.keeps-2.ensures c.in_ok-spans.ensures.glyphs in
    subst (λ (l : List Span). AreAlike l (spans_of (laid c.args.number next)) front behind) back
    (subst (λ (l : List Span). AreAlike own l front behind) laid_next alike)

pub returns-in_err-spans-clause-spent : goal.returns-in_err-spans-clause-spent
returns-in_err-spans-clause-spent c =
    let own : List Span = c.self.inside.spans in
    let windows : List Replacement = c.args.windows.now in
    let bytes : length (joined own) ≡ length c.args.self.now.text = ap (λ (v : Version). length v.text) c.self.view_is in
    let rows : length own ≡ length c.args.self.now.rows = sym (length-rows_from 0 own) ∙ ap (λ (v : Version). length v.rows) c.self.view_is in
    subst (λ n. c.args.budget.now ≤ c.with_windows.new.budget + windows_bytes (roots_bytes n (length c.args.self.now.rows) windows) windows) bytes
    (subst (λ n. c.args.budget.now ≤ c.with_windows.new.budget + windows_bytes (roots_bytes (length (joined own)) n windows) windows) rows c.with_windows.ensures.spent)

pub returns-clause-spent : goal.returns-clause-spent
returns-clause-spent c =
    let own : List Span = c.self.inside.spans in
    let windows : List Replacement = c.args.windows.now in
    let bytes : length (joined own) ≡ length c.args.self.now.text = ap (λ (v : Version). length v.text) c.self.view_is in
    let rows : length own ≡ length c.args.self.now.rows = sym (length-rows_from 0 own) ∙ ap (λ (v : Version). length v.rows) c.self.view_is in
    subst (λ n. c.args.budget.now ≤ c.with_windows.new.budget + windows_bytes (roots_bytes n (length c.args.self.now.rows) windows) windows) bytes
    (subst (λ n. c.args.budget.now ≤ c.with_windows.new.budget + windows_bytes (roots_bytes (length (joined own)) n windows) windows) rows c.with_windows.ensures.spent)
