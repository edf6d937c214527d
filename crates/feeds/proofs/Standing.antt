-- Spans that stand as they stood are alike: none needs to be compared.
use Rattle.std.proofs.Common.{◌≡◌, ◌∙◌, ℕ, ◌+◌, ◌-◌, ◌≤◌, Some, length, ap, subst, sym, arith}
use Rattle.std.specs.List.{slice_get}
use Rattle.std.proofs.lemmas.Option.{same_Some}
use Rattle.change_ops.specs.declared.keys.TheConstants.{STRONG, EM, CODE}
use Rattle.mark_anchors.specs.Formatting.{has, link_in, color_in}
use Rattle.span_flatten.specs.Spans.{Span}
use Rattle.span_flatten.specs.Version.{Version, span_at, spans_of}
use Rattle.span_view.specs.Views.{SpanView, view_of}
use Rattle.version_pieces.specs.Alike.{AreAlike as DoStand}
use Rattle.version_pieces.specs.Links.{HaveLinks}
use Rattle.version_history.proofs.Linked.{as_many, behind_at, front_at}
use Rattle.feeds.specs.Kept.{AlikeAt, IsAlike, IsStretch}
use Rattle.feeds.proofs.Walking.{AreKept, lent, row_of, span_of}

-- the same span at two indices
alike_same : (older newer : Version) (i j : ℕ) → AreKept older → AreKept newer → HaveLinks (spans_of older) → HaveLinks (spans_of newer)
    → ((span : Span) → slice_get (spans_of newer) j ≡ Some span → slice_get (spans_of older) i ≡ Some span) → AlikeAt older i newer j
alike_same older newer i j kept kept_newer links links_newer same a b p q =
    let one = row_of older i a p in
    let other = row_of newer j b q in
    let s : Span = span_at older.text one.row in
    let t : Span = span_at newer.text other.row in
    let s_at : slice_get (spans_of older) i ≡ Some s = span_of older i one.row one.is in
    let t_at : slice_get (spans_of newer) j ≡ Some t = span_of newer j other.row other.is in
    let e : s ≡ t = same_Some s t (sym s_at ∙ same t t_at) in
    let here : IsAlike (view_of older i one.row) (view_of newer j other.row) = record {
      older_lent = lent older i one.row kept one.is (links i s s_at);
      newer_lent = lent newer j other.row kept_newer other.is (links_newer j t t_at);
      text = ap (λ (x : Span). x.text) e;
      format = record {
        strong = ap (λ (x : Span). has x.format STRONG) e;
        em = ap (λ (x : Span). has x.format EM) e;
        code = ap (λ (x : Span). has x.format CODE) e;
        link = ap (λ (x : Span). link_in x.format) e;
        color = ap (λ (x : Span). color_in x.format) e;
        comments = ap (λ (x : Span). length x.format.comments) e;
      };
    } in
    subst (λ (x : SpanView). IsAlike x b) one.seen (subst (λ (y : SpanView). IsAlike (view_of older i one.row) y) other.seen here)

-- so those that stand as they stood are a stretch
pub stretch_stands : (older newer : Version) (front behind : ℕ) → AreKept older → AreKept newer → HaveLinks (spans_of older) → HaveLinks (spans_of newer)
    → DoStand (spans_of older) (spans_of newer) front behind → IsStretch older newer front behind
stretch_stands older newer front behind kept kept_newer links links_newer stand =
    let fits_older = stand.fits_older in
    let fits_newer = stand.fits_newer in
    let rows_older : length (spans_of older) ≡ length older.rows = as_many older in
    let rows_newer : length (spans_of newer) ≡ length newer.rows = as_many newer in
    record {
      within_older = omega arith;
      within_newer = omega arith;
      front_alike = λ i less.
          alike_same older newer i i kept kept_newer links links_newer (λ span is. front_at (spans_of older) (spans_of newer) front behind i span stand less is);
      back_alike = λ i less.
          let one : ℕ = length older.rows - 1 - i in
          let other : ℕ = length newer.rows - 1 - i in
          let high : length (spans_of newer) - behind ≤ other = omega arith in
          let there : length (spans_of older) - behind + (other - (length (spans_of newer) - behind)) ≡ one = omega arith in
          alike_same older newer one other kept kept_newer links links_newer
          (λ span is. subst (λ (k : ℕ). slice_get (spans_of older) k ≡ Some span) there (behind_at (spans_of older) (spans_of newer) front behind other span stand high is));
    }
