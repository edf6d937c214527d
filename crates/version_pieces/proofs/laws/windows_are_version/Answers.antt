use Rattle.std.proofs.Common.{◌≡◌, refl, ap}
use Rattle.span_flatten.specs.Version.{Version, IsLayout, spans_of}
use Rattle.version_glyphs.specs.Laid.{laid}
use Rattle.version_glyphs.proofs.WindowsMet.{spans_put}
use Rattle.version_pieces.proofs.laws.windows_are_version.Goals as goal

layout_of : (v : Version) → v ≡ laid v.number (spans_of v) → IsLayout (spans_of v) v.text v.rows
layout_of v is = record {
  whole = ap (λ (w : Version). w.text) is;
  end_to_end = ap (λ (w : Version). w.rows) is;
}

pub returns : goal.returns
returns c =
    λ ops added old new olds ranges number windows marks shows all later held apart touched changed version are same.
    record {
      numbered = refl;
      spans = spans_put ops added old new olds ranges windows marks shows all later held apart touched changed are (spans_of c.args.now.now) c.keeps.ensures.maximal version.spans (spans_of c.args.next.now) c.keeps-2.ensures.maximal same;
      layout = layout_of c.args.next.now c.keeps-2.ensures.laid;
    }
