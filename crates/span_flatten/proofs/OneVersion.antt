-- A version is a function of the set of operations and its number.
use Rattle.std.proofs.Common.{◌≡◌, ℕ, List, Some, get_or, sym, ap, subst, ◌∙◌}
use Rattle.std.proofs.lemmas.Option.{slice_get_within, get_or_from_slice_get}
use Rattle.change_ops.specs.declared.operation.Op.{Op}
use Rattle.change_ops.specs.declared.operation.Op.TheVariants.{Insert}
use Rattle.char_sequence.specs.declared.sequence.Element.{Element}
use Rattle.char_sequence.specs.Order.{Before, Shows, SameSet}
use Rattle.char_sequence.proofs.Hiding.{same_removals_of_set, hidden_same}
use Rattle.char_sequence.proofs.TreeLaws.{before_asym, before_kept}
use Rattle.char_sequence.proofs.Lists.{InOrder, MembersOf, same_in_order}
use Rattle.mark_anchors.specs.Format.{IsFormat}
use Rattle.mark_anchors.proofs.FormatLaws.{format_of_set, one_format}
use Rattle.span_flatten.specs.Spans.{Shown, Span, AreVisible, Cuts, AreSpans}
use Rattle.span_flatten.specs.Version.{Version, joined, rows_from, spans_of, IsVersion}
use Rattle.span_flatten.proofs.Cutting.{one_cut}
use Rattle.span_flatten.proofs.Showing.{contains_at, at_contains}

visible_of_set : (ops others : List Op) → SameSet ops others → (shown : List Shown) → AreVisible others shown → AreVisible ops shown
visible_of_set ops others s shown v =
    let turned : SameSet others ops = record { forth = s.back; back = s.forth } in
    record {
      ordered = λ i j d less within. before_kept others ops (λ x p n. (n.0, s.back (Insert x p n.0) n.1)) (Some (get_or shown i d).id) (get_or shown j d).id (v.ordered i j d less within);
      listed = λ x p c inserted kept. v.listed x p c (s.forth (Insert x p c) inserted) (λ r. kept (hidden_same others ops (same_removals_of_set others ops turned) x r));
      inserted = λ z c. let r = v.inserted z c in (r.0, s.back (Insert z.id r.0 z.character) r.1);
      kept = λ z c r. v.kept z c (hidden_same ops others (same_removals_of_set ops others s) z.id r);
      formatted = λ z c. format_of_set others ops turned z.id z.format (v.formatted z c);
    }

in_order : (ops : List Op) (shown : List Shown) → AreVisible ops shown → InOrder (λ a b. Before ops (Some a.id) b.id) shown
in_order ops shown v i j x y less g h =
    subst (λ z. Before ops (Some x.id) z.id) (get_or_from_slice_get shown j y x h)
    (subst (λ z. Before ops (Some z.id) (get_or shown j x).id) (get_or_from_slice_get shown i x x g) (v.ordered i j x less (slice_get_within shown j y h)))

same_shown : (a b : Shown) → a.id ≡ b.id → a.character ≡ b.character → a.format ≡ b.format → a ≡ b
same_shown a b id character format = λ i. record { id = id i; character = character i; format = format i }

members : (ops : List Op) (shown others : List Shown) → AreVisible ops shown → AreVisible ops others → MembersOf shown others
members ops shown others v w i x g =
    let c = contains_at shown i x g in
    let inserted = v.inserted x c in
    let r = w.listed x.id inserted.0 x.character inserted.1 (v.kept x c) in
    let format : r.0.format ≡ x.format = one_format ops x.id r.0.format x.format (subst (λ z. IsFormat ops z r.0.format) r.2 (w.formatted r.0 r.1)) (v.formatted x c) in
    let at = at_contains others r.0 r.1 in
    (at.0, at.1 ∙ ap Some (same_shown r.0 x r.2 r.3 format))

one_visible : (ops : List Op) (es : List Element) → Shows es ops → (shown others : List Shown) → AreVisible ops shown → AreVisible ops others → shown ≡ others
one_visible ops es h shown others v w =
    same_in_order (λ a b. Before ops (Some a.id) b.id) (λ a b. before_asym ops h.tree a.id b.id) shown others (in_order ops shown v) (in_order ops others w)
    (members ops shown others v w) (members ops others shown w v)

pub one_spans : (ops others : List Op) (es : List Element) → Shows es ops → SameSet ops others → (a b : List Span) → AreSpans ops a → AreSpans others b → a ≡ b
one_spans ops others es h s a b p q =
    let same : p.0 ≡ q.0 = one_visible ops es h p.0 q.0 p.1 (visible_of_set ops others s q.0 q.1) in
    one_cut p.0 a b p.2 (subst (λ l. Cuts l b) (sym same) q.2)

pub one_version : (ops others : List Op) (es : List Element) (number : ℕ) (first second : Version) → Shows es ops → SameSet ops others → IsVersion ops number first → IsVersion others number second → first ≡ second
one_version ops others es number first second h s v w =
    let same = one_spans ops others es h s (spans_of first) (spans_of second) v.spans w.spans in
    let numbers = v.numbered ∙ sym w.numbered in
    let texts = v.layout.whole ∙ ap joined same ∙ sym w.layout.whole in
    let rows = v.layout.end_to_end ∙ ap (rows_from 0) same ∙ sym w.layout.end_to_end in
    λ i. record { number = numbers i; text = texts i; rows = rows i }
