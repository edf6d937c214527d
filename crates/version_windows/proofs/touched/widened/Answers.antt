use Rattle.std.proofs.Common.{◌≡◌, ◌⊎◌, ℕ, List, Option, Some, None, take, inl, inr, sym, subst, ◌∙◌}
use Rattle.std.specs.Option.{MatchOption, unwrap_or}
use Rattle.char_sequence.specs.declared.sequence.Element.{Element}
use Rattle.char_sequence.specs.Visible.{visible_count, IsLastVisible}
use Rattle.version_windows.proofs.touched.widened.Goals as goal
use Rattle.version_windows.proofs.touched.widened.Goals.{in-Some, in-None}

front_of : (es : List Element) (place low : ℕ) (found : Option ℕ) → low ≡ unwrap_or found 0
    → MatchOption found (visible_count (take place es) ≡ 0) (λ at. IsLastVisible es place at)
    → IsLastVisible es place low ⊎ ((low ≡ 0) × (visible_count (take place es) ≡ 0))
front_of es place low None is none = inr (is, none)
front_of es place low (Some at) is last = inl (subst (λ n. IsLastVisible es place n) (sym is) last)

pub returns : goal.returns
returns c =
    let es : List Element = c.args.sequence.now.elements in
    let place : ℕ = c.args.range.high in
    record {
      front = front_of es c.args.range.low c.unwrap_or.result c.visible_place_before.result c.unwrap_or.ensures c.visible_place_before.ensures;
      back =
          elim c.match-visible_place_from.branch [
            | in-Some w ↦ inl (w.in-Some.last, w.high-is, w.in-Some.ensures)
            | in-None w ↦ inr (w.high-is ∙ c.len-end.ensures.value, w.in-None.ensures {u = tt})
          ];
    }
