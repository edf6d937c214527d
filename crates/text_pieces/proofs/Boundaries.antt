-- Edges of characters.
use Rattle.std.proofs.Common.{◌≡◌, inl, inr, ℕ, ◌+◌, ◌-◌, ◌<◌, ◌≤◌, true, List, [], ◌∷◌, length, drop, refl, sym, ap, subst, ◌∙◌, arith, length-append, encode_utf8_all, IsUtf8}
use Rattle.std.specs.Str.{IsCharBoundary}
use Rattle.std.specs.Char.{encode_utf8}
use Rattle.std.proofs.Math.Utf8.{scalars, scalar}
use Rattle.std.proofs.Math.Seq.{drop-append_seam}
use Rattle.std.proofs.lemmas.Bool.{and_parts}
use Rattle.std.proofs.lemmas.Str.{IsCharBoundary-from_rest, IsCharBoundary-start, len_utf8_bounds, length-encode}
use Rattle.text_pieces.proofs.Pieces.{less_or_past}

-- an edge at most three bytes before a place
pub record HasEdge (text : List ℕ) (place : ℕ) : Type 0 where
  pub edge : ℕ
  pub up_to : edge ≤ place
  pub near : place ≤ edge + 3
  pub boundary : IsCharBoundary text edge

edge_of : (cs text : List ℕ) (place : ℕ) → scalars cs ≡ true → encode_utf8_all cs ≡ text → place ≤ length text → HasEdge text place
edge_of [] text place good is le =
    let none : length text ≡ 0 = ap length (sym is) in
    record { edge = 0; up_to = omega arith; near = omega arith; boundary = IsCharBoundary-start text ([], (good, is)) }
edge_of (c ∷ cs) text place good is le = elim (less_or_past place 4) [
  | inl h ↦ record { edge = 0; up_to = omega arith; near = omega arith; boundary = IsCharBoundary-start text (c ∷ cs, (good, is)) }
  | inr h ↦
      let front : List ℕ = encode_utf8 c in
      let back : List ℕ = encode_utf8_all cs in
      let size : length text ≡ length front + length back = ap length (sym is) ∙ length-append front back in
      let small : length front ≤ 4 = omega (arith, length-encode c, (len_utf8_bounds c).1) in
      let inner : HasEdge back (place - length front) =
      edge_of cs back (place - length front) ((and_parts (scalar c) (scalars cs) good).1) refl (omega arith) in
      let rest : drop (length front) text ≡ back = ap (drop (length front)) (sym is) ∙ drop-append_seam front back in
      record {
        edge = length front + inner.edge;
        up_to = omega (arith, inner.up_to);
        near = omega (arith, inner.near);
        boundary = IsCharBoundary-from_rest text (length front) inner.edge (omega arith) (subst (λ (l : List ℕ). IsCharBoundary l inner.edge) (sym rest) inner.boundary);
      }
]

-- the last edge up to a place is at most three bytes before it
pub floor_near : (text : List ℕ) (place floor : ℕ) → IsUtf8 text → place ≤ length text
    → ((i : ℕ) → floor < i → i ≤ place → ¬ (IsCharBoundary text i)) → place ≤ floor + 3
floor_near text place floor utf8 le nearest =
    let e : HasEdge text place = edge_of utf8.0 text place utf8.1.0 utf8.1.1 le in
    elim (less_or_past floor e.edge) [
      | inl h ↦ absurd (nearest e.edge h e.up_to e.boundary)
      | inr h ↦ omega (arith, e.near)
    ]
