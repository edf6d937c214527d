-- The spans of a text: its visible characters in order, cut into maximal runs of equal format
-- (Peritext, CSCW 2022).
use Rattle.std.specs.Prelude.{◌≡◌, ◌≢◌, ◌<◌, ℕ, List, [], ◌∷◌, ◌++◌, Option, Some, length, map, slice_get, All}
use Rattle.std.specs.Prelude.{AllPairs, Contains, encode_utf8_all}
use Rattle.change_ops.specs.declared.id.OpId.{OpId}
use Rattle.change_ops.specs.declared.operation.Op.{Op}
use Rattle.change_ops.specs.declared.operation.Op.TheVariants.{Insert}
use Rattle.char_sequence.specs.Tree.{IsHidden}
use Rattle.char_sequence.specs.Order.{Before}
use Rattle.mark_anchors.specs.Format.{IsFormat}
use Rattle.mark_anchors.specs.Formatting.{Format}

-- a visible character with its format
pub record Shown : Type 0 where
  pub id : OpId
  pub character : ℕ
  pub format : Format

-- the characters that are inserted and not hidden, in order, each with its format
pub record AreVisible (ops : List Op) (shown : List Shown) : Type 0 where
  pub ordered : AllPairs (λ a b. Before ops (Some a.id) b.id) shown
  pub listed : (x : OpId) (p : Option OpId) (c : ℕ) → Contains ops (Insert x p c) → (IsHidden ops x → ⊥)
      → (s : Shown) × Contains shown s × (s.id ≡ x) × (s.character ≡ c)
  pub inserted : (s : Shown) → Contains shown s → (p : Option OpId) × Contains ops (Insert s.id p s.character)
  pub kept : (s : Shown) → Contains shown s → IsHidden ops s.id → ⊥
  pub formatted : (s : Shown) → Contains shown s → IsFormat ops s.id s.format

-- a piece of text, as UTF-8, with one format
pub record Span : Type 0 where
  pub text : List ℕ
  pub format : Format

-- the front spells the span: it is not empty, all of it has the span's format, and what comes next has another one
pub record IsRun (front rest : List Shown) (span : Span) : Type 0 where
  pub some : 0 < length front
  pub alike : All (λ s. s.format ≡ span.format) front
  pub longest : (next : Shown) → slice_get rest 0 ≡ Some next → next.format ≢ span.format
  pub spelt : span.text ≡ encode_utf8_all (map (λ s. s.character) front)

-- the characters, cut into maximal runs of equal format, are the spans
abbrev pub Cuts : List Shown → List Span → Type 0
Cuts shown [] = shown ≡ []
Cuts shown (span ∷ spans) =
    (front : List Shown) × ((rest : List Shown) × (shown ≡ front ++ rest) × IsRun front rest span × Cuts rest spans)

-- the spans of a set of operations
abbrev pub AreSpans : List Op → List Span → Type 0
AreSpans ops spans = (shown : List Shown) × AreVisible ops shown × Cuts shown spans
