-- Anchors by their signs.
use Rattle.std.proofs.Common.{◌≡◌, ◌≢◌, ℕ, List, [], ◌∷◌, Bool, true, false, cond, eqb, Option, Some, None, refl, ap, inl, inr}
use Rattle.std.specs.Prelude.{if◌then◌else◌, codes, ◌&&◌, MatchOption}
use Rattle.std.specs.Str.{bytes_eq}
use Rattle.std.specs.Borrow.{Bor}
use Rattle.std.proofs.lemmas.Bool.{ne_eqb, eq-eqb}
use Rattle.std.proofs.lemmas.Bool.Decides.{eqb_tells}
use Rattle.change_ops.specs.Words.{behind}
use Rattle.change_ops.specs.Reading.{◌>>=◌, id_at, anchor_at}
use Rattle.change_ops.specs.declared.operation.Anchor.{Anchor}
use Rattle.change_ops.specs.declared.operation.Anchor.TheVariants.{TextStart, BeforeCharacter, AfterCharacter, TextEnd}

pub behind_none : (mark : ℕ) (word : List ℕ) → ((rest : List ℕ) → word ≢ mark ∷ rest) → behind mark word ≡ None
behind_none mark [] h = refl
behind_none mark (b ∷ word) h = rw (ne_eqb b mark (λ e. h word (ap (λ (x : ℕ). x ∷ word) e))) refl

pub behind_some : (mark : ℕ) (word rest : List ℕ) → word ≡ mark ∷ rest → behind mark word ≡ Some rest
behind_some mark word rest e = rw (e, eq-eqb mark mark refl) refl

-- what strip_prefix says, as what stands behind the sign
pub behind_sign : (mark : ℕ) (word : List ℕ) (r : Option (Bor (List ℕ))) → MatchOption r ((rest : List ℕ) → word ≢ mark ∷ rest) (λ x. word ≡ mark ∷ x.now)
    → MatchOption r (behind mark word ≡ None) (λ x. behind mark word ≡ Some x.now)
behind_sign mark word None h = behind_none mark word h
behind_sign mark word (Some x) h = behind_some mark word x.now h

-- an anchor, by what stands behind its sign
abbrev pub by_sign : List ℕ → Option (List ℕ) → Option (List ℕ) → Option Anchor
by_sign word (Some name) other = id_at name >>= λ id. Some (BeforeCharacter id)
by_sign word None (Some name) = id_at name >>= λ id. Some (AfterCharacter id)
by_sign word None None = if bytes_eq word (codes "^") then Some TextStart else if bytes_eq word (codes "$") then Some TextEnd else None

pub anchor_signed : (word : List ℕ) → anchor_at word ≡ by_sign word (behind 60 word) (behind 62 word)
unfolding anchor_at
anchor_signed [] = refl
anchor_signed (sign ∷ []) = elim (eqb_tells sign 60) [
  | inl before ↦ rw before.1 refl
  | inr other ↦ elim (eqb_tells sign 62) [
    | inl after ↦ rw after.1 refl
    | inr none ↦ rw (other.0, none.0) (go (eqb sign 94) (eqb sign 36))
  ]
] where
  go : (b c : Bool) → cond b (Some TextStart) (cond c (Some TextEnd) None) ≡ cond (b && true) (Some TextStart) (cond (c && true) (Some TextEnd) None)
  go true c = refl
  go false true = refl
  go false false = refl
anchor_signed (sign ∷ b ∷ name) = elim (eqb_tells sign 60) [
  | inl before ↦ rw before.1 refl
  | inr other ↦ elim (eqb_tells sign 62) [
    | inl after ↦ rw after.1 refl
    | inr none ↦ rw (other.0, none.0) (go (eqb sign 94) (eqb sign 36))
  ]
] where
  go : (b c : Bool) → None ≡ cond (b && false) (Some TextStart) (cond (c && false) (Some TextEnd) None)
  go true true = refl
  go true false = refl
  go false true = refl
  go false false = refl
