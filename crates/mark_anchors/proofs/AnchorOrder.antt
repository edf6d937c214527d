-- The order of anchors is that of their list.
use Rattle.std.proofs.Common.{◌≡◌, ◌↔◌, ℕ, zero, suc, ◌+◌, ◌*◌, ◌<◌, ◌≤◌, List, [], ◌∷◌, ◌++◌, Some, length, flat_map, refl, subst, arith}
use Rattle.std.specs.List.{slice_get}
use Rattle.std.proofs.lemmas.Option.{same_Some, none-some, slice_get_within}
use Rattle.change_ops.specs.declared.id.OpId.{OpId}
use Rattle.change_ops.specs.declared.operation.Anchor.{Anchor}
use Rattle.change_ops.specs.declared.operation.Anchor.TheVariants.{TextStart, BeforeCharacter, AfterCharacter, TextEnd}
use Rattle.change_ops.specs.declared.operation.Op.{Op}
use Rattle.char_sequence.specs.declared.sequence.Element.{Element}
use Rattle.char_sequence.specs.Order.{IsAt, Shows}
use Rattle.mark_anchors.specs.Anchors.{AtOrBefore}
use Rattle.mark_anchors.specs.AnchorList.{anchors_of}
use Rattle.mark_anchors.proofs.Places.{before_from_places, places_from_before, not_after_from_places, places_from_not_after}

-- where an anchor stands behind the start
abbrev IsBeside : List Element → Anchor → ℕ → Type 0
IsBeside es TextStart n = ⊥
IsBeside es (BeforeCharacter x) n = (k : ℕ) × IsAt es x k × (n ≡ 2 * k)
IsBeside es (AfterCharacter x) n = (k : ℕ) × IsAt es x k × (n ≡ 2 * k + 1)
IsBeside es TextEnd n = n ≡ 2 * length es

further : (e : Element) (es : List Element) (a : Anchor) (n : ℕ) → IsBeside es a n → IsBeside (e ∷ es) a (suc (suc n))
further e es TextStart n is = absurd is
further e es (BeforeCharacter x) n (k, at, is) = let eq : n ≡ 2 * k = is in (suc k, at, omega arith)
further e es (AfterCharacter x) n (k, at, is) = let eq : n ≡ 2 * k + 1 = is in (suc k, at, omega arith)
further e es TextEnd n is = let eq : n ≡ 2 * length es = is in omega arith

beside : (es : List Element) (n : ℕ) (a : Anchor) → slice_get (flat_map (λ e. BeforeCharacter e.id ∷ AfterCharacter e.id ∷ []) es ++ TextEnd ∷ []) n ≡ Some a → IsBeside es a n
beside [] zero a g = subst (λ z. IsBeside [] z zero) (same_Some TextEnd a g) refl
beside [] (suc n) a g = absurd (none-some a g)
beside (e ∷ es) zero a g = subst (λ z. IsBeside (e ∷ es) z zero) (same_Some (BeforeCharacter e.id) a g) (zero, (e, refl, refl), refl)
beside (e ∷ es) (suc zero) a g = subst (λ z. IsBeside (e ∷ es) z (suc zero)) (same_Some (AfterCharacter e.id) a g) (zero, (e, refl, refl), refl)
beside (e ∷ es) (suc (suc n)) a g = further e es a n (beside es n a g)

-- the anchor before or after a character stands before the end
upto_end : (es : List Element) (x : OpId) (k : ℕ) → IsAt es x k → k < length es
upto_end es x k at = slice_get_within es k at.0 at.1

ordered : (ops : List Op) (es : List Element) → Shows es ops → (a b : Anchor) (m n : ℕ) → IsBeside es a m → IsBeside es b n → AtOrBefore ops a b ↔ (m ≤ n)
ordered ops es h TextStart b m n is also = absurd is
ordered ops es h a TextStart m n is also = absurd also
ordered ops es h TextEnd TextEnd m n is also = let x : m ≡ 2 * length es = is in let y : n ≡ 2 * length es = also in (λ t. omega arith, λ le. tt)
ordered ops es h TextEnd (BeforeCharacter y) m n is (j, bt, also) =
    let p : m ≡ 2 * length es = is in
    let q : n ≡ 2 * j = also in
    let within : j < length es = upto_end es y j bt in
    (λ t. absurd t, λ le. absurd (omega arith))
ordered ops es h TextEnd (AfterCharacter y) m n is (j, bt, also) =
    let p : m ≡ 2 * length es = is in
    let q : n ≡ 2 * j + 1 = also in
    let within : j < length es = upto_end es y j bt in
    (λ t. absurd t, λ le. absurd (omega arith))
ordered ops es h (BeforeCharacter x) TextEnd m n (i, at, is) also =
    let p : m ≡ 2 * i = is in
    let q : n ≡ 2 * length es = also in
    let within : i < length es = upto_end es x i at in
    (λ t. omega arith, λ le. tt)
ordered ops es h (AfterCharacter x) TextEnd m n (i, at, is) also =
    let p : m ≡ 2 * i + 1 = is in
    let q : n ≡ 2 * length es = also in
    let within : i < length es = upto_end es x i at in
    (λ t. omega arith, λ le. tt)
ordered ops es h (BeforeCharacter x) (BeforeCharacter y) m n (i, at, is) (j, bt, also) =
    let p : m ≡ 2 * i = is in
    let q : n ≡ 2 * j = also in
    (λ t. let le : i ≤ j = places_from_not_after ops es h x y i j at bt t in omega arith, λ le. not_after_from_places ops es h x y i j at bt (omega arith))
ordered ops es h (BeforeCharacter x) (AfterCharacter y) m n (i, at, is) (j, bt, also) =
    let p : m ≡ 2 * i = is in
    let q : n ≡ 2 * j + 1 = also in
    (λ t. let le : i ≤ j = places_from_not_after ops es h x y i j at bt t in omega arith, λ le. not_after_from_places ops es h x y i j at bt (omega arith))
ordered ops es h (AfterCharacter x) (AfterCharacter y) m n (i, at, is) (j, bt, also) =
    let p : m ≡ 2 * i + 1 = is in
    let q : n ≡ 2 * j + 1 = also in
    (λ t. let le : i ≤ j = places_from_not_after ops es h x y i j at bt t in omega arith, λ le. not_after_from_places ops es h x y i j at bt (omega arith))
ordered ops es h (AfterCharacter x) (BeforeCharacter y) m n (i, at, is) (j, bt, also) =
    let p : m ≡ 2 * i + 1 = is in
    let q : n ≡ 2 * j = also in
    (λ t. let less : i < j = places_from_before ops es h x y i j at bt t in omega arith, λ le. before_from_places ops es h x y i j at bt (omega arith))

pub anchors_ordered : (ops : List Op) (es : List Element) → Shows es ops → (m n : ℕ) (a b : Anchor) → slice_get (anchors_of es) m ≡ Some a → slice_get (anchors_of es) n ≡ Some b → AtOrBefore ops a b ↔ (m ≤ n)
anchors_ordered ops es h zero n a b g k = subst (λ z. AtOrBefore ops z b ↔ (zero ≤ n)) (same_Some TextStart a g) (λ t. omega arith, λ le. tt)
anchors_ordered ops es h (suc m) zero a b g k =
    subst (λ z. AtOrBefore ops a z ↔ (suc m ≤ zero)) (same_Some TextStart b k) (λ t. absurd (not_start a (beside es m a g) t), λ le. absurd (omega arith))
  where
    not_start : (a : Anchor) → IsBeside es a m → AtOrBefore ops a TextStart → ⊥
    not_start TextStart is t = is
    not_start (BeforeCharacter x) is t = t
    not_start (AfterCharacter x) is t = t
    not_start TextEnd is t = t
anchors_ordered ops es h (suc m) (suc n) a b g k =
    let r = ordered ops es h a b m n (beside es m a g) (beside es n b k) in
    (λ t. let le : m ≤ n = r.0 t in omega arith, λ le. r.1 (omega arith))
