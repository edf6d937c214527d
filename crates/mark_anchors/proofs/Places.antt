-- Places and the order of characters.
use Rattle.std.proofs.Common.{◌≡◌, ℕ, ◌<◌, ◌≤◌, ◌+◌, List, Some, inl, inr, length, sym, ap, ◌∙◌, subst, arith, ⊎_elim}
use Rattle.std.specs.List.{slice_get}
use Rattle.std.proofs.lemmas.Bool.{cases_lt}
use Rattle.std.proofs.lemmas.Option.{same_Some, slice_get_within}
use Rattle.change_ops.specs.declared.id.OpId.{OpId}
use Rattle.change_ops.specs.declared.operation.Anchor.{Anchor}
use Rattle.change_ops.specs.declared.operation.Anchor.TheVariants.{TextStart, BeforeCharacter, AfterCharacter, TextEnd}
use Rattle.change_ops.specs.declared.operation.Op.{Op}
use Rattle.char_sequence.specs.declared.sequence.Element.{Element}
use Rattle.char_sequence.specs.Order.{Before, Shows, IsAt}
use Rattle.char_sequence.proofs.TreeLaws.{before_asym, before_irrefl}
use Rattle.mark_anchors.specs.Anchors.{NotAfter, AtOrBefore}
use Rattle.mark_anchors.specs.Places.{IsBoundary}

pub before_from_places : (ops : List Op) (es : List Element) → Shows es ops → (x y : OpId) (i j : ℕ) → IsAt es x i → IsAt es y j → i < j → Before ops (Some x) y
before_from_places ops es h x y i j (a, g, e) (b, k, f) less =
    subst (λ z. Before ops (Some z) y) e (subst (λ z. Before ops (Some a.id) z) f (h.text.ordered i j a b less g k))

pub same_character : (es : List Element) (x y : OpId) (i j : ℕ) → IsAt es x i → IsAt es y j → i ≡ j → x ≡ y
same_character es x y i j at bt same =
    let one : at.0 ≡ bt.0 = same_Some at.0 bt.0 (sym at.1 ∙ ap (slice_get es) same ∙ bt.1) in
    sym at.2 ∙ ap (λ z. z.id) one ∙ bt.2

pub places_from_before : (ops : List Op) (es : List Element) → Shows es ops → (x y : OpId) (i j : ℕ) → IsAt es x i → IsAt es y j → Before ops (Some x) y → i < j
places_from_before ops es h x y i j at bt before =
    ⊎_elim
    (λ (less : i < j). less)
    (λ (ge : j ≤ i).
    ⊎_elim
    (λ (less : j < i). absurd (before_asym ops h.tree x y before (before_from_places ops es h y x j i bt at less)))
    (λ (le : i ≤ j). absurd (before_irrefl ops h.tree y (subst (λ z. Before ops (Some z) y) (same_character es x y i j at bt (omega arith)) before)))
    (cases_lt j i))
    (cases_lt i j)

-- one character stands at one place
pub same_place : (ops : List Op) (es : List Element) → Shows es ops → (x y : OpId) (i j : ℕ) → IsAt es x i → IsAt es y j → x ≡ y → i ≡ j
same_place ops es h x y i j at bt same =
    ⊎_elim
    (λ (less : i < j). absurd (before_irrefl ops h.tree y (subst (λ z. Before ops (Some z) y) same (before_from_places ops es h x y i j at bt less))))
    (λ (ge : j ≤ i).
    ⊎_elim
    (λ (less : j < i). absurd (before_irrefl ops h.tree y (subst (λ z. Before ops (Some y) z) same (before_from_places ops es h y x j i bt at less))))
    (λ (le : i ≤ j). omega arith)
    (cases_lt j i))
    (cases_lt i j)

pub not_after_from_places : (ops : List Op) (es : List Element) → Shows es ops → (x y : OpId) (i j : ℕ) → IsAt es x i → IsAt es y j → i ≤ j → NotAfter ops x y
not_after_from_places ops es h x y i j at bt le =
    ⊎_elim
    (λ (less : i < j). inr (before_from_places ops es h x y i j at bt less))
    (λ (ge : j ≤ i). inl (same_character es x y i j at bt (omega arith)))
    (cases_lt i j)

pub places_from_not_after : (ops : List Op) (es : List Element) → Shows es ops → (x y : OpId) (i j : ℕ) → IsAt es x i → IsAt es y j → NotAfter ops x y → i ≤ j
places_from_not_after ops es h x y i j at bt (inl same) = let one : i ≡ j = same_place ops es h x y i j at bt same in omega arith
places_from_not_after ops es h x y i j at bt (inr before) = let less : i < j = places_from_before ops es h x y i j at bt before in omega arith

-- ---- an anchor with n characters before it, and the anchors of the character at the place k
pub starts_from_place : (ops : List Op) (es : List Element) → Shows es ops → (anchor : Anchor) (n k : ℕ) (e : OpId) → IsBoundary es anchor n → IsAt es e k → n ≤ k → AtOrBefore ops anchor (BeforeCharacter e)
starts_from_place ops es h TextStart n k e is at le = tt
starts_from_place ops es h (BeforeCharacter x) n k e is at le = not_after_from_places ops es h x e n k is at le
starts_from_place ops es h (AfterCharacter x) n k e (i, is, next) at le =
    let eq : n ≡ i + 1 = next in
    before_from_places ops es h x e i k is at (omega arith)
starts_from_place ops es h TextEnd n k e is at le =
    let eq : n ≡ length es = is in
    let within : k < length es = slice_get_within es k at.0 at.1 in
    absurd (omega arith)

pub place_from_starts : (ops : List Op) (es : List Element) → Shows es ops → (anchor : Anchor) (n k : ℕ) (e : OpId) → IsBoundary es anchor n → IsAt es e k → AtOrBefore ops anchor (BeforeCharacter e) → n ≤ k
place_from_starts ops es h TextStart n k e is at covers = let eq : n ≡ 0 = is in omega arith
place_from_starts ops es h (BeforeCharacter x) n k e is at covers = places_from_not_after ops es h x e n k is at covers
place_from_starts ops es h (AfterCharacter x) n k e (i, is, next) at covers =
    let eq : n ≡ i + 1 = next in
    let less : i < k = places_from_before ops es h x e i k is at covers in
    omega arith
place_from_starts ops es h TextEnd n k e is at covers = absurd covers

pub ends_from_place : (ops : List Op) (es : List Element) → Shows es ops → (anchor : Anchor) (n k : ℕ) (e : OpId) → IsBoundary es anchor n → IsAt es e k → k < n → AtOrBefore ops (AfterCharacter e) anchor
ends_from_place ops es h TextStart n k e is at less = let eq : n ≡ 0 = is in absurd (omega arith)
ends_from_place ops es h (BeforeCharacter x) n k e is at less = before_from_places ops es h e x k n at is less
ends_from_place ops es h (AfterCharacter x) n k e (i, is, next) at less =
    let eq : n ≡ i + 1 = next in
    not_after_from_places ops es h e x k i at is (omega arith)
ends_from_place ops es h TextEnd n k e is at less = tt

pub place_from_ends : (ops : List Op) (es : List Element) → Shows es ops → (anchor : Anchor) (n k : ℕ) (e : OpId) → IsBoundary es anchor n → IsAt es e k → AtOrBefore ops (AfterCharacter e) anchor → k < n
place_from_ends ops es h TextStart n k e is at covers = absurd covers
place_from_ends ops es h (BeforeCharacter x) n k e is at covers = places_from_before ops es h e x k n at is covers
place_from_ends ops es h (AfterCharacter x) n k e (i, is, next) at covers =
    let eq : n ≡ i + 1 = next in
    let le : k ≤ i = places_from_not_after ops es h e x k i at is covers in
    omega arith
place_from_ends ops es h TextEnd n k e is at covers =
    let eq : n ≡ length es = is in
    let within : k < length es = slice_get_within es k at.0 at.1 in
    omega arith
