-- How many characters stand before anchors once more of them stand at a place.
use Rattle.std.proofs.Common.{◌≡◌, ℕ, zero, suc, ◌+◌, ◌<◌, ◌≤◌, true, false, List, [], ◌∷◌, ◌++◌, Some, length, set, refl, sym, ap, subst, ◌∙◌, arith, ⊎_elim, length-append}
use Rattle.std.specs.List.{slice_get}
use Rattle.std.proofs.lemmas.Bool.{cases_eq, cases_lt}
use Rattle.std.proofs.lemmas.Option.{same_Some, slice_get_within}
use Rattle.std.proofs.lemmas.List.{length-set}
use Rattle.char_sequence.proofs.Lists.{slice_get_set_same, slice_get_set_other}
use Rattle.change_ops.specs.declared.id.OpId.{OpId}
use Rattle.change_ops.specs.declared.operation.Anchor.{Anchor}
use Rattle.change_ops.specs.declared.operation.Anchor.TheVariants.{TextStart, BeforeCharacter, AfterCharacter, TextEnd}
use Rattle.char_sequence.specs.declared.sequence.Element.{Element}
use Rattle.char_sequence.specs.Order.{IsAt}
use Rattle.change_ops.specs.declared.operation.Op.{Op}
use Rattle.change_ops.specs.declared.operation.Op.TheVariants.{Insert, Remove, AddMark, RemoveMark, Revive}
use Rattle.mark_anchors.specs.Places.{IsBoundary, Lies}
use Rattle.mark_anchors.specs.Anchored.{Begins, Ends}
use Rattle.mark_places.specs.Places.{gives_way}
use Rattle.mark_places.specs.Shifted.{IsShifted}

-- an anchor at the place or behind it moves if it gives way, and one at it or before it stays if it doesn't
moved_on : (place count old new : ℕ) → place ≤ old → IsShifted place count true old new → new ≡ old + count
moved_on place count old new high shifted =
    ⊎_elim
    (λ (behind : place < old). shifted.behind behind)
    (λ (upto : old ≤ place). shifted.moves (omega arith) refl)
    (cases_lt place old)

stays_before : (place count old new : ℕ) → old ≤ place → IsShifted place count false old new → new ≡ old
stays_before place count old new low shifted =
    ⊎_elim
    (λ (before : old < place). shifted.before before)
    (λ (from : place ≤ old). shifted.stays (omega arith) refl)
    (cases_lt old place)

get_low : (front more : List Element) (j : ℕ) (back : List Element) → j < length front → slice_get (front ++ back) j ≡ slice_get (front ++ more) j
get_low [] more j back low = absurd (omega arith)
get_low (x ∷ front) more zero back low = refl
get_low (x ∷ front) more (suc j) back low = get_low front more j back (omega arith)

get_high : (front run back : List Element) (j : ℕ) → length front ≤ j → slice_get (front ++ (run ++ back)) (j + length run) ≡ slice_get (front ++ back) j
get_high [] [] back j high = let same : j + zero ≡ j = omega arith in ap (slice_get back) same
get_high [] (r ∷ run) back j high =
    let same : j + length (r ∷ run) ≡ suc (j + length run) = omega arith in
    ap (slice_get (r ∷ (run ++ back))) same ∙ get_high [] run back j (omega arith)
get_high (x ∷ front) run back zero high = absurd (omega arith)
get_high (x ∷ front) run back (suc j) high =
    let same : suc j + length run ≡ suc (j + length run) = omega arith in
    ap (slice_get (x ∷ (front ++ (run ++ back)))) same ∙ get_high front run back j (omega arith)

pub at_low : (front run back : List Element) (x : OpId) (n : ℕ) → n < length front → IsAt (front ++ back) x n → IsAt (front ++ (run ++ back)) x n
at_low front run back x n low at = (at.0, get_low front back n (run ++ back) low ∙ at.1, at.2)

pub at_high : (front run back : List Element) (x : OpId) (n : ℕ) → length front ≤ n → IsAt (front ++ back) x n → IsAt (front ++ (run ++ back)) x (n + length run)
at_high front run back x n high at = (at.0, get_high front run back n high ∙ at.1, at.2)

-- Characters that come between the first and the last ones shift the boundaries of anchors.
pub boundary_shifted : (front run back : List Element) (anchor : Anchor) (old new : ℕ) → IsBoundary (front ++ back) anchor old → IsShifted (length front) (length run) (gives_way anchor) old new → IsBoundary (front ++ (run ++ back)) anchor new
boundary_shifted front run back TextStart old new is shifted =
    let none : old ≡ 0 = is in
    ⊎_elim
    (λ (low : old < length front). shifted.before low ∙ is)
    (λ (high : length front ≤ old). shifted.stays (omega arith) refl ∙ is)
    (cases_lt old (length front))
boundary_shifted front run back (BeforeCharacter x) old new is shifted =
    ⊎_elim
    (λ (low : old < length front). subst (IsAt (front ++ (run ++ back)) x) (sym (shifted.before low)) (at_low front run back x old low is))
    (λ (high : length front ≤ old). subst (IsAt (front ++ (run ++ back)) x) (sym (moved_on (length front) (length run) old new high shifted)) (at_high front run back x old high is))
    (cases_lt old (length front))
boundary_shifted front run back (AfterCharacter x) old new (k, at, is) shifted =
    let next : old ≡ k + 1 = is in
    ⊎_elim
    (λ (high : length front < old). (k + length run, at_high front run back x k (omega arith) at, shifted.behind high ∙ omega arith))
    (λ (low : old ≤ length front). (k, at_low front run back x k (omega arith) at, stays_before (length front) (length run) old new low shifted ∙ is))
    (cases_lt (length front) old)
boundary_shifted front run back TextEnd old new is shifted =
    let whole : old ≡ length (front ++ back) = is in
    let sized : length (front ++ back) ≡ length front + length back = length-append front back in
    let moved : new ≡ old + length run = moved_on (length front) (length run) old new (omega arith) shifted in
    omega (arith, length-append front (run ++ back), length-append run back)

-- ---- one element instead of another with its id
module _ (es : List Element) (k : ℕ) (was is : Element) (here : slice_get es k ≡ Some was) (same : is.id ≡ was.id) where
  within : k < length es
  within = slice_get_within es k was here

  at_set : (x : OpId) (n : ℕ) → IsAt es x n → IsAt (set es k is) x n
  at_set x n at =
      ⊎_elim
      (λ (e : n ≡ k).
      let one : was ≡ at.0 = same_Some was at.0 (sym here ∙ ap (slice_get es) (sym e) ∙ at.1) in
      (is, ap (slice_get (set es k is)) e ∙ slice_get_set_same es k is within, same ∙ ap (λ z. z.id) one ∙ at.2))
      (λ (other : n ≡ k → ⊥). (at.0, slice_get_set_other es k n is other ∙ at.1, at.2))
      (cases_eq n k)

  -- Hiding or showing a character moves no boundary: the element stays, with its id.
  pub boundary_hidden : (anchor : Anchor) (n : ℕ) → IsBoundary es anchor n → IsBoundary (set es k is) anchor n
  boundary_hidden TextStart n b = b
  boundary_hidden (BeforeCharacter x) n b = at_set x n b
  boundary_hidden (AfterCharacter x) n (j, at, b) = (j, at_set x j at, b)
  boundary_hidden TextEnd n b = b ∙ sym (length-set es k is)

-- ---- the boundaries of a mark
-- Each of a mark's two boundaries is shifted by itself.
pub lies_shifted : (front run back : List Element) (o : Op) (first last first' last' : ℕ) → Lies (front ++ back) o first last → ((anchor : Anchor) → Begins o anchor → IsShifted (length front) (length run) (gives_way anchor) first first') → ((anchor : Anchor) → Ends o anchor → IsShifted (length front) (length run) (gives_way anchor) last last') → Lies (front ++ (run ++ back)) o first' last'
lies_shifted front run back (Insert id parent character) first last first' last' lies begins ends = absurd lies
lies_shifted front run back (Remove id target) first last first' last' lies begins ends = absurd lies
lies_shifted front run back (AddMark id attribute start end) first last first' last' lies begins ends =
    (boundary_shifted front run back start first first' lies.0 (begins start refl), boundary_shifted front run back end last last' lies.1 (ends end refl))
lies_shifted front run back (RemoveMark id key start end) first last first' last' lies begins ends =
    (boundary_shifted front run back start first first' lies.0 (begins start refl), boundary_shifted front run back end last last' lies.1 (ends end refl))
lies_shifted front run back (Revive id removal) first last first' last' lies begins ends = absurd lies

-- Hiding or showing a character leaves them.
pub lies_hidden : (es : List Element) (k : ℕ) (was is : Element) → slice_get es k ≡ Some was → is.id ≡ was.id → (o : Op) (first last : ℕ) → Lies es o first last → Lies (set es k is) o first last
lies_hidden es k was is here same (Insert id parent character) first last lies = absurd lies
lies_hidden es k was is here same (Remove id target) first last lies = absurd lies
lies_hidden es k was is here same (AddMark id attribute start end) first last lies =
    (boundary_hidden es k was is here same start first lies.0, boundary_hidden es k was is here same end last lies.1)
lies_hidden es k was is here same (RemoveMark id key start end) first last lies =
    (boundary_hidden es k was is here same start first lies.0, boundary_hidden es k was is here same end last lies.1)
lies_hidden es k was is here same (Revive id removal) first last lies = absurd lies
