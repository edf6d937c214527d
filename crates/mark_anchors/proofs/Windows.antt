-- Rising places, and those of them in a window.
use Rattle.std.proofs.Common.{◌≡◌, ℕ, ◌+◌, ◌-◌, ◌<◌, ◌≤◌, List, [], ◌∷◌, ◌++◌, Some, length, get_or, take, drop, sym, ap, ◌∙◌, subst, arith, length-drop, ⊎_elim}
use Rattle.std.specs.List.{slice_get, Contains}
use Rattle.std.specs.List.Sorted.{IsStrictlyIncreasing}
use Rattle.std.proofs.lemmas.Bool.{cases_lt}
use Rattle.std.proofs.lemmas.List.{get_or-take, get_or-drop, length-take-le}
use Rattle.std.proofs.lemmas.List.Elements.{Contains-append_left, Contains-push, Contains-push_cases}
use Rattle.std.proofs.lemmas.Option.{slice_get_within, slice_get-get_or, get_or_from_slice_get}
use Rattle.mark_anchors.specs.KeyMarks.{IsCountBelow, IsCountUpTo}
use Rattle.mark_anchors.specs.Ranges.{AreWithin, IsCutAt}
use Rattle.mark_anchors.specs.Resolution.{AreInWindow}
use Rattle.mark_anchors.proofs.Commenting.{rises, increasing}
use Rattle.mark_anchors.proofs.Lists.{contains_at, contains_from, item_at, pushed_at}

-- a place more, behind all others
pub rising_push : (places : List ℕ) (place : ℕ) → IsStrictlyIncreasing places → ((c : ℕ) → Contains places c → c < place) → IsStrictlyIncreasing (places ++ place ∷ [])
rising_push places place rising behind =
    increasing (places ++ place ∷ [])
    (λ i j x y less g h.
    ⊎_elim
    (λ (old : slice_get places j ≡ Some y).
    let within : j < length places = slice_get_within places j y old in
    ⊎_elim
    (λ (before : slice_get places i ≡ Some x). rises places rising i j x y less before old)
    (λ (last : (i ≡ length places) × (place ≡ x)). let end : i ≡ length places = last.0 in absurd (omega arith))
    (pushed_at places place i x g))
    (λ (new : (j ≡ length places) × (place ≡ y)).
    let end : j ≡ length places = new.0 in
    ⊎_elim
    (λ (before : slice_get places i ≡ Some x). subst (λ z. x < z) new.1 (behind x (contains_from places i x before)))
    (λ (last : (i ≡ length places) × (place ≡ x)). let also : i ≡ length places = last.0 in absurd (omega arith))
    (pushed_at places place i x g))
    (pushed_at places place j y h))

-- ---- those behind `low` and before `high`
module _ (places : List ℕ) (low high from to : ℕ) (rising : IsStrictlyIncreasing places) (less : low < high)
    (start : IsCountUpTo places low from) (stop : IsCountBelow places high to) (within : from ≤ length places) (end : to ≤ length places) where
  pub window_order : from ≤ to
  window_order =
      ⊎_elim
      (λ (late : to < from).
      let place = item_at places to (omega arith) in
      let early : place.0 ≤ low = (start to place.0 place.1).0 late in
      let again : to < to = (stop to place.0 place.1).1 (omega arith) in
      absurd (omega arith))
      (λ (le : from ≤ to). le)
      (cases_lt to from)

  abbrev pub middle : List ℕ
  middle = take (to - from) (drop from places)

  sized : length middle ≡ to - from
  sized =
      let order : from ≤ to = window_order in
      let rest : length (drop from places) ≡ length places - from = length-drop from places in
      length-take-le (to - from) (drop from places) (omega arith)

  middle_at : (i d : ℕ) → i < to - from → get_or middle i d ≡ get_or places (from + i) d
  middle_at i d inside = get_or-take (to - from) (drop from places) i d inside ∙ get_or-drop from places i d

  middle_rising : IsStrictlyIncreasing middle
  middle_rising k inside =
      let size : length middle ≡ to - from = sized in
      let next : (from + k) + 1 ≡ from + (k + 1) = omega arith in
      let here : get_or middle k 0 ≡ get_or places (from + k) 0 = middle_at k 0 (omega arith) in
      let there : get_or middle (k + 1) 0 ≡ get_or places (from + (k + 1)) 0 = middle_at (k + 1) 0 (omega arith) in
      let same : get_or places ((from + k) + 1) 0 ≡ get_or places (from + (k + 1)) 0 = ap (λ n. get_or places n 0) next in
      let order : get_or places (from + k) 0 < get_or places ((from + k) + 1) 0 = rising (from + k) (omega arith) in
      omega arith

  middle_within : (c : ℕ) → Contains middle c → (low < c) × (c < high)
  middle_within c held =
      let i : ℕ = held.0 in
      let inside : i < length middle = held.1 in
      let size : length middle ≡ to - from = sized in
      let is : get_or places (from + i) c ≡ c = sym (middle_at i c (omega arith)) ∙ held.2 in
      let at : slice_get places (from + i) ≡ Some c = slice_get-get_or places (from + i) c (omega arith) ∙ ap Some is in (
        ⊎_elim
            (λ (behind : low < c). behind)
            (λ (early : c ≤ low). let before : from + i < from = (start (from + i) c at).1 early in absurd (omega arith))
            (cases_lt low c),
        (stop (from + i) c at).0 (omega arith),
      )

  middle_holds : (c : ℕ) → Contains places c → low < c → c < high → Contains middle c
  middle_holds c held behind before =
      let j = contains_at places c held in
      let size : length middle ≡ to - from = sized in
      let upto : j.0 < to = (stop j.0 c j.1).1 before in
      let since : from ≤ j.0 =
      ⊎_elim
      (λ (early : j.0 < from). let not : c ≤ low = (start j.0 c j.1).0 early in absurd (omega arith))
      (λ (ge : from ≤ j.0). ge)
      (cases_lt j.0 from) in
      let sum : from + (j.0 - from) ≡ j.0 = omega arith in
      (j.0 - from, omega arith, middle_at (j.0 - from) c (omega arith) ∙ ap (λ n. get_or places n c) sum ∙ get_or_from_slice_get places j.0 c c j.1)

  window_within : AreWithin low high (middle ++ high ∷ [])
  window_within c held =
      ⊎_elim
      (λ (old : Contains middle c). let inside = middle_within c old in let before : c < high = inside.1 in (inside.0, omega arith))
      (λ (new : high ≡ c). subst (λ z. (low < z) × (z ≤ high)) new (less, omega arith))
      (Contains-push_cases middle high c held)

  window_every : (place : ℕ) → Contains places place → IsCutAt low high (middle ++ high ∷ []) place
  window_every place held behind upto =
      ⊎_elim
      (λ (before : place < high). Contains-append_left middle (high ∷ []) place (middle_holds place held behind before))
      (λ (ge : high ≤ place). let same : high ≡ place = omega arith in subst (Contains (middle ++ high ∷ [])) same (Contains-push middle high))
      (cases_lt place high)

  pub in_window : AreInWindow places low high (middle ++ high ∷ [])
  in_window = record {
    rising = rising_push middle high middle_rising (λ c held. (middle_within c held).1);
    within = window_within;
    end = λ behind. Contains-push middle high;
    every = window_every;
  }

-- none, where `high` is not behind `low`
pub no_window : (places : List ℕ) (low high : ℕ) → high ≤ low → AreInWindow places low high []
no_window places low high not = record {
  rising = λ k within. absurd (omega arith);
  within = λ c held. let inside : held.0 < 0 = held.1 in absurd (omega arith);
  end = λ behind. absurd (omega arith);
  every = λ place held behind upto. absurd (omega arith);
}
