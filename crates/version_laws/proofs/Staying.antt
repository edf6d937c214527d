-- Where an element that a change leaves alone stood before the change.
use Rattle.std.proofs.Common.{◌≡◌, ℕ, ◌+◌, ◌-◌, ◌<◌, ◌≤◌, List, ◌∷◌, ◌++◌, Some, None, length, drop, get_or, refl, sym, ap, subst, ◌∙◌, arith, ⊎_elim}
use Rattle.std.specs.List.{slice_get, slice_range, Contains}
use Rattle.std.proofs.lemmas.Bool.{cases_lt}
use Rattle.std.proofs.lemmas.Option.{same_Some, none-some, slice_get-get_or, slice_get_cases, slice_get_within}
use Rattle.change_ops.specs.declared.id.OpId.{OpId}
use Rattle.change_ops.specs.declared.operation.Op.{Op}
use Rattle.char_sequence.specs.Order.{Shows}
use Rattle.char_sequence.specs.declared.sequence.Element.{Element}
use Rattle.mark_places.specs.PlaceRanges.{AreApart}
use Rattle.mark_places.specs.declared.range.PlaceRange.{PlaceRange}
use Rattle.version_laws.specs.Ranges.{AreChangedWithin, LiesOutside, TouchesOneOf}
use Rattle.version_laws.proofs.OldRanges.{low_found, old_within}
use Rattle.version_laws.proofs.Outside.{Precedes, one_way, rises_before, rises_now, stays}
use Rattle.version_laws.proofs.Ranging.{there_outside}
use Rattle.version_laws.proofs.Rising.{Has, Named, Rises, clash, get_drop, get_taken}

-- what stands at a place of a range of the elements
pub at_range : (es : List Element) (from to i : ℕ) → from ≤ i → i < to → slice_get (slice_range es from to) (i - from) ≡ slice_get es i
at_range es from to i low high =
    let same : from + (i - from) ≡ i = omega arith in
    get_taken (to - from) (drop from es) (i - from) (omega arith) ∙ get_drop from es (i - from) ∙ ap (slice_get es) same

-- what stands in both stands from the place on in the old ones exactly if it does in the new ones
pub record AreParted (old new : List Element) (a b : ℕ) : Type 0 where
  pub forth : (i k : ℕ) (x y : Element) → slice_get old i ≡ Some x → slice_get new k ≡ Some y → x.id ≡ y.id → a ≤ i → b ≤ k
  pub back : (i k : ℕ) (x y : Element) → slice_get old i ≡ Some x → slice_get new k ≡ Some y → x.id ≡ y.id → b ≤ k → a ≤ i

pub parted_start : (old new : List Element) → AreParted old new 0 0
parted_start old new = record { forth = λ i k x y g h same le. omega arith; back = λ i k x y g h same le. omega arith }

-- the element stands at the place, from one place on and before another
pub record StandsFrom (old : List Element) (from to : ℕ) (e : Element) (place : ℕ) : Type 0 where
  pub there : slice_get old place ≡ Some e
  pub first : from ≤ place
  pub last : place < to

-- ---- two lists in one strict order of ids, of which the second has each id of the first
module _ (R : OpId → OpId → Type 0) (asym : (a b : OpId) → R a b → R b a → ⊥) (old new : List Element) (was : Rises R old) (now : Rises R new) where
  -- an id stands at one place of the old ones
  one_old : (i j : ℕ) (x y : Element) → slice_get old i ≡ Some x → slice_get old j ≡ Some y → x.id ≡ y.id → i < j → ⊥
  one_old i j x y g h same less = clash R asym x.id y.id same (was i j x y less g h)

  one_new : (i j : ℕ) (x y : Element) → slice_get new i ≡ Some x → slice_get new j ≡ Some y → x.id ≡ y.id → i < j → ⊥
  one_new i j x y g h same less = clash R asym x.id y.id same (now i j x y less g h)

  -- one element at both places parts them
  parted_by : (a b : ℕ) (e : Element) → slice_get old a ≡ Some e → slice_get new b ≡ Some e → AreParted old new a b
  parted_by a b e at_a at_b = record {
    forth =
        λ i k x y g h same le.
        ⊎_elim
        (λ (less : k < b).
        let before : R y.id e.id = now k b y e less h at_b in
        ⊎_elim
        (λ (more : a < i). absurd (asym y.id e.id before (subst (R e.id) same (was a i e x more at_a g))))
        (λ (upto : i ≤ a).
        let here : a ≡ i = omega arith in
        let one : e ≡ x = same_Some e x (sym at_a ∙ ap (slice_get old) here ∙ g) in
        absurd (one_new k b y e h at_b (sym same ∙ ap (λ (z : Element). z.id) (sym one)) less))
        (cases_lt a i))
        (λ (done : b ≤ k). done)
        (cases_lt k b);
    back =
        λ i k x y g h same le.
        ⊎_elim
        (λ (less : i < a).
        let before : R x.id e.id = was i a x e less g at_a in
        ⊎_elim
        (λ (more : b < k). absurd (asym x.id e.id before (subst (R e.id) (sym same) (now b k e y more at_b h))))
        (λ (upto : k ≤ b).
        let here : b ≡ k = omega arith in
        let one : e ≡ y = same_Some e y (sym at_b ∙ ap (slice_get new) here ∙ h) in
        absurd (one_old i a x e g at_a (same ∙ ap (λ (z : Element). z.id) (sym one)) less))
        (cases_lt b k))
        (λ (done : a ≤ i). done)
        (cases_lt i a);
  }

  -- where the same stands at both places, or nothing does, they part what stands before them from the rest
  pub parted_where : (a b : ℕ) → slice_get old a ≡ slice_get new b → AreParted old new a b
  parted_where a b same =
      ⊎_elim
      (λ (some : (x : Element) × (a < length old) × (slice_get old a ≡ Some x) × (get_or old a x ≡ x)). parted_by a b some.0 some.2 (sym same ∙ some.2))
      (λ (none : (length old ≤ a) × (slice_get old a ≡ None)). ended none.0 (sym same ∙ none.1))
      (slice_get_cases old a).1
    where
      ended : length old ≤ a → slice_get new b ≡ None → AreParted old new a b
      ended past nothing = record {
        forth = λ i k x y g h same le. let within : i < length old = slice_get_within old i x g in absurd (omega arith);
        back =
            λ i k x y g h same le.
            let within : k < length new = slice_get_within new k y h in
            let inside : b < length new = omega arith in
            absurd (none-some (get_or new b y) (sym nothing ∙ slice_get-get_or new b y inside));
      }

  -- equal stretches part as their starts do
  pub parted_behind : (a b low at : ℕ) → AreParted old new a b → a ≤ low → b ≤ at → low ≡ a + (at - b) → slice_range old a low ≡ slice_range new b at → AreParted old new low at
  parted_behind a b low at parted from begins size same = record {
    forth =
        λ i k x y g h one le.
        let behind : b ≤ k = parted.forth i k x y g h one (omega arith) in
        ⊎_elim
        (λ (less : k < at).
        let j : ℕ = a + (k - b) in
        let shift : j - a ≡ k - b = omega arith in
        let there : slice_get old j ≡ Some y =
        sym (at_range old a low j (omega arith) (omega arith)) ∙ ap (slice_get (slice_range old a low)) shift
        ∙ ap (λ (l : List Element). slice_get l (k - b)) same ∙ at_range new b at k behind less ∙ h in
        absurd (one_old j i y x there g (sym one) (omega arith)))
        (λ (done : at ≤ k). done)
        (cases_lt k at);
    back =
        λ i k x y g h one le.
        let behind : a ≤ i = parted.back i k x y g h one (omega arith) in
        ⊎_elim
        (λ (less : i < low).
        let j : ℕ = b + (i - a) in
        let shift : j - b ≡ i - a = omega arith in
        let there : slice_get new j ≡ Some x =
        sym (at_range new b at j (omega arith) (omega arith)) ∙ ap (slice_get (slice_range new b at)) shift
        ∙ ap (λ (l : List Element). slice_get l (i - a)) (sym same) ∙ at_range old a low i behind less ∙ g in
        absurd (one_new j k x y there h one (omega arith)))
        (λ (done : low ≤ i). done)
        (cases_lt i low);
  }

  -- ---- a range of the new elements and what it was of the old ones
  module _ (stays : (x : Element) → Has old x → Named new x) (from to low high : ℕ) (inside : to ≤ length old) (begins : AreParted old new from low) (ends : AreParted old new to high) where
    -- where an element of the range, if it was there, stood
    stood : (at : ℕ) (e : Element) → slice_get new at ≡ Some e → Has old e → low ≤ at → at < high → (place : ℕ) × StandsFrom old from to e place
    stood at e h (place, g) within below = (
      place,
      record {
        there = g;
        first = begins.back place at e e g h refl within;
        last =
            ⊎_elim
            (λ (less : place < to). less)
            (λ (past : to ≤ place). let behind : high ≤ at = ends.forth place at e e g h refl past in absurd (omega arith))
            (cases_lt place to);
      },
    )

    -- the first element of the range, if it was there, was the first one
    pub first_stood : (e : Element) → slice_get new low ≡ Some e → Has old e → low < high → StandsFrom old from to e from
    first_stood e h was_there some =
        let r = stood low e h was_there (omega arith) some in
        let place : ℕ = r.0 in
        let first : from ≤ place = r.1.first in
        ⊎_elim
        (λ (less : from < place). absurd (none_before place (r.1.there) less))
        (λ (upto : place ≤ from).
        let same : place ≡ from = omega arith in
        subst (StandsFrom old from to e) same r.1)
        (cases_lt from place)
      where
        none_before : (place : ℕ) → slice_get old place ≡ Some e → from < place → ⊥
        none_before place g less =
            let within : place < length old = slice_get_within old place e g in
            let x : Element = get_or old from e in
            let at : slice_get old from ≡ Some x = slice_get-get_or old from e (omega arith) in
            let named = stays x (from, at) in
            let y : Element = named.0 in
            let k : ℕ = named.1.0 in
            let behind : low ≤ k = begins.forth from k x y at named.1.1 (sym named.2) (omega arith) in
            let before : R y.id e.id = subst (λ z. R z e.id) (sym named.2) (was from place x e less at g) in
            ⊎_elim
            (λ (more : low < k). asym y.id e.id before (now low k e y more h named.1.1))
            (λ (upto : k ≤ low).
            let here : low ≡ k = omega arith in
            let one : e ≡ y = same_Some e y (sym h ∙ ap (slice_get new) here ∙ named.1.1) in
            clash R asym y.id e.id (ap (λ (z : Element). z.id) (sym one)) before)
            (cases_lt low k)

    -- the last element of the range, if it was there, was the last one
    pub last_stood : (last : ℕ) (e : Element) → high ≡ last + 1 → slice_get new last ≡ Some e → Has old e → low ≤ last → (place : ℕ) × StandsFrom old from to e place × (to ≡ place + 1)
    last_stood last e is_last h was_there some =
        let r = stood last e h was_there some (omega arith) in
        let place : ℕ = r.0 in
        let below : place < to = r.1.last in
        ⊎_elim
        (λ (less : place + 1 < to). absurd (none_behind place r.1.there less))
        (λ (upto : to ≤ place + 1). (place, r.1, omega arith))
        (cases_lt (place + 1) to)
      where
        none_behind : (place : ℕ) → slice_get old place ≡ Some e → place + 1 < to → ⊥
        none_behind place g less =
            let x : Element = get_or old (place + 1) e in
            let at : slice_get old (place + 1) ≡ Some x = slice_get-get_or old (place + 1) e (omega arith) in
            let named = stays x (place + 1, at) in
            let y : Element = named.0 in
            let k : ℕ = named.1.0 in
            let behind : R e.id y.id = subst (R e.id) (sym named.2) (was place (place + 1) e x (omega arith) g at) in
            ⊎_elim
            (λ (less_new : k < last). asym e.id y.id behind (now k last y e less_new named.1.1 h))
            (λ (from_last : last ≤ k).
            ⊎_elim
            (λ (below : k < high).
            let here : last ≡ k = omega arith in
            let one : e ≡ y = same_Some e y (sym h ∙ ap (slice_get new) here ∙ named.1.1) in
            clash R asym e.id y.id (ap (λ (z : Element). z.id) one) behind)
            (λ (past : high ≤ k).
            let beyond : to ≤ place + 1 = ends.back (place + 1) k x y at named.1.1 (sym named.2) past in
            absurd (omega arith))
            (cases_lt k high))
            (cases_lt k last)

-- ---- a change
module _ (ops added : List Op) (old new : List Element) (inner : List PlaceRange) (shows : Shows old ops) (shown : Shows new (ops ++ added))
    (touched : (o : Op) → Contains added o → TouchesOneOf (ops ++ added) new inner o) where
  -- where the same stands in both, they are parted
  pub same_places : (a b : ℕ) → slice_get old a ≡ slice_get new b → AreParted old new a b
  same_places = parted_where (Precedes (ops ++ added)) (one_way ops added old new shows shown) old new (rises_before ops added old new shows shown) (rises_now ops added old new shows shown)

  -- the first of several ranges and what it was of the old elements
  module _ (o n : PlaceRange) (os ns : List PlaceRange) (a b : ℕ) (changed : AreChangedWithin old new (o ∷ os) (n ∷ ns) a b) (apart : AreApart (n ∷ ns) b (length new))
      (starts : AreParted old new a b) (ends : AreParted old new o.high n.high) where
    begins : AreParted old new o.low n.low
    begins =
        parted_behind (Precedes (ops ++ added)) (one_way ops added old new shows shown) old new (rises_before ops added old new shows shown) (rises_now ops added old new shows shown)
        a b o.low n.low starts changed.0 apart.0 (low_found old new o n os ns a b changed apart) changed.2

    -- its first element, if the change leaves it alone, was its first one
    pub first_left : (e : Element) → slice_get new n.low ≡ Some e → LiesOutside inner n.low → n.low < n.high → (slice_get old o.low ≡ Some e) × (o.low < o.high)
    first_left e g out some =
        let r =
        first_stood (Precedes (ops ++ added)) (one_way ops added old new shows shown) old new (rises_before ops added old new shows shown) (rises_now ops added old new shows shown)
        (stays ops added old new shows shown) o.low o.high n.low n.high (old_within old new os ns o.high n.high changed.3) begins ends
        e g (there_outside ops added old new inner shows shown touched n.low e g out) some in
        (r.there, r.last)

    -- its last element likewise
    pub last_left : (last : ℕ) (e : Element) → n.high ≡ last + 1 → slice_get new last ≡ Some e → LiesOutside inner last → n.low ≤ last
        → (place : ℕ) × (slice_get old place ≡ Some e) × (o.low ≤ place) × (o.high ≡ place + 1)
    last_left last e is_last g out some =
        let r =
        last_stood (Precedes (ops ++ added)) (one_way ops added old new shows shown) old new (rises_before ops added old new shows shown) (rises_now ops added old new shows shown)
        (stays ops added old new shows shown) o.low o.high n.low n.high (old_within old new os ns o.high n.high changed.3) begins ends
        last e is_last g (there_outside ops added old new inner shows shown touched last e g out) some in
        (r.0, r.1.there, r.1.first, r.2)
