-- The ranges of a peer's counters: which counters stand in them, and how they grow.
use Rattle.std.proofs.Common.{◌≡◌, ℕ, zero, suc, ◌+◌, ◌-◌, ◌<◌, ◌≤◌, ◌^◌, List, [], ◌∷◌, ◌++◌, Some, length, set, sym, ap, refl, ◌∙◌, subst, arith, ⊎_elim, append_assoc, length-append}
use Rattle.std.specs.List.{slice_get, insert, remove, flat_map, Contains, range_with_len}
use Rattle.std.specs.List.Sorted.{IsPermutation}
use Rattle.std.proofs.lemmas.Option.{same_Some, none-some}
use Rattle.std.proofs.lemmas.Bool.{cases_lt, cases_eq}
use Rattle.std.proofs.lemmas.List.Elements.{Contains-append_left, Contains-append_right, Contains-append_cases}
use Rattle.std.proofs.lemmas.List.Sorted.{IsPermutation-refl, IsPermutation-sym, IsPermutation-trans, IsPermutation-append_right, IsPermutation-middle}
use Rattle.removal_runs.specs.Apart.{AreApart, HaveBegun}
use Rattle.removal_runs.specs.IdSets.{begin_of_range, end_of_range, counters_in, AreRanges}
use Rattle.removal_runs.specs.declared.peer_ranges.Range.{Range}
use Rattle.removal_runs.proofs.Apart.{ends_before, is_some, high_is_above, insert_apart, set_apart, AllBefore, AllBehind}
use Rattle.removal_runs.proofs.Joining.{StandsIn, nothing_there, stands_in, from_part, more_in_part, part_inserted, one_more}
use Rattle.removal_runs.proofs.Placing.{place_within}

-- ---- counters from one on
only_one : (a c : ℕ) → Contains (a ∷ []) c → a ≡ c
only_one a c (zero, within, at) = at
only_one a c (suc k, within, at) = absurd (omega (arith, within))

above : (a c : ℕ) → a ≤ c → (a ≡ c → ⊥) → a + 1 ≤ c
above a c le other =
    ⊎_elim
    (λ (less : a < c). omega arith)
    (λ (ge : c ≤ a). absurd (other (omega arith)))
    (cases_lt a c)

pub counted_from : (from count c : ℕ) → Contains (range_with_len from count) c → (from ≤ c) × (c < from + count)
counted_from from zero c h = absurd (nothing_there c h)
counted_from from (suc n) c h =
    ⊎_elim
    (λ (here : Contains (from ∷ []) c).
    let is : from ≡ c = only_one from c here in
    (omega arith, omega arith))
    (λ (later : Contains (range_with_len (from + 1) n) c).
    let rest = counted_from (from + 1) n c later in
    let low : from + 1 ≤ c = rest.0 in
    let high : c < from + 1 + n = rest.1 in
    (omega arith, omega arith))
    (Contains-append_cases (from ∷ []) (range_with_len (from + 1) n) c h)

pub counts_to : (from count c : ℕ) → from ≤ c → c < from + count → Contains (range_with_len from count) c
counts_to from zero c low high = absurd (omega arith)
counts_to from (suc n) c low high =
    ⊎_elim
    (λ (same : from ≡ c). subst (λ z. Contains (from ∷ range_with_len (from + 1) n) z) same (Contains-append_left (from ∷ []) (range_with_len (from + 1) n) from (zero, omega arith, refl)))
    (λ (other : from ≡ c → ⊥). Contains-append_right (from ∷ []) (range_with_len (from + 1) n) c (counts_to (from + 1) n c (above from c low other) (omega arith)))
    (cases_eq from c)

-- two parts, one behind the other
pub counted_on : (from a b : ℕ) → range_with_len from (a + b) ≡ range_with_len from a ++ range_with_len (from + a) b
counted_on from zero b = let none : 0 + b ≡ b = omega arith in let here : from + 0 ≡ from = omega arith in ap (range_with_len from) none ∙ ap (λ z. range_with_len z b) (sym here)
counted_on from (suc a) b =
    let more : suc a + b ≡ suc (a + b) = omega arith in
    let on : from + 1 + a ≡ from + suc a = omega arith in
    ap (range_with_len from) more ∙ ap (λ z. from ∷ z) (counted_on (from + 1) a b) ∙ ap (λ z. from ∷ (range_with_len (from + 1) a ++ range_with_len z b)) on

pub size_counted : (from count : ℕ) → length (range_with_len from count) ≡ count
size_counted from zero = refl
size_counted from (suc n) = ap suc (size_counted (from + 1) n)

-- ---- the counters of ranges
range_size : (range : Range) → range.first < range.last + 1 → (size : ℕ) × (range.last + 1 - range.first ≡ size) × (range.first + size ≡ range.last + 1)
range_size range some = (range.last + 1 - range.first, refl, omega arith)

pub in_range : (range : Range) (c : ℕ) → range.first < range.last + 1 → Contains (counters_in range) c → (range.first ≤ c) × (c ≤ range.last)
in_range range c some has =
    let is = counted_from range.first (range.last + 1 - range.first) c has in
    let low : range.first ≤ c = is.0 in
    let high : c < range.first + (range.last + 1 - range.first) = is.1 in
    (omega arith, omega arith)

pub to_range : (range : Range) (c : ℕ) → range.first ≤ c → c ≤ range.last → Contains (counters_in range) c
to_range range c low high = counts_to range.first (range.last + 1 - range.first) c low (omega arith)

pub ranges_are_few : (low : ℕ) (ranges : List Range) (high : ℕ) → AreApart begin_of_range end_of_range low ranges high → length ranges ≤ length (flat_map counters_in ranges)
ranges_are_few low [] high apart = omega arith
ranges_are_few low (range ∷ ranges) high apart =
    let some : range.first < range.last + 1 = apart.1 in
    let first = size_counted range.first (range.last + 1 - range.first) in
    let rest = ranges_are_few (range.last + 1) ranges high apart.2 in
    omega (arith, length-append (counters_in range) (flat_map counters_in ranges))

-- ---- where a counter stands
pub record StandsAt (ranges : List Range) (counter begun : ℕ) : Type 0 where
  pub range : Range
  pub some : 1 ≤ begun
  pub at : slice_get ranges (begun - 1) ≡ Some range
  pub to : counter ≤ range.last

-- the range of a counter is the last that has begun
last_range : (ranges : List Range) (counter begun k : ℕ) (range : Range) → AreRanges ranges → HaveBegun begin_of_range ranges counter begun → slice_get ranges k ≡ Some range → range.first ≤ counter → counter ≤ range.last → suc k ≡ begun
last_range ranges counter begun k range ok begins at from to =
    let within = begins.within in
    ⊎_elim
    (λ (low : k < begun).
    ⊎_elim
    (λ (before : suc k < begun).
    let next = place_within ranges (suc k) (omega arith) in
    let ends : range.last + 1 ≤ next.0.first = ends_before begin_of_range end_of_range 0 ranges (2 ^ 48) k (suc k) range next.0 ok (omega arith) at next.1 in
    let begun_too : next.0.first ≤ counter = begins.first (suc k) next.0 before next.1 in
    absurd (omega arith))
    (λ (last : begun ≤ suc k). omega arith)
    (cases_lt (suc k) begun))
    (λ (high : begun ≤ k). let past : counter < range.first = begins.rest k range high at in absurd (omega arith))
    (cases_lt k begun)

pub stands_at : (ranges : List Range) (counter begun : ℕ) → AreRanges ranges → HaveBegun begin_of_range ranges counter begun → Contains (flat_map counters_in ranges) counter → StandsAt ranges counter begun
stands_at ranges counter begun ok begins has =
    let stands : StandsIn counters_in ranges counter = stands_in counters_in ranges counter has in
    let range : Range = stands.part in
    let some : range.first < range.last + 1 = is_some begin_of_range end_of_range 0 ranges (2 ^ 48) stands.place range ok stands.at in
    let inside = in_range range counter some stands.has in
    let from : range.first ≤ counter = inside.0 in
    let to : counter ≤ range.last = inside.1 in
    let last : suc stands.place ≡ begun = last_range ranges counter begun stands.place range ok begins stands.at from to in
    let back : stands.place ≡ begun - 1 = omega arith in
    record { range = range; some = omega arith; at = ap (slice_get ranges) (sym back) ∙ stands.at; to = to }

pub stands_there : (ranges : List Range) (counter begun : ℕ) (range : Range) → HaveBegun begin_of_range ranges counter begun → 1 ≤ begun → slice_get ranges (begun - 1) ≡ Some range → counter ≤ range.last → Contains (flat_map counters_in ranges) counter
stands_there ranges counter begun range begins some at to =
    from_part counters_in ranges (begun - 1) range counter at (to_range range counter (begins.first (begun - 1) range (omega arith) at) to)

-- ---- one more counter
-- every range before the place of a counter that is in none ends before it
pub before_place : (ranges : List Range) (counter place : ℕ) → HaveBegun begin_of_range ranges counter place → (Contains (flat_map counters_in ranges) counter → ⊥) → AllBefore end_of_range ranges place counter
before_place ranges counter place begins fresh k range less at =
    let from : range.first ≤ counter = begins.first k range less at in
    ⊎_elim
    (λ (before : range.last < counter). omega arith)
    (λ (to : counter ≤ range.last). absurd (fresh (from_part counters_in ranges k range counter at (to_range range counter from to))))
    (cases_lt range.last counter)

pub behind_place : (ranges : List Range) (counter place : ℕ) → HaveBegun begin_of_range ranges counter place → AllBehind begin_of_range ranges place (counter + 1)
behind_place ranges counter place begins k range le at = let past : counter < range.first = begins.rest k range le at in omega arith

-- a range of its own
pub alone : (ranges : List Range) (counter place : ℕ) (one : Range) → AreRanges ranges → HaveBegun begin_of_range ranges counter place → (Contains (flat_map counters_in ranges) counter → ⊥) → counter < 2 ^ 48 → one.first ≡ counter → one.last ≡ counter → AreRanges (insert ranges place one) × IsPermutation (counter ∷ flat_map counters_in ranges) (flat_map counters_in (insert ranges place one))
alone ranges counter place one ok begins fresh small first last =
    let size : one.last + 1 - one.first ≡ 1 = omega arith in (
      insert_apart begin_of_range end_of_range 0 ranges (2 ^ 48) place one ok (omega arith) (omega arith) (omega arith)
          (subst (λ z. AllBefore end_of_range ranges place z) (sym first) (before_place ranges counter place begins fresh))
          (subst (λ z. AllBehind begin_of_range ranges place (z + 1)) (sym last) (behind_place ranges counter place begins)),
      part_inserted counters_in ranges place one counter (ap (range_with_len one.first) size ∙ ap (λ z. z ∷ []) first),
    )

-- the range before the place goes on to the counter
pub joined_before : (ranges : List Range) (counter place : ℕ) (range longer : Range) → AreRanges ranges → HaveBegun begin_of_range ranges counter place → counter < 2 ^ 48 → slice_get ranges (place - 1) ≡ Some range → 1 ≤ place → range.last + 1 ≡ counter → longer.first ≡ range.first → longer.last ≡ counter → AreRanges (set ranges (place - 1) longer) × IsPermutation (counter ∷ flat_map counters_in ranges) (flat_map counters_in (set ranges (place - 1) longer))
joined_before ranges counter place range longer ok begins small at some next first last =
    let nonempty : range.first < range.last + 1 = is_some begin_of_range end_of_range 0 ranges (2 ^ 48) (place - 1) range ok at in
    let back : suc (place - 1) ≡ place = omega arith in
    let size : longer.last + 1 - longer.first ≡ (range.last + 1 - range.first) + 1 = omega arith in
    let end : range.first + (range.last + 1 - range.first) ≡ counter = omega arith in
    let more : counters_in longer ≡ counters_in range ++ counter ∷ [] =
    ap (λ z. range_with_len z (longer.last + 1 - longer.first)) first ∙ ap (range_with_len range.first) size
    ∙ counted_on range.first (range.last + 1 - range.first) 1 ∙ ap (λ z. counters_in range ++ z ∷ []) end in (
      set_apart begin_of_range end_of_range 0 ranges (2 ^ 48) (place - 1) longer ok (omega arith) (omega arith) (omega arith)
          (λ k y less there. let before : y.last + 1 ≤ range.first = ends_before begin_of_range end_of_range 0 ranges (2 ^ 48) k (place - 1) y range ok less there at in omega arith)
          (λ k y le there. let behind : counter + 1 ≤ y.first = behind_place ranges counter place begins k y (omega arith) there in omega arith),
      more_in_part counters_in ranges (place - 1) range longer counter at (subst (λ z. IsPermutation (counter ∷ counters_in range) z) (sym more) (one_more (counters_in range) counter)),
    )

-- the range at the place begins with the counter
pub joined_behind : (ranges : List Range) (counter place : ℕ) (range longer : Range) → AreRanges ranges → HaveBegun begin_of_range ranges counter place → (Contains (flat_map counters_in ranges) counter → ⊥) → slice_get ranges place ≡ Some range → range.first ≡ counter + 1 → longer.first ≡ counter → longer.last ≡ range.last → AreRanges (set ranges place longer) × IsPermutation (counter ∷ flat_map counters_in ranges) (flat_map counters_in (set ranges place longer))
joined_behind ranges counter place range longer ok begins fresh at next first last =
    let nonempty : range.first < range.last + 1 = is_some begin_of_range end_of_range 0 ranges (2 ^ 48) place range ok at in
    let high : range.last + 1 ≤ 2 ^ 48 = high_is_above begin_of_range end_of_range 0 ranges (2 ^ 48) place range ok at in
    let size : longer.last + 1 - longer.first ≡ suc (range.last + 1 - range.first) = omega arith in
    let more : counters_in longer ≡ counter ∷ counters_in range =
    ap (λ z. range_with_len z (longer.last + 1 - longer.first)) first ∙ ap (range_with_len counter) size
    ∙ ap (λ z. counter ∷ range_with_len z (range.last + 1 - range.first)) (sym next) in (
      set_apart begin_of_range end_of_range 0 ranges (2 ^ 48) place longer ok (omega arith) (omega arith) (omega arith)
          (subst (λ z. AllBefore end_of_range ranges place z) (sym first) (before_place ranges counter place begins fresh))
          (λ k y le there. let behind : range.last + 1 ≤ y.first = ends_before begin_of_range end_of_range 0 ranges (2 ^ 48) place k range y ok (omega arith) at there in omega arith),
      more_in_part counters_in ranges place range longer counter at (subst (λ z. IsPermutation (counter ∷ counters_in range) z) (sym more) (IsPermutation-refl (counter ∷ counters_in range))),
    )

-- two ranges become one
pub joined_apart : (low : ℕ) (ranges : List Range) (high i : ℕ) (before behind joined : Range) → AreApart begin_of_range end_of_range low ranges high → slice_get ranges i ≡ Some before → slice_get ranges (suc i) ≡ Some behind → joined.first ≡ before.first → joined.last ≡ behind.last → AreApart begin_of_range end_of_range low (remove (set ranges i joined) (suc i)) high
joined_apart low [] high i before behind joined apart at next first last = absurd (none-some before at)
joined_apart low (x ∷ []) high zero before behind joined apart at next first last = absurd (none-some behind next)
joined_apart low (x ∷ y ∷ rest) high zero before behind joined apart at next first last =
    let is : x.first ≡ before.first = ap (λ (r : Range). r.first) (same_Some x before at) in
    let to : y.last ≡ behind.last = ap (λ (r : Range). r.last) (same_Some y behind next) in
    let from : low ≤ x.first = apart.0 in
    let one : x.first < x.last + 1 = apart.1 in
    let gap : x.last + 1 ≤ y.first = apart.2.0 in
    let two : y.first < y.last + 1 = apart.2.1 in
    let end : y.last + 1 ≡ joined.last + 1 = omega arith in
    (omega arith, omega arith, subst (λ z. AreApart begin_of_range end_of_range z rest high) end apart.2.2)
joined_apart low (x ∷ xs) high (suc i) before behind joined apart at next first last = (
  apart.0,
  apart.1,
  joined_apart (x.last + 1) xs high i before behind joined apart.2 at next first last,
)

joined_counters : (counter : ℕ) (before behind joined : Range) → before.first < before.last + 1 → behind.first < behind.last + 1 → before.last + 1 ≡ counter → behind.first ≡ counter + 1 → joined.first ≡ before.first → joined.last ≡ behind.last → counters_in joined ≡ counters_in before ++ counter ∷ counters_in behind
joined_counters counter before behind joined one two next follows first last =
    let size : joined.last + 1 - joined.first ≡ (before.last + 1 - before.first) + suc (behind.last + 1 - behind.first) = omega arith in
    let end : before.first + (before.last + 1 - before.first) ≡ counter = omega arith in
    ap (λ z. range_with_len z (joined.last + 1 - joined.first)) first ∙ ap (range_with_len before.first) size
    ∙ counted_on before.first (before.last + 1 - before.first) (suc (behind.last + 1 - behind.first))
    ∙ ap (λ z. counters_in before ++ range_with_len z (suc (behind.last + 1 - behind.first))) end
    ∙ ap (λ z. counters_in before ++ counter ∷ range_with_len z (behind.last + 1 - behind.first)) (sym follows)

pub joined_permutes : (low : ℕ) (ranges : List Range) (high i counter : ℕ) (before behind joined : Range) → AreApart begin_of_range end_of_range low ranges high → slice_get ranges i ≡ Some before → slice_get ranges (suc i) ≡ Some behind → before.last + 1 ≡ counter → behind.first ≡ counter + 1 → joined.first ≡ before.first → joined.last ≡ behind.last → IsPermutation (counter ∷ flat_map counters_in ranges) (flat_map counters_in (remove (set ranges i joined) (suc i)))
joined_permutes low [] high i counter before behind joined apart at next ends follows first last = absurd (none-some before at)
joined_permutes low (x ∷ []) high zero counter before behind joined apart at next ends follows first last = absurd (none-some behind next)
joined_permutes low (x ∷ y ∷ rest) high zero counter before behind joined apart at next ends follows first last =
    let one = same_Some x before at in
    let two = same_Some y behind next in
    let is_one = subst (λ (r : Range). r.first < r.last + 1) one apart.1 in
    let is_two = subst (λ (r : Range). r.first < r.last + 1) two apart.2.1 in
    let parts : counters_in joined ≡ counters_in x ++ counter ∷ counters_in y =
    joined_counters counter before behind joined is_one is_two ends follows first last
    ∙ ap (λ (r : Range). counters_in r ++ counter ∷ counters_in behind) (sym one) ∙ ap (λ (r : Range). counters_in x ++ counter ∷ counters_in r) (sym two) in
    let whole : flat_map counters_in (joined ∷ rest) ≡ counters_in x ++ counter ∷ flat_map counters_in (y ∷ rest) =
    ap (λ z. z ++ flat_map counters_in rest) parts ∙ append_assoc (counters_in x) (counter ∷ counters_in y) (flat_map counters_in rest) in
    subst (λ z. IsPermutation (counter ∷ flat_map counters_in (x ∷ y ∷ rest)) z) (sym whole)
    (IsPermutation-sym (counters_in x ++ counter ∷ flat_map counters_in (y ∷ rest)) (counter ∷ flat_map counters_in (x ∷ y ∷ rest)) (IsPermutation-middle (counters_in x) counter (flat_map counters_in (y ∷ rest))))
joined_permutes low (x ∷ xs) high (suc i) counter before behind joined apart at next ends follows first last =
    let left = flat_map counters_in (remove (set xs i joined) (suc i)) in
    IsPermutation-trans (counter ∷ (counters_in x ++ flat_map counters_in xs)) (counters_in x ++ counter ∷ flat_map counters_in xs) (counters_in x ++ left)
    (IsPermutation-sym (counters_in x ++ counter ∷ flat_map counters_in xs) (counter ∷ (counters_in x ++ flat_map counters_in xs)) (IsPermutation-middle (counters_in x) counter (flat_map counters_in xs)))
    (IsPermutation-append_right (counters_in x) (counter ∷ flat_map counters_in xs) left (joined_permutes (x.last + 1) xs high i counter before behind joined apart.2 at next ends follows first last))
