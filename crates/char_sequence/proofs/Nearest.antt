-- The last of what counts before a place, and the first from it on, over lists and over chunks.
use Rattle.std.proofs.Common.{◌≡◌, ℕ, cond, ◌+◌, ◌-◌, ◌<◌, ◌≤◌, List, Option, Some, None, length, get_or, take, drop, slice_range, sum, sym, ap, refl, ◌∙◌, arith, ⊎_elim}
use Rattle.std.specs.List.{slice_get, sum_by}
use Rattle.std.specs.Option.{MatchOption}
use Rattle.std.proofs.Math.Seq.{take-add}
use Rattle.std.proofs.lemmas.Bool.{cases_lt}
use Rattle.std.proofs.lemmas.List.{take_all, get_or_past}
use Rattle.std.proofs.lemmas.List.Sums.{sum_by-append, sum_by-take-drop, sum_by_more}
use Rattle.std.proofs.lemmas.Option.{slice_get_within}
use Rattle.char_sequence.specs.declared.sequence.Element.{Element}
use Rattle.char_sequence.specs.Chunks.{joined, start_of, ChunkCounts, AreCounts, IsFirstSome, IsLastSome}
use Rattle.char_sequence.specs.Visible.{visible_count, IsVisibleAt, IsFirstVisible, IsLastVisible}
use Rattle.char_sequence.proofs.Joined.{joined_get, start_after_chunk, start_end}
use Rattle.char_sequence.proofs.Ranges.{range_within}
use Rattle.char_sequence.proofs.Counts.{lengths_before, shown_before, shown_sum, as_many_shown, sum_range, visible_upto}

-- ---- sums of ranges
module _ {X : Type 0} (f : X → ℕ) (xs : List X) where
  pub range_sum : (a b : ℕ) → a ≤ b → sum_by f (take b xs) ≡ sum_by f (take a xs) + sum_by f (slice_range xs a b)
  range_sum a b h =
      let on : b ≡ a + (b - a) = omega arith in
      ap (λ n. sum_by f (take n xs)) on ∙ ap (sum_by f) (take-add a (b - a) xs) ∙ sum_by-append f (take a xs) (take (b - a) (drop a xs))

  -- one more in front of a range, and one more behind it
  pub range_front : (i b : ℕ) (x : X) → i < length xs → i + 1 ≤ b → sum_by f (slice_range xs i b) ≡ f (get_or xs i x) + sum_by f (slice_range xs (i + 1) b)
  range_front i b x within h =
      let whole = range_sum i b (omega arith) in
      let rest = range_sum (i + 1) b h in
      let more = sum_by_more f xs i x within in
      omega (arith, whole, rest, more)

  pub range_back : (a i : ℕ) (x : X) → i < length xs → a ≤ i → sum_by f (slice_range xs a (i + 1)) ≡ sum_by f (slice_range xs a i) + f (get_or xs i x)
  range_back a i x within h =
      let whole = range_sum a (i + 1) (omega arith) in
      let rest = range_sum a i h in
      let more = sum_by_more f xs i x within in
      omega (arith, whole, rest, more)

  pub range_empty : (i : ℕ) → sum_by f (slice_range xs i i) ≡ 0
  range_empty i = let whole = range_sum i i (omega arith) in omega (arith, whole)

  -- a range from the start on, and one up to the end
  pub range_all : (b : ℕ) → sum_by f (slice_range xs 0 b) ≡ sum_by f (take b xs)
  range_all b = let whole = range_sum 0 b (omega arith) in omega (arith, whole)

  pub range_rest : (a b : ℕ) → a ≤ b → length xs ≤ b → sum_by f (slice_range xs a b) ≡ sum_by f (drop a xs)
  range_rest a b h past =
      let whole = range_sum a b h in
      let all = ap (sum_by f) (take_all b xs past) in
      let cut = sum_by-take-drop f xs a in
      omega (arith, whole, all, cut)

-- ---- visible elements
abbrev pub shown_of : Element → ℕ
shown_of e = cond e.visible 1 0

-- the last one before a place is the last one before a later place, where none stands between these
pub last_further : (es : List Element) (near place at : ℕ) → near ≤ place → visible_count (take place es) ≡ visible_count (take near es) → IsLastVisible es near at → IsLastVisible es place at
last_further es near place at order same last =
    let less = last.before in
    let nearer = range_sum shown_of es (at + 1) near (omega (arith, less)) in
    let none = last.none in
    let further = range_sum shown_of es (at + 1) place (omega (arith, less, order)) in
    record {
      before = omega (arith, less, order);
      visible = last.visible;
      none = omega (arith, nearer, further, none, same);
    }

pub match_last : (es : List Element) (near place : ℕ) (result : Option ℕ) → near ≤ place → visible_count (take place es) ≡ visible_count (take near es) → MatchOption result (visible_count (take near es) ≡ 0) (λ at. IsLastVisible es near at) → MatchOption result (visible_count (take place es) ≡ 0) (λ at. IsLastVisible es place at)
match_last es near place None order same none = same ∙ none
match_last es near place (Some at) order same last = last_further es near place at order same last

-- the first one from a place on is the first one from an earlier place on, where none stands between these
pub first_further : (es : List Element) (place far at : ℕ) → place ≤ far → visible_count (take far es) ≡ visible_count (take place es) → IsFirstVisible es far at → IsFirstVisible es place at
first_further es place far at order same first =
    let reached = first.reached in
    let later = range_sum shown_of es far at reached in
    let none = first.none in
    let whole = range_sum shown_of es place at (omega (arith, reached, order)) in
    record {
      reached = omega (arith, reached, order);
      visible = first.visible;
      none = omega (arith, later, whole, none, same);
    }

pub match_first : (es : List Element) (place far : ℕ) (result : Option ℕ) → place ≤ far → visible_count (take far es) ≡ visible_count (take place es) → MatchOption result (visible_count (drop far es) ≡ 0) (λ at. IsFirstVisible es far at) → MatchOption result (visible_count (drop place es) ≡ 0) (λ at. IsFirstVisible es place at)
match_first es place far None order same none =
    let cut = sum_by-take-drop shown_of es place in
    let later = sum_by-take-drop shown_of es far in
    omega (arith, cut, later, same, none)
match_first es place far (Some at) order same first = first_further es place far at order same first

-- ---- within a chunk
count_in : (cs : List (List Element)) (p : ℕ) (c : List Element) (start k place : ℕ) → slice_get cs p ≡ Some c → start ≡ start_of cs p → place ≡ start + k → k ≤ length c → visible_count (take place (joined cs)) ≡ visible_count (joined (take p cs)) + visible_count (take k c)
count_in cs p c start k place here is sum within =
    let next = start_after_chunk cs p c here in
    let front : place - start_of cs p ≡ k = omega (arith, is, sum) in
    visible_upto cs p place c here (omega (arith, is, sum)) (omega (arith, is, sum, next, within))
    ∙ ap (λ n. visible_count (joined (take p cs)) + visible_count (take n c)) front

visible_in : (cs : List (List Element)) (p : ℕ) (c : List Element) (start at : ℕ) → slice_get cs p ≡ Some c → start ≡ start_of cs p → IsVisibleAt c at → IsVisibleAt (joined cs) (start + at)
visible_in cs p c start at here is (e, g, shown) =
    (e, ap (λ n. slice_get (joined cs) (n + at)) is ∙ joined_get cs p c at here (slice_get_within c at e g) ∙ g, shown)

pub last_here : (cs : List (List Element)) (p : ℕ) (c : List Element) (start k place at : ℕ) → slice_get cs p ≡ Some c → start ≡ start_of cs p → place ≡ start + k → k ≤ length c → IsLastVisible c k at → IsLastVisible (joined cs) place (start + at)
last_here cs p c start k place at here is sum within last =
    let less = last.before in
    let none = last.none in
    let end : start + at + 1 ≡ start + (at + 1) = omega arith in
    let whole = count_in cs p c start k place here is sum within in
    let front = count_in cs p c start (at + 1) (start + at + 1) here is end (omega (arith, less, within)) in
    let inner = range_sum shown_of c (at + 1) k (omega (arith, less)) in
    let all = range_sum shown_of (joined cs) (start + at + 1) place (omega (arith, less, sum)) in
    record {
      before = omega (arith, less, sum);
      visible = visible_in cs p c start at here is last.visible;
      none = omega (arith, whole, front, inner, all, none);
    }

pub first_here : (cs : List (List Element)) (p : ℕ) (c : List Element) (start k place at : ℕ) → slice_get cs p ≡ Some c → start ≡ start_of cs p → place ≡ start + k → k ≤ length c → IsFirstVisible c k at → IsFirstVisible (joined cs) place (start + at)
first_here cs p c start k place at here is sum within first =
    let reached = first.reached in
    let none = first.none in
    let v = first.visible in
    let low : at < length c = slice_get_within c at v.0 v.1 in
    let whole = count_in cs p c start k place here is sum within in
    let front = count_in cs p c start at (start + at) here is refl (omega (arith, low)) in
    let inner = range_sum shown_of c k at reached in
    let all = range_sum shown_of (joined cs) place (start + at) (omega (arith, reached, sum)) in
    record {
      reached = omega (arith, reached, sum);
      visible = visible_in cs p c start at here is v;
      none = omega (arith, whole, front, inner, all, none);
    }

-- where none of a chunk before a place is visible, and none of it from the place on
pub none_before : (cs : List (List Element)) (p : ℕ) (c : List Element) (start place : ℕ) → slice_get cs p ≡ Some c → start ≡ start_of cs p → start ≤ place → place < start_of cs (p + 1) → visible_count (take (place - start) c) ≡ 0 → visible_count (take place (joined cs)) ≡ visible_count (take start (joined cs))
none_before cs p c start place here is low high none =
    let next = start_after_chunk cs p c here in
    let sum : place ≡ start + (place - start) = omega (arith, low) in
    let zeroth : start ≡ start + 0 = omega arith in
    let whole = count_in cs p c start (place - start) place here is sum (omega (arith, is, high, next)) in
    let front = count_in cs p c start 0 start here is zeroth (omega arith) in
    omega (arith, whole, front, none)

pub none_behind : (cs : List (List Element)) (p : ℕ) (c : List Element) (start place far : ℕ) → slice_get cs p ≡ Some c → start ≡ start_of cs p → start ≤ place → place < start_of cs (p + 1) → far ≡ start + length c → visible_count (drop (place - start) c) ≡ 0 → visible_count (take far (joined cs)) ≡ visible_count (take place (joined cs))
none_behind cs p c start place far here is low high end none =
    let next = start_after_chunk cs p c here in
    let sum : place ≡ start + (place - start) = omega (arith, low) in
    let whole = count_in cs p c start (place - start) place here is sum (omega (arith, is, high, next)) in
    let all = count_in cs p c start (length c) far here is end (omega arith) in
    let full = ap visible_count (take_all (length c) c (omega arith)) in
    let cut = sum_by-take-drop shown_of c (place - start) in
    omega (arith, whole, all, full, cut, none)

-- ---- by the counts of chunks
module _ (cs : List (List Element)) (counts : ChunkCounts) (are : AreCounts cs counts) where
  -- where one chunk starts, by where another one does
  pub start_between : (p q : ℕ) → p ≤ q → start_of cs q ≡ start_of cs p + sum (slice_range counts.lengths p q)
  start_between p q order =
      let first = lengths_before cs counts p are in
      let second = lengths_before cs counts q are in
      let more = sum_range counts.lengths p q order in
      omega (arith, first, second, more)

  -- how many are visible before a chunk
  pub count_before : (p start : ℕ) → start ≡ start_of cs p → visible_count (take start (joined cs)) ≡ sum (take p counts.shown)
  count_before p start is =
      let front = joined (take p cs) in
      let same : start - 0 ≡ start = omega arith in
      let whole : slice_range front 0 start ≡ front = ap (λ n. take n front) same ∙ take_all start front (omega (arith, is)) in
      ap (λ n. visible_count (take n (joined cs))) (sym same)
      ∙ sym (ap visible_count (range_within cs p 0 start (omega arith) (omega (arith, is))))
      ∙ ap visible_count whole
      ∙ sym (shown_before cs counts p are)

  -- where something is shown, there is a chunk
  pub some_within : (q : ℕ) → 0 < get_or counts.shown q 0 → q < length cs
  some_within q some =
      let many = as_many_shown cs counts are in
      ⊎_elim
      (λ (low : q < length counts.shown). omega (arith, many, low))
      (λ (past : length counts.shown ≤ q). let none = get_or_past counts.shown q 0 past in absurd (omega (arith, none, some)))
      (cases_lt q (length counts.shown))

  pub last_in_chunks : (p q : ℕ) (c : List Element) (start begin at : ℕ) → slice_get cs q ≡ Some c → start ≡ start_of cs p → begin ≡ start_of cs q → IsLastSome counts.shown p q → IsLastVisible c (length c) at → IsLastVisible (joined cs) start (begin + at)
  last_in_chunks p q c start begin at here is begins some last =
      let less = some.before in
      let none = some.none in
      let next = start_after_chunk cs q c here in
      let far = start_between (q + 1) p (omega (arith, less)) in
      let end = begin + length c in
      let ends : end ≡ start_of cs (q + 1) = omega (arith, next, begins) in
      let between = sum_range counts.shown (q + 1) p (omega (arith, less)) in
      let all = count_before p start is in
      let nearer = count_before (q + 1) end ends in
      last_further (joined cs) end start (begin + at) (omega (arith, far, ends, is)) (omega (arith, between, all, nearer, none))
      (last_here cs q c begin (length c) end at here begins refl (omega arith) last)

  pub first_in_chunks : (p q : ℕ) (c : List Element) (start begin at : ℕ) → slice_get cs q ≡ Some c → start ≡ start_of cs p → begin ≡ start_of cs q → IsFirstSome counts.shown p q → IsFirstVisible c 0 at → IsFirstVisible (joined cs) start (begin + at)
  first_in_chunks p q c start begin at here is begins some first =
      let reached = some.reached in
      let none = some.none in
      let far = start_between p q reached in
      let between = sum_range counts.shown p q reached in
      let all = count_before p start is in
      let later = count_before q begin begins in
      let zeroth : begin ≡ begin + 0 = omega arith in
      first_further (joined cs) start begin (begin + at) (omega (arith, far, begins, is)) (omega (arith, between, all, later, none))
      (first_here cs q c begin 0 begin at here begins zeroth (omega arith) first)

  -- where no chunk from one on shows anything
  pub none_from : (p start : ℕ) → start ≡ start_of cs p → sum (drop p counts.shown) ≡ 0 → visible_count (drop start (joined cs)) ≡ 0
  none_from p start is none =
      let front = count_before p start is in
      let cut = sum_by-take-drop (λ n. n) counts.shown p in
      let whole = ap sum are.visible ∙ shown_sum cs in
      let all = sum_by-take-drop shown_of (joined cs) start in
      omega (arith, front, cut, whole, all, none)

-- behind the last chunk there is none
pub none_at_end : (cs : List (List Element)) (p place : ℕ) → length cs ≤ p → start_of cs p ≤ place → visible_count (drop place (joined cs)) ≡ 0
none_at_end cs p place past low =
    let size = start_end cs p past in
    let whole = ap visible_count (take_all place (joined cs) (omega (arith, size, low))) in
    let cut = sum_by-take-drop shown_of (joined cs) place in
    omega (arith, whole, cut)

-- nor is one between the end and the last chunk's
pub count_at_end : (cs : List (List Element)) (p start place : ℕ) → length cs ≤ p → start ≡ start_of cs p → start ≤ place → visible_count (take place (joined cs)) ≡ visible_count (take start (joined cs))
count_at_end cs p start place past is low =
    let size = start_end cs p past in
    ap visible_count (take_all place (joined cs) (omega (arith, size, is, low)) ∙ sym (take_all start (joined cs) (omega (arith, size, is))))
