-- Ranks that are moved.
use Rattle.std.proofs.Common.{◌≡◌, ℕ, ◌+◌, ◌-◌, ◌<◌, ◌≤◌, List, [], ◌∷◌, ◌++◌, length, take, map, cond, refl, ap, ◌∙◌, arith, ◌⊎◌, inl, inr, ⊎_elim, All}
use Rattle.std.specs.List.{Contains}
use Rattle.std.proofs.lemmas.Bool.{cases_lt, le-leb, lt-leb}
use Rattle.std.proofs.lemmas.Grind.{common_steps}
use Rattle.std.proofs.lemmas.List.Elements.{All-nil, All-cons, All-head, All-tail, All-contains, All-contains_itself, Contains-append_cases, Contains-append_left, Contains-append_right, Contains-push, Contains-push_cases}
use Rattle.mark_places.specs.declared.ranked.RankedMark.{RankedMark}
use Rattle.mark_places.specs.Ranks.{raised, mark_raised, IsBelow}

pub raised_from : (from by rank : ℕ) → from ≤ rank → raised from by rank ≡ rank + by
raised_from from by rank high = ap (λ b. cond b (rank + by) rank) (le-leb from rank high)

pub raised_below : (from by rank : ℕ) → rank < from → raised from by rank ≡ rank
raised_below from by rank low = ap (λ b. cond b (rank + by) rank) (lt-leb from rank low)

-- a rank is moved up, and no farther than this
pub raised_between : (from by rank : ℕ) → (rank ≤ raised from by rank) × (raised from by rank ≤ rank + by)
raised_between from by rank =
    ⊎_elim
    (λ (low : rank < from). let is = raised_below from by rank low in (omega (arith, is), omega (arith, is)))
    (λ (high : from ≤ rank). let is = raised_from from by rank high in (omega (arith, is), omega (arith, is)))
    (cases_lt rank from)

-- all ranks are from zero on
pub raised_all : (offset rank : ℕ) → raised 0 offset rank ≡ offset + rank
raised_all offset rank = raised_from 0 offset rank (omega arith) ∙ omega arith

-- a rank without its offset
pub raised_within : (offset from by rank : ℕ) → offset ≤ from → offset + raised (from - offset) by rank ≡ raised from by (offset + rank)
raised_within offset from by rank low =
    ⊎_elim
    (λ (below : offset + rank < from). omega (arith, raised_below from by (offset + rank) below, raised_below (from - offset) by rank (omega arith)))
    (λ (high : from ≤ offset + rank). omega (arith, raised_from from by (offset + rank) high, raised_from (from - offset) by rank (omega arith)))
    (cases_lt (offset + rank) from)

-- marks that are moved twice, where their ranks move at once
mark_twice : (f b f' b' f'' b'' : ℕ) → ((rank : ℕ) → raised f b rank ≡ raised f'' b'' (raised f' b' rank)) → (m : RankedMark) → mark_raised f b m ≡ mark_raised f'' b'' (mark_raised f' b' m)
mark_twice f b f' b' f'' b'' same m =
    ap (λ (s : ℕ). record m { start = s; end = raised f b m.end }) (same m.start)
    ∙ ap (λ (e : ℕ). record m { start = raised f'' b'' (raised f' b' m.start); end = e }) (same m.end)

pub marks_twice : (f b f' b' f'' b'' : ℕ) → ((rank : ℕ) → raised f b rank ≡ raised f'' b'' (raised f' b' rank)) → (marks : List RankedMark)
    → map (mark_raised f b) marks ≡ map (mark_raised f'' b'') (map (mark_raised f' b') marks)
marks_twice f b f' b' f'' b'' same [] = refl
marks_twice f b f' b' f'' b'' same (m ∷ ms) =
    ap (λ (x : RankedMark). x ∷ map (mark_raised f b) ms) (mark_twice f b f' b' f'' b'' same m)
    ∙ ap (λ xs. mark_raised f'' b'' (mark_raised f' b' m) ∷ xs) (marks_twice f b f' b' f'' b'' same ms)

-- and those that aren't moved
pub marks_same : (f b : ℕ) → ((rank : ℕ) → raised f b rank ≡ rank) → (marks : List RankedMark) → map (mark_raised f b) marks ≡ marks
marks_same f b same [] = refl
marks_same f b same (m ∷ ms) =
    ap (λ (s : ℕ). record m { start = s; end = raised f b m.end } ∷ map (mark_raised f b) ms) (same m.start)
    ∙ ap (λ (e : ℕ). record m { end = e } ∷ map (mark_raised f b) ms) (same m.end)
    ∙ ap (λ xs. m ∷ xs) (marks_same f b same ms)

-- ---- what is in a list
pub here : {X : Type 0} (x : X) (xs : List X) → Contains (x ∷ xs) x
here x xs = Contains-append_left (x ∷ []) xs x (Contains-push [] x)

pub there : {X : Type 0} (x : X) (xs : List X) (y : X) → Contains xs y → Contains (x ∷ xs) y
there x xs y held = Contains-append_right (x ∷ []) xs y held

pub cons_cases : {X : Type 0} (x : X) (xs : List X) (y : X) → Contains (x ∷ xs) y → (x ≡ y) ⊎ Contains xs y
cons_cases x xs y held =
    ⊎_elim
    (λ (one : Contains (x ∷ []) y). ⊎_elim (λ (none : Contains [] y). absurd (omega (arith, none.1))) (λ (is : x ≡ y). inl is) (Contains-push_cases [] x y one))
    (λ (more : Contains xs y). inr more)
    (Contains-append_cases (x ∷ []) xs y held)

-- ---- what is true of each moved element
pub all_of_map : {X Y : Type 0} (P : Y → Type 0) (f : X → Y) (xs : List X) → All P (map f xs) → All (λ x. P (f x)) xs
all_of_map P f [] all = All-nil (λ x. P (f x))
all_of_map P f (x ∷ xs) all = All-cons (λ x. P (f x)) x xs (All-head P (f x) (map f xs) all) (all_of_map P f xs (All-tail P (f x) (map f xs) all))

pub contains_map : {X Y : Type 0} (f : X → Y) (xs : List X) (x : X) → Contains xs x → Contains (map f xs) (f x)
contains_map f xs x held = All-contains (λ y. Contains (map f xs) (f y)) xs x (all_of_map (Contains (map f xs)) f xs (All-contains_itself (map f xs))) held

pub of_map : {X Y : Type 0} (f : X → Y) (xs : List X) (y : Y) → Contains (map f xs) y → (x : X) × Contains xs x × (f x ≡ y)
of_map f [] y held = absurd (omega (arith, held.1))
of_map f (x ∷ xs) y held =
    ⊎_elim
    (λ (is : f x ≡ y). (x, here x xs, is))
    (λ (more : Contains (map f xs) y). let r = of_map f xs y more in (r.0, there x xs r.0 r.1, r.2))
    (cons_cases (f x) (map f xs) y held)

-- marks whose ranks are below are not moved
pub none_raised : (from by : ℕ) (marks : List RankedMark) → All (IsBelow from) marks → map (mark_raised from by) marks ≡ marks
none_raised from by [] all = refl
none_raised from by (m ∷ ms) all =
    let low = All-head (IsBelow from) m ms all in
    let same : mark_raised from by m ≡ m =
    ap (λ (s : ℕ). record m { start = s; end = raised from by m.end }) (raised_below from by m.start low.0) ∙ ap (λ (e : ℕ). record m { end = e }) (raised_below from by m.end low.1) in
    ap (λ (x : RankedMark). x ∷ map (mark_raised from by) ms) same ∙ ap (λ xs. m ∷ xs) (none_raised from by ms (All-tail (IsBelow from) m ms all))

-- what was written to a vector
pub take_first : {X : Type 0} (n : ℕ) (xs ys : List X) → n ≡ length xs → take n (xs ++ ys) ≡ xs
take_first n xs ys all = grind (arith, common_steps)
