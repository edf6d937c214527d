-- How many comments hold at a place.
use Rattle.std.proofs.Common.{◌≡◌, ℕ, Bool, zero, suc, ◌+◌, ◌-◌, ◌<◌, ◌≤◌, true, false, cond, List, [], ◌∷◌, Some, length, get_or, sym, ap, refl, ◌∙◌, arith, ⊎_elim}
use Rattle.std.specs.Prelude.{◌^◌, nat_le, count_by}
use Rattle.std.specs.List.{slice_get}
use Rattle.std.specs.List.Sorted.{IsStrictlyIncreasing}
use Rattle.std.proofs.lemmas.Bool.{cases_lt, false≢true, le-leb, leb-true, lt-leb}
use Rattle.std.proofs.lemmas.List.Sorted.{sum_by-IsPermutation}
use Rattle.std.proofs.lemmas.List.Sums.{sum_by-cons}
use Rattle.std.proofs.lemmas.Option.{slice_get-get_or}
use Rattle.mark_anchors.specs.CommentRuns.{HasPlace, has_place, numbers_at, AreOrderly}
use Rattle.mark_anchors.specs.CommentLists.{IsTable, begin_of, end_of, count_up_to}
use Rattle.mark_anchors.specs.declared.comment_runs.CommentRun.{CommentRun}
use Rattle.mark_anchors.proofs.Commenting.{increasing}
use Rattle.mark_anchors.proofs.Lists.{contains_from}
use Rattle.mark_anchors.proofs.Running.{numbers_here, numbers_past, place_cases, rises_at, run_of}

-- ---- in order, those up to a place come first
one_less : (n w rest : ℕ) → n ≡ w + rest → w ≡ 0 → zero ≡ rest → zero ≡ n
one_less n w rest f g h = omega arith

one_more : (n w rest i : ℕ) → n ≡ w + rest → w ≡ 1 → i ≡ rest → suc i ≡ n
one_more n w rest i f g h = omega arith

pub count_from_point : {X : Type 0} (p : X → Bool) (xs : List X) (i : ℕ) → i ≤ length xs → ((k : ℕ) (d : X) → k < i → p (get_or xs k d) ≡ true) → ((k : ℕ) (d : X) → i ≤ k → k < length xs → p (get_or xs k d) ≡ false) → i ≡ count_by p xs
count_from_point p [] i le passes fails = omega arith
count_from_point p (x ∷ xs) zero le passes fails =
    let head : p x ≡ false = fails zero x (omega arith) (omega arith) in
    let rest : zero ≡ count_by p xs = count_from_point p xs zero (omega arith) (λ k d less. absurd (omega arith)) (λ k d low within. fails (suc k) d (omega arith) (omega arith)) in
    let total : count_by p (x ∷ xs) ≡ cond (p x) 1 0 + count_by p xs = sum_by-cons (λ y. cond (p y) 1 0) x xs in
    let none : cond (p x) 1 0 ≡ 0 = ap (λ b. cond b 1 0) head in
    one_less (count_by p (x ∷ xs)) (cond (p x) 1 0) (count_by p xs) total none rest
count_from_point p (x ∷ xs) (suc i) le passes fails =
    let head : p x ≡ true = passes zero x (omega arith) in
    let rest : i ≡ count_by p xs = count_from_point p xs i (omega arith) (λ k d less. passes (suc k) d (omega arith)) (λ k d low within. fails (suc k) d (omega arith) (omega arith)) in
    let total : count_by p (x ∷ xs) ≡ cond (p x) 1 0 + count_by p xs = sum_by-cons (λ y. cond (p y) 1 0) x xs in
    let one : cond (p x) 1 0 ≡ 1 = ap (λ b. cond b 1 0) head in
    one_more (count_by p (x ∷ xs)) (cond (p x) 1 0) (count_by p xs) i total one rest

pub up_to_point : {X : Type 0} (place_of : X → ℕ) (xs : List X) (k place : ℕ) (d : X) → nat_le (place_of (get_or xs k d)) place ≡ true → place_of (get_or xs k d) ≤ place
up_to_point place_of xs k place d is = leb-true (place_of (get_or xs k d)) place is

pub past_point : {X : Type 0} (place_of : X → ℕ) (xs : List X) (k place : ℕ) (d : X) → nat_le (place_of (get_or xs k d)) place ≡ false → place < place_of (get_or xs k d)
past_point place_of xs k place d not =
    ⊎_elim
    (λ (past : place < place_of (get_or xs k d)). past)
    (λ (le : place_of (get_or xs k d) ≤ place). absurd (false≢true (sym not ∙ le-leb (place_of (get_or xs k d)) place le)))
    (cases_lt place (place_of (get_or xs k d)))

-- ---- as many hold as have begun and not ended
abbrev pub weight : ℕ → ℕ → ℕ
weight place x = cond (nat_le x place) 1 0

weight_in : (place x : ℕ) → x ≤ place → weight place x ≡ 1
weight_in place x le = ap (λ b. cond b 1 0) (le-leb x place le)

weight_out : (place x : ℕ) → place < x → weight place x ≡ 0
weight_out place x less = ap (λ b. cond b 1 0) (lt-leb x place less)

summed : (n n' t t' f f' u v : ℕ) → n + t ≡ f → t' ≡ u + t → f' ≡ v + f → n' + u ≡ v + n → n' + t' ≡ f'
summed n n' t t' f f' u v rest ended begun here = omega arith

held_here : (n n' u v : ℕ) → n' ≡ suc n → u ≡ 0 → v ≡ 1 → n' + u ≡ v + n
held_here n n' u v size ended begun = omega arith

past_here : (n n' u v k : ℕ) → n' ≡ n → u ≡ k → v ≡ k → n' + u ≡ v + n
past_here n n' u v k size ended begun = omega arith

one_run : (run : CommentRun) (runs : List CommentRun) (place : ℕ) → run.from ≤ run.to → length (numbers_at (run ∷ runs) place) + weight place run.to ≡ weight place run.from + length (numbers_at runs place)
one_run run runs place order =
    let n : ℕ = length (numbers_at runs place) in
    let n' : ℕ = length (numbers_at (run ∷ runs) place) in
    ⊎_elim
    (λ (is : (has_place run place ≡ true) × HasPlace run place). held_here n n' (weight place run.to) (weight place run.from) (ap length (numbers_here run runs place is.0)) (weight_out place run.to is.1.1) (weight_in place run.from is.1.0))
    (λ (not : (has_place run place ≡ false) × (HasPlace run place → ⊥)).
    let size : n' ≡ n = ap length (numbers_past run runs place not.0) in
    ⊎_elim
    (λ (early : place < run.from). past_here n n' (weight place run.to) (weight place run.from) 0 size (weight_out place run.to (omega arith)) (weight_out place run.from early))
    (λ (low : run.from ≤ place).
    ⊎_elim
    (λ (high : place < run.to). absurd (not.1 (low, high)))
    (λ (past : run.to ≤ place). past_here n n' (weight place run.to) (weight place run.from) 1 size (weight_in place run.to past) (weight_in place run.from low))
    (cases_lt place run.to))
    (cases_lt place run.from))
    (place_cases run place)

up_to_cons : (place_of : CommentRun → ℕ) (place : ℕ) (run : CommentRun) (runs : List CommentRun) → count_up_to place_of (run ∷ runs) place ≡ weight place (place_of run) + count_up_to place_of runs place
up_to_cons place_of place run runs = sum_by-cons (λ r. weight place (place_of r)) run runs

pub held_and_ended : (runs : List CommentRun) (place : ℕ) → ((i : ℕ) (run : CommentRun) → slice_get runs i ≡ Some run → run.from ≤ run.to) → length (numbers_at runs place) + count_up_to end_of runs place ≡ count_up_to begin_of runs place
held_and_ended [] place along = refl
held_and_ended (run ∷ runs) place along =
    summed (length (numbers_at runs place)) (length (numbers_at (run ∷ runs) place)) (count_up_to end_of runs place) (count_up_to end_of (run ∷ runs) place) (count_up_to begin_of runs place) (count_up_to begin_of (run ∷ runs) place) (weight place run.to) (weight place run.from)
    (held_and_ended runs place (λ i other g. along (suc i) other g)) (up_to_cons end_of place run runs) (up_to_cons begin_of place run runs) (one_run run runs place (along zero run refl))

pub count_of_table : (runs begins ends : List CommentRun) (place : ℕ) → IsTable runs begins ends → length (numbers_at runs place) + count_up_to end_of ends place ≡ count_up_to begin_of begins place
count_of_table runs begins ends place is =
    let begun : count_up_to begin_of begins place ≡ count_up_to begin_of runs place = sum_by-IsPermutation (λ r. weight place (begin_of r)) runs begins is.beginning.same in
    let ended : count_up_to end_of ends place ≡ count_up_to end_of runs place = sum_by-IsPermutation (λ r. weight place (end_of r)) runs ends is.ending.same in
    let held = held_and_ended runs place (λ i run g. is.orderly.along run (contains_from runs i run g)) in
    ap (λ n. length (numbers_at runs place) + n) ended ∙ held ∙ sym begun

-- ---- they rise, so they are as few as numbers of 32 bits that aren't 0
pub increasing_at : (runs : List CommentRun) (place : ℕ) → AreOrderly runs → IsStrictlyIncreasing (numbers_at runs place)
increasing_at runs place orderly = increasing (numbers_at runs place) (rises_at runs place orderly.order)

rising_gap : (xs : List ℕ) (k : ℕ) → IsStrictlyIncreasing xs → k < length xs → get_or xs 0 0 + k ≤ get_or xs k 0
rising_gap xs zero rising within = omega arith
rising_gap xs (suc k) rising within =
    let before = rising_gap xs k rising (omega arith) in
    let next : get_or xs k 0 < get_or xs (k + 1) 0 = rising k (omega arith) in
    let next_is : k + 1 ≡ suc k = omega arith in
    let same : get_or xs (k + 1) 0 ≡ get_or xs (suc k) 0 = ap (λ n. get_or xs n 0) next_is in
    omega arith

pub few_at : (runs : List CommentRun) (place : ℕ) → AreOrderly runs → length (numbers_at runs place) < 2 ^ 32
few_at runs place orderly =
    let numbers : List ℕ = numbers_at runs place in
    ⊎_elim
    (λ (some : 0 < length numbers).
    let gap : get_or numbers 0 0 + (length numbers - 1) ≤ get_or numbers (length numbers - 1) 0 = rising_gap numbers (length numbers - 1) (increasing_at runs place orderly) (omega arith) in
    let first = run_of runs place 0 (get_or numbers 0 0) (slice_get-get_or numbers 0 0 some) in
    let last = run_of runs place (length numbers - 1) (get_or numbers (length numbers - 1) 0) (slice_get-get_or numbers (length numbers - 1) 0 (omega arith)) in
    let low : 1 ≤ first.1.0.number = orderly.some first.1.0 (contains_from runs first.0 first.1.0 first.1.1) in
    let high : last.1.0.number < 2 ^ 32 = orderly.short last.1.0 (contains_from runs last.0 last.1.0 last.1.1) in
    let begins : first.1.0.number ≡ get_or numbers 0 0 = first.1.2 in
    let ends : last.1.0.number ≡ get_or numbers (length numbers - 1) 0 = last.1.2 in
    omega arith)
    (λ (none : length numbers ≤ 0). omega arith)
    (cases_lt 0 (length numbers))
