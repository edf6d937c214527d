-- Runs of places: the numbers at a place, and one run more.
use Rattle.std.proofs.Common.{◌≡◌, ℕ, zero, suc, ◌+◌, ◌<◌, ◌≤◌, ◌⊎◌, true, false, cond, List, [], ◌∷◌, ◌++◌, Option, Some, None, inl, inr, length, drop, sym, ap, refl, ◌∙◌, subst, arith, ⊎_elim}
use Rattle.std.specs.Prelude.{◌^◌, ◌&&◌, nat_lt}
use Rattle.std.specs.List.{slice_get, Contains}
use Rattle.std.specs.Option.{IsSome}
use Rattle.std.proofs.lemmas.Bool.{cases_lt, false≢true, le-leb, lt-leb, lt-ltb, le-ltb}
use Rattle.std.proofs.lemmas.List.Elements.{Contains-push_cases}
use Rattle.std.proofs.lemmas.Option.{same_Some, none-some, slice_get_within}
use Rattle.char_sequence.proofs.Lists.{InOrder}
use Rattle.mark_anchors.specs.CommentRuns.{HasPlace, has_place, numbers_at, IsRun, Precedes, AreOrderly}
use Rattle.mark_anchors.specs.declared.comment_runs.CommentRun.{CommentRun}
use Rattle.mark_anchors.proofs.Lists.{contains_from, pushed_at}

-- ---- whether a run has the place
pub place_cases : (run : CommentRun) (place : ℕ) → ((has_place run place ≡ true) × HasPlace run place) ⊎ ((has_place run place ≡ false) × (HasPlace run place → ⊥))
place_cases run place =
    ⊎_elim
    (λ (early : place < run.from). inr (ap (λ b. b && nat_lt place run.to) (lt-leb run.from place early), λ has. let low : run.from ≤ place = has.0 in absurd (omega arith)))
    (λ (begun : run.from ≤ place).
    let first = ap (λ b. b && nat_lt place run.to) (le-leb run.from place begun) in
    ⊎_elim
    (λ (on : place < run.to). inl (first ∙ lt-ltb place run.to on, (begun, on)))
    (λ (past : run.to ≤ place). inr (first ∙ le-ltb place run.to past, λ has. let high : place < run.to = has.1 in absurd (omega arith)))
    (cases_lt place run.to))
    (cases_lt place run.from)

pub numbers_here : (run : CommentRun) (runs : List CommentRun) (place : ℕ) → has_place run place ≡ true → numbers_at (run ∷ runs) place ≡ run.number ∷ numbers_at runs place
numbers_here run runs place has = ap (λ b. cond b (run.number ∷ numbers_at runs place) (numbers_at runs place)) has

pub numbers_past : (run : CommentRun) (runs : List CommentRun) (place : ℕ) → has_place run place ≡ false → numbers_at (run ∷ runs) place ≡ numbers_at runs place
numbers_past run runs place not = ap (λ b. cond b (run.number ∷ numbers_at runs place) (numbers_at runs place)) not

taken : (runs : List CommentRun) (i : ℕ) (run : CommentRun) (place : ℕ) → slice_get runs i ≡ Some run → has_place run place ≡ true → numbers_at (drop i runs) place ≡ run.number ∷ numbers_at (drop (suc i) runs) place
taken [] i run place g has = absurd (none-some run g)
taken (first ∷ runs) zero run place g has =
    let same : first ≡ run = same_Some first run g in
    numbers_here first runs place (ap (λ z. has_place z place) same ∙ has) ∙ ap (λ (z : CommentRun). z.number ∷ numbers_at runs place) same
taken (first ∷ runs) (suc i) run place g has = taken runs i run place g has

pub run_taken : (runs : List CommentRun) (i : ℕ) (run : CommentRun) (place : ℕ) → slice_get runs i ≡ Some run → has_place run place ≡ true → numbers_at (drop i runs) place ≡ run.number ∷ numbers_at (drop (i + 1) runs) place
run_taken runs i run place g has =
    let next : suc i ≡ i + 1 = omega arith in
    taken runs i run place g has ∙ ap (λ k. run.number ∷ numbers_at (drop k runs) place) next

-- ---- the numbers at a place are those of the runs that have it
first_or_later : {X : Type 0} (x : X) (xs : List X) (i : ℕ) (y : X) → slice_get (x ∷ xs) i ≡ Some y → (x ≡ y) ⊎ ((k : ℕ) × (slice_get xs k ≡ Some y))
first_or_later x xs zero y g = inl (same_Some x y g)
first_or_later x xs (suc i) y g = inr (i, g)

pub run_of : (runs : List CommentRun) (place i n : ℕ) → slice_get (numbers_at runs place) i ≡ Some n → (j : ℕ) × ((run : CommentRun) × (slice_get runs j ≡ Some run) × (run.number ≡ n) × HasPlace run place)
run_of [] place i n g = absurd (none-some n g)
run_of (run ∷ runs) place i n g =
    ⊎_elim
    (λ (yes : (has_place run place ≡ true) × HasPlace run place).
    ⊎_elim
    (λ (same : run.number ≡ n). (zero, (run, refl, same, yes.1)))
    (λ (later : (k : ℕ) × (slice_get (numbers_at runs place) k ≡ Some n)). let r = run_of runs place later.0 n later.1 in (suc r.0, r.1))
    (first_or_later run.number (numbers_at runs place) i n (subst (λ (l : List ℕ). slice_get l i ≡ Some n) (numbers_here run runs place yes.0) g)))
    (λ (no : (has_place run place ≡ false) × (HasPlace run place → ⊥)).
    let r = run_of runs place i n (subst (λ (l : List ℕ). slice_get l i ≡ Some n) (numbers_past run runs place no.0) g) in (suc r.0, r.1))
    (place_cases run place)

pub number_of : (runs : List CommentRun) (place j : ℕ) (run : CommentRun) → slice_get runs j ≡ Some run → HasPlace run place → (i : ℕ) × (slice_get (numbers_at runs place) i ≡ Some run.number)
number_of [] place j run g has = absurd (none-some run g)
number_of (first ∷ runs) place zero run g has =
    let same : first ≡ run = same_Some first run g in
    ⊎_elim
    (λ (yes : (has_place first place ≡ true) × HasPlace first place). (zero, ap (λ (l : List ℕ). slice_get l zero) (numbers_here first runs place yes.0) ∙ ap (λ (z : CommentRun). Some z.number) same))
    (λ (no : (has_place first place ≡ false) × (HasPlace first place → ⊥)). absurd (no.1 (subst (λ z. HasPlace z place) (sym same) has)))
    (place_cases first place)
number_of (first ∷ runs) place (suc j) run g has =
    let r = number_of runs place j run g has in
    ⊎_elim
    (λ (yes : (has_place first place ≡ true) × HasPlace first place). (suc r.0, ap (λ (l : List ℕ). slice_get l (suc r.0)) (numbers_here first runs place yes.0) ∙ r.1))
    (λ (no : (has_place first place ≡ false) × (HasPlace first place → ⊥)). (r.0, ap (λ (l : List ℕ). slice_get l r.0) (numbers_past first runs place no.0) ∙ r.1))
    (place_cases first place)

-- ---- they rise
in_order_more : (x : ℕ) (xs : List ℕ) → ((i y : ℕ) → slice_get xs i ≡ Some y → x < y) → InOrder (λ a b. a < b) xs → InOrder (λ a b. a < b) (x ∷ xs)
in_order_more x xs below order zero zero a b less g h = absurd (omega arith)
in_order_more x xs below order zero (suc j) a b less g h = subst (λ z. z < b) (same_Some x a g) (below j b h)
in_order_more x xs below order (suc i) zero a b less g h = absurd (omega arith)
in_order_more x xs below order (suc i) (suc j) a b less g h = order i j a b (omega arith) g h

pub rises_at : (runs : List CommentRun) (place : ℕ) → InOrder Precedes runs → InOrder (λ a b. a < b) (numbers_at runs place)
rises_at [] place order = λ i j x y less g h. absurd (none-some x g)
rises_at (run ∷ runs) place order =
    let rest : InOrder (λ a b. a < b) (numbers_at runs place) = rises_at runs place (λ i j x y less g h. order (suc i) (suc j) x y (omega arith) g h) in
    ⊎_elim
    (λ (yes : (has_place run place ≡ true) × HasPlace run place).
    subst (InOrder (λ a b. a < b)) (sym (numbers_here run runs place yes.0))
    (in_order_more run.number (numbers_at runs place)
    (λ i n g.
    let r = run_of runs place i n g in
    let other : CommentRun = r.1.0 in
    ⊎_elim
    (λ (less : run.number < other.number). subst (λ z. run.number < z) r.1.2 less)
    (λ (apart : (run.number ≡ other.number) × (run.to ≤ other.from)).
    let ended : run.to ≤ other.from = apart.1 in
    let begun : other.from ≤ place = r.1.3.0 in
    let on : place < run.to = yes.1.1 in
    absurd (omega arith))
    (order zero (suc r.0) run other (omega arith) refl r.1.1))
    rest))
    (λ (no : (has_place run place ≡ false) × (HasPlace run place → ⊥)). subst (InOrder (λ a b. a < b)) (sym (numbers_past run runs place no.0)) rest)
    (place_cases run place)

-- ---- no run, and one more
pub orderly_none : AreOrderly []
orderly_none = record {
  order = λ i j run other less g h. absurd (none-some run g);
  along = λ run held. absurd (not_among run held);
  some = λ run held. absurd (not_among run held);
  short = λ run held. absurd (not_among run held);
}
  where
    not_among : (run : CommentRun) → Contains [] run → ⊥
    not_among run held = let within : held.0 < 0 = held.1 in absurd (omega arith)

pub orderly_more : (runs : List CommentRun) (run : CommentRun) (n from to : ℕ) → AreOrderly runs → ((other : CommentRun) → Contains runs other → Precedes other run) → IsRun n from to run → from ≤ to → AreOrderly (runs ++ run ∷ [])
orderly_more runs run n from to orderly behind is le = record {
  order =
      λ i j a b less g h.
      ⊎_elim
      (λ (old : slice_get runs j ≡ Some b).
      let within : j < length runs = slice_get_within runs j b old in
      ⊎_elim
      (λ (before : slice_get runs i ≡ Some a). orderly.order i j a b less before old)
      (λ (last : (i ≡ length runs) × (run ≡ a)). let end : i ≡ length runs = last.0 in absurd (omega arith))
      (pushed_at runs run i a g))
      (λ (new : (j ≡ length runs) × (run ≡ b)).
      let end : j ≡ length runs = new.0 in
      ⊎_elim
      (λ (before : slice_get runs i ≡ Some a). subst (Precedes a) new.1 (behind a (contains_from runs i a before)))
      (λ (last : (i ≡ length runs) × (run ≡ a)). let also : i ≡ length runs = last.0 in absurd (omega arith))
      (pushed_at runs run i a g))
      (pushed_at runs run j b h);
  along =
      λ a held.
      ⊎_elim
      (λ (old : Contains runs a). orderly.along a old)
      (λ (new : run ≡ a). let begins : run.from ≡ from = is.begins in let ends : run.to ≡ to = is.ends in subst (λ (z : CommentRun). z.from ≤ z.to) new (omega arith))
      (Contains-push_cases runs run a held);
  some =
      λ a held.
      ⊎_elim
      (λ (old : Contains runs a). orderly.some a old)
      (λ (new : run ≡ a). subst (λ (z : CommentRun). 1 ≤ z.number) new (subst (λ z. 1 ≤ z) (sym is.number) is.some))
      (Contains-push_cases runs run a held);
  short =
      λ a held.
      ⊎_elim
      (λ (old : Contains runs a). orderly.short a old)
      (λ (new : run ≡ a). subst (λ (z : CommentRun). z.number < 2 ^ 32) new (subst (λ z. z < 2 ^ 32) (sym is.number) is.short))
      (Contains-push_cases runs run a held);
}

-- ---- what is there
pub some_of : {X : Type 0} (r : Option X) → IsSome r → (x : X) × (r ≡ Some x)
some_of None is = absurd (false≢true is)
some_of (Some x) is = (x, refl)
