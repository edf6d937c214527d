-- Two places have the same comments where no comment that begins or ends between them changes.
use Rattle.std.proofs.Common.{◌≡◌, ◌∙◌, ℕ, ◌<◌, ◌≤◌, ◌==◌, ◌⊎◌, [], ◌∷◌, Bool, true, false, not, length, inl, inr, List, get_or, refl, sym, ap, subst, arith, ⊎_elim, All}
use Rattle.std.specs.List.{slice_get, Contains}
use Rattle.std.specs.Bool.{beq}
use Rattle.std.proofs.Math.Dec.{eqb-suc-zero}
use Rattle.std.proofs.lemmas.Bool.{cases_lt, false≢true}
use Rattle.std.proofs.lemmas.List.Elements.{All-contains}
use Rattle.std.proofs.lemmas.Option.{same_Some}
use Rattle.std.proofs.lemmas.List.Sorted.{Contains-permutation}
use Rattle.char_sequence.proofs.Lists.{MembersOf, same_in_order}
use Rattle.mark_anchors.specs.CommentRuns.{HasRun, numbers_at, AreOrderly}
use Rattle.mark_anchors.specs.CommentLists.{AreAlike, IsSteady, IsTable}
use Rattle.mark_anchors.specs.declared.comment_runs.CommentRun.{CommentRun}
use Rattle.mark_anchors.proofs.Lists.{contains_at, contains_from}
use Rattle.mark_anchors.proofs.Running.{run_of, number_of, rises_at}

run_from_number : (runs : List CommentRun) (place n : ℕ) → Contains (numbers_at runs place) n → HasRun runs n place
run_from_number runs place n held =
    let i = contains_at (numbers_at runs place) n held in
    let r = run_of runs place i.0 n i.1 in
    (r.1.0, contains_from runs r.0 r.1.0 r.1.1, r.1.2, r.1.3)

number_from_run : (runs : List CommentRun) (place n : ℕ) → HasRun runs n place → Contains (numbers_at runs place) n
number_from_run runs place n has =
    let j = contains_at runs has.0 has.1 in
    let i = number_of runs place j.0 has.0 j.1 has.3 in
    subst (λ z. Contains (numbers_at runs place) z) has.2 (contains_from (numbers_at runs place) i.0 has.0.number i.1)

-- where the numbers are the same, each comment holds at both places or at neither
pub steady_from_alike : (runs : List CommentRun) (n first second : ℕ) → AreAlike runs first second → IsSteady runs n first second
steady_from_alike runs n first second same = (
  λ has. run_from_number runs second n (subst (λ (l : List ℕ). Contains l n) same (number_from_run runs first n has)),
  λ has. run_from_number runs first n (subst (λ (l : List ℕ). Contains l n) (sym same) (number_from_run runs second n has)),
)

members : (runs : List CommentRun) (first second : ℕ) → ((n : ℕ) → HasRun runs n first → HasRun runs n second) → MembersOf (numbers_at runs first) (numbers_at runs second)
members runs first second more i n g =
    contains_at (numbers_at runs second) n (number_from_run runs second n (more n (run_from_number runs first n (contains_from (numbers_at runs first) i n g))))

module _ (runs : List CommentRun) (first second : ℕ) (order : first ≤ second) (begun : (run : CommentRun) → Contains runs run → first < run.from → run.from ≤ second → IsSteady runs run.number first second)
    (ended : (run : CommentRun) → Contains runs run → first < run.to → run.to ≤ second → IsSteady runs run.number first second) where
  forth : (n : ℕ) → HasRun runs n first → HasRun runs n second
  forth n has =
      let run : CommentRun = has.0 in
      let low : run.from ≤ first = has.3.0 in
      let on : first < run.to = has.3.1 in
      ⊎_elim
      (λ (still : second < run.to). (run, has.1, has.2, (omega arith, still)))
      (λ (past : run.to ≤ second). subst (λ z. HasRun runs z second) has.2 ((ended run has.1 on past).0 (subst (λ z. HasRun runs z first) (sym has.2) has)))
      (cases_lt second run.to)

  back : (n : ℕ) → HasRun runs n second → HasRun runs n first
  back n has =
      let run : CommentRun = has.0 in
      let on : second < run.to = has.3.1 in
      ⊎_elim
      (λ (new : first < run.from). subst (λ z. HasRun runs z first) has.2 ((begun run has.1 new has.3.0).1 (subst (λ z. HasRun runs z second) (sym has.2) has)))
      (λ (old : run.from ≤ first). (run, has.1, has.2, (old, omega arith)))
      (cases_lt first run.from)

  pub alike_from_steady : AreOrderly runs → AreAlike runs first second
  alike_from_steady orderly =
      same_in_order (λ x y. x < y) (λ a b less more. omega arith) (numbers_at runs first) (numbers_at runs second) (rises_at runs first orderly.order) (rises_at runs second orderly.order)
      (members runs first second forth) (members runs second first back)

pub all_steady : (runs changed : List CommentRun) (first second : ℕ) → AreAlike runs first second → All (λ run. IsSteady runs run.number first second) changed
all_steady runs changed first second same = λ k d within. steady_from_alike runs (get_or changed k d).number first second same

-- where each comment that begins or ends between the places holds at both or at neither, they have the same comments
pub alike_both : (runs begins ends begun ended : List CommentRun) (first second : ℕ) → IsTable runs begins ends → first ≤ second → ((run : CommentRun) → Contains begins run → first < run.from → run.from ≤ second → Contains begun run) → ((run : CommentRun) → Contains ends run → first < run.to → run.to ≤ second → Contains ended run) → All (λ run. IsSteady runs run.number first second) begun → All (λ run. IsSteady runs run.number first second) ended → AreAlike runs first second
alike_both runs begins ends begun ended first second is order all_begun all_ended steady_begun steady_ended =
    alike_from_steady runs first second order
    (λ run held after upto. All-contains (λ r. IsSteady runs r.number first second) begun run steady_begun (all_begun run (Contains-permutation runs begins run is.beginning.same held) after upto))
    (λ run held after upto. All-contains (λ r. IsSteady runs r.number first second) ended run steady_ended (all_ended run (Contains-permutation runs ends run is.ending.same held) after upto))
    is.orderly

-- ---- a comment that turns
module _ (runs : List CommentRun) (first second : ℕ) (order : first ≤ second) (orderly : AreOrderly runs) (same : AreAlike runs first second) where
  -- two runs of one comment are the same, or one ends before the other begins
  apart : (run other : CommentRun) → Contains runs run → Contains runs other → other.number ≡ run.number → (run ≡ other) ⊎ ((run.to ≤ other.from) ⊎ (other.to ≤ run.from))
  apart run other held among number =
      let i = contains_at runs run held in
      let j = contains_at runs other among in
      ⊎_elim
      (λ (less : i.0 < j.0).
      ⊎_elim
      (λ (low : run.number < other.number). absurd (omega (arith, low, number)))
      (λ (one : (run.number ≡ other.number) × (run.to ≤ other.from)). inr (inl one.1))
      (orderly.order i.0 j.0 run other less i.1 j.1))
      (λ (ge : j.0 ≤ i.0).
      ⊎_elim
      (λ (less : j.0 < i.0).
      ⊎_elim
      (λ (low : other.number < run.number). absurd (omega (arith, low, number)))
      (λ (one : (other.number ≡ run.number) × (other.to ≤ run.from)). inr (inr one.1))
      (orderly.order j.0 i.0 other run less j.1 i.1))
      (λ (le : i.0 ≤ j.0).
      let at : i.0 ≡ j.0 = omega arith in
      inl (same_Some run other (sym i.1 ∙ ap (slice_get runs) at ∙ j.1)))
      (cases_lt j.0 i.0))
      (cases_lt i.0 j.0)

  -- one that begins between the places holds at the second one alone, where none ends
  pub begun_alone : (run : CommentRun) → Contains runs run → first < run.from → run.from ≤ second → ((other : CommentRun) → Contains runs other → first < other.to → other.to ≤ second → ⊥) → ⊥
  begun_alone run held after upto none =
      let along : run.from ≤ run.to = orderly.along run held in
      let on : second < run.to =
      ⊎_elim
      (λ (l : second < run.to). l)
      (λ (le : run.to ≤ second). absurd (none run held (omega arith) le))
      (cases_lt second run.to) in
      let before : HasRun runs run.number first = (steady_from_alike runs run.number first second same).1 (run, held, refl, (upto, on)) in
      let other : CommentRun = before.0 in
      let low : other.from ≤ first = before.3.0 in
      let past : first < other.to = before.3.1 in
      ⊎_elim
      (λ (one : run ≡ other). let from = ap (λ (z : CommentRun). z.from) one in omega (arith, from, low, after))
      (λ two.
      ⊎_elim
      (λ (behind : run.to ≤ other.from). omega arith)
      (λ (ahead : other.to ≤ run.from). none other before.1 past (omega arith))
      two)
      (apart run other held before.1 before.2)

  -- one that ends between them holds at the first one alone, where none begins
  pub ended_alone : (run : CommentRun) → Contains runs run → first < run.to → run.to ≤ second → ((other : CommentRun) → Contains runs other → first < other.from → other.from ≤ second → ⊥) → ⊥
  ended_alone run held after upto none =
      let along : run.from ≤ run.to = orderly.along run held in
      let low : run.from ≤ first =
      ⊎_elim
      (λ (less : first < run.from). absurd (none run held less (omega arith)))
      (λ (le : run.from ≤ first). le)
      (cases_lt first run.from) in
      let behind : HasRun runs run.number second = (steady_from_alike runs run.number first second same).0 (run, held, refl, (low, after)) in
      let other : CommentRun = behind.0 in
      let from : other.from ≤ second = behind.3.0 in
      let on : second < other.to = behind.3.1 in
      ⊎_elim
      (λ (one : run ≡ other). let to = ap (λ (z : CommentRun). z.to) one in omega (arith, to, upto, on))
      (λ two.
      ⊎_elim
      (λ (ahead : run.to ≤ other.from). none other behind.1 (omega arith) from)
      (λ (past : other.to ≤ run.from). omega arith)
      two)
      (apart run other held behind.1 behind.2)

-- the first of a list is one of it
first_of : (x : CommentRun) (xs : List CommentRun) → Contains (x ∷ xs) x
first_of x xs = (0, omega arith, refl)

-- of two lists one alone is empty
pub one_alone : (begun ended : List CommentRun) (x y : Bool) → x ≡ (length begun == 0) → y ≡ (length ended == 0) → not (beq x y) ≡ true → ((run : CommentRun) × Contains begun run × (ended ≡ [])) ⊎ ((run : CommentRun) × Contains ended run × (begun ≡ []))
one_alone [] [] x y a b differ = absurd (false≢true (subst (λ (z : Bool). not (beq true z) ≡ true) b (subst (λ (z : Bool). not (beq z y) ≡ true) a differ)))
one_alone (r ∷ rs) [] x y a b differ = inl (r, first_of r rs, refl)
one_alone [] (r ∷ rs) x y a b differ = inr (r, first_of r rs, refl)
one_alone (r ∷ rs) (o ∷ os) x y a b differ =
    let none : x ≡ false = a ∙ eqb-suc-zero (length rs) in
    let neither : y ≡ false = b ∙ eqb-suc-zero (length os) in
    absurd (false≢true (subst (λ (z : Bool). not (beq false z) ≡ true) neither (subst (λ (z : Bool). not (beq z y) ≡ true) none differ)))

-- no run is in a list that has none
pub none_of : (runs : List CommentRun) (run : CommentRun) → runs ≡ [] → Contains runs run → ⊥
none_of [] run none held = let less : held.0 < 0 = held.1 in absurd (omega arith)
none_of (x ∷ xs) run none held = let size = ap length none in absurd (omega (arith, size))
