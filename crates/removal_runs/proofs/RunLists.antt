-- The runs of a peer: which removals stand in them, and how they grow.
use Rattle.std.proofs.Common.{◌≡◌, ℕ, zero, suc, ◌+◌, ◌-◌, ◌<◌, ◌≤◌, ◌^◌, List, [], ◌∷◌, ◌++◌, Some, length, set, sym, ap, refl, ◌∙◌, subst, arith, ⊎_elim, add-one, append-nil, append_assoc, length-append}
use Rattle.std.specs.List.{slice_get, flat_map, Contains}
use Rattle.std.proofs.lemmas.Option.{same_Some, none-some, slice_get_within}
use Rattle.std.proofs.lemmas.Bool.{cases_lt}
use Rattle.std.proofs.lemmas.List.Concat.{flat_map-append}
use Rattle.std.proofs.lemmas.List.Edits.{insert_end}
use Rattle.std.proofs.lemmas.List.Elements.{Contains-append_left, Contains-push, Contains-push_cases, All-push, All-set}
use Rattle.change_ops.specs.declared.id.OpId.{OpId}
use Rattle.removal_runs.specs.Apart.{AreApart, HaveBegun}
use Rattle.removal_runs.specs.Removals.{PeerRemoval, target_in, removal_in, first_removals, removals_in, begin_of_run, end_of_run, HasTargets, AreRuns}
use Rattle.removal_runs.specs.declared.run.Run.{Run}
use Rattle.removal_runs.proofs.Apart.{ends_before, is_some, insert_apart, set_apart, AllBefore}
use Rattle.removal_runs.proofs.Joining.{StandsIn, nothing_there, stands_in, from_part}
use Rattle.removal_runs.proofs.Placing.{place_within}

-- ---- the removals of one run
pub removal_at : (run : Run) (count : ℕ) (r : PeerRemoval) → Contains (first_removals run count) r → (steps : ℕ) × (steps < count) × (removal_in run steps ≡ r)
removal_at run zero r h = absurd (nothing_there r h)
removal_at run (suc n) r h =
    ⊎_elim
    (λ (before : Contains (first_removals run n) r). let rest = removal_at run n r before in let less : rest.0 < n = rest.1 in (rest.0, omega arith, rest.2))
    (λ (last : removal_in run n ≡ r). (n, omega arith, last))
    (Contains-push_cases (first_removals run n) (removal_in run n) r h)

pub has_removal : (run : Run) (count steps : ℕ) → steps < count → Contains (first_removals run count) (removal_in run steps)
has_removal run zero steps less = absurd (omega arith)
has_removal run (suc n) steps less =
    ⊎_elim
    (λ (before : steps < n). Contains-append_left (first_removals run n) (removal_in run n ∷ []) (removal_in run steps) (has_removal run n steps before))
    (λ (last : n ≤ steps).
    let same : n ≡ steps = omega arith in
    subst (λ k. Contains (first_removals run n ++ removal_in run n ∷ []) (removal_in run k)) same (Contains-push (first_removals run n) (removal_in run n)))
    (cases_lt steps n)

pub same_removals : (a b : Run) (count : ℕ) → ((steps : ℕ) → steps < count → removal_in a steps ≡ removal_in b steps) → first_removals a count ≡ first_removals b count
same_removals a b zero same = refl
same_removals a b (suc n) same =
    ap (λ z. z ++ removal_in a n ∷ []) (same_removals a b n (λ steps less. same steps (omega arith)))
    ∙ ap (λ z. first_removals b n ++ z ∷ []) (same n (omega arith))

pub longer_by : (run longer : Run) (r : PeerRemoval) → longer.length ≡ run.length + 1 → ((steps : ℕ) → steps < run.length → removal_in longer steps ≡ removal_in run steps) → removal_in longer run.length ≡ r → removals_in longer ≡ removals_in run ++ r ∷ []
longer_by run longer r more same last =
    ap (first_removals longer) (more ∙ add-one run.length)
    ∙ ap (λ z. z ++ removal_in longer run.length ∷ []) (same_removals longer run run.length same)
    ∙ ap (λ z. removals_in run ++ z ∷ []) last

pub count_of_run : (run : Run) (count : ℕ) → length (first_removals run count) ≡ count
count_of_run run zero = refl
count_of_run run (suc n) = let rest = count_of_run run n in omega (arith, length-append (first_removals run n) (removal_in run n ∷ []))

pub runs_are_few : (low : ℕ) (runs : List Run) (high : ℕ) → AreApart begin_of_run end_of_run low runs high → length runs ≤ length (flat_map removals_in runs)
runs_are_few low [] high apart = omega arith
runs_are_few low (run ∷ runs) high apart =
    let some : run.counter < run.counter + run.length = apart.1 in
    let first : length (removals_in run) ≡ run.length = count_of_run run run.length in
    let rest = runs_are_few (run.counter + run.length) runs high apart.2 in
    omega (arith, length-append (removals_in run) (flat_map removals_in runs))

-- ---- the run that a counter lies in
pub record LiesIn (runs : List Run) (counter begun : ℕ) (target : OpId) : Type 0 where
  pub run : Run
  pub some : 1 ≤ begun
  pub at : slice_get runs (begun - 1) ≡ Some run
  pub from : run.counter ≤ counter
  pub to : counter < run.counter + run.length
  pub target_is : target_in run (counter - run.counter) ≡ target

lies_in_run : (run : Run) (counter : ℕ) (target : OpId) → (steps : ℕ) × (steps < run.length) × (removal_in run steps ≡ record { counter = counter; target = target }) → (run.counter ≤ counter) × (counter < run.counter + run.length) × (target_in run (counter - run.counter) ≡ target)
lies_in_run run counter target (steps, less, is) =
    let here : run.counter + steps ≡ counter = ap (λ (r : PeerRemoval). r.counter) is in
    let there : target_in run steps ≡ target = ap (λ (r : PeerRemoval). r.target) is in
    let back : counter - run.counter ≡ steps = omega arith in
    (omega arith, omega arith, ap (target_in run) back ∙ there)

-- a run before the last that has begun ends at the counter or before it
not_last : (runs : List Run) (counter begun k : ℕ) (run : Run) → AreRuns runs → HaveBegun begin_of_run runs counter begun → slice_get runs k ≡ Some run → counter < run.counter + run.length → suc k < begun → ⊥
not_last runs counter begun k run ok begins at to before =
    let within = begins.within in
    let next = place_within runs (suc k) (omega arith) in
    let ends : run.counter + run.length ≤ next.0.counter = ends_before begin_of_run end_of_run 0 runs (2 ^ 48) k (suc k) run next.0 ok.apart (omega arith) at next.1 in
    let begun_too : next.0.counter ≤ counter = begins.first (suc k) next.0 before next.1 in
    omega arith

-- the run of a place is the last that has begun
last_begun : (runs : List Run) (counter begun k : ℕ) (run : Run) → AreRuns runs → HaveBegun begin_of_run runs counter begun → slice_get runs k ≡ Some run → run.counter ≤ counter → counter < run.counter + run.length → suc k ≡ begun
last_begun runs counter begun k run ok begins at from to =
    ⊎_elim
    (λ (low : k < begun).
    ⊎_elim
    (λ (before : suc k < begun). absurd (not_last runs counter begun k run ok begins at to before))
    (λ (last : begun ≤ suc k). omega arith)
    (cases_lt (suc k) begun))
    (λ (high : begun ≤ k). let past : counter < run.counter = begins.rest k run high at in absurd (omega arith))
    (cases_lt k begun)

pub lies_in : (runs : List Run) (counter begun : ℕ) (target : OpId) → AreRuns runs → HaveBegun begin_of_run runs counter begun → Contains (flat_map removals_in runs) (record { counter = counter; target = target }) → LiesIn runs counter begun target
lies_in runs counter begun target ok begins has =
    let stands : StandsIn removals_in runs (record { counter = counter; target = target }) = stands_in removals_in runs (record { counter = counter; target = target }) has in
    let run : Run = stands.part in
    let inside = lies_in_run run counter target (removal_at run run.length (record { counter = counter; target = target }) stands.has) in
    let last : suc stands.place ≡ begun = last_begun runs counter begun stands.place run ok begins stands.at inside.0 inside.1 in
    let back : stands.place ≡ begun - 1 = omega arith in
    record {
      run = run;
      some = omega arith;
      at = ap (slice_get runs) (sym back) ∙ stands.at;
      from = inside.0;
      to = inside.1;
      target_is = inside.2;
    }

pub in_last : (runs : List Run) (counter place : ℕ) (run : Run) → slice_get runs place ≡ Some run → run.counter ≤ counter → counter < run.counter + run.length → Contains (flat_map removals_in runs) (record { counter = counter; target = target_in run (counter - run.counter) })
in_last runs counter place run at from to =
    let steps = counter - run.counter in
    let less : steps < run.length = omega arith in
    let here : run.counter + steps ≡ counter = omega arith in
    subst (λ z. Contains (flat_map removals_in runs) (record { counter = z; target = target_in run steps })) here
    (from_part removals_in runs place run (removal_in run steps) at (has_removal run run.length steps less))

-- ---- a peer's removals grow
abbrev pub IsAbove : List PeerRemoval → ℕ → Type 0
IsAbove removals counter = (r : PeerRemoval) → Contains removals r → r.counter < counter

pub ends_by : (runs : List Run) (counter : ℕ) → AreRuns runs → IsAbove (flat_map removals_in runs) counter → (i : ℕ) → AllBefore end_of_run runs i counter
ends_by runs counter ok above i k run less at =
    let some : run.counter < run.counter + run.length = is_some begin_of_run end_of_run 0 runs (2 ^ 48) k run ok.apart at in
    let last : run.counter + (run.length - 1) < counter = above (removal_in run (run.length - 1)) (from_part removals_in runs k run (removal_in run (run.length - 1)) at (has_removal run run.length (run.length - 1) (omega arith))) in
    omega arith

pub pushed_runs : (runs : List Run) (counter : ℕ) (one : Run) → AreRuns runs → IsAbove (flat_map removals_in runs) counter → counter < 2 ^ 48 → one.counter ≡ counter → one.length ≡ 1 → HasTargets one → AreRuns (runs ++ one ∷ [])
pushed_runs runs counter one ok above small begin single targets = record {
  apart =
      subst (λ z. AreApart begin_of_run end_of_run 0 z (2 ^ 48)) (insert_end runs one)
      (insert_apart begin_of_run end_of_run 0 runs (2 ^ 48) (length runs) one ok.apart (omega arith) (omega arith) (omega arith)
      (subst (λ z. AllBefore end_of_run runs (length runs) z) (sym begin) (ends_by runs counter ok above (length runs)))
      (λ k y le at. let less = slice_get_within runs k y at in absurd (omega arith)));
  targets = All-push HasTargets runs one ok.targets targets;
}

pub longer_runs : (runs : List Run) (i : ℕ) (run longer : Run) → AreRuns runs → slice_get runs i ≡ Some run → suc i ≡ length runs → run.counter + run.length < 2 ^ 48 → longer.counter ≡ run.counter → longer.length ≡ run.length + 1 → HasTargets longer → AreRuns (set runs i longer)
longer_runs runs i run longer ok at last small begin more targets =
    let some : run.counter < run.counter + run.length = is_some begin_of_run end_of_run 0 runs (2 ^ 48) i run ok.apart at in
    record {
      apart =
          set_apart begin_of_run end_of_run 0 runs (2 ^ 48) i longer ok.apart (omega arith) (omega arith) (omega arith)
          (λ k y less there. let before : y.counter + y.length ≤ run.counter = ends_before begin_of_run end_of_run 0 runs (2 ^ 48) k i y run ok.apart less there at in omega arith)
          (λ k y le there. let less = slice_get_within runs k y there in absurd (omega arith));
      targets = All-set HasTargets runs i longer targets ok.targets;
    }

pub last_longer : {X A : Type 0} (parts : X → List A) (xs : List X) (i : ℕ) (x z : X) (a : A) → slice_get xs i ≡ Some x → suc i ≡ length xs → parts z ≡ parts x ++ a ∷ [] → flat_map parts (set xs i z) ≡ flat_map parts xs ++ a ∷ []
last_longer parts [] i x z a at last more = absurd (none-some x at)
last_longer parts (y ∷ []) zero x z a at last more =
    append-nil (parts z) ∙ more ∙ ap (λ w. parts w ++ a ∷ []) (sym (same_Some y x at)) ∙ ap (λ w. w ++ a ∷ []) (sym (append-nil (parts y)))
last_longer parts (y ∷ w ∷ ws) zero x z a at last more = absurd (omega (arith, last))
last_longer parts (y ∷ ys) (suc i) x z a at last more =
    ap (λ w. parts y ++ w) (last_longer parts ys i x z a at (omega (arith, last)) more) ∙ sym (append_assoc (parts y) (flat_map parts ys) (a ∷ []))

pub one_pushed : {X A : Type 0} (parts : X → List A) (xs : List X) (z : X) (a : A) → parts z ≡ a ∷ [] → flat_map parts (xs ++ z ∷ []) ≡ flat_map parts xs ++ a ∷ []
one_pushed parts xs z a one = flat_map-append parts xs (z ∷ []) ∙ ap (λ w. flat_map parts xs ++ w) (append-nil (parts z) ∙ one)
