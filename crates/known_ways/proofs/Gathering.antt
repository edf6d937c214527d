-- One more of what is gathered slot by slot.
use Rattle.std.proofs.Common.{◌≡◌, ℕ, ◌+◌, ◌*◌, ◌/◌, ◌<◌, ◌≤◌, ⊎_elim, nat_eq, ◌||◌, Bool, true, false, List, [], ◌∷◌, ◌++◌, length, take, set, get_or, Option, Some, None, Result, Ok, Err, IfOk, IfSome, refl, sym, ap, ◌∙◌, subst, arith}
use Rattle.std.specs.List.{slice_get}
use Rattle.std.proofs.Math.Bool.{or-true, or-false}
use Rattle.std.proofs.Math.Numerals.{suc-eq-add-one}
use Rattle.std.proofs.lemmas.Bool.{cases_eq, cases_lt}
use Rattle.std.proofs.lemmas.Bool.Decides.{nat_tests}
use Rattle.std.proofs.lemmas.List.{get_or_append_left, get_or_push, get_or-set_same, get_or-set_other, get_or-take, length_push, length-take-le, take-take, take-append-le, length-append}
use Rattle.span_context.specs.declared.profile.Profile.{Profile}
use Rattle.semantics.specs.Step.{Program}
use Rattle.tracked_state.specs.declared.state.TrackedState.{TrackedState}
use Rattle.tracked_state.specs.Tracked.{IsTrackedIn}
use Rattle.verifier.specs.Decides.{KnownEach, IsAllowedBelow, known_before}
use Rattle.known_ways.specs.Ways.{Way, KnownBelow, ways_at, ways_below, leads_to, target_at, is_jumped_below}
use Rattle.known_ways.specs.Told.{BeginsWith}
use Rattle.known_ways.proofs.Same.{known_same_below}

-- ---- elements
pub each_more : {A : Type 0} (xs : List A) (x d : A) (f : ℕ → A) (n : ℕ) → length xs ≡ n → ((k : ℕ) → k < n → get_or xs k d ≡ f k) → x ≡ f n → (k : ℕ) → k < n + 1 → get_or (xs ++ x ∷ []) k d ≡ f k
each_more xs x d f n size each is k less =
    ⊎_elim
    (λ (below : k < n). get_or_append_left xs (x ∷ []) d k (omega (arith, size, below)) ∙ each k below)
    (λ (past : n ≤ k).
    let here : n ≡ k = omega (arith, past, less) in
    get_or_push xs x d k (size ∙ here) ∙ is ∙ ap f here)
    (cases_lt k n)

pub mark_set : (xs : List Bool) (at k : ℕ) → at < length xs → get_or (set xs at true) k false ≡ (get_or xs k false || nat_eq k at)
mark_set xs at k within =
    ⊎_elim
    (λ (here : k ≡ at).
    let yes : nat_eq k at ≡ true = grind (arith, nat_tests) in
    ap (λ (i : ℕ). get_or (set xs at true) i false) here ∙ get_or-set_same xs at true false within
    ∙ sym (ap (λ (b : Bool). get_or xs k false || b) yes ∙ or-true (get_or xs k false)))
    (λ (apart : k ≡ at → ⊥).
    let no : nat_eq k at ≡ false = grind (arith, nat_tests) in
    get_or-set_other xs at k true false apart
    ∙ sym (ap (λ (b : Bool). get_or xs k false || b) no ∙ or-false (get_or xs k false)))
    (cases_eq k at)

pub mark_past : (xs : List Bool) (at k : ℕ) → length xs ≤ at → k < length xs → get_or xs k false ≡ (get_or xs k false || nat_eq k at)
mark_past xs at k past within =
    let no : nat_eq k at ≡ false = grind (arith, nat_tests) in
    sym (ap (λ (b : Bool). get_or xs k false || b) no ∙ or-false (get_or xs k false))

pub mark_none : (xs : List Bool) (k : ℕ) → get_or xs k false ≡ (get_or xs k false || false)
mark_none xs k = sym (or-false (get_or xs k false))

pub ruleset marks = (mark_set, mark_past, mark_none)

pub jumped_more : (program : Program) (to from : ℕ) (old new : Bool) (target : Option ℕ) → old ≡ is_jumped_below program to from → target ≡ target_at from (slice_get program from) → new ≡ (old || leads_to to target) → new ≡ is_jumped_below program to (from + 1)
unfolding is_jumped_below
jumped_more program to from old new target was at is =
    subst (λ (n : ℕ). new ≡ is_jumped_below program to n) (suc-eq-add-one from)
    (is ∙ ap (λ (b : Bool). b || leads_to to target) was ∙ ap (λ (t : Option ℕ). is_jumped_below program to from || leads_to to t) at)

pub jumped_nowhere : (program : Program) (to : ℕ) → is_jumped_below program to 0 ≡ false
unfolding is_jumped_below
jumped_nowhere program to = refl

-- ---- ways
pub ways_more : (profile : Profile) (program : Program) (to from : ℕ) (old new : List Way) → old ≡ ways_below profile program to from → new ≡ old ++ ways_at profile to from (slice_get program from) (known_before profile program from) → new ≡ ways_below profile program to (from + 1)
unfolding ways_below
ways_more profile program to from old new was is =
    subst (λ (n : ℕ). new ≡ ways_below profile program to n) (suc-eq-add-one from)
    (is ∙ ap (λ (ws : List Way). ws ++ ways_at profile to from (slice_get program from) (known_before profile program from)) was)

-- ---- states
pub known_push : (profile : Profile) (program : Program) (states : List (Option TrackedState)) (o : Option TrackedState) (n : ℕ) → length states ≡ n → KnownBelow profile program states → IsTrackedIn o (known_before profile program n) → KnownBelow profile program (states ++ o ∷ [])
known_push profile program states o n size known here slot less =
    ⊎_elim
    (λ (below : slot < n).
    subst (λ (x : Option TrackedState). IsTrackedIn x (known_before profile program slot)) (sym (get_or_append_left states (o ∷ []) None slot (omega (arith, size, below)))) (known slot (omega (arith, size, below))))
    (λ (past : n ≤ slot).
    let is : n ≡ slot = omega (arith, past, less, size, length_push states o) in
    subst (λ (x : Option TrackedState). IsTrackedIn x (known_before profile program slot)) (sym (get_or_push states o None slot (size ∙ is)))
    (subst (λ (k : ℕ). IsTrackedIn o (known_before profile program k)) is here))
    (cases_lt slot n)

pub known_nothing : (profile : Profile) (program : Program) → KnownBelow profile program []
known_nothing profile program slot less = absurd (omega (arith, less))

pub known_take : (profile : Profile) (program : Program) (states : List (Option TrackedState)) (count : ℕ) → length states ≡ length program → count ≤ length program → KnownEach profile program states → KnownBelow profile program (take count states)
known_take profile program states count size within known slot less =
    let few : slot < count = omega (arith, less, length-take-le count states (omega (arith, size, within))) in
    subst (λ (x : Option TrackedState). IsTrackedIn x (known_before profile program slot)) (sym (get_or-take count states slot None few)) (known slot (omega (arith, few, within)))

pub known_other : (profile : Profile) (p q : Program) (states : List (Option TrackedState)) (last : ℕ) → length states ≡ last → ((k : ℕ) → k + 1 < last → slice_get p k ≡ slice_get q k) → KnownBelow profile p states → KnownBelow profile q states
known_other profile p q states last size alike known slot less =
    subst (IsTrackedIn (get_or states slot None)) (known_same_below profile p q slot (λ k below. alike k (omega (arith, below, less, size)))) (known slot less)

-- of states that are asked for, if there are any
pub known_words : {V E : Type 0} (profile : Profile) (p q : Program) (items : V → List (Option TrackedState)) (last : ℕ) (r : Result (Option V) E) → ((k : ℕ) → k + 1 < last → slice_get p k ≡ slice_get q k) → IfOk r (λ o. IfSome o (λ v. length (items v) ≡ last)) → IfOk r (λ o. IfSome o (λ v. KnownBelow profile p (items v))) → IfOk r (λ o. IfSome o (λ v. KnownBelow profile q (items v)))
known_words profile p q items last (Ok (Some v)) alike size known = known_other profile p q (items v) last size alike known
known_words profile p q items last (Ok None) alike size known = tt
known_words profile p q items last (Err e) alike size known = tt

pub allowed_lower : (profile : Profile) (program : Program) (end slot : ℕ) → slot ≤ end → IsAllowedBelow profile program end → IsAllowedBelow profile program slot
allowed_lower profile program end slot within allowed = record {
  structured = allowed.structured;
  below = λ k fault less refused. allowed.below k fault (omega (arith, less, within)) refused;
}

-- ---- bytes
pub begins_cut : (words bytes cut : List ℕ) (last : ℕ) → bytes ≡ words → cut ≡ take (last * 8) bytes → last ≤ length words / 8 → BeginsWith last words cut
begins_cut words bytes cut last same is within =
    let counts : last * 8 ≡ 8 * last = omega arith in
    let begin : cut ≡ take (8 * last) words = is ∙ ap (λ (n : ℕ). take n bytes) counts ∙ ap (take (8 * last)) same in
    let size : length cut ≡ 8 * last = ap length begin ∙ length-take-le (8 * last) words (omega (arith, within)) in
    record {
      long = omega (arith, size);
      same = ap (take (8 * last)) begin ∙ take-take (8 * last) (8 * last) words (omega arith);
    }

pub begins_more : (words bytes more grown : List ℕ) (last : ℕ) → BeginsWith last words bytes → grown ≡ bytes ++ more → BeginsWith last words grown
begins_more words bytes more grown last begins is = record {
  long = omega (arith, ap length is, length-append bytes more, begins.long);
  same = ap (take (8 * last)) is ∙ take-append-le (8 * last) bytes more begins.long ∙ begins.same;
}
