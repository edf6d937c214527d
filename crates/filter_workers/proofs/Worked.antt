-- How the turns of workers add up.
use Rattle.std.proofs.Common.{◌≡◌, ℕ, zero, suc, ◌+◌, ◌-◌, ◌<◌, ◌≤◌, ◌⊎◌, IfOk, IsErrAnd, Result, Ok, Err, Option, None, Some, List, [], ◌∷◌, ◌++◌, length, map, refl, ap, sym, ◌∙◌, subst, inl, inr, arith, append_assoc, append-nil}
use Rattle.std.specs.Prelude.{⊤}
use Rattle.std.specs.List.{All, Contains, sum, slice_index_or}
use Rattle.std.proofs.lemmas.List.Sums.{sum_by-append}
use Rattle.std.proofs.lemmas.List.Elements.{All-cons, All-nil}
use Rattle.change_ops.specs.declared.size.Size.{Size}
use Rattle.feeds.specs.Batches.{Job}
use Rattle.hub_core.specs.declared.error.CommitError.{CommitError}
use Rattle.hub_core.specs.declared.error.CommitError.TheVariants as commit
use Rattle.hub_core.specs.declared.error.NoSubscriber.{NoSubscriber}
use Rattle.core_history.specs.Hubs.{HubEntry, Seen}
use Rattle.ingest_workers.specs.Calls.{Makes}
use Rattle.ingest_workers.proofs.Calls.{makes_none, makes_then}
use Rattle.filter_workers.specs.declared.work.TurnEnd.{TurnEnd}
use Rattle.filter_workers.specs.declared.work.TurnEnd.TheVariants.{Committed, Refused}
use Rattle.filter_workers.specs.Turns.{takes, commits, pumps, committed_count, IsEnd, batches_of, Served, turn_of, TurnsShort, Turns, AreTurns, AreTurnsShort, Works, AddUp, Totals, EachMakes, WorkTogether, Worked}

-- so many turns, each of which had a job
abbrev pub AreFull : ℕ → List HubEntry → Type 0
AreFull zero calls = calls ≡ []
AreFull (suc turns) calls = (s : Served) × (more : List HubEntry) × (calls ≡ turn_of s ++ more) × AreFull turns more

module _ (P : ℕ → List HubEntry → Type 0) (step : (n : ℕ) (s : Served) (more calls : List HubEntry) → calls ≡ turn_of s ++ more → P n more → P (suc n) calls) where
  -- after turns that had jobs
  after_full : (k n m : ℕ) (calls more : List HubEntry) → m ≡ k + n → AreFull k calls → P n more → P m (calls ++ more)
  after_full zero n m calls more is none rest =
      let same : n ≡ m = omega (arith, is) in
      let all : more ≡ calls ++ more = sym (ap (λ l. l ++ more) none) in
      subst (λ i. P i (calls ++ more)) same (subst (P n) all rest)
  after_full (suc k) n zero calls more is full rest = absurd (omega (arith, is))
  after_full (suc k) n (suc m) calls more is full rest =
      step m full.0 (full.1 ++ more) (calls ++ more) (ap (λ l. l ++ more) full.2 ∙ append_assoc (turn_of full.0) full.1 more)
      (after_full k n m full.1 more (omega (arith, is)) full.3 rest)

turns_step : (n : ℕ) (s : Served) (more calls : List HubEntry) → calls ≡ turn_of s ++ more → AreTurns n more → AreTurns (suc n) calls
turns_step n s more calls is rest = inr (s, more, is, rest)

short_step : (n : ℕ) (s : Served) (more calls : List HubEntry) → calls ≡ turn_of s ++ more → AreTurnsShort n more → AreTurnsShort (suc n) calls
short_step n s more calls is rest = inr (s, more, is, rest)

full_step : (n : ℕ) (s : Served) (more calls : List HubEntry) → calls ≡ turn_of s ++ more → AreFull n more → AreFull (suc n) calls
full_step n s more calls is rest = (s, more, is, rest)

-- one turn more that had a job
pub full_turn : (k : ℕ) (calls : List HubEntry) (s : Served) → AreFull k calls → AreFull (k + 1) (calls ++ turn_of s)
full_turn k calls s full = after_full AreFull full_step k 1 (k + 1) calls (turn_of s) refl full (s, [], sym (append-nil (turn_of s)), refl)

-- all turns had jobs
pub full_turns : (turns : ℕ) (calls : List HubEntry) → AreFull turns calls → AreTurns turns calls
full_turns turns calls full = subst (AreTurns turns) (append-nil calls) (after_full AreTurns turns_step turns 0 turns calls [] (omega arith) full refl)

-- the turn after them had none
pub full_none : (k turns : ℕ) (calls more : List HubEntry) → k < turns → AreFull k calls → more ≡ takes None ∷ [] → AreTurns turns (calls ++ more)
full_none k zero calls more lt full none = absurd (omega (arith, lt))
full_none k (suc turns) calls more lt full none =
    let rest : (n : ℕ) × (suc turns ≡ k + suc n) = (turns - k, omega (arith, lt)) in
    after_full AreTurns turns_step k (suc rest.0) (suc turns) calls more rest.1 full (inl none)

-- the turn after them found no memory
pub full_short : (k turns : ℕ) (calls more : List HubEntry) → k < turns → AreFull k calls → (job : Job) → TurnsShort job more → AreTurnsShort turns (calls ++ more)
full_short k zero calls more lt full job short = absurd (omega (arith, lt))
full_short k (suc turns) calls more lt full job short =
    let rest : (n : ℕ) × (suc turns ≡ k + suc n) = (turns - k, omega (arith, lt)) in
    after_full AreTurnsShort short_step k (suc rest.0) (suc turns) calls more rest.1 full (inl (job, short))

count_append : (calls more : List HubEntry) → committed_count (calls ++ more) ≡ committed_count calls + committed_count more
count_append calls more = sum_by-append _ calls more

turn_counts : (job : Job) (r : Result (Unit {0}) CommitError) (end : TurnEnd) (sent : Result ℕ NoSubscriber) → IsEnd r end → committed_count (takes (Some job) ∷ commits job r ∷ pumps job.subscriber sent ∷ []) ≡ batches_of end
turn_counts job (Ok tt) Committed sent ended = refl
turn_counts job (Ok tt) Refused sent ended = absurd ended
turn_counts job (Err commit.NoSubscriber) Committed sent ended = absurd ended
turn_counts job (Err commit.NoSubscriber) Refused sent ended = refl
turn_counts job (Err commit.Stale) Committed sent ended = absurd ended
turn_counts job (Err commit.Stale) Refused sent ended = refl
turn_counts job (Err commit.OutOfMemory) Committed sent ended = absurd ended
turn_counts job (Err commit.OutOfMemory) Refused sent ended = absurd ended

turn_count : (s : Served) → committed_count (turn_of s) ≡ batches_of s.end
turn_count s = turn_counts s.job s.answer s.end s.sent s.ended

few_batches : (end : TurnEnd) → batches_of end ≤ 1
few_batches Committed = omega arith
few_batches Refused = omega arith

-- what a turn adds to the count
pub turn_adds : (calls : List HubEntry) (s : Served) (count more : ℕ) → count ≡ committed_count calls → more ≡ batches_of s.end → count + more ≡ committed_count (calls ++ turn_of s)
turn_adds calls s count more so is = omega (arith, so, is, count_append calls (turn_of s), turn_count s)

-- a turn with no job adds nothing
pub none_adds : (calls more : List HubEntry) (count : ℕ) → count ≡ committed_count calls → more ≡ takes None ∷ [] → count ≡ committed_count (calls ++ more)
none_adds calls more count so none =
    let nothing : committed_count more ≡ 0 = ap committed_count none in
    omega (arith, so, count_append calls more, nothing)

-- at most one batch a turn
pub few_committed : (turns : ℕ) (calls : List HubEntry) → AreTurns turns calls → committed_count calls ≤ turns
few_committed zero calls none =
    let nothing : committed_count calls ≡ 0 = ap committed_count none in
    omega (arith, nothing)
few_committed (suc turns) calls (inl none) =
    let nothing : committed_count calls ≡ 0 = ap committed_count none in
    omega (arith, nothing)
few_committed (suc turns) calls (inr turn) =
    omega (arith, ap committed_count turn.2, count_append (turn_of turn.0) turn.1, turn_count turn.0, few_batches turn.0.end, few_committed turns turn.1 turn.3)

-- turns until no memory was found answer so
pub works_short : {E : Type 0} (P : E → Type 0) (turns : ℕ) (r : Result ℕ E) (calls : List HubEntry) → IsErrAnd r P → AreTurnsShort turns calls → Works turns r calls
works_short P turns (Ok count) calls is short = absurd is
works_short P turns (Err e) calls is short = short

module _ (size : Size) where
  -- so far each turn had a job
  abbrev pub SoFar : Seen → ℕ → ℕ → Seen → Type 0
  SoFar v k count u = (calls : List HubEntry) × Makes size v calls u × AreFull k calls × (count ≡ committed_count calls) × (count ≤ k)

  abbrev Turned : {E : Type 0} → Seen → Result (Option TurnEnd) E → Seen → Type 0
  Turned u r w = (calls : List HubEntry) × Makes size u calls w × Turns r calls

  pub one_turn : (v u w : Seen) (k count more : ℕ) (o : Option TurnEnd) (end : TurnEnd) → SoFar v k count u → Turned {E = Unit {0}} u (Ok o) w → o ≡ Some end → more ≡ batches_of end → SoFar v (k + 1) (count + more) w
  one_turn v u w k count more None end before did is adds = absurd cc
  one_turn v u w k count more (Some e) end before did is adds =
      let s = did.2.0 in
      let same : e ≡ end = cc is in
      let more_is : more ≡ batches_of s.end = adds ∙ sym (ap batches_of (did.2.1 ∙ same)) in (
        before.0 ++ did.0,
        makes_then size v u w before.0 did.0 before.1 did.1,
        subst (λ l. AreFull (k + 1) (before.0 ++ l)) (sym did.2.2) (full_turn k before.0 s before.2),
        turn_adds before.0 s count more before.3 more_is ∙ ap (λ l. committed_count (before.0 ++ l)) (sym did.2.2),
        omega (arith, before.4, adds, few_batches end),
      )

  pub no_job : (v u w : Seen) (k turns count : ℕ) (o : Option TurnEnd) → SoFar v k count u → k < turns → Turned {E = Unit {0}} u (Ok o) w → o ≡ None → (calls : List HubEntry) × Makes size v calls w × (AreTurns turns calls × (count ≡ committed_count calls))
  no_job v u w k turns count (Some e) before lt did is = absurd cc
  no_job v u w k turns count None before lt did is = (
    before.0 ++ did.0,
    makes_then size v u w before.0 did.0 before.1 did.1,
    (full_none k turns before.0 did.0 lt before.2 did.2, none_adds before.0 did.0 count before.3 did.2),
  )

  pub no_memory : {E F : Type 0} (P : E → Type 0) (v u w : Seen) (k turns count : ℕ) (e : F) (r : Result ℕ E) → SoFar v k count u → k < turns → Turned {E = F} u (Err e) w → IsErrAnd r P → (calls : List HubEntry) × Makes size v calls w × Works turns r calls
  no_memory P v u w k turns count e r before lt did is = (
    before.0 ++ did.0,
    makes_then size v u w before.0 did.0 before.1 did.1,
    works_short P turns r (before.0 ++ did.0) is (full_short k turns before.0 did.0 lt before.2 did.2.0 did.2.1),
  )

sum_cons : (n : ℕ) (ns : List ℕ) → sum (n ∷ ns) ≡ n + sum ns
sum_cons n ns = omega (arith, sum_by-append (λ (k : ℕ). k) (n ∷ []) ns)

-- the turns of a worker, whether or not it found memory
abbrev MayBeShort : ℕ → List HubEntry → Type 0
MayBeShort turns calls = AreTurns turns calls ⊎ AreTurnsShort turns calls

-- each of these is how the turns with the calls at its place ended
abbrev WorkEach : {E : Type 0} → ℕ → List (Result ℕ E) → List (List HubEntry) → Type 0
WorkEach turns [] [] = ⊤
WorkEach turns (r ∷ ended) (calls ∷ did) = Works turns r calls × WorkEach turns ended did
WorkEach turns _ _ = ⊥

each_turned : {E : Type 0} (turns : ℕ) (ended : List (Result ℕ E)) (did : List (List HubEntry)) (n : ℕ) → WorkEach turns ended did → AddUp ended n → All (AreTurns turns) did × (n ≡ sum (map committed_count did))
each_turned turns [] [] n each add = (All-nil (AreTurns turns), add)
each_turned turns [] (calls ∷ did) n each add = absurd each
each_turned turns (Ok count ∷ ended) [] n each add = absurd each
each_turned turns (Err e ∷ ended) [] n each add = absurd each
each_turned turns (Err e ∷ ended) (calls ∷ did) n each add = absurd add
each_turned turns (Ok count ∷ ended) (calls ∷ did) n each add =
    let rest = each_turned turns ended did add.0 each.1 add.2 in (
      All-cons (AreTurns turns) calls did each.0.0 rest.0,
      omega (arith, add.1, each.0.1, rest.1, sum_cons (committed_count calls) (map committed_count did)),
    )

may_be_short : {E : Type 0} (turns : ℕ) (r : Result ℕ E) (calls : List HubEntry) → Works turns r calls → MayBeShort turns calls
may_be_short turns (Ok count) calls works = inl works.0
may_be_short turns (Err e) calls short = inr short

each_may : {E : Type 0} (turns : ℕ) (ended : List (Result ℕ E)) (did : List (List HubEntry)) → WorkEach turns ended did → All (MayBeShort turns) did
each_may turns [] [] each = All-nil (MayBeShort turns)
each_may turns [] (calls ∷ did) each = absurd each
each_may turns (r ∷ ended) [] each = absurd each
each_may turns (r ∷ ended) (calls ∷ did) each = All-cons (MayBeShort turns) calls did (may_be_short turns r calls each.0) (each_may turns ended did each.1)

-- one of them had turns until it found no memory
abbrev OneShort : ℕ → List (List HubEntry) → Type 0
OneShort turns did = (calls : List HubEntry) × Contains did calls × AreTurnsShort turns calls

works_to_end : {E : Type 0} (turns : ℕ) (r : Result ℕ E) (e : E) (calls : List HubEntry) → r ≡ Err e → Works turns r calls → AreTurnsShort turns calls
works_to_end turns (Ok count) e calls is works = absurd cc
works_to_end turns (Err f) e calls is short = short

one_short : {E : Type 0} (turns : ℕ) (ended : List (Result ℕ E)) (did : List (List HubEntry)) (e : E) (k : ℕ) → k < length ended → slice_index_or ended k (Err e) ≡ Err e → WorkEach turns ended did → OneShort turns did
one_short turns [] did e k lt is each = absurd (omega (arith, lt))
one_short turns (r ∷ ended) [] e k lt is each = absurd each
one_short turns (r ∷ ended) (calls ∷ did) e zero lt is each = (calls, (0, omega arith, refl), works_to_end turns r e calls is each.0)
one_short turns (r ∷ ended) (calls ∷ did) e (suc k) lt is each =
    let rest = one_short turns ended did e k (omega (arith, lt)) is each.1 in
    (rest.0, (suc rest.1.0, omega (arith, rest.1.1), rest.1.2), rest.2)

together : {E : Type 0} (turns : ℕ) (ended : List (Result ℕ E)) (did : List (List HubEntry)) (r : Result ℕ E) → WorkEach turns ended did → Totals ended r → WorkTogether turns r did
together turns ended did (Ok n) each total = each_turned turns ended did n each total
together turns ended did (Err f) each total =
    let one = one_short turns ended did total.0 total.1.0 total.1.1 total.1.2 each in
    (each_may turns ended did each, one.0, one.1, one.2)

few_ended : {E : Type 0} (turns : ℕ) (r : Result ℕ E) (calls : List HubEntry) → turns < 4294967296 → Works turns r calls → IfOk r (λ count. count < 4294967296)
few_ended turns (Ok count) calls few works = omega (arith, few, works.1, few_committed turns calls works.0)
few_ended turns (Err e) calls few works = tt

module _ {W E : Type 0} (size : Size) (turns : ℕ) (share : W → Seen) (ended : W → Result ℕ E) where
  -- what a worker did
  abbrev pub DidOne : W → W → Type 0
  DidOne old new = (calls : List HubEntry) × Makes size (share old) calls (share new) × Works turns (ended new) calls

  abbrev pub DidEach : List W → List W → Type 0
  DidEach olds news = (k : ℕ) (d : W) → k < length olds → DidOne (slice_index_or olds k d) (slice_index_or news k d)

  pub did_at : (a b old new : W) → a ≡ old → b ≡ new → DidOne a b → DidOne old new
  did_at a b old new is left did = subst (λ w. DidOne w new) is (subst (λ w. DidOne a w) left did)

  abbrev DidAll : List W → List W → Type 0
  DidAll olds news = (did : List (List HubEntry)) × EachMakes size (map share olds) did (map share news) × WorkEach turns (map ended news) did

  did_all : (olds news : List W) → length news ≡ length olds → DidEach olds news → DidAll olds news
  did_all [] [] same each = ([], tt, tt)
  did_all [] (new ∷ news) same each = absurd (omega (arith, same))
  did_all (old ∷ olds) [] same each = absurd (omega (arith, same))
  did_all (old ∷ olds) (new ∷ news) same each =
      let first : DidOne old new = each 0 old (omega arith) in
      let rest = did_all olds news (omega (arith, same)) (λ k d lt. each (suc k) d (omega (arith, lt))) in
      (first.0 ∷ rest.0, (first.1, rest.1), (first.2, rest.2))

  -- what each did is what they did together
  pub all_worked : (olds news : List W) (r : Result ℕ E) → length news ≡ length olds → DidEach olds news → Totals (map ended news) r → Worked size turns (map share olds) r (map share news)
  all_worked olds news r same each total =
      let all = did_all olds news same each in
      record { did = all.0; made = all.1; ended = together turns (map ended news) all.0 r all.2 total }

  -- a worker commits at most a batch a turn
  pub few_each : (olds news : List W) → length news ≡ length olds → turns < 4294967296 → DidEach olds news → All (λ w. IfOk (ended w) (λ count. count < 4294967296)) news
  few_each olds news same few each = λ k d lt.
      let did = each k d (omega (arith, lt, same)) in
      few_ended turns (ended (slice_index_or news k d)) did.0 few did.2

module _ (size : Size) where
  -- in no turn nothing is done
  no_calls : (shares : List Seen) → (did : List (List HubEntry)) × EachMakes size shares did shares × All (AreTurns 0) did × (0 ≡ sum (map committed_count did))
  no_calls [] = ([], tt, All-nil (AreTurns 0), refl)
  no_calls (share ∷ shares) =
      let rest = no_calls shares in
      ([] ∷ rest.0, (makes_none size share, rest.1), All-cons (AreTurns 0) [] rest.0 refl rest.2, omega (arith, rest.3, sum_cons 0 (map committed_count rest.0)))

  pub none_worked : {E : Type 0} (turns : ℕ) (shares : List Seen) → turns ≡ 0 → Worked {E = E} size turns shares (Ok 0) shares
  none_worked {E} turns shares none =
      let all = no_calls shares in
      let did : Worked {E = E} size 0 shares (Ok 0) shares = record { did = all.0; made = all.1; ended = (all.2, all.3) } in
      subst (λ k. Worked {E = E} size k shares (Ok 0) shares) (sym none) did
