-- The parts of shares, which no call changes.
use Rattle.std.proofs.Common.{◌≡◌, ℕ, Bool, true, false, ◌+◌, ◌<◌, Result, Ok, Err, List, [], ◌∷◌, ◌++◌, length, set, get_or, take, refl, ap, subst, arith}
use Rattle.std.specs.Prelude.{All, sum_by}
use Rattle.std.proofs.Math.Seq.{take-append_seam}
use Rattle.std.proofs.lemmas.List.Sums.{sum-map, sum_by-set, sum_by-cons, sum_by-append}
use Rattle.std.proofs.lemmas.List.Elements.{All-head, All-tail}
use Rattle.change_ops.specs.declared.size.Size.{Size}
use Rattle.hub_core.specs.Machine.{Core}
use Rattle.core_history.specs.Runs.{CoreCall, CoreReply}
use Rattle.subscriber_queues.specs.Queue.{QueueSink}
use Rattle.core_history.specs.Hubs.{HubEntry, Seen}
use Rattle.ingest_workers.specs.Calls.{IsCall, IsLook}
use Rattle.ingest_workers.specs.Holdings.{IsIdle}
use Rattle.ingest_workers.specs.Texts.{IngestsText}
use Rattle.ingest_workers.specs.declared.ingest.HubError.{HubError}
use Rattle.ingest_workers.specs.declared.ingest.HubError.TheVariants as fault
use Rattle.ingest_workers.proofs.Calls.{makes_look}
use Rattle.filter_workers.specs.Turns.{EachMakes, Worked, CatchesUp}
use Rattle.test_scripts.specs.Parts.{all_parts}

pub call_keeps : (size : Size) (v w : Seen) (c : CoreCall QueueSink) (r : CoreReply) → IsCall size v c r w → w.parts ≡ v.parts
call_keeps size v w c r made = made.records.extends.parts

pub look_keeps : (size : Size) (v w : Seen) (fact : Core QueueSink → Type 0) → IsLook size v fact w → w.parts ≡ v.parts
look_keeps size v w fact look = (makes_look size v w fact look).parts

pub ingest_keeps : (size : Size) (v : Seen) (text : List ℕ) (r : Result ℕ HubError) (w : Seen) → IngestsText size v text r w → w.parts ≡ v.parts
ingest_keeps size v text (Ok number) w by = by.2.2.records.extends.parts
ingest_keeps size v text (Err (fault.Change e)) w by = ap (λ (s : Seen). s.parts) by.0
ingest_keeps size v text (Err (fault.Submit e)) w by = by.2.records.extends.parts

pub catch_up_keeps : {E : Type 0} (size : Size) (subscriber last : ℕ) (v : Seen) (r : Result Bool E) (w : Seen) → CatchesUp size subscriber last v r w → w.parts ≡ v.parts
catch_up_keeps size subscriber last v (Ok true) w caught = caught.5.parts
catch_up_keeps size subscriber last v (Ok false) w caught = look_keeps size v w _ caught.2
catch_up_keeps size subscriber last v (Err e) w caught = caught.2.parts

abbrev part_count : Seen → ℕ
part_count share = share.parts

count_all : (shares : List Seen) → all_parts shares ≡ sum_by part_count shares
count_all shares = sum-map part_count shares

pub all_cons : (share : Seen) (shares : List Seen) → all_parts (share ∷ shares) ≡ share.parts + all_parts shares
all_cons share shares = omega (arith, count_all (share ∷ shares), sum_by-cons part_count share shares, count_all shares)

pub all_append : (shares more : List Seen) → all_parts (shares ++ more) ≡ all_parts shares + all_parts more
all_append shares more = omega (arith, count_all (shares ++ more), sum_by-append part_count shares more, count_all shares, count_all more)

-- one more share
pub all_push : (shares : List Seen) (share : Seen) → all_parts (shares ++ share ∷ []) ≡ all_parts shares + share.parts
all_push shares share =
    let one : all_parts (share ∷ []) ≡ 0 + share.parts = refl in
    omega (arith, all_append shares (share ∷ []), one)

-- a share in the place of another with as many parts
pub set_keeps : (shares : List Seen) (i : ℕ) (new d : Seen) → i < length shares → new.parts ≡ (get_or shares i d).parts → all_parts (set shares i new) ≡ all_parts shares
set_keeps shares i new d within same =
    let moved : sum_by part_count (set shares i new) + (get_or shares i d).parts ≡ sum_by part_count shares + new.parts = sum_by-set part_count shares i new d within in
    omega (arith, moved, count_all (set shares i new), count_all shares, same)

-- shares that have made no call have a part each
pub idle_parts : (size : Size) (shares : List Seen) → All (IsIdle size) shares → all_parts shares ≡ length shares
idle_parts size [] are = refl
idle_parts size (share ∷ shares) are =
    let one : share.parts ≡ 1 = (All-head (IsIdle size) share shares are).parts in
    let more : all_parts shares ≡ length shares = idle_parts size shares (All-tail (IsIdle size) share shares are) in
    omega (arith, one, more, all_cons share shares)

-- each share made calls
each_keeps : (size : Size) (olds : List Seen) (did : List (List HubEntry)) (news : List Seen) → EachMakes size olds did news → all_parts news ≡ all_parts olds
each_keeps size [] [] [] each = refl
each_keeps size [] [] (new ∷ news) each = absurd each
each_keeps size [] (calls ∷ did) [] each = absurd each
each_keeps size [] (calls ∷ did) (new ∷ news) each = absurd each
each_keeps size (old ∷ olds) [] [] each = absurd each
each_keeps size (old ∷ olds) [] (new ∷ news) each = absurd each
each_keeps size (old ∷ olds) (calls ∷ did) [] each = absurd each
each_keeps size (old ∷ olds) (calls ∷ did) (new ∷ news) each =
    omega (arith, each.0.parts, each_keeps size olds did news each.1, all_cons old olds, all_cons new news)

pub work_keeps : {E : Type 0} (size : Size) (turns : ℕ) (olds : List Seen) (r : Result ℕ E) (news : List Seen) → Worked size turns olds r news → all_parts news ≡ all_parts olds
work_keeps size turns olds r news worked = each_keeps size olds worked.did news worked.made

-- what a slice of a whole Vec was left at is what the Vec has then
pub back : {A : Type 0} (new rest : List A) (n : ℕ) → length new ≡ n → take n (new ++ rest) ≡ new
back new rest n same = subst (λ (k : ℕ). take k (new ++ rest) ≡ new) same (take-append_seam new rest)
