-- What a pull gives, and what pulls give one after another.
use Rattle.std.proofs.Common.{◌≡◌, ℕ, zero, suc, ◌+◌, ◌<◌, ◌≤◌, ◌==◌, Bool, List, Result, Ok, Err, [], ◌∷◌, ◌++◌, length, map, take, drop, get_or, set, refl, sym, ap, ◌∙◌, subst, arith, inl, inr, append-nil, length-append, length-take, length-drop, append_assoc}
use Rattle.std.specs.Prelude.{Some, None, IfOk, OnErr, IsTrue, ◌↔◌, ◌⊎◌, slice_get}
use Rattle.std.proofs.lemmas.List.{length-map}
use Rattle.std.proofs.lemmas.List.Quantifiers.{position-Some}
use Rattle.std.proofs.lemmas.Option.{slice_get_read}
use mathlib.Core.List.{IsPrefix}
use Rattle.change_ops.specs.declared.size.Size.{Size}
use Rattle.change_ops.specs.declared.size.Size.TheVariants.{Small, Large}
use Rattle.change_ops.specs.Sizes.{most_changes}
use Rattle.semantics.specs.Step.{Program}
use Rattle.span_flatten.specs.Version.{Version}
use Rattle.version_history.specs.Tokens.{Token}
use Rattle.feeds.specs.declared.item.Finding.TheVariants.{End}
use Rattle.feeds.specs.Batches.{Item, items_of, item_of, batch_of, hits_from}
use Rattle.feeds.specs.Verdicts.{verdicts_of}
use Rattle.feeds.specs.Stream.{BeginsStream}
use Rattle.stream_readers.specs.Readers.{Reader, Reads, fresh}
use Rattle.stream_readers.specs.Laws.{joined, AreVersions}
use Rattle.stream_readers.proofs.Readings.{read_later, read_both, read_none, gives_the_stream, drop_more}
use Rattle.hub_core.specs.Machine.{Core}
use Rattle.hub_core.specs.declared.run.Reply.TheVariants as told
use Rattle.subscriber_queues.specs.Queue.{QueueSink}
use Rattle.core_history.specs.declared.entry.Call.TheVariants as call
use Rattle.core_history.specs.Hubs.{Seen, IsHubRun}
use Rattle.ingest_workers.specs.Calls.{IsCall, IsLook, IsStateOf}
use Rattle.ingest_workers.proofs.Calls.{prefix_trans}
use Rattle.refusals.specs.declared.reason.Reason.TheVariants as reason
use Rattle.session_lines.specs.declared.reply.Reply.{Reply}
use Rattle.session_lines.specs.declared.reply.Reply.TheVariants.{Items, NoItemsFull, Refused}
use Rattle.session_subscribers.specs.Items.{Takes, GivesShort}
use Rattle.session_subscribers.specs.Holding.{Held, index_in, IsAllGiven, TellsItems, Pulls, PullsAny, PullsShort}
use Rattle.session_subscribers.specs.Streams.{PullsOn}
use Rattle.session_subscribers.proofs.Versions.{versions_stay}
use Rattle.session_subscribers.proofs.Refusals.{led_by_call, changes_stay}

-- ---- the versions that were looked up
begins_at : {A : Type 0} (k count : ℕ) (xs : List A) (x : A) → slice_get (take count xs) k ≡ Some x → IsPrefix (x ∷ []) (drop k xs)
begins_at k zero xs x e = absurd cc
begins_at k (suc count) [] x e = absurd cc
begins_at zero (suc count) (y ∷ xs) x e = let same : y ≡ x = cc e in (xs, ap (λ z. z ∷ xs) (sym same))
begins_at (suc k) (suc count) (y ∷ xs) x e = begins_at k count xs x e

-- the version at an index is the next that the reader wants
pub here_next : {A : Type 0} (n k count : ℕ) (all found : List A) (x : A) → found ≡ take count (drop n all) → slice_get found k ≡ Some x → IsPrefix (x ∷ []) (drop (n + k) all)
here_next n k count all found x is at = subst (IsPrefix (x ∷ [])) (drop_more n k all) (begins_at k count (drop n all) x (subst (λ l. slice_get l k ≡ Some x) is at))

-- where fewer were found than were wanted they are all that there are
pub all_found : {A : Type 0} (n count : ℕ) (all found : List A) → found ≡ take count (drop n all) → length found < count → length all ≤ n + length found
all_found n count all found is fewer =
    omega (arith, ap length is, fewer, length-take count (drop n all), length-drop n all)

no_items : (items : List Item) → length items ≡ 0 → items ≡ []
no_items [] e = refl
no_items (x ∷ items) e = absurd (omega (arith, e))

-- a batch has its end
some_end : {A : Type 0} (xs : List A) (x : A) → 0 < length (xs ++ x ∷ [])
some_end xs x = omega (arith, length-append xs (x ∷ []))

batch_some : (program : Token Program) (version : Token Version) → items_of program version ≡ [] → ⊥
batch_some program version none =
    let ends = some_end (hits_from version.value.number 0 (verdicts_of program.value version.value)) (End version.value.number (length version.value.rows)) in
    omega (arith, ends, length-map (batch_of program.value version.value) (item_of program version), ap length none)

-- a version gives an item at least
pub some_given : (given most : ℕ) (a b : Reader) (out out' : List ℕ) (program : Token Program) (version : Token Version) → 0 < most → a.pending ≡ items_of program version → Takes given a b out out'
    → (given < most → b.pending ≡ []) → 0 < given
some_given zero most a b out out' program version some is taken none =
    let nothing : taken.items ≡ [] = no_items taken.items taken.many in
    let empty : items_of program version ≡ [] = sym is ∙ taken.pending ∙ ap (λ l. l ++ b.pending) nothing ∙ none some in
    absurd (batch_some program version empty)
some_given (suc given) most a b out out' program version some is taken none = omega arith

-- ---- how a pull is answered
other_reply : (many : ℕ) → Items many ≡ NoItemsFull → ⊥
other_reply many same = let e : Items many ≡ NoItemsFull = same in cc

few_changes : (size : Size) (s : Core QueueSink) → IsStateOf size s → length s.changes ≤ most_changes size
few_changes size s state = subst (λ (z : Size). length s.changes ≤ most_changes z) state.of state.consistent.sound.few

most_small : (size : Size) → most_changes size ≤ 65536
most_small Small = omega arith
most_small Large = omega arith

-- the number of a version that was found is small
pub few_next : (size : Size) (s : Core QueueSink) (count from k next : ℕ) (found : List (Token Version)) → IsStateOf size s → found ≡ take count (drop from s.versions) → k < length found → next ≡ from + k → next < 9223372036854775808
few_next size s count from k next found state is within at =
    omega (arith, ap length is, within, at, length-take count (drop from s.versions), length-drop from s.versions, state.consistent.sound.named, few_changes size s state, most_small size)

pub told_items : (size : Size) (s : Core QueueSink) (reads : Bool) (count many latest : ℕ) (r : Reader) (answer : Reply) → IsStateOf size s → latest ≡ length s.changes
    → (answer ≡ NoItemsFull) ↔ ((many ≡ 0) × (0 < count) × IsTrue reads × (latest ≡ most_changes size)) → (answer ≡ NoItemsFull) ⊎ (answer ≡ Items many) → (many < count → IsAllGiven s r)
    → TellsItems size s reads count many r answer
told_items size s reads count many latest r answer state found full either all =
    elim either [
      | inl is ↦
          let known = full.0 is in
          subst (TellsItems size s reads count many r) (sym is) (known.0, known.1, all (omega (arith, known.0, known.1)), known.2, sym found ∙ known.3)
      | inr is ↦
          subst (TellsItems size s reads count many r) (sym is) (
            refl,
            all,
            λ none some may.
                let less : ¬ (latest ≡ most_changes size) = λ most. other_reply many (sym is ∙ full.1 (none, some, may, most)) in
                omega (arith, few_changes size s state, found, less),
          )
    ]

-- after the last version that was found all that is due is given, unless as much as was wanted is
pub given_all : (size : Size) (s : Core QueueSink) (count given from k : ℕ) (found : List (Token Version)) (r : Reader) → IsStateOf size s → found ≡ take count (drop from s.versions) → k ≡ length found
    → r.next ≡ from + k → k ≤ given → (given < count → r.pending ≡ []) → given < count → IsAllGiven s r
given_all size s count given from k found r state is last next each none fewer =
    (none fewer, omega (arith, all_found from count s.versions found is (omega (arith, last, each, fewer)), last, next, state.consistent.sound.named))

-- ---- of those that are held
index_within : (held : List Held) (some : Held) (id index : ℕ) → index_in held id ≡ Some index → index < length held
index_within held some id index there = (position-Some (λ one. one.id == id) held index some there).0

pub pulled_ok : {E : Type 0} (r : Result Reply E) (size : Size) (v w : Seen) (reads : Bool) (id count index : ℕ) (held : List Held) (one : Held) (reader : Reader) (out out' : List ℕ) → index_in held id ≡ Some index
    → one ≡ get_or held index one → IfOk r (Pulls size v w reads count one.reader reader out out') → IfOk r (PullsAny size v w reads id count held (set held index (record one { reader = reader })) out out')
pulled_ok (Ok answer) size v w reads id count index held one reader out out' there read pulls = inl (record {
  index = index;
  there = there;
  one = one;
  is = slice_get_read held (length held) index one refl (index_within held one id index there) read;
  reader = reader;
  others = refl;
  pulls = pulls;
})
pulled_ok (Err e) size v w reads id count index held one reader out out' there read pulls = tt

pub pulled_err : {E : Type 0} (r : Result Reply E) (size : Size) (v w : Seen) (id count index : ℕ) (held : List Held) (one : Held) (reader : Reader) (out out' : List ℕ) → index_in held id ≡ Some index
    → one ≡ get_or held index one → OnErr r (IsLook size v (λ s. GivesShort s.versions count one.reader reader out out') w)
    → OnErr r (PullsShort size v w id count held (set held index (record one { reader = reader })) out out')
pulled_err (Ok answer) size v w id count index held one reader out out' there read short = tt
pulled_err (Err e) size v w id count index held one reader out out' there read short = record {
  state = short.0;
  sight = short.1;
  index = index;
  there = there;
  one = one;
  is = slice_get_read held (length held) index one refl (index_within held one id index there) read;
  reader = reader;
  others = refl;
  gives = short.2;
}

pub none_pulled : (size : Size) (v : Seen) (reads : Bool) (id count : ℕ) (held : List Held) (out : List ℕ) → index_in held id ≡ None → PullsAny size v v reads id count held held out out (Refused reason.NoSubscriber)
none_pulled size v reads id count held out none = inr (record { still = refl; none = none; same = refl; printed = refl; told = refl })

-- ---- pulls one after another
-- the versions of a state are those of its changes
are_versions : (size : Size) (s : Core QueueSink) → IsStateOf size s → AreVersions s.changes s.versions
are_versions size s state = record { each = state.consistent.sound.named; are = state.consistent.sound.versions_are }

-- what was read by a state, and then what pulls read
pub pulls_on : (size : Size) (v w : Seen) (program : Token Program) (first : ℕ) (before : List Item) (given : List (List Item)) (r r' : Reader) (s : Core QueueSink) → IsStateOf size s → IsHubRun size v.seen s
    → first ≤ length s.changes → Reads s.versions (fresh program first) before r → PullsOn size v r given r' w
    → (t : Core QueueSink) × IsHubRun size w.seen t × BeginsStream program.value t.changes first (length t.changes) (map (λ (item : Item). item.what) (before ++ joined given))
pulls_on size v w program first before [] r r' s state run behind reads on = (
  s,
  subst (λ (x : Seen). IsHubRun size x.seen s) (sym on.1) run,
  gives_the_stream s.changes s.versions program first (before ++ []) r (are_versions size s state) behind (subst (λ l. Reads s.versions (fresh program first) l r) (sym (append-nil before)) reads),
)
pulls_on size v w program first before (given ∷ more) r r' s state run behind reads on =
    let u = on.0 in
    let t = on.1 in
    let mid = on.2 in
    let look = on.4 in
    let now = look.0 in
    let begins = prefix_trans v.seen u.seen t.seen on.3 look.1.looks.begins in
    let more_versions = versions_stay size v.seen t.seen s now run look.1.run begins in
    let earlier = read_later s.versions now.versions (fresh program first) r before more_versions reads in
    let both = read_both now.versions (fresh program first) r mid before given earlier look.2 in
    let kept = changes_stay size v.seen t.seen s now state look.1.consistent run look.1.run begins in
    let rest = pulls_on size t w program first (before ++ given) more mid r' now look.1.consistent look.1.run (omega (arith, behind, kept)) both on.5 in
    (rest.0, rest.1, subst (λ l. BeginsStream program.value rest.0.changes first (length rest.0.changes) (map (λ (item : Item). item.what) l)) (append_assoc before given (joined more)) rest.2)

pub pulls_begin : (size : Size) (u v w : Seen) (program : Token Program) (sink : QueueSink) (first id : ℕ) (given : List (List Item)) (r : Reader) → IsCall size u (call.SubscribeFrom program sink first) (told.Subscribed (Ok id)) v
    → PullsOn size v (fresh program first) given r w
    → (s : Core QueueSink) × IsHubRun size w.seen s × BeginsStream program.value s.changes first (length s.changes) (map (λ (item : Item). item.what) (joined given))
pulls_begin size u v w program sink first id given r made on =
    let s = made.new.core in
    let happens = made.records.happens in
    let same = ap (λ (x : Core QueueSink). length x.changes) happens.3 in
    pulls_on size v w program first [] given (fresh program first) r s made.consistent.1 (led_by_call size u v (call.SubscribeFrom program sink first) (told.Subscribed (Ok id)) made) (omega (arith, happens.1, same))
    (read_none s.versions (fresh program first)) on
