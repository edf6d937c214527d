-- A history begins with the start of a core.
use Rattle.std.proofs.Common.{◌≡◌, ℕ, Option, None, Some, List, [], ◌∷◌, ◌++◌, length, sym, ap, ◌∙◌, subst, inr, arith, length-append}
use Rattle.change_ops.specs.declared.size.Size.{Size}
use Rattle.span_flatten.specs.Version.{Version}
use Rattle.version_history.specs.Tokens.{Token}
use Rattle.feeds.specs.Batches.{Item}
use Rattle.hub_core.specs.Machine.{Core, IsStart}
use Rattle.call_history.specs.Calls.{Holds, Extends, nothing}
use Rattle.core_history.specs.declared.entry.Entry.TheVariants as entry
use Rattle.core_history.specs.Runs.{CoreEntry, started, IsRunOf, IsLegal, Starts}

abbrev entry_of : {S : Type 0} → List (Token Version) → Option (CoreEntry S)
entry_of [] = None
entry_of (first ∷ more) = Some (entry.Started first)

-- the entry of a core's start
abbrev pub first_entry : {S : Type 0} → Core S → Option (CoreEntry S)
first_entry s = entry_of s.versions

is_started : {S : Type 0} (size : Size) (s : Core S) (start : IsStart size s) → s ≡ started size start.version.0
is_started size s start = λ i. record { size = start.of i; changes = start.changes i; versions = start.version.1 i; subscribers = start.subscribers i }

entry_is : {S : Type 0} (size : Size) (s : Core S) (start : IsStart size s) → first_entry s ≡ Some (entry.Started start.version.0)
entry_is size s start = ap entry_of start.version.1

module _ {S : Type 0} (size : Size) (sent : S → List Item) (full : S → Type 0) (closed_sink bare : S → S) where
  run_started : (s : Core S) (start : IsStart size s) → IsRunOf size sent full closed_sink bare (entry.Started start.version.0 ∷ []) s
  run_started s start = (subst (IsStart size) (is_started size s start) start, is_started size s start)

  pub may_start : (s : Core S) → IsStart size s → (log : List (CoreEntry S)) → log ≡ []
      → (x : CoreEntry S) × (first_entry s ≡ Some x) × IsLegal size sent full closed_sink bare (log ++ x ∷ [])
  may_start s start log none = (
    entry.Started start.version.0,
    entry_is size s start,
    subst (λ l. IsLegal size sent full closed_sink bare (l ++ entry.Started start.version.0 ∷ [])) (sym none) (inr (s, run_started s start)),
  )

  pub begun : (s : Core S) → IsStart size s → (log log' : List (CoreEntry S)) → log ≡ []
      → ((x : CoreEntry S) → first_entry s ≡ Some x → log' ≡ log ++ x ∷ []) → IsRunOf size sent full closed_sink bare log' s
  begun s start log log' none more =
      let one : CoreEntry S = entry.Started start.version.0 in
      let history : log' ≡ one ∷ [] = more one (entry_is size s start) ∙ ap (λ l. l ++ one ∷ []) none in
      subst (λ l. IsRunOf size sent full closed_sink bare l s) (sym history) (run_started s start)

pub starts : {S : Type 0} (rule : List (CoreEntry S) → Type 0) (size : Size) (s : Core S) → IsStart size s → (parts : ℕ) (log log' : List (CoreEntry S)) (v w : Holds (CoreEntry S)) → log ≡ [] → v ≡ nothing parts
    → ((x : CoreEntry S) → first_entry s ≡ Some x → log' ≡ log ++ x ∷ [])
    → ((x : CoreEntry S) → first_entry s ≡ Some x → Extends rule v x w)
    → w.seen ≡ log' → Starts size s parts (record { core = s; history = log' }) w
starts {S} rule size s start parts log log' v w none idle more mine seen =
    let first = start.version.0 in
    let one : CoreEntry S = entry.Started first in
    let history : log' ≡ one ∷ [] = more one (entry_is size s start) ∙ ap (λ l. l ++ one ∷ []) none in
    let own = subst (λ u. Extends rule u one w) idle (mine one (entry_is size s start)) in
    let all : w.seen ≡ one ∷ [] = seen ∙ history in
    let before : length own.between ≡ 0 = omega (arith, length-append own.between (one ∷ []), ap length own.seen, ap length all) in
    record {
      first = first;
      start = start;
      core = is_started size s start;
      recorded = λ i. record { core = s; history = history i };
      all = λ i. record { seen = all i; own = (own.own ∙ ap (λ n. n ∷ []) before) i; parts = own.parts i };
    }
