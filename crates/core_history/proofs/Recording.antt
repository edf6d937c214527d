-- A history goes on by a call.
use Rattle.std.proofs.Common.{◌≡◌, Option, Some, List, [], ◌∷◌, ◌++◌, refl, sym, subst, inr}
use Rattle.change_ops.specs.declared.size.Size.{Size}
use Rattle.feeds.specs.Batches.{Item}
use Rattle.hub_core.specs.Machine.{Core}
use Rattle.hub_core.specs.Consistent.{IsConsistent}
use Rattle.call_history.specs.Calls.{Holds, Extends, TakesIn, IsWhole}
use Rattle.core_history.specs.declared.entry.Entry.TheVariants as entry
use Rattle.core_history.specs.Runs.{CoreCall, CoreReply, CoreEntry, called, started, Happens, IsRun, IsRunOf, IsLegal, LedTo}

-- what is kept of a token by one rule is kept by another that allows what it has seen
module _ {E : Type 0} (rule other : List E → Type 0) (v w : Holds E) where
  pub extends_by : (e : E) → Extends rule v e w → other w.seen → Extends other v e w
  extends_by e more allowed = record { between = more.between; seen = more.seen; own = more.own; parts = more.parts; legal = allowed }

  pub takes_in_by : (u : Holds E) → TakesIn rule v u w → other w.seen → TakesIn other v u w
  takes_in_by u took allowed = record { first = took.first; second = took.second; own = took.own; parts = took.parts; legal = allowed }

  pub whole_by : (all : List E) → IsWhole rule all v → other all → IsWhole other all v
  whole_by all whole allowed = record { legal = allowed; begins = whole.begins; places = whole.places; distinct = whole.distinct; count = whole.count }

module _ {S : Type 0} (sent : S → List Item) (full : S → Type 0) (closed_sink bare : S → S) where
  run_on : (s : Core S) (log : List (CoreEntry S)) (m : Core S) (c : CoreCall S) (r : CoreReply) (t : Core S)
      → IsRun sent full closed_sink bare s log m → Happens sent full closed_sink bare m c r t → IsConsistent sent full t → IsRun sent full closed_sink bare s (log ++ called c r ∷ []) t
  run_on s [] m c r t run step ok = (t, subst (λ u. Happens sent full closed_sink bare u c r t) run step, ok, refl)
  run_on s (entry.Called c' r' ∷ log) m c r t run step ok = (run.0, run.1, run.2, run_on run.0 log m c r t run.3 step ok)
  run_on s (entry.Started first ∷ log) m c r t run step ok = absurd run

module _ {S : Type 0} (size : Size) (sent : S → List Item) (full : S → Type 0) (closed_sink bare : S → S) where
  run_of : (log : List (CoreEntry S)) (m : Core S) (c : CoreCall S) (r : CoreReply) (t : Core S)
      → IsRunOf size sent full closed_sink bare log m → Happens sent full closed_sink bare m c r t → IsConsistent sent full t → IsRunOf size sent full closed_sink bare (log ++ called c r ∷ []) t
  run_of (entry.Started first ∷ log) m c r t run step ok = (run.0, run_on sent full closed_sink bare (started size first) log m c r t run.1 step ok)
  run_of (entry.Called c' r' ∷ log) m c r t run step ok = absurd run
  run_of [] m c r t run step ok = absurd run

  -- the call that has led to this state may come next
  pub may_follow : (log : List (CoreEntry S)) (e : Option (CoreEntry S)) (t : Core S)
      → LedTo size sent full closed_sink bare log e t → IsConsistent sent full t → (x : CoreEntry S) × (e ≡ Some x) × IsLegal size sent full closed_sink bare (log ++ x ∷ [])
  may_follow log e t led ok = (called led.1 led.2, led.3, inr (t, run_of log led.0 led.1 led.2 t led.4 led.5 ok))

  -- and then the history leads there
  pub leads : (log log' : List (CoreEntry S)) (e : Option (CoreEntry S)) (t : Core S)
      → LedTo size sent full closed_sink bare log e t → IsConsistent sent full t → ((x : CoreEntry S) → e ≡ Some x → log' ≡ log ++ x ∷ []) → IsRunOf size sent full closed_sink bare log' t
  leads log log' e t led ok more =
      subst (λ l. IsRunOf size sent full closed_sink bare l t) (sym (more (called led.1 led.2) led.3)) (run_of log led.0 led.1 led.2 t led.4 led.5 ok)

  -- a call under another name has led to this state
  pub led_as : (log : List (CoreEntry S)) (s : Core S) (c asked : CoreCall S) (r : CoreReply) (t : Core S)
      → asked ≡ c → IsRunOf size sent full closed_sink bare log s → Happens sent full closed_sink bare s c r t → LedTo size sent full closed_sink bare log (Some (called asked r)) t
  led_as log s c asked r t same run step =
      (s, asked, r, refl, run, subst (λ a. Happens sent full closed_sink bare s a r t) (sym same) step)
