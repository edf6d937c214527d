-- All places hear, one after another.
use Rattle.std.proofs.Common.{◌≡◌, ℕ, zero, suc, ◌+◌, ◌<◌, ◌≤◌, Option, Some, None, refl, sym, ap, ◌∙◌, subst, ⊎_elim, arith, add-one}
use Rattle.std.proofs.lemmas.Bool.{cases_lt}
use Rattle.std.specs.Option.{option_and_then}
use Rattle.abstract_state.specs.declared.state.AbsState.{AbsState}
use Rattle.abstract_state.specs.declared.step.Flow.{Flow}
use Rattle.abstract_state.specs.declared.step.Flow.TheVariants.{Live, Dead}
use Rattle.abstract_state.specs.Situation.{Situation, IsSituation, Flows}
use Rattle.value_marks.specs.Telling.{each}

pub each_first : (f : ℕ → Situation → Option Situation) (was : Situation) → each f 0 was ≡ Some was
unfolding each
each_first f was = refl

each_more : (f : ℕ → Situation → Option Situation) (i : ℕ) (was : Situation) → each f (i + 1) was ≡ option_and_then (f i) (each f i was)
unfolding each
each_more f i was = ap (λ (k : ℕ). each f k was) (add-one i)

live_dead : Live ≡ Dead → ⊥
live_dead e = cc

dead_live : Dead ≡ Live → ⊥
dead_live e = cc

live_by : (f : ℕ → Situation → Option Situation) (i : ℕ) (was now : Situation) (b : AbsState) (o : Option Situation) → each f i was ≡ Some now → f i now ≡ o → Flows o Live b → (next : Situation) × (each f (i + 1) was ≡ Some next) × IsSituation b next
live_by f i was now b None e is h = absurd (live_dead h)
live_by f i was now b (Some next) e is h = (next, each_more f i was ∙ ap (option_and_then (f i)) e ∙ is, h.1)

pub live_on : (f : ℕ → Situation → Option Situation) (i : ℕ) (was now : Situation) (b : AbsState) → each f i was ≡ Some now → Flows (f i now) Live b → (next : Situation) × (each f (i + 1) was ≡ Some next) × IsSituation b next
live_on f i was now b e h = live_by f i was now b (f i now) e refl h

none_stays : (f : ℕ → Situation → Option Situation) (was : Situation) (i n : ℕ) → i ≤ n → each f i was ≡ None → each f n was ≡ None
unfolding each
none_stays f was i zero h e = let same : i ≡ 0 = omega arith in subst (λ (k : ℕ). each f k was ≡ None) same e
none_stays f was i (suc n) h e =
    ⊎_elim
    (λ (less : i < suc n). let low : i ≤ n = omega arith in ap (option_and_then (f n)) (none_stays f was i n low e))
    (λ (most : suc n ≤ i). let same : i ≡ suc n = omega arith in subst (λ (k : ℕ). each f k was ≡ None) same e)
    (cases_lt i (suc n))

none_flows : (o : Option Situation) (b : AbsState) → o ≡ None → Flows o Dead b
none_flows o b e = subst (λ (p : Option Situation). Flows p Dead b) (sym e) refl

dead_by : (f : ℕ → Situation → Option Situation) (i n : ℕ) (was now : Situation) (b : AbsState) (o : Option Situation) → each f i was ≡ Some now → f i now ≡ o → Flows o Dead b → i < n → each f n was ≡ None
dead_by f i n was now b None e is h less = none_stays f was (i + 1) n (omega arith) (each_more f i was ∙ ap (option_and_then (f i)) e ∙ is)
dead_by f i n was now b (Some next) e is h less = absurd (dead_live h.0)

pub dead_on : (f : ℕ → Situation → Option Situation) (i n : ℕ) (was now : Situation) (b : AbsState) → each f i was ≡ Some now → Flows (f i now) Dead b → i < n → Flows (each f n was) Dead b
dead_on f i n was now b e h less = none_flows (each f n was) b (dead_by f i n was now b (f i now) e refl h less)

pub live_flows : (f : ℕ → Situation → Option Situation) (i n : ℕ) (was now : Situation) (b : AbsState) → i ≡ n → each f i was ≡ Some now → IsSituation b now → Flows (each f n was) Live b
live_flows f i n was now b same e is =
    let at : each f n was ≡ Some now = subst (λ (k : ℕ). each f k was ≡ Some now) same e in
    subst (λ (p : Option Situation). Flows p Live b) (sym at) (refl, is)

-- ---- one after another
pub then_live : (o : Option Situation) (g : Situation → Option Situation) (a b : AbsState) (flow : Flow) → Flows o Live a → ((now : Situation) → IsSituation a now → Flows (g now) flow b) → Flows (option_and_then g o) flow b
then_live None g a b flow h next = absurd (live_dead h)
then_live (Some now) g a b flow h next = next now h.1

pub then_dead : (o : Option Situation) (g : Situation → Option Situation) (a b : AbsState) → Flows o Dead a → Flows (option_and_then g o) Dead b
then_dead None g a b h = refl
then_dead (Some now) g a b h = absurd (dead_live h.0)
