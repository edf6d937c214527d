-- Beginnings of one list.
use Rattle.std.proofs.Common.{◌≡◌, ◌≤◌, List, [], ◌∷◌, ◌++◌, length, refl, sym, ap, ◌∙◌, subst, arith, append-nil}
use Rattle.std.specs.Prelude.{Option, Some, None, IfNone, MatchOption}
use Rattle.crossbeam_queue.specs.Fifo.{Held}
use Rattle.feeds.specs.Batches.{Item}
use Rattle.feeds.specs.Orderly.{IsOrderly}
use Rattle.subscriber_queues.specs.Queue.{Begins, AreBeginnings}

shorter : (xs ys more others : List Item) → xs ++ more ≡ ys ++ others → length xs ≤ length ys → Begins xs ys
shorter [] ys more others e le = (ys, refl)
shorter (x ∷ xs) [] more others e le = absurd (omega (arith, le))
shorter (x ∷ xs) (y ∷ ys) more others e le =
    let tails : xs ++ more ≡ ys ++ others = cc in
    let heads : y ≡ x = cc in
    let b = shorter xs ys more others tails (omega (arith, le)) in
    (b.0, λ i. heads i ∷ b.1 i)

-- the shorter one is a beginning of the other
pub shorter_begins : (xs ys : List Item) → AreBeginnings xs ys → length xs ≤ length ys → Begins xs ys
shorter_begins xs ys both le = shorter xs ys both.1.0 both.2.0 (sym both.1.1 ∙ both.2.1) le

nothing : (xs : List Item) → length xs ≡ 0 → xs ≡ []
nothing [] h = refl
nothing (x ∷ xs) h = absurd (omega arith)

-- where none waits, what waits adds nothing
pub none_waits : (shown taken : List Item) → Held 0 (λ items. IsOrderly (taken ++ items) × Begins shown (taken ++ items)) → Begins shown taken
none_waits shown taken held =
    let none : held.0 ≡ [] = nothing held.0 held.1 in
    subst (Begins shown) (ap (λ l. taken ++ l) none ∙ append-nil taken) held.2.1

pub one_begins : (taken shown : List Item) → Begins shown taken → AreBeginnings taken shown
one_begins taken shown b = (taken, ([], sym (append-nil taken)), b)

-- what a pop told, by whether an item came
pub when_none : {T : Type 0} (r : Option T) (P Q : Type 0) (Y : T → Type 0) → MatchOption r P Y → (P → Q) → IfNone r Q
when_none None P Q Y h then = then h
when_none (Some x) P Q Y h then = tt

pub either_way : {T : Type 0} (r : Option T) (P Q : Type 0) (Y : T → Type 0) → MatchOption r P Y → (P → Q) → ((x : T) → Y x → Q) → Q
either_way None P Q Y h none some = none h
either_way (Some x) P Q Y h none some = some x h
