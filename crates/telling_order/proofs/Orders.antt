-- Places hear in any order alike.
use Rattle.std.proofs.Common.{◌≡◌, ℕ, zero, suc, List, [], ◌∷◌, ◌++◌, Option, Some, None, option_and_then, refl, sym, ap, ◌∙◌, subst}
use Rattle.abstract_state.specs.Situation.{Situation}
use Rattle.value_marks.specs.Marking.{Marking}
use Rattle.value_marks.specs.Telling.{Teller, register_hears, slot_hears, each, all_hear}
use Rattle.telling_order.specs.Orders.{Place, Register, Slot, hears, hear, first_ones, by_rising_numbers, swapped_at, after_swaps, IsReordering, IsAlike, AreAlike}
use Rattle.telling_order.proofs.Hearing.{are_alike, alike_trans, swap_alike, hears_alike}

then_alike : (f : Situation → Option Situation) (o p : Option Situation) → ((a b : Situation) → IsAlike a b → AreAlike (f a) (f b)) → AreAlike o p → AreAlike (option_and_then f o) (option_and_then f p)
then_alike f None None each alike = tt
then_alike f None (Some b) each alike = absurd alike
then_alike f (Some a) None each alike = absurd alike
then_alike f (Some a) (Some b) each alike = each a b alike

then_each : (f g : Situation → Option Situation) (o : Option Situation) → ((a : Situation) → AreAlike (f a) (g a)) → AreAlike (option_and_then f o) (option_and_then g o)
then_each f g None each = tt
then_each f g (Some a) each = each a

then_then : (f g : Situation → Option Situation) (o : Option Situation) → option_and_then (λ a. option_and_then g (f a)) o ≡ option_and_then g (option_and_then f o)
then_then f g None = refl
then_then f g (Some a) = refl

hear_alike : (t : Teller) (w : Marking) (places : List Place) (a b : Situation) → IsAlike a b → AreAlike (hear t w places a) (hear t w places b)
hear_alike t w [] a b alike = alike
hear_alike t w (p ∷ more) a b alike =
    then_alike (hear t w more) (hears t w p a) (hears t w p b) (hear_alike t w more) (hears_alike t w p a b alike)

swapped_alike : (t : Teller) (w : Marking) (index : ℕ) (places : List Place) (s : Situation) → AreAlike (hear t w places s) (hear t w (swapped_at index places) s)
swapped_alike t w zero [] s = are_alike (Some s)
swapped_alike t w (suc index) [] s = are_alike (Some s)
swapped_alike t w zero (p ∷ []) s = are_alike (hear t w (p ∷ []) s)
swapped_alike t w zero (p ∷ q ∷ more) s =
    rw (then_then (hears t w q) (hear t w more) (hears t w p s), then_then (hears t w p) (hear t w more) (hears t w q s))
    (then_alike (hear t w more) (option_and_then (hears t w q) (hears t w p s)) (option_and_then (hears t w p) (hears t w q s)) (hear_alike t w more) (swap_alike t w p q s))
swapped_alike t w (suc index) (p ∷ more) s =
    then_each (hear t w more) (hear t w (swapped_at index more)) (hears t w p s) (swapped_alike t w index more)

swaps_alike : (t : Teller) (w : Marking) (swaps : List ℕ) (places : List Place) (s : Situation) → AreAlike (hear t w places s) (hear t w (after_swaps swaps places) s)
swaps_alike t w [] places s = are_alike (hear t w places s)
swaps_alike t w (index ∷ more) places s =
    alike_trans (hear t w places s) (hear t w (swapped_at index places) s) (hear t w (after_swaps more (swapped_at index places)) s)
    (swapped_alike t w index places s) (swaps_alike t w more (swapped_at index places) s)

-- ---- the order of the rules
then_hear : (t : Teller) (w : Marking) (first more : List Place) (o : Option Situation) → ((s : Situation) → hear t w (first ++ more) s ≡ option_and_then (hear t w more) (hear t w first s)) → option_and_then (hear t w (first ++ more)) o ≡ option_and_then (hear t w more) (option_and_then (hear t w first) o)
then_hear t w first more None each = refl
then_hear t w first more (Some s) each = each s

hear_append : (t : Teller) (w : Marking) (first more : List Place) (s : Situation) → hear t w (first ++ more) s ≡ option_and_then (hear t w more) (hear t w first s)
hear_append t w [] more s = refl
hear_append t w (p ∷ first) more s = then_hear t w first more (hears t w p s) (hear_append t w first more)

only_some : (o : Option Situation) → option_and_then Some o ≡ o
only_some None = refl
only_some (Some a) = refl

one_more : (f : Situation → Option Situation) (o : Option Situation) → option_and_then (λ a. option_and_then Some (f a)) o ≡ option_and_then f o
one_more f None = refl
one_more f (Some a) = only_some (f a)

registers_each : (t : Teller) (w : Marking) (count : ℕ) (s : Situation) → hear t w (first_ones Register count) s ≡ each (register_hears t w) count s
unfolding each
registers_each t w zero s = refl
registers_each t w (suc count) s =
    hear_append t w (first_ones Register count) (Register count ∷ []) s
    ∙ one_more (register_hears t w count) (hear t w (first_ones Register count) s)
    ∙ ap (option_and_then (register_hears t w count)) (registers_each t w count s)

slots_each : (t : Teller) (w : Marking) (count : ℕ) (s : Situation) → hear t w (first_ones Slot count) s ≡ each (slot_hears t w) count s
unfolding each
slots_each t w zero s = refl
slots_each t w (suc count) s =
    hear_append t w (first_ones Slot count) (Slot count ∷ []) s
    ∙ one_more (slot_hears t w count) (hear t w (first_ones Slot count) s)
    ∙ ap (option_and_then (slot_hears t w count)) (slots_each t w count s)

then_slots : (t : Teller) (w : Marking) (o : Option Situation) → option_and_then (hear t w (first_ones Slot 64)) o ≡ option_and_then (each (slot_hears t w) 64) o
then_slots t w None = refl
then_slots t w (Some s) = slots_each t w 64 s

rules_order : (t : Teller) (w : Marking) (s : Situation) → hear t w by_rising_numbers s ≡ all_hear t w s
unfolding all_hear
rules_order t w s =
    hear_append t w (first_ones Register 11) (first_ones Slot 64) s
    ∙ ap (option_and_then (hear t w (first_ones Slot 64))) (registers_each t w 11 s)
    ∙ then_slots t w (each (register_hears t w) 11 s)

pub any_order : (t : Teller) (w : Marking) (s : Situation) (order : List Place) → IsReordering by_rising_numbers order → AreAlike (all_hear t w s) (hear t w order s)
any_order t w s order (swaps, is) =
    subst (λ (o : Option Situation). AreAlike o (hear t w order s)) (rules_order t w s)
    (subst (λ (places : List Place). AreAlike (hear t w by_rising_numbers s) (hear t w places s)) (sym is) (swaps_alike t w swaps by_rising_numbers s))
