-- A place that an instruction copies bears a mark, its own or a new one.
use Rattle.std.proofs.Common.{◌≡◌, ℕ, ◌+◌, ◌-◌, ◌%◌, ◌^◌, ◌<◌, Bool, true, false, cond, Option, Some, None, option_map, refl, sym, ◌∙◌, ap, subst, arith}
use Rattle.bpf_words.specs.declared.instruction.Width.{Width}
use Rattle.bpf_words.specs.declared.instruction.Width.TheVariants.{Narrow, Full}
use Rattle.bpf_words.specs.declared.instruction.Arithmetic.{Arithmetic}
use Rattle.bpf_words.specs.declared.instruction.Arithmetic.TheVariants as is
use Rattle.semantics.specs.State.{State}
use Rattle.semantics.specs.Value.{cut, value_of}
use Rattle.abstract_state.specs.Addresses.{Content}
use Rattle.value_marks.specs.declared.mark.Mark.{Mark}
use Rattle.value_marks.specs.Mark.{new_mark, cut_mark, raised_mark, lowered_mark, Agrees}
use Rattle.value_marks.specs.Marking.{Marking, mark_register, mark_slot, varies, named, fits_narrow, moved_mark, shifted, computed}
use Rattle.value_marks.specs.Bearing.{InRegister, InSlot, BearsBy, AreBelow}
use Rattle.value_marks.proofs.Words.{agree_narrower_right, raises, lowers}
use Rattle.value_marks.proofs.Moved.{some_same, one_number, renamed, bears_register, bears_slot, bears_renamed, new_agrees}

-- a mark that is there
some_mark : (m n : Mark) → Some m ≡ Some n → n ≡ m
some_mark m n e = cc

new_register : (at n r : ℕ) (origins : ℕ → ℕ) (w : Marking) (s : State) (b : Bool) → r < 11 → AreBelow at w → BearsBy origins w s → InRegister s r n → (next : ℕ → ℕ) × BearsBy next (mark_register r (cond b (Some (new_mark at)) None) w) s × ((m : Mark) → cond b (Some (new_mark at)) None ≡ Some m → Agrees next m n)
new_register at n r origins w s true h below was there = (
  renamed at n origins,
  bears_register (renamed at n origins) w s r (Some (new_mark at)) (bears_renamed at n origins w s below was)
      (λ m k e stands.
      let same : n ≡ k = some_same n k (sym there ∙ stands) in
      subst (λ (j : ℕ). Agrees (renamed at n origins) m j) same (subst (λ (x : Mark). Agrees (renamed at n origins) x n) (sym (some_mark _ _ e)) (new_agrees at n origins))),
  λ m e. subst (λ (x : Mark). Agrees (renamed at n origins) x n) (sym (some_mark _ _ e)) (new_agrees at n origins),
)
new_register at n r origins w s false h below was there = (
  origins,
  bears_register origins w s r None was (λ m k e stands. absurd (cc)),
  λ m e. absurd (cc),
)

name_register_by : (at n r : ℕ) (origins : ℕ → ℕ) (w : Marking) (s : State) (content : Option Content) (o : Option Mark) → r < 11 → AreBelow at w → BearsBy origins w s → InRegister s r n → w.registers r ≡ o → (next : ℕ → ℕ) × BearsBy next (mark_register r (named at content o) w) s × ((m : Mark) → named at content o ≡ Some m → Agrees next m n)
unfolding named
name_register_by at n r origins w s content None h below was there is = new_register at n r origins w s (varies content) h below was there
name_register_by at n r origins w s content (Some m) h below was there is = (
  origins,
  bears_register origins w s r (Some m) was (λ k j e stands. was.registers r h k j (is ∙ e) stands),
  λ k e. was.registers r h k n (is ∙ e) there,
)

pub name_register : (at n r : ℕ) (origins : ℕ → ℕ) (w : Marking) (s : State) (content : Option Content) → r < 11 → AreBelow at w → BearsBy origins w s → InRegister s r n → (next : ℕ → ℕ) × BearsBy next (mark_register r (named at content (w.registers r)) w) s × ((m : Mark) → named at content (w.registers r) ≡ Some m → Agrees next m n)
name_register at n r origins w s content h below was there = name_register_by at n r origins w s content (w.registers r) h below was there refl

-- ---- the same of a slot
new_slot : (at n i : ℕ) (origins : ℕ → ℕ) (w : Marking) (s : State) (b : Bool) → AreBelow at w → BearsBy origins w s → InSlot s i n → (next : ℕ → ℕ) × BearsBy next (mark_slot i (cond b (Some (new_mark at)) None) w) s × ((m : Mark) → cond b (Some (new_mark at)) None ≡ Some m → Agrees next m n)
new_slot at n i origins w s true below was there = (
  renamed at n origins,
  bears_slot (renamed at n origins) w s i (Some (new_mark at)) (bears_renamed at n origins w s below was)
      (λ m k e stands.
      let same : n ≡ k = one_number s.stack _ n k there.0 stands.0 there.1 stands.1 in
      subst (λ (j : ℕ). Agrees (renamed at n origins) m j) same (subst (λ (x : Mark). Agrees (renamed at n origins) x n) (sym (some_mark _ _ e)) (new_agrees at n origins))),
  λ m e. subst (λ (x : Mark). Agrees (renamed at n origins) x n) (sym (some_mark _ _ e)) (new_agrees at n origins),
)
new_slot at n i origins w s false below was there = (
  origins,
  bears_slot origins w s i None was (λ m k e stands. absurd (cc)),
  λ m e. absurd (cc),
)

name_slot_by : (at n i : ℕ) (origins : ℕ → ℕ) (w : Marking) (s : State) (content : Option Content) (o : Option Mark) → i < 64 → AreBelow at w → BearsBy origins w s → InSlot s i n → w.slots i ≡ o → (next : ℕ → ℕ) × BearsBy next (mark_slot i (named at content o) w) s × ((m : Mark) → named at content o ≡ Some m → Agrees next m n)
unfolding named
name_slot_by at n i origins w s content None h below was there is = new_slot at n i origins w s (varies content) below was there
name_slot_by at n i origins w s content (Some m) h below was there is = (
  origins,
  bears_slot origins w s i (Some m) was (λ k j e stands. was.slots i h k j (is ∙ e) stands),
  λ k e. was.slots i h k n (is ∙ e) there,
)

pub name_slot : (at n i : ℕ) (origins : ℕ → ℕ) (w : Marking) (s : State) (content : Option Content) → i < 64 → AreBelow at w → BearsBy origins w s → InSlot s i n → (next : ℕ → ℕ) × BearsBy next (mark_slot i (named at content (w.slots i)) w) s × ((m : Mark) → named at content (w.slots i) ≡ Some m → Agrees next m n)
name_slot at n i origins w s content h below was there = name_slot_by at n i origins w s content (w.slots i) h below was there refl

-- ---- the mark of a copy
cut_twice : (w : Width) (n : ℕ) → cut w (cut Full n) ≡ cut w n
cut_twice Full n = omega arith
cut_twice Narrow n = omega arith

narrow_twice : (n : ℕ) → cut Narrow (cut Narrow n) ≡ cut Narrow n
narrow_twice n = omega arith

narrowed_agrees : (origins : ℕ → ℕ) (m : Mark) (n : ℕ) → Agrees origins m n → cut Narrow n ≡ cut Narrow (origins m.origin + m.addend)
narrowed_agrees origins m n e = agree_narrower_right Narrow m.width n (origins m.origin + m.addend) e

pub cut_agrees : (origins : ℕ → ℕ) (w : Width) (m : Mark) (n : ℕ) → Agrees origins m n → Agrees origins (cut_mark w m) (cut w n)
cut_agrees origins Full m n e = cut_twice m.width n ∙ e
cut_agrees origins Narrow m n e = narrow_twice n ∙ narrowed_agrees origins m n e

fits_same : (w : Width) (n : ℕ) → n < 2 ^ 32 → cut w n ≡ n
fits_same Full n h = omega arith
fits_same Narrow n h = omega arith

moved_by : (origins : ℕ → ℕ) (w : Width) (m : Mark) (n : ℕ) (b : Bool) → (b ≡ true → n < 2 ^ 32) → Agrees origins m n → Agrees origins (cond b m (cut_mark w m)) (cut w n)
moved_by origins w m n true small e = subst (λ (k : ℕ). Agrees origins m k) (sym (fits_same w n (small refl))) e
moved_by origins w m n false small e = cut_agrees origins w m n e

copy_of : (origins : ℕ → ℕ) (w : Width) (content : Option Content) (o : Option Mark) (n : ℕ) → (fits_narrow content ≡ true → n < 2 ^ 32) → ((m : Mark) → o ≡ Some m → Agrees origins m n) → (m : Mark) → option_map (moved_mark w content) o ≡ Some m → Agrees origins m (cut w n)
copy_of origins w content None n small agrees m e = absurd (cc)
copy_of origins w content (Some k) n small agrees m e = subst (λ (x : Mark). Agrees origins x (cut w n)) (sym (some_mark _ _ e)) (moved_by origins w k n (fits_narrow content) small (agrees k refl))

pub copied_agrees : (origins : ℕ → ℕ) (w : Width) (content : Option Content) (o : Option Mark) (n : ℕ) → (fits_narrow content ≡ true → n < 2 ^ 32) → ((m : Mark) → o ≡ Some m → Agrees origins m n) → (m : Mark) → option_map (moved_mark w content) o ≡ Some m → Agrees origins m (cut w n)
copied_agrees origins w content o n small agrees m e = copy_of origins w content o n small agrees m e

-- ---- the mark of a sum with an exact number, or of a difference
full_sum : (m n : ℕ) → (m % 2 ^ 64 + n % 2 ^ 64) % 2 ^ 64 ≡ (m + n) % 2 ^ 64
full_sum m n = omega arith

narrow_sum : (m n : ℕ) → (m % 2 ^ 32 + n % 2 ^ 32) % 2 ^ 32 ≡ cut Narrow ((m + n) % 2 ^ 64)
narrow_sum m n = omega arith

full_difference : (m n : ℕ) → (m % 2 ^ 64 + (2 ^ 64 - n % 2 ^ 64)) % 2 ^ 64 ≡ (m + (2 ^ 64 - n % 2 ^ 64)) % 2 ^ 64
full_difference m n = omega arith

narrow_difference : (m n : ℕ) → (m % 2 ^ 32 + (2 ^ 32 - n % 2 ^ 32)) % 2 ^ 32 ≡ cut Narrow ((m + (2 ^ 64 - n % 2 ^ 64)) % 2 ^ 64)
narrow_difference m n = omega arith

sum_is : (w : Width) (m n : ℕ) → value_of is.Add w (cut w m) (cut w n) ≡ cut w ((m + n) % 2 ^ 64)
sum_is Full m n = full_sum m n ∙ omega arith
sum_is Narrow m n = narrow_sum m n

difference_is : (w : Width) (m n : ℕ) → value_of is.Sub w (cut w m) (cut w n) ≡ cut w ((m + (2 ^ 64 - n % 2 ^ 64)) % 2 ^ 64)
difference_is Full m n = full_difference m n ∙ omega arith
difference_is Narrow m n = narrow_difference m n

raised_agrees : (origins : ℕ → ℕ) (k : Mark) (x n : ℕ) → Agrees origins k x → Agrees origins (raised_mark n k) ((x + n) % 2 ^ 64)
raised_agrees origins k x n e = raises k.width (origins k.origin) k.addend x n e

lowered_agrees : (origins : ℕ → ℕ) (k : Mark) (x n : ℕ) → Agrees origins k x → Agrees origins (lowered_mark n k) ((x + (2 ^ 64 - n % 2 ^ 64)) % 2 ^ 64)
lowered_agrees origins k x n e = lowers k.width (origins k.origin) k.addend x n e

shifted_agrees : (origins : ℕ → ℕ) (w : Width) (operation : Arithmetic) (n x : ℕ) (k m : Mark) → Agrees origins k x → shifted w operation n k ≡ Some m → Agrees origins m (value_of operation w (cut w x) (cut w n))
unfolding shifted
shifted_agrees origins w is.Add n x k m e there =
    subst (λ (v : Mark). Agrees origins v (value_of is.Add w (cut w x) (cut w n))) (sym (some_mark _ _ there))
    (subst (λ (v : ℕ). Agrees origins (cut_mark w (raised_mark n k)) v) (sym (sum_is w x n)) (cut_agrees origins w (raised_mark n k) ((x + n) % 2 ^ 64) (raised_agrees origins k x n e)))
shifted_agrees origins w is.Sub n x k m e there =
    subst (λ (v : Mark). Agrees origins v (value_of is.Sub w (cut w x) (cut w n))) (sym (some_mark _ _ there))
    (subst (λ (v : ℕ). Agrees origins (cut_mark w (lowered_mark n k)) v) (sym (difference_is w x n)) (cut_agrees origins w (lowered_mark n k) ((x + (2 ^ 64 - n % 2 ^ 64)) % 2 ^ 64) (lowered_agrees origins k x n e)))
shifted_agrees origins w _ n x k m e there = absurd (cc)

pub computed_agrees : (origins : ℕ → ℕ) (w : Width) (operation : Arithmetic) (by : Option ℕ) (o : Option Mark) (x y : ℕ) (m : Mark) → ((n : ℕ) → by ≡ Some n → y ≡ n) → ((k : Mark) → o ≡ Some k → Agrees origins k x) → computed w operation by o ≡ Some m → Agrees origins m (value_of operation w (cut w x) (cut w y))
unfolding computed
computed_agrees origins w operation None o x y m one agrees e = absurd (cc)
computed_agrees origins w operation (Some n) None x y m one agrees e = absurd (cc)
computed_agrees origins w operation (Some n) (Some k) x y m one agrees e =
    let same = one n refl in
    shifted_agrees origins w operation y x k m (agrees k refl) (ap (λ (j : ℕ). shifted w operation j k) same ∙ e)
