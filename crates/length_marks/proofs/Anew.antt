-- A slot's name is made anew, and the lengths' names stay theirs.
use Rattle.std.proofs.Common.{◌≡◌, ◌≢◌, ℕ, ◌+◌, ◌<◌, Bool, true, false, cond, nat_eq, Option, Some, None, refl, sym, ◌∙◌, ap, subst, arith}
use Rattle.semantics.specs.State.{State}
use Rattle.semantics.specs.Value.{cut}
use Rattle.abstract_state.specs.Lent.{Lengths}
use Rattle.abstract_state.specs.Addresses.{Content}
use Rattle.value_marks.specs.declared.mark.Mark.{Mark}
use Rattle.value_marks.specs.Mark.{new_mark, Agrees}
use Rattle.value_marks.specs.Marking.{Marking, mark_register, mark_slot, varies, named}
use Rattle.value_marks.specs.Bearing.{InRegister, InSlot, BearsBy}
use Rattle.value_marks.proofs.Moved.{by_test, not_place, other_place, some_same, one_number, renamed, bears_register, bears_slot, new_agrees}
use Rattle.length_marks.specs.Names.{text_name, link_name, NamesLengths, BearsIn, unless_named, without}

-- no mark's name is the slot
pub record AreApart (at : ℕ) (w : Marking) : Type 0 where
  pub registers : (i : ℕ) (m : Mark) → w.registers i ≡ Some m → m.origin ≢ at
  pub slots : (i : ℕ) (m : Mark) → w.slots i ≡ Some m → m.origin ≢ at

none_some : (o : Option Mark) (m : Mark) → o ≡ None → o ≡ Some m → ⊥
none_some o m e f = cc

some_mark : (m n : Mark) → Some m ≡ Some n → n ≡ m
some_mark m n e = cc

-- ---- a mark that was not dropped
pub kept_by : (at : ℕ) (o : Option Mark) (m : Mark) → unless_named at o ≡ Some m → (o ≡ Some m) × (m.origin ≢ at)
kept_by at None m e = absurd (cc)
kept_by at (Some k) m e =
    by_test ((Some k ≡ Some m) × (m.origin ≢ at)) (nat_eq k.origin at)
    (λ here. absurd (none_some _ m (ap (λ (b : Bool). cond b None (Some k)) here) e))
    (λ apart.
    let is : Some k ≡ Some m = sym (ap (λ (b : Bool). cond b None (Some k)) apart) ∙ e in
    (is, subst (λ (x : Mark). x.origin ≢ at) (sym (some_mark k m is)) (not_place k.origin at apart)))

pub without_apart : (at : ℕ) (w : Marking) → AreApart at (without at w)
without_apart at w = record {
  registers = λ i m e. (kept_by at (w.registers i) m e).1;
  slots = λ i m e. (kept_by at (w.slots i) m e).1;
}

pub without_bears : (at : ℕ) (w : Marking) (origins : ℕ → ℕ) (s : State) → BearsBy origins w s → BearsBy origins (without at w) s
without_bears at w origins s was = record {
  registers = λ i h m n e stands. was.registers i h m n (kept_by at (w.registers i) m e).0 stands;
  slots = λ i h m n e stands. was.slots i h m n (kept_by at (w.slots i) m e).0 stands;
}

-- ---- the slot's name names another value
renamed_other : (at n : ℕ) (origins : ℕ → ℕ) (m : Mark) (v : ℕ) → m.origin ≢ at → Agrees origins m v → Agrees (renamed at n origins) m v
renamed_other at n origins m v apart agrees = agrees ∙ ap (λ (b : Bool). cut m.width (cond b n (origins m.origin) + m.addend)) (sym (other_place m.origin at apart))

bears_renamed : (at n : ℕ) (origins : ℕ → ℕ) (w : Marking) (s : State) → AreApart at w → BearsBy origins w s → BearsBy (renamed at n origins) w s
bears_renamed at n origins w s apart was = record {
  registers = λ i h m v e stands. renamed_other at n origins m v (apart.registers i m e) (was.registers i h m v e stands);
  slots = λ i h m v e stands. renamed_other at n origins m v (apart.slots i m e) (was.slots i h m v e stands);
}

lengths_renamed : (at n : ℕ) (origins : ℕ → ℕ) (lengths : Lengths) → at < 4096 → NamesLengths origins lengths → NamesLengths (renamed at n origins) lengths
lengths_renamed at n origins lengths low names = record {
  text = ap (λ (b : Bool). cond b n (origins text_name)) (other_place text_name at (omega arith)) ∙ names.text;
  link = ap (λ (b : Bool). cond b n (origins link_name)) (other_place link_name at (omega arith)) ∙ names.link;
}

-- ---- a register that is copied
new_register : (at n r : ℕ) (origins : ℕ → ℕ) (lengths : Lengths) (w : Marking) (s : State) (b : Bool) → at < 4096 → r < 11 → AreApart at w → NamesLengths origins lengths → BearsBy origins w s → InRegister s r n → (next : ℕ → ℕ) × NamesLengths next lengths × BearsBy next (mark_register r (cond b (Some (new_mark at)) None) w) s × ((m : Mark) → cond b (Some (new_mark at)) None ≡ Some m → Agrees next m n)
new_register at n r origins lengths w s true low h apart names was there = (
  renamed at n origins,
  lengths_renamed at n origins lengths low names,
  bears_register (renamed at n origins) w s r (Some (new_mark at)) (bears_renamed at n origins w s apart was)
      (λ m k e stands.
      let same : n ≡ k = some_same n k (sym there ∙ stands) in
      subst (λ (j : ℕ). Agrees (renamed at n origins) m j) same (subst (λ (x : Mark). Agrees (renamed at n origins) x n) (sym (some_mark _ _ e)) (new_agrees at n origins))),
  λ m e. subst (λ (x : Mark). Agrees (renamed at n origins) x n) (sym (some_mark _ _ e)) (new_agrees at n origins),
)
new_register at n r origins lengths w s false low h apart names was there = (
  origins,
  names,
  bears_register origins w s r None was (λ m k e stands. absurd (cc)),
  λ m e. absurd (cc),
)

name_register_by : (at n r : ℕ) (origins : ℕ → ℕ) (lengths : Lengths) (w : Marking) (s : State) (content : Option Content) (o : Option Mark) → at < 4096 → r < 11 → AreApart at w → NamesLengths origins lengths → BearsBy origins w s → InRegister s r n → w.registers r ≡ o → (next : ℕ → ℕ) × NamesLengths next lengths × BearsBy next (mark_register r (named at content o) w) s × ((m : Mark) → named at content o ≡ Some m → Agrees next m n)
unfolding named
name_register_by at n r origins lengths w s content None low h apart names was there is = new_register at n r origins lengths w s (varies content) low h apart names was there
name_register_by at n r origins lengths w s content (Some m) low h apart names was there is = (
  origins,
  names,
  bears_register origins w s r (Some m) was (λ k j e stands. was.registers r h k j (is ∙ e) stands),
  λ k e. was.registers r h k n (is ∙ e) there,
)

pub name_register : (at n r : ℕ) (lengths : Lengths) (w : Marking) (s : State) (content : Option Content) → at < 4096 → r < 11 → AreApart at w → BearsIn lengths w s → InRegister s r n → (next : ℕ → ℕ) × NamesLengths next lengths × BearsBy next (mark_register r (named at content (w.registers r)) w) s × ((m : Mark) → named at content (w.registers r) ≡ Some m → Agrees next m n)
name_register at n r lengths w s content low h apart was there = name_register_by at n r was.0 lengths w s content (w.registers r) low h apart was.1 was.2 there refl

-- ---- the same of a slot of the stack
new_slot : (at n i : ℕ) (origins : ℕ → ℕ) (lengths : Lengths) (w : Marking) (s : State) (b : Bool) → at < 4096 → AreApart at w → NamesLengths origins lengths → BearsBy origins w s → InSlot s i n → (next : ℕ → ℕ) × NamesLengths next lengths × BearsBy next (mark_slot i (cond b (Some (new_mark at)) None) w) s × ((m : Mark) → cond b (Some (new_mark at)) None ≡ Some m → Agrees next m n)
new_slot at n i origins lengths w s true low apart names was there = (
  renamed at n origins,
  lengths_renamed at n origins lengths low names,
  bears_slot (renamed at n origins) w s i (Some (new_mark at)) (bears_renamed at n origins w s apart was)
      (λ m k e stands.
      let same : n ≡ k = one_number s.stack _ n k there.0 stands.0 there.1 stands.1 in
      subst (λ (j : ℕ). Agrees (renamed at n origins) m j) same (subst (λ (x : Mark). Agrees (renamed at n origins) x n) (sym (some_mark _ _ e)) (new_agrees at n origins))),
  λ m e. subst (λ (x : Mark). Agrees (renamed at n origins) x n) (sym (some_mark _ _ e)) (new_agrees at n origins),
)
new_slot at n i origins lengths w s false low apart names was there = (
  origins,
  names,
  bears_slot origins w s i None was (λ m k e stands. absurd (cc)),
  λ m e. absurd (cc),
)

name_slot_by : (at n i : ℕ) (origins : ℕ → ℕ) (lengths : Lengths) (w : Marking) (s : State) (content : Option Content) (o : Option Mark) → at < 4096 → i < 64 → AreApart at w → NamesLengths origins lengths → BearsBy origins w s → InSlot s i n → w.slots i ≡ o → (next : ℕ → ℕ) × NamesLengths next lengths × BearsBy next (mark_slot i (named at content o) w) s × ((m : Mark) → named at content o ≡ Some m → Agrees next m n)
unfolding named
name_slot_by at n i origins lengths w s content None low h apart names was there is = new_slot at n i origins lengths w s (varies content) low apart names was there
name_slot_by at n i origins lengths w s content (Some m) low h apart names was there is = (
  origins,
  names,
  bears_slot origins w s i (Some m) was (λ k j e stands. was.slots i h k j (is ∙ e) stands),
  λ k e. was.slots i h k n (is ∙ e) there,
)

pub name_slot : (at n i : ℕ) (lengths : Lengths) (w : Marking) (s : State) (content : Option Content) → at < 4096 → i < 64 → AreApart at w → BearsIn lengths w s → InSlot s i n → (next : ℕ → ℕ) × NamesLengths next lengths × BearsBy next (mark_slot i (named at content (w.slots i)) w) s × ((m : Mark) → named at content (w.slots i) ≡ Some m → Agrees next m n)
name_slot at n i lengths w s content low h apart was there = name_slot_by at n i was.0 lengths w s content (w.slots i) low h apart was.1 was.2 there refl
