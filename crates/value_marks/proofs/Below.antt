-- The origins of the marks after an instruction are its slot, or below it.
use Rattle.std.proofs.Common.{◌≡◌, ℕ, ℤ, ◌+◌, ◌*◌, ◌<◌, ◌≤◌, Bool, true, false, cond, nat_eq, nat_lt, ◌&&◌, Option, Some, None, option_map, refl, sym, ◌∙◌, ap, subst, arith}
use Rattle.std.specs.Option.{option_map_or}
use Rattle.span_context.specs.declared.size.Size.{Size}
use Rattle.bpf_words.specs.declared.instruction.Insn.{Insn}
use Rattle.bpf_words.specs.declared.instruction.Insn.TheVariants.{Compute, Negate, Extend, Convert, Jump, JumpLong, Branch, Load, LoadSigned, Store, LoadWide, Exit}
use Rattle.bpf_words.specs.declared.instruction.Arithmetic.{Arithmetic}
use Rattle.bpf_words.specs.declared.instruction.Arithmetic.TheVariants.{Mov, Add, Sub}
use Rattle.bpf_words.specs.declared.instruction.Operand.{Operand}
use Rattle.bpf_words.specs.declared.instruction.Operand.TheVariants.{Immediate, Source}
use Rattle.bpf_words.specs.declared.instruction.Width.{Width}
use Rattle.bpf_words.specs.declared.instruction.Width.TheVariants.{Narrow, Full}
use Rattle.semantics.specs.Memory.{bytes_in}
use Rattle.abstract_state.specs.Addresses.{Content}
use Rattle.abstract_state.specs.Stacks.{whole_in}
use Rattle.abstract_state.specs.Situation.{Situation, Registers, operand_of}
use Rattle.value_marks.specs.declared.mark.Mark.{Mark}
use Rattle.value_marks.specs.Mark.{new_mark, cut_mark, raised_mark, lowered_mark}
use Rattle.value_marks.specs.Marking.{Marking, mark_register, mark_slot, varies, named, fits_narrow, moved_mark, copied, shifted, computed, exactly, arithmetic, place, slot_of, overwritten, spilled, stored, filled, loaded, followed}
use Rattle.value_marks.specs.Bearing.{AreBelow}
use Rattle.value_marks.proofs.Moved.{by_test}

abbrev pub IsBelow : ℕ → Option Mark → Type 0
IsBelow k mark = (m : Mark) → mark ≡ Some m → m.origin < k

pub below_register : (k : ℕ) (w : Marking) (r : ℕ) (mark : Option Mark) → AreBelow k w → IsBelow k mark → AreBelow k (mark_register r mark w)
below_register k w r mark was new = record {
  registers = λ i m e.
      by_test (m.origin < k) (nat_eq i r)
      (λ here. new m (sym (ap (λ (b : Bool). cond b mark (w.registers i)) here) ∙ e))
      (λ apart. was.registers i m (sym (ap (λ (b : Bool). cond b mark (w.registers i)) apart) ∙ e));
  slots = was.slots;
}

pub below_slot : (k : ℕ) (w : Marking) (slot : ℕ) (mark : Option Mark) → AreBelow k w → IsBelow k mark → AreBelow k (mark_slot slot mark w)
below_slot k w slot mark was new = record {
  registers = was.registers;
  slots = λ i m e.
      by_test (m.origin < k) (nat_eq i slot)
      (λ here. new m (sym (ap (λ (b : Bool). cond b mark (w.slots i)) here) ∙ e))
      (λ apart. was.slots i m (sym (ap (λ (b : Bool). cond b mark (w.slots i)) apart) ∙ e));
}

pub below_more : (k j : ℕ) (w : Marking) → k ≤ j → AreBelow k w → AreBelow j w
below_more k j w h was = record {
  registers = λ i m e. let low = was.registers i m e in omega arith;
  slots = λ i m e. let low = was.slots i m e in omega arith;
}

no_mark : (k : ℕ) → IsBelow k None
no_mark k m e = absurd (cc)

some_below : (k : ℕ) (n : Mark) → n.origin < k → IsBelow k (Some n)
some_below k n h m e = subst (λ (x : Mark). x.origin < k) (same n m e) h
  where
    same : (a b : Mark) → Some a ≡ Some b → a ≡ b
    same a b f = cc

new_below : (at : ℕ) (b : Bool) → IsBelow (at + 1) (cond b (Some (new_mark at)) None)
new_below at true = some_below (at + 1) (new_mark at) (omega arith)
new_below at false = no_mark (at + 1)

named_below : (at : ℕ) (content : Option Content) (o : Option Mark) → IsBelow (at + 1) o → IsBelow (at + 1) (named at content o)
unfolding named
named_below at content None h = new_below at (varies content)
named_below at content (Some m) h = h

cut_below : (k : ℕ) (w : Width) (m : Mark) → m.origin < k → (cut_mark w m).origin < k
cut_below k Full m h = h
cut_below k Narrow m h = h

moved_below : (k : ℕ) (w : Width) (m : Mark) (b : Bool) → m.origin < k → IsBelow k (Some (cond b m (cut_mark w m)))
moved_below k w m true h = some_below k m h
moved_below k w m false h = some_below k (cut_mark w m) (cut_below k w m h)

copy_below : (k : ℕ) (w : Width) (content : Option Content) (o : Option Mark) → IsBelow k o → IsBelow k (option_map (moved_mark w content) o)
copy_below k w content None h = no_mark k
copy_below k w content (Some m) h = moved_below k w m (fits_narrow content) (h m refl)

shifted_below : (k : ℕ) (w : Width) (operation : Arithmetic) (n : ℕ) (m : Mark) → m.origin < k → IsBelow k (shifted w operation n m)
unfolding shifted
shifted_below k w Add n m h = some_below k (cut_mark w (raised_mark n m)) (cut_below k w (raised_mark n m) h)
shifted_below k w Sub n m h = some_below k (cut_mark w (lowered_mark n m)) (cut_below k w (lowered_mark n m) h)
shifted_below k w _ n m h = no_mark k

computed_below : (k : ℕ) (w : Width) (operation : Arithmetic) (by : Option ℕ) (o : Option Mark) → IsBelow k o → IsBelow k (computed w operation by o)
unfolding computed
computed_below k w operation None o h = no_mark k
computed_below k w operation (Some n) None h = no_mark k
computed_below k w operation (Some n) (Some m) h = shifted_below k w operation n m (h m refl)

-- ---- what each instruction makes
pub copied_below : (at : ℕ) (width : Width) (d r : ℕ) (registers : Registers) (w : Marking) → AreBelow at w → AreBelow (at + 1) (copied at width d r registers w)
unfolding copied
copied_below at width d r registers w was =
    let more = below_more at (at + 1) w (omega arith) was in
    let mark = named_below at (registers r) (w.registers r) (λ m e. more.registers r m e) in
    below_register (at + 1) _ d _ (below_register (at + 1) w r _ more mark) (copy_below (at + 1) width (registers r) _ mark)

pub forgotten_below : (at d : ℕ) (w : Marking) → AreBelow at w → AreBelow (at + 1) (mark_register d None w)
forgotten_below at d w was = below_register (at + 1) w d None (below_more at (at + 1) w (omega arith) was) (no_mark (at + 1))

computes_below : (at : ℕ) (width : Width) (operation : Arithmetic) (d : ℕ) (o : Operand) (registers : Registers) (w : Marking) → AreBelow at w → AreBelow (at + 1) (mark_register d (computed width operation (exactly (operand_of registers o)) (w.registers d)) w)
computes_below at width operation d o registers w was =
    let more = below_more at (at + 1) w (omega arith) was in
    below_register (at + 1) w d _ more (computed_below (at + 1) width operation (exactly (operand_of registers o)) (w.registers d) (λ m e. more.registers d m e))

pub arithmetic_below : (at : ℕ) (width : Width) (operation : Arithmetic) (d : ℕ) (o : Operand) (registers : Registers) (w : Marking) → AreBelow at w → AreBelow (at + 1) (arithmetic at width operation d o registers w)
unfolding arithmetic
arithmetic_below at width Mov d (Source r) registers w was = copied_below at width d r registers w was
arithmetic_below at width Mov d (Immediate value) registers w was = forgotten_below at d w was
arithmetic_below at width _ d o registers w was = computes_below at width _ d o registers w was

over_below : (at : ℕ) (o : Option ℕ) (count : ℕ) (w : Marking) → AreBelow at w → AreBelow (at + 1) (overwritten o count w)
unfolding overwritten
over_below at None count w was = record {
  registers = λ i m e. let low = was.registers i m e in omega arith;
  slots = λ i m e. absurd (cc);
}
over_below at (Some p) count w was = record {
  registers = λ i m e. let low = was.registers i m e in omega arith;
  slots = λ i m e.
      by_test (m.origin < at + 1) (nat_lt p (8 * i + 8) && nat_lt (8 * i) (p + count))
      (λ here. absurd (none_some m (sym (ap (λ (b : Bool). cond b None (w.slots i)) here) ∙ e)))
      (λ apart. let low = was.slots i m (sym (ap (λ (b : Bool). cond b None (w.slots i)) apart) ∙ e) in omega arith);
}
  where
    none_some : (n : Mark) → None ≡ Some n → ⊥
    none_some n f = cc

spilled_below : (at slot r : ℕ) (registers : Registers) (w : Marking) → AreBelow at w → AreBelow (at + 1) (spilled at slot r registers w)
unfolding spilled
spilled_below at slot r registers w was =
    let more = below_more at (at + 1) w (omega arith) was in
    let mark = named_below at (registers r) (w.registers r) (λ m e. more.registers r m e) in
    below_slot (at + 1) _ slot _ (below_register (at + 1) w r _ more mark) mark

store_below : (at r : ℕ) (o p : Option ℕ) (count : ℕ) (registers : Registers) (w : Marking) → AreBelow at w → AreBelow (at + 1) (option_map_or (λ slot. spilled at slot r registers w) o (overwritten p count w))
store_below at r None p count registers w was = over_below at p count w was
store_below at r (Some slot) p count registers w was = spilled_below at slot r registers w was

pub stored_below : (at : ℕ) (size : Size) (base : ℕ) (offset : ℤ) (value : Operand) (registers : Registers) (w : Marking) → AreBelow at w → AreBelow (at + 1) (stored at size base offset value registers w)
unfolding stored
stored_below at size base offset (Immediate value) registers w was = over_below at (place (registers base) offset) (bytes_in size) w was
stored_below at size base offset (Source r) registers w was = store_below at r (slot_of size (place (registers base) offset)) (place (registers base) offset) (bytes_in size) registers w was

filled_below : (at d slot : ℕ) (o : Option Content) (w : Marking) → AreBelow at w → AreBelow (at + 1) (filled at d slot o w)
unfolding filled
filled_below at d slot None w was = forgotten_below at d w was
filled_below at d slot (Some content) w was =
    let more = below_more at (at + 1) w (omega arith) was in
    let mark = named_below at (Some content) (w.slots slot) (λ m e. more.slots slot m e) in
    below_register (at + 1) _ d _ (below_slot (at + 1) w slot _ more mark) mark

load_below : (at d : ℕ) (o : Option ℕ) (s : Situation) (w : Marking) → AreBelow at w → AreBelow (at + 1) (option_map_or (λ slot. filled at d slot (whole_in (s.slots slot)) w) o (mark_register d None w))
load_below at d None s w was = forgotten_below at d w was
load_below at d (Some slot) s w was = filled_below at d slot (whole_in (s.slots slot)) w was

pub loaded_below : (at : ℕ) (size : Size) (d base : ℕ) (offset : ℤ) (s : Situation) (w : Marking) → AreBelow at w → AreBelow (at + 1) (loaded at size d base offset s w)
unfolding loaded
loaded_below at size d base offset s w was = load_below at d (slot_of size (place (s.registers base) offset)) s w was

pub below_on : (at : ℕ) (insn : Insn) (s : Situation) (w : Marking) → AreBelow at w → AreBelow (at + 1) (followed at insn s w)
unfolding followed
below_on at (Compute width operation d o) s w was = arithmetic_below at width operation d o s.registers w was
below_on at (Negate width d) s w was = forgotten_below at d w was
below_on at (Extend x d r) s w was = forgotten_below at d w was
below_on at (Convert x b d) s w was = forgotten_below at d w was
below_on at (Jump distance) s w was = below_more at (at + 1) w (omega arith) was
below_on at (JumpLong distance) s w was = below_more at (at + 1) w (omega arith) was
below_on at (Branch width comparison left right distance) s w was = below_more at (at + 1) w (omega arith) was
below_on at (Load size d base offset) s w was = loaded_below at size d base offset s w was
below_on at (LoadSigned size d base offset) s w was = forgotten_below at d w was
below_on at (Store size base offset value) s w was = stored_below at size base offset value s.registers w was
below_on at (LoadWide d value) s w was = forgotten_below at d w was
below_on at Exit s w was = below_more at (at + 1) w (omega arith) was
