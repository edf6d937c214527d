-- What is within a second state, number by number, is contained there.
use Rattle.std.proofs.Common.{◌≡◌, ◌⊎◌, ⊎_elim, inl, ℕ, ◌+◌, ◌/◌, ◌%◌, ◌^◌, ◌≤◌, get_or, Option, Some, None, refl, ap, ◌∙◌, arith}
use Rattle.span_context.specs.Context.{context_base}
use Rattle.semantics.specs.Memory.{stack_base}
use Rattle.semantics.specs.State.{State}
use Rattle.abstract_state.specs.declared.region.Region.{Region}
use Rattle.abstract_state.specs.declared.region.Region.TheVariants.{Text, Link}
use Rattle.abstract_state.specs.declared.bounds.Bounds.{Bounds}
use Rattle.abstract_state.specs.declared.known.Known.{Known}
use Rattle.abstract_state.specs.declared.known.Known.TheVariants.{Number, Context, Stack, Lent}
use Rattle.abstract_state.specs.declared.quantity.Quantity.{Quantity}
use Rattle.abstract_state.specs.declared.slot.Slot.{Slot}
use Rattle.abstract_state.specs.declared.slot.Slot.TheVariants.{Marks, Spilled}
use Rattle.abstract_state.specs.declared.state.AbsReg.{AbsReg}
use Rattle.abstract_state.specs.declared.state.AbsReg.TheVariants.{Unset, Set}
use Rattle.abstract_state.specs.declared.state.AbsState.{AbsState}
use Rattle.abstract_state.specs.Lent.{Lengths, HasTail, base_of}
use Rattle.abstract_state.specs.Quantity.{Contains as ContainsNumber}
use Rattle.abstract_state.specs.Known.{ContainsKnown}
use Rattle.abstract_state.specs.State.{IsLong, Contains, ContainsRegister, ContainsSlot, Bytes, register_at, slot_at, bytes_of}
use Rattle.abstract_state.specs.Estimate.{Estimate, estimate_of}
use Rattle.abstract_state.specs.Addresses.{Content, ANumber, InContext, InStack, InRegion, content_of}
use Rattle.abstract_state.specs.Stacks.{Eight, Marked, Whole, eight_of}
use Rattle.abstract_state.specs.Situation.{Situation, Least, situation_of, least_of, register_of}
use Rattle.state_inclusion.specs.Numbers.{IsTailWithin, IsNumberWithin}
use Rattle.state_inclusion.specs.Contents.{IsContentWithin, IsRegisterWithin, IsSlotWithin, IsSituationWithin}
use Rattle.state_inclusion.proofs.BitsWithin.{contains_on}

-- ---- numbers
tail_on : (least high : ℕ) (t u : Option ℕ) (long x : ℕ) → IsTailWithin least high t u → HasTail t long x → x ≤ high → least ≤ long → HasTail u long x
tail_on least high t None long x within has up far = λ v is. absurd (cc)
tail_on least high None (Some u) long x within has up far = λ v is. let same : u ≡ v = cc in omega arith
tail_on least high (Some t) (Some u) long x within has up far = λ v is.
    let same : u ≡ v = cc in
    let own = has t refl in
    ⊎_elim (λ (less : u ≤ t). omega arith) (λ (past : high + u ≤ least). omega arith) within

number_on : (bounds : Bounds) (lengths : Lengths) (a b : Quantity) (x : ℕ) → IsLong bounds lengths → IsNumberWithin (least_of bounds) (estimate_of a) (estimate_of b) → ContainsNumber a lengths x → ContainsNumber b lengths x
number_on bounds lengths a b x long within c = record {
  bits = contains_on a.bits b.bits x within.bits c.bits;
  range = record { low = omega (arith, within.range.0, c.range.low); high = omega (arith, within.range.1, c.range.high) };
  tails = record {
    text = tail_on bounds.text a.range.high a.tails.text b.tails.text lengths.text x within.text c.tails.text c.range.high long.text;
    link = tail_on bounds.link a.range.high a.tails.link b.tails.link lengths.link x within.link c.tails.link c.range.high long.link;
  };
}

-- ---- contents
one_region : (least : Least) (r s : Region) (a b : Estimate) → IsContentWithin least (InRegion r a) (InRegion s b) → (r ≡ s) × IsNumberWithin least a b
one_region least Text Text a b within = (refl, within)
one_region least Text Link a b within = absurd within
one_region least Link Text a b within = absurd within
one_region least Link Link a b within = (refl, within)

region_number : (least : Least) (r : Region) (a b : Estimate) → IsContentWithin least (InRegion r a) (ANumber b) → ⊥
region_number least Text a b within = within
region_number least Link a b within = within

region_context : (least : Least) (r : Region) (a : Estimate) (q : ℕ) → IsContentWithin least (InRegion r a) (InContext q) → ⊥
region_context least Text a q within = within
region_context least Link a q within = within

region_stack : (least : Least) (r : Region) (a : Estimate) (q : ℕ) → IsContentWithin least (InRegion r a) (InStack q) → ⊥
region_stack least Text a q within = within
region_stack least Link a q within = within

pub known_on : (bounds : Bounds) (lengths : Lengths) (k l : Known) (n : ℕ) → IsLong bounds lengths → IsContentWithin (least_of bounds) (content_of k) (content_of l) → ContainsKnown k lengths n → ContainsKnown l lengths n
known_on bounds lengths (Number a) (Number b) n long within c = number_on bounds lengths a b n long within c
known_on bounds lengths (Context p) (Context q) n long within c = c ∙ ap (λ (x : ℕ). context_base + x) within
known_on bounds lengths (Stack p) (Stack q) n long within c = c ∙ ap (λ (x : ℕ). stack_base + x) within
known_on bounds lengths (Lent p) (Lent q) n long within (x, is, c) =
    let both = one_region (least_of bounds) p.region q.region (estimate_of p.offset) (estimate_of q.offset) within in
    (x, is ∙ ap (λ (r : Region). base_of r + x) both.0, number_on bounds lengths p.offset q.offset x long both.1 c)
known_on bounds lengths (Number a) (Context q) n long within c = absurd within
known_on bounds lengths (Number a) (Stack q) n long within c = absurd within
known_on bounds lengths (Number a) (Lent q) n long within c = absurd within
known_on bounds lengths (Context p) (Number b) n long within c = absurd within
known_on bounds lengths (Context p) (Stack q) n long within c = absurd within
known_on bounds lengths (Context p) (Lent q) n long within c = absurd within
known_on bounds lengths (Stack p) (Number b) n long within c = absurd within
known_on bounds lengths (Stack p) (Context q) n long within c = absurd within
known_on bounds lengths (Stack p) (Lent q) n long within c = absurd within
known_on bounds lengths (Lent p) (Number b) n long within c = absurd (region_number (least_of bounds) p.region (estimate_of p.offset) (estimate_of b) within)
known_on bounds lengths (Lent p) (Context q) n long within c = absurd (region_context (least_of bounds) p.region (estimate_of p.offset) q.offset within)
known_on bounds lengths (Lent p) (Stack q) n long within c = absurd (region_stack (least_of bounds) p.region (estimate_of p.offset) q.offset within)

register_on : (bounds : Bounds) (lengths : Lengths) (a b : AbsReg) (o : Option ℕ) → IsLong bounds lengths → IsRegisterWithin (least_of bounds) (register_of a) (register_of b) → ContainsRegister a lengths o → ContainsRegister b lengths o
register_on bounds lengths a Unset o long within c = tt
register_on bounds lengths Unset (Set l) o long within c = absurd within
register_on bounds lengths (Set k) (Set l) o long within (n, is, held) = (n, is, known_on bounds lengths k l n long within held)

slot_on : (bounds : Bounds) (lengths : Lengths) (a b : Slot) (bytes : Bytes) (i : ℕ) → IsLong bounds lengths → IsSlotWithin (least_of bounds) (eight_of a) (eight_of b) → ContainsSlot a lengths bytes i → ContainsSlot b lengths bytes i
slot_on bounds lengths (Marks x) (Marks y) bytes i long within c = λ j h set. c j h (within j h set)
slot_on bounds lengths (Spilled k) (Marks y) bytes i long within (n, held, number) = λ j h set. (n / 256 ^ j % 256, number j h, omega arith)
slot_on bounds lengths (Marks x) (Spilled l) bytes i long within c = absurd within
slot_on bounds lengths (Spilled k) (Spilled l) bytes i long within (n, held, number) = (n, known_on bounds lengths k l n long within held, number)

pub situation_on : (a b : AbsState) (lengths : Lengths) (s : State) → IsSituationWithin (situation_of a) (situation_of b) → Contains a lengths s → Contains b lengths s
situation_on a b lengths s within c = record {
  eleven = c.eleven;
  long = c.long;
  bounds = record { text = omega (arith, within.least.0, c.bounds.text); link = omega (arith, within.least.1, c.bounds.link) };
  registers = λ i h. register_on a.bounds lengths (register_at a.registers i) (register_at b.registers i) (get_or s.registers i None) c.bounds (within.registers i h) (c.registers i h);
  stack = λ i h. slot_on a.bounds lengths (slot_at a.stack i) (slot_at b.stack i) (bytes_of s.stack) i c.bounds (within.slots i h) (c.stack i h);
}

-- ---- and each is within itself
tail_self : (least high : ℕ) (t : Option ℕ) → IsTailWithin least high t t
tail_self least high None = tt
tail_self least high (Some t) = inl (omega arith)

number_self : (least : Least) (a : Estimate) → IsNumberWithin least a a
number_self least a = record {
  bits = λ k known. (known, refl);
  range = (omega arith, omega arith);
  text = tail_self least.text a.range.high a.tails.text;
  link = tail_self least.link a.range.high a.tails.link;
}

content_self : (least : Least) (a : Content) → IsContentWithin least a a
content_self least (ANumber a) = number_self least a
content_self least (InContext p) = refl
content_self least (InStack p) = refl
content_self least (InRegion Text a) = number_self least a
content_self least (InRegion Link a) = number_self least a

register_self : (least : Least) (a : Option Content) → IsRegisterWithin least a a
register_self least None = tt
register_self least (Some a) = content_self least a

slot_self : (least : Least) (a : Eight) → IsSlotWithin least a a
slot_self least (Marked x) = λ j h set. set
slot_self least (Whole a) = content_self least a

pub situation_self : (a : Situation) → IsSituationWithin a a
situation_self a = record {
  registers = λ i h. register_self a.least (a.registers i);
  slots = λ i h. slot_self a.least (a.slots i);
  least = (omega arith, omega arith);
}
