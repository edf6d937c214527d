-- What the facts before an instruction say of what it reads.
use Rattle.std.proofs.Common.{◌≡◌, ℕ, ◌^◌, ◌<◌, Option, Some, None, Result, Ok, Err, List, refl, arith}
use Rattle.std.specs.List.{Contains}
use Rattle.std.specs.Int.{cast_unsigned, w64}
use Rattle.bpf_words.specs.declared.instruction.Operand.{Operand}
use Rattle.bpf_words.specs.declared.instruction.Operand.TheVariants.{Immediate, Source}
use Rattle.bpf_words.specs.declared.instruction.Width.{Width}
use Rattle.bpf_words.specs.declared.instruction.Width.TheVariants.{Narrow, Full}
use Rattle.semantics.specs.Value.{cut}
use Rattle.abstract_state.specs.declared.refusal.Refusal.{Refusal}
use Rattle.abstract_state.specs.Estimate.{Estimate, constant}
use Rattle.abstract_state.specs.Addresses.{Content, ANumber}
use Rattle.abstract_state.specs.Situation.{Situation, read, operand_of}
use Rattle.abstract_state.specs.Edges.{right_side, compared}
use Rattle.guarded_rules.specs.Facts.{Register, Kind, Number, AddressIn, Property, Any, Value, Of, ContextAt, StackAt, Fact, Holds}
use Rattle.guarded_rules.specs.Says.{of_kind, HasProperty, Says, IsKind, Has, Entails}
use Rattle.guarded_rules.specs.Tests.{Side, Left, Right, at_side}
use Rattle.guarded_rules.specs.Values.{IsRead}
use Rattle.guarded_rules.proofs.Kept.{says_of, none_has}
use Rattle.guarded_rules.proofs.Values.{constant_says}
use Rattle.guarded_programs.specs.Gives.{At, Reads, RightIs, Sides}

abbrev pub AllHold : List Fact → Situation → Type 0
AllHold before s = (f : Fact) → Contains before f → Entails s f

-- ---- registers
pub record IsOne (k : Kind) (o : Option Content) : Type 0 where
  pub estimate : Estimate
  pub is : o ≡ Some (of_kind k estimate)
  pub says : Says k Any estimate

pub one_at : (before : List Fact) (s : Situation) (r : ℕ) (k : Kind) → AllHold before s → At before r k Any → IsOne k (s.registers r)
one_at before s r k holds there =
    let h : IsKind k Any (s.registers r) = holds (Holds (Register r) (Of k Any)) there in
    record { estimate = h.estimate; is = h.is; says = h.says }

pub at_says : (before : List Fact) (s : Situation) (r : ℕ) (k : Kind) (x : Estimate) (p : Property) → AllHold before s → s.registers r ≡ Some (of_kind k x) → At before r k p → HasProperty p x
at_says before s r k x p holds is there =
    let h : Says k p x = says_of k p x (s.registers r) is (holds (Holds (Register r) (Of k p)) there) in h.has

-- ---- operands
read_has : (v : Value) (o : Option Content) → Has v o → IsRead v (read o)
read_has v None h = none_has v h
read_has v (Some c) h = h

number_kind : (p : Property) (a : Estimate) → Says Number p a → Has (Of Number p) (Some (ANumber a))
number_kind p a h = record { estimate = a; is = refl; says = h }

pub reads_hold : (before : List Fact) (s : Situation) (operand : Operand) (v : Value) → AllHold before s → Reads before operand v → IsRead v (operand_of s.registers operand)
reads_hold before s (Source r) v holds there = read_has v (s.registers r) (holds (Holds (Register r) v) there)
reads_hold before s (Immediate value) (Of Number p) holds there = number_kind p (constant (cast_unsigned w64 value)) (constant_says p (cast_unsigned w64 value) there.0 there.1)
reads_hold before s (Immediate value) (Of (AddressIn region) p) holds there = absurd there
reads_hold before s (Immediate value) (ContextAt n) holds there = absurd there
reads_hold before s (Immediate value) (StackAt n) holds there = absurd there

pub record IsOneRead (k : Kind) (r : Result Content Refusal) : Type 0 where
  pub estimate : Estimate
  pub is : r ≡ Ok (of_kind k estimate)
  pub says : Says k Any estimate

ok_is : (c d : Content) (r : Result Content Refusal) → r ≡ Ok c → Some c ≡ Some d → r ≡ Ok d
ok_is c d r is same = cc

pub one_read : (k : Kind) (r : Result Content Refusal) → IsRead (Of k Any) r → IsOneRead k r
one_read k (Ok c) h = record { estimate = h.estimate; is = ok_is c (of_kind k h.estimate) (Ok c) refl h.is; says = h.says }
one_read k (Err fault) h = absurd h

pub record IsKindRead (p : Property) (r : Result Content Refusal) : Type 0 where
  pub estimate : Estimate
  pub is : r ≡ Ok (ANumber estimate)
  pub says : Says Number p estimate

pub kind_read : (p : Property) (r : Result Content Refusal) → IsRead (Of Number p) r → IsKindRead p r
kind_read p (Ok c) h = record { estimate = h.estimate; is = ok_is c (ANumber h.estimate) (Ok c) refl h.is; says = h.says }
kind_read p (Err fault) h = absurd h

some_is : (c d : Content) (r : Result Content Refusal) → r ≡ Ok c → r ≡ Ok d → Some c ≡ Some d
some_is c d r is was = cc

pub read_says : (k : Kind) (p : Property) (x : Estimate) (r : Result Content Refusal) → r ≡ Ok (of_kind k x) → IsRead (Of k p) r → HasProperty p x
read_says k p x (Ok c) is h = let says : Says k p x = says_of k p x (Some c) (some_is c (of_kind k x) (Ok c) refl is) h in says.has
read_says k p x (Err fault) is h = absurd h

-- ---- the right side of a test
cut_few : (width : Width) (n : ℕ) → cut width n < 2 ^ 64
cut_few Full n = omega arith
cut_few Narrow n = omega arith

pub right_holds : (before : List Fact) (s : Situation) (width : Width) (k : Kind) (right : Operand) (p : Property) → AllHold before s → RightIs before width k right p → IsRead (Of k p) (right_side width s.registers right)
right_holds before s width k (Source r) p holds there = read_has (Of k p) (s.registers r) (holds (Holds (Register r) (Of k p)) there)
right_holds before s width Number (Immediate value) p holds there =
    number_kind p (compared width value) (constant_says p (cut width (cast_unsigned w64 value)) (cut_few width (cast_unsigned w64 value)) there)
right_holds before s width (AddressIn region) (Immediate value) p holds there = absurd there

pub side_says : (before : List Fact) (s : Situation) (width : Width) (k : Kind) (left : ℕ) (right : Operand) (x y : Estimate) → AllHold before s → s.registers left ≡ Some (of_kind k x) → right_side width s.registers right ≡ Ok (of_kind k y) → (side : Side) (p : Property) → Sides before width k left right side p → HasProperty p (at_side side x y)
side_says before s width k left right x y holds ex ey Left p there = at_says before s left k x p holds ex there
side_says before s width k left right x y holds ex ey Right p there =
    read_says k p y (right_side width s.registers right) ey (right_holds before s width k right p holds there)
