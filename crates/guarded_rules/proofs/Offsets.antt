-- A constant is added to the address of a byte of the stack or of the context.
use Rattle.std.proofs.Common.{◌≡◌, ℕ, ℤ, ◌+◌, ◌%◌, ◌^◌, ◌≤◌, nat_le, nat_eq, true, Option, Some, Result, Ok, refl, sym, ap, ◌∙◌, subst, arith}
use Rattle.std.specs.Prelude.{option_map}
use Rattle.std.specs.Int.{cast_unsigned, w64}
use Rattle.std.proofs.lemmas.Bool.Decides.{nat_tests}
use Rattle.span_context.specs.declared.profile.Profile.{Profile}
use Rattle.span_context.specs.Profile.{context_length}
use Rattle.bpf_words.specs.declared.instruction.Insn.TheVariants.{Compute}
use Rattle.bpf_words.specs.declared.instruction.Arithmetic.TheVariants as is
use Rattle.bpf_words.specs.declared.instruction.Operand.TheVariants.{Immediate}
use Rattle.bpf_words.specs.declared.instruction.Width.TheVariants.{Full}
use Rattle.abstract_state.specs.declared.refusal.Refusal.{Refusal}
use Rattle.abstract_state.specs.Estimate.{constant, only}
use Rattle.abstract_state.specs.Addresses.{Content, ANumber, InContext, InStack, answer_of, displaced, staying, from_context, from_stack, computed}
use Rattle.abstract_state.specs.Situation.{Situation}
use Rattle.abstract_state.specs.Stepping.{arithmetic, stepped}
use Rattle.guarded_rules.specs.Facts.{Register, Value, ContextAt, StackAt, Holds}
use Rattle.guarded_rules.specs.Says.{Has, OnAnswer, OnSituation}
use Rattle.guarded_rules.proofs.Steps.{computed_gives}

only_is : (n : ℕ) → only (constant n) ≡ Some n
unfolding only
only_is n = let yes : nat_eq n n ≡ true = grind (arith, nat_tests) in rw yes refl

displaced_is : (start n at : ℕ) → (start + n) % 2 ^ 64 ≡ at → displaced is.Add Full start (constant n) ≡ Some at
unfolding displaced
displaced_is start n at is = ap (λ (o : Option ℕ). option_map (λ m. (start + m) % 2 ^ 64) o) (only_is n) ∙ ap (λ (m : ℕ). Some m) is

staying_is : (end at : ℕ) (there : ℕ → Content) → at ≤ end → staying end there (Some at) ≡ Ok (there at)
staying_is end at there few = let yes : nat_le at end ≡ true = grind (arith, nat_tests, few) in rw yes refl

pub stack_moved : (profile : Profile) (start n at : ℕ) → (start + n) % 2 ^ 64 ≡ at → at ≤ 512 → computed profile is.Add Full (InStack start) (ANumber (constant n)) ≡ Ok (Some (InStack at))
unfolding computed from_stack
stack_moved profile start n at is few =
    ap (λ (r : Result Content Refusal). answer_of Some r)
    (ap (λ (o : Option ℕ). staying 512 InStack o) (displaced_is start n at is) ∙ staying_is 512 at InStack few)

pub context_moved : (profile : Profile) (start n at : ℕ) → (start + n) % 2 ^ 64 ≡ at → at ≤ context_length profile → computed profile is.Add Full (InContext start) (ANumber (constant n)) ≡ Ok (Some (InContext at))
unfolding computed from_context
context_moved profile start n at is few =
    ap (λ (r : Result Content Refusal). answer_of Some r)
    (ap (λ (o : Option ℕ). staying (context_length profile) InContext o) (displaced_is start n at is) ∙ staying_is (context_length profile) at InContext few)

moves : (profile : Profile) (d : ℕ) (value : ℤ) (s : Situation) (v : Value) (a b : Content) → s.registers d ≡ Some a → computed profile is.Add Full a (ANumber (constant (cast_unsigned w64 value))) ≡ Ok (Some b) → Has v (Some b) → OnSituation (Holds (Register d) v) (stepped profile (Compute Full is.Add d (Immediate value)) s)
unfolding stepped arithmetic
moves profile d value s v a b ea made h =
    computed_gives profile Full is.Add d (Immediate value) s v a (ANumber (constant (cast_unsigned w64 value))) ea refl
    (subst (λ (r : Result (Option Content) Refusal). OnAnswer v r) (sym made) h)

pub stack_moves : (profile : Profile) (d : ℕ) (value : ℤ) (s : Situation) (start at : ℕ) → s.registers d ≡ Some (InStack start) → (start + cast_unsigned w64 value) % 2 ^ 64 ≡ at → at ≤ 512 → OnSituation (Holds (Register d) (StackAt at)) (stepped profile (Compute Full is.Add d (Immediate value)) s)
stack_moves profile d value s start at ea is few =
    moves profile d value s (StackAt at) (InStack start) (InStack at) ea (stack_moved profile start (cast_unsigned w64 value) at is few) refl

pub context_moves : (profile : Profile) (d : ℕ) (value : ℤ) (s : Situation) (start at : ℕ) → s.registers d ≡ Some (InContext start) → (start + cast_unsigned w64 value) % 2 ^ 64 ≡ at → at ≤ context_length profile → OnSituation (Holds (Register d) (ContextAt at)) (stepped profile (Compute Full is.Add d (Immediate value)) s)
context_moves profile d value s start at ea is few =
    moves profile d value s (ContextAt at) (InContext start) (InContext at) ea (context_moved profile start (cast_unsigned w64 value) at is few) refl
