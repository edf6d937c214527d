-- The sample has an outline.
use Rattle.std.proofs.Common.{◌≡◌, ℕ, ℤ, pos, negsuc, zero, suc, ◌+◌, ◌<◌, List, [], ◌∷◌, Option, Some, None, get_or, length, refl, sym, subst, arith}
use Rattle.std.specs.Prelude.{slice_get}
use Rattle.std.specs.List.{Contains}
use Rattle.span_context.specs.declared.profile.Profile.{Profile}
use Rattle.span_context.specs.declared.size.Size.TheVariants.{Byte, Word, Double}
use Rattle.span_context.specs.declared.context_field.ContextField.TheVariants as field
use Rattle.bpf_words.specs.declared.instruction.Insn.{Insn}
use Rattle.bpf_words.specs.declared.instruction.Insn.TheVariants.{Compute, Branch, Load, Exit}
use Rattle.bpf_words.specs.declared.instruction.Arithmetic.TheVariants.{Mov}
use Rattle.bpf_words.specs.declared.instruction.Comparison.TheVariants.{Equal}
use Rattle.bpf_words.specs.declared.instruction.Operand.TheVariants.{Immediate}
use Rattle.bpf_words.specs.declared.instruction.Width.TheVariants.{Narrow, Full}
use Rattle.bpf_words.specs.Flow.{StartsAt, jump_of, slots_of, written_by}
use Rattle.abstract_state.specs.declared.region.Region.TheVariants.{Text}
use Rattle.abstract_state.specs.declared.relation.Relation.TheVariants.{Apart}
use Rattle.abstract_state.specs.Comparing.{relation_of}
use Rattle.verifier.specs.declared.refusal.StructureFault.TheVariants.{BackwardJump, JumpOut, JumpIntoWide, FallOff, WriteR10}
use Rattle.verifier.specs.Structure.{IsSound, IsStructured}
use Rattle.guarded_rules.specs.Facts.{Register, Number, AddressIn, Any, AtLeast, AtMost, Behind, Of, ContextAt, Fact, Holds, Long}
use Rattle.guarded_rules.specs.Tests.{Side, Left, Right, kept, past}
use Rattle.guarded_rules.specs.Values.{length_most, length_behind, begin_most}
use Rattle.guarded_rules.specs.Steps.{ahead_by_length}
use Rattle.guarded_programs.specs.Gives as rule
use Rattle.guarded_programs.specs.Gives.{Way, Falls, Jumps, Sides, Below, IsTested, Gives}
use Rattle.guarded_programs.specs.Allows as need
use Rattle.guarded_programs.specs.Allows.{Allows}
use Rattle.guarded_programs.specs.Outlines.{Outline, IsFirst, context, IsThere, IsGuarded}
use Rattle.guarded_programs.specs.Sample.{first_byte}

abbrev pub AllOf : (Fact → Type 0) → List Fact → Type 0
AllOf P [] = Unit {0}
AllOf P (f ∷ rest) = P f × AllOf P rest

pub from_all : (P : Fact → Type 0) (facts : List Fact) (f : Fact) → AllOf P facts → Contains facts f → P f
from_all P [] f all (k, less, is) = absurd (omega (arith, less))
from_all P (g ∷ rest) f all (zero, less, is) = subst P is all.0
from_all P (g ∷ rest) f all (suc k, less, is) = from_all P rest f all.1 (k, omega (arith, less), is)

-- ---- the outline
abbrev span : Fact
span = Holds (Register 1) (ContextAt 0)

abbrev verdict : Fact
verdict = Holds (Register 0) (Of Number Any)

abbrev started : List Fact
started = span ∷ []

abbrev zeroed : List Fact
zeroed = span ∷ verdict ∷ []

abbrev measured : List Fact
measured =
    span ∷ verdict ∷ Holds (Register 2) (Of Number (Behind Text 0)) ∷ Holds (Register 2) (Of Number (AtMost 131072))
    ∷ Holds (Register 2) (Of Number (AtLeast 0)) ∷ Holds (Register 2) (Of Number Any) ∷ []

abbrev tested : List Fact
tested = span ∷ Long Text 1 ∷ []

abbrev begun : List Fact
begun = Holds (Register 1) (Of (AddressIn Text) (AtMost 0)) ∷ Holds (Register 1) (Of (AddressIn Text) Any) ∷ Long Text 1 ∷ []

abbrev done : List Fact
done = verdict ∷ []

abbrev outline : Outline
outline slot = get_or (started ∷ zeroed ∷ measured ∷ tested ∷ begun ∷ done ∷ []) slot []

-- ---- the instructions
abbrev clear : Insn
clear = Compute Full Mov 0 (Immediate (pos 0))

abbrev measure : Insn
measure = Load Word 2 1 (pos 16)

abbrev test : Insn
test = Branch Narrow Equal 2 (Immediate (pos 0)) (pos 2)

abbrev begin : Insn
begin = Load Double 1 1 (pos 0)

abbrev take : Insn
take = Load Byte 0 1 (pos 0)

pub apart : (m n : ℕ) → m < n → m ≡ n → ⊥
apart m n less e = omega (arith, e, less)

pub over : (m n : ℕ) → n < m → m ≡ n → ⊥
over m n less e = omega (arith, e, less)

from_started : (profile : Profile) → AllOf (Gives profile started clear Falls) zeroed
from_started profile = (
  rule.keeps span (0, omega arith, refl) (over 1 0 (omega arith)),
  (rule.moves 0 (Immediate (pos 0)) (Of Number Any) (omega arith, tt), tt),
)

length_at_most : (profile : Profile) → Gives profile zeroed measure Falls (Holds (Register 2) (Of Number (AtMost 131072)))
length_at_most profile = rule.field 2 1 (pos 16) 0 field.Length Number (AtMost 131072) (0, omega arith, refl) refl (omega arith) (length_most Text tt)

from_zeroed : (profile : Profile) → AllOf (Gives profile zeroed measure Falls) measured
from_zeroed profile = (
  rule.keeps span (0, omega arith, refl) (apart 1 2 (omega arith)),
  (
    rule.keeps verdict (1, omega arith, refl) (apart 0 2 (omega arith)),
    (
      rule.field 2 1 (pos 16) 0 field.Length Number (Behind Text 0) (0, omega arith, refl) refl (omega arith) (length_behind Text tt),
      (
        length_at_most profile,
        (
          rule.weaken (Holds (Register 2) (Of Number (AtLeast 0))) (Holds (Register 2) (Of Number (AtMost 131072))) (rule.zero (Register 2)) (length_at_most profile),
          (rule.weaken (Holds (Register 2) (Of Number Any)) (Holds (Register 2) (Of Number (AtMost 131072))) (rule.any (Register 2)) (length_at_most profile), tt),
        ),
      ),
    ),
  ),
)

sides : (side : Side) → Sides measured Narrow Number 2 (Immediate (pos 0)) side Any
sides Left = (5, omega arith, refl)
sides Right = tt

fit : (side : Side) → Below Narrow (Sides measured Narrow Number 2 (Immediate (pos 0)) side)
fit Left = (131072, (3, omega arith, refl), omega arith)
fit Right = (0, omega arith, omega arith)

differs : IsTested measured Narrow Equal Falls Number 2 (Immediate (pos 0)) Apart
unfolding relation_of
differs = record { plain = refl; relation = refl; apart = refl; sides = sides; fit = fit }

from_measured : (profile : Profile) → AllOf (Gives profile measured test Falls) tested
from_measured profile = (
  rule.keeps span (0, omega arith, refl) tt,
  (
    rule.tells_long Narrow Equal 2 (Immediate (pos 0)) (pos 2) Apart Text 1 0 Left differs
        (past Left 0 refl (4, omega arith, refl) (omega arith) (omega arith)) (kept Left (2, omega arith, refl)),
    tt,
  ),
)

past_measured : (profile : Profile) → AllOf (Gives profile measured test Jumps) done
past_measured profile = (rule.keeps verdict (1, omega arith, refl) tt, tt)

begins : (profile : Profile) → Gives profile tested begin Falls (Holds (Register 1) (Of (AddressIn Text) (AtMost 0)))
begins profile = rule.field 1 1 (pos 0) 0 field.Text (AddressIn Text) (AtMost 0) (0, omega arith, refl) refl (omega arith) (begin_most Text tt)

from_tested : (profile : Profile) → AllOf (Gives profile tested begin Falls) begun
from_tested profile = (
  begins profile,
  (
    rule.weaken (Holds (Register 1) (Of (AddressIn Text) Any)) (Holds (Register 1) (Of (AddressIn Text) (AtMost 0))) (rule.any (Register 1)) (begins profile),
    (rule.keeps (Long Text 1) (1, omega arith, refl) tt, tt),
  ),
)

from_begun : (profile : Profile) → AllOf (Gives profile begun take Falls) done
from_begun profile = (
  rule.weaken verdict (Holds (Register 0) (Of Number (AtMost 255))) (rule.any (Register 0)) (rule.loads Byte 0 1 (pos 0) Text (1, omega arith, refl)),
  tt,
)

-- ---- at each slot
one_insn : (i insn : Insn) → Some (Some i) ≡ Some (Some insn) → i ≡ insn
one_insn i insn is = cc

pub at_insn : (P : Insn → Type 0) (i insn : Insn) → Some (Some i) ≡ Some (Some insn) → P i → P insn
at_insn P i insn is h = subst P (one_insn i insn is) h

pub no_insn : (insn : Insn) (o : Option (Option Insn)) → o ≡ None → o ≡ Some (Some insn) → ⊥
no_insn insn o none is = cc

at_slot : (P : ℕ → Insn → Type 0) → P 0 clear → P 1 measure → P 2 test → P 3 begin → P 4 take → P 5 Exit → (slot : ℕ) (insn : Insn) → StartsAt first_byte slot insn → P slot insn
at_slot P a b c d e f zero insn is = at_insn (P 0) clear insn is a
at_slot P a b c d e f (suc zero) insn is = at_insn (P 1) measure insn is b
at_slot P a b c d e f (suc (suc zero)) insn is = at_insn (P 2) test insn is c
at_slot P a b c d e f (suc (suc (suc zero))) insn is = at_insn (P 3) begin insn is d
at_slot P a b c d e f (suc (suc (suc (suc zero)))) insn is = at_insn (P 4) take insn is e
at_slot P a b c d e f (suc (suc (suc (suc (suc zero))))) insn is = at_insn (P 5) Exit insn is f
at_slot P a b c d e f (suc (suc (suc (suc (suc (suc n)))))) insn is = absurd (no_insn insn None refl is)

abbrev FallsFrom : Profile → ℕ → Insn → Type 0
FallsFrom profile slot insn = (f : Fact) → Contains (outline (slot + 1)) f → Gives profile (outline slot) insn Falls f

abbrev JumpsFrom : Profile → ℕ → Insn → Type 0
JumpsFrom profile slot insn = (n : ℕ) (f : Fact) → jump_of insn ≡ Some (pos n) → Contains (outline (slot + 1 + n)) f → Gives profile (outline slot) insn Jumps f

falls : (profile : Profile) (slot : ℕ) (insn : Insn) → StartsAt first_byte slot insn → FallsFrom profile slot insn
falls profile =
    at_slot (FallsFrom profile)
    (λ f c. from_all (λ g. Gives profile started clear Falls g) zeroed f (from_started profile) c)
    (λ f c. from_all (λ g. Gives profile zeroed measure Falls g) measured f (from_zeroed profile) c)
    (λ f c. from_all (λ g. Gives profile measured test Falls g) tested f (from_measured profile) c)
    (λ f c. from_all (λ g. Gives profile tested begin Falls g) begun f (from_tested profile) c)
    (λ f c. from_all (λ g. Gives profile begun take Falls g) done f (from_begun profile) c)
    (λ f c. rule.ended f)

pub no_distance : (n : ℕ) (o : Option ℤ) → o ≡ None → o ≡ Some (pos n) → ⊥
no_distance n o none is = cc

pub one_distance : (m n : ℕ) → Some (pos m) ≡ Some (pos n) → m ≡ n
one_distance m n is = cc

jumps : (profile : Profile) (slot : ℕ) (insn : Insn) → StartsAt first_byte slot insn → JumpsFrom profile slot insn
jumps profile =
    at_slot (JumpsFrom profile)
    (λ n f is c. absurd (no_distance n None refl is))
    (λ n f is c. absurd (no_distance n None refl is))
    (λ n f is c. from_all (λ g. Gives profile measured test Jumps g) done f (past_measured profile) (subst (λ m. Contains (outline (2 + 1 + m)) f) (sym (one_distance 2 n is)) c))
    (λ n f is c. absurd (no_distance n None refl is))
    (λ n f is c. absurd (no_distance n None refl is))
    (λ n f is c. absurd (no_distance n None refl is))

allows : (profile : Profile) (slot : ℕ) (insn : Insn) → StartsAt first_byte slot insn → Allows profile (outline slot) insn
allows profile =
    at_slot (λ slot insn. Allows profile (outline slot) insn)
    (need.moves 0 (Immediate (pos 0)) (Of Number Any) (omega arith, tt))
    (need.field 2 1 (pos 16) 0 field.Length Number (AtMost 131072) (0, omega arith, refl) refl (omega arith) (length_most Text tt))
    (need.tests_numbers Narrow Equal 2 (Immediate (pos 0)) (pos 2) (5, omega arith, refl) tt)
    (need.field 1 1 (pos 0) 0 field.Text (AddressIn Text) (AtMost 0) (0, omega arith, refl) refl (omega arith) (begin_most Text tt))
    (need.loads Byte 0 1 (pos 0) Text (1, omega arith, refl) (ahead_by_length 0 1 (omega arith) (0, omega arith, refl) (2, omega arith, refl) (omega arith)))
    (need.ends (0, omega arith, refl))

-- ---- the structure
abbrev SoundAt : ℕ → Insn → Type 0
SoundAt slot insn = IsSound first_byte slot insn

pub not_ten : (d : ℕ) (o : Option ℕ) → o ≡ Some d → d < 10 → o ≡ Some 10 → ⊥
not_ten d o is less ten = let same : d ≡ 10 = cc in omega (arith, same, less)

pub no_jump : (distance : ℤ) (o : Option ℤ) → o ≡ None → o ≡ Some distance → ⊥
no_jump distance o none is = cc

-- an instruction with no jump, before the last slot
plain_sound : (slot : ℕ) (insn : Insn) → jump_of insn ≡ None → slot + slots_of insn < length first_byte → (written_by insn ≡ Some 10 → ⊥) → SoundAt slot insn
plain_sound slot insn none less ten BackwardJump (distance, is, fault) = absurd (no_jump distance (jump_of insn) none is)
plain_sound slot insn none less ten JumpOut (distance, is, fault) = absurd (no_jump distance (jump_of insn) none is)
plain_sound slot insn none less ten JumpIntoWide (distance, is, fault) = absurd (no_jump distance (jump_of insn) none is)
plain_sound slot insn none less ten FallOff (differ, out) = omega (arith, less, out)
plain_sound slot insn none less ten WriteR10 is = ten is

exit_sound : SoundAt 5 Exit
exit_sound BackwardJump (distance, is, fault) = absurd (no_jump distance None refl is)
exit_sound JumpOut (distance, is, fault) = absurd (no_jump distance None refl is)
exit_sound JumpIntoWide (distance, is, fault) = absurd (no_jump distance None refl is)
exit_sound FallOff (differ, out) = differ refl
exit_sound WriteR10 is = absurd (cc)

same_distance : (n : ℕ) (distance : ℤ) → Some (pos 2) ≡ Some distance → distance ≡ pos n → 2 ≡ n
same_distance n distance is was = cc

back_distance : (n : ℕ) (distance : ℤ) → Some (pos 2) ≡ Some distance → distance ≡ negsuc n → ⊥
back_distance n distance is was = cc

pub no_second : (insn : Insn) (o : Option (Option Insn)) → o ≡ Some (Some insn) → o ≡ Some None → ⊥
no_second insn o is none = cc

test_sound : SoundAt 2 test
test_sound BackwardJump (distance, is, (n, back)) = back_distance n distance is back
test_sound JumpOut (distance, is, (n, ahead, out)) = let same = same_distance n distance is ahead in omega (arith, same, out)
test_sound JumpIntoWide (distance, is, (n, ahead, there)) =
    no_second Exit (slice_get first_byte 5) refl (subst (λ m. slice_get first_byte (2 + 1 + m) ≡ Some None) (sym (same_distance n distance is ahead)) there)
test_sound FallOff (differ, out) = omega (arith, out)
test_sound WriteR10 is = absurd (cc)

sound : (slot : ℕ) (insn : Insn) → StartsAt first_byte slot insn → SoundAt slot insn
sound =
    at_slot SoundAt
    (plain_sound 0 clear refl (omega arith) (not_ten 0 (written_by clear) refl (omega arith)))
    (plain_sound 1 measure refl (omega arith) (not_ten 2 (written_by measure) refl (omega arith)))
    test_sound
    (plain_sound 3 begin refl (omega arith) (not_ten 1 (written_by begin) refl (omega arith)))
    (plain_sound 4 take refl (omega arith) (not_ten 0 (written_by take) refl (omega arith)))
    exit_sound

structured : IsStructured first_byte
structured slot insn less starts = sound slot insn starts

-- ---- all of it
first : (f : Fact) → Contains (outline 0) f → IsFirst f
first f c = from_all IsFirst started f (context, tt) c

there : (slot : ℕ) (f : Fact) → Contains (outline slot) f → IsThere f
there zero f c = from_all IsThere started f (omega arith, tt) c
there (suc zero) f c = from_all IsThere zeroed f (omega arith, (omega arith, tt)) c
there (suc (suc zero)) f c = from_all IsThere measured f (omega arith, (omega arith, (omega arith, (omega arith, (omega arith, (omega arith, tt)))))) c
there (suc (suc (suc zero))) f c = from_all IsThere tested f (omega arith, (tt, tt)) c
there (suc (suc (suc (suc zero)))) f c = from_all IsThere begun f (omega arith, (omega arith, (tt, tt))) c
there (suc (suc (suc (suc (suc zero))))) f c = from_all IsThere done f (omega arith, tt) c
there (suc (suc (suc (suc (suc (suc n)))))) f c = from_all IsThere [] f tt c

pub none_half : (o : Option (Option Insn)) → o ≡ None → o ≡ Some None → ⊥
none_half o none is = cc

no_half : (slot : ℕ) (f : Fact) → slice_get first_byte slot ≡ Some None → Contains (outline (slot + 1)) f → Contains (outline slot) f
no_half zero f is c = absurd (no_second clear (slice_get first_byte 0) refl is)
no_half (suc zero) f is c = absurd (no_second measure (slice_get first_byte 1) refl is)
no_half (suc (suc zero)) f is c = absurd (no_second test (slice_get first_byte 2) refl is)
no_half (suc (suc (suc zero))) f is c = absurd (no_second begin (slice_get first_byte 3) refl is)
no_half (suc (suc (suc (suc zero)))) f is c = absurd (no_second take (slice_get first_byte 4) refl is)
no_half (suc (suc (suc (suc (suc zero))))) f is c = absurd (no_second Exit (slice_get first_byte 5) refl is)
no_half (suc (suc (suc (suc (suc (suc n)))))) f is c = absurd (none_half None refl is)

pub first_byte_guarded : (profile : Profile) → IsGuarded profile first_byte
first_byte_guarded profile = record {
  structured = structured;
  outline = outline;
  is = record {
    first = first;
    there = there;
    falls = λ slot insn f starts c. falls profile slot insn starts f c;
    jumps = λ slot insn n f starts is c. jumps profile slot insn starts n f is c;
    second = no_half;
    allows = allows profile;
  };
}
