-- A filter that compares addresses, and loads the byte before the text's end, has an outline.
use Rattle.std.proofs.Common.{◌≡◌, ℕ, ℤ, pos, negsuc, zero, suc, ◌+◌, ◌-◌, ◌^◌, ◌<◌, List, [], ◌∷◌, Option, Some, None, get_or, length, refl, sym, subst, arith}
use Rattle.std.specs.Prelude.{slice_get}
use Rattle.std.specs.List.{Contains}
use Rattle.span_context.specs.declared.profile.Profile.{Profile}
use Rattle.span_context.specs.declared.size.Size.TheVariants.{Byte, Double}
use Rattle.span_context.specs.declared.context_field.ContextField.TheVariants as field
use Rattle.bpf_words.specs.declared.instruction.Insn.{Insn}
use Rattle.bpf_words.specs.declared.instruction.Insn.TheVariants.{Compute, Branch, Load, Exit}
use Rattle.bpf_words.specs.declared.instruction.Arithmetic.TheVariants.{Mov}
use Rattle.bpf_words.specs.declared.instruction.Comparison.TheVariants.{Equal, GreaterOrEqual}
use Rattle.bpf_words.specs.declared.instruction.Operand.TheVariants.{Immediate, Source}
use Rattle.bpf_words.specs.declared.instruction.Width.TheVariants.{Narrow, Full}
use Rattle.bpf_words.specs.Flow.{StartsAt, jump_of, slots_of, written_by}
use Rattle.abstract_state.specs.declared.region.Region.TheVariants.{Text}
use Rattle.abstract_state.specs.declared.relation.Relation.TheVariants.{Less}
use Rattle.abstract_state.specs.Comparing.{relation_of}
use Rattle.verifier.specs.declared.refusal.StructureFault.TheVariants.{BackwardJump, JumpOut, JumpIntoWide, FallOff, WriteR10}
use Rattle.verifier.specs.Structure.{IsSound, IsStructured}
use Rattle.guarded_rules.specs.Facts.{Register, Number, AddressIn, Any, AtLeast, AtMost, Behind, Of, ContextAt, Fact, Holds}
use Rattle.guarded_rules.specs.Tests.{Side, Left, Right, less, least}
use Rattle.guarded_rules.specs.Values.{begin_most, end_behind}
use Rattle.guarded_rules.specs.Steps.{back_by_tail}
use Rattle.guarded_programs.specs.Gives as rule
use Rattle.guarded_programs.specs.Gives.{Falls, Jumps, Sides, Below, IsTested, Gives}
use Rattle.guarded_programs.specs.Allows as need
use Rattle.guarded_programs.specs.Allows.{Allows}
use Rattle.guarded_programs.specs.Outlines.{Outline, IsFirst, context, IsThere, IsGuarded}
use Rattle.guarded_programs.specs.Sample.{question}
use Rattle.guarded_programs.proofs.Sampled.{AllOf, from_all, at_insn, no_insn, apart, over, no_distance, one_distance, not_ten, no_jump, no_second, none_half}

-- ---- the outline
abbrev span : Fact
span = Holds (Register 1) (ContextAt 0)

abbrev verdict : Fact
verdict = Holds (Register 0) (Of Number Any)

abbrev end_any : Fact
end_any = Holds (Register 2) (Of (AddressIn Text) Any)

abbrev end_last : Fact
end_last = Holds (Register 2) (Of (AddressIn Text) (Behind Text 0))

abbrev end_past : Fact
end_past = Holds (Register 2) (Of (AddressIn Text) (AtLeast 1))

abbrev text_any : Fact
text_any = Holds (Register 1) (Of (AddressIn Text) Any)

abbrev text_least : Fact
text_least = Holds (Register 1) (Of (AddressIn Text) (AtLeast 0))

abbrev byte : Fact
byte = Holds (Register 1) (Of Number Any)

abbrev started : List Fact
started = span ∷ []

abbrev zeroed : List Fact
zeroed = span ∷ verdict ∷ []

abbrev ended : List Fact
ended = span ∷ verdict ∷ end_last ∷ end_any ∷ []

abbrev begun : List Fact
begun = verdict ∷ end_last ∷ end_any ∷ text_any ∷ text_least ∷ []

abbrev tested : List Fact
tested = verdict ∷ end_last ∷ end_any ∷ end_past ∷ []

abbrev taken : List Fact
taken = byte ∷ []

abbrev answered : List Fact
answered = verdict ∷ byte ∷ []

abbrev done : List Fact
done = verdict ∷ []

abbrev outline : Outline
outline slot = get_or (started ∷ zeroed ∷ ended ∷ begun ∷ tested ∷ taken ∷ answered ∷ [] ∷ done ∷ []) slot []

-- ---- the instructions
abbrev clear : Insn
clear = Compute Full Mov 0 (Immediate (pos 0))

abbrev load_end : Insn
load_end = Load Double 2 1 (pos 8)

abbrev load_begin : Insn
load_begin = Load Double 1 1 (pos 0)

abbrev is_empty : Insn
is_empty = Branch Full GreaterOrEqual 1 (Source 2) (pos 4)

abbrev take : Insn
take = Load Byte 1 2 (negsuc 0)

abbrev yes_then : Insn
yes_then = Compute Narrow Mov 0 (Immediate (pos 1))

abbrev is_mark : Insn
is_mark = Branch Narrow Equal 1 (Immediate (pos 63)) (pos 1)

abbrev no_then : Insn
no_then = Compute Narrow Mov 0 (Immediate (pos 0))

-- ---- what each gives
from_started : (profile : Profile) → AllOf (Gives profile started clear Falls) zeroed
from_started profile = (
  rule.keeps span (0, omega arith, refl) (over 1 0 (omega arith)),
  (rule.moves 0 (Immediate (pos 0)) (Of Number Any) (omega arith, tt), tt),
)

ends : (profile : Profile) → Gives profile zeroed load_end Falls end_last
ends profile = rule.field 2 1 (pos 8) 0 field.End (AddressIn Text) (Behind Text 0) (0, omega arith, refl) refl (omega arith) (end_behind Text tt)

from_zeroed : (profile : Profile) → AllOf (Gives profile zeroed load_end Falls) ended
from_zeroed profile = (
  rule.keeps span (0, omega arith, refl) (apart 1 2 (omega arith)),
  (
    rule.keeps verdict (1, omega arith, refl) (apart 0 2 (omega arith)),
    (ends profile, (rule.weaken end_any end_last (rule.any (Register 2)) (ends profile), tt)),
  ),
)

begins : (profile : Profile) → Gives profile ended load_begin Falls (Holds (Register 1) (Of (AddressIn Text) (AtMost 0)))
begins profile = rule.field 1 1 (pos 0) 0 field.Text (AddressIn Text) (AtMost 0) (0, omega arith, refl) refl (omega arith) (begin_most Text tt)

from_ended : (profile : Profile) → AllOf (Gives profile ended load_begin Falls) begun
from_ended profile = (
  rule.keeps verdict (1, omega arith, refl) (apart 0 1 (omega arith)),
  (
    rule.keeps end_last (2, omega arith, refl) (over 2 1 (omega arith)),
    (
      rule.keeps end_any (3, omega arith, refl) (over 2 1 (omega arith)),
      (
        rule.weaken text_any (Holds (Register 1) (Of (AddressIn Text) (AtMost 0))) (rule.any (Register 1)) (begins profile),
        (rule.weaken text_least (Holds (Register 1) (Of (AddressIn Text) (AtMost 0))) (rule.zero (Register 1)) (begins profile), tt),
      ),
    ),
  ),
)

sides : (side : Side) → Sides begun Full (AddressIn Text) 1 (Source 2) side Any
sides Left = (3, omega arith, refl)
sides Right = (2, omega arith, refl)

fit : (side : Side) → Below Full (Sides begun Full (AddressIn Text) 1 (Source 2) side)
fit Left = tt
fit Right = tt

in_order : IsTested begun Full GreaterOrEqual Falls (AddressIn Text) 1 (Source 2) Less
unfolding relation_of
in_order = record { plain = refl; relation = refl; apart = refl; sides = sides; fit = fit }

from_begun : (profile : Profile) → AllOf (Gives profile begun is_empty Falls) tested
from_begun profile = (
  rule.keeps verdict (0, omega arith, refl) tt,
  (
    rule.keeps end_last (1, omega arith, refl) tt,
    (
      rule.keeps end_any (2, omega arith, refl) tt,
      (rule.tells_right Full GreaterOrEqual 1 2 (pos 4) Less in_order (least Left 0 1 less (4, omega arith, refl)), tt),
    ),
  ),
)

past_begun : (profile : Profile) → AllOf (Gives profile begun is_empty Jumps) done
past_begun profile = (rule.keeps verdict (0, omega arith, refl) tt, tt)

from_tested : (profile : Profile) → AllOf (Gives profile tested take Falls) taken
from_tested profile = (
  rule.weaken byte (Holds (Register 1) (Of Number (AtMost 255))) (rule.any (Register 1)) (rule.loads Byte 1 2 (negsuc 0) Text (2, omega arith, refl)),
  tt,
)

word_of : (profile : Profile) (before : List Fact) (n : ℕ) → n < 2 ^ 64 → Gives profile before (Compute Narrow Mov 0 (Immediate (pos n))) Falls verdict
word_of profile before n few =
    rule.weaken verdict (Holds (Register 0) (Of Number (AtMost (2 ^ 32 - 1)))) (rule.any (Register 0)) (rule.moves_word Narrow 0 (Immediate (pos n)) (few, tt))

from_taken : (profile : Profile) → AllOf (Gives profile taken yes_then Falls) answered
from_taken profile = (word_of profile taken 1 (omega arith), (rule.keeps byte (0, omega arith, refl) (over 1 0 (omega arith)), tt))

past_answered : (profile : Profile) → AllOf (Gives profile answered is_mark Jumps) done
past_answered profile = (rule.keeps verdict (0, omega arith, refl) tt, tt)

from_nothing : (profile : Profile) → AllOf (Gives profile [] no_then Falls) done
from_nothing profile = (word_of profile [] 0 (omega arith), tt)

-- ---- at each slot
at_slot : (P : ℕ → Insn → Type 0) → P 0 clear → P 1 load_end → P 2 load_begin → P 3 is_empty → P 4 take → P 5 yes_then → P 6 is_mark → P 7 no_then → P 8 Exit → (slot : ℕ) (insn : Insn) → StartsAt question slot insn → P slot insn
at_slot P a b c d e f g h i zero insn is = at_insn (P 0) clear insn is a
at_slot P a b c d e f g h i (suc zero) insn is = at_insn (P 1) load_end insn is b
at_slot P a b c d e f g h i (suc (suc zero)) insn is = at_insn (P 2) load_begin insn is c
at_slot P a b c d e f g h i (suc (suc (suc zero))) insn is = at_insn (P 3) is_empty insn is d
at_slot P a b c d e f g h i (suc (suc (suc (suc zero)))) insn is = at_insn (P 4) take insn is e
at_slot P a b c d e f g h i (suc (suc (suc (suc (suc zero))))) insn is = at_insn (P 5) yes_then insn is f
at_slot P a b c d e f g h i (suc (suc (suc (suc (suc (suc zero)))))) insn is = at_insn (P 6) is_mark insn is g
at_slot P a b c d e f g h i (suc (suc (suc (suc (suc (suc (suc zero))))))) insn is = at_insn (P 7) no_then insn is h
at_slot P a b c d e f g h i (suc (suc (suc (suc (suc (suc (suc (suc zero)))))))) insn is = at_insn (P 8) Exit insn is i
at_slot P a b c d e f g h i (suc (suc (suc (suc (suc (suc (suc (suc (suc n))))))))) insn is = absurd (no_insn insn None refl is)

abbrev FallsFrom : Profile → ℕ → Insn → Type 0
FallsFrom profile slot insn = (f : Fact) → Contains (outline (slot + 1)) f → Gives profile (outline slot) insn Falls f

abbrev JumpsFrom : Profile → ℕ → Insn → Type 0
JumpsFrom profile slot insn = (n : ℕ) (f : Fact) → jump_of insn ≡ Some (pos n) → Contains (outline (slot + 1 + n)) f → Gives profile (outline slot) insn Jumps f

falls : (profile : Profile) (slot : ℕ) (insn : Insn) → StartsAt question slot insn → FallsFrom profile slot insn
falls profile =
    at_slot (FallsFrom profile)
    (λ f c. from_all (λ g. Gives profile started clear Falls g) zeroed f (from_started profile) c)
    (λ f c. from_all (λ g. Gives profile zeroed load_end Falls g) ended f (from_zeroed profile) c)
    (λ f c. from_all (λ g. Gives profile ended load_begin Falls g) begun f (from_ended profile) c)
    (λ f c. from_all (λ g. Gives profile begun is_empty Falls g) tested f (from_begun profile) c)
    (λ f c. from_all (λ g. Gives profile tested take Falls g) taken f (from_tested profile) c)
    (λ f c. from_all (λ g. Gives profile taken yes_then Falls g) answered f (from_taken profile) c)
    (λ f c. from_all (λ g. Gives profile answered is_mark Falls g) [] f tt c)
    (λ f c. from_all (λ g. Gives profile [] no_then Falls g) done f (from_nothing profile) c)
    (λ f c. rule.ended f)

jumps : (profile : Profile) (slot : ℕ) (insn : Insn) → StartsAt question slot insn → JumpsFrom profile slot insn
jumps profile =
    at_slot (JumpsFrom profile)
    (λ n f is c. absurd (no_distance n None refl is))
    (λ n f is c. absurd (no_distance n None refl is))
    (λ n f is c. absurd (no_distance n None refl is))
    (λ n f is c. from_all (λ g. Gives profile begun is_empty Jumps g) done f (past_begun profile) (subst (λ m. Contains (outline (3 + 1 + m)) f) (sym (one_distance 4 n is)) c))
    (λ n f is c. absurd (no_distance n None refl is))
    (λ n f is c. absurd (no_distance n None refl is))
    (λ n f is c. from_all (λ g. Gives profile answered is_mark Jumps g) done f (past_answered profile) (subst (λ m. Contains (outline (6 + 1 + m)) f) (sym (one_distance 1 n is)) c))
    (λ n f is c. absurd (no_distance n None refl is))
    (λ n f is c. absurd (no_distance n None refl is))

allows : (profile : Profile) (slot : ℕ) (insn : Insn) → StartsAt question slot insn → Allows profile (outline slot) insn
allows profile =
    at_slot (λ slot insn. Allows profile (outline slot) insn)
    (need.moves 0 (Immediate (pos 0)) (Of Number Any) (omega arith, tt))
    (need.field 2 1 (pos 8) 0 field.End (AddressIn Text) (Behind Text 0) (0, omega arith, refl) refl (omega arith) (end_behind Text tt))
    (need.field 1 1 (pos 0) 0 field.Text (AddressIn Text) (AtMost 0) (0, omega arith, refl) refl (omega arith) (begin_most Text tt))
    (need.tests_addresses GreaterOrEqual 1 (Source 2) (pos 4) Text refl (3, omega arith, refl) (2, omega arith, refl))
    (need.loads Byte 1 2 (negsuc 0) Text (2, omega arith, refl) (back_by_tail 1 0 refl (3, omega arith, refl) (1, omega arith, refl) (omega arith)))
    (need.moves_number Narrow 0 (Immediate (pos 1)) (omega arith, tt))
    (need.tests_numbers Narrow Equal 1 (Immediate (pos 63)) (pos 1) (1, omega arith, refl) tt)
    (need.moves_number Narrow 0 (Immediate (pos 0)) (omega arith, tt))
    (need.ends (0, omega arith, refl))

-- ---- the structure
abbrev SoundAt : ℕ → Insn → Type 0
SoundAt slot insn = IsSound question slot insn

plain_sound : (slot : ℕ) (insn : Insn) → jump_of insn ≡ None → slot + slots_of insn < length question → (written_by insn ≡ Some 10 → ⊥) → SoundAt slot insn
plain_sound slot insn none early ten BackwardJump (distance, is, fault) = absurd (no_jump distance (jump_of insn) none is)
plain_sound slot insn none early ten JumpOut (distance, is, fault) = absurd (no_jump distance (jump_of insn) none is)
plain_sound slot insn none early ten JumpIntoWide (distance, is, fault) = absurd (no_jump distance (jump_of insn) none is)
plain_sound slot insn none early ten FallOff (differ, out) = omega (arith, early, out)
plain_sound slot insn none early ten WriteR10 is = ten is

exit_sound : SoundAt 8 Exit
exit_sound BackwardJump (distance, is, fault) = absurd (no_jump distance None refl is)
exit_sound JumpOut (distance, is, fault) = absurd (no_jump distance None refl is)
exit_sound JumpIntoWide (distance, is, fault) = absurd (no_jump distance None refl is)
exit_sound FallOff (differ, out) = differ refl
exit_sound WriteR10 is = absurd (cc)

same_distance : (m n : ℕ) (distance : ℤ) (o : Option ℤ) → o ≡ Some (pos m) → o ≡ Some distance → distance ≡ pos n → m ≡ n
same_distance m n distance o is was there = cc

back_distance : (m n : ℕ) (distance : ℤ) (o : Option ℤ) → o ≡ Some (pos m) → o ≡ Some distance → distance ≡ negsuc n → ⊥
back_distance m n distance o is was there = cc

-- a test that jumps to the last slot
test_sound : (slot : ℕ) (insn : Insn) (m : ℕ) → jump_of insn ≡ Some (pos m) → slot + 1 + m ≡ 8 → slot + slots_of insn < length question → (written_by insn ≡ Some 10 → ⊥) → SoundAt slot insn
test_sound slot insn m jump last early ten BackwardJump (distance, is, (n, back)) = back_distance m n distance (jump_of insn) jump is back
test_sound slot insn m jump last early ten JumpOut (distance, is, (n, ahead, out)) =
    let same = same_distance m n distance (jump_of insn) jump is ahead in omega (arith, same, last, out)
test_sound slot insn m jump last early ten JumpIntoWide (distance, is, (n, ahead, there)) =
    let same = same_distance m n distance (jump_of insn) jump is ahead in
    let at : slot + 1 + n ≡ 8 = omega (arith, same, last) in
    no_second Exit (slice_get question 8) refl (subst (λ k. slice_get question k ≡ Some None) at there)
test_sound slot insn m jump last early ten FallOff (differ, out) = omega (arith, early, out)
test_sound slot insn m jump last early ten WriteR10 is = ten is

none_ten : (o : Option ℕ) → o ≡ None → o ≡ Some 10 → ⊥
none_ten o none is = cc

sound : (slot : ℕ) (insn : Insn) → StartsAt question slot insn → SoundAt slot insn
sound =
    at_slot SoundAt
    (plain_sound 0 clear refl (omega arith) (not_ten 0 (written_by clear) refl (omega arith)))
    (plain_sound 1 load_end refl (omega arith) (not_ten 2 (written_by load_end) refl (omega arith)))
    (plain_sound 2 load_begin refl (omega arith) (not_ten 1 (written_by load_begin) refl (omega arith)))
    (test_sound 3 is_empty 4 refl refl (omega arith) (none_ten (written_by is_empty) refl))
    (plain_sound 4 take refl (omega arith) (not_ten 1 (written_by take) refl (omega arith)))
    (plain_sound 5 yes_then refl (omega arith) (not_ten 0 (written_by yes_then) refl (omega arith)))
    (test_sound 6 is_mark 1 refl refl (omega arith) (none_ten (written_by is_mark) refl))
    (plain_sound 7 no_then refl (omega arith) (not_ten 0 (written_by no_then) refl (omega arith)))
    exit_sound

structured : IsStructured question
structured slot insn early starts = sound slot insn starts

-- ---- all of it
first : (f : Fact) → Contains (outline 0) f → IsFirst f
first f c = from_all IsFirst started f (context, tt) c

there : (slot : ℕ) (f : Fact) → Contains (outline slot) f → IsThere f
there zero f c = from_all IsThere started f (omega arith, tt) c
there (suc zero) f c = from_all IsThere zeroed f (omega arith, (omega arith, tt)) c
there (suc (suc zero)) f c = from_all IsThere ended f (omega arith, (omega arith, (omega arith, (omega arith, tt)))) c
there (suc (suc (suc zero))) f c = from_all IsThere begun f (omega arith, (omega arith, (omega arith, (omega arith, (omega arith, tt))))) c
there (suc (suc (suc (suc zero)))) f c = from_all IsThere tested f (omega arith, (omega arith, (omega arith, (omega arith, tt)))) c
there (suc (suc (suc (suc (suc zero))))) f c = from_all IsThere taken f (omega arith, tt) c
there (suc (suc (suc (suc (suc (suc zero)))))) f c = from_all IsThere answered f (omega arith, (omega arith, tt)) c
there (suc (suc (suc (suc (suc (suc (suc zero))))))) f c = from_all IsThere [] f tt c
there (suc (suc (suc (suc (suc (suc (suc (suc zero)))))))) f c = from_all IsThere done f (omega arith, tt) c
there (suc (suc (suc (suc (suc (suc (suc (suc (suc n))))))))) f c = from_all IsThere [] f tt c

no_half : (slot : ℕ) (f : Fact) → slice_get question slot ≡ Some None → Contains (outline (slot + 1)) f → Contains (outline slot) f
no_half zero f is c = absurd (no_second clear (slice_get question 0) refl is)
no_half (suc zero) f is c = absurd (no_second load_end (slice_get question 1) refl is)
no_half (suc (suc zero)) f is c = absurd (no_second load_begin (slice_get question 2) refl is)
no_half (suc (suc (suc zero))) f is c = absurd (no_second is_empty (slice_get question 3) refl is)
no_half (suc (suc (suc (suc zero)))) f is c = absurd (no_second take (slice_get question 4) refl is)
no_half (suc (suc (suc (suc (suc zero))))) f is c = absurd (no_second yes_then (slice_get question 5) refl is)
no_half (suc (suc (suc (suc (suc (suc zero)))))) f is c = absurd (no_second is_mark (slice_get question 6) refl is)
no_half (suc (suc (suc (suc (suc (suc (suc zero))))))) f is c = absurd (no_second no_then (slice_get question 7) refl is)
no_half (suc (suc (suc (suc (suc (suc (suc (suc zero)))))))) f is c = absurd (no_second Exit (slice_get question 8) refl is)
no_half (suc (suc (suc (suc (suc (suc (suc (suc (suc n))))))))) f is c = absurd (none_half None refl is)

pub question_guarded : (profile : Profile) → IsGuarded profile question
question_guarded profile = record {
  structured = structured;
  outline = outline;
  is = record {
    first = first;
    there = there;
    falls = λ slot insn f starts c. falls profile slot insn starts f c;
    jumps = λ slot insn n f starts is c. jumps profile slot insn starts n f is c;
    second = no_half;
    allows = allows profile;
  };
}
