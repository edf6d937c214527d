-- Comparisons of addresses, and pairs that are there.
use Rattle.std.proofs.Common.{◌≡◌, ℕ, ◌+◌, ◌^◌, ◌≤◌, ◌==◌, nat_lt, nat_le, not, List, get_or, set, [], Option, Some, None, Ok, refl, sym, ◌∙◌, ap, subst, arith}
use Rattle.std.proofs.lemmas.Bool.Decides.{nat_tests}
use Rattle.std.proofs.lemmas.List.{set-get_or}
use Rattle.std.proofs.lemmas.Option.{slice_get_within, get_or_from_slice_get}
use Rattle.std.specs.List.{slice_get}
use Rattle.bpf_words.specs.declared.instruction.Width.TheVariants.{Full}
use Rattle.bpf_words.specs.declared.instruction.Comparison.{Comparison}
use Rattle.bpf_words.specs.declared.instruction.Comparison.TheVariants as is
use Rattle.semantics.specs.State.{State, set_value, register_of}
use Rattle.semantics.specs.Value.{cut, holds_of}
use Rattle.abstract_state.specs.declared.region.Region.{Region}
use Rattle.abstract_state.specs.declared.region.Region.TheVariants.{Text, Link}
use Rattle.abstract_state.specs.declared.branch.Pair.{Pair}
use Rattle.abstract_state.specs.Lent.{Lengths, base_of}
use Rattle.abstract_state.specs.Known.{ContainsKnown}
use Rattle.abstract_state.specs.State.{with_register}
use Rattle.abstract_state.specs.Branch.{WithinPair, IsOrder}

shift_eq : (b x y : ℕ) → (b + x == b + y) ≡ (x == y)
shift_eq b x y = grind (arith, nat_tests)

shift_lt : (b x y : ℕ) → nat_lt (b + x) (b + y) ≡ nat_lt x y
shift_lt b x y = grind (arith, nat_tests)

shift_le : (b x y : ℕ) → nat_le (b + x) (b + y) ≡ nat_le x y
shift_le b x y = grind (arith, nat_tests)

moved_holds : (c : Comparison) (b x y : ℕ) → IsOrder c → holds_of c Full (b + x) (b + y) ≡ holds_of c Full x y
moved_holds is.Equal b x y o = shift_eq b x y
moved_holds is.Greater b x y o = shift_lt b y x
moved_holds is.GreaterOrEqual b x y o = shift_le b y x
moved_holds is.AnyBit b x y o = absurd o
moved_holds is.NotEqual b x y o = ap not (shift_eq b x y)
moved_holds is.SignedGreater b x y o = absurd o
moved_holds is.SignedGreaterOrEqual b x y o = absurd o
moved_holds is.Less b x y o = shift_lt b x y
moved_holds is.LessOrEqual b x y o = shift_le b x y
moved_holds is.SignedLess b x y o = absurd o
moved_holds is.SignedLessOrEqual b x y o = absurd o

lent_cut : (region : Region) (m x : ℕ) → m ≡ base_of region + x → x ≤ 2 ^ 20 → cut Full m ≡ base_of region + x
lent_cut Text m x e h = omega arith
lent_cut Link m x e h = omega arith

-- addresses in one region compare as their offsets
pub lent_holds : (region : Region) (c : Comparison) (m n x y : ℕ) → IsOrder c → m ≡ base_of region + x → n ≡ base_of region + y → x ≤ 2 ^ 20 → y ≤ 2 ^ 20 → holds_of c Full (cut Full m) (cut Full n) ≡ holds_of c Full (cut Full x) (cut Full y)
lent_holds region c m n x y o em en hx hy =
    let px : cut Full x ≡ x = omega arith in
    let py : cut Full y ≡ y = omega arith in
    ap (λ (k : ℕ). holds_of c Full k (cut Full n)) (lent_cut region m x em hx)
    ∙ ap (λ (k : ℕ). holds_of c Full (base_of region + x) k) (lent_cut region n y en hy)
    ∙ moved_holds c (base_of region) x y o
    ∙ ap (λ (k : ℕ). holds_of c Full k y) (sym px)
    ∙ ap (λ (k : ℕ). holds_of c Full (cut Full x) k) (sym py)

pub pair_left : (o : Option Pair) (p : Pair) (lengths : Lengths) (m n : ℕ) → o ≡ Some p → WithinPair o lengths m n → ContainsKnown p.left lengths m
pair_left o p lengths m n is (t, e, l, r) = let same : t ≡ p = cc in subst (λ (v : Pair). ContainsKnown v.left lengths m) same l

pub pair_right : (o : Option Pair) (p : Pair) (lengths : Lengths) (m n : ℕ) → o ≡ Some p → WithinPair o lengths m n → ContainsKnown p.right lengths n
pair_right o p lengths m n is (t, e, l, r) = let same : t ≡ p = cc in subst (λ (v : Pair). ContainsKnown v.right lengths n) same r

-- a register is written with what it holds
read_there : (registers : List (Option ℕ)) (r n : ℕ) → register_of (record { slot = 0; registers = registers; stack = [] }) r ≡ Ok n → slice_get registers r ≡ Some (Some n)
read_there registers r n e = found (slice_get registers r) refl e
  where
    found : (o : Option (Option ℕ)) → slice_get registers r ≡ o → set_value o ≡ Ok n → slice_get registers r ≡ Some (Some n)
    found None is f = absurd (cc)
    found (Some None) is f = absurd (cc)
    found (Some (Some m)) is f = let same : m ≡ n = cc in is ∙ ap (λ (k : ℕ). Some (Some k)) same

pub put_back : (s : State) (r n : ℕ) → register_of s r ≡ Ok n → with_register s r n ≡ s
put_back s r n e =
    let there = read_there s.registers r n e in
    let within = slice_get_within s.registers r (Some n) there in
    let is : get_or s.registers r None ≡ Some n = get_or_from_slice_get s.registers r (Some n) None there in
    let same : set s.registers r (Some n) ≡ s.registers = ap (λ (v : Option ℕ). set s.registers r v) (sym is) ∙ set-get_or s.registers r None in
    ap (λ (registers : List (Option ℕ)). record s { registers = registers }) same
