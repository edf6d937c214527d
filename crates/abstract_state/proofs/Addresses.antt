-- Numbers that are addresses, and what moves them.
use Rattle.std.proofs.Common.{◌≡◌, ℕ, ◌+◌, ◌-◌, ◌%◌, ◌^◌, ◌<◌, ◌≤◌, Option, Some, sym, ◌∙◌, ap, subst, arith}
use Rattle.bpf_words.specs.declared.instruction.Width.{Width}
use Rattle.bpf_words.specs.declared.instruction.Width.TheVariants.{Full}
use Rattle.bpf_words.specs.declared.instruction.Arithmetic.{Arithmetic}
use Rattle.bpf_words.specs.declared.instruction.Arithmetic.TheVariants.{Add, Sub}
use Rattle.semantics.specs.Value.{cut, value_of}
use Rattle.abstract_state.specs.declared.region.Region.{Region}
use Rattle.abstract_state.specs.declared.region.Region.TheVariants.{Text, Link}
use Rattle.abstract_state.specs.declared.known.Known.{Known}
use Rattle.abstract_state.specs.declared.known.Known.TheVariants.{Number, Context, Stack, Lent}
use Rattle.abstract_state.specs.Lent.{Lengths, base_of}
use Rattle.abstract_state.specs.Known.{ContainsKnown, WithinKnown}

-- no address near a lent region wraps
pub near_fits : (region : Region) (x : ℕ) → x ≤ 2 ^ 20 → base_of region + x < 2 ^ 64
near_fits Text x h = omega arith
near_fits Link x h = omega arith

pub near_is : (region : Region) (x : ℕ) → x ≤ 2 ^ 20 → (base_of region + x) % 2 ^ 64 ≡ base_of region + x
near_is Text x h = omega arith
near_is Link x h = omega arith

pub adds : (op : Arithmetic) (w : Width) (x y : ℕ) → op ≡ Add → w ≡ Full → value_of op w (cut w x) (cut w y) ≡ (x + y) % 2 ^ 64
adds op w x y is_op is_w =
    ap (λ (o : Arithmetic). value_of o w (cut w x) (cut w y)) is_op
    ∙ ap (λ (v : Width). value_of Add v (cut v x) (cut v y)) is_w ∙ omega arith

pub subtracts : (op : Arithmetic) (w : Width) (x y : ℕ) → op ≡ Sub → w ≡ Full → value_of op w (cut w x) (cut w y) ≡ (x + (2 ^ 64 - y % 2 ^ 64)) % 2 ^ 64
subtracts op w x y is_op is_w =
    ap (λ (o : Arithmetic). value_of o w (cut w x) (cut w y)) is_op
    ∙ ap (λ (v : Width). value_of Sub v (cut v x) (cut v y)) is_w ∙ omega arith

pub moved_offset : (op : Arithmetic) (w : Width) (x y base offset r : ℕ) → x ≡ base + offset → value_of op w (cut w (base + offset)) (cut w y) ≡ (base + r) % 2 ^ 64 → base + r < 2 ^ 64 → value_of op w (cut w x) (cut w y) ≡ base + r
moved_offset op w x y base offset r e h small = ap (λ (n : ℕ). value_of op w (cut w n) (cut w y)) e ∙ h ∙ omega arith

-- a number of which something is known has 64 bits
pub known_fits : (k : Known) (lengths : Lengths) (n : ℕ) → ContainsKnown k lengths n → n < 2 ^ 64
known_fits (Number q) lengths n c = c.bits.fits
known_fits (Context p) lengths n c = omega (arith, p.within)
known_fits (Stack p) lengths n c = omega (arith, p.within)
known_fits (Lent p) lengths n (x, e, c) =
    let most = c.range.high in let fits = near_fits p.region x (omega (arith, p.near)) in omega arith

pub known_at : (o : Option Known) (k : Known) (lengths : Lengths) (n : ℕ) → o ≡ Some k → WithinKnown o lengths n → ContainsKnown k lengths n
known_at o k lengths n is (j, e, c) = let same : j ≡ k = cc in subst (λ (v : Known). ContainsKnown v lengths n) same c

-- the sum of an address in a lent region and a number, and the other way round
pub lent_sum : (region : Region) (x y : ℕ) → (base_of region + (x + y) % 2 ^ 64) % 2 ^ 64 ≡ (base_of region + x + y) % 2 ^ 64
lent_sum Text x y = omega arith
lent_sum Link x y = omega arith

pub lent_difference : (region : Region) (x y : ℕ) → y < 2 ^ 64 → (base_of region + (x + (2 ^ 64 - y)) % 2 ^ 64) % 2 ^ 64 ≡ (base_of region + x + (2 ^ 64 - y % 2 ^ 64)) % 2 ^ 64
lent_difference Text x y h = omega arith
lent_difference Link x y h = omega arith

pub sum_lent : (region : Region) (x y : ℕ) → (base_of region + (x + y) % 2 ^ 64) % 2 ^ 64 ≡ (x + (base_of region + y)) % 2 ^ 64
sum_lent Text x y = omega arith
sum_lent Link x y = omega arith

pub lent_moved : (region : Region) (w : Width) (n x : ℕ) → w ≡ Full → n ≡ base_of region + x → (base_of region + x % 2 ^ 64) % 2 ^ 64 ≡ cut w n
lent_moved Text w n x is e = omega arith ∙ ap (λ (v : Width). cut v n) (sym is)
lent_moved Link w n x is e = omega arith ∙ ap (λ (v : Width). cut v n) (sym is)

-- the distance between two addresses in one lent region is that between their offsets
pub lent_distance : (region : Region) (x y : ℕ) → base_of region + y < 2 ^ 64 → (x + (2 ^ 64 - y)) % 2 ^ 64 ≡ (base_of region + x + (2 ^ 64 - (base_of region + y) % 2 ^ 64)) % 2 ^ 64
lent_distance Text x y h = omega arith
lent_distance Link x y h = omega arith
