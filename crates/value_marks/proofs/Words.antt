-- Words of a width, modulo which marks speak.
use Rattle.std.proofs.Common.{◌≡◌, ℕ, ◌+◌, ◌-◌, ◌%◌, ◌^◌, ◌<◌, sym, ◌∙◌, ap, arith}
use Rattle.bpf_words.specs.declared.instruction.Width.{Width}
use Rattle.bpf_words.specs.declared.instruction.Width.TheVariants.{Narrow, Full}
use Rattle.semantics.specs.Value.{bits_of, cut}
use Rattle.value_marks.specs.Mark.{narrower}

-- the sum of two numbers, of which one is cut first
mod_narrow : (m : ℕ) → m % 2 ^ 64 % 2 ^ 32 ≡ m % 2 ^ 32
mod_narrow m = omega arith

same_narrow : (m n : ℕ) → m % 2 ^ 64 ≡ n % 2 ^ 64 → m % 2 ^ 32 ≡ n % 2 ^ 32
same_narrow m n e = sym (mod_narrow m) ∙ ap (λ (k : ℕ). k % 2 ^ 32) e ∙ mod_narrow n

-- two numbers that agree by the bits of a width agree by those of a lesser one
pub agree_narrower : (v w : Width) (m n : ℕ) → cut v m ≡ cut v n → cut (narrower v w) m ≡ cut (narrower v w) n
agree_narrower Full Full m n e = e
agree_narrower Full Narrow m n e = same_narrow m n e
agree_narrower Narrow w m n e = e

pub agree_narrower_right : (v w : Width) (m n : ℕ) → cut w m ≡ cut w n → cut (narrower v w) m ≡ cut (narrower v w) n
agree_narrower_right Full w m n e = e
agree_narrower_right Narrow Full m n e = same_narrow m n e
agree_narrower_right Narrow Narrow m n e = e

-- the distance of two marks is that of their values
pub distance_is : (w : Width) (v j k m n : ℕ) → cut w m ≡ cut w (v + j) → cut w n ≡ cut w (v + k) → cut w n ≡ cut w (m + cut w ((k + (2 ^ 64 - j % 2 ^ 64)) % 2 ^ 64))
distance_is Full v j k m n em en = omega arith
distance_is Narrow v j k m n em en = omega arith

-- ---- what adding makes of a mark
pub raises : (w : Width) (v k m n : ℕ) → cut w m ≡ cut w (v + k) → cut w ((m + n) % 2 ^ 64) ≡ cut w (v + (k + n) % 2 ^ 64)
raises Full v k m n e = omega arith
raises Narrow v k m n e = omega arith

pub lowers : (w : Width) (v k m n : ℕ) → cut w m ≡ cut w (v + k) → cut w ((m + (2 ^ 64 - n % 2 ^ 64)) % 2 ^ 64) ≡ cut w (v + (k + (2 ^ 64 - n % 2 ^ 64)) % 2 ^ 64)
lowers Full v k m n e = omega arith
lowers Narrow v k m n e = omega arith

-- offsets from one base differ as the numbers do
pub same_base : (w : Width) (b x y ahead : ℕ) → cut w (b + y) ≡ cut w (b + x + ahead) → cut w y ≡ cut w (x + ahead)
same_base Full b x y ahead e = omega arith
same_base Narrow b x y ahead e = omega arith

pub cut_fits : (w : Width) (n : ℕ) → n < 2 ^ bits_of w → cut w n ≡ n
cut_fits Full n h = omega arith
cut_fits Narrow n h = omega arith
