-- Where a register's number is known to be ahead of another's, it is.
use Rattle.std.proofs.Common.{◌≡◌, ◌+◌, ◌-◌, ◌%◌, ◌^◌, ◌<◌, ◌≤◌, ℕ, Bool, true, false, cond, nat_eq, nat_le, List, length, slice_get, Option, Some, None, Ok, option_map, get_or, refl, sym, ◌∙◌, ap, subst, arith}
use Rattle.std.proofs.lemmas.Bool.Decides.{nat_tests}
use Rattle.std.specs.Option.{option_and_then, unwrap_or}
use Rattle.std.proofs.lemmas.Option.{slice_get_within, get_or_from_slice_get}
use Rattle.bpf_words.specs.declared.instruction.Width.{Width}
use Rattle.bpf_words.specs.declared.instruction.Width.TheVariants.{Narrow, Full}
use Rattle.semantics.specs.State.{State, set_value, register_of}
use Rattle.semantics.specs.Value.{cut}
use Rattle.abstract_state.specs.declared.region.Region.{Region}
use Rattle.abstract_state.specs.declared.region.Region.TheVariants.{Text, Link}
use Rattle.abstract_state.specs.declared.region.Tails.{Tails}
use Rattle.abstract_state.specs.declared.known.Known.{Known}
use Rattle.abstract_state.specs.declared.known.Known.TheVariants.{Number, Context, Stack, Lent}
use Rattle.abstract_state.specs.declared.state.AbsReg.{AbsReg}
use Rattle.abstract_state.specs.declared.state.AbsReg.TheVariants.{Unset, Set}
use Rattle.abstract_state.specs.Lent.{Lengths, length_of, base_of, tail_of, HasTails}
use Rattle.abstract_state.specs.Known.{ContainsKnown}
use Rattle.abstract_state.specs.State.{ContainsRegister, register_at}
use Rattle.abstract_state.specs.Addresses.{Content, content_of}
use Rattle.abstract_state.specs.Situation.{register_of as content_in}
use Rattle.value_marks.specs.declared.mark.Mark.{Mark}
use Rattle.value_marks.specs.declared.marks.Marks.{Marks}
use Rattle.value_marks.specs.Mark.{Agrees}
use Rattle.value_marks.specs.Marking.{marking_of, no_marks}
use Rattle.value_marks.specs.Copies.{kept}
use Rattle.tracked_state.specs.declared.state.TrackedState.{TrackedState}
use Rattle.tracked_state.specs.Tracked.{tracked_of}
use Rattle.state_inclusion.specs.Partners.{marks_in}
use Rattle.length_marks.specs.Names.{text_name, link_name, NamesLengths}
use Rattle.loop_states.specs.Contained.{BearIn, ContainsInLoop}
use Rattle.loop_states.specs.Leads.{region_of, taken_off, left_of, lead_in_region, lead_by, lead_from, lead_in}

-- one number is at least so far ahead of another
abbrev pub IsAheadBy : Option ℕ → ℕ → ℕ → Type 0
IsAheadBy None m n = Unit {0}
IsAheadBy (Some lead) m n = m + lead ≤ n

-- ---- numbers
ahead_full : (base addend off tail x long n : ℕ) → base < 2 ^ 40 → off ≡ (base + (2 ^ 64 - addend % 2 ^ 64)) % 2 ^ 64 → off ≤ tail → x + tail ≤ long → long ≤ 131072 → n % 2 ^ 64 ≡ (long + addend) % 2 ^ 64 → (base + x) % 2 ^ 64 + (tail - off) ≤ n % 2 ^ 64
ahead_full base addend off tail x long n low is within ends short agrees = omega arith

ahead_narrow : (addend off tail x long n : ℕ) → off ≡ (0 + (2 ^ 64 - addend % 2 ^ 64)) % 2 ^ 64 → off ≤ tail → x + tail ≤ long → long ≤ 131072 → n % 2 ^ 64 ≡ (long + addend) % 2 ^ 64 → x % 2 ^ 32 + (tail - off) ≤ n % 2 ^ 32
ahead_narrow addend off tail x long n is within ends short agrees = omega arith

ahead_at : (width : Width) (addend off tail x long n : ℕ) → off ≡ (0 + (2 ^ 64 - addend % 2 ^ 64)) % 2 ^ 64 → off ≤ tail → x + tail ≤ long → long ≤ 131072 → n % 2 ^ 64 ≡ (long + addend) % 2 ^ 64 → cut width x + (tail - off) ≤ cut width n
ahead_at Full addend off tail x long n is within ends short agrees = omega (arith, is, within, ends, short, agrees)
ahead_at Narrow addend off tail x long n is within ends short agrees = ahead_narrow addend off tail x long n is within ends short agrees

-- ---- the mark of the one, the tails of the other
named_length : (origins : ℕ → ℕ) (lengths : Lengths) (name : ℕ) (region : Region) → NamesLengths origins lengths → region_of name ≡ Some region → origins name ≡ length_of lengths region
named_length origins lengths name region names is = by_text (nat_eq name text_name) refl is
  where
    by_text : (b : Bool) → nat_eq name text_name ≡ b → cond b (Some Text) (cond (nat_eq name link_name) (Some Link) None) ≡ Some region → origins name ≡ length_of lengths region
    by_text true here e =
        let same : name ≡ text_name = grind (arith, nat_tests) in
        let which : Text ≡ region = cc in
        subst (λ (r : Region). origins name ≡ length_of lengths r) which (ap origins same ∙ names.text)
    by_text false apart e = by_link (nat_eq name link_name) refl e
      where
        by_link : (b : Bool) → nat_eq name link_name ≡ b → cond b (Some Link) None ≡ Some region → origins name ≡ length_of lengths region
        by_link true here f =
            let same : name ≡ link_name = grind (arith, nat_tests) in
            let which : Link ≡ region = cc in
            subst (λ (r : Region). origins name ≡ length_of lengths r) which (ap origins same ∙ names.link)
        by_link false other f = absurd (cc)

has_tail : (tails : Tails) (lengths : Lengths) (region : Region) (x t : ℕ) → HasTails tails lengths x → tail_of tails region ≡ Some t → x + t ≤ length_of lengths region
has_tail tails lengths Text x t has is = has.text t is
has_tail tails lengths Link x t has is = has.link t is

short : (lengths : Lengths) (region : Region) → length_of lengths region ≤ 131072
short lengths Text = omega (arith, lengths.short)
short lengths Link = omega (arith, lengths.link_short)

low_base : (region : Region) → base_of region < 2 ^ 40
low_base Text = omega arith
low_base Link = omega arith

ahead_then : {A : Type 0} (o : Option A) (f : A → Option ℕ) (m n : ℕ) → ((a : A) → o ≡ Some a → IsAheadBy (f a) m n) → IsAheadBy (option_and_then f o) m n
ahead_then None f m n each = tt
ahead_then (Some a) f m n each = each a refl

ahead_if : (b : Bool) (lead m n : ℕ) → (b ≡ true → m + lead ≤ n) → IsAheadBy (cond b (Some lead) None) m n
ahead_if true lead m n fits = fits refl
ahead_if false lead m n fits = tt

within_tail : (taken tail : ℕ) → nat_le taken tail ≡ true → taken ≤ tail
within_tail taken tail fits = grind (arith, nat_tests)

of_length : (origins : ℕ → ℕ) (lengths : Lengths) (m : Mark) (region : Region) (n : ℕ) → NamesLengths origins lengths → region_of m.origin ≡ Some region → m.width ≡ Full → Agrees origins m n → n % 2 ^ 64 ≡ (length_of lengths region + m.addend) % 2 ^ 64
of_length origins lengths m region n names named full agrees =
    let whole = subst (λ (w : Width). cut w n ≡ cut w (origins m.origin + m.addend)) full agrees in
    whole ∙ ap (λ (k : ℕ). (k + m.addend) % 2 ^ 64) (named_length origins lengths m.origin region names named)

number_lead : (width : Width) (origins : ℕ → ℕ) (lengths : Lengths) (tails : Tails) (m : Mark) (x n : ℕ) → NamesLengths origins lengths → HasTails tails lengths x → Agrees origins m n → IsAheadBy (lead_by m.width 0 tails m) (cut width x) (cut width n)
number_lead width origins lengths tails m x n names has agrees = by_width m.width refl
  where
    by_width : (w : Width) → m.width ≡ w → IsAheadBy (lead_by w 0 tails m) (cut width x) (cut width n)
    by_width Narrow is = tt
    by_width Full is =
        ahead_then (region_of m.origin) (lead_in_region 0 tails m) (cut width x) (cut width n) (λ region named.
        ahead_then (tail_of tails region) (left_of (taken_off 0 m)) (cut width x) (cut width n) (λ tail there.
        ahead_if (nat_le (taken_off 0 m) tail) (tail - taken_off 0 m) (cut width x) (cut width n) (λ fits.
        ahead_at width m.addend (taken_off 0 m) tail x (length_of lengths region) n refl (within_tail (taken_off 0 m) tail fits)
        (has_tail tails lengths region x tail has there) (short lengths region)
        (of_length origins lengths m region n names named is agrees))))

address_lead : (origins : ℕ → ℕ) (lengths : Lengths) (base : ℕ) (tails : Tails) (m : Mark) (x n : ℕ) → base < 2 ^ 40 → NamesLengths origins lengths → HasTails tails lengths x → Agrees origins m n → IsAheadBy (lead_by m.width base tails m) (cut Full (base + x)) (cut Full n)
address_lead origins lengths base tails m x n low names has agrees = by_width m.width refl
  where
    by_width : (w : Width) → m.width ≡ w → IsAheadBy (lead_by w base tails m) (cut Full (base + x)) (cut Full n)
    by_width Narrow is = tt
    by_width Full is =
        ahead_then (region_of m.origin) (lead_in_region base tails m) (cut Full (base + x)) (cut Full n) (λ region named.
        ahead_then (tail_of tails region) (left_of (taken_off base m)) (cut Full (base + x)) (cut Full n) (λ tail there.
        ahead_if (nat_le (taken_off base m) tail) (tail - taken_off base m) (cut Full (base + x)) (cut Full n) (λ fits.
        ahead_full base m.addend (taken_off base m) tail x (length_of lengths region) n low refl (within_tail (taken_off base m) tail fits)
        (has_tail tails lengths region x tail has there) (short lengths region)
        (of_length origins lengths m region n names named is agrees))))

known_lead : (width : Width) (origins : ℕ → ℕ) (lengths : Lengths) (k : Known) (m : Mark) (x n : ℕ) → NamesLengths origins lengths → ContainsKnown k lengths x → Agrees origins m n → IsAheadBy (lead_from (content_of k) width m) (cut width x) (cut width n)
known_lead width origins lengths (Number q) m x n names held agrees = number_lead width origins lengths q.tails m x n names held.tails agrees
known_lead Full origins lengths (Lent p) m x n names (y, is, held) agrees =
    subst (λ (v : ℕ). IsAheadBy (lead_by m.width (base_of p.region) p.offset.tails m) (cut Full v) (cut Full n)) (sym is)
    (address_lead origins lengths (base_of p.region) p.offset.tails m y n (low_base p.region) names held.tails agrees)
known_lead Narrow origins lengths (Lent p) m x n names held agrees = tt
known_lead width origins lengths (Context p) m x n names held agrees = tt
known_lead width origins lengths (Stack p) m x n names held agrees = tt

-- ---- in a state
read_in : (registers : List (Option ℕ)) (r n : ℕ) → set_value (slice_get registers r) ≡ Ok n → slice_get registers r ≡ Some (Some n)
read_in registers r n e = found (slice_get registers r) refl e
  where
    found : (o : Option (Option ℕ)) → slice_get registers r ≡ o → set_value o ≡ Ok n → slice_get registers r ≡ Some (Some n)
    found None is f = absurd (cc)
    found (Some None) is f = absurd (cc)
    found (Some (Some m)) is f = let same : m ≡ n = cc in is ∙ ap (λ (k : ℕ). Some (Some k)) same

holds_register : (s : State) (r n : ℕ) → length s.registers ≡ 11 → register_of s r ≡ Ok n → (r < 11) × (get_or s.registers r None ≡ Some n)
holds_register s r n eleven e =
    let there = read_in s.registers r n e in
    let within = slice_get_within s.registers r (Some n) there in
    (omega (arith, eleven, within), get_or_from_slice_get s.registers r (Some n) None there)

known_there : (r : AbsReg) (content : Content) → content_in r ≡ Some content → (k : Known) × (r ≡ Set k) × (content_of k ≡ content)
known_there Unset content e = absurd (cc)
known_there (Set k) content e = (k, refl, cc)

same_number : (m n : ℕ) → Some m ≡ Some n → m ≡ n
same_number m n e = cc

held_there : (a : TrackedState) (lengths : Lengths) (s : State) (r x : ℕ) (k : Known) → ContainsInLoop a lengths s → r < 11 → get_or s.registers r None ≡ Some x → register_at a.state.registers r ≡ Set k → ContainsKnown k lengths x
held_there a lengths s r x k held below reads is =
    let there = subst (λ (v : AbsReg). ContainsRegister v lengths (get_or s.registers r None)) is (held.state.registers r below) in
    subst (λ (v : ℕ). ContainsKnown k lengths v) (same_number there.0 x (sym there.1 ∙ reads)) there.2

agrees_there : (o : Option Marks) (lengths : Lengths) (s : State) (r n : ℕ) (m : Mark) → r < 11 → BearIn lengths o s → (unwrap_or (option_map marking_of o) no_marks).registers r ≡ Some m → get_or s.registers r None ≡ Some n → (origins : ℕ → ℕ) × NamesLengths origins lengths × Agrees origins m n
agrees_there None lengths s r n m below bears there reads = absurd (cc)
agrees_there (Some marks) lengths s r n m below (origins, names, bears) there reads = (origins, names, bears.registers r below m n there reads)

pub ahead : (a : TrackedState) (width : Width) (behind front m n : ℕ) (lengths : Lengths) (s : State) → ContainsInLoop a lengths s → register_of s behind ≡ Ok m → register_of s front ≡ Ok n → IsAheadBy (lead_in width (tracked_of a) behind front) (cut width m) (cut width n)
ahead a width behind front m n lengths s held one other =
    let first = holds_register s behind m held.state.eleven one in
    let second = holds_register s front n held.state.eleven other in
    ahead_then (content_in (register_at a.state.registers behind)) (λ content. option_and_then (lead_from content width) ((marks_in (tracked_of a)).registers front)) (cut width m) (cut width n) (λ content is.
    ahead_then ((marks_in (tracked_of a)).registers front) (lead_from content width) (cut width m) (cut width n) (λ mark there.
    let known = known_there (register_at a.state.registers behind) content is in
    let named = agrees_there (kept a.copies) lengths s front n mark second.0 held.marks there second.1 in
    subst (λ (c : Content). IsAheadBy (lead_from c width mark) (cut width m) (cut width n)) known.2
    (known_lead width named.0 lengths known.0 mark m n named.1 (held_there a lengths s behind m known.0 held first.0 first.1 known.1) named.2)))
