-- What holds of the part of a span that the first profile lends holds of the whole span.
use Rattle.std.proofs.Common.{◌≡◌, ◌⊎◌, ℕ, zero, suc, ◌+◌, ◌-◌, ◌*◌, ◌<◌, ◌≤◌, nat_le, true, false, Bool, if◌then◌else◌, List, [], ◌∷◌, length, take, drop, get_or, Ok, Err, refl, sym, ap, ◌∙◌, inl, inr, ⊎_elim, arith}
use Rattle.std.proofs.lemmas.Bool.{leb-true, le-leb}
use Rattle.std.proofs.lemmas.List.{get_or-take, get_or-drop, length-take-le}
use Rattle.byteorder.specs.Endian.{little_number, little_from}
use Rattle.span_context.specs.Context.{context_base, text_base, link_base, SpanBytes, narrowed}
use Rattle.span_context.specs.declared.profile.Profile.{Profile}
use Rattle.span_context.specs.declared.profile.Profile.TheVariants.{One, Two, Three}
use Rattle.semantics.specs.declared.FaultKind.TheVariants.{BadAddress}
use Rattle.semantics.specs.State.{start}
use Rattle.semantics.specs.Memory.{load, lies_in, in_context, in_text, in_link, in_stack, stack_base, or_unset, stack_number}
use Rattle.semantics.specs.Step.{Program}
use Rattle.semantics.specs.Outcomes.{outcome}
use Rattle.semantics.specs.Safe.{SafeIn}
use Rattle.semantics.specs.declared.Outcome.TheVariants.{Done}
use Rattle.semantics.proofs.Witness.{both}
use Rattle.semantics.proofs.More.{Extends, runs_more, narrow_span, third_span}
use Rattle.program_reads.specs.declared.reads.Reads.{Reads}
use Rattle.program_reads.specs.Reads.{AgreesOn, Determines}
use Rattle.program_reads.specs.Loads.{CoversRuns}
use Rattle.program_reads.proofs.Runs.{determines}

same_number : (start count offset : ℕ) (bytes : List ℕ) → offset + start + count ≤ 56 → little_from start count (drop offset (take 56 bytes)) ≡ little_from start count (drop offset bytes)
same_number start zero offset bytes h = refl
same_number start (suc count) offset bytes h =
    let first : get_or (drop offset (take 56 bytes)) start 0 ≡ get_or (drop offset bytes) start 0 =
    get_or-drop offset (take 56 bytes) start 0 ∙ get_or-take 56 bytes (offset + start) 0 (omega arith) ∙ sym (get_or-drop offset bytes start 0) in
    ap (λ a. a + 256 * little_from (suc start) count (drop offset (take 56 bytes))) first
    ∙ ap (λ n. get_or (drop offset bytes) start 0 + 256 * n) (same_number (suc start) count offset bytes (omega arith))

cut_short : (context : List ℕ) → length context ≡ 72 → length (take 56 context) ≡ 56
cut_short context long = length-take-le 56 context (omega arith)

lies : (base long address count : ℕ) → lies_in base long address count ≡ true → (base ≤ address) × (address + count ≤ base + long)
lies base long address count e =
    let parts = both (nat_le base address) (nat_le (address + count) (base + long)) e in (leb-true base address parts.0, leb-true (address + count) (base + long) parts.1)

lies_there : (base long address count : ℕ) → base ≤ address → address + count ≤ base + long → lies_in base long address count ≡ true
lies_there base long address count low high =
    let one = le-leb base address low in
    let two = le-leb (address + count) (base + long) high in
    rw (one, two) refl

lies_apart : (base long address count : ℕ) → (base ≤ address → address + count ≤ base + long → ⊥) → lies_in base long address count ≡ false
lies_apart base long address count never = go (lies_in base long address count) refl
  where
    go : (b : Bool) → lies_in base long address count ≡ b → b ≡ false
    go true e = let there = lies base long address count e in absurd (never there.0 there.1)
    go false e = refl

narrow_extends : (bytes : SpanBytes) → length bytes.context ≡ 72 → Extends (narrowed bytes) bytes
narrow_extends bytes long stack address count value some e =
    go (in_context (take 56 bytes.context) address count) (in_text bytes.text address count) (in_link [] address count) (in_stack address count) refl refl refl refl e
  where
    cut : length (take 56 bytes.context) ≡ 56
    cut = cut_short bytes.context long

    go : (a b c d : Bool) → in_context (take 56 bytes.context) address count ≡ a → in_text bytes.text address count ≡ b → in_link [] address count ≡ c → in_stack address count ≡ d
        → (if a then Ok (little_number count (drop (address - context_base) (take 56 bytes.context))) else if b then Ok (little_number count (drop (address - text_base) bytes.text)) else if c then Ok (little_number count (drop (address - link_base) [])) else if d then or_unset (stack_number stack (address - stack_base) count) else Err BadAddress) ≡ Ok value
        → load bytes stack address count ≡ Ok value
    go true b c d ea eb ec ed e =
        let there = lies context_base (length (take 56 bytes.context)) address count ea in
        let low : context_base ≤ address = there.0 in
        let high : address + count ≤ context_base + 56 = omega (arith, there.1, cut) in
        let here : in_context bytes.context address count ≡ true = lies_there context_base (length bytes.context) address count low (omega arith) in
        let within : address - context_base + 0 + count ≤ 56 = omega arith in
        simp here (ap Ok (sym (same_number 0 count (address - context_base) bytes.context within)) ∙ e)
    go false true c d ea eb ec ed e =
        let low = (lies text_base (length bytes.text) address count eb).0 in
        let apart : in_context bytes.context address count ≡ false = lies_apart context_base (length bytes.context) address count (λ l h. omega arith) in
        simp (apart, eb) e
    go false false true d ea eb ec ed e = let there = lies link_base 0 address count ec in let low = there.0 in let high = there.1 in absurd (omega arith)
    go false false false true ea eb ec ed e =
        let there = lies stack_base 512 address count ed in
        let low = there.0 in
        let high = there.1 in
        let apart : in_context bytes.context address count ≡ false = lies_apart context_base (length bytes.context) address count (λ l h. omega arith) in
        let above : in_link bytes.link address count ≡ false = lies_apart link_base (length bytes.link) address count (λ l h. omega arith) in
        simp (apart, eb, above, ed) e
    go false false false false ea eb ec ed e = absurd (cc)

-- ---- spans that agree
taken : (n k : ℕ) (x y : List ℕ) → get_or x k 0 ≡ get_or y k 0 → get_or (take n x) k 0 ≡ get_or (take n y) k 0
taken n k x y same =
    ⊎_elim
    (λ (low : k < n). get_or-take n x k 0 low ∙ same ∙ sym (get_or-take n y k 0 low))
    (λ (high : n ≤ k). beyond n k x high ∙ sym (beyond n k y high))
    (which k n)
  where
    which : (k n : ℕ) → (k < n) ⊎ (n ≤ k)
    which k zero = inr (omega arith)
    which zero (suc n) = inl (omega arith)
    which (suc k) (suc n) = ⊎_elim (λ l. inl (omega arith)) (λ g. inr (omega arith)) (which k n)

    beyond : (n k : ℕ) (x : List ℕ) → n ≤ k → get_or (take n x) k 0 ≡ 0
    beyond zero k x high = refl
    beyond (suc n) zero x high = absurd (omega arith)
    beyond (suc n) (suc k) [] high = refl
    beyond (suc n) (suc k) (b ∷ x) high = beyond n k x (omega arith)

narrow_agrees : (reads : Reads) (a b : SpanBytes) → AgreesOn reads a b → AgreesOn reads (narrowed a) (narrowed b)
narrow_agrees reads a b agrees = record {
  context = λ k has. taken 56 k a.context b.context (agrees.context k has);
  text = agrees.text;
  link = λ k low in_a in_b. refl;
}

-- what the first profile lends decides, as far as it is listed
pub whole_spans : (reads : Reads) (profile : Profile) (program : Program) → SafeIn profile program → CoversRuns reads profile program → Determines reads Two program
whole_spans reads One program safe covers a b sa sb agrees =
    let na = narrow_span a sa in
    let nb = narrow_span b sb in
    let first = safe (narrowed a) na in
    let second = safe (narrowed b) nb in
    let more : outcome program a ≡ Done first.0 = runs_more program (narrowed a) a (narrow_extends a sa.fits.long) (length program) first.0 start first.1 in
    let other : outcome program b ≡ Done second.0 = runs_more program (narrowed b) b (narrow_extends b sb.fits.long) (length program) second.0 start second.1 in
    let same : outcome program (narrowed a) ≡ outcome program (narrowed b) = determines reads One program safe covers (narrowed a) (narrowed b) na nb (narrow_agrees reads a b agrees) in
    more ∙ sym first.1 ∙ same ∙ second.1 ∙ sym other
whole_spans reads Two program safe covers a b sa sb agrees = determines reads Two program safe covers a b sa sb agrees
whole_spans reads Three program safe covers a b sa sb agrees = determines reads Three program safe covers a b (third_span a sa) (third_span b sb) agrees
