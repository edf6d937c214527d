-- Spans of characters that are joined, and characters of spans that are parted.
use Rattle.std.proofs.Common.{◌≡◌, ◌≢◌, ℕ, zero, suc, ◌+◌, ◌-◌, ◌<◌, List, [], ◌∷◌, ◌++◌, Some, length, refl, sym, ap, subst, ◌∙◌, arith, append_assoc, length-append}
use Rattle.std.specs.List.{slice_get}
use Rattle.std.proofs.lemmas.Option.{same_Some, none-some, get_or_from_slice_get}
use Rattle.std.proofs.lemmas.List.{append-nil}
use Rattle.std.proofs.lemmas.List.Elements.{All-head, All-contains}
use Rattle.span_flatten.specs.Spans.{Shown, Span, IsRun, Cuts}
use Rattle.span_flatten.proofs.Cutting.{cuts_nil}
use Rattle.mark_anchors.proofs.Lists.{item_at}
use Rattle.version_laws.specs.Joints.{Apart, CharactersApart}
use Rattle.version_laws.proofs.Lists.{get_behind}

-- ---- the first character and the first span
first_of_run : (front rest : List Shown) (span : Span) → IsRun front rest span → (s : Shown) × (slice_get (front ++ rest) 0 ≡ Some s) × (s.format ≡ span.format)
first_of_run [] rest span run = absurd (let some = run.some in omega arith)
first_of_run (s ∷ front) rest span run = (s, refl, All-head (λ z. z.format ≡ span.format) s front run.alike)

pub first_character : (shown : List Shown) (span : Span) (spans : List Span) → Cuts shown (span ∷ spans) → (s : Shown) × (slice_get shown 0 ≡ Some s) × (s.format ≡ span.format)
first_character shown span spans c =
    let r = first_of_run c.0 c.1.0 span c.1.2 in
    (r.0, ap (λ l. slice_get l 0) c.1.1 ∙ r.1, r.2)

-- the first character's format is that of the first span
pub first_format : (shown : List Shown) (spans : List Span) → Cuts shown spans → (s : Shown) → slice_get shown 0 ≡ Some s → (x : Span) × (slice_get spans 0 ≡ Some x) × (s.format ≡ x.format)
first_format shown [] c s g = absurd (none-some s (sym (ap (λ l. slice_get l 0) c) ∙ g))
first_format shown (x ∷ xs) c s g =
    let r = first_character shown x xs c in
    let same : r.0 ≡ s = same_Some r.0 s (sym r.1 ∙ g) in
    (x, refl, ap (λ z. z.format) (sym same) ∙ r.2)

-- ---- joined
apart_later : (x : Span) (xs after : List Span) → Apart (x ∷ xs) after → Apart xs after
apart_later x xs after apart i y z last g h = apart (suc i) y z (omega arith) g h

still_longest : (x : Span) (xs after : List Span) (rest more : List Shown) → Cuts rest xs → Cuts more after → Apart (x ∷ xs) after → ((next : Shown) → slice_get rest 0 ≡ Some next → next.format ≢ x.format) → (next : Shown) → slice_get (rest ++ more) 0 ≡ Some next → next.format ≢ x.format
still_longest x xs after [] more c d apart old next g e =
    let none : xs ≡ [] = cuts_nil xs c in
    let first = first_format more after d next g in
    let one : zero + 1 ≡ length (x ∷ xs) = omega (arith, ap length none) in
    apart zero x first.0 one refl first.1 (sym e ∙ first.2)
still_longest x xs after (r ∷ rest) more c d apart old next g e = old next g e

-- Characters with their spans, and others behind them with theirs, of another format where they meet: together they have all the spans.
pub cuts_append : (first second : List Shown) (before after : List Span) → Cuts first before → Cuts second after → Apart before after → Cuts (first ++ second) (before ++ after)
cuts_append first second [] after c d apart = subst (λ l. Cuts (l ++ second) after) (sym c) d
cuts_append first second (x ∷ xs) after c d apart =
    let run : IsRun c.0 (c.1.0 ++ second) x = record {
      some = c.1.2.some;
      alike = c.1.2.alike;
      longest = still_longest x xs after c.1.0 second c.1.3 d apart c.1.2.longest;
      spelt = c.1.2.spelt;
    } in
    (c.0, (c.1.0 ++ second, ap (λ l. l ++ second) c.1.1 ∙ append_assoc c.0 c.1.0 second, run, cuts_append c.1.0 second xs after c.1.3 d (apart_later x xs after apart)))

-- ---- a window
-- Other characters in the window, with their spans: before it and behind it the spans stay, where formats differ at both of its sides.
pub cut : (front middle back : List Shown) (before within after : List Span) → Cuts front before → Cuts middle within → Cuts back after → Apart before (within ++ after) → Apart within after → Cuts (front ++ (middle ++ back)) (before ++ (within ++ after))
cut front middle back before within after c d e left right =
    cuts_append front (middle ++ back) before (within ++ after) c (cuts_append middle back within after d e right) left

-- ---- the same by characters
-- the last character is of the last span's format
pub last_character : (shown : List Shown) (spans : List Span) → Cuts shown spans → (i : ℕ) (x : Span) → i + 1 ≡ length spans → slice_get spans i ≡ Some x → (j : ℕ) × ((s : Shown) × (j + 1 ≡ length shown) × (slice_get shown j ≡ Some s) × (s.format ≡ x.format))
last_character shown [] c i x last g = absurd (none-some x g)
last_character shown (w ∷ []) c zero x last g =
    let run = c.1.2 in
    let some : 0 < length c.0 = run.some in
    let k : ℕ = length c.0 - 1 in
    let within : k < length c.0 = omega arith in
    let at = item_at c.0 k within in
    let all : shown ≡ c.0 = c.1.1 ∙ ap (λ l. c.0 ++ l) c.1.3 ∙ append-nil c.0 in
    let one : w ≡ x = same_Some w x g in
    let alike : at.0.format ≡ w.format = All-contains (λ s. s.format ≡ w.format) c.0 at.0 run.alike (k, within, get_or_from_slice_get c.0 k at.0 at.0 at.1) in
    let end : k + 1 ≡ length shown = omega (arith, ap length all) in
    (k, (at.0, end, ap (λ l. slice_get l k) all ∙ at.1, alike ∙ ap (λ s. s.format) one))
last_character shown (w ∷ []) c (suc i) x last g = absurd (none-some x g)
last_character shown (w ∷ y ∷ ys) c zero x last g = absurd (omega arith)
last_character shown (w ∷ y ∷ ys) c (suc i) x last g =
    let r = last_character c.1.0 (y ∷ ys) c.1.3 i x (omega arith) g in
    let end : r.0 + 1 ≡ length c.1.0 = r.1.1 in
    let whole : (length c.0 + r.0) + 1 ≡ length shown = omega (arith, ap length c.1.1, length-append c.0 c.1.0) in
    (length c.0 + r.0, (r.1.0, whole, ap (λ l. slice_get l (length c.0 + r.0)) c.1.1 ∙ get_behind c.0 c.1.0 r.0 ∙ r.1.2, r.1.3))

-- Spans are apart where their characters are.
pub apart_from_characters : (first second : List Shown) (before after : List Span) → Cuts first before → Cuts second after → CharactersApart first second → Apart before after
apart_from_characters first second before [] c d apart i x y last g h e = absurd (none-some y h)
apart_from_characters first second before (a ∷ after) c d apart i x y last g h e =
    let r = last_character first before c i x last g in
    let f = first_character second a after d in
    apart r.0 r.1.0 f.0 r.1.1 r.1.2 f.1 (r.1.3 ∙ e ∙ ap (λ s. s.format) (sym (same_Some a y h)) ∙ sym f.2)

-- Characters are apart where their spans are.
pub characters_from_apart : (first second : List Shown) (before after : List Span) → Cuts first before → Cuts second after → Apart before after → CharactersApart first second
characters_from_apart first second [] after c d apart j s t last g h e = absurd (none-some s (sym (ap (λ l. slice_get l j) c) ∙ g))
characters_from_apart first second (b ∷ before) after c d apart j s t last g h e =
    let k : ℕ = length before in
    let end : k + 1 ≡ length (b ∷ before) = omega arith in
    let at = item_at (b ∷ before) k (omega arith) in
    let r = last_character first (b ∷ before) c k at.0 end at.1 in
    let r_end : r.0 + 1 ≡ length first = r.1.1 in
    let same : r.0 ≡ j = omega arith in
    let one : r.1.0 ≡ s = same_Some r.1.0 s (sym r.1.2 ∙ ap (slice_get first) same ∙ g) in
    let f = first_format second after d t h in
    apart k at.0 f.0 end at.1 f.1 (sym r.1.3 ∙ ap (λ z. z.format) one ∙ e ∙ f.2)
