-- Maximal spans and their characters.
use Rattle.std.proofs.Common.{◌≡◌, ℕ, zero, suc, ◌<◌, ◌≤◌, true, List, [], ◌∷◌, ◌++◌, Some, length, map, refl, sym, ap, ◌∙◌, arith, encode_utf8_all, All, IsUtf8}
use Rattle.std.specs.List.{slice_get}
use Rattle.std.specs.Str.{chars}
use Rattle.std.proofs.Math.Utf8.{scalars}
use Rattle.std.proofs.lemmas.Option.{same_Some, none-some}
use Rattle.std.proofs.lemmas.List.{map-append, length-map}
use Rattle.std.proofs.lemmas.List.Elements.{All-cons, All-head, All-tail}
use Rattle.std.proofs.lemmas.Str.{encodes-chars, chars-encodes, length-le-encodes}
use Rattle.mark_anchors.specs.Formatting.{Format}
use Rattle.span_flatten.specs.Spans.{Shown, Span, IsRun, Cuts}
use Rattle.version_laws.specs.Joints.{Apart}
use Rattle.version_laws.proofs.Lists.{map_at}
use Rattle.version_laws.proofs.Counted.{scalars_left, scalars_right}
use Rattle.version_laws.proofs.CutJoined.{first_character}
use Rattle.version_glyphs.specs.Glyphs.{Glyph, with_format, glyphs_of, glyphs, glyph_of, IsSpan, AreMaximal}

-- ---- maximal spans are the runs of their characters
map_parted : {X Y : Type 0} (f : X → Y) (xs : List X) (ys zs : List Y) → map f xs ≡ ys ++ zs → (a : List X) × ((b : List X) × (xs ≡ a ++ b) × (map f a ≡ ys) × (map f b ≡ zs))
map_parted f xs [] zs e = ([], (xs, refl, refl, e))
map_parted f [] (y ∷ ys) zs e = absurd cc
map_parted f (x ∷ xs) (y ∷ ys) zs e =
    let tails : map f xs ≡ ys ++ zs = cc in
    let heads : f x ≡ y = cc in
    let r = map_parted f xs ys zs tails in
    let whole : x ∷ xs ≡ x ∷ (r.0 ++ r.1.0) = ap (λ l. x ∷ l) r.1.1 in
    let first : map f r.0 ≡ ys = r.1.2 in
    (x ∷ r.0, (r.1.0, whole, cc, r.1.3))

alike_front : (f : Format) (front : List Shown) (cs : List ℕ) → map glyph_of front ≡ with_format f cs → All (λ s. s.format ≡ f) front × (map (λ s. s.character) front ≡ cs)
alike_front f [] [] e = (λ k d h. absurd (omega arith), refl)
alike_front f [] (c ∷ cs) e = absurd cc
alike_front f (s ∷ front) [] e = absurd cc
alike_front f (s ∷ front) (c ∷ cs) e =
    let one : Glyph = record { character = c; format = f } in
    let heads : glyph_of s ≡ one = cc in
    let tails : map glyph_of front ≡ with_format f cs = cc in
    let r = alike_front f front cs tails in
    let same : s.character ≡ c = ap (λ (g : Glyph). g.character) heads in
    let rest : map (λ s. s.character) front ≡ cs = r.1 in
    (All-cons (λ s. s.format ≡ f) s front (ap (λ (g : Glyph). g.format) heads) r.0, cc)

pub some_characters : (x : Span) → IsSpan x → 0 < length (chars x.text)
some_characters x is = counted (chars x.text) (encodes-chars x.text is.utf8)
  where
    counted : (cs : List ℕ) → encode_utf8_all cs ≡ x.text → 0 < length cs
    counted [] e = absurd (let some = is.some in omega (arith, ap length e))
    counted (c ∷ cs) e = omega arith

first_with : (f : Format) (cs : List ℕ) (rest : List Glyph) → 0 < length cs → (g : Glyph) × (slice_get (with_format f cs ++ rest) 0 ≡ Some g) × (g.format ≡ f)
first_with f [] rest some = absurd (omega arith)
first_with f (c ∷ cs) rest some = (record { character = c; format = f }, refl, refl)

-- the first character's format is that of the first span
longest_run : (x : Span) (xs : List Span) (rest : List Shown) → AreMaximal xs → Apart (x ∷ []) xs → map glyph_of rest ≡ glyphs xs → (next : Shown) → slice_get rest 0 ≡ Some next → next.format ≡ x.format → ⊥
longest_run x [] rest m apart e next g same = absurd (none-some (glyph_of next) (sym (ap (λ l. slice_get l 0) e) ∙ map_at glyph_of rest 0 next g))
longest_run x (y ∷ ys) rest m apart e next g same =
    let r = first_with y.format (chars y.text) (glyphs ys) (some_characters y m.0) in
    let one : r.0 ≡ glyph_of next = same_Some r.0 (glyph_of next) (sym r.1 ∙ sym (ap (λ l. slice_get l 0) e) ∙ map_at glyph_of rest 0 next g) in
    apart 0 x y refl refl refl (sym same ∙ ap (λ (z : Glyph). z.format) (sym one) ∙ r.2)

pub cuts_from_maximal : (spans : List Span) (shown : List Shown) → AreMaximal spans → glyphs spans ≡ map glyph_of shown → Cuts shown spans
cuts_from_maximal [] [] m e = refl
cuts_from_maximal [] (s ∷ shown) m e = absurd cc
cuts_from_maximal (x ∷ xs) shown m e =
    let r = map_parted glyph_of shown (glyphs_of x) (glyphs xs) (sym e) in
    let front : List Shown = r.0 in
    let rest : List Shown = r.1.0 in
    let alike = alike_front x.format front (chars x.text) r.1.2 in
    let size : length front ≡ length (chars x.text) = sym (length-map front (λ s. s.character)) ∙ ap length alike.1 in
    let some : 0 < length (chars x.text) = some_characters x m.0 in
    let run : IsRun front rest x = record {
      some = omega arith;
      alike = alike.0;
      longest = longest_run x xs rest m.2 m.1 r.1.3;
      spelt = sym (encodes-chars x.text m.0.utf8) ∙ ap encode_utf8_all (sym alike.1);
    } in
    (front, (rest, r.1.1, run, cuts_from_maximal xs rest m.2 (sym r.1.3)))

same_glyphs : (f : Format) (front : List Shown) → All (λ s. s.format ≡ f) front → with_format f (map (λ s. s.character) front) ≡ map glyph_of front
same_glyphs f [] alike = refl
same_glyphs f (s ∷ front) alike =
    let same : s.format ≡ f = All-head (λ s. s.format ≡ f) s front alike in
    let rest = same_glyphs f front (All-tail (λ s. s.format ≡ f) s front alike) in
    let make : Format → Glyph = λ z. record { character = s.character; format = z } in
    ap (λ z. make z ∷ with_format f (map (λ s. s.character) front)) (sym same) ∙ ap (λ l. glyph_of s ∷ l) rest

apart_run : (front rest : List Shown) (x : Span) (xs : List Span) → IsRun front rest x → Cuts rest xs → Apart (x ∷ []) xs
apart_run front rest x [] run c i a b last g h e = absurd (none-some b h)
apart_run front rest x (y ∷ ys) run c zero a b last g h e =
    let r = first_character rest y ys c in
    run.longest r.0 r.1 (r.2 ∙ ap (λ (z : Span). z.format) (same_Some y b h) ∙ sym e ∙ ap (λ (z : Span). z.format) (sym (same_Some x a g)))
apart_run front rest x (y ∷ ys) run c (suc i) a b last g h e = absurd (none-some a g)

pub maximal_from_cuts : (spans : List Span) (shown : List Shown) → All (λ s. IsUtf8 s.text) spans → scalars (map (λ s. s.character) shown) ≡ true → Cuts shown spans → AreMaximal spans × (glyphs spans ≡ map glyph_of shown)
maximal_from_cuts [] shown texts ok c = (tt, sym (ap (λ l. map glyph_of l) c))
maximal_from_cuts (x ∷ xs) shown texts ok c =
    let front : List Shown = c.0 in
    let rest : List Shown = c.1.0 in
    let run : IsRun front rest x = c.1.2 in
    let good : scalars (map (λ s. s.character) front ++ map (λ s. s.character) rest) ≡ true =
    ap scalars (sym (map-append (λ s. s.character) front rest) ∙ ap (λ (l : List Shown). map (λ s. s.character) l) (sym c.1.1)) ∙ ok in
    let r = maximal_from_cuts xs rest (All-tail (λ s. IsUtf8 s.text) x xs texts) (scalars_right (map (λ s. s.character) front) (map (λ s. s.character) rest) good) c.1.3 in
    let spelt : chars x.text ≡ map (λ s. s.character) front = ap chars run.spelt ∙ chars-encodes (map (λ s. s.character) front) (scalars_left (map (λ s. s.character) front) (map (λ s. s.character) rest) good) in
    let few : length (map (λ s. s.character) front) ≤ length (encode_utf8_all (map (λ s. s.character) front)) = length-le-encodes (map (λ s. s.character) front) in
    let some : 0 < length front = run.some in
    let is : IsSpan x = record {
      some = omega (arith, few, length-map front (λ s. s.character), ap length run.spelt);
      utf8 = All-head (λ s. IsUtf8 s.text) x xs texts;
    } in
    let here : glyphs_of x ≡ map glyph_of front = ap (with_format x.format) spelt ∙ same_glyphs x.format front run.alike in (
      (is, apart_run front rest x xs run c.1.3, r.0),
      ap (λ l. l ++ glyphs xs) here ∙ ap (λ l. map glyph_of front ++ l) r.1 ∙ sym (map-append glyph_of front rest) ∙ ap (λ l. map glyph_of l) (sym c.1.1),
    )

pub length-glyphs_of : (x : Span) → length (glyphs_of x) ≡ length (chars x.text)
length-glyphs_of x = length-map (chars x.text) (λ c. let g : Glyph = record { character = c; format = x.format } in g)
