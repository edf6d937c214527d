-- Cutting characters into runs: one character more, and that there is only one way.
use Rattle.std.proofs.Common.{◌≡◌, ◌≢◌, ◌<◌, List, [], ◌∷◌, ◌++◌, Some, length, map, refl, sym, ap, subst, ◌∙◌, arith, append_assoc, length-append, encode_utf8_all, All}
use Rattle.std.specs.List.{slice_get}
use Rattle.std.proofs.lemmas.Option.{slice_get_within, get_or_from_slice_get}
use Rattle.std.proofs.lemmas.Option.{none-some}
use Rattle.std.proofs.lemmas.List.{append-nil, length_push, map-append}
use Rattle.std.proofs.lemmas.List.Elements.{All-append, All-contains, All-head, All-tail}
use Rattle.std.proofs.lemmas.Str.{encodes-append}
use Rattle.mark_anchors.specs.Formatting.{Format}
use Rattle.span_flatten.specs.Spans.{Shown, Span, IsRun, Cuts}
use Rattle.span_flatten.specs.Version.{IsPiece}

pub cuts_nil : (spans : List Span) → Cuts [] spans → spans ≡ []
cuts_nil [] c = refl
cuts_nil (x ∷ xs) c = absurd (let some = c.1.2.some in omega (arith, length-append c.0 c.1.0, ap length c.1.1))

first_of : (more : List Shown) (f : Format) (next : Shown) → All (λ s. s.format ≡ f) more → slice_get more 0 ≡ Some next → next.format ≡ f
first_of more f next alike g = All-contains (λ s. s.format ≡ f) more next alike (0, slice_get_within more 0 next g, get_or_from_slice_get more 0 next next g)

still_longest : (x : Span) (xs : List Span) (more : List Shown) (f : Format) (rest : List Shown) → All (λ s. s.format ≡ f) more → Cuts rest xs → ((next : Shown) → slice_get rest 0 ≡ Some next → next.format ≢ x.format) → (xs ≡ [] → x.format ≡ f → ⊥) → (next : Shown) → slice_get (rest ++ more) 0 ≡ Some next → next.format ≢ x.format
still_longest x xs more f [] alike c old other next g = λ e. other (cuts_nil xs c) (sym e ∙ first_of more f next alike g)
still_longest x xs more f (r ∷ rs) alike c old other next g = old next g

-- characters of another format than the last span's begin a span
pub cuts_fresh : (shown : List Shown) (spans : List Span) (more : List Shown) (span : Span) → Cuts shown spans → ((front : List Span) (last : Span) → spans ≡ front ++ last ∷ [] → last.format ≡ span.format → ⊥) → IsPiece more span → Cuts (shown ++ more) (spans ++ span ∷ [])
cuts_fresh shown [] more span c other piece =
    let run : IsRun more [] span = record {
      some = piece.some;
      alike = piece.alike;
      longest = λ next g. absurd (none-some next g);
      spelt = piece.spelt;
    } in
    (more, ([], ap (λ l. l ++ more) c ∙ sym (append-nil more), run, refl))
cuts_fresh shown (x ∷ xs) more span c other piece =
    let run : IsRun c.0 (c.1.0 ++ more) x = record {
      some = c.1.2.some;
      alike = c.1.2.alike;
      longest = still_longest x xs more span.format c.1.0 piece.alike c.1.3 c.1.2.longest (λ e h. other [] x (ap (λ z. x ∷ z) e) h);
      spelt = c.1.2.spelt;
    } in
    (c.0, (c.1.0 ++ more, ap (λ l. l ++ more) c.1.1 ∙ append_assoc c.0 c.1.0 more, run, cuts_fresh c.1.0 xs more span c.1.3 (λ front last e. other (x ∷ front) last (ap (λ z. x ∷ z) e)) piece))

-- characters of the last span's format lengthen it
pub cuts_longer : (shown : List Shown) (spans : List Span) (last longer : Span) (more : List Shown) (piece : Span) → Cuts shown (spans ++ last ∷ []) → IsPiece more piece → last.format ≡ piece.format → longer.format ≡ last.format → longer.text ≡ last.text ++ piece.text → Cuts (shown ++ more) (spans ++ longer ∷ [])
cuts_longer shown [] last longer more piece c is same kept text =
    let front : List Shown = c.0 in
    let all : shown ≡ front = c.1.1 ∙ ap (λ r. front ++ r) c.1.3 ∙ append-nil front in
    let alike : All (λ z. z.format ≡ longer.format) front = λ k d h. c.1.2.alike k d h ∙ sym kept in
    let also : All (λ z. z.format ≡ longer.format) more = λ k d h. is.alike k d h ∙ sym same ∙ sym kept in
    let some : 0 < length more = is.some in
    let run : IsRun (front ++ more) [] longer = record {
      some = omega (arith, length-append front more);
      alike = All-append (λ z. z.format ≡ longer.format) front more alike also;
      longest = λ next g. absurd (none-some next g);
      spelt =
          text ∙ ap (λ t. t ++ piece.text) c.1.2.spelt
          ∙ ap (λ t. encode_utf8_all (map (λ z. z.character) front) ++ t) is.spelt
          ∙ sym (encodes-append (map (λ z. z.character) front) (map (λ z. z.character) more))
          ∙ ap encode_utf8_all (sym (map-append (λ z. z.character) front more));
    } in
    (front ++ more, ([], ap (λ l. l ++ more) all ∙ sym (append-nil (front ++ more)), run, refl))
cuts_longer shown (x ∷ xs) last longer more piece c is same kept text =
    let run : IsRun c.0 (c.1.0 ++ more) x = record {
      some = c.1.2.some;
      alike = c.1.2.alike;
      longest = still_longest x (xs ++ last ∷ []) more piece.format c.1.0 is.alike c.1.3 c.1.2.longest (λ e h. absurd (omega (arith, length_push xs last, ap length e)));
      spelt = c.1.2.spelt;
    } in
    (c.0, (c.1.0 ++ more, ap (λ l. l ++ more) c.1.1 ∙ append_assoc c.0 c.1.0 more, run, cuts_longer c.1.0 xs last longer more piece c.1.3 is same kept text))

-- two fronts of one format, each followed by another, are one
one_front : (format : Format) (a b r q : List Shown) → a ++ r ≡ b ++ q → All (λ s. s.format ≡ format) a → All (λ s. s.format ≡ format) b → ((next : Shown) → slice_get r 0 ≡ Some next → next.format ≢ format) → ((next : Shown) → slice_get q 0 ≡ Some next → next.format ≢ format) → (a ≡ b) × (r ≡ q)
one_front format [] [] r q e alike alike' longest longest' = (refl, e)
one_front format [] (y ∷ ys) r q e alike alike' longest longest' = absurd (longest y (ap (λ l. slice_get l 0) e) (All-head (λ s. s.format ≡ format) y ys alike'))
one_front format (x ∷ xs) [] r q e alike alike' longest longest' = absurd (longest' x (sym (ap (λ l. slice_get l 0) e)) (All-head (λ s. s.format ≡ format) x xs alike))
one_front format (x ∷ xs) (y ∷ ys) r q e alike alike' longest longest' =
    let tails : xs ++ r ≡ ys ++ q = cc in
    let heads : x ≡ y = cc in
    let rest = one_front format xs ys r q tails (All-tail (λ s. s.format ≡ format) x xs alike) (All-tail (λ s. s.format ≡ format) y ys alike') longest longest' in
    (let same : xs ≡ ys = rest.0 in cc, rest.1)

first_format : (a b r q : List Shown) (f g : Format) → a ++ r ≡ b ++ q → 0 < length a → 0 < length b → All (λ s. s.format ≡ f) a → All (λ s. s.format ≡ g) b → f ≡ g
first_format [] b r q f g e some some' alike alike' = absurd (omega arith)
first_format (x ∷ xs) [] r q f g e some some' alike alike' = absurd (omega arith)
first_format (x ∷ xs) (y ∷ ys) r q f g e some some' alike alike' =
    let heads : x ≡ y = cc in
    sym (All-head (λ s. s.format ≡ f) x xs alike) ∙ ap (λ s. s.format) heads ∙ All-head (λ s. s.format ≡ g) y ys alike'

same_spans : (a b : Span) → a.text ≡ b.text → a.format ≡ b.format → a ≡ b
same_spans a b text format = λ i. record { text = text i; format = format i }

-- there is one way to cut
pub one_cut : (shown : List Shown) (a b : List Span) → Cuts shown a → Cuts shown b → a ≡ b
one_cut shown [] b c d = sym (cuts_nil b (subst (λ l. Cuts l b) c d))
one_cut shown (x ∷ xs) [] c d = cuts_nil (x ∷ xs) (subst (λ l. Cuts l (x ∷ xs)) d c)
one_cut shown (x ∷ xs) (y ∷ ys) c d =
    let run : IsRun c.0 c.1.0 x = c.1.2 in
    let run' : IsRun d.0 d.1.0 y = d.1.2 in
    let e : c.0 ++ c.1.0 ≡ d.0 ++ d.1.0 = sym c.1.1 ∙ d.1.1 in
    let format : x.format ≡ y.format = first_format c.0 d.0 c.1.0 d.1.0 x.format y.format e run.some run'.some run.alike run'.alike in
    let both =
    one_front y.format c.0 d.0 c.1.0 d.1.0 e (λ k s h. run.alike k s h ∙ format) run'.alike
    (λ next g h. run.longest next g (h ∙ sym format)) run'.longest in
    let head : x ≡ y = same_spans x y (run.spelt ∙ ap (λ l. encode_utf8_all (map (λ s. s.character) l)) both.0 ∙ sym run'.spelt) format in
    let tail : xs ≡ ys = one_cut d.1.0 xs ys (subst (λ l. Cuts l xs) both.1 c.1.3) d.1.3 in
    cc
