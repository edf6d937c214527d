-- Texts that grow by one piece after another.
use Rattle.std.proofs.Common.{◌≡◌, ℕ, zero, suc, ◌+◌, ◌<◌, ◌≤◌, nat_le, true, false, List, [], ◌∷◌, ◌++◌, map, drop, length, get_or, Option, None, refl, sym, ap, ◌∙◌, subst, append_assoc, arith, add-one, codes, decimal}
use Rattle.std.specs.List.{flat_map, slice_get}
use Rattle.std.proofs.Math.Numerals.{suc-eq-add-one}
use Rattle.std.proofs.lemmas.Bool.Decides.{nat_tests}
use Rattle.std.proofs.lemmas.List.{append-nil, drop_more, length-map, get_or-map}
use Rattle.span_context.specs.declared.profile.Profile.{Profile}
use Rattle.semantics.specs.Step.{Program}
use Rattle.known_ways.specs.declared.way.KnownWay.{KnownWay}
use Rattle.known_ways.specs.Told.{ways_seen}
use Rattle.program_listing.specs.Listing.{line_at, instructions_text, numbers_behind, sources_text, listed_at, listing_text, earlier_by, lines_above}

-- the next one of those that are still to be told
pub told_next : {X Y : Type 0} (see : X → Y) (f : Y → List ℕ) (xs : List X) (x : X) (i : ℕ) (start old new : List ℕ)
    → i < length xs → x ≡ get_or xs i x → new ≡ old ++ f (see x) → old ++ flat_map f (drop i (map see xs)) ≡ start → new ++ flat_map f (drop (i + 1) (map see xs)) ≡ start
told_next see f xs x i start old new less at grown before =
    let rest : List ℕ = flat_map f (drop (i + 1) (map see xs)) in
    let same : get_or (map see xs) i (see x) ≡ see x = get_or-map see xs i x (see x) less ∙ ap see (sym at) in
    let more : drop i (map see xs) ≡ see x ∷ drop (i + 1) (map see xs) =
    drop_more (map see xs) i (see x) (omega (arith, less, length-map xs see)) ∙ ap (λ y. y ∷ drop (i + 1) (map see xs)) same in
    ap (λ (l : List ℕ). l ++ rest) grown
    ∙ append_assoc old (f (see x)) rest
    ∙ ap (λ ys. old ++ flat_map f ys) (sym more)
    ∙ before

-- from where many ways lead
pub sources_whole : (ways : List KnownWay) (first : KnownWay) (old begun numbered whole : List ℕ) → 0 < length ways → first ≡ get_or ways 0 first
    → begun ≡ old ++ (codes "  from slots " ++ decimal first.from) → numbered ≡ begun ++ numbers_behind (ways_seen (drop 1 ways)) → whole ≡ numbered ++ codes "\n" → whole ≡ old ++ sources_text (ways_seen ways)
sources_whole [] first old begun numbered whole some at a b c = absurd (omega (arith, some))
sources_whole (way ∷ more) first old begun numbered whole some at a b c =
    let one : List ℕ = codes "  from slots " in
    let two : List ℕ = decimal way.from in
    let three : List ℕ = numbers_behind (ways_seen more) in
    let same : begun ≡ old ++ (one ++ two) = a ∙ ap (λ (w : KnownWay). old ++ (codes "  from slots " ++ decimal w.from)) at in
    c ∙ ap (λ (l : List ℕ). l ++ codes "\n") (b ∙ ap (λ (l : List ℕ). l ++ three) same)
    ∙ append_assoc (old ++ (one ++ two)) three (codes "\n")
    ∙ append_assoc old (one ++ two) (three ++ codes "\n")
    ∙ ap (λ (l : List ℕ). old ++ l) (sym (append_assoc (one ++ two) three (codes "\n")))

-- ---- instructions from one slot on
pub none_before : (program : Program) (first slot : ℕ) → slot ≤ first → instructions_text program first slot ≡ []
unfolding instructions_text
none_before program first zero less = refl
none_before program first (suc slot) less =
    let no : nat_le first slot ≡ false = grind (arith, nat_tests, less) in
    rw no (append-nil (instructions_text program first slot) ∙ none_before program first slot (omega (arith, less)))

pub one_more : (program : Program) (first slot : ℕ) → first ≤ slot → instructions_text program first (slot + 1) ≡ instructions_text program first slot ++ line_at slot (slice_get program slot)
unfolding instructions_text
one_more program first slot less =
    let yes : nat_le first slot ≡ true = grind (arith, nat_tests, less) in
    rw add-one (rw yes refl)

-- ---- the listing
pub listing_more : (profile : Profile) (program : Program) (slot : ℕ) (start old new : List ℕ) → old ≡ start ++ listing_text profile program slot → new ≡ old ++ listed_at profile program slot (slice_get program slot) → new ≡ start ++ listing_text profile program (slot + 1)
unfolding listing_text
listing_more profile program slot start old new was is =
    let more : List ℕ = listed_at profile program slot (slice_get program slot) in
    subst (λ (n : ℕ). new ≡ start ++ listing_text profile program n) (suc-eq-add-one slot)
    (is ∙ ap (λ (l : List ℕ). l ++ more) was ∙ append_assoc start (listing_text profile program slot) more)

pub listing_begins : (profile : Profile) (program : Program) (start : List ℕ) → start ≡ start ++ listing_text profile program 0
unfolding listing_text
listing_begins profile program start = sym (append-nil start)

pub above_more : (profile : Profile) (program : Program) (slot : ℕ) (above next : Option (List (List ℕ))) → above ≡ lines_above profile program slot → next ≡ earlier_by profile program slot (slice_get program slot) above → next ≡ lines_above profile program (slot + 1)
unfolding lines_above
above_more profile program slot above next was is =
    subst (λ (n : ℕ). next ≡ lines_above profile program n) (suc-eq-add-one slot)
    (is ∙ ap (earlier_by profile program slot (slice_get program slot)) was)

pub none_above : (profile : Profile) (program : Program) → None ≡ lines_above profile program 0
unfolding lines_above
none_above profile program = refl
