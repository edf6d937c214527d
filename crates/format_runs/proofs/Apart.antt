-- Where formats meet, and maximal runs.
use Rattle.std.proofs.Common.{◌≡◌, ℕ, zero, suc, ◌+◌, ◌-◌, ◌<◌, ◌≤◌, List, [], ◌∷◌, ◌++◌, Some, length, take, drop, replicate, refl, sym, ap, subst, ◌∙◌, arith, length-append, append_assoc}
use Rattle.std.specs.List.{slice_get}
use Rattle.std.proofs.lemmas.Option.{none-some, same_Some, slice_get-get_or}
use Rattle.std.proofs.lemmas.List.{append-nil, get_or-replicate, length-drop, length-replicate, length-take-le, take-append-drop}
use Rattle.std.proofs.lemmas.List.Sums.{sum_by-cons}
use Rattle.mark_anchors.specs.Formatting.{Format}
use Rattle.format_runs.specs.Runs.{AreAlike, AreApart, AreMaximal, IsApart, IsLast, Run, character_count, formats_of}
use Rattle.format_runs.proofs.Formats.{formats_append, formats_push, longer}

pub get_behind : (front rest : List Format) (j : ℕ) → slice_get (front ++ rest) (length front + j) ≡ slice_get rest j
get_behind [] rest j = let same : zero + j ≡ j = omega arith in ap (slice_get rest) same
get_behind (x ∷ front) rest j =
    let same : length (x ∷ front) + j ≡ suc (length front + j) = omega arith in
    ap (slice_get (x ∷ (front ++ rest))) same ∙ get_behind front rest j

-- ---- lists of formats that are apart
-- what stands before the last format doesn't matter
pub apart_behind : (xs ys after : List Format) → 0 < length ys → AreApart ys after → AreApart (xs ++ ys) after
apart_behind xs ys after some apart i x y last g h =
    let j : ℕ = i - length xs in
    let at : i ≡ length xs + j = omega (arith, length-append xs ys) in
    apart j x y (omega (arith, length-append xs ys)) (sym (get_behind xs ys j) ∙ ap (slice_get (xs ++ ys)) (sym at) ∙ g) h

pub apart_back : (xs ys after : List Format) → AreApart (xs ++ ys) after → AreApart ys after
apart_back xs ys after apart i x y last g h = apart (length xs + i) x y (omega (arith, last, length-append xs ys)) (get_behind xs ys i ∙ g) h

pub apart_drop : (n : ℕ) (xs after : List Format) → n < length xs → AreApart xs after → AreApart (drop n xs) after
apart_drop n xs after less apart i x y last g h =
    let size : length (take n xs) ≡ n = length-take-le n xs (omega arith) in
    let at : slice_get xs (length (take n xs) + i) ≡ Some x = ap (λ l. slice_get l (length (take n xs) + i)) (sym (take-append-drop n xs)) ∙ get_behind (take n xs) (drop n xs) i ∙ g in
    apart (length (take n xs) + i) x y (omega (arith, size, length-drop n xs)) at h

-- what stands behind the first format doesn't matter
pub apart_longer : (before after more : List Format) → 0 < length after → AreApart before after → AreApart before (after ++ more)
apart_longer before [] more some apart = absurd (omega arith)
apart_longer before (f ∷ after) more some apart = apart

pub apart_take : (before xs : List Format) (n : ℕ) → 0 < n → AreApart before xs → AreApart before (take n xs)
apart_take before xs zero some apart = absurd (omega arith)
apart_take before [] (suc n) some apart = λ i x y last g h. absurd (none-some y h)
apart_take before (z ∷ xs) (suc n) some apart = apart

pub apart_from_none : (after : List Format) → AreApart [] after
apart_from_none after i x y last g h = absurd (none-some x g)

pub apart_none : (before : List Format) → AreApart before []
apart_none before i x y last g h = absurd (none-some y h)

-- ---- the characters of a run
in_replicate : (f : Format) (n i : ℕ) (g : Format) → slice_get (replicate n f) i ≡ Some g → f ≡ g
in_replicate f zero i g e = absurd (none-some g e)
in_replicate f (suc n) zero g e = same_Some f g e
in_replicate f (suc n) (suc i) g e = in_replicate f n i g e

pub head_at : (f : Format) (n : ℕ) (rest : List Format) → 0 < n → slice_get (replicate n f ++ rest) 0 ≡ Some f
head_at f zero rest some = absurd (omega arith)
head_at f (suc n) rest some = refl

last_at : (f : Format) (n i : ℕ) → i + 1 ≡ n → slice_get (replicate n f) i ≡ Some f
last_at f n i e = slice_get-get_or (replicate n f) i f (omega (arith, length-replicate n f)) ∙ ap (λ g. Some g) (get_or-replicate n i f f (omega arith))

-- the first character has the first run's format
first_at : (runs : List Run) (r : Run) → AreMaximal runs → slice_get runs 0 ≡ Some r → slice_get (formats_of runs) 0 ≡ Some r.format
first_at [] r m g = absurd (none-some r g)
first_at (s ∷ runs) r m g = head_at s.format s.characters (formats_of runs) m.0 ∙ ap (λ (t : Run). Some t.format) (same_Some s r g)

first_of : (runs : List Run) (f : Format) → AreMaximal runs → slice_get (formats_of runs) 0 ≡ Some f → (r : Run) × (slice_get runs 0 ≡ Some r) × (r.format ≡ f)
first_of [] f m g = absurd (none-some f g)
first_of (r ∷ runs) f m g = (r, refl, same_Some r.format f (sym (head_at r.format r.characters (formats_of runs) m.0) ∙ g))

-- a run is apart from what its characters are apart from
apart_from_run : (r : Run) (runs : List Run) → 0 < r.characters → AreMaximal runs → AreApart (replicate r.characters r.format) (formats_of runs) → IsApart r.format runs
apart_from_run r runs some m apart next g =
    let i : ℕ = r.characters - 1 in
    let last : i + 1 ≡ r.characters = omega arith in
    apart i r.format next.format (last ∙ sym (length-replicate r.characters r.format)) (last_at r.format r.characters i last) (first_at runs next m g)

run_apart : (r : Run) (runs : List Run) → AreMaximal runs → IsApart r.format runs → AreApart (replicate r.characters r.format) (formats_of runs)
run_apart r runs m apart i x y last g h =
    let first = first_of runs y m h in
    λ same. apart first.0 first.1 (in_replicate r.format r.characters i x g ∙ same ∙ sym first.2)

pub some_formats : (r : Run) (runs : List Run) → 0 < r.characters → 0 < length (formats_of (r ∷ runs))
some_formats r runs some = omega (arith, length-append (replicate r.characters r.format) (formats_of runs), length-replicate r.characters r.format)

-- the list of a run's format alone
pub apart_first : (before : List Format) (r : Run) (runs : List Run) → 0 < r.characters → AreApart before (formats_of (r ∷ runs)) → AreApart before (r.format ∷ [])
apart_first before r runs some apart i x y last g h = apart i x y last g (head_at r.format r.characters (formats_of runs) some ∙ h)

pub first_apart : (before : List Format) (r : Run) → 0 < r.characters → AreApart before (r.format ∷ []) → AreApart before (formats_of (r ∷ []))
first_apart before r some apart i x y last g h = apart i x y last g (sym (head_at r.format r.characters [] some) ∙ h)

-- ---- maximal runs
pub maximal_front : (xs ys : List Run) → AreMaximal (xs ++ ys) → AreMaximal xs
maximal_front [] ys m = tt
maximal_front (x ∷ []) ys m = (m.0, (λ next g. absurd (none-some next g)), tt)
maximal_front (x ∷ w ∷ xs) ys m = (m.0, m.1, maximal_front (w ∷ xs) ys m.2)

pub maximal_back : (xs ys : List Run) → AreMaximal (xs ++ ys) → AreMaximal ys
maximal_back [] ys m = m
maximal_back (x ∷ xs) ys m = maximal_back xs ys m.2

pub apart_parts : (xs ys : List Run) → AreMaximal (xs ++ ys) → AreApart (formats_of xs) (formats_of ys)
apart_parts [] ys m = apart_from_none (formats_of ys)
apart_parts (x ∷ []) ys m =
    subst (λ (l : List Format). AreApart l (formats_of ys)) (sym (append-nil (replicate x.characters x.format))) (run_apart x ys m.2 m.1)
apart_parts (x ∷ w ∷ xs) ys m =
    apart_behind (replicate x.characters x.format) (formats_of (w ∷ xs)) (formats_of ys) (some_formats w xs m.2.0) (apart_parts (w ∷ xs) ys m.2)

pub maximal_joined : (xs ys : List Run) → AreMaximal xs → AreMaximal ys → AreApart (formats_of xs) (formats_of ys) → AreMaximal (xs ++ ys)
maximal_joined [] ys m n apart = n
maximal_joined (x ∷ []) ys m n apart =
    (m.0, apart_from_run x ys m.0 n (subst (λ (l : List Format). AreApart l (formats_of ys)) (append-nil (replicate x.characters x.format)) apart), n)
maximal_joined (x ∷ w ∷ xs) ys m n apart =
    (m.0, m.1, maximal_joined (w ∷ xs) ys m.2 n (apart_back (replicate x.characters x.format) (formats_of (w ∷ xs)) (formats_of ys) apart))

pub maximal_one : (r : Run) → 0 < r.characters → AreMaximal (r ∷ [])
maximal_one r some = (some, (λ next g. absurd (none-some next g)), tt)

-- a run of another format behind the last one
pub maximal_push : (runs : List Run) (r : Run) → AreMaximal runs → 0 < r.characters → AreApart (formats_of runs) (r.format ∷ []) → AreMaximal (runs ++ r ∷ [])
maximal_push runs r m some apart = maximal_joined runs (r ∷ []) m (maximal_one r some) (first_apart (formats_of runs) r some apart)

-- the last format is that of the last run
pub last_format : (front : List Run) (last : Run) (f : Format) → 0 < last.characters → IsLast (formats_of (front ++ last ∷ [])) f → last.format ≡ f
last_format front last f some is =
    let n : ℕ = last.characters in
    let before : List Format = formats_of front in
    let own : List Format = replicate n last.format in
    let whole : List Format = formats_of (front ++ last ∷ []) in
    let parts : whole ≡ before ++ own = formats_push front last in
    let at : length whole - 1 ≡ length before + (n - 1) = omega (arith, some, ap length parts, length-append before own, length-replicate n last.format) in
    in_replicate last.format n (n - 1) f
    (sym (get_behind before own (n - 1)) ∙ ap (slice_get (before ++ own)) (sym at) ∙ ap (λ l. slice_get l (length whole - 1)) (sym parts) ∙ is)

-- a last run that is lengthened stays apart from the one before it
pub maximal_longer : (front : List Run) (last : Run) (n : ℕ) → AreMaximal (front ++ last ∷ []) → AreMaximal (front ++ longer last n ∷ [])
maximal_longer [] last n m = maximal_one (longer last n) (omega (arith, m.0))
maximal_longer (x ∷ []) last n m =
    (m.0, (λ next g same. m.1 last refl (same ∙ ap (λ (s : Run). s.format) (sym (same_Some (longer last n) next g)))), maximal_longer [] last n m.2)
maximal_longer (x ∷ w ∷ front) last n m = (m.0, m.1, maximal_longer (w ∷ front) last n m.2)

-- maximal runs have characters, so that there are at least as many of these
pub few_runs : (runs : List Run) → AreMaximal runs → length runs ≤ character_count runs
few_runs [] m = omega arith
few_runs (r ∷ runs) m = let rest : length runs ≤ character_count runs = few_runs runs m.2 in omega (arith, m.0, sum_by-cons (λ (run : Run). run.characters) r runs)

-- ---- runs behind one that was added
pub added_formats : (old new rest : List Run) (r : Run) → formats_of new ≡ formats_of old ++ replicate r.characters r.format
    → formats_of (new ++ rest) ≡ formats_of old ++ formats_of (r ∷ rest)
added_formats old new rest r e =
    formats_append new rest ∙ ap (λ l. l ++ formats_of rest) e ∙ append_assoc (formats_of old) (replicate r.characters r.format) (formats_of rest)

-- runs that have the format of the last one go on it
pub alike_format : (before : List Format) (r : Run) (rest : List Run) → 0 < r.characters → (alike : AreAlike before (formats_of (r ∷ rest))) → alike.format ≡ r.format
alike_format before r rest some alike = same_Some alike.format r.format (sym alike.first ∙ head_at r.format r.characters (formats_of rest) some)

pub added_maximal : (old new rest : List Run) (r : Run) → formats_of new ≡ formats_of old ++ replicate r.characters r.format
    → AreMaximal new → AreMaximal (r ∷ rest) → AreMaximal (new ++ rest)
added_maximal old new rest r e m n =
    let own : List Format = replicate r.characters r.format in
    maximal_joined new rest m n.2
    (subst (λ (l : List Format). AreApart l (formats_of rest)) (sym e)
    (apart_behind (formats_of old) own (formats_of rest) (omega (arith, n.0, length-replicate r.characters r.format)) (run_apart r rest n.2 n.1)))
