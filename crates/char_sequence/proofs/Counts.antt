-- The counts of chunks, and sums of them.
use Rattle.std.proofs.Common.{◌≡◌, ℕ, zero, suc, cond, ◌+◌, ◌-◌, ◌<◌, ◌≤◌, List, [], ◌∷◌, ◌++◌, Some, length, map, set, get_or, take, drop, slice_range, sum, sym, ap, refl, ◌∙◌, arith, length-append}
use Rattle.std.specs.List.{slice_get, insert}
use Rattle.std.proofs.Math.Seq.{take-add}
use Rattle.std.proofs.lemmas.List.{length-map, map-set, take-map, take_all}
use Rattle.std.proofs.lemmas.List.Sums.{sum_by-append, sum_by-cons, sum_by-take-le, sum_by_more, count_by-le-length}
use Rattle.char_sequence.specs.declared.sequence.Element.{Element}
use Rattle.char_sequence.specs.declared.place_table.ChunkStart.{ChunkStart}
use Rattle.char_sequence.specs.Chunks.{joined, start_of, ChunkCounts, AreCounts, IsSumBefore}
use Rattle.char_sequence.specs.PlaceTables.{IsChunkAt}
use Rattle.char_sequence.specs.Visible.{visible_count}
use Rattle.char_sequence.proofs.Joined.{start_end}
use Rattle.char_sequence.proofs.Ranges.{count_more, range_within}

-- ---- sums
pub sum_more : (xs : List ℕ) (i : ℕ) → i < length xs → sum (take (i + 1) xs) ≡ sum (take i xs) + get_or xs i 0
sum_more xs i h = sum_by_more (λ n. n) xs i 0 h

pub sum_front : (xs : List ℕ) (i : ℕ) → sum (take i xs) ≤ sum xs
sum_front xs i = sum_by-take-le (λ n. n) xs i

pub sum_range : (xs : List ℕ) (a b : ℕ) → a ≤ b → sum (take b xs) ≡ sum (take a xs) + sum (slice_range xs a b)
sum_range xs a b h =
    let on : b ≡ a + (b - a) = omega arith in
    ap (λ n. sum (take n xs)) on ∙ ap sum (take-add a (b - a) xs) ∙ sum_by-append (λ n. n) (take a xs) (take (b - a) (drop a xs))

lengths_sum : (cs : List (List Element)) → sum (map length cs) ≡ length (joined cs)
lengths_sum [] = refl
lengths_sum (c ∷ cs) = sum_by-cons (λ n. n) (length c) (map length cs) ∙ ap (λ n. length c + n) (lengths_sum cs) ∙ sym (length-append c (joined cs))

pub shown_sum : (cs : List (List Element)) → sum (map visible_count cs) ≡ visible_count (joined cs)
shown_sum [] = refl
shown_sum (c ∷ cs) = sum_by-cons (λ n. n) (visible_count c) (map visible_count cs) ∙ ap (λ n. visible_count c + n) (shown_sum cs) ∙ sym (sum_by-append (λ e. cond e.visible 1 0) c (joined cs))

pub lengths_before : (cs : List (List Element)) (counts : ChunkCounts) (p : ℕ) → AreCounts cs counts → sum (take p counts.lengths) ≡ start_of cs p
lengths_before cs counts p are = ap (λ l. sum (take p l)) are.long ∙ ap sum (take-map length p cs) ∙ lengths_sum (take p cs)

pub shown_before : (cs : List (List Element)) (counts : ChunkCounts) (p : ℕ) → AreCounts cs counts → sum (take p counts.shown) ≡ visible_count (joined (take p cs))
shown_before cs counts p are = ap (λ l. sum (take p l)) are.visible ∙ ap sum (take-map visible_count p cs) ∙ shown_sum (take p cs)

pub lengths_few : (cs : List (List Element)) (counts : ChunkCounts) → AreCounts cs counts → sum counts.lengths ≡ length (joined cs)
lengths_few cs counts are = ap sum are.long ∙ lengths_sum cs

-- no more are visible than there are
pub shown_few : (cs : List (List Element)) (counts : ChunkCounts) (p : ℕ) → AreCounts cs counts → sum (take p counts.shown) ≤ length (joined cs)
shown_few cs counts p are =
    let front = sum_front counts.shown p in
    let whole = ap sum are.visible ∙ shown_sum cs in
    let most = count_by-le-length (λ (e : Element). e.visible) (joined cs) in
    omega (arith, front, whole, most)

pub as_many_lengths : (cs : List (List Element)) (counts : ChunkCounts) → AreCounts cs counts → length counts.lengths ≡ length cs
as_many_lengths cs counts are = ap length are.long ∙ length-map cs length

pub as_many_shown : (cs : List (List Element)) (counts : ChunkCounts) → AreCounts cs counts → length counts.shown ≡ length cs
as_many_shown cs counts are = ap length are.visible ∙ length-map cs visible_count

-- ---- as chunks change
map_insert : {X : Type 0} (f : List Element → X) (cs : List (List Element)) (i : ℕ) (c : List Element) → i ≤ length cs → map f (insert cs i c) ≡ insert (map f cs) i (f c)
map_insert f cs zero c h = refl
map_insert f [] (suc i) c h = absurd (omega arith)
map_insert f (x ∷ xs) (suc i) c h = ap (λ l. f x ∷ l) (map_insert f xs i c (omega arith))

map_push : {X : Type 0} (f : List Element → X) (cs : List (List Element)) (c : List Element) → map f (cs ++ c ∷ []) ≡ map f cs ++ f c ∷ []
map_push f [] c = refl
map_push f (x ∷ xs) c = ap (λ l. f x ∷ l) (map_push f xs c)

pub counts_same : (cs : List (List Element)) (old new : ChunkCounts) → AreCounts cs old → new.lengths ≡ old.lengths → new.shown ≡ old.shown → AreCounts cs new
counts_same cs old new are lengths shown = record { long = lengths ∙ are.long; visible = shown ∙ are.visible }

pub counts_push : (cs : List (List Element)) (old new : ChunkCounts) (c : List Element) (len shown : ℕ) → AreCounts cs old → len ≡ length c → shown ≡ visible_count c → new.lengths ≡ old.lengths ++ len ∷ [] → new.shown ≡ old.shown ++ shown ∷ [] → AreCounts (cs ++ c ∷ []) new
counts_push cs old new c len shown are is_len is_shown lengths visible = record {
  long = lengths ∙ ap (λ n. old.lengths ++ n ∷ []) is_len ∙ ap (λ l. l ++ length c ∷ []) are.long ∙ sym (map_push length cs c);
  visible = visible ∙ ap (λ n. old.shown ++ n ∷ []) is_shown ∙ ap (λ l. l ++ visible_count c ∷ []) are.visible ∙ sym (map_push visible_count cs c);
}

pub counts_set : (cs : List (List Element)) (old new : ChunkCounts) (p : ℕ) (c : List Element) (len shown : ℕ) → AreCounts cs old → len ≡ length c → shown ≡ visible_count c → new.lengths ≡ set old.lengths p len → new.shown ≡ set old.shown p shown → AreCounts (set cs p c) new
counts_set cs old new p c len shown are is_len is_shown lengths visible = record {
  long = lengths ∙ ap (λ n. set old.lengths p n) is_len ∙ ap (λ l. set l p (length c)) are.long ∙ sym (map-set length cs p c);
  visible = visible ∙ ap (λ n. set old.shown p n) is_shown ∙ ap (λ l. set l p (visible_count c)) are.visible ∙ sym (map-set visible_count cs p c);
}

pub counts_insert : (cs : List (List Element)) (old new : ChunkCounts) (p : ℕ) (c : List Element) (len shown : ℕ) → AreCounts cs old → p ≤ length cs → len ≡ length c → shown ≡ visible_count c → new.lengths ≡ insert old.lengths p len → new.shown ≡ insert old.shown p shown → AreCounts (insert cs p c) new
counts_insert cs old new p c len shown are h is_len is_shown lengths visible = record {
  long = lengths ∙ ap (λ n. insert old.lengths p n) is_len ∙ ap (λ l. insert l p (length c)) are.long ∙ sym (map_insert length cs p c h);
  visible = visible ∙ ap (λ n. insert old.shown p n) is_shown ∙ ap (λ l. insert l p (visible_count c)) are.visible ∙ sym (map_insert visible_count cs p c h);
}

-- ---- the chunk that a place is in
pub chunk_at : (cs : List (List Element)) (counts : ChunkCounts) (place : ℕ) (at : ChunkStart) → AreCounts cs counts → IsSumBefore counts.lengths place at → (at.position < length counts.lengths → place < sum (take (at.position + 1) counts.lengths)) → IsChunkAt cs place at
chunk_at cs counts place at are before ahead =
    let many = as_many_lengths cs counts are in
    let low = before.within in
    record {
      within = omega (arith, low, many);
      start = before.start ∙ lengths_before cs counts at.position are;
      reached = before.reached;
      ahead =
          λ less.
          let far = ahead (omega (arith, less, many)) in
          let next = lengths_before cs counts (at.position + 1) are in
          omega (arith, far, next);
    }

-- what is visible before a place: what is in the chunks before its own, and what is in front of it there
pub visible_upto : (cs : List (List Element)) (p place : ℕ) (c : List Element) → slice_get cs p ≡ Some c → start_of cs p ≤ place → place ≤ start_of cs (p + 1) → visible_count (take place (joined cs)) ≡ visible_count (joined (take p cs)) + visible_count (take (place - start_of cs p) c)
visible_upto cs p place c here low high =
    let start = start_of cs p in
    let none : 0 - start ≡ 0 = omega arith in
    let same : place - 0 ≡ place = omega arith in
    let whole : slice_range (joined (take p cs)) 0 place ≡ joined (take p cs) = ap (λ n. take n (joined (take p cs))) same ∙ take_all place (joined (take p cs)) low in
    let front : (place - start) - 0 ≡ place - start = omega arith in
    ap (λ n. visible_count (take n (joined cs))) (sym same)
    ∙ sym (ap visible_count (range_within cs (p + 1) 0 place (omega arith) high))
    ∙ count_more cs p 0 place c here (omega arith)
    ∙ ap (λ es. visible_count es + visible_count (slice_range c (0 - start) (place - start))) whole
    ∙ ap (λ n. visible_count (joined (take p cs)) + visible_count (slice_range c n (place - start))) none
    ∙ ap (λ n. visible_count (joined (take p cs)) + visible_count (take n c)) front

-- the same of a place within the chunk
pub visible_to : (cs : List (List Element)) (p place : ℕ) (c : List Element) → slice_get cs p ≡ Some c → start_of cs p ≤ place → place < start_of cs (p + 1) → visible_count (take place (joined cs)) ≡ visible_count (joined (take p cs)) + visible_count (take (place - start_of cs p) c)
visible_to cs p place c here low high = visible_upto cs p place c here low (omega arith)

-- the same where there is no chunk behind it
pub visible_all : (cs : List (List Element)) (p place : ℕ) → length cs ≤ p → start_of cs p ≤ place → visible_count (take place (joined cs)) ≡ visible_count (joined (take p cs))
visible_all cs p place end low =
    let size = start_end cs p end in
    ap visible_count (take_all place (joined cs) (omega (arith, size, low)))
    ∙ ap (λ l. visible_count (joined l)) (sym (take_all p cs end))
