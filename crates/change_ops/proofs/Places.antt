-- Where words stand in lists of words.
use Rattle.std.proofs.Common.{◌≡◌, ℕ, zero, suc, ◌+◌, Bool, true, false, cond, ltb, List, [], ◌∷◌, map, length, get_or, Option, Some, None, refl, sym, ap, subst, ◌∙◌, arith}
use Rattle.std.specs.Prelude.{◌&&◌, not}
use Rattle.std.specs.Str.{bytes_eq}
use Rattle.std.specs.List.{list_all, position, position_or_len, slice_get}
use Rattle.std.proofs.lemmas.Bool.{and_parts, lt-ltb, ltb-true}
use Rattle.std.proofs.lemmas.List.{length-map}
use Rattle.std.proofs.lemmas.List.Quantifiers.{position-Some}
use Rattle.std.proofs.lemmas.Option.{slice_get-get_or, slice_get_within, get_or_from_slice_get}
use Rattle.std.proofs.lemmas.Slice.Eq.{bytes_eq-Decides}
use Rattle.change_ops.specs.Ids.{checked}
use Rattle.change_ops.specs.Keys.{place_in}

-- what each element passes, the one at an index passes
pub all_at : {X : Type 0} (test : X → Bool) (xs : List X) (i : ℕ) (x : X) → list_all test xs ≡ true → slice_get xs i ≡ Some x → test x ≡ true
all_at test [] i x h e = absurd cc
all_at test (y ∷ ys) zero x h e = let same : y ≡ x = cc in subst (λ z. test z ≡ true) same (and_parts (test y) (list_all test ys) h).0
all_at test (y ∷ ys) (suc i) x h e = all_at test ys i x (and_parts (test y) (list_all test ys) h).1 e

-- no word stands twice
abbrev pub differ : List (List ℕ) → Bool
differ [] = true
differ (word ∷ words) = list_all (λ other. not (bytes_eq word other)) words && differ words

pub off : (t : Bool) → not t ≡ true → t ≡ false
off true h = absurd cc
off false h = refl

-- the first place of a column of a table

place_mapped : {X Y : Type 0} (f : X → Y) (test : Y → Bool) (xs : List X) → position_or_len test (map f xs) ≡ position_or_len (λ x. test (f x)) xs
place_mapped f test [] = refl
place_mapped f test (x ∷ xs) = ap (λ n. cond (not (test (f x))) (1 + n) 0) (place_mapped f test xs)

pub position_mapped : {X Y : Type 0} (f : X → Y) (test : Y → Bool) (xs : List X) → position test (map f xs) ≡ position (λ x. test (f x)) xs
position_mapped f test xs =
    let place = place_mapped f test xs in
    let long = length-map xs f in
    (λ i. cond (ltb (place i) (long i)) (Some (place i)) None)

pub place_mapped_in : {X : Type 0} (f : X → List ℕ) (rows : List X) (word : List ℕ) → place_in (map f rows) word ≡ position (λ row. bytes_eq (f row) word) rows
unfolding place_in
place_mapped_in f rows word = position_mapped f (λ other. bytes_eq other word) rows

-- a word stands where it is found

pub word_found : (words : List (List ℕ)) (word : List ℕ) (i : ℕ) → place_in words word ≡ Some i → slice_get words i ≡ Some word
unfolding place_in
word_found words word i e =
    let at = position-Some (λ other. bytes_eq other word) words i [] e in
    slice_get-get_or words i [] at.0 ∙ ap Some ((bytes_eq-Decides (get_or words i []) word).0 at.1)

pub found_within : (words : List (List ℕ)) (word : List ℕ) (n i : ℕ) → length words ≡ n → place_in words word ≡ Some i → ltb i n ≡ true
found_within words word n i long e =
    let within = slice_get_within words i word (word_found words word i e) in
    lt-ltb i n (omega arith)

-- so the place is below their number
pub place_checked : (words : List (List ℕ)) (word : List ℕ) (n i : ℕ) → length words ≡ n → place_in words word ≡ Some i → checked (λ k. ltb k n) i ≡ place_in words word
place_checked words word n i long e = rw (found_within words word n i long e) (sym e)

pub word_is : (words : List (List ℕ)) (word : List ℕ) (i : ℕ) → place_in words word ≡ Some i → word ≡ get_or words i []
word_is words word i e = sym (get_or_from_slice_get words i word [] (word_found words word i e))

-- a word of those that differ is found where it stands

first_place : (words : List (List ℕ)) (word : List ℕ) (i : ℕ) → differ words ≡ true → slice_get words i ≡ Some word → position_or_len (λ other. bytes_eq other word) words ≡ i
first_place [] word i d e = absurd cc
first_place (other ∷ words) word zero d e =
    let same : other ≡ word = cc in
    let yes : bytes_eq other word ≡ true = (bytes_eq-Decides other word).1 same in
    rw yes refl
first_place (other ∷ words) word (suc i) d e =
    let apart = and_parts (list_all (λ x. not (bytes_eq other x)) words) (differ words) d in
    let no : bytes_eq other word ≡ false = off (bytes_eq other word) (all_at (λ x. not (bytes_eq other x)) words i word apart.0 e) in
    let rest = first_place words word i apart.1 e in
    rw (no, rest) (omega arith)

pub place_found : (words : List (List ℕ)) (word : List ℕ) (i : ℕ) → differ words ≡ true → slice_get words i ≡ Some word → place_in words word ≡ Some i
unfolding place_in
place_found words word i d e =
    let place = first_place words word i d e in
    let within = slice_get_within words i word e in
    let test : ltb i (length words) ≡ true = lt-ltb i (length words) within in
    rw (place, test) refl

-- a word that fails a test of all is none of them
pub place_none : (test : List ℕ → Bool) (words : List (List ℕ)) (word : List ℕ) → list_all test words ≡ true → test word ≡ false → place_in words word ≡ None
place_none test words word h fails = go (place_in words word) refl where
  go : (o : Option ℕ) → place_in words word ≡ o → o ≡ None
  go None e = refl
  go (Some i) e = absurd (let yes = all_at test words i word h (word_found words word i e) in cc)

-- the word at a place

pub word_at : (words : List (List ℕ)) (n i : ℕ) → length words ≡ n → ltb i n ≡ true → slice_get words i ≡ Some (get_or words i [])
word_at words n i long h =
    let below = ltb-true i n h in
    slice_get-get_or words i [] (omega arith)

pub place_again : (words : List (List ℕ)) (n i : ℕ) → differ words ≡ true → length words ≡ n → ltb i n ≡ true → place_in words (get_or words i []) ≡ Some i
place_again words n i d long h = place_found words (get_or words i []) i d (word_at words n i long h)

pub passes_at : (test : List ℕ → Bool) (words : List (List ℕ)) (n i : ℕ) → list_all test words ≡ true → length words ≡ n → ltb i n ≡ true → test (get_or words i []) ≡ true
passes_at test words n i all long h = all_at test words i (get_or words i []) all (word_at words n i long h)
