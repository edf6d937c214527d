-- Lines for items with their numbers, from one number on.
use Rattle.std.proofs.Common.{◌≡◌, ℕ, zero, suc, ◌+◌, ◌<◌, List, [], ◌∷◌, ◌++◌, length, take, refl, sym, ap, ◌∙◌, arith, append_assoc, append-nil}
use Rattle.std.specs.List.{flat_map, enumerate_from}
use Rattle.std.proofs.lemmas.List.{nil_from_length}

abbrev pub numbered : {X : Type 0} → (ℕ → X → List ℕ) → ℕ → List X → List ℕ
numbered line first items = flat_map (λ indexed. line indexed.0 indexed.1) (enumerate_from first items)

pub same_numbered : {X : Type 0} (line : ℕ → X → List ℕ) (start first : ℕ) (items all : List X) → start ≡ first → items ≡ all → numbered line start items ≡ numbered line first all
same_numbered line start first items all here is =
    ap (λ n. numbered line n items) here ∙ ap (λ l. numbered line first l) is

-- the line of the first item, and then the others
pub one_more : {X : Type 0} (line : ℕ → X → List ℕ) (done all : List ℕ) (start next index : ℕ) (items left : List X) (item : X)
    → done ++ numbered line start items ≡ all → items ≡ item ∷ left → index ≡ start → next ≡ start + 1
    → (done ++ line index item) ++ numbered line next left ≡ all
one_more line done all start next index items left item is cut here on =
    append_assoc done (line index item) (numbered line next left)
    ∙ ap (λ n. done ++ (line n item ++ numbered line next left)) here
    ∙ ap (λ n. done ++ (line start item ++ numbered line n left)) on
    ∙ ap (λ l. done ++ numbered line start l) (sym cut)
    ∙ is

-- of at most so many items
pub one_more_of : {X : Type 0} (line : ℕ → X → List ℕ) (done all : List ℕ) (start next index most fewer : ℕ) (items left : List X) (item : X)
    → done ++ numbered line start (take most items) ≡ all → items ≡ item ∷ left → index ≡ start → next ≡ start + 1 → fewer + 1 ≡ most
    → (done ++ line index item) ++ numbered line next (take fewer left) ≡ all
one_more_of line done all start next index most fewer items left item is cut here on count =
    let size : most ≡ suc fewer = omega arith in
    one_more line done all start next index (take most items) (take fewer left) item is
    (ap (λ n. take n items) size ∙ ap (λ l. take (suc fewer) l) cut) here on

-- at the end
pub all_done : {X : Type 0} (line : ℕ → X → List ℕ) (done all : List ℕ) (start : ℕ) (items : List X) → done ++ numbered line start items ≡ all → items ≡ [] → done ≡ all
all_done line done all start items is none =
    sym (append-nil done) ∙ ap (λ l. done ++ numbered line start l) (sym none) ∙ is

pub none_taken : {X : Type 0} (most : ℕ) (items : List X) → (0 < most → length items ≡ 0) → take most items ≡ []
none_taken zero items none = refl
none_taken (suc most) items none =
    ap (λ l. take (suc most) l) (nil_from_length items (none (omega arith)))
