-- What a line of the text is, where it isn't a paragraph: one of these words.
use Rattle.std.specs.Prelude.{ℕ, nat_lt, Bool, List, [], ◌∷◌, map, Option, codes, slice_index_or}
use Rattle.std.specs.Borrow.{Bor}
use Rattle.change_ops.specs.declared.line_kind.TheConstants.{KINDS}
use Rattle.change_ops.specs.Keys.{place_in}

unfoldable pub kind_words : List (List ℕ)
kind_words =
    codes "heading:1" ∷ codes "heading:2" ∷ codes "heading:3" ∷ codes "heading:4" ∷ codes "heading:5"
    ∷ codes "heading:6" ∷ codes "bullet:0" ∷ codes "bullet:1" ∷ codes "bullet:2" ∷ codes "bullet:3"
    ∷ codes "bullet:4" ∷ codes "bullet:5" ∷ codes "bullet:6" ∷ codes "bullet:7" ∷ codes "number:0"
    ∷ codes "number:1" ∷ codes "number:2" ∷ codes "number:3" ∷ codes "number:4" ∷ codes "number:5"
    ∷ codes "number:6" ∷ codes "number:7" ∷ codes "task:0:open" ∷ codes "task:1:open" ∷ codes "task:2:open"
    ∷ codes "task:3:open" ∷ codes "task:4:open" ∷ codes "task:5:open" ∷ codes "task:6:open" ∷ codes "task:7:open"
    ∷ codes "task:0:done" ∷ codes "task:1:done" ∷ codes "task:2:done" ∷ codes "task:3:done" ∷ codes "task:4:done"
    ∷ codes "task:5:done" ∷ codes "task:6:done" ∷ codes "task:7:done" ∷ codes "quote" ∷ codes "pre" ∷ codes "rule"
    ∷ []

abbrev pub is_kind : ℕ → Bool
is_kind place = nat_lt place KINDS

abbrev pub word_of_kind : ℕ → List ℕ
word_of_kind place = slice_index_or kind_words place []

-- the kind of a word
abbrev pub kind_at : List ℕ → Option ℕ
kind_at word = place_in kind_words word

-- words that are lent, as bytes
abbrev pub bytes_in : List (Bor (List ℕ)) → List (List ℕ)
bytes_in words = map (λ word. word.now) words
