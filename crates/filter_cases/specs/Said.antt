-- What stands behind a case's text: words that say something of the span, an arrow, and the wanted verdict.
use Rattle.std.specs.Prelude.{◌≡◌, ◌≢◌, List, ℕ, Some, codes}
use Rattle.change_ops.specs.Words.{split}
use Rattle.filter_cases.specs.declared.marks.Marks.{Marks}
use Rattle.filter_cases.specs.declared.wanted.Wanted.{Wanted}
use Rattle.filter_cases.specs.Marks.{mark_at}
use Rattle.filter_cases.specs.Wanted.{wanted_at}

-- A line goes on so behind words that say the first marks: it says the last ones, and what is wanted. A space stands
-- after each word; of one key the last value counts.
pub data Says : Marks → List ℕ → Marks → Wanted → Type 0 where
  wants : (before after : Marks) (text rest : List ℕ) (wanted : Wanted) → split 32 text ≡ Some (codes "->", rest)
      → wanted_at rest ≡ Some wanted → after ≡ before → Says before text after wanted
  marks : (before next after : Marks) (text word rest : List ℕ) (wanted : Wanted) → split 32 text ≡ Some (word, rest)
      → word ≢ codes "->" → mark_at before word ≡ Some next → Says next rest after wanted
      → Says before text after wanted
