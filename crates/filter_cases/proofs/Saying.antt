-- What a line says, word by word.
use Rattle.std.proofs.Common.{◌≡◌, ◌≢◌, ℕ, List, Some, None, refl, sym, ap, subst, ◌∙◌}
use Rattle.std.specs.Prelude.{codes, true, false}
use Rattle.std.specs.Str.{bytes_eq}
use Rattle.std.proofs.lemmas.Bool.{false≢true}
use Rattle.change_ops.specs.Words.{split}
use Rattle.filter_cases.specs.declared.marks.Marks.{Marks}
use Rattle.filter_cases.specs.declared.wanted.Wanted.{Wanted}
use Rattle.filter_cases.specs.Marks.{plain, mark_at}
use Rattle.filter_cases.specs.Wanted.{wanted_at}
use Rattle.filter_cases.specs.Said.{Says, wants, marks}

abbrev Parts : Type 0
Parts = List ℕ × List ℕ

same_parts : (one other : Parts) → Some one ≡ Some other → one ≡ other
same_parts one other e = cc

same_marks : (one other : Marks) → Some one ≡ Some other → one ≡ other
same_marks one other e = cc

none_some : {A : Type 0} (x : A) → None ≡ Some x → ⊥
none_some x e = absurd cc

-- the marks and the rest of a line say what the whole line says
pub record Telling (line : List ℕ) (before : Marks) (rest : List ℕ) : Type 0 where
  pub sound : (after : Marks) (wanted : Wanted) → Says before rest after wanted → Says plain line after wanted
  pub whole : (after : Marks) (wanted : Wanted) → Says plain line after wanted → Says before rest after wanted

pub telling_begun : (line : List ℕ) (before : Marks) → before ≡ plain → Telling line before line
telling_begun line before e = record {
  sound = λ after wanted s. subst (λ (m : Marks). Says m line after wanted) e s;
  whole = λ after wanted s. subst (λ (m : Marks). Says m line after wanted) (sym e) s;
}

nothing_said : (before after : Marks) (text : List ℕ) (wanted : Wanted) → split 32 text ≡ None → Says before text after wanted → ⊥
nothing_said before after text wanted nothing (wants _ _ _ rest _ s w same) = none_some _ (sym nothing ∙ s)
nothing_said before after text wanted nothing (marks _ next _ _ word rest _ s arrow m more) = none_some _ (sym nothing ∙ s)

pub telling_over : (line : List ℕ) (before : Marks) (rest : List ℕ) → split 32 rest ≡ None → Telling line before rest
    → (after : Marks) (wanted : Wanted) → Says plain line after wanted → ⊥
telling_over line before rest nothing telling after wanted s = nothing_said before after rest wanted nothing (telling.whole after wanted s)

is_wanted : (before after : Marks) (text rest : List ℕ) (wanted : Wanted) → split 32 text ≡ Some (codes "->", rest) → Says before text after wanted
    → wanted_at rest ≡ Some wanted
is_wanted before after text rest wanted is (wants _ _ _ behind _ s w same) =
    ap wanted_at (ap (λ (p : Parts). p.1) (same_parts _ _ (sym is ∙ s))) ∙ w
is_wanted before after text rest wanted is (marks _ next _ _ word behind _ s arrow m more) =
    absurd (arrow (sym (ap (λ (p : Parts). p.0) (same_parts _ _ (sym is ∙ s)))))

-- at the arrow
arrow_here : (text word rest : List ℕ) → split 32 text ≡ Some (word, rest) → word ≡ codes "->" → split 32 text ≡ Some (codes "->", rest)
arrow_here text word rest is e = is ∙ ap (λ (w : List ℕ). Some (w, rest)) e

pub telling_ends : (line : List ℕ) (before : Marks) (rest word behind : List ℕ) (wanted : Wanted) → split 32 rest ≡ Some (word, behind) → word ≡ codes "->"
    → wanted_at behind ≡ Some wanted → Telling line before rest → Says plain line before wanted
telling_ends line before rest word behind wanted is e w telling =
    telling.sound before wanted (wants before before rest behind wanted (arrow_here rest word behind is e) w refl)

pub telling_unwanted : (line : List ℕ) (before : Marks) (rest word behind : List ℕ) → split 32 rest ≡ Some (word, behind) → word ≡ codes "->"
    → wanted_at behind ≡ None → Telling line before rest → (after : Marks) (wanted : Wanted) → Says plain line after wanted → ⊥
telling_unwanted line before rest word behind is e nothing telling after wanted s =
    none_some wanted (sym nothing ∙ is_wanted before after rest behind wanted (arrow_here rest word behind is e) (telling.whole after wanted s))

says_next : (before next after : Marks) (text word rest : List ℕ) (wanted : Wanted) → split 32 text ≡ Some (word, rest) → word ≢ codes "->"
    → mark_at before word ≡ Some next → Says before text after wanted → Says next rest after wanted
says_next before next after text word rest wanted is other m (wants _ _ _ behind _ s w same) =
    absurd (other (ap (λ (p : Parts). p.0) (same_parts _ _ (sym is ∙ s))))
says_next before next after text word rest wanted is other m (marks _ given_marks _ _ given behind _ s arrow found more) =
    let parts = same_parts _ _ (sym is ∙ s) in
    let same : next ≡ given_marks = same_marks next given_marks (sym m ∙ ap (mark_at before) (ap (λ (p : Parts). p.0) parts) ∙ found) in
    let tail : rest ≡ behind = ap (λ (p : Parts). p.1) parts in
    subst (λ (x : Marks). Says x rest after wanted) (sym same) (subst (λ (l : List ℕ). Says given_marks l after wanted) (sym tail) more)

no_mark : (before after : Marks) (text word rest : List ℕ) (wanted : Wanted) → split 32 text ≡ Some (word, rest) → word ≢ codes "->"
    → mark_at before word ≡ None → Says before text after wanted → ⊥
no_mark before after text word rest wanted is other m (wants _ _ _ behind _ s w same) =
    other (ap (λ (p : Parts). p.0) (same_parts _ _ (sym is ∙ s)))
no_mark before after text word rest wanted is other m (marks _ given_marks _ _ given behind _ s arrow found more) =
    none_some given_marks (sym m ∙ ap (mark_at before) (ap (λ (p : Parts). p.0) (same_parts _ _ (sym is ∙ s))) ∙ found)

pub telling_more : (line : List ℕ) (before next : Marks) (rest word behind : List ℕ) → split 32 rest ≡ Some (word, behind) → word ≢ codes "->"
    → mark_at before word ≡ Some next → Telling line before rest → Telling line next behind
telling_more line before next rest word behind is other m telling = record {
  sound = λ after wanted s. telling.sound after wanted (marks before next after rest word behind wanted is other m s);
  whole = λ after wanted s. says_next before next after rest word behind wanted is other m (telling.whole after wanted s);
}

pub telling_stuck : (line : List ℕ) (before : Marks) (rest word behind : List ℕ) → split 32 rest ≡ Some (word, behind) → word ≢ codes "->"
    → mark_at before word ≡ None → Telling line before rest → (after : Marks) (wanted : Wanted) → Says plain line after wanted → ⊥
telling_stuck line before rest word behind is other m telling after wanted s =
    no_mark before after rest word behind wanted is other m (telling.whole after wanted s)

arrow_same : bytes_eq (codes "->") (codes "->") ≡ true
arrow_same = refl

pub not_arrow : (word : List ℕ) → bytes_eq word (codes "->") ≡ false → word ≢ codes "->"
not_arrow word f e = false≢true (sym (subst (λ (l : List ℕ). bytes_eq l (codes "->") ≡ false) e f) ∙ arrow_same)
