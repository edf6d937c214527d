-- Where the text of the first elements ends, a character of the whole text ends.
use Rattle.std.proofs.Common.{◌≡◌, ℕ, ◌+◌, ◌≤◌, true, false, List, [], ◌∷◌, ◌++◌, length, take, drop, sym, ap, refl, ◌∙◌, subst, arith, length-append, length-drop, IsUtf8, Result, Ok}
use Rattle.std.specs.Char.{encode_utf8}
use Rattle.std.specs.Result.{OnOk}
use Rattle.std.specs.Str.{IsCharBoundary}
use Rattle.std.specs.String.Boundary.{IsSplitPoint}
use Rattle.std.proofs.lemmas.List.{drop-drop, drop_at, take-append-drop}
use Rattle.std.proofs.lemmas.Str.{length-encode, IsUtf8-drop, IsCharBoundary-start, IsCharBoundary-past_char}
use Rattle.char_sequence.specs.declared.sequence.Element.{Element}
use Rattle.char_sequence.specs.Visible.{visible_text}
use Rattle.char_sequence.proofs.VisibleText.{visible_none, visible_append, visible_one, hidden_one}

-- from the end of a character on, past the text of more elements
walk : (bs : List ℕ) (n : ℕ) (ys zs : List Element) → IsUtf8 bs → IsCharBoundary bs n → n ≤ length bs → drop n bs ≡ visible_text (ys ++ zs) → IsCharBoundary bs (n + length (visible_text ys))
walk bs n [] zs utf8 at within is =
    let none = ap length visible_none in
    let same : n ≡ n + length (visible_text []) = omega (arith, none) in
    subst (IsCharBoundary bs) same at
walk bs n (e ∷ ys) zs utf8 at within is =
    let split : drop n bs ≡ visible_text (e ∷ []) ++ visible_text (ys ++ zs) = is ∙ visible_append (e ∷ []) (ys ++ zs) in
    let all : length (visible_text (e ∷ ys)) ≡ length (visible_text (e ∷ [])) + length (visible_text ys) = ap length (visible_append (e ∷ []) ys) ∙ length-append (visible_text (e ∷ [])) (visible_text ys) in
    elim e.visible as (λ b. e.visible ≡ b → IsCharBoundary bs (n + length (visible_text (e ∷ ys)))) [
      | true ↦
          (λ t.
          let one = visible_one e t in
          let size = ap length one ∙ length-encode e.character in
          let there : drop n bs ≡ encode_utf8 e.character ++ visible_text (ys ++ zs) = split ∙ ap (λ z. z ++ visible_text (ys ++ zs)) one in
          let next = IsCharBoundary-past_char bs (visible_text (ys ++ zs)) n e.character within (IsUtf8-drop bs n utf8 at) there in
          let m = n + length (visible_text (e ∷ [])) in
          let m_is = ap (λ k. n + k) size in
          let left = length-drop n bs in
          let long = ap length split ∙ length-append (visible_text (e ∷ [])) (visible_text (ys ++ zs)) in
          let behind : drop m bs ≡ visible_text (ys ++ zs) =
          sym (drop-drop (length (visible_text (e ∷ []))) n bs) ∙ ap (drop (length (visible_text (e ∷ [])))) split ∙ drop_at (visible_text (e ∷ [])) (visible_text (ys ++ zs)) (length (visible_text (e ∷ []))) refl
          in
          let end : m + length (visible_text ys) ≡ n + length (visible_text (e ∷ ys)) = omega (arith, all) in
          subst (IsCharBoundary bs) end (walk bs m ys zs utf8 (subst (IsCharBoundary bs) (sym m_is) next) (omega (arith, left, long, within)) behind))
      | false ↦
          (λ f.
          let none = hidden_one e f in
          let size = ap length none in
          let behind : drop n bs ≡ visible_text (ys ++ zs) = split ∙ ap (λ z. z ++ visible_text (ys ++ zs)) none in
          let end : n + length (visible_text ys) ≡ n + length (visible_text (e ∷ ys)) = omega (arith, all, size) in
          subst (IsCharBoundary bs) end (walk bs n ys zs utf8 at within behind))
    ] refl

pub front_boundary : (es : List Element) (k : ℕ) (bs : List ℕ) → IsUtf8 bs → bs ≡ visible_text es → IsCharBoundary bs (length (visible_text (take k es)))
front_boundary es k bs utf8 is =
    let whole : es ≡ take k es ++ drop k es = sym (take-append-drop k es) in
    let zero_sum : 0 + length (visible_text (take k es)) ≡ length (visible_text (take k es)) = omega arith in
    subst (IsCharBoundary bs) zero_sum (walk bs 0 (take k es) (drop k es) utf8 (IsCharBoundary-start bs utf8) (omega arith) (is ∙ ap visible_text whole))

pub front_split : (es : List Element) (k n : ℕ) (bs : List ℕ) → IsUtf8 bs → bs ≡ visible_text es → n ≡ length (visible_text (take k es)) → IsSplitPoint (visible_text es) n
front_split es k n bs utf8 is size =
    let at = front_boundary es k (visible_text es) (subst IsUtf8 is utf8) refl in
    subst (IsSplitPoint (visible_text es)) (sym size) (at.0, λ some less high. at.1 less high)

pub on_ok_at : {T E : Type 0} (P : Type 0) (r : Result T E) (x : T) → r ≡ Ok x → OnOk r P → P
on_ok_at P r x is h = subst (λ z. OnOk z P) is h
