-- The visible text of lists.
use Rattle.std.proofs.Common.{◌≡◌, ℕ, zero, suc, ◌+◌, ◌*◌, ◌<◌, ◌≤◌, true, false, cond, List, [], ◌∷◌, ◌++◌, Some, length, map, set, get_or, take, drop, ap, refl, sym, ◌∙◌, arith, encode_utf8_all, append-nil, length-append}
use Rattle.std.specs.List.{filter, slice_get, insert}
use Rattle.std.specs.Char.{encode_utf8}
use Rattle.std.proofs.lemmas.Str.{encodes-append, length-encode, len_utf8_bounds}
use Rattle.std.proofs.lemmas.List.{map-append, take-append-drop}
use Rattle.std.proofs.lemmas.Option.{none-some, same_Some}
use Rattle.std.proofs.lemmas.List.Edits.{length-insert}
use Rattle.std.proofs.lemmas.List.Elements.{filter-append}
use Rattle.std.proofs.lemmas.Grind.{common_steps}
use Rattle.change_ops.specs.Runs.{next_id}
use Rattle.change_ops.specs.declared.id.OpId.{OpId}
use Rattle.char_sequence.specs.declared.sequence.Element.{Element}
use Rattle.char_sequence.specs.Visible.{visible_text}
use Rattle.char_sequence.specs.RunElements.{elements_from, insert_all}

pub visible_none : visible_text [] ≡ []
unfolding visible_text
visible_none = refl

pub visible_append : (xs ys : List Element) → visible_text (xs ++ ys) ≡ visible_text xs ++ visible_text ys
unfolding visible_text
visible_append xs ys =
    ap (λ es. encode_utf8_all (map (λ e. e.character) es)) (filter-append (λ e. e.visible) xs ys)
    ∙ ap encode_utf8_all (map-append (λ e. e.character) (filter (λ e. e.visible) xs) (filter (λ e. e.visible) ys))
    ∙ encodes-append (map (λ e. e.character) (filter (λ e. e.visible) xs)) (map (λ e. e.character) (filter (λ e. e.visible) ys))

pub visible_one : (e : Element) → e.visible ≡ true → visible_text (e ∷ []) ≡ encode_utf8 e.character
unfolding visible_text
visible_one e t = ap (λ b. encode_utf8_all (map (λ z. z.character) (cond b (e ∷ []) []))) t ∙ append-nil (encode_utf8 e.character)

pub hidden_one : (e : Element) → e.visible ≡ false → visible_text (e ∷ []) ≡ []
unfolding visible_text
hidden_one e f = ap (λ b. encode_utf8_all (map (λ z. z.character) (cond b (e ∷ []) []))) f

-- a character has at most four bytes
pub one_most : (e : Element) → length (visible_text (e ∷ [])) ≤ 4
one_most e =
    let bound = (len_utf8_bounds e.character).1 in
    let size = length-encode e.character in
    elim e.visible as (λ b. e.visible ≡ b → length (visible_text (e ∷ [])) ≤ 4) [
      | true ↦ λ t. let is = ap length (visible_one e t) in omega (arith, is, size, bound)
      | false ↦ λ f. let is = ap length (hidden_one e f) in omega (arith, is)
    ] refl

take_next : (es : List Element) (i : ℕ) (e : Element) → i < length es → e ≡ get_or es i e → take (i + 1) es ≡ take i es ++ e ∷ []
take_next es i e h is = grind (arith, common_steps)

-- one more of them
pub visible_more : (es : List Element) (i : ℕ) (e : Element) → i < length es → e ≡ get_or es i e → e.visible ≡ true → visible_text (take (i + 1) es) ≡ visible_text (take i es) ++ encode_utf8 e.character
visible_more es i e h is t =
    ap visible_text (take_next es i e h is) ∙ visible_append (take i es) (e ∷ []) ∙ ap (λ bs. visible_text (take i es) ++ bs) (visible_one e t)

pub hidden_more : (es : List Element) (i : ℕ) (e : Element) → i < length es → e ≡ get_or es i e → e.visible ≡ false → visible_text (take (i + 1) es) ≡ visible_text (take i es)
hidden_more es i e h is f =
    ap visible_text (take_next es i e h is) ∙ visible_append (take i es) (e ∷ []) ∙ ap (λ bs. visible_text (take i es) ++ bs) (hidden_one e f) ∙ append-nil (visible_text (take i es))

-- no front of them has a longer text
pub visible_front : (es : List Element) (i : ℕ) → length (visible_text (take i es)) ≤ length (visible_text es)
visible_front es i =
    let split : es ≡ take i es ++ drop i es = grind (arith, common_steps) in
    let whole : length (visible_text es) ≡ length (visible_text (take i es)) + length (visible_text (drop i es)) =
    ap (λ l. length (visible_text l)) split ∙ ap length (visible_append (take i es) (drop i es)) ∙ length-append (visible_text (take i es)) (visible_text (drop i es))
    in
    omega arith

-- at most four bytes a character
pub visible_most : (es : List Element) → length (visible_text es) ≤ 4 * length es
visible_most [] = let none = ap length visible_none in omega (arith, none)
visible_most (e ∷ es) =
    let rest = visible_most es in
    let split : length (visible_text (e ∷ es)) ≡ length (visible_text (e ∷ [])) + length (visible_text es) =
    ap length (visible_append (e ∷ []) es) ∙ length-append (visible_text (e ∷ [])) (visible_text es)
    in
    let one = one_most e in
    omega arith

-- ---- as elements change
pub bytes_append : (xs ys : List Element) → length (visible_text (xs ++ ys)) ≡ length (visible_text xs) + length (visible_text ys)
bytes_append xs ys = ap length (visible_append xs ys) ∙ length-append (visible_text xs) (visible_text ys)

pub bytes_next : (x : Element) (xs : List Element) → length (visible_text (x ∷ xs)) ≡ length (visible_text (x ∷ [])) + length (visible_text xs)
bytes_next x xs = bytes_append (x ∷ []) xs

pub bytes_insert : (es : List Element) (k : ℕ) (e : Element) → k ≤ length es → length (visible_text (insert es k e)) ≡ length (visible_text es) + length (visible_text (e ∷ []))
bytes_insert es zero e h = let one = bytes_next e es in omega (arith, one)
bytes_insert [] (suc k) e h = absurd (omega arith)
bytes_insert (x ∷ xs) (suc k) e h =
    let rest = bytes_insert xs k e (omega arith) in
    let new = bytes_next x (insert xs k e) in
    let old = bytes_next x xs in
    omega (arith, rest, new, old)

pub bytes_insert_all : (added es : List Element) (k : ℕ) → k ≤ length es → length (visible_text (insert_all es k added)) ≡ length (visible_text es) + length (visible_text added)
bytes_insert_all [] es k h = let none = ap length visible_none in omega (arith, none)
bytes_insert_all (e ∷ added) es k h =
    let size = length-insert es k e h in
    let rest = bytes_insert_all added (insert es k e) (k + 1) (omega (arith, size)) in
    let first = bytes_insert es k e h in
    let both = bytes_next e added in
    omega (arith, rest, first, both)

-- an element that is hidden makes the text no longer
pub bytes_hidden : (es : List Element) (k : ℕ) (x e : Element) → slice_get es k ≡ Some x → e.visible ≡ false → length (visible_text (set es k e)) ≤ length (visible_text es)
bytes_hidden [] k x e g f = absurd (none-some x g)
bytes_hidden (y ∷ ys) zero x e g f =
    let none = ap length (hidden_one e f) in
    let new = bytes_next e ys in
    let old = bytes_next y ys in
    omega (arith, none, new, old)
bytes_hidden (y ∷ ys) (suc k) x e g f =
    let rest = bytes_hidden ys k x e g f in
    let new = bytes_next y (set ys k e) in
    let old = bytes_next y ys in
    omega (arith, rest, new, old)

-- an element that is shown makes the text longer by its character
pub bytes_shown : (es : List Element) (k : ℕ) (x e : Element) → slice_get es k ≡ Some x → x.visible ≡ false → e.visible ≡ true → length (visible_text (set es k e)) ≡ length (visible_text es) + length (encode_utf8 e.character)
bytes_shown [] k x e g f t = absurd (none-some x g)
bytes_shown (y ∷ ys) zero x e g f t =
    let none = ap length (hidden_one y (ap (λ (z : Element). z.visible) (same_Some y x g) ∙ f)) in
    let one = ap length (visible_one e t) in
    let new = bytes_next e ys in
    let old = bytes_next y ys in
    omega (arith, none, one, new, old)
bytes_shown (y ∷ ys) (suc k) x e g f t =
    let rest = bytes_shown ys k x e g f t in
    let new = bytes_next y (set ys k e) in
    let old = bytes_next y ys in
    omega (arith, rest, new, old)

-- ---- runs
pub run_text : (cs : List ℕ) (id : OpId) → visible_text (elements_from id cs) ≡ encode_utf8_all cs
run_text [] id = visible_none
run_text (c ∷ cs) id =
    let e : Element = record { id = id; character = c; visible = true } in
    visible_append (e ∷ []) (elements_from (next_id id) cs)
    ∙ ap (λ bs. bs ++ visible_text (elements_from (next_id id) cs)) (visible_one e refl)
    ∙ ap (λ bs. encode_utf8 c ++ bs) (run_text cs (next_id id))

-- no front of them has a longer text
pub front_bytes : (n : ℕ) (cs : List ℕ) → length (encode_utf8_all (take n cs)) ≤ length (encode_utf8_all cs)
front_bytes n cs =
    let whole : length (encode_utf8_all cs) ≡ length (encode_utf8_all (take n cs)) + length (encode_utf8_all (drop n cs)) =
    ap (λ l. length (encode_utf8_all l)) (sym (take-append-drop n cs)) ∙ ap length (encodes-append (take n cs) (drop n cs)) ∙ length-append (encode_utf8_all (take n cs)) (encode_utf8_all (drop n cs))
    in
    omega (arith, whole)
