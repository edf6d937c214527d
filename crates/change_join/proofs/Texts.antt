-- The texts of joined changes, one behind the other.
use Rattle.std.proofs.Common.{◌≡◌, ℕ, ◌+◌, ◌<◌, ◌≤◌, true, false, List, [], ◌∷◌, ◌++◌, length, get_or, drop, refl, sym, ap, ◌∙◌, arith, append_assoc, add-one, drop-cons}
use Rattle.std.specs.List.{flat_map}
use Rattle.std.proofs.lemmas.List.{append-nil, drop_all}
use Rattle.change_ops.specs.Changes.{Change}
use Rattle.change_ops.specs.Spelling.{change_text}
use Rattle.change_join.specs.Joined.{can_join, both_of, joined_with, joined}

-- the texts of a change and those behind it, joined
unfoldable pub texts_with : Change → List Change → List ℕ
texts_with change others = flat_map change_text (joined_with change others)

next_is : (others : List Change) (next : Change) (i : ℕ) → i < length others → next ≡ get_or others i next → drop i others ≡ next ∷ drop (i + 1) others
next_is others next i lt is = rw (add-one, drop-cons others i next lt, ← is) refl

pub texts_joined : (others : List Change) (change next : Change) (i : ℕ) (old total : List ℕ) → i < length others → next ≡ get_or others i next → can_join change next ≡ true
    → old ++ texts_with change (drop i others) ≡ total → old ++ texts_with (both_of change next) (drop (i + 1) others) ≡ total
unfolding texts_with joined_with
texts_joined others change next i old total lt is can so_far =
    let one : texts_with change (drop i others) ≡ texts_with (both_of change next) (drop (i + 1) others) = rw (next_is others next i lt is, can) refl in
    ap (λ (x : List ℕ). old ++ x) (sym one) ∙ so_far

pub texts_apart : (others : List Change) (change next : Change) (i : ℕ) (old new total : List ℕ) → i < length others → next ≡ get_or others i next → can_join change next ≡ false
    → new ≡ old ++ change_text change → old ++ texts_with change (drop i others) ≡ total → new ++ texts_with next (drop (i + 1) others) ≡ total
unfolding texts_with joined_with
texts_apart others change next i old new total lt is can written so_far =
    let rest = texts_with next (drop (i + 1) others) in
    let one : texts_with change (drop i others) ≡ change_text change ++ rest = rw (next_is others next i lt is, can) refl in
    ap (λ (x : List ℕ). x ++ rest) written ∙ append_assoc old (change_text change) rest ∙ ap (λ (x : List ℕ). old ++ x) (sym one) ∙ so_far

pub texts_done : (others : List Change) (change : Change) (i : ℕ) (old new total : List ℕ) → length others ≤ i → new ≡ old ++ change_text change
    → old ++ texts_with change (drop i others) ≡ total → new ≡ total
unfolding texts_with joined_with
texts_done others change i old new total le written so_far =
    let one : texts_with change (drop i others) ≡ change_text change ++ [] = rw (drop_all i others le) refl in
    written ∙ ap (λ (x : List ℕ). old ++ x) (sym (append-nil (change_text change)) ∙ sym one) ∙ so_far

pub texts_none : (changes : List Change) (text : List ℕ) → length changes ≡ 0 → text ≡ [] → text ≡ flat_map change_text (joined changes)
unfolding joined
texts_none [] text none empty = empty
texts_none (change ∷ others) text some empty = absurd (omega arith)

pub texts_begun : (changes others : List Change) (change : Change) (text : List ℕ) → changes ≡ change ∷ others → text ≡ [] → text ++ texts_with change others ≡ flat_map change_text (joined changes)
unfolding texts_with joined
texts_begun changes others change text are empty = ap (λ (x : List ℕ). x ++ texts_with change others) empty ∙ sym (ap (λ (x : List Change). flat_map change_text (joined x)) are)
