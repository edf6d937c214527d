-- Changes are accepted one after the other just if their operations are.
use Rattle.std.proofs.Common.{◌≡◌, ℕ, zero, suc, ◌+◌, ◌-◌, ◌<◌, ◌≤◌, List, [], ◌∷◌, ◌++◌, Some, length, get_or, take, refl, sym, ap, subst, ◌∙◌, arith, inl, inr, append_assoc, length-append, length-take}
use Rattle.std.specs.List.{slice_get}
use Rattle.std.proofs.lemmas.Bool.{cases_lt}
use Rattle.std.proofs.lemmas.List.{append-nil, take-append-le}
use Rattle.std.proofs.lemmas.Option.{none-some, same_Some, slice_get-get_or}
use Rattle.change_ops.specs.declared.operation.Op.{Op}
use Rattle.change_ops.specs.declared.size.Size.{Size}
use Rattle.change_ops.specs.Sizes.{most_changes}
use Rattle.change_ops.specs.Changes.{Change, operations}
use Rattle.change_history.specs.Accepted.{operations_of, MayFollow, AllFollow, IsAccepted, AreAccepted}
use Rattle.change_history.proofs.Chronicle.{operations_of-push}

-- ---- two lists, one behind the other
get_left : {X : Type 0} (xs ys : List X) (i : ℕ) → i < length xs → slice_get (xs ++ ys) i ≡ slice_get xs i
get_left [] ys i lt = absurd (omega arith)
get_left (x ∷ xs) ys zero lt = refl
get_left (x ∷ xs) ys (suc i) lt = get_left xs ys i (omega arith)

get_right : {X : Type 0} (xs ys : List X) (i j : ℕ) → i ≡ length xs + j → slice_get (xs ++ ys) i ≡ slice_get ys j
get_right [] ys i j e = let same : i ≡ j = omega (arith, e) in ap (slice_get ys) same
get_right (x ∷ xs) ys zero j e = absurd (omega arith)
get_right (x ∷ xs) ys (suc i) j e = get_right xs ys i j (omega arith)

take_right : {X : Type 0} (xs ys : List X) (i j : ℕ) → i ≡ length xs + j → take i (xs ++ ys) ≡ xs ++ take j ys
take_right [] ys i j e = let same : i ≡ j = omega (arith, e) in ap (λ (n : ℕ). take n ys) same
take_right (x ∷ xs) ys zero j e = absurd (omega arith)
take_right (x ∷ xs) ys (suc i) j e = ap (λ (l : List _). x ∷ l) (take_right xs ys i j (omega arith))

-- ---- operations that are accepted
module _ (size : Size) where
  abbrev Follow : List Op → List Op → Type 0
  Follow ops added = AllFollow size ops added (length added)

  both_follow : (ops a b : List Op) → Follow ops a → Follow (ops ++ a) b → Follow ops (a ++ b)
  both_follow ops a b h k = λ i op below g. elim (cases_lt i (length a)) [
    | inl low ↦ subst (λ (l : List Op). MayFollow size (ops ++ l) op) (sym (take-append-le i a b (omega arith))) (h i op low (sym (get_left a b i low) ∙ g))
    | inr high ↦
        let j = i - length a in
        let at : i ≡ length a + j = omega arith in
        let lt : j < length b = omega (arith, length-append a b) in
        let moved : (ops ++ a) ++ take j b ≡ ops ++ take i (a ++ b) = append_assoc ops a (take j b) ∙ ap (λ (l : List Op). ops ++ l) (sym (take_right a b i j at)) in
        subst (λ (l : List Op). MayFollow size l op) moved (k j op lt (sym (get_right a b i j at) ∙ g))
  ]

  first_follow : (ops a b : List Op) → Follow ops (a ++ b) → Follow ops a
  first_follow ops a b h = λ i op below g.
      let lt : i < length (a ++ b) = omega (arith, length-append a b) in
      subst (λ (l : List Op). MayFollow size (ops ++ l) op) (take-append-le i a b (omega arith)) (h i op lt (get_left a b i below ∙ g))

  second_follow : (ops a b : List Op) → Follow ops (a ++ b) → Follow (ops ++ a) b
  second_follow ops a b h = λ j op below g.
      let i = length a + j in
      let lt : i < length (a ++ b) = omega (arith, length-append a b) in
      let moved : ops ++ take i (a ++ b) ≡ (ops ++ a) ++ take j b = ap (λ (l : List Op). ops ++ l) (take_right a b i j refl) ∙ sym (append_assoc ops a (take j b)) in
      subst (λ (l : List Op). MayFollow size l op) moved (h i op lt (get_right a b i j refl ∙ g))

  -- ---- changes that are accepted behind others
  abbrev AcceptedAfter : List Change → List Change → Type 0
  AcceptedAfter before changes = (n : ℕ) (change : Change) → slice_get changes n ≡ Some change → IsAccepted size (before ++ take n changes) change

  follows : (changes before : List Change) → AcceptedAfter before changes → Follow (operations_of before) (operations_of changes)
  unfolding operations_of
  follows [] before h = λ i op below g. absurd (none-some op g)
  follows (change ∷ changes) before h =
      let here : IsAccepted size before change = subst (λ (b : List Change). IsAccepted size b change) (append-nil before) (h 0 change refl) in
      let rest : AcceptedAfter (before ++ change ∷ []) changes = λ n other g. subst (λ (b : List Change). IsAccepted size b other) (sym (append_assoc before (change ∷ []) (take n changes))) (h (suc n) other g) in
      both_follow (operations_of before) (operations change) (operations_of changes) here.follow
      (subst (λ (ops : List Op). Follow ops (operations_of changes)) (operations_of-push before change) (follows changes (before ++ change ∷ []) rest))

  accepts : (changes before : List Change) → length before + length changes ≤ most_changes size → Follow (operations_of before) (operations_of changes) → AcceptedAfter before changes
  unfolding operations_of
  accepts [] before few h n other g = absurd (none-some other g)
  accepts (change ∷ changes) before few h zero other g =
      let one : IsAccepted size before change = record { room = omega arith; follow = first_follow (operations_of before) (operations change) (operations_of changes) h } in
      subst (λ (b : List Change). IsAccepted size b other) (sym (append-nil before)) (subst (λ (c : Change). IsAccepted size before c) (same_Some change other g) one)
  accepts (change ∷ changes) before few h (suc n) other g =
      let more = before ++ change ∷ [] in
      let fit : length more + length changes ≤ most_changes size = omega (arith, length-append before (change ∷ [])) in
      let rest : Follow (operations_of more) (operations_of changes) =
      subst (λ (ops : List Op). Follow ops (operations_of changes)) (sym (operations_of-push before change)) (second_follow (operations_of before) (operations change) (operations_of changes) h) in
      subst (λ (b : List Change). IsAccepted size b other) (append_assoc before (change ∷ []) (take n changes)) (accepts changes more fit rest n other g)

  few_accepted : (changes : List Change) → AreAccepted size changes → length changes ≤ most_changes size
  few_accepted [] all = omega arith
  few_accepted (first ∷ others) all =
      let changes = first ∷ others in
      let last = length others in
      let here : slice_get changes last ≡ Some (get_or changes last first) = slice_get-get_or changes last first (omega arith) in
      let room : length (take last changes) < most_changes size = (all last (get_or changes last first) here).room in
      omega (arith, length-take last changes)

  -- of the same operations in no more changes
  pub accepted_again : (changes new : List Change) → operations_of new ≡ operations_of changes → length new ≤ length changes → AreAccepted size changes → AreAccepted size new
  accepted_again changes new same few all =
      let most = few_accepted changes all in
      let before : Follow (operations_of []) (operations_of changes) = follows changes [] all in
      accepts new [] (omega (arith, most, few)) (subst (λ (ops : List Op). Follow (operations_of []) ops) (sym same) before)
