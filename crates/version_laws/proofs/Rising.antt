-- Lists of elements in one strict order of their ids.
use Rattle.std.proofs.Common.{◌≡◌, ℕ, zero, suc, ◌+◌, ◌<◌, ◌⊎◌, List, [], ◌∷◌, ◌++◌, Some, inl, inr, length, take, drop, refl, sym, ap, subst, ◌∙◌, arith, ⊎_elim}
use Rattle.std.specs.List.{slice_get}
use Rattle.std.proofs.lemmas.Option.{same_Some, none-some, slice_get_within}
use Rattle.change_ops.specs.declared.id.OpId.{OpId}
use Rattle.char_sequence.specs.declared.sequence.Element.{Element}
use Rattle.char_sequence.proofs.Lists.{InOrder}
use Rattle.version_laws.proofs.Lists.{get_ahead, get_behind}

abbrev pub Has : List Element → Element → Type 0
Has xs x = (i : ℕ) × (slice_get xs i ≡ Some x)

pub has_left : (xs ys : List Element) (x : Element) → Has xs x → Has (xs ++ ys) x
has_left xs ys x (i, g) = (i, get_ahead xs ys i x g)

pub has_right : (xs ys : List Element) (y : Element) → Has ys y → Has (xs ++ ys) y
has_right xs ys y (i, g) = (length xs + i, get_behind xs ys i ∙ g)

pub has_cases : (xs ys : List Element) (z : Element) → Has (xs ++ ys) z → Has xs z ⊎ Has ys z
has_cases [] ys z h = inr h
has_cases (x ∷ xs) ys z (zero, g) = inl (zero, g)
has_cases (x ∷ xs) ys z (suc i, g) =
    ⊎_elim
    (λ (h : Has xs z). inl (suc h.0, h.1))
    (λ (h : Has ys z). inr h)
    (has_cases xs ys z (i, g))

pub get_drop : (n : ℕ) (xs : List Element) (i : ℕ) → slice_get (drop n xs) i ≡ slice_get xs (n + i)
get_drop zero xs i = let same : i ≡ zero + i = omega arith in ap (slice_get xs) same
get_drop (suc n) [] i = refl
get_drop (suc n) (x ∷ xs) i = let same : suc (n + i) ≡ suc n + i = omega arith in get_drop n xs i ∙ ap (slice_get (x ∷ xs)) same

pub get_take : (n : ℕ) (xs : List Element) (i : ℕ) (x : Element) → slice_get (take n xs) i ≡ Some x → (i < n) × (slice_get xs i ≡ Some x)
get_take zero xs i x g = absurd (none-some x g)
get_take (suc n) [] i x g = absurd (none-some x g)
get_take (suc n) (y ∷ ys) zero x g = (omega arith, g)
get_take (suc n) (y ∷ ys) (suc i) x g = let r = get_take n ys i x g in let low : i < n = r.0 in (omega arith, r.1)

pub get_taken : (n : ℕ) (xs : List Element) (i : ℕ) → i < n → slice_get (take n xs) i ≡ slice_get xs i
get_taken zero xs i less = absurd (omega arith)
get_taken (suc n) [] i less = refl
get_taken (suc n) (x ∷ xs) zero less = refl
get_taken (suc n) (x ∷ xs) (suc i) less = get_taken n xs i (omega arith)

-- the list has the element's id
abbrev pub Named : List Element → Element → Type 0
Named ys x = (y : Element) × Has ys y × (y.id ≡ x.id)

-- the ids stand in this order
abbrev pub Rises : (OpId → OpId → Type 0) → List Element → Type 0
Rises R xs = InOrder (λ (x y : Element). R x.id y.id) xs

-- The list in two parts: those before the first element that the rest of another list has, and those from it on.
pub record IsDivided (changed rest xs : List Element) : Type 0 where
  pub before : List Element
  pub from : List Element
  pub whole : xs ≡ before ++ from
  pub named_before : (x : Element) → Has before x → Named changed x
  pub named_from : (x : Element) → Has from x → Named rest x

-- ---- two lists in one strict order of ids, of which the second has each id of the first
module _ (R : OpId → OpId → Type 0) (asym : (a b : OpId) → R a b → R b a → ⊥) where
  pub rises_tail : (x : Element) (xs : List Element) → Rises R (x ∷ xs) → Rises R xs
  rises_tail x xs o i j a b l g h = o (suc i) (suc j) a b (omega arith) g h

  pub rises_head : (x : Element) (xs : List Element) → Rises R (x ∷ xs) → (y : Element) → Has xs y → R x.id y.id
  rises_head x xs o y (i, g) = o zero (suc i) x y (omega arith) refl g

  pub rises_right : (xs ys : List Element) → Rises R (xs ++ ys) → Rises R ys
  rises_right [] ys o = o
  rises_right (x ∷ xs) ys o = rises_right xs ys (rises_tail x (xs ++ ys) o)

  pub rises_across : (xs ys : List Element) → Rises R (xs ++ ys) → (x y : Element) → Has xs x → Has ys y → R x.id y.id
  rises_across xs ys o x y (i, g) (j, h) =
      let within : i < length xs = slice_get_within xs i x g in
      o i (length xs + j) x y (omega arith) (get_ahead xs ys i x g) (get_behind xs ys j ∙ h)

  pub rises_drop : (n : ℕ) (xs : List Element) → Rises R xs → Rises R (drop n xs)
  rises_drop n xs o i j x y less g h = o (n + i) (n + j) x y (omega arith) (sym (get_drop n xs i) ∙ g) (sym (get_drop n xs j) ∙ h)

  -- with one id, none stands before the other
  pub clash : (a b : OpId) → a ≡ b → R a b → ⊥
  clash a b e r = let s : R b b = subst (λ z. R z b) e r in asym b b s s

  -- the first ones of the second list, which are in the first list too, are its first ones
  pub prefix : (first rest xs : List Element) → Rises R (first ++ rest) → Rises R xs → ((x : Element) → Has xs x → Named (first ++ rest) x) → ((f : Element) → Has first f → Has xs f)
      → (tail : List Element) × ((xs ≡ first ++ tail) × ((x : Element) → Has tail x → Named rest x))
  prefix [] rest xs o p named held = (xs, (refl, named))
  prefix (f ∷ first) rest [] o p named held = absurd (none-some f (held f (zero, refl)).1)
  prefix (f ∷ first) rest (x ∷ xs) o p named held = at (λ n h. prefix first rest xs (rises_tail f (first ++ rest) o) (rises_tail x xs p) n h) (held f (zero, refl))
    where
      at : (((z : Element) → Has xs z → Named (first ++ rest) z) → ((z : Element) → Has first z → Has xs z) → (tail : List Element) × ((xs ≡ first ++ tail) × ((z : Element) → Has tail z → Named rest z)))
          → Has (x ∷ xs) f → (tail : List Element) × ((x ∷ xs ≡ f ∷ (first ++ tail)) × ((x : Element) → Has tail x → Named rest x))
      at again (zero, g) =
          let one : x ≡ f = same_Some x f g in
          let r = again (λ z at. name z at (named z (suc at.0, at.1))) (λ z at. hold z at (held z (suc at.0, at.1))) in
          (r.0, (ap (λ l. x ∷ l) r.1.0 ∙ ap (λ z. z ∷ (first ++ r.0)) one, r.1.1))
        where
          name : (z : Element) → Has xs z → Named (f ∷ (first ++ rest)) z → Named (first ++ rest) z
          name z at (y, (zero, h), e) =
              let same : x.id ≡ z.id = ap (λ w. w.id) (same_Some x f g ∙ same_Some f y h) ∙ e in
              absurd (clash x.id z.id same (rises_head x xs p z at))
          name z at (y, (suc j, h), e) = (y, (j, h), e)

          hold : (z : Element) → Has first z → Has (x ∷ xs) z → Has xs z
          hold z at (zero, h) =
              let same : f.id ≡ z.id = ap (λ w. w.id) (sym (same_Some x f g) ∙ same_Some x z h) in
              absurd (clash f.id z.id same (rises_head f (first ++ rest) o z (has_left first rest z at)))
          hold z at (suc j, h) = (j, h)
      at again (suc i, g) = absurd (no (named x (zero, refl)))
        where
          before : R x.id f.id
          before = rises_head x xs p f (i, g)

          no : Named (f ∷ (first ++ rest)) x → ⊥
          no (y, (zero, h), e) = clash x.id f.id (sym (ap (λ w. w.id) (same_Some f y h) ∙ e)) before
          no (y, (suc j, h), e) = asym x.id f.id before (subst (λ z. R f.id z) e (rises_head f (first ++ rest) o y (j, h)))

  -- a list falls into what the first part of another one has, and what its rest has
  pub divided : (changed rest xs : List Element) → Rises R (changed ++ rest) → Rises R xs → ((x : Element) → Has xs x → Named (changed ++ rest) x) → IsDivided changed rest xs
  divided changed rest [] o p named = record {
    before = [];
    from = [];
    whole = refl;
    named_before = λ x h. absurd (none-some x h.1);
    named_from = λ x h. absurd (none-some x h.1);
  }
  divided changed rest (x ∷ xs) o p named = at (divided changed rest xs o (rises_tail x xs p) (λ z h. named z (suc h.0, h.1))) (named x (zero, refl))
    where
      at : IsDivided changed rest xs → Named (changed ++ rest) x → IsDivided changed rest (x ∷ xs)
      at later (y, held, e) =
          ⊎_elim
          (λ (u : Has changed y). more u)
          (λ (u : Has rest y). here u)
          (has_cases changed rest y held)
        where
          more : Has changed y → IsDivided changed rest (x ∷ xs)
          more u = record {
            before = x ∷ later.before;
            from = later.from;
            whole = ap (λ l. x ∷ l) later.whole;
            named_before = first;
            named_from = later.named_from;
          }
            where
              first : (z : Element) → Has (x ∷ later.before) z → Named changed z
              first z (zero, g) = (y, u, e ∙ ap (λ w. w.id) (same_Some x z g))
              first z (suc j, g) = later.named_before z (j, g)

          here : Has rest y → IsDivided changed rest (x ∷ xs)
          here u = record {
            before = [];
            from = x ∷ xs;
            whole = refl;
            named_before = λ z h. absurd (none-some z h.1);
            named_from = λ z h. behind z h (named z h);
          }
            where
              behind : (z : Element) → Has (x ∷ xs) z → Named (changed ++ rest) z → Named rest z
              behind z (zero, g) n = (y, u, e ∙ ap (λ w. w.id) (same_Some x z g))
              behind z (suc j, g) (w, h, same) =
                  ⊎_elim
                  (λ (v : Has changed w).
                  let first : R z.id x.id = subst (λ a. R a x.id) same (subst (λ b. R w.id b) e (rises_across changed rest o w y v u)) in
                  absurd (asym x.id z.id (rises_head x xs p z (j, g)) first))
                  (λ (v : Has rest w). (w, v, same))
                  (has_cases changed rest w h)
