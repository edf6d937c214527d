-- The index from ids to chunks, as elements are put in, hidden, and chunks split.
use Rattle.std.proofs.Common.{◌≡◌, ◌≢◌, ℕ, zero, suc, ◌+◌, ◌-◌, ◌<◌, ◌≤◌, Bool, true, false, List, [], ◌∷◌, ◌++◌, Option, Some, None, get_or, is_some, IsSome, inl, inr, ◌⊎◌, length, set, take, drop, sym, ap, refl, ◌∙◌, subst, arith, ⊎_elim}
use Rattle.std.proofs.Math.ListN.{length-set}
use Rattle.std.specs.List.{slice_get, insert}
use Rattle.std.specs.Option.{MatchOption}
use Rattle.std.proofs.lemmas.Option.{same_Some, none-some, slice_get_within, slice_get-get_or}
use Rattle.std.proofs.lemmas.Bool.{cases_eq, cases_lt, false≢true}
use Rattle.std.proofs.lemmas.List.Edits.{length-insert}
use Rattle.std.proofs.lemmas.Grind.{common_steps}
use Rattle.change_ops.specs.declared.id.OpId.{OpId}
use Rattle.char_sequence.specs.declared.sequence.Element.{Element}
use Rattle.char_sequence.specs.Order.{IsAt}
use Rattle.char_sequence.specs.Index.{same_id, HasId}
use Rattle.char_sequence.specs.Places.{IsAfter}
use Rattle.char_sequence.specs.declared.chunk_list.Room.{Room}
use Rattle.char_sequence.specs.declared.chunk_list.Room.TheVariants.{First, In}
use Rattle.char_sequence.specs.Rooms.{IsRoom}
use Rattle.char_sequence.specs.Chunks.{joined, start_of, ChunkList, IsIndexed, IsKept, IsSpot, IsSpotOf}
use Rattle.char_sequence.specs.Named.{IsAboveAll}
use Rattle.char_sequence.proofs.Ids.{id_found, same_id_cases}
use Rattle.char_sequence.proofs.Lists.{inserted_cases, inserted_here, inserted_still, slice_get_set_same, slice_get_set_other, set_cases}
use Rattle.char_sequence.proofs.Joined.{get_left, joined_get, joined_found, joined_insert, joined_set, joined_split, split_left, split_right, split_start, split_start_right, start_after_chunk, start_within}

-- an id of one chunk is one of all
pub has_joined : (cs : List (List Element)) (i : ℕ) (c : List Element) (id : OpId) → slice_get cs i ≡ Some c → HasId c id → HasId (joined cs) id
has_joined cs i c id here (k, (e, g, is)) = (start_of cs i + k, (e, joined_get cs i c k here (slice_get_within c k e g) ∙ g, is))

pub indexed_id : (cs : List (List Element)) (names : List ℕ) (index : OpId → Option ℕ) → IsIndexed cs names index → (id : OpId) (n : ℕ) → index id ≡ Some n → HasId (joined cs) id
indexed_id cs names index ok id n e =
    let r = ok.behind id n e in
    has_joined cs r.0 r.1.0 id r.1.2 r.1.3

pub not_indexed_id : (cs : List (List Element)) (names : List ℕ) (index : OpId → Option ℕ) → IsIndexed cs names index → (id : OpId) → index id ≡ None → HasId (joined cs) id → ⊥
not_indexed_id cs names index ok id e (p, (x, g, is)) =
    let r = joined_found cs p x g in
    ok.listed r.0 r.1.0 r.1.1.1 r.1.1.0 x r.1.1.2 (ap (λ z. index z) is ∙ e)

-- what stands behind an index stands among all
pub dropped : {X : Type 0} (xs : List X) (n k : ℕ) (x : X) → slice_get (drop n xs) k ≡ Some x → (i : ℕ) × (slice_get xs i ≡ Some x)
dropped xs zero k x g = (k, g)
dropped [] (suc n) k x g = absurd (none-some x g)
dropped (y ∷ ys) (suc n) k x g = let r = dropped ys n k x g in (suc r.0, r.1)

-- ---- an element put into a chunk
pub indexed_put : (cs : List (List Element)) (names : List ℕ) (index more : OpId → Option ℕ) (i : ℕ) (c : List Element) (n k : ℕ) (e : Element) → IsIndexed cs names index → slice_get cs i ≡ Some c → slice_get names i ≡ Some n → k ≤ length c → more e.id ≡ Some n → ((q : OpId) → same_id e.id q ≡ false → more q ≡ index q) → IsIndexed (set cs i (insert c k e)) names more
indexed_put cs names index more i c n k e ok here name h new other =
    let d = insert c k e in
    let within : i < length cs = slice_get_within cs i c here in
    record {
      counted = ok.counted ∙ sym (length-set cs i d);
      behind =
          λ id m found.
          ⊎_elim
          (λ (same : e.id ≡ id).
          let is : n ≡ m = same_Some n m (sym new ∙ ap (λ z. more z) same ∙ found) in
          (i, (d, name ∙ ap Some is, slice_get_set_same cs i d within, (k, (e, inserted_here c k e h, same)))))
          (λ (apart : same_id e.id id ≡ false).
          let r = ok.behind id m (sym (other id apart) ∙ found) in
          ⊎_elim
          (λ (same : r.0 ≡ i).
          let one : r.1.0 ≡ c = same_Some r.1.0 c (sym r.1.2 ∙ ap (slice_get cs) same ∙ here) in
          let old : HasId c id = subst (λ z. HasId z id) one r.1.3 in
          let s = inserted_still c k e old.0 old.1.0 h old.1.1 in
          (i, (d, ap (slice_get names) (sym same) ∙ r.1.1, slice_get_set_same cs i d within, (s.0, (old.1.0, s.1, old.1.2)))))
          (λ (off : r.0 ≡ i → ⊥). (r.0, (r.1.0, r.1.1, slice_get_set_other cs i r.0 d off ∙ r.1.2, r.1.3)))
          (cases_eq r.0 i))
          (same_id_cases e.id id);
      listed =
          λ j b g p x gx none.
          ⊎_elim
          (λ (same : e.id ≡ x.id). none-some n (sym none ∙ ap (λ z. more z) (sym same) ∙ new))
          (λ (apart : same_id e.id x.id ≡ false).
          let gone : index x.id ≡ None = sym (other x.id apart) ∙ none in
          ⊎_elim
          (λ (u : (j ≡ i) × (d ≡ b)).
          let at : slice_get d p ≡ Some x = ap (λ z. slice_get z p) u.1 ∙ gx in
          ⊎_elim
          (λ (v : (p < k) × (slice_get c p ≡ Some x)). ok.listed i c here p x v.1 gone)
          (λ (v : ((p ≡ k) × (e ≡ x)) ⊎ ((q : ℕ) × (p ≡ suc q) × (k ≤ q) × (slice_get c q ≡ Some x))).
          ⊎_elim
          (λ (w : (p ≡ k) × (e ≡ x)). false≢true (sym apart ∙ ap (λ z. same_id e.id z.id) (sym w.1) ∙ id_found e.id))
          (λ (w : (q : ℕ) × (p ≡ suc q) × (k ≤ q) × (slice_get c q ≡ Some x)). ok.listed i c here w.0 x w.3 gone)
          v)
          (inserted_cases c k e p x h at))
          (λ (u : (j ≢ i) × (slice_get cs j ≡ Some b)). ok.listed j b u.1 p x gx gone)
          (set_cases cs i d j b within g))
          (same_id_cases e.id x.id);
    }

-- ---- an element changed, of the same id
pub indexed_changed : (cs : List (List Element)) (names : List ℕ) (index : OpId → Option ℕ) (i : ℕ) (c : List Element) (k : ℕ) (o e : Element) → IsIndexed cs names index → slice_get cs i ≡ Some c → slice_get c k ≡ Some o → e.id ≡ o.id → IsIndexed (set cs i (set c k e)) names index
indexed_changed cs names index i c k o e ok here old is_id =
    let d = set c k e in
    let within : i < length cs = slice_get_within cs i c here in
    let low : k < length c = slice_get_within c k o old in
    record {
      counted = ok.counted ∙ sym (length-set cs i d);
      behind =
          λ id m found.
          let r = ok.behind id m found in
          ⊎_elim
          (λ (same : r.0 ≡ i).
          let one : r.1.0 ≡ c = same_Some r.1.0 c (sym r.1.2 ∙ ap (slice_get cs) same ∙ here) in
          let has : HasId c id = subst (λ z. HasId z id) one r.1.3 in
          let there : HasId d id =
          ⊎_elim
          (λ (at : has.0 ≡ k).
          let x : o ≡ has.1.0 = same_Some o has.1.0 (sym old ∙ ap (slice_get c) (sym at) ∙ has.1.1) in
          (k, (e, slice_get_set_same c k e low, is_id ∙ ap (λ w. w.id) x ∙ has.1.2)))
          (λ (off : has.0 ≡ k → ⊥). (has.0, (has.1.0, slice_get_set_other c k has.0 e off ∙ has.1.1, has.1.2)))
          (cases_eq has.0 k)
          in
          (i, (d, ap (slice_get names) (sym same) ∙ r.1.1, slice_get_set_same cs i d within, there)))
          (λ (off : r.0 ≡ i → ⊥). (r.0, (r.1.0, r.1.1, slice_get_set_other cs i r.0 d off ∙ r.1.2, r.1.3)))
          (cases_eq r.0 i);
      listed =
          λ j b g p x gx none.
          ⊎_elim
          (λ (u : (j ≡ i) × (d ≡ b)).
          let at : slice_get d p ≡ Some x = ap (λ z. slice_get z p) u.1 ∙ gx in
          ⊎_elim
          (λ (v : (p ≡ k) × (e ≡ x)). ok.listed i c here k o old (ap (λ z. index z) (sym is_id ∙ ap (λ w. w.id) v.1) ∙ none))
          (λ (v : (p ≢ k) × (slice_get c p ≡ Some x)). ok.listed i c here p x v.1 none)
          (set_cases c k e p x low at))
          (λ (u : (j ≢ i) × (slice_get cs j ≡ Some b)). ok.listed j b u.1 p x gx none)
          (set_cases cs i d j b within g);
    }

-- ---- a chunk split in two
not_here : (x : Element) (xs : List Element) (id : OpId) → same_id x.id id ≡ false → (HasId xs id → ⊥) → HasId (x ∷ xs) id → ⊥
not_here x xs id apart none (zero, (e, g, is)) =
    false≢true (sym apart ∙ ap (λ z. same_id x.id z) (sym is ∙ ap (λ w. w.id) (sym (same_Some x e g))) ∙ id_found x.id)
not_here x xs id apart none (suc k, (e, g, is)) = none (k, (e, g, is))

has_or_not : (es : List Element) (id : OpId) → HasId es id ⊎ (HasId es id → ⊥)
has_or_not [] id = inr (λ h. none-some h.1.0 h.1.1)
has_or_not (x ∷ xs) id =
    ⊎_elim
    (λ (same : x.id ≡ id). inl (zero, (x, refl, same)))
    (λ (apart : same_id x.id id ≡ false).
    ⊎_elim
    (λ (h : HasId xs id). inl (suc h.0, (h.1.0, h.1.1, h.1.2)))
    (λ (none : HasId xs id → ⊥). inr (not_here x xs id apart none))
    (has_or_not xs id))
    (same_id_cases x.id id)

pub inserted_before : {X : Type 0} (xs : List X) (k : ℕ) (e : X) (j : ℕ) → k ≤ length xs → j < k → slice_get (insert xs k e) j ≡ slice_get xs j
inserted_before xs zero e j h low = absurd (omega arith)
inserted_before [] (suc k) e j h low = absurd (omega arith)
inserted_before (x ∷ xs) (suc k) e zero h low = refl
inserted_before (x ∷ xs) (suc k) e (suc j) h low = inserted_before xs k e j (omega arith) (omega arith)

pub inserted_behind : {X : Type 0} (xs : List X) (k : ℕ) (e : X) (j : ℕ) → k ≤ length xs → k ≤ j → slice_get (insert xs k e) (suc j) ≡ slice_get xs j
inserted_behind xs zero e j h low = refl
inserted_behind [] (suc k) e j h low = absurd (omega arith)
inserted_behind (x ∷ xs) (suc k) e zero h low = absurd (omega arith)
inserted_behind (x ∷ xs) (suc k) e (suc j) h low = inserted_behind xs k e j (omega arith) (omega arith)

-- what stands at a position other than the one split, in the lists of chunks and of names
split_other : (cs : List (List Element)) (names : List ℕ) (i m : ℕ) (a b : List Element) → length names ≡ length cs → i < length cs → (j : ℕ) → (j ≡ i → ⊥) → (q : ℕ) × (slice_get (insert (set cs i a) (suc i) b) q ≡ slice_get cs j) × (slice_get (insert names (suc i) m) q ≡ slice_get names j)
split_other cs names i m a b counted within j off =
    let size = length-set cs i a in
    let low : suc i ≤ length (set cs i a) = omega (arith, size) in
    let low' : suc i ≤ length names = omega arith in
    ⊎_elim
    (λ (less : j < i).
    (j, inserted_before (set cs i a) (suc i) b j low (omega arith) ∙ slice_get_set_other cs i j a off, inserted_before names (suc i) m j low' (omega arith)))
    (λ (more : i ≤ j).
    let on : suc i ≤ j = omega arith in
    (suc j, inserted_behind (set cs i a) (suc i) b j low on ∙ slice_get_set_other cs i j a off, inserted_behind names (suc i) m j low' on))
    (cases_lt j i)

in_left : (a b : List Element) (id : OpId) → HasId (a ++ b) id → (HasId b id → ⊥) → HasId a id
in_left [] b id h none = absurd (none h)
in_left (x ∷ a) b id (zero, (e, g, is)) none = (zero, (e, g, is))
in_left (x ∷ a) b id (suc k, (e, g, is)) none =
    let r = in_left a b id (k, (e, g, is)) none in
    (suc r.0, (r.1.0, r.1.1, r.1.2))

pub indexed_split : (cs : List (List Element)) (names : List ℕ) (index more : OpId → Option ℕ) (i m : ℕ) (c a b : List Element) → IsIndexed cs names index → slice_get cs i ≡ Some c → c ≡ a ++ b → ((k : ℕ) (e : Element) → slice_get b k ≡ Some e → more e.id ≡ Some m) → ((q : OpId) → (HasId b q → ⊥) → more q ≡ index q) → IsIndexed (insert (set cs i a) (suc i) b) (insert names (suc i) m) more
indexed_split cs names index more i m c a b ok here is renamed kept =
    let within : i < length cs = slice_get_within cs i c here in
    let size = length-set cs i a in
    let counted = ok.counted in
    let low : suc i ≤ length (set cs i a) = omega (arith, size) in
    let low' : suc i ≤ length names = omega arith in
    let gone : (x : Element) → more x.id ≡ None → index x.id ≡ None =
    λ x none.
    ⊎_elim
    (λ (h : HasId b x.id). absurd (none-some m (sym none ∙ ap (λ z. more z) (sym h.1.2) ∙ renamed h.0 h.1.0 h.1.1)))
    (λ (off : HasId b x.id → ⊥). sym (kept x.id off) ∙ none)
    (has_or_not b x.id)
    in
    record {
      counted =
          length-insert names (suc i) m low' ∙ ap (λ z. z + 1) (ok.counted ∙ sym size) ∙ sym (length-insert (set cs i a) (suc i) b low);
      behind =
          λ id n found.
          ⊎_elim
          (λ (h : HasId b id).
          let same : m ≡ n = same_Some m n (sym (renamed h.0 h.1.0 h.1.1) ∙ ap (λ z. more z) h.1.2 ∙ found) in
          (suc i, (b, inserted_here names (suc i) m low' ∙ ap Some same, split_right cs i c a b here, h)))
          (λ (off : HasId b id → ⊥).
          let r = ok.behind id n (sym (kept id off) ∙ found) in
          ⊎_elim
          (λ (same : r.0 ≡ i).
          let one : r.1.0 ≡ a ++ b = same_Some r.1.0 c (sym r.1.2 ∙ ap (slice_get cs) same ∙ here) ∙ is in
          let left : HasId a id = in_left a b id (subst (λ z. HasId z id) one r.1.3) off in
          (i, (a, inserted_before names (suc i) m i low' (omega arith) ∙ ap (slice_get names) (sym same) ∙ r.1.1, split_left cs i c a b here, left)))
          (λ (other : r.0 ≡ i → ⊥).
          let s = split_other cs names i m a b ok.counted within r.0 other in
          (s.0, (r.1.0, s.2 ∙ r.1.1, s.1 ∙ r.1.2, r.1.3)))
          (cases_eq r.0 i))
          (has_or_not b id);
      listed =
          λ j d g k x gx none.
          ⊎_elim
          (λ (u : (j < suc i) × (slice_get (set cs i a) j ≡ Some d)).
          ⊎_elim
          (λ (v : (j ≡ i) × (a ≡ d)).
          let at : slice_get a k ≡ Some x = ap (λ z. slice_get z k) v.1 ∙ gx in
          let there : slice_get c k ≡ Some x = ap (λ z. slice_get z k) is ∙ get_left a b k (slice_get_within a k x at) ∙ at in
          ok.listed i c here k x there (gone x none))
          (λ (v : (j ≢ i) × (slice_get cs j ≡ Some d)). ok.listed j d v.1 k x gx (gone x none))
          (set_cases cs i a j d within u.1))
          (λ (u : ((j ≡ suc i) × (b ≡ d)) ⊎ ((q : ℕ) × (j ≡ suc q) × (suc i ≤ q) × (slice_get (set cs i a) q ≡ Some d))).
          ⊎_elim
          (λ (v : (j ≡ suc i) × (b ≡ d)). none-some m (sym none ∙ renamed k x (ap (λ z. slice_get z k) v.1 ∙ gx)))
          (λ (v : (q : ℕ) × (j ≡ suc q) × (suc i ≤ q) × (slice_get (set cs i a) q ≡ Some d)).
          let far : suc i ≤ v.0 = v.2 in
          ⊎_elim
          (λ (w : (v.0 ≡ i) × (a ≡ d)). let same = w.0 in absurd (omega (arith, same, far)))
          (λ (w : (v.0 ≢ i) × (slice_get cs v.0 ≡ Some d)). ok.listed v.0 d w.1 k x gx (gone x none))
          (set_cases cs i a v.0 d within v.3))
          u)
          (inserted_cases (set cs i a) (suc i) b j d low g);
    }

-- ---- the first element
only : (e : Element) (k : ℕ) (x : Element) → slice_get (e ∷ []) k ≡ Some x → e.id ≡ x.id
only e zero x g = ap (λ w. w.id) (same_Some e x g)
only e (suc k) x g = absurd (none-some x g)

first_listed : (e : Element) (more : OpId → Option ℕ) → more e.id ≡ Some 0 → (i : ℕ) (c : List Element) → slice_get ((e ∷ []) ∷ []) i ≡ Some c → (k : ℕ) (x : Element) → slice_get c k ≡ Some x → more x.id ≡ None → ⊥
first_listed e more new zero c g k x gx none =
    none-some 0 (sym none ∙ ap (λ z. more z) (sym (only e k x (ap (λ z. slice_get z k) (same_Some (e ∷ []) c g) ∙ gx))) ∙ new)
first_listed e more new (suc i) c g k x gx none = absurd (none-some c g)

pub indexed_first : (names : List ℕ) (index more : OpId → Option ℕ) (e : Element) → IsIndexed [] names index → more e.id ≡ Some 0 → ((q : OpId) → same_id e.id q ≡ false → more q ≡ index q) → IsIndexed ((e ∷ []) ∷ []) (0 ∷ []) more
indexed_first names index more e ok new other = record {
  counted = refl;
  behind =
      λ id n found.
      ⊎_elim
      (λ (same : e.id ≡ id).
      let is : 0 ≡ n = same_Some 0 n (sym new ∙ ap (λ z. more z) same ∙ found) in
      (zero, (e ∷ [], ap Some is, refl, (zero, (e, refl, same)))))
      (λ (apart : same_id e.id id ≡ false).
      let r = ok.behind id n (sym (other id apart) ∙ found) in
      absurd (none-some r.1.0 r.1.2))
      (same_id_cases e.id id);
  listed = first_listed e more new;
}

-- ---- look-ups
pub option_some : {A : Type 0} (P : Type 0) (Q : A → Type 0) (r : Option A) → MatchOption r (P → ⊥) Q → P → IsSome r
option_some P Q None none p = absurd (none p)
option_some P Q (Some x) found p = refl

pub option_at : {A : Type 0} (P : Type 0) (Q : A → Type 0) (r : Option A) (x : A) → r ≡ Some x → MatchOption r P Q → Q x
option_at P Q r x is found = subst (λ o. MatchOption o P Q) is found

pub here_at : {X : Type 0} (xs : List X) (i : ℕ) (x : X) → i < length xs → x ≡ get_or xs i x → slice_get xs i ≡ Some x
here_at xs i x h is = slice_get-get_or xs i x h ∙ ap Some (sym is)

pub indexed_yes : (cs : List (List Element)) (names : List ℕ) (index : OpId → Option ℕ) → IsIndexed cs names index → (id : OpId) (found : Option ℕ) → index id ≡ found → is_some found ≡ true → HasId (joined cs) id
indexed_yes cs names index ok id None e t = absurd (false≢true t)
indexed_yes cs names index ok id (Some n) e t = indexed_id cs names index ok id n e

pub indexed_no : (cs : List (List Element)) (names : List ℕ) (index : OpId → Option ℕ) → IsIndexed cs names index → (id : OpId) (found : Option ℕ) → index id ≡ found → is_some found ≡ false → HasId (joined cs) id → ⊥
indexed_no cs names index ok id None e f h = not_indexed_id cs names index ok id e h
indexed_no cs names index ok id (Some n) e f h = false≢true (sym f)

-- the chunk of a name, which is where that name stands
pub named_chunk : (cs : List (List Element)) (names : List ℕ) (index : OpId → Option ℕ) → IsIndexed cs names index → (id : OpId) (n p : ℕ) → index id ≡ Some n → ((i : ℕ) → slice_get names i ≡ Some n → p ≡ i) → (c : List Element) × (slice_get cs p ≡ Some c) × HasId c id
named_chunk cs names index ok id n p e is =
    let r = ok.behind id n e in
    (r.1.0, ap (slice_get cs) (is r.0 r.1.1) ∙ r.1.2, r.1.3)

pub spot_element : (cs : List (List Element)) (id : OpId) (position at : ℕ) → IsSpotOf cs id position at → (d : List Element) → slice_get cs position ≡ Some d → (e : Element) → slice_get d at ≡ Some e → (slice_get (joined cs) (start_of cs position + at) ≡ Some e) × (e.id ≡ id)
spot_element cs id position at spot d here e g =
    let same : spot.chunk ≡ d = same_Some spot.chunk d (sym spot.here ∙ here) in
    let x = spot.has.0 in
    let one : x ≡ e = same_Some x e (sym spot.has.1 ∙ ap (λ z. slice_get z at) same ∙ g) in
    (joined_get cs position d at here (slice_get_within d at e g) ∙ g, ap (λ w. w.id) (sym one) ∙ spot.has.2)

pub spot_place : (cs : List (List Element)) (id : OpId) (position at : ℕ) → IsSpotOf cs id position at → IsAt (joined cs) id (start_of cs position + at)
spot_place cs id position at spot =
    let r = spot_element cs id position at spot spot.chunk spot.here spot.has.0 spot.has.1 in
    (spot.has.0, r.0, r.1)

pub position_here : (cs : List (List Element)) (id : OpId) (position at : ℕ) → IsSpotOf cs id position at → position < length cs
position_here cs id position at spot = slice_get_within cs position spot.chunk spot.here

pub at_within : (cs : List (List Element)) (id : OpId) (position at : ℕ) → IsSpotOf cs id position at → (d : List Element) → slice_get cs position ≡ Some d → at < length d
at_within cs id position at spot d here =
    let same : spot.chunk ≡ d = same_Some spot.chunk d (sym spot.here ∙ here) in
    slice_get_within d at spot.has.0 (ap (λ z. slice_get z at) (sym same) ∙ spot.has.1)

-- ---- whole steps
take_drop_is : (c : List Element) (at : ℕ) → c ≡ take at c ++ drop at c
take_drop_is c at = grind (arith, common_steps)

pub kept_put : (cs : List (List Element)) (names : List ℕ) (index more : OpId → Option ℕ) (p at n count : ℕ) (c d : List Element) (e : Element) → IsKept cs names index count → slice_get cs p ≡ Some c → slice_get names p ≡ Some n → at ≤ length c → d ≡ insert c at e → length (joined cs) < 262144 → more e.id ≡ Some n → ((q : OpId) → same_id e.id q ≡ false → more q ≡ index q) → IsKept (set cs p d) names more (count + 1)
kept_put cs names index more p at n count c d e ok here name h is few new other =
    let whole = joined_insert cs p c d at e here h is in
    let spot = start_within cs p in
    let next = start_after_chunk cs p c here in
    let end = start_within cs (p + 1) in
    let size : length (joined (set cs p d)) ≡ length (joined cs) + 1 = ap length whole ∙ length-insert (joined cs) (start_of cs p + at) e (omega (arith, next, end)) in
    let counted = ok.counted in
    record {
      indexed = subst (λ z. IsIndexed (set cs p z) names more) (sym is) (indexed_put cs names index more p c n at e ok.indexed here name h new other);
      counted = omega (arith, size, counted);
      few = omega (arith, size);
    }

pub put_joined : (cs ds : List (List Element)) (p at place : ℕ) (e : Element) (c : List Element) → slice_get cs p ≡ Some c → at ≤ length c → place ≡ start_of cs p + at → ((z : List Element) → slice_get cs p ≡ Some z → ds ≡ set cs p (insert z at e)) → joined ds ≡ insert (joined cs) place e
put_joined cs ds p at place e c here h is new =
    ap joined (new c here) ∙ joined_insert cs p c (insert c at e) at e here h refl ∙ ap (λ n. insert (joined cs) n e) (sym is)

-- the element as it is hidden or shown
abbrev pub marked : Bool → Element → Element
marked v x = record { id = x.id; character = x.character; visible = v }

pub kept_marked : (v : Bool) (cs : List (List Element)) (names : List ℕ) (index : OpId → Option ℕ) (p at count : ℕ) (id : OpId) (d d' : List Element) → IsKept cs names index count → IsSpotOf cs id p at → slice_get cs p ≡ Some d → ((x : Element) → slice_get d at ≡ Some x → d' ≡ set d at (marked v x)) → IsKept (set cs p d') names index count
kept_marked v cs names index p at count id d d' ok spot here new =
    let same : spot.chunk ≡ d = same_Some spot.chunk d (sym spot.here ∙ here) in
    let x = spot.has.0 in
    let g : slice_get d at ≡ Some x = ap (λ z. slice_get z at) (sym same) ∙ spot.has.1 in
    let is = new x g in
    let low = slice_get_within d at x g in
    let size : length (joined (set cs p d')) ≡ length (joined cs) = ap length (joined_set cs p d d' at (marked v x) here low is) ∙ length-set (joined cs) (start_of cs p + at) (marked v x) in
    record {
      indexed = subst (λ z. IsIndexed (set cs p z) names index) (sym is) (indexed_changed cs names index p d at x (marked v x) ok.indexed here g refl);
      counted = ok.counted ∙ sym size;
      few = let old = ok.few in omega (arith, size, old);
    }

pub marked_joined : (v : Bool) (cs : List (List Element)) (p at : ℕ) (id : OpId) (d d' : List Element) → IsSpotOf cs id p at → slice_get cs p ≡ Some d → ((x : Element) → slice_get d at ≡ Some x → d' ≡ set d at (marked v x)) → (place : ℕ) × IsAt (joined cs) id place × ((x : Element) → slice_get (joined cs) place ≡ Some x → joined (set cs p d') ≡ set (joined cs) place (marked v x))
marked_joined v cs p at id d d' spot here new =
    let same : spot.chunk ≡ d = same_Some spot.chunk d (sym spot.here ∙ here) in
    let y = spot.has.0 in
    let g : slice_get d at ≡ Some y = ap (λ z. slice_get z at) (sym same) ∙ spot.has.1 in
    let low = slice_get_within d at y g in (
      start_of cs p + at,
      spot_place cs id p at spot,
      λ x here'.
          let one : y ≡ x = same_Some y x (sym g ∙ sym (joined_get cs p d at here low) ∙ here') in
          joined_set cs p d d' at (marked v x) here low (new x (g ∙ ap Some one)),
    )

pub kept_first : (cs ds : List (List Element)) (names names' : List ℕ) (index more : OpId → Option ℕ) (count : ℕ) (d : List Element) (e : Element) → IsKept cs names index count → cs ≡ [] → names' ≡ 0 ∷ [] → ds ≡ cs ++ d ∷ [] → d ≡ e ∷ [] → more e.id ≡ Some 0 → ((q : OpId) → same_id e.id q ≡ false → more q ≡ index q) → IsKept ds names' more 1
kept_first cs ds names names' index more count d e ok none named pushed one new other =
    let ds_is : ds ≡ (e ∷ []) ∷ [] = pushed ∙ ap (λ z. z ++ d ∷ []) none ∙ ap (λ z. z ∷ []) one in
    let indexed = indexed_first names index more e (subst (λ z. IsIndexed z names index) none ok.indexed) new other in
    let size : length (joined ds) ≡ 1 = ap (λ z. length (joined z)) ds_is in
    record {
      indexed = subst (λ z. IsIndexed z names' more) (sym ds_is) (subst (λ z. IsIndexed ((e ∷ []) ∷ []) z more) (sym named) indexed);
      counted = sym size;
      few = omega (arith, size);
    }

pub kept_split : (cs ds : List (List Element)) (names names' : List ℕ) (index more : OpId → Option ℕ) (p at m count : ℕ) (c a b : List Element) → IsKept cs names index count → slice_get cs p ≡ Some c → a ≡ take at c → b ≡ drop at c → ds ≡ insert (set cs p a) (p + 1) b → names' ≡ insert names (p + 1) m → ((k : ℕ) (e : Element) → slice_get b k ≡ Some e → more e.id ≡ Some m) → ((q : OpId) → (HasId b q → ⊥) → more q ≡ index q) → IsKept ds names' more count
kept_split cs ds names names' index more p at m count c a b ok here left right new named renamed kept =
    let next : p + 1 ≡ suc p = omega arith in
    let is : c ≡ a ++ b = take_drop_is c at ∙ ap (λ z. z ++ drop at c) (sym left) ∙ ap (λ z. a ++ z) (sym right) in
    let ds_is : ds ≡ insert (set cs p a) (suc p) b = new ∙ ap (λ n. insert (set cs p a) n b) next in
    let names_is : names' ≡ insert names (suc p) m = named ∙ ap (λ n. insert names n m) next in
    let same : joined ds ≡ joined cs = ap joined ds_is ∙ joined_split cs p c a b here is in
    record {
      indexed = subst (λ z. IsIndexed z names' more) (sym ds_is) (subst (λ z. IsIndexed (insert (set cs p a) (suc p) b) z more) (sym names_is) (indexed_split cs names index more p m c a b ok.indexed here is renamed kept));
      counted = ok.counted ∙ ap length (sym same);
      few = subst (λ z. length z ≤ 262144) (sym same) ok.few;
    }

pub split_same : (cs ds : List (List Element)) (p at : ℕ) (c : List Element) → slice_get cs p ≡ Some c → ds ≡ insert (set cs p (take at c)) (p + 1) (drop at c) → joined ds ≡ joined cs
split_same cs ds p at c here new =
    let next : p + 1 ≡ suc p = omega arith in
    ap joined (new ∙ ap (λ n. insert (set cs p (take at c)) n (drop at c)) next) ∙ joined_split cs p c (take at c) (drop at c) here (take_drop_is c at)

pub split_spot : (cs ds : List (List Element)) (p at k p' at' : ℕ) (c : List Element) → slice_get cs p ≡ Some c → length c ≡ 64 → 0 < k → k < 64 → at ≤ 64 → ds ≡ insert (set cs p (take k c)) (p + 1) (drop k c) → ((at < k) × (p' ≡ p) × (at' ≡ at)) ⊎ ((k ≤ at) × (p' ≡ p + 1) × (at' ≡ at - k)) → (d : List Element) × (slice_get ds p' ≡ Some d) × (length d < 64) × (at' ≤ length d) × (start_of ds p' + at' ≡ start_of cs p + at)
split_spot cs ds p at k p' at' c here full some few low new (inl (less, pos, same)) =
    let next : p + 1 ≡ suc p = omega arith in
    let ds_is : ds ≡ insert (set cs p (take k c)) (suc p) (drop k c) = new ∙ ap (λ n. insert (set cs p (take k c)) n (drop k c)) next in
    let left : length (take k c) ≡ k = grind (arith, common_steps) in
    let there : slice_get ds p' ≡ Some (take k c) = ap (λ z. slice_get z p') ds_is ∙ ap (slice_get (insert (set cs p (take k c)) (suc p) (drop k c))) pos ∙ split_left cs p c (take k c) (drop k c) here in
    let start : start_of ds p' ≡ start_of cs p = ap (λ z. start_of z p') ds_is ∙ ap (start_of (insert (set cs p (take k c)) (suc p) (drop k c))) pos ∙ split_start cs p c (take k c) (drop k c) here in
    (take k c, there, omega (arith, left), omega (arith, left), omega (arith, start, same))
split_spot cs ds p at k p' at' c here full some few low new (inr (more, pos, same)) =
    let next : p + 1 ≡ suc p = omega arith in
    let ds_is : ds ≡ insert (set cs p (take k c)) (suc p) (drop k c) = new ∙ ap (λ n. insert (set cs p (take k c)) n (drop k c)) next in
    let left : length (take k c) ≡ k = grind (arith, common_steps) in
    let right : length (drop k c) ≡ 64 - k = grind (arith, common_steps) in
    let there : slice_get ds p' ≡ Some (drop k c) = ap (λ z. slice_get z p') ds_is ∙ ap (slice_get (insert (set cs p (take k c)) (suc p) (drop k c))) (pos ∙ next) ∙ split_right cs p c (take k c) (drop k c) here in
    let start : start_of ds p' ≡ start_of cs p + length (take k c) = ap (λ z. start_of z p') ds_is ∙ ap (start_of (insert (set cs p (take k c)) (suc p) (drop k c))) (pos ∙ next) ∙ split_start_right cs p c (take k c) (drop k c) here in
    (drop k c, there, omega (arith, right), omega (arith, right, same), omega (arith, start, same, left))

-- ---- after the parent
pub spot_after : (cs : List (List Element)) (id : OpId) (p at : ℕ) → IsSpotOf cs id p at → (x : ℕ) × IsAfter (joined cs) (Some id) x × IsSpot cs p (at + 1) x
spot_after cs id p at spot =
    let low = slice_get_within spot.chunk at spot.has.0 spot.has.1 in (
      start_of cs p + (at + 1),
      (start_of cs p + at, spot_place cs id p at spot, omega arith),
      record { chunk = spot.chunk; here = spot.here; within = omega (arith, low); is = refl },
    )

pub spot_start : (cs : List (List Element)) → 0 < length cs → (x : ℕ) × IsAfter (joined cs) None x × IsSpot cs 0 0 x
spot_start [] some = absurd (omega arith)
spot_start (c ∷ cs) some = (0, refl, record { chunk = c; here = refl; within = omega arith; is = refl })

-- the place of a room is one of those that an element can go to
pub room_within : (list : ChunkList) (es : List Element) (room : Room) (place : ℕ) → joined list.chunks ≡ es → IsRoom list room place → place ≤ length es
room_within list es (First blank) place same r = let zero_place = r.1 in omega (arith, zero_place)
room_within list es (In spot) place same r =
    let next = start_after_chunk list.chunks spot.position r.0 r.1 in
    let end = start_within list.chunks (spot.position + 1) in
    let whole = ap length same in
    let low = r.3 in
    let is = r.4 in
    omega (arith, next, end, whole, low, is)

-- ---- an index that answers the same
pub kept_same : (cs : List (List Element)) (names : List ℕ) (index more : OpId → Option ℕ) (count : ℕ) → IsKept cs names index count → ((q : OpId) → more q ≡ index q) → IsKept cs names more count
kept_same cs names index more count ok same = record {
  indexed = record {
    counted = ok.indexed.counted;
    behind = λ id n e. ok.indexed.behind id n (sym (same id) ∙ e);
    listed = λ i c here k e g none. ok.indexed.listed i c here k e g (sym (same e.id) ∙ none);
  };
  counted = ok.counted;
  few = ok.few;
}

-- an id above those of its node's elements is above those that the index has
pub above_indexed : (cs : List (List Element)) (names : List ℕ) (index : OpId → Option ℕ) → IsIndexed cs names index → (id : OpId) → IsAboveAll (joined cs) id → (q : OpId) → q.node ≡ id.node → (index q ≡ None → ⊥) → q.counter < id.counter
above_indexed cs names index ok id above q node some =
    elim (index q) as (λ (r : Option ℕ). index q ≡ r → q.counter < id.counter) [
      | None ↦ λ e. absurd (some e)
      | Some n ↦
          λ e.
          let at = indexed_id cs names index ok q n e in
          let same : at.1.0.id ≡ q = at.1.2 in
          subst (λ (z : OpId). z.counter < id.counter) same (above at.0 at.1.0 at.1.1 (ap (λ z. z.node) same ∙ node))
    ] refl
