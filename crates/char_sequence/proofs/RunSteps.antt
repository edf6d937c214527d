-- A run is put among elements, and into the index, one character after another.
use Rattle.std.proofs.Common.{◌≡◌, ℕ, zero, suc, ◌+◌, ◌-◌, ◌<◌, ◌≤◌, true, false, cond, List, [], ◌∷◌, ◌++◌, Option, Some, length, set, take, sym, ap, refl, ◌∙◌, subst, arith, ⊎_elim, append_assoc, length-append}
use Rattle.std.specs.List.{slice_get, insert}
use Rattle.std.proofs.lemmas.Option.{same_Some, none-some, slice_get_within}
use Rattle.std.proofs.lemmas.Bool.{cases_lt, false≢true}
use Rattle.std.proofs.lemmas.List.Edits.{length-insert}
use Rattle.change_ops.specs.Runs.{next_id}
use Rattle.change_ops.specs.declared.id.OpId.{OpId}
use Rattle.char_sequence.specs.declared.sequence.Element.{Element}
use Rattle.char_sequence.specs.Index.{same_id}
use Rattle.char_sequence.specs.Chunks.{joined, start_of, IsKept}
use Rattle.char_sequence.specs.RunElements.{later_id, elements_from, insert_all, AreEntered}
use Rattle.char_sequence.proofs.Ids.{same_ids, same_id_cases, id_found}
use Rattle.char_sequence.proofs.Lists.{insert_append, slice_get_set_same}
use Rattle.char_sequence.proofs.Joined.{joined_insert}
use Rattle.char_sequence.proofs.Chunking.{kept_put, kept_same}

-- ---- ids
pub later_zero : (id : OpId) → later_id id 0 ≡ id
later_zero id = same_ids (later_id id 0) id (omega arith) refl

next_later : (id : OpId) (k : ℕ) → later_id (next_id id) k ≡ later_id id (k + 1)
next_later id k = same_ids (later_id (next_id id) k) (later_id id (k + 1)) (omega arith) refl

-- ---- lists
set_here : {X : Type 0} (xs : List X) (k : ℕ) (x : X) → slice_get xs k ≡ Some x → set xs k x ≡ xs
set_here [] k x g = absurd (none-some x g)
set_here (y ∷ ys) zero x g = ap (λ z. z ∷ ys) (sym (same_Some y x g))
set_here (y ∷ ys) (suc k) x g = ap (λ z. y ∷ z) (set_here ys k x g)

set_twice : {X : Type 0} (xs : List X) (k : ℕ) (x z : X) → set (set xs k x) k z ≡ set xs k z
set_twice [] k x z = refl
set_twice (y ∷ ys) zero x z = refl
set_twice (y ∷ ys) (suc k) x z = ap (λ l. y ∷ l) (set_twice ys k x z)

take_set : {X : Type 0} (xs : List X) (k : ℕ) (x : X) → take k (set xs k x) ≡ take k xs
take_set [] k x = refl
take_set (y ∷ ys) zero x = refl
take_set (y ∷ ys) (suc k) x = ap (λ l. y ∷ l) (take_set ys k x)

-- elements put where one list ends and another begins
pub insert_all_append : (es front back : List Element) → insert_all (front ++ back) (length front) es ≡ front ++ (es ++ back)
insert_all_append [] front back = refl
insert_all_append (e ∷ es) front back =
    let size : length front + 1 ≡ length (front ++ e ∷ []) = sym (length-append front (e ∷ [])) in
    ap (λ l. insert_all l (length front + 1) es) (insert_append front back e ∙ sym (append_assoc front (e ∷ []) back))
    ∙ ap (λ n. insert_all ((front ++ e ∷ []) ++ back) n es) size
    ∙ insert_all_append es (front ++ e ∷ []) back
    ∙ append_assoc front (e ∷ []) (es ++ back)

pub length_insert_all : (es xs : List Element) (k : ℕ) → k ≤ length xs → length (insert_all xs k es) ≡ length xs + length es
length_insert_all [] xs k h = omega arith
length_insert_all (e ∷ es) xs k h =
    let one = length-insert xs k e h in
    let rest = length_insert_all es (insert xs k e) (k + 1) (omega (arith, one)) in
    omega (arith, one, rest)

-- ---- ids entered one after another
pub entered_more : (old index more : OpId → Option ℕ) (id : OpId) (count name : ℕ) → AreEntered old index id count name → more (later_id id count) ≡ Some name → ((q : OpId) → same_id (later_id id count) q ≡ false → more q ≡ index q) → AreEntered old more id (count + 1) name
entered_more old index more id count name was here other = record {
  named =
      λ by low.
      ⊎_elim
      (λ (same : later_id id count ≡ later_id id by). ap more (sym same) ∙ here)
      (λ (apart : same_id (later_id id count) (later_id id by) ≡ false).
      ⊎_elim
      (λ (less : by < count). other (later_id id by) apart ∙ was.named by less)
      (λ (last : count ≤ by).
      let is : count ≡ by = omega arith in
      absurd (false≢true (sym apart ∙ ap (λ n. same_id (later_id id count) (later_id id n)) (sym is) ∙ id_found (later_id id count))))
      (cases_lt by count))
      (same_id_cases (later_id id count) (later_id id by));
  kept =
      λ q off.
      ⊎_elim
      (λ (same : later_id id count ≡ q). absurd (off count (omega arith) same))
      (λ (apart : same_id (later_id id count) q ≡ false). other q apart ∙ was.kept q (λ by low is. off by (omega arith) is))
      (same_id_cases (later_id id count) q);
}

-- ---- a run put into a chunk
-- an index that has one id more
abbrev with_name : (OpId → Option ℕ) → OpId → ℕ → OpId → Option ℕ
with_name index id name q = cond (same_id id q) (Some name) (index q)

with_name_here : (index : OpId → Option ℕ) (id : OpId) (name : ℕ) → with_name index id name id ≡ Some name
with_name_here index id name = ap (λ b. cond b (Some name) (index id)) (id_found id)

with_name_other : (index : OpId → Option ℕ) (id : OpId) (name : ℕ) (q : OpId) → same_id id q ≡ false → with_name index id name q ≡ index q
with_name_other index id name q apart = ap (λ b. cond b (Some name) (index q)) apart

entered_rest : (old more : OpId → Option ℕ) (id : OpId) (count name : ℕ) → AreEntered old more id (suc count) name → AreEntered (with_name old id name) more (next_id id) count name
entered_rest old more id count name all = record {
  named = λ by low. ap more (next_later id by) ∙ all.named (by + 1) (omega arith);
  kept =
      λ q off.
      ⊎_elim
      (λ (same : id ≡ q).
      ap more (sym same) ∙ ap more (sym (later_zero id)) ∙ all.named 0 (omega arith) ∙ sym (with_name_here old id name) ∙ ap (with_name old id name) same)
      (λ (apart : same_id id q ≡ false).
      all.kept q (λ by low is.
      ⊎_elim
      (λ (first : by < 1).
      let none : by ≡ 0 = omega arith in
      absurd (false≢true (sym apart ∙ ap (same_id id) (sym is ∙ ap (later_id id) none ∙ later_zero id) ∙ id_found id)))
      (λ (behind : 1 ≤ by).
      let on : by ≡ (by - 1) + 1 = omega arith in
      off (by - 1) (omega arith) (next_later id (by - 1) ∙ ap (later_id id) (sym on) ∙ is))
      (cases_lt by 1))
      ∙ sym (with_name_other old id name q apart))
      (same_id_cases id q);
}

pub kept_run : (chs : List ℕ) (cs : List (List Element)) (names : List ℕ) (index more : OpId → Option ℕ) (p at n count : ℕ) (c : List Element) (id : OpId) → IsKept cs names index count → slice_get cs p ≡ Some c → slice_get names p ≡ Some n → at ≤ length c → length (joined cs) + length chs ≤ 262144 → AreEntered index more id (length chs) n → IsKept (set cs p (insert_all c at (elements_from id chs))) names more (count + length chs)
kept_run [] cs names index more p at n count c id ok here name h few all =
    let same : count ≡ count + 0 = omega arith in
    subst (λ z. IsKept z names more (count + 0)) (sym (set_here cs p c here))
    (subst (λ z. IsKept cs names more z) same (kept_same cs names index more count ok (λ q. all.kept q (λ by low is. absurd (omega arith)))))
kept_run (ch ∷ chs) cs names index more p at n count c id ok here name h few all =
    let e : Element = record { id = id; character = ch; visible = true } in
    let d = insert c at e in
    let cs1 = set cs p d in
    let index1 = with_name index id n in
    let one : IsKept cs1 names index1 (count + 1) =
    kept_put cs names index index1 p at n count c d e ok here name h refl (omega arith) (with_name_here index id n) (with_name_other index id n) in
    let counted = ok.counted in
    let counted1 = one.counted in
    let size = length-insert c at e h in
    let rest =
    kept_run chs cs1 names index1 more p (at + 1) n (count + 1) d (next_id id) one (slice_get_set_same cs p d (slice_get_within cs p c here)) name (omega (arith, size)) (omega (arith, counted, counted1)) (entered_rest index more id (length chs) n all) in
    let total : count + 1 + length chs ≡ count + length (ch ∷ chs) = omega arith in
    subst (λ z. IsKept (set cs p (insert_all c at (elements_from id (ch ∷ chs)))) names more z) total
    (subst (λ z. IsKept z names more (count + 1 + length chs)) (set_twice cs p d (insert_all d (at + 1) (elements_from (next_id id) chs))) rest)

pub joined_run : (es : List Element) (cs : List (List Element)) (p at : ℕ) (c : List Element) → slice_get cs p ≡ Some c → at ≤ length c → joined (set cs p (insert_all c at es)) ≡ insert_all (joined cs) (start_of cs p + at) es
joined_run [] cs p at c here h = ap joined (set_here cs p c here)
joined_run (e ∷ es) cs p at c here h =
    let d = insert c at e in
    let cs1 = set cs p d in
    let size = length-insert c at e h in
    let start : start_of cs1 p ≡ start_of cs p = ap (λ z. length (joined z)) (take_set cs p d) in
    let on : start_of cs1 p + (at + 1) ≡ start_of cs p + at + 1 = omega (arith, start) in
    ap joined (sym (set_twice cs p d (insert_all d (at + 1) es)))
    ∙ joined_run es cs1 p (at + 1) d (slice_get_set_same cs p d (slice_get_within cs p c here)) (omega (arith, size))
    ∙ ap (λ n. insert_all (joined cs1) n es) on
    ∙ ap (λ z. insert_all z (start_of cs p + at + 1) es) (joined_insert cs p c d at e here h refl)
