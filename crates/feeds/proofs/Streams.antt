-- Items of a program on the versions from a first one on begin its stream.
use Rattle.std.proofs.Common.{◌≡◌, ℕ, zero, suc, ◌+◌, ◌≤◌, List, [], ◌∷◌, ◌++◌, length, map, take, drop, refl, sym, ap, ◌∙◌, subst, arith, length-take, length-drop, take-append-drop}
use Rattle.std.specs.Prelude.{slice_get, Some}
use Rattle.std.specs.List.{flat_map}
use Rattle.std.proofs.Math.Nat.{add-zero}
use Rattle.std.proofs.lemmas.List.{drop-append-le, map-append, length-map}
use Rattle.std.proofs.lemmas.Option.{none-some}
use Rattle.change_ops.specs.Changes.{Change}
use Rattle.semantics.specs.Step.{Program}
use Rattle.span_flatten.specs.Version.{Version}
use Rattle.version_history.specs.Tokens.{Token}
use Rattle.change_history.specs.VersionAt.{IsVersionAt}
use Rattle.feeds.specs.declared.item.Finding.{Finding}
use Rattle.feeds.specs.Batches.{Item, batch_of, item_of, items_of}
use Rattle.feeds.specs.Orderly.{items_of_all}
use Rattle.feeds.specs.Stream.{AreVersionsFrom, BeginsStream}

what_of_entries : (p : Token Program) (v : Token Version) (found : List Finding) → map (λ (e : Item). e.what) (map (item_of p v) found) ≡ found
what_of_entries p v [] = refl
what_of_entries p v (f ∷ found) = ap (λ l. f ∷ l) (what_of_entries p v found)

-- the findings of the items of several versions
what_of_all : (p : Token Program) (ts : List (Token Version)) → map (λ (e : Item). e.what) (items_of_all p ts) ≡ flat_map (batch_of p.value) (map (λ (t : Token Version). t.value) ts)
what_of_all p [] = refl
what_of_all p (t ∷ ts) =
    map-append (λ (e : Item). e.what) (items_of p t) (items_of_all p ts)
    ∙ ap (λ l. l ++ map (λ (e : Item). e.what) (items_of_all p ts)) (what_of_entries p t (batch_of p.value t.value))
    ∙ ap (λ l. batch_of p.value t.value ++ l) (what_of_all p ts)

drop_get : {X : Type 0} (n : ℕ) (xs : List X) (i : ℕ) (x : X) → slice_get (drop n xs) i ≡ Some x → slice_get xs (n + i) ≡ Some x
drop_get zero xs i x e = let k : i ≡ 0 + i = omega arith in subst (λ m. slice_get xs m ≡ Some x) k e
drop_get (suc n) [] i x e = absurd (none-some x e)
drop_get (suc n) (y ∷ xs) i x e = let k : suc (n + i) ≡ suc n + i = omega arith in subst (λ m. slice_get (y ∷ xs) m ≡ Some x) k (drop_get n xs i x e)

versions_from : (changes : List Change) (k : ℕ) (ts : List (Token Version)) → ((n : ℕ) (t : Token Version) → slice_get ts n ≡ Some t → IsVersionAt changes (k + n) t.value)
    → AreVersionsFrom changes k (map (λ (t : Token Version). t.value) ts)
versions_from changes k [] h = tt
versions_from changes k (t ∷ ts) h = (
  subst (λ m. IsVersionAt changes m t.value) (add-zero k) (h 0 t refl),
  versions_from changes (k + 1) ts (λ n u e. let m : k + suc n ≡ k + 1 + n = omega arith in subst (λ j. IsVersionAt changes j u.value) m (h (suc n) u e)),
)

pub drop_split : {X : Type 0} (first cursor : ℕ) (ts : List X) → first ≤ cursor → cursor ≤ length ts → drop first (take cursor ts) ++ drop cursor ts ≡ drop first ts
drop_split first cursor ts begun behind =
    let long : first ≤ length (take cursor ts) = omega (arith, length-take cursor ts) in
    sym (drop-append-le first (take cursor ts) (drop cursor ts) long) ∙ ap (drop first) (take-append-drop cursor ts)

-- where the tokens are of all versions of these changes
pub begins_stream : (p : Token Program) (changes : List Change) (ts : List (Token Version)) (first : ℕ) (items rest : List Item) → length ts ≡ length changes + 1
    → ((n : ℕ) (t : Token Version) → slice_get ts n ≡ Some t → IsVersionAt changes n t.value) → first ≤ length ts → items ++ rest ≡ items_of_all p (drop first ts)
    → BeginsStream p.value changes first (length changes) (map (λ (e : Item). e.what) items)
begins_stream p changes ts first items rest named are behind whole = record {
  rest = map (λ (e : Item). e.what) rest;
  stream = record {
    versions = map (λ (t : Token Version). t.value) (drop first ts);
    are = versions_from changes first (drop first ts) (λ n t e. are (first + n) t (drop_get first ts n t e));
    to_last = omega (arith, length-map (drop first ts) (λ (t : Token Version). t.value), length-drop first ts, named);
    joined = sym (map-append (λ (e : Item). e.what) items rest) ∙ ap (map (λ (e : Item). e.what)) whole ∙ what_of_all p (drop first ts);
  };
}
