-- What a subscriber was sent is a beginning of its program's stream.
use Rattle.std.proofs.Common.{◌≡◌, ℕ, zero, suc, List, [], ◌∷◌, ◌++◌, length, map, take, drop, refl, sym, ap, ◌∙◌, subst, arith, append_assoc, take-append-drop}
use Rattle.std.specs.Prelude.{slice_get, Some}
use Rattle.std.proofs.lemmas.List.Concat.{flat_map-append}
use Rattle.span_flatten.specs.Version.{Version}
use Rattle.version_history.specs.Tokens.{Token}
use Rattle.semantics.specs.Step.{Program}
use Rattle.feeds.specs.Batches.{Item, items_of}
use Rattle.feeds.specs.Orderly.{items_of_all}
use Rattle.feeds.specs.Feed.{Subscriber, items_at, IsFed}
use Rattle.feeds.specs.Stream.{BeginsStream}
use Rattle.feeds.proofs.Feeding.{All_get}
use Rattle.feeds.proofs.Streams.{drop_split, begins_stream}
use Rattle.change_history.specs.Accepted.{AreAccepted}
use Rattle.hub_core.specs.Machine.{Core, IsSound}
use Rattle.hub_core.specs.Consistent.{IsConsistent}

-- what follows the first items of a version, to the last version
rest_of : (p : Token Program) (ts : List (Token Version)) (n count : ℕ) → (more : List Item) × (take count (items_at p ts n) ++ more ≡ items_of_all p (drop n ts))
rest_of p [] zero zero = ([], refl)
rest_of p [] zero (suc count) = ([], refl)
rest_of p [] (suc n) zero = ([], refl)
rest_of p [] (suc n) (suc count) = ([], refl)
rest_of p (t ∷ ts) zero count = (
  drop count (items_of p t) ++ items_of_all p ts,
  sym (append_assoc (take count (items_of p t)) (drop count (items_of p t)) (items_of_all p ts)) ∙ ap (λ l. l ++ items_of_all p ts) (take-append-drop count (items_of p t)),
)
rest_of p (t ∷ ts) (suc n) count = rest_of p ts n count

module _ {S : Type 0} (sent : S → List Item) (full : S → Type 0) where
  begins_here : (s : Core S) (id : ℕ) (a : Subscriber S) → IsSound sent full s → slice_get s.subscribers id ≡ Some a
      → BeginsStream a.program.value s.changes a.first (length s.changes) (map (λ (e : Item). e.what) (sent a.sink))
  begins_here s id a sound at =
      let fed : IsFed sent full s.versions a = All_get (IsFed sent full s.versions) s.subscribers id a at sound.fed in
      let p = a.program in
      let ts = s.versions in
      let begun = fed.begun in
      let behind = fed.behind in
      let before = items_of_all p (drop a.first (take a.cursor ts)) in
      let part = take a.count (items_at p ts a.cursor) in
      let rest = rest_of p ts a.cursor a.count in
      let whole : sent a.sink ++ rest.0 ≡ items_of_all p (drop a.first ts) =
      ap (λ l. l ++ rest.0) fed.sent_is ∙ append_assoc before part rest.0 ∙ ap (λ l. before ++ l) rest.1
      ∙ sym (flat_map-append (items_of p) (drop a.first (take a.cursor ts)) (drop a.cursor ts)) ∙ ap (items_of_all p) (drop_split a.first a.cursor ts begun behind) in
      begins_stream p s.changes ts a.first (sent a.sink) rest.0 sound.named sound.versions_are (omega arith) whole

  -- o is the state, seen by its fields as s
  pub begins : (o s : Core S) → s ≡ o → IsSound sent full s → (id : ℕ) (a : Subscriber S) → slice_get o.subscribers id ≡ Some a
      → BeginsStream a.program.value o.changes a.first (length o.changes) (map (λ (e : Item). e.what) (sent a.sink))
  begins o s same sound id a = begins_here o id a (subst (IsSound sent full) same sound)

  -- and the state is consistent
  pub consistent : (o s : Core S) → s ≡ o → IsSound sent full s → AreAccepted s.size s.changes → IsConsistent sent full o
  consistent o s same sound accepted = subst (IsConsistent sent full) same (record { sound = sound; accepted = accepted; streams = begins s s refl sound })
