-- A walk over slots that comes round.
use Rattle.std.proofs.Common.{◌≡◌, ℕ, ◌+◌, ◌-◌, ◌<◌, ◌≤◌, List, [], ◌∷◌, ◌++◌, length, slice_index, replicate, set, ⊎_elim, refl, sym, ap, subst, ◌∙◌, arith}
use Rattle.std.proofs.Common.{length-set, get_or-set_same, get_or-set_other}
use Rattle.std.proofs.lemmas.List.{length-replicate, get_or_append_left, get_or_at, length_push}
use Rattle.std.proofs.lemmas.Bool.{cases_eq}
use Rattle.semantics.specs.Step.{Program}
use Rattle.block_layout.specs.Loops.{Goes, IsLoop}
use Rattle.block_layout.specs.Ranks.{HasNone, IsWalked, IsRound}
use Rattle.block_layout.proofs.Ranks.{index_zeros}
use Rattle.block_layout.proofs.Walks.{loop_found}

-- the walk begins at the first slot
pub walk_begun : (program : Program) (ranks path lengths : List ℕ) (n : ℕ) → path ≡ replicate 1 0 → lengths ≡ replicate n 0 → n ≡ length ranks → HasNone ranks 0 → IsWalked program ranks path lengths 0
walk_begun program ranks path lengths n is_path is_lengths long none =
    subst (λ (p : List ℕ). IsWalked program ranks p lengths 0) (sym is_path)
    (subst (λ (l : List ℕ). IsWalked program ranks (0 ∷ []) l 0) (sym is_lengths)
    (record {
      walk = record { each = λ index within. absurd (omega arith) };
      first = refl;
      some = omega arith;
      last = refl;
      none = none;
      long = length-replicate n 0 ∙ long;
      were = λ other some. let zero_at = index_zeros n other in absurd (omega arith);
    }))

-- it goes on
module _ (program : Program) (ranks path path' lengths lengths' : List ℕ) (slot to : ℕ) (walked : IsWalked program ranks path lengths slot) (goes : Goes program slot to) (none : HasNone ranks to) (is_path : path' ≡ path ++ to ∷ []) (is_lengths : lengths' ≡ set lengths slot (length path)) where
  early : (k : ℕ) → k < length path → slice_index path' k ≡ slice_index path k
  early k within = ap (λ (l : List ℕ). slice_index l k) is_path ∙ get_or_append_left path (to ∷ []) 0 k within

  longer : length path' ≡ length path + 1
  longer = ap (λ (l : List ℕ). length l) is_path ∙ length_push path to

  late : (k : ℕ) → k ≡ length path → slice_index path' k ≡ to
  late k is = ap (λ (l : List ℕ). slice_index l k) is_path ∙ get_or_at path to [] 0 k (sym is)

  steps : (index : ℕ) → index + 1 < length path' → Goes program (slice_index path' index) (slice_index path' (index + 1))
  steps index within =
      ⊎_elim
      (λ (same : index + 1 ≡ length path).
      let some = walked.some in
      let at : index ≡ length path - 1 = omega arith in
      let here : slice_index path' index ≡ slot = early index (omega arith) ∙ ap (λ (k : ℕ). slice_index path k) at ∙ walked.last in
      subst (λ (k : ℕ). Goes program k (slice_index path' (index + 1))) (sym here)
      (subst (λ (k : ℕ). Goes program slot k) (sym (late (index + 1) same)) goes))
      (λ (apart : index + 1 ≡ length path → ⊥).
      let long = longer in
      let inside : index + 1 < length path = omega arith in
      subst (λ (k : ℕ). Goes program k (slice_index path' (index + 1))) (sym (early index (omega arith)))
      (subst (λ (k : ℕ). Goes program (slice_index path index) k) (sym (early (index + 1) inside)) (walked.walk.each index inside)))
      (cases_eq (index + 1) (length path))

  within_lengths : slot < length lengths
  within_lengths = let long = walked.long in let within = walked.none.0 in omega arith

  came : (other : ℕ) → 0 < slice_index lengths' other → (slice_index lengths' other < length path') × (slice_index path' (slice_index lengths' other - 1) ≡ other)
  came other some =
      ⊎_elim
      (λ (same : other ≡ slot).
      let at : slice_index lengths' other ≡ length path = ap (λ (l : List ℕ). slice_index l other) is_lengths ∙ ap (λ (k : ℕ). slice_index (set lengths slot (length path)) k) same ∙ get_or-set_same lengths slot (length path) 0 within_lengths in
      let long = longer in
      let some_path = walked.some in
      let index : slice_index lengths' other - 1 ≡ length path - 1 = omega arith in
      (omega arith, ap (λ (k : ℕ). slice_index path' k) index ∙ early (length path - 1) (omega arith) ∙ walked.last ∙ sym same))
      (λ (apart : other ≡ slot → ⊥).
      let at : slice_index lengths' other ≡ slice_index lengths other = ap (λ (l : List ℕ). slice_index l other) is_lengths ∙ get_or-set_other lengths slot other (length path) 0 apart in
      let had : 0 < slice_index lengths other = omega arith in
      let before = walked.were other had in
      let low : slice_index lengths other < length path = before.0 in
      let long = longer in
      let index : slice_index lengths' other - 1 ≡ slice_index lengths other - 1 = omega arith in
      (omega arith, ap (λ (k : ℕ). slice_index path' k) index ∙ early (slice_index lengths other - 1) (omega arith) ∙ before.1))
      (cases_eq other slot)

  pub walk_on : IsWalked program ranks path' lengths' to
  walk_on =
      let long = longer in
      let some_path = walked.some in
      let end : length path' - 1 ≡ length path = omega arith in
      record {
        walk = record { each = steps };
        first = early 0 some_path ∙ walked.first;
        some = omega arith;
        last = late (length path' - 1) end;
        none = none;
        long = ap (λ (l : List ℕ). length l) is_lengths ∙ length-set lengths slot (length path) ∙ walked.long;
        were = came;
      }

-- it was at the slot before
pub come_round : (program : Program) (ranks path lengths : List ℕ) (slot : ℕ) → IsWalked program ranks path lengths slot → 0 < slice_index lengths slot → IsRound program path (slice_index lengths slot - 1)
come_round program ranks path lengths slot walked some =
    let before = walked.were slot some in
    let low : slice_index lengths slot < length path = before.0 in
    record {
      walk = walked.walk;
      first = walked.first;
      before = omega arith;
      same = before.1 ∙ sym walked.last;
    }

-- a step down on the way round is a jump back of a loop
pub loop_at : (program : Program) (path : List ℕ) (begin index at : ℕ) → IsRound program path begin → begin + 1 ≤ index → index < length path → slice_index path index ≤ slice_index path (index - 1) → at ≡ index - 1 → IsLoop program (slice_index path at)
loop_at program path begin index at round low within down is =
    let up : index - 1 + 1 ≡ index = omega arith in
    subst (λ (k : ℕ). IsLoop program (slice_index path k)) (sym is)
    (loop_found program path begin (index - 1) round.walk round.first (omega arith) (omega arith)
    (subst (λ (k : ℕ). slice_index path k ≤ slice_index path (index - 1)) (sym up) down) round.same)
