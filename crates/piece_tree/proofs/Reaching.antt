-- Places of a list of nodes.
use Rattle.std.proofs.Common.{◌≡◌, ℕ, zero, suc, ◌+◌, ◌-◌, ◌<◌, ◌≤◌, ◌⊎◌, inl, inr, List, [], length, take, drop, get_or, refl, sym, ap, ◌∙◌, arith, sum_by}
use Rattle.std.proofs.lemmas.List.{take_all}
use Rattle.std.proofs.Math.Seq.{take-add}
use Rattle.std.proofs.lemmas.List.Sums.{sum_by-append}
use Rattle.piece_tree.specs.declared.piece.Measure.{Measure}
use Rattle.piece_tree.specs.declared.piece.Measure.TheVariants.{Parts, Characters}
use Rattle.piece_tree.specs.declared.spot.Spot.{Spot}
use Rattle.piece_tree.specs.Nodes.{pieces_of}
use Rattle.piece_tree.specs.Spots.{IsReached, measured}
use Rattle.piece_tree.proofs.Lists.{take_pieces, length_more, length_within}

-- that of two sums that is meant
pub measured_is : {X : Type 0} (size : Measure → X → ℕ) (measure : Measure) (xs : List X) (parts characters : ℕ)
    → parts ≡ sum_by (size Parts) xs → characters ≡ sum_by (size Characters) xs → measured measure parts characters ≡ sum_by (size measure) xs
measured_is size Parts xs parts characters p c = p
measured_is size Characters xs parts characters p c = c

-- the pieces before a place within the node k
pub inner_sum : {X : Type 0} (f : X → ℕ) (ns : List (List X)) (k o p : ℕ) → k < length ns → o ≤ length (get_or ns k [])
    → p ≡ length (pieces_of (take k ns)) + o
    → sum_by f (take p (pieces_of ns)) ≡ sum_by f (pieces_of (take k ns)) + sum_by f (take o (get_or ns k []))
inner_sum f ns k o p lt le e = ap (sum_by f) (take_pieces ns k o p lt le e) ∙ sum_by-append f (pieces_of (take k ns)) (take o (get_or ns k []))

sum_rises : {X : Type 0} (f : X → ℕ) (xs : List X) (k : ℕ) → sum_by f (take k xs) ≤ sum_by f (take (k + 1) xs)
sum_rises f xs k = omega (arith, ap (sum_by f) (take-add k 1 xs) ∙ sum_by-append f (take k xs) (take 1 (drop k xs)))

pub reached_in : {X : Type 0} (size : Measure → X → ℕ) (measure : Measure) (ns : List (List X)) (k place within : ℕ) (inner spot : Spot)
    → k < length ns → IsReached size measure (get_or ns k []) within inner
    → within ≡ place - sum_by (size measure) (pieces_of (take k ns))
    → place ≤ sum_by (size measure) (pieces_of (take k ns)) + sum_by (size measure) (get_or ns k [])
    → (0 < length (pieces_of (take k ns)) → sum_by (size measure) (pieces_of (take k ns)) < place)
    → spot.index ≡ length (pieces_of (take k ns)) + inner.index
    → spot.parts ≡ sum_by (size Parts) (pieces_of (take k ns)) + inner.parts
    → spot.characters ≡ sum_by (size Characters) (pieces_of (take k ns)) + inner.characters
    → IsReached size measure (pieces_of ns) place spot
reached_in {X} size measure ns k place within inner spot lt r less ends before index_is parts_is characters_is =
    let node : List X = get_or ns k [] in
    let f : X → ℕ = size measure in
    let ahead : ℕ = sum_by f (pieces_of (take k ns)) in
    let here : sum_by f (take spot.index (pieces_of ns)) ≡ ahead + sum_by f (take inner.index node) = inner_sum f ns k inner.index spot.index lt r.within index_is in
    let in_parts : sum_by (size Parts) (take spot.index (pieces_of ns)) ≡ sum_by (size Parts) (pieces_of (take k ns)) + sum_by (size Parts) (take inner.index node) = inner_sum (size Parts) ns k inner.index spot.index lt r.within index_is in
    let in_characters : sum_by (size Characters) (take spot.index (pieces_of ns)) ≡ sum_by (size Characters) (pieces_of (take k ns)) + sum_by (size Characters) (take inner.index node) = inner_sum (size Characters) ns k inner.index spot.index lt r.within index_is in
    record {
      within = omega (arith, r.within, length_more ns k lt, length_within ns (k + 1));
      parts = omega (arith, r.parts);
      characters = omega (arith, r.characters);
      before = λ some. begun inner.index refl some here;
      reached = λ more. elim (less_or_all inner.index (length node) r.within) [
        | inl within_node ↦
            let next : sum_by f (take (spot.index + 1) (pieces_of ns)) ≡ ahead + sum_by f (take (inner.index + 1) node) =
            inner_sum f ns k (inner.index + 1) (spot.index + 1) lt (omega arith) (omega arith) in
            omega (arith, r.reached within_node)
        | inr all ↦
            let whole : sum_by f (take inner.index node) ≡ sum_by f node = ap (sum_by f) (take_all inner.index node (omega arith)) in
            omega (arith, sum_rises f (pieces_of ns) spot.index)
      ];
    }
  where
    less_or_all : (i n : ℕ) → i ≤ n → (i < n) ⊎ (i ≡ n)
    less_or_all zero zero le = inr refl
    less_or_all zero (suc n) le = inl (omega arith)
    less_or_all (suc i) zero le = absurd (omega arith)
    less_or_all (suc i) (suc n) le = elim (less_or_all i n (omega arith)) [ inl h ↦ inl (omega arith) | inr e ↦ inr (ap suc e) ]

    begun : (i : ℕ) → i ≡ inner.index → 0 < spot.index
        → sum_by (size measure) (take spot.index (pieces_of ns)) ≡ sum_by (size measure) (pieces_of (take k ns)) + sum_by (size measure) (take inner.index (get_or ns k []))
        → sum_by (size measure) (take spot.index (pieces_of ns)) < place
    begun zero e some here =
        let none : sum_by (size measure) (take inner.index (get_or ns k [])) ≡ 0 = ap (λ n. sum_by (size measure) (take n (get_or ns k []))) (sym e) in
        let low : sum_by (size measure) (pieces_of (take k ns)) < place = before (omega arith) in
        omega arith
    begun (suc i) e some here =
        let low : sum_by (size measure) (take inner.index (get_or ns k [])) < within = r.before (omega arith) in
        omega arith
