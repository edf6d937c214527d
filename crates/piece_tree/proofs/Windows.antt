-- A window in a list of nodes.
use Rattle.std.proofs.Common.{◌≡◌, ℕ, zero, suc, ◌+◌, ◌-◌, ◌<◌, ◌≤◌, List, [], ◌∷◌, ◌++◌, length, take, drop, get_or, refl, sym, ap, subst, ◌∙◌, arith, append_assoc}
use Rattle.std.proofs.Common.{Bool, true, false, if◌then◌else◌, ◌⊎◌, inl, inr}
use Rattle.std.proofs.lemmas.List.{length-drop, take_all}
use Rattle.piece_tree.specs.Nodes.{pieces_of, AreHalfFull, AreFilled}
use Rattle.piece_tree.proofs.Lists.{pieces_append, take_pieces, drop_pieces}
use Rattle.piece_tree.proofs.Filled.{filled_around, filled_at, half_at}

-- where a place lies: in the node k, with `start` pieces before that
pub record IsSpot {X : Type 0} (ns : List (List X)) (place k start : ℕ) : Type 0 where
  pub within : k < length ns
  pub start_is : start ≡ length (pieces_of (take k ns))
  pub up_to : start ≤ place
  pub before : 0 < k → start < place
  pub reached : place ≤ start + length (get_or ns k [])

pub next_and_rest : {X : Type 0} (ns : List (List X)) (k : ℕ) → get_or ns k [] ++ pieces_of (drop (k + 1) ns) ≡ pieces_of (drop k ns)
next_and_rest [] zero = refl
next_and_rest {X} [] (suc k) =
    let on : suc k + 1 ≡ suc (k + 1) = omega arith in
    let none : List (List X) = [] in
    ap (λ (j : ℕ). pieces_of (drop j none)) on
next_and_rest (n ∷ ns) zero = refl
next_and_rest {X} (n ∷ ns) (suc k) =
    let on : suc k + 1 ≡ suc (k + 1) = omega arith in
    ap (λ (j : ℕ). get_or ns k [] ++ pieces_of (drop j (n ∷ ns))) on ∙ next_and_rest ns k

joined_parts : {X : Type 0} (a f n b t d : List X) → a ++ ((f ++ (n ++ (b ++ t))) ++ d) ≡ (a ++ f) ++ (n ++ (b ++ (t ++ d)))
joined_parts a f n b t d = simp append_assoc

-- the pieces, once the window's nodes stand in place of those that it touched
pub window_flat : {X : Type 0} (ns made : List (List X)) (new taken : List X) (from to first start last until end : ℕ)
    → IsSpot ns from first start → IsSpot ns to last until
    → pieces_of made ≡ take (from - start) (get_or ns first []) ++ (new ++ (drop (to - until) (get_or ns last []) ++ taken))
    → taken ++ pieces_of (drop end ns) ≡ pieces_of (drop (last + 1) ns)
    → pieces_of (take first ns ++ (made ++ drop end ns)) ≡ take from (pieces_of ns) ++ (new ++ drop to (pieces_of ns))
window_flat {X} ns made new taken from to first start last until end f l flat rest =
    let front : List X = take (from - start) (get_or ns first []) in
    let back : List X = drop (to - until) (get_or ns last []) in
    let ahead : List X = pieces_of (take first ns) in
    let behind : List X = pieces_of (drop end ns) in
    let taking : take from (pieces_of ns) ≡ ahead ++ front = take_pieces ns first (from - start) from f.within (omega (arith, f.reached)) (omega (arith, f.start_is, f.up_to)) in
    let dropping : drop to (pieces_of ns) ≡ back ++ pieces_of (drop (last + 1) ns) = drop_pieces ns last (to - until) to l.within (omega (arith, l.reached)) (omega (arith, l.start_is, l.up_to)) in
    pieces_append (take first ns) (made ++ drop end ns)
    ∙ ap (λ (k : List X). ahead ++ k) (pieces_append made (drop end ns) ∙ ap (λ (k : List X). k ++ behind) flat)
    ∙ joined_parts ahead front new back taken behind
    ∙ ap (λ (k : List X). (ahead ++ front) ++ (new ++ (back ++ k))) rest
    ∙ ap (λ (k : List X). (ahead ++ front) ++ (new ++ k)) (sym dropping)
    ∙ ap (λ (k : List X). k ++ (new ++ drop to (pieces_of ns))) (sym taking)

-- how full the nodes are then, where the window's nodes took no more than they touch
pub window_filled : {X : Type 0} (ns made : List (List X)) (first last : ℕ) → AreFilled ns → first < length ns → AreFilled made
    → (0 < length (get_or ns (last + 1) []) → AreHalfFull made)
    → AreFilled (take first ns ++ (made ++ drop (last + 1) ns))
window_filled ns made first last f lt g half = filled_around ns made first (last + 1) f lt g (λ more. half (filled_at ns (last + 1) f more).0)

-- and where they took the next node's pieces too
pub window_filled_with_next : {X : Type 0} (ns made : List (List X)) (first last : ℕ) → AreFilled ns → first < length ns → AreFilled made
    → (16 ≤ length (get_or ns (last + 1) []) → AreHalfFull made)
    → AreFilled (take first ns ++ (made ++ drop (last + 2) ns))
window_filled_with_next ns made first last f lt g half =
    filled_around ns made first (last + 2) f lt g (λ more. half (half_at ns (last + 1) f (omega arith)).0)

pub record IsReplaced {X : Type 0} (ns all : List (List X)) (from to : ℕ) (new : List X) : Type 0 where
  pub flat : pieces_of all ≡ take from (pieces_of ns) ++ (new ++ drop to (pieces_of ns))
  pub filled : AreFilled all

-- what the window's nodes are: they have what stays in front, what is new, what stays behind, and what was taken
pub record AreMade {X : Type 0} (made : List (List X)) (front new back next : List X) (took : Bool) : Type 0 where
  pub flat : pieces_of made ≡ front ++ (new ++ (back ++ (if took then next else [])))
  pub filled : AreFilled made
  pub half : took ≡ false → 0 < length next → AreHalfFull made
  pub half_with_next : took ≡ true → 16 ≤ length next → AreHalfFull made

-- the rest of a list from a place on, as a range up to its end
pub to_end : {X : Type 0} (xs : List X) (k : ℕ) → take (length xs - k) (drop k xs) ≡ drop k xs
to_end xs k = take_all (length xs - k) (drop k xs) (omega (arith, length-drop k xs))

made_flat : {X : Type 0} (made : List (List X)) (new back next : List X) (f l : List X) (o p : ℕ) (took : Bool) (taken : List X)
    → AreMade made (take o f) new (take (length l - p) (drop p l)) next took → (if took then next else []) ≡ taken
    → pieces_of made ≡ take o f ++ (new ++ (drop p l ++ taken))
made_flat {X} made new back next f l o p took taken m e =
    m.flat ∙ ap (λ (k : List X). take o f ++ (new ++ (k ++ (if took then next else [])))) (to_end l p)
    ∙ ap (λ (k : List X). take o f ++ (new ++ (drop p l ++ k))) e

pub window_replaced : {X : Type 0} (ns made all : List (List X)) (new : List X) (from to first start last until end : ℕ) (took : Bool)
    → AreFilled ns → IsSpot ns from first start → IsSpot ns to last until
    → AreMade made (take (from - start) (get_or ns first [])) new
    (take (length (get_or ns last []) - (to - until)) (drop (to - until) (get_or ns last []))) (get_or ns (last + 1) []) took
    → ((took ≡ true) × (end ≡ last + 2)) ⊎ ((took ≡ false) × (end ≡ last + 1))
    → all ≡ take first ns ++ (made ++ take (length ns - end) (drop end ns))
    → IsReplaced ns all from to new
window_replaced {X} ns made all new from to first start last until end took f a b m e is = elim e [
  | inl h ↦
      let place : all ≡ take first ns ++ (made ++ drop (last + 2) ns) = there ∙ ap (λ (k : ℕ). take first ns ++ (made ++ drop k ns)) h.1 in
      let next : List X = get_or ns (last + 1) [] in
      let chosen : (if took then next else []) ≡ next = ap (λ (t : Bool). if t then next else []) h.0 in
      let on : last + 1 + 1 ≡ last + 2 = omega arith in
      let rest : next ++ pieces_of (drop (last + 2) ns) ≡ pieces_of (drop (last + 1) ns) =
      ap (λ (k : ℕ). next ++ pieces_of (drop k ns)) (sym on) ∙ next_and_rest ns (last + 1) in
      record {
        flat = ap (λ (l : List (List X)). pieces_of l) place
            ∙ window_flat ns made new next from to first start last until (last + 2) a b
            (made_flat made new [] next (get_or ns first []) (get_or ns last []) (from - start) (to - until) took next m chosen) rest;
        filled = subst (λ (l : List (List X)). AreFilled l) (sym place) (window_filled_with_next ns made first last f a.within m.filled (m.half_with_next h.0));
      }
  | inr h ↦
      let place : all ≡ take first ns ++ (made ++ drop (last + 1) ns) = there ∙ ap (λ (k : ℕ). take first ns ++ (made ++ drop k ns)) h.1 in
      let next : List X = get_or ns (last + 1) [] in
      let chosen : (if took then next else []) ≡ [] = ap (λ (t : Bool). if t then next else []) h.0 in
      record {
        flat = ap (λ (l : List (List X)). pieces_of l) place
            ∙ window_flat ns made new [] from to first start last until (last + 1) a b
            (made_flat made new [] next (get_or ns first []) (get_or ns last []) (from - start) (to - until) took [] m chosen) refl;
        filled = subst (λ (l : List (List X)). AreFilled l) (sym place) (window_filled ns made first last f a.within m.filled (m.half h.0));
      }
]
  where
    there : all ≡ take first ns ++ (made ++ drop end ns)
    there = is ∙ ap (λ (l : List (List X)). take first ns ++ (made ++ l)) (to_end ns end)
