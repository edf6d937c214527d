-- How a line is put together, part by part.
use Rattle.std.proofs.Common.{◌≡◌, ◌≢◌, ℕ, suc, ◌+◌, ◌-◌, ◌<◌, ◌≤◌, List, [], ◌∷◌, ◌++◌, length, take, get_or, Option, Some, None, refl, sym, ap, subst, ◌∙◌, arith, inl, inr, length-append, length-take, get_or-take}
use Rattle.std.specs.Io.KnownBytes.{Consumes, Keeps}
use Rattle.std.proofs.KnownBytes.{Consumes-nil, Consumes-trans, Consumes-kept}
use Rattle.std.proofs.lemmas.Bool.{cases_lt, ne_eqb}
use Rattle.std.proofs.lemmas.List.{take_all, take_more}
use Rattle.change_ops.specs.Refusals.{IsUnended}
use Rattle.session_lines.specs.Lines.{IsLine, IsRemainder, IsTooLong, IsOver, Takes, Arrives}
use Rattle.session_lines.specs.Parts.{Appended, IsBegun, Stands}
use Rattle.session_lines.specs.declared.reader.Arrival.{Arrival}
use Rattle.session_lines.specs.declared.reader.Arrival.TheVariants.{Whole, Unended, TooLong, End}
use Rattle.session_lines.proofs.Unended.{unended_each, each_unended}

-- all but the last byte, where the bytes before the last part have no LF, and none of that but perhaps its last
all_but_last : (had part : List ℕ) → IsUnended had → IsUnended (take (length part - 1) part) → IsUnended (take (length (had ++ part) - 1) (had ++ part))
all_but_last [] part h k = k
all_but_last (x ∷ xs) part h k = go (xs ++ part) (all_but_last xs part h.1 k) where
  go : (ys : List ℕ) → IsUnended (take (length ys - 1) ys) → IsUnended (take (length (x ∷ ys) - 1) (x ∷ ys))
  go [] r = let e : length (x ∷ []) - 1 ≡ 0 = omega arith in subst (λ (n : ℕ). IsUnended (take n (x ∷ []))) (sym e) tt
  go (y ∷ ys) r = let e : length (x ∷ y ∷ ys) - 1 ≡ suc (length (y ∷ ys) - 1) = omega arith in subst (λ (n : ℕ). IsUnended (take n (x ∷ y ∷ ys))) (sym e) (h.0, r)

-- a line is begun with what was there before and a part more
pub begun : (old new : Option (List ℕ)) (had line : List ℕ) (room n : ℕ) → IsRemainder had → Appended old had room n new line → room + length had ≤ 70001 → IsBegun n line
begun old new had line room n h a fits =
    let size : length line ≡ length had + n = ap length a.whole ∙ length-append had a.part ∙ ap (λ m. length had + m) a.many in
    let same : n ≡ length a.part = sym a.many in
    record {
      few = omega (arith, size, a.few, fits);
      one = subst (λ (l : List ℕ). IsUnended (take (length l - 1) l)) (sym a.whole) (all_but_last had a.part h.one (subst (λ (m : ℕ). IsUnended (take (m - 1) a.part)) same a.one));
      some = λ more. omega (arith, size);
      last = λ none.
          let nothing : length a.part ≡ 0 = a.many ∙ none in
          let whole : line ≡ had = a.whole ∙ empty had a.part nothing in
          subst IsRemainder (sym whole) h;
    }
  where
    empty : (xs ys : List ℕ) → length ys ≡ 0 → xs ++ ys ≡ xs
    empty [] [] e = refl
    empty (x ∷ xs) [] e = ap (λ (zs : List ℕ). x ∷ zs) (empty xs [] e)
    empty xs (y ∷ ys) e = absurd (omega arith)

-- ---- what comes of a line
pub remains : (n : ℕ) (xs : List ℕ) → IsBegun n xs → length xs ≤ 70000 → 0 < length xs → get_or xs (length xs - 1) 0 ≢ 10 → IsRemainder xs
remains n xs b few some last = record {
  one = unended_each xs (λ k lt. elim (cases_lt k (length xs - 1)) [
    | inl before ↦
        let j : k < length (take (length xs - 1) xs) = omega (arith, length-take (length xs - 1) xs) in
        let here : get_or (take (length xs - 1) xs) k 0 ≡ get_or xs k 0 = get_or-take (length xs - 1) xs k 0 before in
        ne_eqb (get_or xs k 0) 10 (λ e. each_unended (take (length xs - 1) xs) k b.one j (here ∙ e))
    | inr at ↦ let same : k ≡ length xs - 1 = omega arith in rw same (ne_eqb (get_or xs (length xs - 1) 0) 10 last)
  ]);
  short = few;
}

pub a_line : (n : ℕ) (xs front : List ℕ) → IsBegun n xs → length xs ≤ 70000 → 0 < length xs → get_or xs (length xs - 1) 0 ≡ 10 → front ≡ take (length xs - 1) xs
    → (xs ≡ front ++ 10 ∷ []) × IsLine front
a_line n xs front b few some last e =
    let size : length xs - 1 + 1 ≡ length xs = omega arith in
    let all : take (length xs - 1 + 1) xs ≡ xs = take_all (length xs - 1 + 1) xs (omega arith) in
    let more : take (length xs - 1 + 1) xs ≡ take (length xs - 1) xs ++ get_or xs (length xs - 1) 0 ∷ [] = take_more xs (length xs - 1) 0 (omega arith) in
    let whole : xs ≡ take (length xs - 1) xs ++ 10 ∷ [] = sym all ∙ more ∙ ap (λ (b : ℕ). take (length xs - 1) xs ++ b ∷ []) last in
    (whole ∙ ap (λ (l : List ℕ). l ++ 10 ∷ []) (sym e), subst IsLine (sym e) (record { one = b.one; short = omega (arith, length-take (length xs - 1) xs) }))

pub too_long : (n : ℕ) (xs : List ℕ) → IsBegun n xs → 70000 < length xs → IsTooLong xs
too_long n xs b long =
    let size : length xs - 1 ≡ 70000 = omega (arith, b.few) in
    record { one = subst (λ (m : ℕ). IsUnended (take m xs)) size b.one; long = long }

-- ---- a line that is read
-- what was taken, and how much of a line it is
pub record SoFar (old now : Option (List ℕ)) (line : List ℕ) : Type 0 where
  pub rest : IsRemainder line
  pub front : Consumes old now line

more_front : (old now new : Option (List ℕ)) (had line : List ℕ) (room n : ℕ) → Consumes old now had → Appended now had room n new line → Consumes old new line
more_front old now new had line room n f a = subst (Consumes old new) (sym a.whole) (Consumes-trans old now new had a.part f a.front)

pub so_far_none : (old : Option (List ℕ)) → SoFar old old []
so_far_none old = record { rest = record { one = tt; short = omega arith }; front = Consumes-nil old }

pub so_far_more : (old now new : Option (List ℕ)) (had line kept : List ℕ) (room n : ℕ) → SoFar old now had → Appended now had room n new line → Stands n line None kept → SoFar old new kept
so_far_more old now new had line kept room n s a t = subst (SoFar old new) (sym t.0) (record { rest = t.1; front = more_front old now new had line room n s.front a })

pub so_far_kept : (old now new : Option (List ℕ)) (had line : List ℕ) → SoFar old now had → Keeps now new → line ≡ had → SoFar old new line
so_far_kept old now new had line s k e = subst (SoFar old new) (sym e) (record { rest = s.rest; front = Consumes-kept old now new had s.front k })

-- what is over since some moment was over before it
pub over_since : (old now new : Option (List ℕ)) (had : List ℕ) → Consumes old now had → IsOver now new → IsOver old new
over_since None now new had f o = tt
over_since (Some x) None new had f o = absurd f
over_since (Some x) (Some y) new had f o = o

stands : (n : ℕ) (old left : Option (List ℕ)) (taken line : List ℕ) (arrival : Arrival) → (n ≡ 0 → IsOver old left) → Stands n taken (Some arrival) line → Takes old arrival (record { line = line; left = left }) taken
stands n old left taken line Whole end t = (t.1, t.0)
stands n old left taken line Unended end t =
    let same : taken ≡ line = sym t.0 in
    (subst IsRemainder same t.1, subst (λ (l : List ℕ). 1 ≤ length l) same t.2, same, end t.3)
stands n old left taken line TooLong end t = t
stands n old left taken line End end t = (t.0, end t.1)

pub arrives : (old now new : Option (List ℕ)) (had taken line : List ℕ) (room n : ℕ) (arrival : Arrival) → SoFar old now had → Appended now had room n new taken
    → Stands n taken (Some arrival) line → Arrives old arrival (record { line = line; left = new })
arrives old now new had taken line room n arrival s a t = record {
  taken = taken;
  front = more_front old now new had taken room n s.front a;
  shape = stands n old new taken line arrival (λ none. over_since old now new had s.front (a.end none)) t;
}
