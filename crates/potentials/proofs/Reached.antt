-- Where values have no tails, the number that the rule gives is reached.
use Rattle.std.proofs.Common.{◌≡◌, ℕ, ℤ, pos, ◌≤◌, ◌+ℤ◌, ◌-ℤ◌, ◌*ℤ◌, ◌≤ℤ◌, Bool, true, false, if◌then◌else◌, List, [], ◌∷◌, fold, map, refl, sym, ◌∙◌, ap, subst, arith, int_lt}
use Rattle.std.proofs.lemmas.Int.{ints}
use Rattle.span_context.specs.Context.{text_limit, link_limit}
use Rattle.potentials.specs.declared.Form.{Form}
use Rattle.potentials.specs.declared.Weighed.{Weighed}
use Rattle.potentials.specs.Values.{HasTail, IsOf, AreOf, at_lengths, all_weighed, IsFree, AreFree, IsReached, IsAtLeast}
use Rattle.potentials.specs.Least.{at_value, by_link, by_text, without, at_length, least_of}

abbrev worst : Weighed → ℕ
worst w = if int_lt w.weight (pos 0) then w.low else w.high

taken : (form : Form) (w : Weighed) → IsFree w → without form w ≡ at_value form w.weight (worst w)
unfolding without
taken form w free = go (int_lt w.weight (pos 0))
  where
    go : (b : Bool)
        → (if b then at_value form w.weight w.low else by_text form w w.tail)
        ≡ at_value form w.weight (if b then w.low else w.high)
    go true = refl
    go false = ap (by_text form w) free.no_tail ∙ ap (by_link form w) free.no_link_tail

same_sum : (constant rest wx others : ℤ)
    → (((constant -ℤ wx) +ℤ rest) -ℤ others) ≡ ((constant +ℤ rest) -ℤ (wx +ℤ others))
same_sum constant rest wx others = omega (arith, ints)

no_less : (a : ℤ) → a ≡ (a -ℤ pos 0)
no_less a = omega (arith, ints)

values_reached : (form : Form) (weighed : List Weighed) → AreFree weighed → (text link : ℕ)
    → at_lengths (fold without form weighed) text link
    ≡ (at_lengths form text link -ℤ all_weighed weighed (map worst weighed))
unfolding AreFree all_weighed
values_reached form [] free text link = no_less (at_lengths form text link)
values_reached form (w ∷ weighed) free text link =
    values_reached (without form w) weighed free.1 text link
    ∙ (ap (λ f. at_lengths f text link -ℤ all_weighed weighed (map worst weighed)) (taken form w free.0)
    ∙ same_sum form.constant (form.per_byte *ℤ pos text +ℤ form.per_link_byte *ℤ pos link)
    (w.weight *ℤ pos (worst w)) (all_weighed weighed (map worst weighed)))

worst_of : (w : Weighed) (text link : ℕ) → IsFree w → IsOf w text link (worst w)
worst_of w text link free = go (int_lt w.weight (pos 0))
  where
    go : (b : Bool) → IsOf w text link (if b then w.low else w.high)
    go true = record {
      low = omega arith;
      high = free.possible;
      tail = subst (λ o. HasTail o text w.low) (sym free.no_tail) tt;
      link_tail = subst (λ o. HasTail o link w.low) (sym free.no_link_tail) tt;
    }
    go false = record {
      low = free.possible;
      high = omega arith;
      tail = subst (λ o. HasTail o text w.high) (sym free.no_tail) tt;
      link_tail = subst (λ o. HasTail o link w.high) (sym free.no_link_tail) tt;
    }

worst_are : (weighed : List Weighed) (text link : ℕ) → AreFree weighed → AreOf weighed text link (map worst weighed)
unfolding AreFree AreOf
worst_are [] text link free = tt
worst_are (w ∷ weighed) text link free = (worst_of w text link free.0, worst_are weighed text link free.1)

-- ---- the lengths
abbrev worst_length : ℤ → ℕ → ℕ → ℕ
worst_length per least limit = if int_lt per (pos 0) then limit else least

length_reached : (per : ℤ) (least limit : ℕ) → at_length per least limit ≡ per *ℤ pos (worst_length per least limit)
length_reached per least limit = go (int_lt per (pos 0))
  where
    go : (b : Bool)
        → (if b then per *ℤ pos limit else per *ℤ pos least) ≡ per *ℤ pos (if b then limit else least)
    go true = refl
    go false = refl

worst_lies : (per : ℤ) (least limit : ℕ) → least ≤ limit
    → (least ≤ worst_length per least limit) × (worst_length per least limit ≤ limit)
worst_lies per least limit fits = go (int_lt per (pos 0))
  where
    go : (b : Bool) → (least ≤ (if b then limit else least)) × ((if b then limit else least) ≤ limit)
    go true = (fits, omega arith)
    go false = (omega arith, fits)

pub reached : (form : Form) (weighed : List Weighed) (least_text least_link : ℕ) → AreFree weighed
    → least_text ≤ text_limit → least_link ≤ link_limit
    → IsReached form weighed least_text least_link (least_of form weighed least_text least_link)
reached form weighed least_text least_link free text_fits link_fits =
    let left = fold without form weighed in
    let text : ℕ = worst_length left.per_byte least_text text_limit in
    let link : ℕ = worst_length left.per_link_byte least_link link_limit in
    let text_lies = worst_lies left.per_byte least_text text_limit text_fits in
    let link_lies = worst_lies left.per_link_byte least_link link_limit link_fits in
    record {
      text = text;
      link = link;
      values = map worst weighed;
      lengths = record {
        text_long = text_lies.0;
        text_short = text_lies.1;
        link_long = link_lies.0;
        link_short = link_lies.1;
      };
      of = worst_are weighed text link free;
      is = sym (ap (λ z. left.constant +ℤ (z +ℤ at_length left.per_link_byte least_link link_limit))
          (length_reached left.per_byte least_text text_limit)
          ∙ (ap (λ z. left.constant +ℤ (left.per_byte *ℤ pos text +ℤ z))
          (length_reached left.per_link_byte least_link link_limit)
          ∙ values_reached form weighed free text link));
    }

-- so a number that the form is at least everywhere is at most the rule's
pub greatest : (form : Form) (weighed : List Weighed) (least_text least_link : ℕ) (number : ℤ) → AreFree weighed
    → least_text ≤ text_limit → least_link ≤ link_limit → IsAtLeast form weighed least_text least_link number
    → number ≤ℤ least_of form weighed least_text least_link
greatest form weighed least_text least_link number free text_fits link_fits at_least =
    let there = reached form weighed least_text least_link free text_fits link_fits in
    subst (λ z. number ≤ℤ z) there.is (at_least there.text there.link there.values there.lengths there.of)
