-- What terms before an edge and behind it leave.
use Rattle.std.proofs.Common.{◌≡◌, ◌↔◌, ℕ, ℤ, pos, negsuc, ◌+◌, ◌-◌, ◌*◌, ◌^◌, ◌<◌, ◌≤◌, ◌+ℤ◌, ◌-ℤ◌, ◌*ℤ◌, ◌≤ℤ◌, ◌<ℤ◌, int_le, int_lt, ◌&&◌, cond, Bool, true, false, List, [], ◌∷◌, ◌++◌, length, get_or, set, take, map, Option, Some, None, option_map, option_and_then, unsigned_abs, FitsSigned, to_z, of_z, w32, w64, refl, sym, ap, subst, ◌∙◌, arith}
use Rattle.std.proofs.lemmas.Int.{ints}
use Rattle.std.proofs.lemmas.List.{length-set, map-append, take_more, take_more_set, take_all}
use Rattle.std.proofs.lemmas.Slice.Zip.{length-zip, get_or-zip}
use Rattle.std.specs.Prelude.{zip}
use Rattle.std.specs.Int.{w128}
use Rattle.bpf_words.specs.declared.instruction.Insn.{Insn}
use Rattle.semantics.specs.State.{State}
use Rattle.potentials.specs.declared.Weighed.{Weighed}
use Rattle.potentials.specs.Values as values
use Rattle.potentials.specs.Values.{AreLengths, AreOf, IsOf}
use Rattle.potentials.specs.Least.{least_of}
use Rattle.potentials.proofs.Sound.{sound}
use Rattle.loop_labels.specs.Potential as labels
use Rattle.abstract_state.specs.declared.state.AbsState.{AbsState}
use Rattle.abstract_state.specs.Lent.{Lengths}
use Rattle.abstract_state.specs.State.{Span, lengths_of, Contains}
use Rattle.value_marks.specs.Copies.{Bear, kept}
use Rattle.tracked_state.specs.declared.state.TrackedState.{TrackedState}
use Rattle.tracked_state.specs.Tracked.{ContainsTracked}
use Rattle.label_potentials.specs.declared.potential.Holder.{Holder}
use Rattle.label_potentials.specs.declared.potential.Holder.TheVariants.{Register, StackSlot}
use Rattle.label_potentials.specs.declared.potential.Base.{Base}
use Rattle.label_potentials.specs.declared.potential.Base.TheVariants.{Zero, Text, Link}
use Rattle.label_potentials.specs.declared.potential.Term.{Term}
use Rattle.label_potentials.specs.declared.potential.Potential.{Potential}
use Rattle.potential_edges.specs.declared.source.Source.{Source}
use Rattle.potential_edges.specs.declared.rest.Rest.{Rest}
use Rattle.potential_edges.specs.declared.edges.Difference.{Difference}
use Rattle.label_potentials.specs.Views.{holder_of, base_of, potential_of, weight_at, weights_at, left_at}
use Rattle.potential_edges.specs.Same.{is_base}
use Rattle.potential_edges.specs.Leasts.{least_in}
use Rattle.label_potentials.specs.Weights.{weighed_in}
use Rattle.potential_edges.specs.Sources.{source_in}
use Rattle.potential_edges.specs.Ahead.{ahead_in}
use Rattle.potential_edges.specs.Edges.{lightest_more, more_from, more_in, rest, in_word, rest_together, rest_apart, rest_by, rest_in, all_more, form_with, IsDifference, FallsBy, Falls}
use Rattle.potential_edges.proofs.AtLeast.{least_sound}
use Rattle.potential_edges.proofs.Products.{spread, lessened_weight, rises_by, falls_by as falls_further}
use Rattle.potential_edges.proofs.Leads.{IsAheadBy, ahead_sound}
use Rattle.label_potentials.proofs.Sums.{left_is}
use Rattle.label_potentials.proofs.Held.{IsWhole}
use Rattle.label_potentials.proofs.Weighing.{weighed_sound, known_more, none_unknown, one_knowledge, form_from}
use Rattle.potential_edges.proofs.Sources.{Steps, ComesFrom, WritesOne, source_sound}

-- ---- the same base
base_is : (a b : Base) → is_base a b ≡ true → a ≡ b
base_is Zero Zero e = refl
base_is Zero Text e = absurd (cc)
base_is Zero Link e = absurd (cc)
base_is Text Zero e = absurd (cc)
base_is Text Text e = refl
base_is Text Link e = absurd (cc)
base_is Link Zero e = absurd (cc)
base_is Link Text e = absurd (cc)
base_is Link Link e = refl

-- ---- two terms: the first weighs before the edge, less what the second weighs behind it, no more than what is left
abbrev count_of : State → Holder → Base → ℤ
count_of s holder base = labels.counted_from (base_of base) (labels.number_in s (holder_of holder))

-- a step on from a state of which the marks are true too
pub record Goes (a : TrackedState) (insn : Insn) (span : Span) (s next : State) : Type 0 where
  pub steps : Steps a.state insn span s next
  pub marks : Bear (kept a.copies) s

-- the second term weighs behind at least what it would weigh on what the first counts before, and so much more
abbrev WeighsMore : TrackedState → Insn → Term → Term → ℤ → Type 0
WeighsMore a insn before after more =
    (span : Span) (s next : State) → Goes a insn span s next
    → (after.weight *ℤ count_of s before.holder before.base +ℤ after.weight *ℤ more) ≤ℤ weight_at next after

heavier : (count ahead by least both next : ℤ) → next ≡ count +ℤ (ahead +ℤ by) → both ≡ ahead +ℤ least → least ≤ℤ by
    → (count +ℤ both) ≤ℤ next
heavier count ahead by least both next e f h = omega (arith, ints)

further : (count ahead by source next : ℤ) → next ≡ source +ℤ by → source ≡ count +ℤ ahead
    → next ≡ count +ℤ (ahead +ℤ by)
further count ahead by source next e f = omega (arith, ints)

weighs_further : (weight count ahead by least source next : ℤ) → next ≡ source +ℤ by → source ≡ count +ℤ ahead
    → (weight *ℤ least) ≤ℤ (weight *ℤ by)
    → (weight *ℤ count +ℤ weight *ℤ (ahead +ℤ least)) ≤ℤ (weight *ℤ next)
weighs_further weight count ahead by least source next e f h =
    heavier (weight *ℤ count) (weight *ℤ ahead) (weight *ℤ by) (weight *ℤ least) (weight *ℤ (ahead +ℤ least))
    (weight *ℤ next)
    (ap (λ z. weight *ℤ z) (further count ahead by source next e f)
    ∙ spread weight count (ahead +ℤ by)
    ∙ ap (λ z. weight *ℤ count +ℤ z) (spread weight ahead by)) (spread weight ahead least) h

lightest_is : (weight by : ℤ) (from : Source) → from.low ≤ℤ by → by ≤ℤ from.high
    → (weight *ℤ lightest_more weight from) ≤ℤ (weight *ℤ by)
lightest_is weight by from low high = go (int_lt weight (pos 0)) refl
  where
    go : (b : Bool) → int_lt weight (pos 0) ≡ b → (weight *ℤ cond b from.high from.low) ≤ℤ (weight *ℤ by)
    go true e = let negative : weight <ℤ pos 0 = omega (arith, ints) in falls_further weight by from.high negative high
    go false e = let natural : pos 0 ≤ℤ weight = omega (arith, ints) in rises_by weight from.low by natural low

weighs_more : (a : TrackedState) (insn : Insn) (before after : Term) (from : Source) (ahead : ℤ)
    → after.base ≡ before.base → ComesFrom a.state insn after.holder from → IsAheadBy a before.holder from.holder ahead
    → WeighsMore a insn before after (ahead +ℤ lightest_more after.weight from)
weighs_more a insn before after from ahead base comes leads span s next goes =
    let came = comes span s next goes.steps (base_of after.base) in
    subst (λ (b : Base). (after.weight *ℤ count_of s before.holder b
    +ℤ after.weight *ℤ (ahead +ℤ lightest_more after.weight from)) ≤ℤ weight_at next after) base
    (weighs_further after.weight (count_of s before.holder after.base) ahead came.0 (lightest_more after.weight from)
    (count_of s from.holder after.base) (count_of next after.holder after.base) came.3
    (leads (lengths_of span) s goes.steps.before goes.marks (base_of after.base))
    (lightest_is after.weight came.0 from came.1 came.2))

more_sound : (a : TrackedState) (insn : Insn) (before after : Term) (more : ℤ) → IsWhole a.state → WritesOne insn
    → more_in a insn before after ≡ Some more → WeighsMore a insn before after more
more_sound a insn before after more whole one e = by_base (is_base after.base before.base) refl e
  where
    by_ahead : (from : Source) (o : Option ℤ) → after.base ≡ before.base
        → source_in a.state insn after.holder ≡ Some from → ahead_in a before.holder from.holder ≡ o
        → option_map (λ ahead. ahead +ℤ lightest_more after.weight from) o ≡ Some more
        → WeighsMore a insn before after more
    by_ahead from None base is leads f = absurd (cc)
    by_ahead from (Some ahead) base is leads f =
        let same : ahead +ℤ lightest_more after.weight from ≡ more = cc in
        subst (λ (z : ℤ). WeighsMore a insn before after z) same
        (weighs_more a insn before after from ahead base (source_sound a.state insn after.holder from whole one is)
        (ahead_sound a before.holder from.holder ahead whole leads))

    by_source : (o : Option Source) → after.base ≡ before.base → source_in a.state insn after.holder ≡ o
        → option_and_then (more_from a before after) o ≡ Some more → WeighsMore a insn before after more
    by_source None base is f = absurd (cc)
    by_source (Some from) base is f = by_ahead from (ahead_in a before.holder from.holder) base is refl f

    by_base : (b : Bool) → is_base after.base before.base ≡ b
        → cond b (option_and_then (more_from a before after) (source_in a.state insn after.holder)) None ≡ Some more
        → WeighsMore a insn before after more
    by_base true same f =
        by_source (source_in a.state insn after.holder) (base_is after.base before.base same) refl f
    by_base false same f = absurd (cc)

abbrev pub Leaves : TrackedState → Insn → AbsState → Term → Term → Rest → Type 0
Leaves a insn behind before after left =
    (span : Span) (s next : State) → Goes a insn span s next → Contains behind (lengths_of span) next
    → (x : ℕ) × IsOf left.less (lengths_of span).text (lengths_of span).link x
    × ((weight_at s before -ℤ weight_at next after) ≤ℤ (left.less.weight *ℤ pos x -ℤ left.more))

weights_together : (before other after left more : ℤ) → (other +ℤ more) ≤ℤ after → left ≡ before -ℤ other
    → (before -ℤ after) ≤ℤ (left -ℤ more)
weights_together before other after left more e f = omega (arith, ints)

leaves_together : (a : TrackedState) (insn : Insn) (behind : AbsState) (before after : Term) (more weight : ℤ)
    (less : Weighed) → IsWhole a.state → WeighsMore a insn before after more → before.weight -ℤ after.weight ≡ weight
    → weighed_in a.state (record before { weight = weight }) ≡ Some less
    → Leaves a insn behind before after (rest (after.weight *ℤ more) less)
leaves_together a insn behind before after more weight less whole counts is known span s next steps there =
    let count : ℤ = count_of s before.holder before.base in
    let held = steps.steps.before in
    let x = weighed_sound a.state (record before { weight = weight }) less whole known (lengths_of span) s held in (
      x.0,
      x.1,
      weights_together (weight_at s before) (after.weight *ℤ count) (weight_at next after) (less.weight *ℤ pos x.0)
          (after.weight *ℤ more) (counts span s next steps)
          (x.2 ∙ ap (λ z. z *ℤ count) (sym is) ∙ lessened_weight before.weight after.weight count),
    )

weights_apart : (before after left more : ℤ) → left ≡ before → more ≤ℤ after → (before -ℤ after) ≤ℤ (left -ℤ more)
weights_apart before after left more e h = omega (arith, ints)

leaves_apart : (a : TrackedState) (insn : Insn) (behind : AbsState) (before after : Term) (more : ℤ) (less : Weighed)
    → IsWhole a.state → IsWhole behind → weighed_in a.state before ≡ Some less → least_in behind after ≡ Some more
    → Leaves a insn behind before after (rest more less)
leaves_apart a insn behind before after more less whole other known least span s next steps there =
    let x = weighed_sound a.state before less whole known (lengths_of span) s steps.steps.before in (
      x.0,
      x.1,
      weights_apart (weight_at s before) (weight_at next after) (less.weight *ℤ pos x.0) more x.2
          (least_sound behind after more other least (lengths_of span) next there),
    )

-- ---- by the rule
in_word_is : (z weight : ℤ) → in_word z ≡ Some weight → z ≡ weight
in_word_is z weight e = go (int_le (negsuc (2 ^ 31 - 1)) z && int_le z (pos (2 ^ 31 - 1))) e
  where
    go : (b : Bool) → cond b (Some z) None ≡ Some weight → z ≡ weight
    go true f = cc
    go false f = absurd (cc)

together_sound : (a : TrackedState) (insn : Insn) (behind : AbsState) (before after : Term) (more : ℤ) (left : Rest)
    → IsWhole a.state → WeighsMore a insn before after more → rest_together a.state before after more ≡ Some left
    → Leaves a insn behind before after left
together_sound a insn behind before after more left whole counts e =
    by_weight (in_word (before.weight -ℤ after.weight)) refl e
  where
    by_weighed : (weight : ℤ) (o : Option Weighed) → in_word (before.weight -ℤ after.weight) ≡ Some weight
        → weighed_in a.state (record before { weight = weight }) ≡ o
        → option_map (rest (after.weight *ℤ more)) o ≡ Some left → Leaves a insn behind before after left
    by_weighed weight None is known f = absurd (cc)
    by_weighed weight (Some less) is known f =
        let same : rest (after.weight *ℤ more) less ≡ left = cc in
        subst (λ (u : Rest). Leaves a insn behind before after u) same
        (leaves_together a insn behind before after more weight less whole counts
        (in_word_is (before.weight -ℤ after.weight) weight is) known)

    by_weight : (o : Option ℤ) → in_word (before.weight -ℤ after.weight) ≡ o
        → option_and_then (λ weight. option_map (rest (after.weight *ℤ more))
        (weighed_in a.state (record before { weight = weight }))) o ≡ Some left
        → Leaves a insn behind before after left
    by_weight None is f = absurd (cc)
    by_weight (Some weight) is f = by_weighed weight (weighed_in a.state (record before { weight = weight })) is refl f

apart_sound : (a : TrackedState) (insn : Insn) (behind : AbsState) (before after : Term) (left : Rest) → IsWhole a.state
    → IsWhole behind → rest_apart a.state behind before after ≡ Some left → Leaves a insn behind before after left
apart_sound a insn behind before after left whole other e = by_weighed (weighed_in a.state before) refl e
  where
    by_least : (less : Weighed) (o : Option ℤ) → weighed_in a.state before ≡ Some less → least_in behind after ≡ o
        → option_map (λ more. rest more less) o ≡ Some left → Leaves a insn behind before after left
    by_least less None known least f = absurd (cc)
    by_least less (Some more) known least f =
        let same : rest more less ≡ left = cc in
        subst (λ (u : Rest). Leaves a insn behind before after u) same
        (leaves_apart a insn behind before after more less whole other known least)

    by_weighed : (o : Option Weighed) → weighed_in a.state before ≡ o
        → option_and_then (λ less. option_map (λ more. rest more less) (least_in behind after)) o ≡ Some left
        → Leaves a insn behind before after left
    by_weighed None known f = absurd (cc)
    by_weighed (Some less) known f = by_least less (least_in behind after) known refl f

rest_sound : (a : TrackedState) (insn : Insn) (behind : AbsState) (before after : Term) (left : Rest) → IsWhole a.state
    → IsWhole behind → WritesOne insn → rest_in a insn behind (before, after) ≡ Some left
    → Leaves a insn behind before after left
rest_sound a insn behind before after left whole other one e = go (more_in a insn before after) refl e
  where
    go : (o : Option ℤ) → more_in a insn before after ≡ o → rest_by a.state behind before after o ≡ Some left
        → Leaves a insn behind before after left
    go None is f = apart_sound a insn behind before after left whole other f
    go (Some more) is f =
        together_sound a insn behind before after more left whole
        (more_sound a insn before after more whole one is) f

-- ---- all terms
sums : (one other left more others behind all rests : ℤ) → (one -ℤ other) ≤ℤ (left -ℤ more)
    → (others -ℤ behind) ≤ℤ (all -ℤ rests)
    → ((one +ℤ others) -ℤ (other +ℤ behind)) ≤ℤ ((left +ℤ all) -ℤ (more +ℤ rests))
sums one other left more others behind all rests h i = omega (arith, ints)

none_left : (pos 0 -ℤ pos 0) ≤ℤ (pos 0 -ℤ pos 0)
none_left = omega (arith, ints)

abbrev less_of : List Rest → List Weighed
less_of rests = map (λ (r : Rest). r.less) rests

all_sound : (a : TrackedState) (insn : Insn) (behind : AbsState) (ps qs : List Term) (rests : List Rest)
    → IsWhole a.state → IsWhole behind → WritesOne insn → length ps ≡ length qs
    → map (rest_in a insn behind) (zip ps qs) ≡ map Some rests
    → (span : Span) (s next : State) → Goes a insn span s next → Contains behind (lengths_of span) next
    → (xs : List ℕ) × AreOf (less_of rests) (lengths_of span).text (lengths_of span).link xs
    × ((weights_at s ps -ℤ weights_at next qs) ≤ℤ (values.all_weighed (less_of rests) xs -ℤ all_more rests))
unfolding AreOf values.all_weighed weights_at all_more
all_sound a insn behind [] [] [] whole other one long e span s next steps there = ([], tt, none_left)
all_sound a insn behind [] [] (r ∷ rests) whole other one long e span s next steps there = absurd (cc)
all_sound a insn behind [] (q ∷ qs) rests whole other one long e span s next steps there = absurd (omega arith)
all_sound a insn behind (p ∷ ps) [] rests whole other one long e span s next steps there = absurd (omega arith)
all_sound a insn behind (p ∷ ps) (q ∷ qs) [] whole other one long e span s next steps there = absurd (cc)
all_sound a insn behind (p ∷ ps) (q ∷ qs) (r ∷ rests) whole other one long e span s next steps there =
    let first : rest_in a insn behind (p, q) ≡ Some r = cc in
    let others : map (rest_in a insn behind) (zip ps qs) ≡ map Some rests = cc in
    let x = rest_sound a insn behind p q r whole other one first span s next steps there in
    let xs = all_sound a insn behind ps qs rests whole other one (omega arith) others span s next steps there in (
      x.0 ∷ xs.0,
      (x.1, xs.1),
      sums (weight_at s p) (weight_at next q) (r.less.weight *ℤ pos x.0) r.more (weights_at s ps) (weights_at next qs)
          (values.all_weighed (less_of rests) xs.0) (all_more rests) x.2 xs.2,
    )

-- ---- the potentials
fallen : (pc pb pl qc qb ql before after constant b l all more : ℤ) → b ≡ pb -ℤ qb → l ≡ pl -ℤ ql
    → constant ≡ (pc -ℤ qc) +ℤ more → (before -ℤ after) ≤ℤ (all -ℤ more) → pos 1 ≤ℤ ((constant +ℤ (b +ℤ l)) -ℤ all)
    → ((qc +ℤ (qb +ℤ ql)) -ℤ after) <ℤ ((pc +ℤ (pb +ℤ pl)) -ℤ before)
fallen pc pb pl qc qb ql before after constant b l all more e f g h enough = omega (arith, ints)

raised : (a b c : ℤ) → a ≤ℤ b → b ≤ℤ c → a ≤ℤ c
raised a b c h i = omega (arith, ints)

pub falls_sound : (a : TrackedState) (insn : Insn) (behind : AbsState) (p q : Potential) → IsWhole a.state
    → IsWhole behind → WritesOne insn → length p.less ≡ length q.less → FallsBy a insn behind p q
    → Falls a insn behind (potential_of p) (potential_of q)
falls_sound a insn behind p q whole other one long is span s next far before goes there =
    let steps : Goes a insn span s next
    = record { steps = record { before = before.state; far = far; goes = goes }; marks = before.copies } in
    let lengths : Lengths = lengths_of span in
    let rests = is.is.rests in
    let xs = all_sound a insn behind p.less q.less rests whole other one long is.is.known span s next steps there in
    let are : AreLengths a.state.bounds.text a.state.bounds.link lengths.text lengths.link = record {
      text_long = before.state.bounds.text;
      text_short = lengths.short;
      link_long = before.state.bounds.link;
      link_short = lengths.link_short;
    } in
    let form = form_with p q is.difference.constant in
    let of : AreOf is.difference.weighed lengths.text lengths.link xs.0
    = subst (λ (l : List Weighed). AreOf l lengths.text lengths.link xs.0) (sym is.is.weighed) xs.1 in
    let enough : pos 1 ≤ℤ values.value_at form is.difference.weighed lengths.text lengths.link xs.0
    = raised (pos 1) _ _ is.enough
    (sound form is.difference.weighed a.state.bounds.text a.state.bounds.link lengths.text lengths.link xs.0 are of) in
    subst (λ z. z <ℤ labels.potential_at span.bytes s (potential_of p)) (sym (left_is span.bytes next q))
    (subst (λ z. left_at span.bytes next q <ℤ z) (sym (left_is span.bytes s p))
    (fallen p.constant (p.per_byte *ℤ pos lengths.text) (p.per_link_byte *ℤ pos lengths.link) q.constant
    (q.per_byte *ℤ pos lengths.text) (q.per_link_byte *ℤ pos lengths.link) (weights_at s p.less)
    (weights_at next q.less) is.difference.constant _ _ (values.all_weighed is.difference.weighed xs.0) (all_more rests)
    (lessened_weight p.per_byte q.per_byte (pos lengths.text))
    (lessened_weight p.per_link_byte q.per_link_byte (pos lengths.link)) is.is.constant
    (subst (λ (l : List Weighed). (weights_at s p.less -ℤ weights_at next q.less)
    ≤ℤ (values.all_weighed l xs.0 -ℤ all_more rests)) (sym is.is.weighed) xs.2) enough))

-- ---- there is but one difference
pub one_difference : (a : TrackedState) (insn : Insn) (behind : AbsState) (p q : Potential) (b c : Difference)
    → IsDifference a insn behind p q b → IsDifference a insn behind p q c
    → (b.constant ≡ c.constant) × (b.weighed ≡ c.weighed)
one_difference a insn behind p q b c is other =
    let same : is.rests ≡ other.rests = one_knowledge Rest is.rests other.rests (sym is.known ∙ other.known) in (
      is.constant ∙ ap (λ l. (p.constant -ℤ q.constant) +ℤ all_more l) same ∙ sym other.constant,
      is.weighed ∙ ap less_of same ∙ sym other.weighed,
    )

-- ---- whether it falls, by the difference
pub form_with_is : (p q : Potential) (given constant per_byte per_link_byte : ℤ) → constant ≡ given
    → per_byte ≡ p.per_byte -ℤ q.per_byte → per_link_byte ≡ p.per_link_byte -ℤ q.per_link_byte
    → form_from constant per_byte per_link_byte ≡ form_with p q given
form_with_is p q given constant per_byte per_link_byte e f g =
    ap (λ z. form_from z per_byte per_link_byte) e
    ∙ ap (λ z. form_from given z per_link_byte) f
    ∙ ap (λ z. form_from given (p.per_byte -ℤ q.per_byte) z) g

abbrev IsEnough : TrackedState → Potential → Potential → ℤ → List Weighed → Type 0
IsEnough a p q constant weighed =
    pos 1 ≤ℤ least_of (form_with p q constant) weighed a.state.bounds.text a.state.bounds.link

pub falls_by : (a : TrackedState) (insn : Insn) (behind : AbsState) (p q : Potential) (d : Difference) (Yes : Type 0)
    → IsDifference a insn behind p q d
    → (Yes ↔ (pos 1 ≤ℤ least_of (form_with p q d.constant) d.weighed a.state.bounds.text a.state.bounds.link))
    → Yes ↔ FallsBy a insn behind p q
falls_by a insn behind p q d Yes known is = (
  λ (yes : Yes). record { difference = d; is = known; enough = is.0 yes },
  λ (other : FallsBy a insn behind p q).
      let same = one_difference a insn behind p q other.difference d other.is known in
      is.1 (subst (λ (l : List Weighed). IsEnough a p q d.constant l) same.1
      (subst (λ (z : ℤ). IsEnough a p q z other.difference.weighed) same.0 other.enough)),
)

-- ---- the first terms
pub record Reached (a : TrackedState) (insn : Insn) (behind : AbsState) (p q : Potential) (n : ℕ) (constant : ℤ)
    (weighed : List Weighed) : Type 0 where
  pub long : length weighed ≡ 8
  pub rests : List Rest
  pub known : map (rest_in a insn behind) (take n (zip p.less q.less)) ≡ map Some rests
  pub sum : constant ≡ (p.constant -ℤ q.constant) +ℤ all_more rests
  pub less : take n weighed ≡ less_of rests
  pub small : unsigned_abs constant ≤ 2 ^ 65 + n * 2 ^ 96

and_none : (z : ℤ) → z ≡ z +ℤ pos 0
and_none z = omega (arith, ints)

pub reached_none : (a : TrackedState) (insn : Insn) (behind : AbsState) (p q : Potential) (constant : ℤ)
    (weighed : List Weighed) → length weighed ≡ 8 → constant ≡ p.constant -ℤ q.constant
    → unsigned_abs constant ≤ 2 ^ 65 → Reached a insn behind p q 0 constant weighed
unfolding all_more
reached_none a insn behind p q constant weighed long is small = record {
  long = long;
  rests = [];
  known = refl;
  sum = is ∙ and_none (p.constant -ℤ q.constant);
  less = refl;
  small = omega arith;
}

more_last : (one rests more : ℤ) (all : ℤ) → all ≡ rests +ℤ more → one +ℤ all ≡ (one +ℤ rests) +ℤ more
more_last one rests more all e = omega (arith, ints)

none_last : (more : ℤ) → more +ℤ pos 0 ≡ pos 0 +ℤ more
none_last more = omega (arith, ints)

all_more_last : (rests : List Rest) (r : Rest) → all_more (rests ++ r ∷ []) ≡ all_more rests +ℤ r.more
unfolding all_more
all_more_last [] r = none_last r.more
all_more_last (one ∷ rests) r =
    more_last one.more (all_more rests) r.more (all_more (rests ++ r ∷ [])) (all_more_last rests r)

sum_last : (constant start rests more next all : ℤ) → constant ≡ start +ℤ rests → next ≡ constant +ℤ more
    → all ≡ rests +ℤ more → next ≡ start +ℤ all
sum_last constant start rests more next all e f g = omega (arith, ints)

small_last : (constant more next : ℤ) (n : ℕ) → unsigned_abs constant ≤ 2 ^ 65 + n * 2 ^ 96 → unsigned_abs more ≤ 2 ^ 96
    → next ≡ constant +ℤ more → unsigned_abs next ≤ 2 ^ 65 + (n + 1) * 2 ^ 96
small_last constant more next n h i e = omega (arith, ints)

-- as the code has them
pub start_is : (result one other : ℤ) → FitsSigned w64 one → FitsSigned w64 other → unsigned_abs result ≤ 2 ^ 65
    → result ≡ to_z w64 (of_z w64 one) -ℤ to_z w64 (of_z w64 other) → to_z w128 (of_z w128 result) ≡ one -ℤ other
start_is result one other f g small is = omega (arith, ints)

pub start_small : (result : ℤ) → unsigned_abs result ≤ 2 ^ 65 → unsigned_abs (to_z w128 (of_z w128 result)) ≤ 2 ^ 65
start_small result small = omega (arith, ints)

pub sum_fits : (constant more : ℤ) (n : ℕ) → unsigned_abs constant ≤ 2 ^ 65 + n * 2 ^ 96 → n < 8
    → unsigned_abs more ≤ 2 ^ 96 → to_z w128 (of_z w128 (constant +ℤ to_z w128 (of_z w128 more))) ≡ constant +ℤ more
sum_fits constant more n h few i = omega (arith, ints)

pub less_is : (result one other : ℤ) → FitsSigned w32 one → FitsSigned w32 other → FitsSigned w64 result
    → result ≡ to_z w32 (of_z w32 one) -ℤ to_z w32 (of_z w32 other) → to_z w64 (of_z w64 result) ≡ one -ℤ other
less_is result one other f g fits is = omega (arith, ints)

-- the pairs of terms that stand at the same place
pub record AreEight (p q : Potential) : Type 0 where
  pub first : length p.less ≡ 8
  pub second : length q.less ≡ 8

pub eight_pairs : (p q : Potential) → AreEight p q → length (zip p.less q.less) ≡ 8
eight_pairs p q so =
    let first = so.first in let second = so.second in omega (arith, length-zip p.less q.less)

pub pair_at : (p q : Potential) (n : ℕ) (d e : Term) → AreEight p q → n < 8
    → get_or (zip p.less q.less) n (d, e) ≡ (get_or p.less n d, get_or q.less n e)
pair_at p q n d e so few =
    let first = so.first in
    let second = so.second in get_or-zip p.less q.less n (d, e) (omega arith) (omega arith)

pub reached_more : (a : TrackedState) (insn : Insn) (behind : AbsState) (p q : Potential) (n : ℕ) (constant next : ℤ)
    (weighed : List Weighed) (r : Rest) (d e : Term) → AreEight p q → n < 8
    → Reached a insn behind p q n constant weighed
    → rest_in a insn behind (get_or p.less n d, get_or q.less n e) ≡ Some r → next ≡ constant +ℤ r.more
    → unsigned_abs r.more ≤ 2 ^ 96 → Reached a insn behind p q (n + 1) next (set weighed n r.less)
reached_more a insn behind p q n constant next weighed r d e eight few so is sum small =
    let pairs : List (Term × Term) = zip p.less q.less in
    let many : length pairs ≡ 8 = eight_pairs p q eight in
    let long = so.long in
    let room : n < length weighed = omega arith in
    record {
      long = length-set weighed n r.less ∙ long;
      rests = so.rests ++ r ∷ [];
      known = ap (map (rest_in a insn behind)) (take_more pairs n (d, e) (omega arith))
          ∙ known_more (Term × Term) Rest (rest_in a insn behind) (take n pairs) so.rests (get_or pairs n (d, e)) r
          so.known (ap (rest_in a insn behind) (pair_at p q n d e eight few) ∙ is);
      sum = sum_last constant (p.constant -ℤ q.constant) (all_more so.rests) r.more next (all_more (so.rests ++ r ∷ []))
          so.sum sum (all_more_last so.rests r);
      less = take_more_set weighed n r.less room
          ∙ ap (λ (l : List Weighed). l ++ r.less ∷ []) so.less
          ∙ sym (map-append (λ (u : Rest). u.less) so.rests (r ∷ []));
      small = small_last constant r.more next n so.small small sum;
    }

-- a pair of which nothing is known
pub unreached : (a : TrackedState) (insn : Insn) (behind : AbsState) (p q : Potential) (n : ℕ) (d e : Term)
    (rests : List Rest) → AreEight p q → n < 8
    → rest_in a insn behind (get_or p.less n d, get_or q.less n e) ≡ None
    → map (rest_in a insn behind) (zip p.less q.less) ≡ map Some rests → ⊥
unreached a insn behind p q n d e rests eight few is known =
    let many : length (zip p.less q.less) ≡ 8 = eight_pairs p q eight in
    none_unknown (Term × Term) Rest (rest_in a insn behind) (zip p.less q.less) rests n (d, e) (omega arith) known
    (ap (rest_in a insn behind) (pair_at p q n d e eight few) ∙ is)

pub reached_all : (a : TrackedState) (insn : Insn) (behind : AbsState) (p q : Potential) (n : ℕ)
    (difference : Difference) → AreEight p q → 8 ≤ n → Reached a insn behind p q n difference.constant difference.weighed
    → IsDifference a insn behind p q difference
reached_all a insn behind p q n difference eight all so =
    let many : length (zip p.less q.less) ≡ 8 = eight_pairs p q eight in
    let long = so.long in
    record {
      rests = so.rests;
      known = sym (ap (map (rest_in a insn behind)) (take_all n (zip p.less q.less) (omega arith))) ∙ so.known;
      constant = so.sum;
      weighed = sym (take_all n difference.weighed (omega arith)) ∙ so.less;
    }
