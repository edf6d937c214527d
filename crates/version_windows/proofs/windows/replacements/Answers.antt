use Rattle.std.proofs.Common.{◌≡◌, ◌+◌, ◌-◌, ◌<◌, ◌≤◌, ◌++◌, ◌∷◌, [], ℕ, List, length, take, drop, get_or, sym, ap, subst, ◌∙◌, arith}
use Rattle.std.proofs.lemmas.Option.{slice_get-get_or}
use Rattle.std.proofs.lemmas.List.{append-nil, drop_all, take_all, take_more, take-append-drop}
use Rattle.change_ops.specs.declared.operation.Op.{Op}
use Rattle.char_sequence.specs.declared.sequence.Element.{Element}
use Rattle.mark_places.specs.declared.range.PlaceRange.{PlaceRange}
use Rattle.version_glyphs.specs.Replacements.{AreReplacements}
use Rattle.version_glyphs.specs.declared.replacement.Replacement.{Replacement}
use Rattle.version_laws.proofs.Ranging.{within_apart}
use Rattle.version_laws.specs.Ranges.{AreChangedWithin}
use Rattle.version_windows.specs.Neighbors.{GiveAllFormats, GiveFormats}
use Rattle.version_windows.specs.declared.windows.Formats.{Formats}
use Rattle.version_windows.proofs.Changing.{IsNext, next_range, none_left, left_apart, left_gapped}
use Rattle.version_windows.proofs.Replaced.{replaced_more}
use Rattle.version_windows.proofs.windows.replacements.Goals as goal

abbrev none : PlaceRange
none = record { low = 0; high = 0 }

-- a range with these places
range_with : (o : PlaceRange) (low high : ℕ) → low ≡ o.low → high ≡ o.high → (record { low = low; high = high }) ≡ o
range_with o low high is_low is_high i = record { low = is_low i; high = is_high i }

-- what gives a range its formats, if it gives them to each
given_at : (given : Formats) (old new : List Element) (marks : List Op) (olds ranges : List PlaceRange) → GiveAllFormats given old new marks olds ranges → (index a b : ℕ) → index < length ranges
    → (step : IsNext old new olds ranges index a b (get_or ranges index none)) → (o : PlaceRange) → o ≡ step.was → GiveFormats given old new marks o (get_or ranges index none)
given_at given old new marks olds ranges all index a b within step o same =
    subst (λ (was : PlaceRange). GiveFormats given old new marks was (get_or ranges index none)) (sym same)
    (all index step.was (get_or ranges index none) step.at (slice_get-get_or ranges index none within))

pub loop-range-init : goal.loop-range-init
loop-range-init c =
    let old : List Element = c.args.before.now.elements in
    let new : List Element = c.args.sequence.now.elements in
    record {
      apart = c.requires.apart;
      gapped = c.requires.gapped;
      ahead = λ olds changed. changed;
      made = λ olds marks changed given. subst (AreReplacements old new marks [] []) (sym c.new-windows.ensures.items) tt;
    }

pub overflow_add-old : goal.overflow_add-old
overflow_add-old c =
    let old : List Element = c.args.before.now.elements in
    let new : List Element = c.args.sequence.now.elements in
    let ranges : List PlaceRange = c.args.ranges.now in
    let olds : List PlaceRange = c.requires.changed.0 in
    let inv = c.loop-range.invariant in
    let step = next_range old new olds ranges c.loop-range.range-index c.loop-range.old_end c.loop-range.end none c.loop-range-test.true (inv.ahead olds c.requires.changed.1) inv.apart inv.gapped in
    let count = c.len-count.ensures in
    omega (arith, step.low, step.order, step.within, count.value, count.limit)

pub place_before-requires : goal.place_before-requires
place_before-requires c =
    let old : List Element = c.args.before.now.elements in
    let new : List Element = c.args.sequence.now.elements in
    let ranges : List PlaceRange = c.args.ranges.now in
    let olds : List PlaceRange = c.requires.changed.0 in
    let inv = c.loop-range.invariant in
    let step = next_range old new olds ranges c.loop-range.range-index c.loop-range.old_end c.loop-range.end none c.loop-range-test.true (inv.ahead olds c.requires.changed.1) inv.apart inv.gapped in
    record { shows = c.requires.shows; same = (step.was.high, step.same) }

pub replacement-requires : goal.replacement-requires
replacement-requires c =
    let old : List Element = c.args.before.now.elements in
    let new : List Element = c.args.sequence.now.elements in
    let ranges : List PlaceRange = c.args.ranges.now in
    let olds : List PlaceRange = c.requires.changed.0 in
    let inv = c.loop-range.invariant in
    let index : ℕ = c.loop-range.range-index in
    let step = next_range old new olds ranges index c.loop-range.old_end c.loop-range.end none c.loop-range-test.true (inv.ahead olds c.requires.changed.1) inv.apart inv.gapped in
    let high : c.place_before.result ≡ step.was.high = c.place_before.ensures step.was.high step.same in
    let low : ℕ = c.loop-range.old_end + ((get_or ranges index none).low - c.loop-range.end) in
    let is_low : low ≡ step.was.low = sym {A = ℕ} step.low in
    let same = range_with step.was low c.place_before.result is_low high in
    let marks : List Op = c.requires.changed.2.0 in
    let apart = left_apart ranges index c.loop-range.end (length new) none c.loop-range-test.true inv.apart in
    record {
      old = (omega (arith, high, step.low, step.order), omega (arith, high, step.within));
      range = (apart.1, within_apart (drop (index + 1) ranges) (get_or ranges index none).high (length new) apart.2);
      formats = (
        marks,
        given_at c.args.formats old new marks olds ranges c.requires.changed.2.1 index c.loop-range.old_end c.loop-range.end c.loop-range-test.true step
            (record { low = low; high = c.place_before.result }) same,
      );
    }

pub loop-range-preserved : goal.loop-range-preserved
loop-range-preserved c =
    let old : List Element = c.args.before.now.elements in
    let new : List Element = c.args.sequence.now.elements in
    let ranges : List PlaceRange = c.args.ranges.now in
    let inv = c.loop-range.invariant in
    let index : ℕ = c.loop-range.range-index in
    let range : PlaceRange = get_or ranges index none in
    let windows : List Replacement = c.loop-range.windows.items in
    let made : Replacement = c.in_ok-replacement.field-0 in
    record {
      apart = (left_apart ranges index c.loop-range.end (length new) none c.loop-range-test.true inv.apart).2;
      gapped = left_gapped ranges index none c.loop-range-test.true inv.gapped;
      ahead =
          λ olds changed.
          let step = next_range old new olds ranges index c.loop-range.old_end c.loop-range.end none c.loop-range-test.true (inv.ahead olds changed) inv.apart inv.gapped in
          let high : c.place_before.result ≡ step.was.high = c.place_before.ensures step.was.high step.same in
          subst (λ (n : ℕ). AreChangedWithin old new (drop (index + 1) olds) (drop (index + 1) ranges) n range.high) (sym high) step.rest;
      made =
          λ olds marks changed given.
          let step = next_range old new olds ranges index c.loop-range.old_end c.loop-range.end none c.loop-range-test.true (inv.ahead olds changed) inv.apart inv.gapped in
          let low : ℕ = c.loop-range.old_end + (range.low - c.loop-range.end) in
          let is_low : low ≡ step.was.low = sym {A = ℕ} step.low in
          let is_high : c.place_before.result ≡ step.was.high = c.place_before.ensures step.was.high step.same in
          let same = range_with step.was low c.place_before.result is_low is_high in
          let one = subst (λ (o : PlaceRange). AreReplacements old new marks (o ∷ []) (range ∷ []) (made ∷ [])) same
          (c.in_ok-replacement.ensures marks
          (given_at c.args.formats old new marks olds ranges given index c.loop-range.old_end c.loop-range.end c.loop-range-test.true step (record { low = low; high = c.place_before.result }) same)) in
          subst (AreReplacements old new marks (take (index + 1) olds) (take (index + 1) ranges)) (sym {A = List Replacement} c.in_ok-push.ensures.items)
          (subst (λ (os : List PlaceRange). AreReplacements old new marks os (take (index + 1) ranges) (windows ++ made ∷ [])) (sym step.taken)
          (subst (λ (ns : List PlaceRange). AreReplacements old new marks (take index olds ++ step.was ∷ []) ns (windows ++ made ∷ [])) (sym (take_more ranges index none c.loop-range-test.true))
          (replaced_more old new marks (take index olds) (take index ranges) windows step.was range made (inv.made olds marks changed given) one)));
    }

pub returns : goal.returns
returns c =
    λ olds marks changed given.
    let old : List Element = c.args.before.now.elements in
    let new : List Element = c.args.sequence.now.elements in
    let ranges : List PlaceRange = c.args.ranges.now in
    let inv = c.loop-range.invariant in
    let index : ℕ = c.loop-range.range-index in
    let windows : List Replacement = c.loop-range.windows.items in
    let past : length ranges ≤ index = c.loop-range-test.false in
    let empty = none_left old new olds ranges index c.loop-range.old_end c.loop-range.end (drop_all index ranges past) (inv.ahead olds changed) in
    let whole : take index olds ≡ olds =
    sym (append-nil (take index olds)) ∙ ap (λ (l : List PlaceRange). take index olds ++ l) (sym empty) ∙ take-append-drop index olds in
    subst (λ (os : List PlaceRange). AreReplacements old new marks os ranges windows) whole
    (subst (λ (ns : List PlaceRange). AreReplacements old new marks (take index olds) ns windows) (take_all index ranges past) (inv.made olds marks changed given))
