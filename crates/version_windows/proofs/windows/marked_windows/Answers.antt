use Rattle.std.proofs.Common.{◌≡◌, List, length, get_or, refl, sym, subst}
use Rattle.std.proofs.lemmas.List.Elements.{Contains-get_or}
use Rattle.change_ops.specs.declared.operation.Op.{Op}
use Rattle.char_sequence.specs.declared.sequence.Element.{Element}
use Rattle.mark_anchors.specs.Marks.{AreMarks}
use Rattle.mark_places.specs.Chosen.{AreChosen}
use Rattle.mark_places.specs.Places.{AreMarkPlaces}
use Rattle.mark_places.specs.declared.range.PlaceRange.{PlaceRange}
use Rattle.version_glyphs.specs.Replacements.{AreReplacements}
use Rattle.version_glyphs.specs.declared.replacement.Replacement.{Replacement}
use Rattle.version_windows.proofs.Choosing.{flattened_by_all}
use Rattle.version_windows.proofs.Replaced.{replaced_by_all}
use Rattle.version_windows.proofs.windows.marked_windows.Goals as goal

abbrev none : PlaceRange
none = record { low = 0; high = 0 }

pub choose-requires : goal.choose-requires
choose-requires c =
    let es : List Element = c.args.sequence.now.elements in
    record {
      places = (es, subst (λ ms. AreMarkPlaces es ms c.args.places.now) (sym c.operations.ensures) c.requires.places);
      apart = (length es, c.requires.apart);
    }

pub resolve-requires : goal.resolve-requires
resolve-requires c =
    let es : List Element = c.args.sequence.now.elements in
    let ranges : List PlaceRange = c.args.ranges.now in
    let places = subst (λ ms. AreMarkPlaces es ms c.args.places.now) (sym c.operations.ensures) c.requires.places in
    let marks = subst (AreMarks c.requires.text.0) (sym c.operations.ensures) c.requires.text.2 in
    let range : PlaceRange = get_or ranges 0 none in
    let law = c.chosen_give_formats.ensures es c.requires.text.0 c.operations.result.now c.in_ok-chosen.chosen.operations range.low range.high c.requires.text.1 marks
    (c.in_ok-chosen.ensures.chosen es places range (Contains-get_or ranges 0 none c.requires.some)) in
    record {
      text = (law.0, law.1, law.2);
      placed = c.in_ok-chosen.ensures.placed es places;
    }

pub replacements-requires : goal.replacements-requires
replacements-requires c = record {
  shows = c.requires.shows;
  apart = c.requires.apart;
  gapped = c.requires.gapped;
  changed = (c.requires.changed.0, c.requires.changed.1, (c.in_ok-resolved.resolved.marks, λ k was range g h. (c.in_ok-resolved.ensures.elements, refl)));
}

pub returns-clause-replaced : goal.returns-clause-replaced
returns-clause-replaced c =
    λ olds changed.
    let old : List Element = c.args.before.now.elements in
    let es : List Element = c.args.sequence.now.elements in
    let ranges : List PlaceRange = c.args.ranges.now in
    let windows : List Replacement = c.in_ok-windows.windows.items in
    let marks : c.operations.result.now ≡ c.args.marks.now = c.operations.ensures in
    let places = subst (λ ms. AreMarkPlaces es ms c.args.places.now) (sym marks) c.requires.places in
    let chosen : List Op = c.in_ok-chosen.chosen.operations in
    replaced_by_all old es c.args.marks.now chosen olds ranges windows
    (λ n w held flat.
    let are = subst (λ ms. AreChosen es n.low n.high ms chosen) marks (c.in_ok-chosen.ensures.chosen es places n held) in
    flattened_by_all es c.args.marks.now chosen n.low n.high w
    (λ all shows text. c.chosen_give_formats.ensures es all c.args.marks.now chosen n.low n.high shows text are) flat)
    (subst (λ ms. AreReplacements old es ms olds ranges windows) c.in_ok-resolved.ensures.marks
    (c.in_ok-windows.ensures olds c.in_ok-resolved.resolved.marks changed (λ k was range g h. (c.in_ok-resolved.ensures.elements, refl))))
