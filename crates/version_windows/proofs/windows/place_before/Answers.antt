use Rattle.std.proofs.Common.{◌≡◌, ◌≤◌, ◌<◌, ℕ, List, None, length, refl, sym, ◌∙◌, arith, ⊎_elim}
use Rattle.std.specs.List.{slice_get}
use Rattle.std.proofs.lemmas.Bool.{cases_lt}
use Rattle.std.proofs.lemmas.Option.{none-some}
use Rattle.char_sequence.specs.declared.sequence.Element.{Element}
use Rattle.mark_anchors.proofs.Lists.{item_at}
use Rattle.mark_anchors.proofs.Places.{same_place}
use Rattle.version_windows.proofs.windows.place_before.Goals as goal

-- where no element stands, all have ended
past_all : (es : List Element) (at : ℕ) → at ≤ length es → slice_get es at ≡ None → length es ≡ at
past_all es at within none =
    ⊎_elim
    (λ (less : at < length es). let e = item_at es at less in absurd (none-some e.0 (sym none ∙ e.1)))
    (λ (past : length es ≤ at). omega arith)
    (cases_lt at (length es))

pub place_of-requires : goal.place_of-requires
place_of-requires c =
    let at = c.requires.same in
    let element : Element = c.in-Some.element in
    let stands = c.requires.shows.1.text.inserted at.0 element (at.1.1 ∙ sym c.in-Some.ensures) in
    (c.requires.shows.0, c.requires.shows.1, (stands.0, (element.character, stands.1)))

pub returns-in-Some : goal.returns-in-Some
returns-in-Some c =
    λ at same.
    let element : Element = c.in-Some.element in
    same_place c.requires.shows.0 c.args.before.now.elements c.requires.shows.1 element.id element.id c.place_of.result at
    c.place_of.ensures.place (element, (same.1 ∙ sym c.in-Some.ensures), refl) refl

pub returns-in-None : goal.returns-in-None
returns-in-None c =
    λ at same.
    c.len.ensures.value ∙ past_all c.args.before.now.elements at same.0 (same.1 ∙ sym c.in-None.ensures)
