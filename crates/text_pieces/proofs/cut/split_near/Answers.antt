use Rattle.std.proofs.Common.{◌≡◌, ◌++◌, ℕ, List, [], sym, subst, ap, ◌∙◌, arith, IsUtf8}
use Rattle.std.specs.Str.{chars}
use Rattle.std.proofs.lemmas.List.{append-nil}
use Rattle.std.proofs.lemmas.Str.{IsUtf8-drop}
use Rattle.text_pieces.proofs.Boundaries.{floor_near}
use Rattle.text_pieces.proofs.Texts.{chars_none, chars_split}
use Rattle.text_pieces.proofs.cut.split_near.Goals as goal

whole : (text : List ℕ) → chars text ++ chars [] ≡ chars text
whole text = ap (λ (l : List ℕ). chars text ++ l) chars_none ∙ append-nil (chars text)

pub returns-then-at-eq0-clause-whole : goal.returns-then-at-eq0-clause-whole
returns-then-at-eq0-clause-whole c = whole c.args.text.now

pub returns-then-at-eq0-clause-most : goal.returns-then-at-eq0-clause-most
returns-then-at-eq0-clause-most c = λ far within.
    let near = floor_near c.args.text.now c.args.place c.floor_char_boundary-at.result c.utf8.text within c.floor_char_boundary-at.ensures.nearest in
    absurd (omega arith)

pub returns-clause-whole : goal.returns-clause-whole
returns-clause-whole c =
    let e = c.split_at.ensures in
    chars_split c.args.text.now c.split_at.result.0.now c.split_at.result.1.now c.floor_char_boundary-at.result c.utf8.text c.floor_char_boundary-at.ensures.boundary e.front e.back

pub returns-clause-near : goal.returns-clause-near
returns-clause-near c = λ far within.
    let near = floor_near c.args.text.now c.args.place c.floor_char_boundary-at.result c.utf8.text within c.floor_char_boundary-at.ensures.nearest in
    omega (arith, c.split_at.ensures.front_len)

pub returns-clause-utf8 : goal.returns-clause-utf8
returns-clause-utf8 c =
    let e = c.split_at.ensures in
    subst IsUtf8 (sym e.back) (IsUtf8-drop c.args.text.now c.floor_char_boundary-at.result c.utf8.text c.floor_char_boundary-at.ensures.boundary)
