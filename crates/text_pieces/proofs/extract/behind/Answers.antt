use Rattle.std.proofs.Common.{◌≡◌, ℕ, sym, subst, ap, ◌∙◌, length, drop, IsUtf8}
use Rattle.std.proofs.lemmas.Str.{IsUtf8-drop}
use Rattle.text_pieces.proofs.Texts.{chars_behind}
use Rattle.text_pieces.proofs.extract.behind.Goals as goal

pub returns-in-Some-clause-whole : goal.returns-in-Some-clause-whole
returns-in-Some-clause-whole c =
    let e = c.in-Some.ensures.cases in
    let found = e.1 in
    chars_behind c.args.text.now c.args.part.now c.in-Some.rest.now e.0 c.utf8.part found.1 e.2

pub returns-in-Some-clause-utf8 : goal.returns-in-Some-clause-utf8
returns-in-Some-clause-utf8 c =
    let e = c.in-Some.ensures.cases in
    let found = e.1 in
    let is : c.in-Some.rest.now ≡ drop (length c.args.part.now) c.args.text.now = e.2 ∙ ap (λ (n : ℕ). drop n c.args.text.now) found.0 in
    subst IsUtf8 (sym is) (IsUtf8-drop c.args.text.now (length c.args.part.now) c.utf8.text found.2)
