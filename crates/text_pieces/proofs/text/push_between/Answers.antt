use Rattle.std.proofs.Common.{◌≡◌, ◌++◌, ℕ, List, length, ap, ◌∙◌, arith, encode_utf8_all}
use Rattle.std.specs.List.{slice_range}
use Rattle.std.specs.Str.{chars}
use Rattle.std.specs.String.{string_bytes}
use Rattle.std.proofs.lemmas.Str.{chars-append, IsUtf8-string_bytes}
use Rattle.text_pieces.proofs.Bytes.{bytes_between, bytes_of_chars}
use Rattle.text_pieces.proofs.text.push_between.Goals as goal

pub returns-clause-added : goal.returns-clause-added
returns-clause-added c =
    ap chars c.in_ok-push_str.ensures.bytes
    ∙ chars-append (string_bytes c.args.text.now) c.characters_between-part.result.now (IsUtf8-string_bytes c.args.text.now)
    ∙ ap (λ (l : List ℕ). chars (string_bytes c.args.text.now) ++ l) (c.characters_between-part.ensures ∙ ap (λ (l : List ℕ). slice_range l c.args.from c.args.to) c.text.ensures)

pub returns-clause-size : goal.returns-clause-size
returns-clause-size c =
    let part : List ℕ = c.characters_between-part.result.now in
    let is : chars part ≡ slice_range c.args.piece.now c.args.from c.args.to =
    c.characters_between-part.ensures ∙ ap (λ (l : List ℕ). slice_range l c.args.from c.args.to) c.text.ensures in
    omega (
      arith,
      c.in_ok-push_str.ensures.len,
      bytes_of_chars part c.characters_between-part.utf8,
      ap (λ (l : List ℕ). length (encode_utf8_all l)) is,
      bytes_between c.args.piece.now c.args.from c.args.to,
    )
