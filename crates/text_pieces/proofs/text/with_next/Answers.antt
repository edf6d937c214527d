use Rattle.std.proofs.Common.{◌≡◌, ◌++◌, ◌+◌, ◌≤◌, ℕ, List, length, drop, sym, ap, ◌∙◌, arith, append_assoc, encode_utf8_all}
use Rattle.std.specs.Str.{chars}
use Rattle.std.specs.String.{string_bytes}
use Rattle.std.proofs.lemmas.Str.{chars-append, IsUtf8-string_bytes}
use Rattle.piece_tree.specs.Nodes.{pieces_of}
use Rattle.text_pieces.specs.Texts.{IsLarge}
use Rattle.text_pieces.proofs.Bytes.{bytes_of_chars}
use Rattle.text_pieces.proofs.Large.{large_at}
use Rattle.text_pieces.proofs.Pieces.{piece_few, split_at}
use Rattle.text_pieces.proofs.text.with_next.Goals as goal

pub returns-clause-same : goal.returns-clause-same
returns-clause-same c =
    let text : List ℕ = string_bytes c.args.text in
    let ps : List (List ℕ) = c.args.pieces.now in
    let next : List ℕ = c.piece-next.result.now in
    let rest : List ℕ = pieces_of (drop (c.args.end + 1) ps) in
    ap (λ (l : List ℕ). l ++ rest)
    (ap chars c.in_ok-push_str.ensures.bytes ∙ chars-append text c.text.result.now (IsUtf8-string_bytes c.args.text) ∙ ap (λ (l : List ℕ). chars text ++ l) c.text.ensures)
    ∙ append_assoc (chars text) next rest ∙ ap (λ (l : List ℕ). chars text ++ l) (sym (split_at ps c.args.end next c.piece-next.ensures))

pub returns-clause-size : goal.returns-clause-size
returns-clause-size c =
    let next : List ℕ = c.piece-next.result.now in
    let few : length (encode_utf8_all next) ≤ 256 = piece_few c.args.pieces.now c.args.end next c.requires.filled c.piece-next.ensures in
    let size : length c.text.result.now ≡ length (encode_utf8_all next) =
    sym (bytes_of_chars c.text.result.now c.text.utf8) ∙ ap (λ (l : List ℕ). length (encode_utf8_all l)) c.text.ensures in
    omega (arith, c.in_ok-push_str.ensures.len)

pub returns-clause-enough : goal.returns-clause-enough
returns-clause-enough c = λ more.
    let next : List ℕ = c.piece-next.result.now in
    let large : IsLarge next = large_at c.args.pieces.now c.args.end next c.requires.large c.piece-next.ensures more in
    let size : length c.text.result.now ≡ length (encode_utf8_all next) =
    sym (bytes_of_chars c.text.result.now c.text.utf8) ∙ ap (λ (l : List ℕ). length (encode_utf8_all l)) c.text.ensures in
    omega (arith, c.in_ok-push_str.ensures.len, large)
