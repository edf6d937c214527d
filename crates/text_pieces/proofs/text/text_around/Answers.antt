use Rattle.std.proofs.Common.{◌≡◌, ◌++◌, ◌-◌, ℕ, List, take, drop, ap, ◌∙◌, arith, append_assoc}
use Rattle.std.specs.List.{slice_range}
use Rattle.std.specs.Str.{chars}
use Rattle.std.specs.String.{string_bytes}
use Rattle.std.proofs.lemmas.Str.{chars-append, IsUtf8-string_bytes}
use Rattle.piece_tree.proofs.Windows.{to_end}
use Rattle.text_pieces.proofs.Texts.{chars_none}
use Rattle.text_pieces.proofs.text.text_around.Goals as goal

slice_first : (xs : List ℕ) (n : ℕ) → slice_range xs 0 n ≡ take n xs
slice_first xs n = let same : n - 0 ≡ n = omega arith in ap (λ (k : ℕ). take k xs) same

pub returns-clause-text : goal.returns-clause-text
returns-clause-text c =
    let begun : List ℕ = string_bytes c.push_between.new.text in
    let new : List ℕ = c.args.new.now in
    let front : List ℕ = take c.args.from c.args.first.now in
    let back : List ℕ = drop c.args.to c.args.last.now in
    let first : chars begun ≡ front =
    c.in_ok-push_between.ensures.added ∙ ap (λ (l : List ℕ). chars l ++ slice_range c.args.first.now 0 c.args.from) c.in_ok-text.ensures.bytes
    ∙ ap (λ (l : List ℕ). l ++ slice_range c.args.first.now 0 c.args.from) chars_none ∙ slice_first c.args.first.now c.args.from in
    let more : chars (string_bytes c.push_str.new.self) ≡ front ++ chars new =
    ap chars c.in_ok-push_str.ensures.bytes ∙ chars-append begun new (IsUtf8-string_bytes c.push_between.new.text) ∙ ap (λ (l : List ℕ). l ++ chars new) first in
    let last : slice_range c.args.last.now c.args.to c.characters.result ≡ back =
    ap (λ (n : ℕ). slice_range c.args.last.now c.args.to n) c.characters.ensures ∙ to_end c.args.last.now c.args.to in
    c.in_ok-push_between-2.ensures.added ∙ ap (λ (l : List ℕ). l ++ slice_range c.args.last.now c.args.to c.characters.result) more
    ∙ ap (λ (l : List ℕ). (front ++ chars new) ++ l) last ∙ append_assoc front (chars new) back
