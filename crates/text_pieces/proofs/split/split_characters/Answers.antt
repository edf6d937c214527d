use Rattle.std.proofs.Common.{◌≡◌, ◌<◌, ◌≤◌, ◌+◌, ◌-◌, ◌++◌, ℕ, List, length, sym, ap, subst, ◌∙◌, arith, append_assoc, length-append}
use Rattle.std.specs.Str.{chars, IsCharBoundary}
use Rattle.std.specs.Str.Iter.{chars_rest}
use Rattle.std.specs.Char.{encode_utf8}
use Rattle.std.proofs.lemmas.Str.{IsCharBoundary-at_seam}
use Rattle.text_pieces.proofs.Texts.{IsLess, one_less, split_first}
use Rattle.text_pieces.proofs.split.split_characters.Goals as goal

pub loop-index-preserved : goal.loop-index-preserved
loop-index-preserved c =
    let inv = c.loop-index.invariant in
    let before : List ℕ = inv.whole.0 in
    let r : List ℕ = chars_rest c.loop-index.rest in
    let r' : List ℕ = chars_rest c.next.new.self in
    let counted : length (chars r) + c.loop-index.index ≡ length (chars c.args.text.now) = inv.count in
    let some : 0 < length (chars r) = omega (arith, counted, c.loop-index-test.true, c.requires) in
    let less : IsLess r r' = one_less ((length r ≡ 0) × (c.next.new.self ≡ c.loop-index.rest)) r r' c.next.result inv.utf8 c.next.ensures.steps.0 c.next.ensures.steps.2 some in
    record {
      whole = (before ++ encode_utf8 less.character, inv.whole.1 ∙ ap (λ l. before ++ l) less.cut ∙ sym (append_assoc before (encode_utf8 less.character) r'));
      utf8 = less.utf8;
      count = omega (arith, counted, less.size);
    }

pub overflow_sub-size : goal.overflow_sub-size
overflow_sub-size c =
    let before : List ℕ = c.loop-index.invariant.whole.0 in
    let rest : List ℕ = chars_rest c.loop-index.rest in
    omega (arith, ap length c.as_str-second.ensures, ap length c.loop-index.invariant.whole.1, length-append before rest)

pub range-first-requires-clause-end_boundary : goal.range-first-requires-clause-end_boundary
range-first-requires-clause-end_boundary c =
    let before : List ℕ = c.loop-index.invariant.whole.0 in
    let rest : List ℕ = chars_rest c.loop-index.rest in
    let at : length before ≡ length c.args.text.now - length c.as_str-second.result.now = omega (arith, ap length c.as_str-second.ensures, ap length c.loop-index.invariant.whole.1, length-append before rest) in
    subst (IsCharBoundary c.args.text.now) at (IsCharBoundary-at_seam c.args.text.now before rest c.loop-index.invariant.whole.1 c.loop-index.invariant.utf8)

pub returns-clause-first : goal.returns-clause-first
returns-clause-first c =
    let inv = c.loop-index.invariant in
    let rest : List ℕ = chars_rest c.loop-index.rest in
    let end : c.loop-index.index ≤ c.args.count = c.loop-index.auto.index-end in
    let stop : c.args.count ≤ c.loop-index.index = c.loop-index-test.false in
    let counted : length (chars rest) + c.loop-index.index ≡ length (chars c.args.text.now) = inv.count in
    (split_first c.args.text.now inv.whole.0 rest c.range-first.result.now c.as_str-second.result.now c.args.count inv.whole.1 c.as_str-second.ensures c.range-first.ensures.value c.range-first.utf8 (omega (arith, counted, end, stop))).0

pub returns-clause-second : goal.returns-clause-second
returns-clause-second c =
    let inv = c.loop-index.invariant in
    let rest : List ℕ = chars_rest c.loop-index.rest in
    let end : c.loop-index.index ≤ c.args.count = c.loop-index.auto.index-end in
    let stop : c.args.count ≤ c.loop-index.index = c.loop-index-test.false in
    let counted : length (chars rest) + c.loop-index.index ≡ length (chars c.args.text.now) = inv.count in
    (split_first c.args.text.now inv.whole.0 rest c.range-first.result.now c.as_str-second.result.now c.args.count inv.whole.1 c.as_str-second.ensures c.range-first.ensures.value c.range-first.utf8 (omega (arith, counted, end, stop))).1
