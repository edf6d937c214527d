-- The verdicts on a version, put together of those on an earlier one and of those on the spans in the middle.
use Rattle.std.proofs.Common.{◌≡◌, ℕ, ◌+◌, ◌-◌, ◌<◌, ◌≤◌, List, ◌++◌, Some, length, take, drop, get_or, sym, ap, ◌∙◌, subst, arith}
use Rattle.std.specs.List.{slice_get, slice_range}
use Rattle.std.specs.Option.{option_map}
use Rattle.std.proofs.lemmas.List.{same_lists, append_assoc, take-append-drop, drop-drop, get_or-take, get_or-drop, length-take-le, length-drop}
use Rattle.std.proofs.lemmas.Option.{get_or_from_slice_get, slice_get-map}
use borrow.Author.Count.{below_more}
use Rattle.semantics.specs.Step.{Program}
use Rattle.span_flatten.specs.Version.{Version}
use Rattle.span_view.specs.Views.{SpanView, view_of, views}
use Rattle.span_view.proofs.Views.{viewed, row_at}
use Rattle.feeds.specs.Verdicts.{verdict_on, verdicts_of}
use Rattle.version_history.specs.Tokens.{Token}
use Rattle.feeds.specs.Kept.{AlikeAt, IsBlindToPosition, IsStretch, Stretch, KeptVerdicts, Known}
use Rattle.feeds.proofs.Hits.{verdict_count}

-- the verdict at an index
verdict_at : (program : Program) (version : Version) (i d : ℕ) (span : SpanView) → slice_get (views version) i ≡ Some span → get_or (verdicts_of program version) i d ≡ verdict_on program span
verdict_at program version i d span is =
    let there : slice_get (verdicts_of program version) i ≡ Some (verdict_on program span) =
    slice_get-map (verdict_on program) (views version) i ∙ ap (option_map (verdict_on program)) is in
    get_or_from_slice_get (verdicts_of program version) i (verdict_on program span) d there

-- on spans that are alike it is the same
same_at : (program : Program) (older newer : Version) (i j d : ℕ) → IsBlindToPosition program → AlikeAt older i newer j → i < length older.rows → j < length newer.rows
    → get_or (verdicts_of program older) i d ≡ get_or (verdicts_of program newer) j d
same_at program older newer i j d blind alike within there =
    let one = row_at older i within in
    let other = row_at newer j there in
    let a = view_of older i one.0 in
    let b = view_of newer j other.0 in
    verdict_at program older i d a (viewed older i one.0 one.1)
    ∙ blind a b (alike a b (ap (option_map (λ w. view_of older i w)) one.1) (ap (option_map (λ w. view_of newer j w)) other.1))
    ∙ sym (verdict_at program newer j d b (viewed newer j other.0 other.1))

same_front : (program : Program) (older newer : Version) (front back : ℕ) → IsBlindToPosition program → IsStretch older newer front back
    → take front (verdicts_of program older) ≡ take front (verdicts_of program newer)
same_front program older newer front back blind stretch =
    let kept = verdicts_of program older in
    let all = verdicts_of program newer in
    let fits_older = stretch.within_older in
    let fits_newer = stretch.within_newer in
    let count_older : length kept ≡ length older.rows = verdict_count program older in
    let count_newer : length all ≡ length newer.rows = verdict_count program newer in
    let long_older : length (take front kept) ≡ front = length-take-le front kept (omega arith) in
    let long_newer : length (take front all) ≡ front = length-take-le front all (omega arith) in
    same_lists (take front kept) (take front all) (long_older ∙ sym long_newer) (λ k d less.
    let within : k < front = omega arith in
    get_or-take front kept k d within ∙ same_at program older newer k k d blind (stretch.front_alike k within) (omega arith) (omega arith)
    ∙ sym (get_or-take front all k d within))

same_back : (program : Program) (older newer : Version) (front back : ℕ) → IsBlindToPosition program → IsStretch older newer front back
    → drop (length older.rows - back) (verdicts_of program older) ≡ drop (length newer.rows - back) (verdicts_of program newer)
same_back program older newer front back blind stretch =
    let kept = verdicts_of program older in
    let all = verdicts_of program newer in
    let m = length older.rows in
    let n = length newer.rows in
    let fits_older = stretch.within_older in
    let fits_newer = stretch.within_newer in
    let count_older : length kept ≡ m = verdict_count program older in
    let count_newer : length all ≡ n = verdict_count program newer in
    let long_older : length (drop (m - back) kept) ≡ back = length-drop (m - back) kept ∙ omega arith in
    let long_newer : length (drop (n - back) all) ≡ back = length-drop (n - back) all ∙ omega arith in
    same_lists (drop (m - back) kept) (drop (n - back) all) (long_older ∙ sym long_newer) (λ k d less.
    let within : k < back = omega arith in
    let one : m - 1 - (back - 1 - k) ≡ (m - back) + k = omega arith in
    let other : n - 1 - (back - 1 - k) ≡ (n - back) + k = omega arith in
    get_or-drop (m - back) kept k d ∙ ap (λ i. get_or kept i d) (sym one)
    ∙ same_at program older newer (m - 1 - (back - 1 - k)) (n - 1 - (back - 1 - k)) d blind (stretch.back_alike (back - 1 - k) (omega arith)) (omega arith) (omega arith)
    ∙ ap (λ i. get_or all i d) other ∙ sym (get_or-drop (n - back) all k d))

-- a list is its front, its middle and its back
in_three : (xs : List ℕ) (a b : ℕ) → a ≤ b → (take a xs ++ slice_range xs a b) ++ drop b xs ≡ xs
in_three xs a b le =
    let whole : a + (b - a) ≡ b = omega arith in
    append_assoc (take a xs) (slice_range xs a b) (drop b xs)
    ∙ ap (λ l. take a xs ++ (slice_range xs a b ++ l)) (ap (λ n. drop n xs) (sym whole) ∙ sym (drop-drop (b - a) a xs))
    ∙ ap (λ l. take a xs ++ l) (take-append-drop (b - a) (drop a xs)) ∙ take-append-drop a xs

pub reused : (program : Program) (older newer : Version) (front back : ℕ) (kept middle : List ℕ) → IsBlindToPosition program → IsStretch older newer front back
    → kept ≡ verdicts_of program older → middle ≡ slice_range (verdicts_of program newer) front (length newer.rows - back)
    → (take front kept ++ middle) ++ drop (length kept - back) kept ≡ verdicts_of program newer
reused program older newer front back kept middle blind stretch of_older of_middle =
    let fits_newer = stretch.within_newer in
    let all = verdicts_of program newer in
    let end = length newer.rows - back in
    let first : take front kept ≡ take front all = ap (take front) of_older ∙ same_front program older newer front back blind stretch in
    let last : drop (length kept - back) kept ≡ drop end all =
    ap (λ (l : List ℕ). drop (length l - back) l) of_older ∙ ap (λ n. drop (n - back) (verdicts_of program older)) (verdict_count program older)
    ∙ same_back program older newer front back blind stretch in
    ap (λ l. (l ++ middle) ++ drop (length kept - back) kept) first ∙ ap (λ l. (take front all ++ l) ++ drop (length kept - back) kept) of_middle
    ∙ ap (λ l. (take front all ++ slice_range all front end) ++ l) last ∙ in_three all front end (omega arith)

-- there are as many verdicts as spans of the version
pub counted : (program : Program) (version older : Token Version) (numbers : List ℕ) → numbers ≡ verdicts_of program version.value → version ≡ older
    → length numbers ≡ length older.value.rows
counted program version older numbers are same =
    ap length are ∙ verdict_count program version.value ∙ ap (λ (t : Token Version). length t.value.rows) same

-- the same of what is kept, seen as one value
pub reused_of : (known : Known) (kept : KeptVerdicts) (stretch : Stretch) (front back : ℕ) (numbers middle : List ℕ)
    → record { program = kept.program; compared = stretch } ≡ known → kept.version ≡ stretch.older → IsBlindToPosition kept.program.value
    → IsStretch stretch.older.value stretch.newer.value stretch.front stretch.back → front ≡ stretch.front → back ≡ stretch.back
    → numbers ≡ verdicts_of kept.program.value kept.version.value
    → middle ≡ slice_range (verdicts_of known.program.value known.compared.newer.value) known.compared.front (length known.compared.newer.value.rows - known.compared.back)
    → (take front numbers ++ middle) ++ drop (length numbers - back) numbers ≡ verdicts_of known.program.value known.compared.newer.value
reused_of known kept stretch front back numbers middle seen version blind is f b of_kept of_middle =
    let P : Known → Type 0 = λ k.
    middle ≡ slice_range (verdicts_of k.program.value k.compared.newer.value) k.compared.front (length k.compared.newer.value.rows - k.compared.back)
    → (take front numbers ++ middle) ++ drop (length numbers - back) numbers ≡ verdicts_of k.program.value k.compared.newer.value in
    let older : numbers ≡ verdicts_of kept.program.value stretch.older.value =
    of_kept ∙ ap (λ (t : Token Version). verdicts_of kept.program.value t.value) version in
    subst P seen (λ m.
    ap (λ n. (take n numbers ++ middle) ++ drop (length numbers - back) numbers) f
    ∙ ap (λ n. (take stretch.front numbers ++ middle) ++ drop (length numbers - n) numbers) b
    ∙ reused kept.program.value stretch.older.value stretch.newer.value stretch.front stretch.back numbers middle blind is older m) of_middle

-- one more span that is alike, at the front and at the back
pub alike_more : (older newer : Version) (n : ℕ) → ((i : ℕ) → i < n → AlikeAt older i newer i) → AlikeAt older n newer n → (i : ℕ) → i < n + 1 → AlikeAt older i newer i
alike_more older newer n below here = below_more (λ i. AlikeAt older i newer i) n below here

pub alike_more_back : (older newer : Version) (p q n : ℕ) → ((i : ℕ) → i < n → AlikeAt older (p - 1 - i) newer (q - 1 - i)) → AlikeAt older (p - 1 - n) newer (q - 1 - n)
    → (i : ℕ) → i < n + 1 → AlikeAt older (p - 1 - i) newer (q - 1 - i)
alike_more_back older newer p q n below here = below_more (λ i. AlikeAt older (p - 1 - i) newer (q - 1 - i)) n below here

-- what was compared is a stretch of the two versions
pub stretch_of : (older newer : Version) (p q front back most : ℕ) → p ≡ length older.rows → q ≡ length newer.rows → front ≤ most → back ≤ most - front → most ≤ p → most ≤ q
    → ((i : ℕ) → i < front → AlikeAt older i newer i) → ((i : ℕ) → i < back → AlikeAt older (p - 1 - i) newer (q - 1 - i)) → IsStretch older newer front back
stretch_of older newer p q front back most p_is q_is few rest in_p in_q alike alike_back = record {
  within_older = omega arith;
  within_newer = omega arith;
  front_alike = alike;
  back_alike = subst (λ (x : ℕ). (i : ℕ) → i < back → AlikeAt older (x - 1 - i) newer (length newer.rows - 1 - i)) p_is
      (subst (λ (y : ℕ). (i : ℕ) → i < back → AlikeAt older (p - 1 - i) newer (y - 1 - i)) q_is alike_back);
}

-- the same of copies of the two tokens
pub stretch_again : (older newer one other : Token Version) (front back : ℕ) → one ≡ older → other ≡ newer → IsStretch older.value newer.value front back
    → IsStretch one.value other.value front back
stretch_again older newer one other front back o n stretch =
    subst (λ (t : Token Version). IsStretch t.value other.value front back) (sym o)
    (subst (λ (t : Token Version). IsStretch older.value t.value front back) (sym n) stretch)
