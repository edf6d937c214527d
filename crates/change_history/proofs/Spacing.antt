-- The room of the visible text, and what the operations of a change may take of it.
use Rattle.std.proofs.Common.{◌≡◌, ℕ, zero, suc, ◌+◌, ◌*◌, ◌<◌, ◌≤◌, false, List, [], ◌∷◌, ◌++◌, Option, Some, length, take, drop, get_or, add-one, drop-cons, refl, sym, ap, ◌∙◌, arith, length-append}
use Rattle.std.specs.Prelude.{encode_utf8, encode_utf8_all, nat_le}
use Rattle.std.proofs.Math.Nat.{mul-suc, mul-zero, add_comm}
use Rattle.std.proofs.lemmas.Bool.Decides.{nat_tests}
use Rattle.std.specs.List.{sum_by}
use Rattle.std.proofs.lemmas.List.{drop_all}
use Rattle.std.proofs.lemmas.List.Sums.{sum-map, sum_by-append, sum_by-cons, sum_by-take-le}
use Rattle.std.proofs.lemmas.Str.{length-encode, len_utf8_bounds}
use Rattle.change_ops.specs.Lines.{ops_of, ops_of_lines}
use Rattle.change_ops.specs.Operations.{bytes_of}
use Rattle.change_ops.specs.IdRuns.{removals_from, revivals_from}
use Rattle.change_ops.specs.Runs.{inserts_from, next_id}
use Rattle.change_ops.specs.declared.id.OpId.{OpId}
use Rattle.change_ops.specs.declared.line.Line.{Line}
use Rattle.change_ops.specs.declared.operation.Op.{Op}
use Rattle.change_ops.specs.declared.operation.Op.TheVariants.{Insert, Remove, AddMark, RemoveMark, Revive}
use Rattle.change_ops.specs.declared.size.Size.{Size}
use Rattle.char_sequence.specs.Acceptance.{most_growth, ShowsCharacter}
use Rattle.char_sequence.specs.Visible.{visible_text, all_bytes}
use Rattle.char_sequence.proofs.AllBytes.{all_grown, all_over}
use Rattle.char_sequence.proofs.TextGrowth.{text_grown}
use Rattle.change_history.specs.Kept.{Keeps}
use Rattle.change_history.specs.Tally.{AreShort}
use Rattle.change_history.specs.Trial.{growth}
use Rattle.change_history.specs.declared.parts.Parts.{Parts}
use Rattle.change_history.proofs.Chronicle.{take_push}

-- ---- how many bytes operations count
pub run_bytes : (n : ℕ) (cs : List ℕ) (id : OpId) (parent : Option OpId) → sum_by (growth n) (inserts_from id parent cs) ≡ length (encode_utf8_all cs)
unfolding inserts_from
run_bytes n [] id parent = refl
run_bytes n (c ∷ cs) id parent =
    let rest = run_bytes n cs (next_id id) (Some id) in
    let bytes = sum_by-cons (growth n) (Insert id parent c) (inserts_from (next_id id) (Some id) cs) in
    omega (arith, rest, bytes, length-append (encode_utf8 c) (encode_utf8_all cs))

pub removals_bytes : (n count : ℕ) (id target : OpId) → sum_by (growth n) (removals_from id target count) ≡ 0
unfolding removals_from
removals_bytes n zero id target = refl
removals_bytes n (suc count) id target =
    let rest = removals_bytes n count (next_id id) (next_id target) in
    let bytes = sum_by-cons (growth n) (Remove id target) (removals_from (next_id id) (next_id target) count) in
    omega (arith, rest, bytes)

pub revivals_bytes : (n count : ℕ) (id removal : OpId) → sum_by (growth n) (revivals_from id removal count) ≡ n * count
unfolding revivals_from
revivals_bytes n zero id removal = sym (mul-zero n)
revivals_bytes n (suc count) id removal =
    let rest = revivals_bytes n count (next_id id) (next_id removal) in
    let bytes : sum_by (growth n) (Revive id removal ∷ revivals_from (next_id id) (next_id removal) count) ≡ n + sum_by (growth n) (revivals_from (next_id id) (next_id removal) count) = sum_by-cons (growth n) (Revive id removal) (revivals_from (next_id id) (next_id removal) count) in
    bytes ∙ ap (λ m. n + m) rest ∙ add_comm n (n * count) ∙ sym (mul-suc n count)

-- where revivals count nothing, as many as the operations insert
none_growth : (op : Op) → growth 0 op ≡ bytes_of op
none_growth (Insert id p c) = refl
none_growth (Remove id t) = refl
none_growth (AddMark id a s e) = refl
none_growth (RemoveMark id k s e) = refl
none_growth (Revive id r) = refl

inserted_bytes : (ops : List Op) → sum_by (growth 0) ops ≡ sum_by bytes_of ops
inserted_bytes [] = refl
inserted_bytes (op ∷ ops) =
    let rest = inserted_bytes ops in
    let one = none_growth op in
    let left = sum_by-cons (growth 0) op ops in
    let right = sum_by-cons bytes_of op ops in
    omega (arith, rest, one, left, right)

-- the character that an operation shows has no more
shown_bytes : (ops : List Op) (op : Op) (c : ℕ) → ShowsCharacter ops op c → length (encode_utf8 c) ≤ most_growth op
shown_bytes ops (Insert id p d) c shows = let same = ap (λ n. length (encode_utf8 n)) shows in omega (arith, same)
shown_bytes ops (Remove id t) c shows = absurd shows
shown_bytes ops (AddMark id a s e) c shows = absurd shows
shown_bytes ops (RemoveMark id k s e) c shows = absurd shows
shown_bytes ops (Revive id r) c shows = let size = length-encode c in let most = (len_utf8_bounds c).1 in omega (arith, size, most)

-- ---- where all that is added fits
pub short_added : (size : Size) (ops added : List Op) (parts : Parts) → Keeps ops parts → length (visible_text parts.sequence.elements) + sum_by most_growth added ≤ 131072 → AreShort size ops added
short_added size ops added parts k fits i op here few none =
    let over : 131072 < length (visible_text none.0) + length (encode_utf8 none.1) = none.4 in
    let shown = shown_bytes (ops ++ take i added) op none.1 none.3 in
    let most = text_grown ops (take i added) parts.sequence.elements none.0 k.shows none.2 in
    let total = sum-map most_growth (take i added) in
    let grown : sum_by most_growth (take (i + 1) added) ≡ sum_by most_growth (take i added) + sum_by most_growth (op ∷ []) = ap (sum_by most_growth) (take_push added i op here) ∙ sum_by-append most_growth (take i added) (op ∷ []) in
    let one = sum_by-cons most_growth op [] in
    let none_left : sum_by most_growth [] ≡ 0 = refl in
    let within = sum_by-take-le most_growth added (i + 1) in
    omega (arith, over, shown, most, total, grown, one, none_left, within, fits)

-- where all characters, hidden ones too, fit with those that are inserted
pub all_short : (size : Size) (ops added : List Op) (parts : Parts) → Keeps ops parts → all_bytes parts.sequence.elements + sum_by (growth 0) added ≤ 131072 → AreShort size ops added
all_short size ops added parts k fits i op here few none =
    let over = all_over (ops ++ take i added) op none in
    let most = all_grown ops (take i added) parts.sequence.elements none.0 k.shows none.2 in
    let grown : sum_by bytes_of (take (i + 1) added) ≡ sum_by bytes_of (take i added) + sum_by bytes_of (op ∷ []) = ap (sum_by bytes_of) (take_push added i op here) ∙ sum_by-append bytes_of (take i added) (op ∷ []) in
    let one = sum_by-cons bytes_of op [] in
    let none_left : sum_by bytes_of [] ≡ 0 = refl in
    let within = sum_by-take-le bytes_of added (i + 1) in
    let same = inserted_bytes added in
    omega (arith, over, most, grown, one, none_left, within, same, fits)

-- ---- what a test says
pub room_same : (room : ℕ) → room + 0 ≡ room
room_same room = omega arith

pub not_le : (m n : ℕ) → n < m → nat_le m n ≡ false
not_le m n h = grind (arith, nat_tests)

-- ---- one character or line more
pub character_more : (cs : List ℕ) (i c bytes : ℕ) → i < length cs → c ≡ get_or cs i c → bytes ≡ length (encode_utf8 c) → length (encode_utf8_all (drop i cs)) ≡ bytes + length (encode_utf8_all (drop (i + 1) cs))
character_more cs i c bytes low is size =
    let left : drop i cs ≡ c ∷ drop (i + 1) cs = rw (add-one, drop-cons cs i c low, ← is) refl in
    ap (λ l. length (encode_utf8_all l)) left ∙ length-append (encode_utf8 c) (encode_utf8_all (drop (i + 1) cs)) ∙ ap (λ n. n + length (encode_utf8_all (drop (i + 1) cs))) (sym size)

pub character_none : (cs : List ℕ) (i : ℕ) → length cs ≤ i → length (encode_utf8_all (drop i cs)) ≡ 0
character_none cs i end = ap (λ l. length (encode_utf8_all l)) (drop_all i cs end)

pub line_more : (n : ℕ) (lines : List Line) (i : ℕ) (line : Line) → i < length lines → line ≡ get_or lines i line → sum_by (growth n) (ops_of_lines (drop i lines)) ≡ sum_by (growth n) (ops_of line) + sum_by (growth n) (ops_of_lines (drop (i + 1) lines))
unfolding ops_of_lines
line_more n lines i line low is =
    let left : drop i lines ≡ line ∷ drop (i + 1) lines = rw (add-one, drop-cons lines i line low, ← is) refl in
    ap (λ l. sum_by (growth n) (ops_of_lines l)) left ∙ sum_by-append (growth n) (ops_of line) (ops_of_lines (drop (i + 1) lines))

pub line_none : (n : ℕ) (lines : List Line) (i : ℕ) → length lines ≤ i → sum_by (growth n) (ops_of_lines (drop i lines)) ≡ 0
unfolding ops_of_lines
line_none n lines i end = ap (λ l. sum_by (growth n) (ops_of_lines l)) (drop_all i lines end)
