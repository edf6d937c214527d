-- Lists of keys with a comma between each two.
use Rattle.std.proofs.Common.{◌≡◌, ◌+◌, ◌-◌, ◌<◌, ◌≤◌, true, false, if◌then◌else◌, Bool, ℕ, suc, List, [], ◌∷◌, ◌++◌, map, codes, refl, sym, ap, ◌∙◌, arith, append_assoc, append-nil}
use Rattle.std.proofs.lemmas.Grind.{flat_map-append}
use Rattle.mark_anchors.specs.Formatting.{Format, value_in}
use Rattle.change_ops.specs.declared.keys.TheConstants.{KEYS}
use Rattle.span_lines.specs.SpanLines.{comment_key, keys_of, key_with, row_keys, behind_commas, parted, begun, keys_text}
use Rattle.span_lines.specs.declared.printing.TheConstants.{BEFORE_COMMENTS}

behind_one : (keys : List (List ℕ)) → parted true keys ≡ behind_commas keys
behind_one [] = refl
behind_one (key ∷ keys) = refl

-- keys, and others behind them
pub parted_both : (behind : Bool) (one more : List (List ℕ)) → parted behind (one ++ more) ≡ parted behind one ++ parted (begun behind one) more
parted_both behind [] more = refl
parted_both behind (key ∷ one) more =
    let first = (if behind then 44 ∷ [] else []) ++ key in
    ap (λ l. first ++ l) (flat_map-append (λ k. 44 ∷ k) one more ∙ ap (λ l. behind_commas one ++ l) (sym (behind_one more))) ∙ sym (append_assoc first (behind_commas one) (parted true more))

pub begun_both : (behind : Bool) (one more : List (List ℕ)) → begun behind (one ++ more) ≡ begun (begun behind one) more
begun_both behind [] more = refl
begun_both behind (key ∷ one) [] = refl
begun_both behind (key ∷ one) (other ∷ more) = refl

pub begun_already : (keys : List (List ℕ)) → begun true keys ≡ true
begun_already [] = refl
begun_already (key ∷ keys) = refl

-- a key, and the others behind it
pub one_more_key : (behind : Bool) (key : List ℕ) (keys : List (List ℕ)) → ((if behind then 44 ∷ [] else []) ++ key) ++ parted true keys ≡ parted behind (key ∷ keys)
one_more_key behind key keys = ap (λ l. ((if behind then 44 ∷ [] else []) ++ key) ++ l) (behind_one keys)

-- the first of the keys that are left are written, and then the others are left
pub more_written : (done all : List ℕ) (behind after : Bool) (first rest left : List (List ℕ)) → left ≡ first ++ rest → after ≡ begun behind first → done ++ parted behind left ≡ all → (done ++ parted behind first) ++ parted after rest ≡ all
more_written done all behind after first rest left cut next is =
    append_assoc done (parted behind first) (parted after rest)
    ∙ ap (λ b. done ++ (parted behind first ++ parted b rest)) next
    ∙ ap (λ l. done ++ l) (sym (parted_both behind first rest))
    ∙ ap (λ l. done ++ parted behind l) (sym cut)
    ∙ is

pub more_begun : (behind after all : Bool) (first rest left : List (List ℕ)) → left ≡ first ++ rest → after ≡ begun behind first → begun behind left ≡ all → begun after rest ≡ all
more_begun behind after all first rest left cut next is =
    ap (λ b. begun b rest) next ∙ sym (begun_both behind first rest) ∙ ap (λ l. begun behind l) (sym cut) ∙ is

-- all are written
pub all_written : (done all : List ℕ) (behind : Bool) (left : List (List ℕ)) → left ≡ [] → done ++ parted behind left ≡ all → done ≡ all
all_written done all behind left none is =
    sym (append-nil done) ∙ ap (λ l. done ++ parted behind l) (sym none) ∙ is

pub all_begun : (behind all : Bool) (left : List (List ℕ)) → left ≡ [] → begun behind left ≡ all → behind ≡ all
all_begun behind all left none is = ap (λ l. begun behind l) (sym none) ∙ is

-- the key of a row, and those of the rows behind it
pub row_and_more : (format : Format) (row end : ℕ) → row < end → row_keys format row (end - row) ≡ key_with row (value_in format row) ++ row_keys format (row + 1) (end - (row + 1))
row_and_more format row end within =
    let count : end - row ≡ suc (end - (row + 1)) = omega arith in
    ap (λ n. row_keys format row n) count

pub no_row_left : (format : Format) (row end : ℕ) → end ≤ row → row_keys format row (end - row) ≡ []
no_row_left format row end past =
    let none : end - row ≡ 0 = omega arith in
    ap (λ n. row_keys format row n) none

pub rows_at_first : (format : Format) (first count : ℕ) → row_keys format first ((first + count) - first) ≡ row_keys format first count
rows_at_first format first count =
    let same : (first + count) - first ≡ count = omega arith in
    ap (λ n. row_keys format first n) same

-- the keys that are printed: those of the first rows, of the comments, and of the rows that a reader knows besides
abbrev early_keys : Format → List (List ℕ)
early_keys format = row_keys format 0 BEFORE_COMMENTS

abbrev comment_keys : Format → List (List ℕ)
comment_keys format = map comment_key format.comments

abbrev count_of : Bool → ℕ
count_of further = if further then KEYS - BEFORE_COMMENTS else 0

abbrev further_keys : Bool → Format → List (List ℕ)
further_keys further format = row_keys format BEFORE_COMMENTS (count_of further)

all_keys : (further : Bool) (format : Format) → early_keys format ++ comment_keys format ++ further_keys further format ≡ keys_of further format
all_keys true format = refl
all_keys false format = refl

-- three lists of keys, one after another
parted_three : (one two three : List (List ℕ)) → (parted false one ++ parted (begun false one) two) ++ parted (begun (begun false one) two) three ≡ parted false (one ++ two ++ three)
parted_three one two three =
    ap (λ l. l ++ parted (begun (begun false one) two) three) (sym (parted_both false one two))
    ∙ ap (λ b. parted false (one ++ two) ++ parted b three) (sym (begun_both false one two))
    ∙ sym (parted_both false (one ++ two) three)

begun_three : (one two three : List (List ℕ)) → begun (begun (begun false one) two) three ≡ begun false (one ++ two ++ three)
begun_three one two three =
    ap (λ b. begun b three) (sym (begun_both false one two)) ∙ sym (begun_both false (one ++ two) three)

-- they are written one after another
pub keys_written : (format : Format) (further : Bool) (count : ℕ) (early older : Bool) → count ≡ count_of further → early ≡ begun false (early_keys format) → older ≡ begun early (comment_keys format)
    → (parted false (early_keys format) ++ parted early (comment_keys format)) ++ parted older (row_keys format BEFORE_COMMENTS count) ≡ parted false (keys_of further format)
keys_written format further count early older counted is_early is_older =
    rw (counted, is_older, is_early) (parted_three (early_keys format) (comment_keys format) (further_keys further format) ∙ ap (λ l. parted false l) (all_keys further format))

pub keys_begun : (format : Format) (further : Bool) (count : ℕ) (early older last : Bool) → count ≡ count_of further → early ≡ begun false (early_keys format) → older ≡ begun early (comment_keys format) → last ≡ begun older (row_keys format BEFORE_COMMENTS count)
    → last ≡ begun false (keys_of further format)
keys_begun format further count early older last counted is_early is_older is_last =
    rw (is_last, counted, is_older, is_early) (begun_three (early_keys format) (comment_keys format) (further_keys further format) ∙ ap (λ l. begun false l) (all_keys further format))

-- some key holds, or none
pub some_text : (keys : List (List ℕ)) → begun false keys ≡ true → parted false keys ≡ keys_text keys
some_text [] some = cc
some_text (key ∷ keys) some = refl

pub plain_text : (keys : List (List ℕ)) → begun false keys ≡ false → parted false keys ++ codes "plain" ≡ keys_text keys
plain_text [] none = refl
plain_text (key ∷ keys) none = cc
