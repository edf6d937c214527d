-- A line is read as what it says just where it has that form.
use Rattle.std.proofs.Common.{◌≡◌, ◌≢◌, ℕ, ◌^◌, ◌<◌, Bool, true, false, cond, ltb, leb, eqb, List, [], ◌∷◌, ◌++◌, length, Option, Some, None, Result, Ok, Err, refl, sym, ap, subst, ◌∙◌, arith, lit≤}
use Rattle.std.specs.Prelude.{not, codes, if◌then◌else◌, ◌&&◌}
use Rattle.std.specs.Str.{bytes_eq}
use Rattle.std.specs.List.{list_all, AllByRecursion}
use Rattle.std.proofs.lemmas.Bool.{and_parts, and_from, leb-true, le-leb, ltb-true, lt-ltb, eq-eqb, ne_eqb}
use Rattle.change_ops.specs.Words.{split, number_in, small, small_number}
use Rattle.change_ops.specs.Reading.{◌>>=◌}
use Rattle.change_ops.specs.Spelling.{◌␣◌}
use Rattle.change_ops.specs.Forms.{Joined, Word}
use Rattle.change_ops.proofs.Grammar.{Lacks, bind_some, split_again, split_takes, number_lacks}
use Rattle.change_ops.proofs.Phrases.{same_bytes}
use Rattle.change_ops.proofs.KeyWords.{lacks_all}
use Rattle.change_ops.proofs.NumeralForms.{number_takes, number_again}
use Rattle.span_context.specs.declared.profile.Profile.TheVariants.{One, Two, Three}
use Rattle.filters.specs.declared.rules.RuleSet.{RuleSet}
use Rattle.filters.specs.declared.rules.RuleSet.TheVariants.{Straight, Looping}
use Rattle.session_lines.specs.Commands.{Command, name_of, show_word, subscribe, pull, close, read, Number, IsCount, Count, IsFewChanges, FewChanges, OneWord, CommandForm, Grants, IsAsked}
use Rattle.session_lines.specs.Reading.{is_count, is_few_changes, is_one_word, from_at, program_at, subscribe_at, pull_at, close_at, show_at, changes_at, newest_at, query_at, words_at, alone_at, either_of, command_at}
use Rattle.session_lines.specs.declared.query.Query.{Query}
use Rattle.session_lines.specs.declared.query.Query.TheVariants.{Latest, Left, Hub, Stats, Show, Changes, Newest}
use Rattle.session_lines.specs.declared.request.SessionRequest.{SessionRequest}
use Rattle.session_lines.specs.declared.fault.LineRefusal.{LineRefusal}
use Rattle.session_lines.specs.declared.fault.LineRefusal.TheVariants.{BadCommand, BadCapacity, BadHex, BadChange, OutOfMemory}

guard_some : {A : Type 0} (b : Bool) (x y : A) → cond b (Some x) None ≡ Some y → (b ≡ true) × (x ≡ y)
guard_some true x y e = (refl, cc)
guard_some false x y e = absurd cc

joined_again : (word : List ℕ) {First Second : List ℕ → Type 0} (j : Joined 32 First Second word) → Lacks 32 j.first → split 32 word ≡ Some (j.first, j.second)
joined_again word j lacks = ap (split 32) j.whole ∙ split_again 32 j.first j.second lacks

-- ---- numbers
number_form : (word : List ℕ) (n : ℕ) → small (number_in 10 word) ≡ Some n → Number n word
number_form word n e =
    let a = bind_some (number_in 10 word) small_number n e in
    let b = guard_some (ltb a.0 (2 ^ 64)) a.0 n a.2 in
    let few : a.0 < 2 ^ 64 = ltb-true a.0 (2 ^ 64) b.0 in
    record { numeral = number_takes 10 n word (omega arith) (a.1 ∙ ap Some b.1); small = subst (λ (m : ℕ). m < 2 ^ 64) b.1 few }

number_read : (word : List ℕ) (n : ℕ) → Number n word → small (number_in 10 word) ≡ Some n
number_read word n h = rw (number_again 10 n word (omega arith) h.numeral, lt-ltb n (2 ^ 64) h.small) refl

no_space : (word : List ℕ) (n : ℕ) → Number n word → Lacks 32 word
no_space word n h = number_lacks 10 32 word n (lit≤ tt) (number_again 10 n word (omega arith) h.numeral)

pub count_form : (n : ℕ) → is_count n ≡ true → IsCount n
count_form n e = let p = and_parts (leb 1 n) (leb n 1024) e in record { some = leb-true 1 n p.0; few = leb-true n 1024 p.1 }

count_read : (n : ℕ) → IsCount n → is_count n ≡ true
count_read n h = and_from (leb 1 n) (leb n 1024) (le-leb 1 n h.some) (le-leb n 1024 h.few)

pub no_count : (n : ℕ) → is_count n ≡ false → ¬ (IsCount n)
no_count n e h = let f = count_read n h in cc

few_form : (n : ℕ) → is_few_changes n ≡ true → IsFewChanges n
few_form n e = let p = and_parts (leb 1 n) (leb n 64) e in record { some = leb-true 1 n p.0; few = leb-true n 64 p.1 }

few_read : (n : ℕ) → IsFewChanges n → is_few_changes n ≡ true
few_read n h = and_from (leb 1 n) (leb n 64) (le-leb 1 n h.some) (le-leb n 64 h.few)

-- ---- one word
spaceless : (word : List ℕ) → list_all (λ b. not (eqb b 32)) word ≡ true → AllByRecursion (λ b. b ≢ 32) word
spaceless [] h = tt
spaceless (b ∷ bs) h =
    let p = and_parts (not (eqb b 32)) (list_all (λ c. not (eqb c 32)) bs) h in
    (λ e. let f : eqb b 32 ≡ true = eq-eqb b 32 e in let g = rw f at p.0 in cc, spaceless bs p.1)

all_spaceless : (word : List ℕ) → AllByRecursion (λ b. b ≢ 32) word → list_all (λ b. not (eqb b 32)) word ≡ true
all_spaceless [] h = refl
all_spaceless (b ∷ bs) h =
    and_from (not (eqb b 32)) (list_all (λ c. not (eqb c 32)) bs) (let f : eqb b 32 ≡ false = ne_eqb b 32 h.0 in rw f refl) (all_spaceless bs h.1)

one_word_form : (word : List ℕ) → is_one_word word ≡ true → OneWord word word
one_word_form word e =
    let p = and_parts (leb 1 (length word)) (list_all (λ b. not (eqb b 32)) word) e in
    record { whole = refl; some = leb-true 1 (length word) p.0; one = spaceless word p.1 }

one_word_read : (word digits : List ℕ) → OneWord digits word → is_one_word word ≡ true
one_word_read word digits h =
    subst (λ (w : List ℕ). is_one_word w ≡ true) (sym h.whole) (and_from (leb 1 (length digits)) (list_all (λ b. not (eqb b 32)) digits) (le-leb 1 (length digits) h.some) (all_spaceless digits h.one))

named_line : (name line : List ℕ) {Rest : List ℕ → Type 0} (j : Joined 32 (Word name) Rest line) → Lacks 32 name → split 32 line ≡ Some (name, j.second)
named_line name line j lacks = ap (split 32) (j.whole ∙ ap (λ (x : List ℕ). x ++ 32 ∷ j.second) j.before) ∙ split_again 32 name j.second lacks

-- ---- the forms
-- a subscription's line, whose capacity was read
module _ (line fields number rest : List ℕ) (rules : RuleSet) (capacity : ℕ) (c : Command) (text : line ≡ name_of rules ␣ fields) (whole : fields ≡ number ␣ rest) (before : Number capacity number) where
  from_form : from_at rules capacity rest ≡ Some c → CommandForm c line
  unfolding from_at
  from_form e =
      let p = bind_some (split 32 rest) (λ parts. split 32 parts.1 >>= λ more. small (number_in 10 more.1) >>= λ first. if is_one_word parts.0 && bytes_eq more.0 (codes "from") then Some (subscribe rules capacity parts.0 (Some first)) else None) c e in
      let q = bind_some (split 32 p.0.1) (λ more. small (number_in 10 more.1) >>= λ first. if is_one_word p.0.0 && bytes_eq more.0 (codes "from") then Some (subscribe rules capacity p.0.0 (Some first)) else None) c p.2 in
      let n = bind_some (small (number_in 10 q.0.1)) (λ first. if is_one_word p.0.0 && bytes_eq q.0.0 (codes "from") then Some (subscribe rules capacity p.0.0 (Some first)) else None) c q.2 in
      let g = guard_some (is_one_word p.0.0 && bytes_eq q.0.0 (codes "from")) (subscribe rules capacity p.0.0 (Some n.0)) c n.2 in
      let both = and_parts (is_one_word p.0.0) (bytes_eq q.0.0 (codes "from")) g.0 in
      let last : Joined 32 (Word (codes "from")) (Number n.0) p.0.1 = record { first = q.0.0; second = q.0.1; whole = (split_takes 32 p.0.1 q.0.0 q.0.1 q.1).0; before = same_bytes q.0.0 (codes "from") both.1; after = number_form q.0.1 n.0 n.1 } in
      let behind : Joined 32 (OneWord p.0.0) (Joined 32 (Word (codes "from")) (Number n.0)) rest = record { first = p.0.0; second = p.0.1; whole = (split_takes 32 rest p.0.0 p.0.1 p.1).0; before = one_word_form p.0.0 both.0; after = last } in
      let after : Joined 32 (Number capacity) (Joined 32 (OneWord p.0.0) (Joined 32 (Word (codes "from")) (Number n.0))) fields = record { first = number; second = rest; whole = whole; before = before; after = behind } in
      let form : CommandForm (subscribe rules capacity p.0.0 (Some n.0)) line = record { first = name_of rules; second = fields; whole = text; before = refl; after = after } in
      subst (λ (x : Command). CommandForm x line) g.1 form

  program_form : program_at rules capacity rest ≡ Some c → CommandForm c line
  program_form e = go (is_one_word rest) refl e where
    go : (b : Bool) → is_one_word rest ≡ b → cond b (Some (subscribe rules capacity rest None)) (from_at rules capacity rest) ≡ Some c → CommandForm c line
    go true f e =
        let same : subscribe rules capacity rest None ≡ c = cc e in
        let after : Joined 32 (Number capacity) (OneWord rest) fields = record { first = number; second = rest; whole = whole; before = before; after = one_word_form rest f } in
        let form : CommandForm (subscribe rules capacity rest None) line = record { first = name_of rules; second = fields; whole = text; before = refl; after = after } in
        subst (λ (x : Command). CommandForm x line) same form
    go false f e = from_form e

subscribe_form : (line fields : List ℕ) (rules : RuleSet) (c : Command) → line ≡ name_of rules ␣ fields → subscribe_at rules fields ≡ Some c → CommandForm c line
unfolding subscribe_at
subscribe_form line fields rules c text e =
    let a = bind_some (split 32 fields) (λ parts. small (number_in 10 parts.0) >>= λ capacity. program_at rules capacity parts.1) c e in
    let b = bind_some (small (number_in 10 a.0.0)) (λ capacity. program_at rules capacity a.0.1) c a.2 in
    program_form line fields a.0.0 a.0.1 rules b.0 c text (split_takes 32 fields a.0.0 a.0.1 a.1).0 (number_form a.0.0 b.0 b.1) b.2

subscribe_read : (fields : List ℕ) (rules : RuleSet) (capacity : ℕ) (digits : List ℕ) → Joined 32 (Number capacity) (OneWord digits) fields → subscribe_at rules fields ≡ Some (subscribe rules capacity digits None)
unfolding subscribe_at
subscribe_read fields rules capacity digits j =
    rw (joined_again fields j (no_space j.first capacity j.before), number_read j.first capacity j.before, one_word_read j.second digits j.after)
    (ap (λ (w : List ℕ). Some (subscribe rules capacity w None)) j.after.whole)

-- two words are no single one
spaced : (word rest : List ℕ) → list_all (λ b. not (eqb b 32)) (word ++ 32 ∷ rest) ≡ false
spaced [] rest = refl
spaced (b ∷ word) rest = rw (spaced word rest) (no_more (not (eqb b 32))) where
  no_more : (b : Bool) → (b && false) ≡ false
  no_more true = refl
  no_more false = refl

two_words : (text word rest : List ℕ) → text ≡ word ++ 32 ∷ rest → is_one_word text ≡ false
two_words text word rest e = rw (e, spaced word rest) (no_more (leb 1 (length (word ++ 32 ∷ rest)))) where
  no_more : (b : Bool) → (b && false) ≡ false
  no_more true = refl
  no_more false = refl

from_read : (rules : RuleSet) (capacity first : ℕ) (digits text : List ℕ) → Joined 32 (OneWord digits) (Joined 32 (Word (codes "from")) (Number first)) text → from_at rules capacity text ≡ Some (subscribe rules capacity digits (Some first))
unfolding from_at
from_read rules capacity first digits text j =
    let one : is_one_word j.first ≡ true = one_word_read j.first digits j.before in
    let word : Lacks 32 j.first = subst (Lacks 32) (sym j.before.whole) (lacks_all 32 digits (all_spaceless digits j.before.one)) in
    let name : split 32 j.second ≡ Some (codes "from", j.after.second) = named_line (codes "from") j.second j.after (lacks_all 32 (codes "from") refl) in
    rw (joined_again text j word, name, number_read j.after.second first j.after.after, one) (ap (λ (w : List ℕ). Some (subscribe rules capacity w (Some first))) j.before.whole)

subscribe_from_read : (fields : List ℕ) (rules : RuleSet) (capacity first : ℕ) (digits : List ℕ) → Joined 32 (Number capacity) (Joined 32 (OneWord digits) (Joined 32 (Word (codes "from")) (Number first))) fields
    → subscribe_at rules fields ≡ Some (subscribe rules capacity digits (Some first))
unfolding subscribe_at
subscribe_from_read fields rules capacity first digits j =
    let no : is_one_word j.second ≡ false = two_words j.second j.after.first j.after.second j.after.whole in
    rw (joined_again fields j (no_space j.first capacity j.before), number_read j.first capacity j.before, no) (from_read rules capacity first digits j.second j.after)

pull_form : (line fields : List ℕ) (c : Command) → line ≡ codes "pull" ␣ fields → pull_at fields ≡ Some c → CommandForm c line
unfolding pull_at
pull_form line fields c text e =
    let a = bind_some (split 32 fields) (λ parts. small (number_in 10 parts.0) >>= λ subscriber. small (number_in 10 parts.1) >>= λ count. if is_count count then Some (pull subscriber count) else None) c e in
    let b = bind_some (small (number_in 10 a.0.0)) (λ subscriber. small (number_in 10 a.0.1) >>= λ count. if is_count count then Some (pull subscriber count) else None) c a.2 in
    let d = bind_some (small (number_in 10 a.0.1)) (λ count. if is_count count then Some (pull b.0 count) else None) c b.2 in
    let g = guard_some (is_count d.0) (pull b.0 d.0) c d.2 in
    let counted : Count d.0 a.0.1 = record { number = number_form a.0.1 d.0 d.1; limits = count_form d.0 g.0 } in
    let behind : Joined 32 (Number b.0) (Count d.0) fields = record { first = a.0.0; second = a.0.1; whole = (split_takes 32 fields a.0.0 a.0.1 a.1).0; before = number_form a.0.0 b.0 b.1; after = counted } in
    let form : CommandForm (pull b.0 d.0) line = record { first = codes "pull"; second = fields; whole = text; before = refl; after = behind } in
    subst (λ (x : Command). CommandForm x line) g.1 form

pull_read : (fields : List ℕ) (subscriber count : ℕ) → Joined 32 (Number subscriber) (Count count) fields → pull_at fields ≡ Some (pull subscriber count)
unfolding pull_at
pull_read fields subscriber count j =
    rw (joined_again fields j (no_space j.first subscriber j.before), number_read j.first subscriber j.before, number_read j.second count j.after.number, count_read count j.after.limits) refl

close_form : (line fields : List ℕ) (c : Command) → line ≡ codes "close" ␣ fields → close_at fields ≡ Some c → CommandForm c line
unfolding close_at
close_form line fields c text e =
    let a = bind_some (small (number_in 10 fields)) (λ subscriber. Some (close subscriber)) c e in
    let same : close a.0 ≡ c = cc (a.2) in
    let form : CommandForm (close a.0) line = record { first = codes "close"; second = fields; whole = text; before = refl; after = number_form fields a.0 a.1 } in
    subst (λ (x : Command). CommandForm x line) same form

close_read : (fields : List ℕ) (subscriber : ℕ) → Number subscriber fields → close_at fields ≡ Some (close subscriber)
unfolding close_at
close_read fields subscriber h = rw (number_read fields subscriber h) refl

show_form : (further : Bool) (line fields : List ℕ) (c : Command) → line ≡ show_word further ␣ fields → show_at further fields ≡ Some c → CommandForm c line
unfolding show_at
show_form further line fields c text e =
    let a = bind_some (split 32 fields) (λ parts. split 32 parts.1 >>= λ more. small (number_in 10 parts.0) >>= λ version. small (number_in 10 more.0) >>= λ first. small (number_in 10 more.1) >>= λ count. if is_count count then Some (read (Show version first count further)) else None) c e in
    let b = bind_some (split 32 a.0.1) (λ more. small (number_in 10 a.0.0) >>= λ version. small (number_in 10 more.0) >>= λ first. small (number_in 10 more.1) >>= λ count. if is_count count then Some (read (Show version first count further)) else None) c a.2 in
    let v = bind_some (small (number_in 10 a.0.0)) (λ version. small (number_in 10 b.0.0) >>= λ first. small (number_in 10 b.0.1) >>= λ count. if is_count count then Some (read (Show version first count further)) else None) c b.2 in
    let f = bind_some (small (number_in 10 b.0.0)) (λ first. small (number_in 10 b.0.1) >>= λ count. if is_count count then Some (read (Show v.0 first count further)) else None) c v.2 in
    let d = bind_some (small (number_in 10 b.0.1)) (λ count. if is_count count then Some (read (Show v.0 f.0 count further)) else None) c f.2 in
    let g = guard_some (is_count d.0) (read (Show v.0 f.0 d.0 further)) c d.2 in
    let counted : Count d.0 b.0.1 = record { number = number_form b.0.1 d.0 d.1; limits = count_form d.0 g.0 } in
    let last : Joined 32 (Number f.0) (Count d.0) a.0.1 = record { first = b.0.0; second = b.0.1; whole = (split_takes 32 a.0.1 b.0.0 b.0.1 b.1).0; before = number_form b.0.0 f.0 f.1; after = counted } in
    let behind : Joined 32 (Number v.0) (Joined 32 (Number f.0) (Count d.0)) fields = record { first = a.0.0; second = a.0.1; whole = (split_takes 32 fields a.0.0 a.0.1 a.1).0; before = number_form a.0.0 v.0 v.1; after = last } in
    let form : CommandForm (read (Show v.0 f.0 d.0 further)) line = record { first = show_word further; second = fields; whole = text; before = refl; after = behind } in
    subst (λ (x : Command). CommandForm x line) g.1 form

show_read : (further : Bool) (fields : List ℕ) (version first count : ℕ) → Joined 32 (Number version) (Joined 32 (Number first) (Count count)) fields → show_at further fields ≡ Some (read (Show version first count further))
unfolding show_at
show_read further fields version first count j =
    let more : split 32 j.second ≡ Some (j.after.first, j.after.second) = joined_again j.second j.after (no_space j.after.first first j.after.before) in
    rw (joined_again fields j (no_space j.first version j.before), more, number_read j.first version j.before, number_read j.after.first first j.after.before, number_read j.after.second count j.after.after.number, count_read count j.after.after.limits) refl

changes_form : (line fields : List ℕ) (c : Command) → line ≡ codes "changes" ␣ fields → changes_at fields ≡ Some c → CommandForm c line
unfolding changes_at
changes_form line fields c text e =
    let a = bind_some (split 32 fields) (λ parts. small (number_in 10 parts.0) >>= λ from. small (number_in 10 parts.1) >>= λ count. if is_few_changes count then Some (read (Changes from count)) else None) c e in
    let b = bind_some (small (number_in 10 a.0.0)) (λ from. small (number_in 10 a.0.1) >>= λ count. if is_few_changes count then Some (read (Changes from count)) else None) c a.2 in
    let d = bind_some (small (number_in 10 a.0.1)) (λ count. if is_few_changes count then Some (read (Changes b.0 count)) else None) c b.2 in
    let g = guard_some (is_few_changes d.0) (read (Changes b.0 d.0)) c d.2 in
    let counted : FewChanges d.0 a.0.1 = record { number = number_form a.0.1 d.0 d.1; limits = few_form d.0 g.0 } in
    let behind : Joined 32 (Number b.0) (FewChanges d.0) fields = record { first = a.0.0; second = a.0.1; whole = (split_takes 32 fields a.0.0 a.0.1 a.1).0; before = number_form a.0.0 b.0 b.1; after = counted } in
    let form : CommandForm (read (Changes b.0 d.0)) line = record { first = codes "changes"; second = fields; whole = text; before = refl; after = behind } in
    subst (λ (x : Command). CommandForm x line) g.1 form

changes_read : (fields : List ℕ) (from count : ℕ) → Joined 32 (Number from) (FewChanges count) fields → changes_at fields ≡ Some (read (Changes from count))
unfolding changes_at
changes_read fields from count j =
    rw (joined_again fields j (no_space j.first from j.before), number_read j.first from j.before, number_read j.second count j.after.number, few_read count j.after.limits) refl

newest_form : (line fields : List ℕ) (c : Command) → line ≡ codes "newest" ␣ fields → newest_at fields ≡ Some c → CommandForm c line
unfolding newest_at
newest_form line fields c text e =
    let a = bind_some (small (number_in 10 fields)) (λ node. Some (read (Newest node))) c e in
    let same : read (Newest a.0) ≡ c = cc (a.2) in
    let form : CommandForm (read (Newest a.0)) line = record { first = codes "newest"; second = fields; whole = text; before = refl; after = number_form fields a.0 a.1 } in
    subst (λ (x : Command). CommandForm x line) same form

newest_read : (fields : List ℕ) (node : ℕ) → Number node fields → newest_at fields ≡ Some (read (Newest node))
unfolding newest_at
newest_read fields node h = rw (number_read fields node h) refl

query_form : (line name fields : List ℕ) (c : Command) → line ≡ name ␣ fields → query_at name fields ≡ Some c → CommandForm c line
query_form line name fields c whole e = go (bytes_eq name (codes "show")) (bytes_eq name (codes "show3")) (bytes_eq name (codes "changes")) (bytes_eq name (codes "newest")) refl refl refl refl e where
  named : (word : List ℕ) → bytes_eq name word ≡ true → line ≡ word ␣ fields
  named word f = whole ∙ ap (λ (x : List ℕ). x ␣ fields) (same_bytes name word f)

  go : (s t u p : Bool) → bytes_eq name (codes "show") ≡ s → bytes_eq name (codes "show3") ≡ t → bytes_eq name (codes "changes") ≡ u → bytes_eq name (codes "newest") ≡ p
      → cond s (show_at false fields) (cond t (show_at true fields) (cond u (changes_at fields) (cond p (newest_at fields) None))) ≡ Some c → CommandForm c line
  go true t u p f1 f2 f3 f4 e = show_form false line fields c (named (codes "show") f1) e
  go false true u p f1 f2 f3 f4 e = show_form true line fields c (named (codes "show3") f2) e
  go false false true p f1 f2 f3 f4 e = changes_form line fields c (named (codes "changes") f3) e
  go false false false true f1 f2 f3 f4 e = newest_form line fields c (named (codes "newest") f4) e
  go false false false false f1 f2 f3 f4 e = absurd cc

-- ---- whole lines
words_form : (line : List ℕ) (c : Command) → words_at line ≡ Some c → CommandForm c line
unfolding words_at
words_form line c e =
    let a = bind_some (split 32 line) (λ parts. if bytes_eq parts.0 (codes "sub") then subscribe_at (Straight One) parts.1 else if bytes_eq parts.0 (codes "sub2") then subscribe_at (Straight Two) parts.1 else if bytes_eq parts.0 (codes "sub3") then subscribe_at (Straight Three) parts.1 else if bytes_eq parts.0 (codes "sub4") then subscribe_at Looping parts.1 else if bytes_eq parts.0 (codes "pull") then pull_at parts.1 else if bytes_eq parts.0 (codes "close") then close_at parts.1 else query_at parts.0 parts.1) c e in
    kinds a.0.0 a.0.1 (split_takes 32 line a.0.0 a.0.1 a.1).0 a.2
  where
    kinds : (name fields : List ℕ) → line ≡ name ␣ fields → (if bytes_eq name (codes "sub") then subscribe_at (Straight One) fields else if bytes_eq name (codes "sub2") then subscribe_at (Straight Two) fields else if bytes_eq name (codes "sub3") then subscribe_at (Straight Three) fields else if bytes_eq name (codes "sub4") then subscribe_at Looping fields else if bytes_eq name (codes "pull") then pull_at fields else if bytes_eq name (codes "close") then close_at fields else query_at name fields) ≡ Some c → CommandForm c line
    kinds name fields whole e = go (bytes_eq name (codes "sub")) (bytes_eq name (codes "sub2")) (bytes_eq name (codes "sub3")) (bytes_eq name (codes "sub4")) (bytes_eq name (codes "pull")) (bytes_eq name (codes "close")) refl refl refl refl refl refl e where
      named : (word : List ℕ) → bytes_eq name word ≡ true → line ≡ word ␣ fields
      named word f = whole ∙ ap (λ (x : List ℕ). x ␣ fields) (same_bytes name word f)

      go : (s t u l p q : Bool) → bytes_eq name (codes "sub") ≡ s → bytes_eq name (codes "sub2") ≡ t → bytes_eq name (codes "sub3") ≡ u → bytes_eq name (codes "sub4") ≡ l → bytes_eq name (codes "pull") ≡ p → bytes_eq name (codes "close") ≡ q
          → cond s (subscribe_at (Straight One) fields) (cond t (subscribe_at (Straight Two) fields) (cond u (subscribe_at (Straight Three) fields) (cond l (subscribe_at Looping fields) (cond p (pull_at fields) (cond q (close_at fields) (query_at name fields)))))) ≡ Some c → CommandForm c line
      go true t u l p q f1 f2 f3 f4 f5 f6 e = subscribe_form line fields (Straight One) c (named (codes "sub") f1) e
      go false true u l p q f1 f2 f3 f4 f5 f6 e = subscribe_form line fields (Straight Two) c (named (codes "sub2") f2) e
      go false false true l p q f1 f2 f3 f4 f5 f6 e = subscribe_form line fields (Straight Three) c (named (codes "sub3") f3) e
      go false false false true p q f1 f2 f3 f4 f5 f6 e = subscribe_form line fields Looping c (named (codes "sub4") f4) e
      go false false false false true q f1 f2 f3 f4 f5 f6 e = pull_form line fields c (named (codes "pull") f5) e
      go false false false false false true f1 f2 f3 f4 f5 f6 e = close_form line fields c (named (codes "close") f6) e
      go false false false false false false f1 f2 f3 f4 f5 f6 e = query_form line name fields c whole e

-- a line of several words is none of one word
not_word : (word line : List ℕ) (parts : List ℕ × List ℕ) → split 32 word ≡ None → split 32 line ≡ Some parts → bytes_eq line word ≡ false
not_word word line parts none e = go (bytes_eq line word) refl where
  go : (b : Bool) → bytes_eq line word ≡ b → b ≡ false
  go false f = refl
  go true f =
      let there : split 32 word ≡ Some parts = subst (λ (x : List ℕ). split 32 x ≡ Some parts) (same_bytes line word f) e in
      absurd cc

not_alone : (line : List ℕ) (parts : List ℕ × List ℕ) → split 32 line ≡ Some parts → alone_at line ≡ None
unfolding split
not_alone line parts e =
    rw (not_word (codes "latest") line parts refl e, not_word (codes "left") line parts refl e, not_word (codes "hub") line parts refl e, not_word (codes "stats") line parts refl e) refl

spoken : (line : List ℕ) (c : Command) → words_at line ≡ Some c → command_at line ≡ Some c
unfolding command_at words_at
spoken line c w =
    let a = bind_some (split 32 line) (λ parts. if bytes_eq parts.0 (codes "sub") then subscribe_at (Straight One) parts.1 else if bytes_eq parts.0 (codes "sub2") then subscribe_at (Straight Two) parts.1 else if bytes_eq parts.0 (codes "sub3") then subscribe_at (Straight Three) parts.1 else if bytes_eq parts.0 (codes "sub4") then subscribe_at Looping parts.1 else if bytes_eq parts.0 (codes "pull") then pull_at parts.1 else if bytes_eq parts.0 (codes "close") then close_at parts.1 else query_at parts.0 parts.1) c w in
    rw (not_alone line a.0 a.1) w

-- one of one word is just that
alone_form : (line : List ℕ) (query : Query) → alone_at line ≡ Some query → CommandForm (read query) line
alone_form line query e = go (bytes_eq line (codes "latest")) (bytes_eq line (codes "left")) (bytes_eq line (codes "hub")) (bytes_eq line (codes "stats")) refl refl refl refl e where
  formed : (found : Query) → found ≡ query → CommandForm (read found) line → CommandForm (read query) line
  formed found same form = subst (λ (x : Query). CommandForm (read x) line) same form

  go : (s t p q : Bool) → bytes_eq line (codes "latest") ≡ s → bytes_eq line (codes "left") ≡ t → bytes_eq line (codes "hub") ≡ p → bytes_eq line (codes "stats") ≡ q
      → cond s (Some Latest) (cond t (Some Left) (cond p (Some Hub) (cond q (Some Stats) None))) ≡ Some query → CommandForm (read query) line
  go true t p q f1 f2 f3 f4 e = let same : Latest ≡ query = cc e in formed Latest same (same_bytes line (codes "latest") f1)
  go false true p q f1 f2 f3 f4 e = let same : Left ≡ query = cc e in formed Left same (same_bytes line (codes "left") f2)
  go false false true q f1 f2 f3 f4 e = let same : Hub ≡ query = cc e in formed Hub same (same_bytes line (codes "hub") f3)
  go false false false true f1 f2 f3 f4 e = let same : Stats ≡ query = cc e in formed Stats same (same_bytes line (codes "stats") f4)
  go false false false false f1 f2 f3 f4 e = absurd cc

pub command_form : (line : List ℕ) (c : Command) → command_at line ≡ Some c → CommandForm c line
unfolding command_at
command_form line c e = go (alone_at line) refl e where
  go : (found : Option Query) → alone_at line ≡ found → either_of found (words_at line) ≡ Some c → CommandForm c line
  go (Some query) f e = let same : read query ≡ c = cc e in subst (λ (x : Command). CommandForm x line) same (alone_form line query f)
  go None f e = words_form line c e

-- what is said in several words
abbrev HasWords : Command → Type 0
HasWords (read Latest) = ⊥
HasWords (read Left) = ⊥
HasWords (read Hub) = ⊥
HasWords (read Stats) = ⊥
HasWords command = Unit {0}

words_read : (line : List ℕ) (c : Command) → HasWords c → CommandForm c line → words_at line ≡ Some c
unfolding words_at
words_read line (subscribe (Straight One) capacity digits None) n j = rw (named_line (codes "sub") line j (lacks_all 32 (codes "sub") refl), subscribe_read j.second (Straight One) capacity digits j.after) refl
words_read line (subscribe (Straight One) capacity digits (Some first)) n j = rw (named_line (codes "sub") line j (lacks_all 32 (codes "sub") refl), subscribe_from_read j.second (Straight One) capacity first digits j.after) refl
words_read line (subscribe (Straight Two) capacity digits None) n j = rw (named_line (codes "sub2") line j (lacks_all 32 (codes "sub2") refl), subscribe_read j.second (Straight Two) capacity digits j.after) refl
words_read line (subscribe (Straight Two) capacity digits (Some first)) n j = rw (named_line (codes "sub2") line j (lacks_all 32 (codes "sub2") refl), subscribe_from_read j.second (Straight Two) capacity first digits j.after) refl
words_read line (subscribe (Straight Three) capacity digits None) n j = rw (named_line (codes "sub3") line j (lacks_all 32 (codes "sub3") refl), subscribe_read j.second (Straight Three) capacity digits j.after) refl
words_read line (subscribe (Straight Three) capacity digits (Some first)) n j = rw (named_line (codes "sub3") line j (lacks_all 32 (codes "sub3") refl), subscribe_from_read j.second (Straight Three) capacity first digits j.after) refl
words_read line (subscribe Looping capacity digits None) n j = rw (named_line (codes "sub4") line j (lacks_all 32 (codes "sub4") refl), subscribe_read j.second Looping capacity digits j.after) refl
words_read line (subscribe Looping capacity digits (Some first)) n j = rw (named_line (codes "sub4") line j (lacks_all 32 (codes "sub4") refl), subscribe_from_read j.second Looping capacity first digits j.after) refl
words_read line (pull subscriber count) n j = rw (named_line (codes "pull") line j (lacks_all 32 (codes "pull") refl), pull_read j.second subscriber count j.after) refl
words_read line (close subscriber) n j = rw (named_line (codes "close") line j (lacks_all 32 (codes "close") refl), close_read j.second subscriber j.after) refl
words_read line (read Latest) n j = absurd n
words_read line (read Left) n j = absurd n
words_read line (read Hub) n j = absurd n
words_read line (read Stats) n j = absurd n
words_read line (read (Show version first count false)) n j = rw (named_line (codes "show") line j (lacks_all 32 (codes "show") refl), show_read false j.second version first count j.after) refl
words_read line (read (Show version first count true)) n j = rw (named_line (codes "show3") line j (lacks_all 32 (codes "show3") refl), show_read true j.second version first count j.after) refl
words_read line (read (Changes from count)) n j = rw (named_line (codes "changes") line j (lacks_all 32 (codes "changes") refl), changes_read j.second from count j.after) refl
words_read line (read (Newest node)) n j = rw (named_line (codes "newest") line j (lacks_all 32 (codes "newest") refl), newest_read j.second node j.after) refl

alone_read : (line word : List ℕ) (query : Query) → command_at word ≡ Some (read query) → line ≡ word → command_at line ≡ Some (read query)
alone_read line word query is e = ap command_at e ∙ is

pub command_read : (line : List ℕ) (c : Command) → CommandForm c line → command_at line ≡ Some c
unfolding command_at
command_read line (subscribe rules capacity digits first) j = spoken line _ (words_read line (subscribe rules capacity digits first) tt j)
command_read line (pull subscriber count) j = spoken line _ (words_read line (pull subscriber count) tt j)
command_read line (close subscriber) j = spoken line _ (words_read line (close subscriber) tt j)
command_read line (read Latest) j = alone_read line (codes "latest") Latest refl j
command_read line (read Left) j = alone_read line (codes "left") Left refl j
command_read line (read Hub) j = alone_read line (codes "hub") Hub refl j
command_read line (read Stats) j = alone_read line (codes "stats") Stats refl j
command_read line (read (Show version first count further)) j = spoken line _ (words_read line (read (Show version first count further)) tt j)
command_read line (read (Changes from count)) j = spoken line _ (words_read line (read (Changes from count)) tt j)
command_read line (read (Newest node)) j = spoken line _ (words_read line (read (Newest node)) tt j)

-- ---- what is answered to a line
never : (c : Command) → Grants c (Err BadCommand) → ⊥
never (subscribe rules capacity digits first) g = g
never (pull subscriber count) g = g
never (close subscriber) g = g
never (read query) g = g

pub asked_some : (line : List ℕ) (c : Command) (answer : Result SessionRequest LineRefusal) → command_at line ≡ Some c → Grants c answer → IsAsked line answer
asked_some line c (Ok request) e g = (c, command_form line c e, g)
asked_some line c (Err BadCommand) e g = absurd (never c g)
asked_some line c (Err BadCapacity) e g = (c, command_form line c e, g)
asked_some line c (Err BadHex) e g = (c, command_form line c e, g)
asked_some line c (Err (BadChange error)) e g = (c, command_form line c e, g)
asked_some line c (Err OutOfMemory) e g = (c, command_form line c e, g)

pub asked_none : (line : List ℕ) → command_at line ≡ None → IsAsked line (Err BadCommand)
asked_none line e = λ c form. let f = command_read line c form in cc
