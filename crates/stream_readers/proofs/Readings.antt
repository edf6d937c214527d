-- Readings one after another.
use Rattle.std.proofs.Common.{◌≡◌, ℕ, zero, suc, ◌+◌, ◌≤◌, List, [], ◌∷◌, ◌++◌, length, map, drop, refl, sym, ap, ◌∙◌, subst, arith, append_assoc, append-nil, length-append}
use Rattle.std.proofs.lemmas.List.Concat.{flat_map-append}
use mathlib.Core.List.{IsPrefix}
use Rattle.change_ops.specs.Changes.{Change}
use Rattle.semantics.specs.Step.{Program}
use Rattle.span_flatten.specs.Version.{Version}
use Rattle.version_history.specs.Tokens.{Token}
use Rattle.feeds.specs.Batches.{Item, items_of}
use Rattle.feeds.specs.Orderly.{items_of_all}
use Rattle.feeds.specs.Stream.{BeginsStream}
use Rattle.feeds.proofs.Streams.{begins_stream}
use Rattle.stream_readers.specs.Readers.{Reader, Reads, fresh}
use Rattle.stream_readers.specs.Laws.{joined, ReadsOn, AreVersions}

-- what is left behind some is what was left, and more
pub drop_front : {A : Type 0} (n : ℕ) (xs ys : List A) → IsPrefix (drop n xs) (drop n (xs ++ ys))
drop_front zero xs ys = (ys, refl)
drop_front (suc n) [] ys = (drop (suc n) ys, refl)
drop_front (suc n) (x ∷ xs) ys = drop_front n xs ys

drop_nothing : {A : Type 0} (n : ℕ) → drop {A = A} n [] ≡ []
drop_nothing zero = refl
drop_nothing (suc n) = refl

-- and behind more of it, what is left behind these
pub drop_more : {A : Type 0} (n m : ℕ) (xs : List A) → drop m (drop n xs) ≡ drop (n + m) xs
drop_more zero m xs = ap (λ k. drop k xs) (let e : m ≡ 0 + m = omega arith in e)
drop_more (suc n) m [] = drop_nothing m ∙ sym (drop_nothing (suc n + m))
drop_more (suc n) m (x ∷ xs) = drop_more n m xs ∙ ap (λ k. drop k (x ∷ xs)) (let e : suc (n + m) ≡ suc n + m = omega arith in e)

drop_behind : {A : Type 0} (xs ys : List A) → drop (length xs) (xs ++ ys) ≡ ys
drop_behind [] ys = refl
drop_behind (x ∷ xs) ys = drop_behind xs ys

pub prefix_then : {A : Type 0} (xs ys zs : List A) → IsPrefix xs ys → IsPrefix ys zs → IsPrefix xs zs
prefix_then xs ys zs p q = (p.0 ++ q.0, sym (append_assoc xs p.0 q.0) ∙ (ap (λ w. w ++ q.0) p.1 ∙ q.1))

pub drop_prefix : {A : Type 0} (n : ℕ) (xs ys : List A) → IsPrefix xs ys → IsPrefix (drop n xs) (drop n ys)
drop_prefix n xs ys p = subst (λ l. IsPrefix (drop n xs) (drop n l)) p.1 (drop_front n xs p.0)

-- two beginnings, the second of what is left behind the first
prefix_both : {A : Type 0} (n : ℕ) (all xs ys : List A) → IsPrefix xs (drop n all) → IsPrefix ys (drop (n + length xs) all) → IsPrefix (xs ++ ys) (drop n all)
prefix_both n all xs ys p q =
    let left : drop (n + length xs) all ≡ p.0 = sym (drop_more n (length xs) all) ∙ ap (drop (length xs)) (sym p.1) ∙ drop_behind xs p.0 in
    (q.0, append_assoc xs ys q.0 ∙ ap (λ l. xs ++ l) (q.1 ∙ left) ∙ p.1)

pub read_later : (all more : List (Token Version)) (r r' : Reader) (given : List Item) → IsPrefix all more → Reads all r given r' → Reads more r given r'
read_later all more r r' given begins reads = record {
  versions = reads.versions;
  are = prefix_then reads.versions (drop r.next all) (drop r.next more) reads.are (drop_prefix r.next all more begins);
  program = reads.program;
  next = reads.next;
  joined = reads.joined;
}

pub read_none : (all : List (Token Version)) (r : Reader) → Reads all r [] r
read_none all r = record {
  versions = [];
  are = (drop r.next all, refl);
  program = refl;
  next = let e : r.next ≡ r.next + 0 = omega arith in e;
  joined = sym (append-nil r.pending);
}

-- a reading and another are one
pub read_both : (all : List (Token Version)) (r mid r' : Reader) (given more : List Item) → Reads all r given mid → Reads all mid more r' → Reads all r (given ++ more) r'
read_both all r mid r' given more one two =
    let there : IsPrefix two.versions (drop (r.next + length one.versions) all) = subst (λ n. IsPrefix two.versions (drop n all)) one.next two.are in record {
      versions = one.versions ++ two.versions;
      are = prefix_both r.next all one.versions two.versions one.are there;
      program = two.program ∙ one.program;
      next = omega (arith, one.next, two.next, length-append one.versions two.versions);
      joined =
          append_assoc given more r'.pending ∙ ap (λ l. given ++ l) two.joined
          ∙ ap (λ (p : Token Program). given ++ (mid.pending ++ items_of_all p two.versions)) one.program
          ∙ sym (append_assoc given mid.pending (items_of_all r.program two.versions)) ∙ ap (λ l. l ++ items_of_all r.program two.versions) one.joined
          ∙ append_assoc r.pending (items_of_all r.program one.versions) (items_of_all r.program two.versions)
          ∙ ap (λ l. r.pending ++ l) (sym (flat_map-append (items_of r.program) one.versions two.versions));
    }

pub read_as_one : (all : List (Token Version)) (r r' : Reader) (given : List (List Item)) → ReadsOn all r given r' → Reads all r (joined given) r'
read_as_one all r r' [] on = subst (Reads all r []) (sym on) (read_none all r)
read_as_one all r r' (given ∷ more) on = read_both all r on.0 r' given (joined more) on.1 (read_as_one all on.0 r' more on.2)

pub gives_the_stream : (changes : List Change) (all : List (Token Version)) (program : Token Program) (first : ℕ) (given : List Item) (r : Reader) → AreVersions changes all → first ≤ length changes
    → Reads all (fresh program first) given r → BeginsStream program.value changes first (length changes) (map (λ (item : Item). item.what) given)
gives_the_stream changes all program first given r are behind reads =
    let rest = items_of_all program reads.are.0 in
    let whole : given ++ (r.pending ++ rest) ≡ items_of_all program (drop first all) =
    sym (append_assoc given r.pending rest) ∙ ap (λ l. l ++ rest) reads.joined ∙ sym (flat_map-append (items_of program) reads.versions reads.are.0) ∙ ap (items_of_all program) reads.are.1 in
    begins_stream program changes all first given (r.pending ++ rest) are.each are.are (omega (arith, behind, are.each)) whole
