-- Texts that are accepted again, one after another.
use Rattle.std.proofs.Common.{◌≡◌, ℕ, ◌+◌, List, [], ◌∷◌, ◌++◌, Some, Result, Ok, Err, IsErrAnd, MatchResult, length, map, take, sym, ap, ◌∙◌, subst, rules}
use Rattle.std.specs.List.{slice_get, AllByRecursion}
use Rattle.std.proofs.lemmas.List.{map-append, length_push}
use Rattle.std.proofs.lemmas.Option.{none-some}
use Rattle.std.proofs.Math.Seq.{take-length}
use Rattle.change_ops.specs.Changes.{Change, IsChange}
use Rattle.change_ops.specs.declared.size.Size.{Size}
use Rattle.change_ops.specs.Spelling.{change_text}
use Rattle.change_history.specs.Accepted.{IsAccepted}
use Rattle.change_history.specs.Chronicle.{Chronicle}
use Rattle.change_history.proofs.Chronicle.{take_push, accepted_more}
use Rattle.stored_history.specs.declared.error.OpenError.{OpenError}
use Rattle.stored_history.specs.declared.error.OpenError.TheVariants.{LogFailed, Damaged, OutOfMemory}
use Rattle.stored_history.specs.Texts.{IsTextOf, AreTextsOf, IsAtFault, IsFirstAtFault, FollowsBy, IsFaultOf, IsNotRead}

all_more : (P : Change → Type 0) (changes : List Change) (change : Change) → AllByRecursion P changes → P change → AllByRecursion P (changes ++ change ∷ [])
all_more P [] change all one = (one, tt)
all_more P (first ∷ changes) change all one = (all.0, all_more P changes change all.1 one)

module _ (size : Size) where
  of_none : AreTextsOf size [] []
  of_none = record { spelled = search rules; valid = tt; accepted = λ n change here. absurd (none-some change here) }

  pub read_none : (texts : List (List ℕ)) (changes : List Change) → changes ≡ [] → AreTextsOf size (take 0 texts) changes
  read_none texts changes none = subst (λ (cs : List Change). AreTextsOf size [] cs) (sym none) of_none

  pub read_more : (texts : List (List ℕ)) (changes : List Change) (index : ℕ) (text : List ℕ) (change : Change) → AreTextsOf size (take index texts) changes → slice_get texts index ≡ Some text → IsTextOf text change → IsAccepted size changes change
      → AreTextsOf size (take (index + 1) texts) (changes ++ change ∷ [])
  read_more texts changes index text change read here spelled accepted = record {
    spelled = take_push texts index text here ∙ ap (λ ts. ts ++ text ∷ []) read.spelled ∙ ap (λ t. map change_text changes ++ t ∷ []) spelled.1
        ∙ sym (map-append change_text changes (change ∷ []));
    valid = all_more IsChange changes change read.valid spelled.0;
    accepted = accepted_more {size = size} changes change read.accepted accepted;
  }

  -- the same, where the history has the changes
  pub read_next : (texts : List (List ℕ)) (old new : Chronicle) (index : ℕ) (text : List ℕ) → old.size ≡ size → AreTextsOf size (take index texts) old.changes → length old.changes ≡ index → slice_get texts index ≡ Some text
      → FollowsBy old.size text old.changes new.changes → AreTextsOf size (take (index + 1) texts) new.changes × (length new.changes ≡ index + 1)
  read_next texts old new index text same read count here follows =
      let behind : FollowsBy size text old.changes new.changes = subst (λ (s : Size). FollowsBy s text old.changes new.changes) same follows in (
        subst (λ (cs : List Change). AreTextsOf size (take (index + 1) texts) cs) (sym behind.grown) (read_more texts old.changes index text behind.change read here behind.spelled behind.accepted),
        ap length behind.grown ∙ length_push old.changes behind.change ∙ ap (λ n. n + 1) count,
      )

  pub first_fault : (texts : List (List ℕ)) (changes : List Change) (index : ℕ) (text : List ℕ) → AreTextsOf size (take index texts) changes → length changes ≡ index → slice_get texts index ≡ Some text
      → IsAtFault size changes text → IsFirstAtFault size texts (index + 1)
  first_fault texts changes index text read count here fault = record {
    before = changes;
    text = text;
    spelled = subst (λ (n : ℕ). AreTextsOf size (take n texts) changes) (sym count) read;
    here = subst (λ (n : ℕ). slice_get texts n ≡ Some text) (sym count) here;
    fault = fault;
    numbered = ap (λ n. n + 1) (sym count);
  }

  pub read_all : (texts : List (List ℕ)) (changes : List Change) (index : ℕ) → index ≡ length texts → AreTextsOf size (take index texts) changes → AreTextsOf size texts changes
  read_all texts changes index whole read = subst (λ (ts : List (List ℕ)). AreTextsOf size ts changes) (ap (λ n. take n texts) whole ∙ take-length texts) read

  -- the first text that isn't accepted is the first at fault
  pub not_read : {R : Type 0} (r : Result R OpenError) (P : R → Type 0) (texts : List (List ℕ)) (old : Chronicle) (index : ℕ) (text : List ℕ) (error : OpenError) → IsErrAnd r (λ e. e ≡ error)
      → old.size ≡ size → AreTextsOf size (take index texts) old.changes → length old.changes ≡ index → slice_get texts index ≡ Some text
      → IsFaultOf old.size old.changes text (index + 1) error → MatchResult r P (IsNotRead size texts)
  not_read (Ok x) P texts old index text error is same read count here why = absurd is
  not_read (Err e) P texts old index text LogFailed is same read count here why = absurd why
  not_read (Err e) P texts old index text (Damaged at) is same read count here why =
      let fault : IsAtFault size old.changes text = subst (λ (s : Size). IsAtFault s old.changes text) same why.1 in
      subst (λ (x : OpenError). IsNotRead size texts x) (sym is)
      (subst (λ (n : ℕ). IsFirstAtFault size texts n) (sym why.0) (first_fault texts old.changes index text read count here fault))
  not_read (Err e) P texts old index text OutOfMemory is same read count here why = subst (λ (x : OpenError). IsNotRead size texts x) (sym is) tt
