-- The answers to changes, one after another.
use Rattle.std.proofs.Common.{◌≡◌, ℕ, List, length, map, arith, [], ◌∷◌, ◌++◌, Result, Ok, Err, IsErrAnd, refl, sym, ap, ◌∙◌, subst, append_assoc}
use Rattle.std.proofs.lemmas.List.{map-append, append-nil, append_cancel_left}
use Rattle.change_ops.specs.Changes.{Change}
use Rattle.change_ops.specs.declared.size.Size.{Size}
use Rattle.change_ops.specs.Spelling.{change_text}
use Rattle.change_history.specs.Accepted.{IsRefused}
use Rattle.change_history.specs.declared.refusal.SubmitError.{SubmitError}
use Rattle.stored_history.specs.declared.answer.Accepted.{Accepted}
use Rattle.stored_history.specs.Answers.{IsAnswered, AreAnswered}
use Rattle.stored_history.specs.Texts.{IsTextOf}

pub none_answered : (size : Size) (old : List Change) (answers : List (Result Accepted SubmitError)) → answers ≡ [] → AreAnswered size old [] answers old
none_answered size old answers none = subst (λ (told : List (Result Accepted SubmitError)). AreAnswered size old [] told old) (sym none) refl

-- a change behind the others, with its answer
pub more_answered : (size : Size) (old mid new changes : List Change) (answers : List (Result Accepted SubmitError)) (change : Change) (answer : Result Accepted SubmitError) → AreAnswered size old changes answers mid → IsAnswered size mid change answer new
    → AreAnswered size old (changes ++ change ∷ []) (answers ++ answer ∷ []) new
more_answered size old mid new [] [] change answer all one = (new, subst (λ (cs : List Change). IsAnswered size cs change answer new) all one, refl)
more_answered size old mid new [] (other ∷ answers) change answer all one = absurd all
more_answered size old mid new (other ∷ changes) [] change answer all one = absurd all
more_answered size old mid new (first ∷ changes) (told ∷ answers) change answer all one =
    (all.0, all.1, more_answered size all.0 mid new changes answers change answer all.2 one)

pub nothing_left : {X : Type 0} (l : List X) → length l ≡ 0 → l ≡ []
nothing_left [] none = refl
nothing_left (x ∷ xs) none = absurd (omega arith)

pub refused_answered : (size : Size) (r : Result Accepted SubmitError) (old new : List Change) (change : Change) (error : SubmitError) → IsErrAnd r (λ e. e ≡ error) → IsRefused size old change error → new ≡ old → IsAnswered size old change r new
refused_answered size (Ok accepted) old new change error is why same = absurd is
refused_answered size (Err e) old new change error is why same = (subst (λ (x : SubmitError). IsRefused size old change x) (sym is) why, same)

-- the text of an accepted change behind those before it
pub texts_grow : (before olds news : List (List ℕ)) (text : List ℕ) (old new : List Change) (change : Change) → before ++ olds ≡ map change_text old → news ≡ olds ++ text ∷ [] → IsTextOf text change → new ≡ old ++ change ∷ []
    → before ++ news ≡ map change_text new
texts_grow before olds news text old new change all is spelled grown =
    ap (λ ts. before ++ ts) is
    ∙ sym (append_assoc before olds (text ∷ []))
    ∙ ap (λ ts. ts ++ text ∷ []) all
    ∙ ap (λ t. map change_text old ++ t ∷ []) spelled.1
    ∙ sym (map-append change_text old (change ∷ []))
    ∙ ap (λ cs. map change_text cs) (sym grown)

-- no text stands behind those of the same changes
pub nothing_added : (old new : List Change) (texts : List (List ℕ)) → map change_text old ++ texts ≡ map change_text new → new ≡ old → texts ≡ []
nothing_added old new texts all same =
    append_cancel_left (map change_text old) texts [] (all ∙ ap (λ cs. map change_text cs) same ∙ sym (append-nil (map change_text old)))
