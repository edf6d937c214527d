-- What may be told of texts, once what was accepted of them is kept.
use Rattle.std.proofs.Common.{◌≡◌, ℕ, ◌+◌, List, [], ◌∷◌, ◌++◌, Option, Some, Result, Ok, Err, length, map, take, refl, sym, ap, subst, ◌∙◌, append_assoc, append-nil, arith}
use Rattle.std.specs.Prelude.{slice_get, suc, IfOk, IfErr}
use Rattle.std.proofs.lemmas.List.{map-append, length_push}
use Rattle.change_ops.specs.Changes.{Change}
use Rattle.change_ops.specs.declared.size.Size.{Size}
use Rattle.change_ops.specs.Spelling.{change_text}
use Rattle.change_history.specs.Accepted.{IsRefused}
use Rattle.change_history.specs.declared.refusal.SubmitError.{SubmitError}
use Rattle.change_history.specs.declared.refusal.SubmitError.TheVariants.{HistoryFull, Refused, OutOfMemory}
use Rattle.stored_history.specs.Texts.{IsTextOf}
use Rattle.stored_history.specs.declared.answer.Accepted.{Accepted}
use Rattle.stored_history.specs.Answers.{IsAnswered, AreAnswered}
use Rattle.change_keeping.specs.Kept.{Kept, AreStored, IsStored, IsTurnedDown, IsUnkept, IsToldOf, IsErrorOf}
use Rattle.change_keeping.specs.declared.keeper.KeepError.{KeepError}
use Rattle.change_keeping.specs.Groups.{AreSpelled, AreTold, told_of, outcome_of}

-- what answers leave begins with what was there before
one_grown : (size : Size) (old : List Change) (change : Change) (answer : Result Accepted SubmitError) (new : List Change) → IsAnswered size old change answer new → (rest : List Change) × (new ≡ old ++ rest)
one_grown size old change (Ok accepted) new is = (change ∷ [], is.1)
one_grown size old change (Err error) new is = ([], is.1 ∙ sym (append-nil old))

grown : (size : Size) (old changes : List Change) (answers : List (Result Accepted SubmitError)) (new : List Change) → AreAnswered size old changes answers new → (rest : List Change) × (new ≡ old ++ rest)
grown size old [] [] new are = ([], are ∙ sym (append-nil old))
grown size old [] (answer ∷ answers) new are = absurd are
grown size old (change ∷ changes) [] new are = absurd are
grown size old (change ∷ changes) (answer ∷ answers) new are =
    let first = one_grown size old change answer are.0 are.1 in
    let more = grown size are.0 changes answers new are.2 in
    (first.0 ++ more.0, more.1 ∙ ap (λ l. l ++ more.0) first.1 ∙ append_assoc old first.0 more.0)

take_front : {X : Type 0} (front rest : List X) → take (length front) (front ++ rest) ≡ front
take_front [] rest = refl
take_front (x ∷ front) rest = ap (λ l. x ∷ l) (take_front front rest)

get_behind : {X : Type 0} (front : List X) (x : X) (rest : List X) → slice_get (front ++ x ∷ rest) (length front) ≡ Some x
get_behind [] x rest = refl
get_behind (y ∷ front) x rest = get_behind front x rest

length_map : (changes : List Change) → length (map change_text changes) ≡ length changes
length_map [] = refl
length_map (change ∷ changes) = ap suc (length_map changes)

-- the text of a change behind others
text_behind : (front : List Change) (change : Change) (rest all : List Change) → all ≡ (front ++ change ∷ []) ++ rest → slice_get (map change_text all) (length front) ≡ Some (change_text change)
text_behind front change rest all is =
    let whole : all ≡ front ++ change ∷ rest = is ∙ append_assoc front (change ∷ []) rest in
    let texts : map change_text all ≡ map change_text front ++ change_text change ∷ map change_text rest = ap (map change_text) whole ∙ map-append change_text front (change ∷ rest) in
    ap (λ l. slice_get l (length front)) texts
    ∙ subst (λ n. slice_get (map change_text front ++ change_text change ∷ map change_text rest) n ≡ Some (change_text change)) (length_map front) (get_behind (map change_text front) (change_text change) (map change_text rest))

unkept : (kept : Kept) (text : List ℕ) (error : SubmitError) → IsTurnedDown kept text error → IsUnkept kept text error
unkept kept text HistoryFull down = down
unkept kept text (Refused index refusal) down = down
unkept kept text OutOfMemory down = tt

told_one : (kept : Kept) (old : List Change) (change : Change) (answer : Result Accepted SubmitError) (mid all : List Change) (rest : List Change) (text : List ℕ) → AreStored kept all → IsAnswered kept.size old change answer mid → all ≡ mid ++ rest
    → IsTextOf text change → IsToldOf kept text (told_of answer)
told_one kept old change (Ok accepted) mid all rest text stored is whole spelled = record {
  changes = all;
  stored = stored;
  index = length old;
  numbered = is.2 ∙ ap length is.1 ∙ length_push old change;
  here = subst (λ t. slice_get (map change_text all) (length old) ≡ Some t) (sym spelled.1) (text_behind old change rest all (whole ∙ ap (λ l. l ++ rest) is.1));
}
told_one kept old change (Err error) mid all rest text stored is whole spelled =
    unkept kept text error
    (record {
      changes = all;
      stored = stored;
      count = length old;
      change = change;
      spelled = spelled;
      refused = subst (λ (l : List Change). IsRefused kept.size l change error) (sym (ap (take (length old)) (whole ∙ ap (λ l. l ++ rest) is.1) ∙ take_front old rest)) is.0;
    })

-- each of these texts may be told its answer
pub told_all : (kept : Kept) (old changes : List Change) (answers : List (Result Accepted SubmitError)) (new : List Change) (texts : List (List ℕ)) → AreStored kept new → AreAnswered kept.size old changes answers new → AreSpelled texts changes
    → AreTold kept texts answers
told_all kept old [] [] new [] stored are spelled = tt
told_all kept old [] [] new (text ∷ texts) stored are spelled = absurd spelled
told_all kept old [] (answer ∷ answers) new texts stored are spelled = absurd are
told_all kept old (change ∷ changes) [] new texts stored are spelled = absurd are
told_all kept old (change ∷ changes) (answer ∷ answers) new [] stored are spelled = absurd spelled
told_all kept old (change ∷ changes) (answer ∷ answers) new (text ∷ texts) stored are spelled =
    let more = grown kept.size are.0 changes answers new are.2 in
    (told_one kept old change answer are.0 new more.0 text stored are.1 more.1 spelled.0, told_all kept are.0 changes answers new texts stored are.2 spelled.1)

-- the only text is told the only answer
pub told_last : (kept : Kept) (text : List ℕ) (before : List (Result Accepted SubmitError)) (answer : Result Accepted SubmitError) → AreTold kept (text ∷ []) (before ++ answer ∷ []) → IsToldOf kept text (told_of answer)
told_last kept text [] answer told = told.0
told_last kept text (first ∷ []) answer told = absurd told.1
told_last kept text (first ∷ second ∷ before) answer told = absurd told.1

-- one text more, of one change more
pub spelled_more : (texts : List (List ℕ)) (changes : List Change) (text : List ℕ) (change : Change) → AreSpelled texts changes → IsTextOf text change → AreSpelled (texts ++ text ∷ []) (changes ++ change ∷ [])
spelled_more [] [] text change are is = (is, tt)
spelled_more [] (c ∷ changes) text change are is = absurd are
spelled_more (t ∷ texts) [] text change are is = absurd are
spelled_more (t ∷ texts) (c ∷ changes) text change are is = (are.0, spelled_more texts changes text change are.1 is)

pub none_spelled : (texts : List (List ℕ)) (changes : List Change) → texts ≡ [] → changes ≡ [] → AreSpelled texts changes
none_spelled texts changes no_text no_change = subst (λ (ts : List (List ℕ)). AreSpelled ts changes) (sym no_text) (subst (λ (cs : List Change). AreSpelled [] cs) (sym no_change) tt)

-- what a session with a store of its own is told
pub told_alone : (kept : Kept) (text : List ℕ) (answer : Result Accepted SubmitError) (r : Result ℕ KeepError) → IsToldOf kept text (told_of answer) → r ≡ outcome_of answer
    → IfOk r (λ number. IsStored kept number text) × IfErr r (IsErrorOf kept text)
told_alone kept text (Ok accepted) r told is = subst (λ (o : Result ℕ KeepError). IfOk o (λ number. IsStored kept number text) × IfErr o (IsErrorOf kept text)) (sym is) (told, tt)
told_alone kept text (Err error) r told is = subst (λ (o : Result ℕ KeepError). IfOk o (λ number. IsStored kept number text) × IfErr o (IsErrorOf kept text)) (sym is) (tt, told)

-- a change alone, by its own text
pub told_change : (kept : Kept) (old : List Change) (change : Change) (changes : List Change) (answers before : List (Result Accepted SubmitError)) (answer : Result Accepted SubmitError) (new : List Change) → AreStored kept new
    → AreAnswered kept.size old changes answers new → changes ≡ change ∷ [] → answers ≡ before ++ answer ∷ [] → IsTextOf (change_text change) change → IsToldOf kept (change_text change) (told_of answer)
told_change kept old change changes answers before answer new stored are alone last spelled =
    told_last kept (change_text change) before answer
    (told_all kept old (change ∷ []) (before ++ answer ∷ []) new (change_text change ∷ []) stored
    (subst (λ (cs : List Change). AreAnswered kept.size old cs (before ++ answer ∷ []) new) alone (subst (λ (told : List (Result Accepted SubmitError)). AreAnswered kept.size old changes told new) last are)) (spelled, tt))

-- the same, as it is left by the calls that add the two
pub spelled_next : (texts texts' : List (List ℕ)) (changes changes' : List Change) (text lent : List ℕ) (change : Change) → AreSpelled texts changes → texts' ≡ texts ++ text ∷ [] → changes' ≡ changes ++ change ∷ []
    → lent ≡ text → IsTextOf lent change → AreSpelled texts' changes'
spelled_next texts texts' changes changes' text lent change are more_texts more_changes same is =
    subst (λ (ts : List (List ℕ)). AreSpelled ts changes') (sym more_texts)
    (subst (λ (cs : List Change). AreSpelled (texts ++ text ∷ []) cs) (sym more_changes)
    (spelled_more texts changes text change are (subst (λ (t : List ℕ). IsTextOf t change) same is)))
