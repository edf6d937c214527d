-- How the texts of accepted changes go on, and where they stop.
use Rattle.std.proofs.Common.{◌≡◌, ◌≢◌, ◌⊎◌, ℕ, ◌≤◌, eqb, false, List, [], ◌∷◌, ◌++◌, length, sym, ap, subst, ◌∙◌, append_assoc, inl, inr, arith}
use Rattle.std.specs.List.{flat_map}
use Rattle.std.proofs.lemmas.List.{append-nil}
use Rattle.std.proofs.lemmas.List.Concat.{flat_map-append}
use Rattle.std.proofs.lemmas.List.Elements.{All-push}
use Rattle.change_ops.specs.Changes.{Change, IsChange}
use Rattle.change_ops.specs.declared.size.Size.{Size}
use Rattle.change_ops.specs.declared.size.Size.TheVariants.{Small, Large}
use Rattle.change_ops.specs.Sizes.{most_changes}
use Rattle.change_ops.specs.Spelling.{change_text, Spells}
use Rattle.change_ops.specs.Refusals.{IsRefused as BeginsWithNoChange}
use Rattle.change_ops.specs.declared.refusal.ChangeError.{ChangeError}
use Rattle.change_ops.specs.declared.refusal.ChangeError.TheVariants as reading
use Rattle.change_history.specs.Accepted.{IsRefused}
use Rattle.change_history.specs.declared.refusal.SubmitError.{SubmitError}
use Rattle.change_history.specs.declared.refusal.SubmitError.TheVariants.{OutOfMemory}
use Rattle.change_history.proofs.Chronicle.{accepted_more}
use Rattle.refusals.specs.declared.reason.Reason.TheVariants.{Unread, Unaccepted}
use Rattle.hub_commands.specs.declared.spans.Stop.{Stop}
use Rattle.hub_commands.specs.declared.spans.Stop.TheVariants as stop
use Rattle.hub_commands.specs.SpansReply.{Begins, next_number, unread, unaccepted}
use Rattle.hub_commands.specs.Reasons.{in_change}
use Rattle.hub_commands.specs.Stopping.{MatchStop, StopsAt, Takes}

pub begins_more : (size : Size) (input rest after : List ℕ) (changes more : List Change) → Begins size input changes rest → Takes size changes rest more after → Begins size input more after
begins_more size input rest after changes more front taken = subst (λ (all : List Change). Begins size input all after) (sym taken.more) (record {
  spelt =
      let change = taken.change in
      let before = flat_map change_text changes in
      let one : flat_map change_text (changes ++ change ∷ []) ≡ before ++ (change_text change ++ []) = flat_map-append change_text changes (change ∷ []) in
      let all : before ++ rest ≡ (before ++ change_text change) ++ after =
      ap (λ (left : List ℕ). before ++ left) taken.spells.1 ∙ sym (append_assoc before (change_text change) after) in
      let whole : flat_map change_text (changes ++ change ∷ []) ≡ before ++ change_text change = one ∙ ap (λ (text : List ℕ). before ++ text) (append-nil (change_text change)) in
      front.spelt ∙ all ∙ ap (λ (text : List ℕ). text ++ after) (sym whole);
  limited = All-push IsChange changes taken.change front.limited taken.spells.0;
  accepted = accepted_more {size = size} changes taken.change front.accepted taken.accepted;
})

-- ---- the end of the input
pub not_empty : (rest : List ℕ) → eqb (length rest) 0 ≡ false → rest ≢ []
not_empty [] e = absurd cc
not_empty (byte ∷ rest) e = λ same. cc

-- ---- where the changes stop
pub unread_there : (size : Size) (changes : List Change) (text : List ℕ) (number : ℕ) (error : ChangeError) (why : Stop) → number ≡ next_number changes
    → (error ≡ reading.OutOfMemory) ⊎ BeginsWithNoChange text error
    → MatchStop why (error ≡ reading.OutOfMemory) (λ reason. (error ≢ reading.OutOfMemory) × (reason ≡ in_change number (Unread error))) → StopsAt size changes text why
unread_there size changes text number error stop.Memory counted because given = tt
unread_there size changes text number error (stop.Refused reason) counted because given =
    elim because [
      | inl wanting ↦ absurd (given.0 wanting)
      | inr fault ↦ unread error fault (given.1 ∙ ap (λ (n : ℕ). in_change n (Unread error)) counted)
    ]

pub unaccepted_there : (size : Size) (changes : List Change) (text rest : List ℕ) (change : Change) (number : ℕ) (error : SubmitError) (why : Stop)
    → number ≡ next_number changes → Spells text change rest → IsRefused size changes change error
    → MatchStop why (error ≡ OutOfMemory) (λ reason. (error ≢ OutOfMemory) × (reason ≡ in_change number (Unaccepted error))) → StopsAt size changes text why
unaccepted_there size changes text rest change number error stop.Memory counted spells because given = tt
unaccepted_there size changes text rest change number error (stop.Refused reason) counted spells because given =
    unaccepted change rest error spells because given.0 (given.1 ∙ ap (λ (n : ℕ). in_change n (Unaccepted error)) counted)

-- ---- the number of the next change fits
pub number_fits : (size : Size) (count : ℕ) → count ≤ most_changes size → count ≤ 65536
number_fits Small count few = omega (arith, few)
number_fits Large count few = few
