-- What is kept of an input whose changes are joined goes on from piece to piece, and what is answered to it.
use Rattle.std.proofs.Common.{◌≡◌, ◌≢◌, ℕ, ◌<◌, List, [], ◌∷◌, ◌++◌, length, Option, Some, None, sym, ap, subst, ◌∙◌, append_assoc, length-append, arith}
use Rattle.std.specs.Prelude.{Result, Ok, Err, All, IfSome, OnOk}
use Rattle.std.specs.List.{flat_map}
use Rattle.std.specs.Str.{IsUtf8}
use Rattle.std.proofs.lemmas.List.{append-nil}
use Rattle.std.proofs.lemmas.List.Elements.{All-head, All-tail}
use Rattle.change_ops.specs.Changes.{Change, IsChange}
use Rattle.change_ops.specs.declared.size.Size.{Size}
use Rattle.change_ops.specs.Spelling.{header_text, lines_text, change_text, Spells}
use Rattle.change_join.specs.Joined.{joined}
use Rattle.hub_commands.specs.Answers.{Answer, IsWritten, IsAnswered, done}
use Rattle.hub_commands.specs.Hints.{text_hint}
use Rattle.hub_commands.specs.declared.hint.Hint.{Hint}
use Rattle.hub_commands.specs.declared.changes_input.Fault.{Fault}
use Rattle.hub_commands.specs.declared.changes_input.Fault.TheVariants.{NotText, Change as BadChange}
use Rattle.hub_commands.specs.declared.join.KeptInput.{KeptInput}
use Rattle.hub_commands.specs.ChangesInput.{Concludes, IsChangesInput, IsWholeInput, fault_reply}
use Rattle.hub_commands.specs.KeptInput.{IsKept, IsKeptWhole}
use Rattle.hub_commands.specs.JoinReply.{IsJoinReply, no_text, joined_all, stopped}
use Rattle.hub_commands.specs.SpansReply.{Begins, Stops}

-- ---- the changes of a text, read one by one
-- these were read, and the rest is the texts of the others
pub record Left (all read : List Change) (rest : List ℕ) : Type 0 where
  pub others : List Change
  pub whole : all ≡ read ++ others
  pub spelt : rest ≡ flat_map change_text others
  pub limited : All IsChange others

pub left_begun : (all read : List Change) (text : List ℕ) → read ≡ [] → All IsChange all → text ≡ flat_map change_text all → Left all read text
left_begun all read text none limited spelt = record { others = all; whole = ap (λ (l : List Change). l ++ all) (sym none); spelt = spelt; limited = limited }

pub left_more : (all read : List Change) (change : Change) (rest behind : List ℕ) → rest ≢ []
    → ((one : Change) (after : List ℕ) → Spells rest one after → (change ≡ one) × (behind ≡ after)) → Left all read rest → Left all (read ++ change ∷ []) behind
left_more all read change rest behind some found left = go left.others left.whole left.spelt left.limited where
  go : (others : List Change) → all ≡ read ++ others → rest ≡ flat_map change_text others → All IsChange others → Left all (read ++ change ∷ []) behind
  go [] whole spelt limited = absurd (some spelt)
  go (one ∷ others) whole spelt limited =
      let same = found one (flat_map change_text others) (All-head IsChange one others limited, spelt) in
      record {
        others = others;
        whole = whole ∙ ap (λ (c : Change). read ++ c ∷ others) (sym same.0) ∙ sym (append_assoc read (change ∷ []) others);
        spelt = same.1;
        limited = All-tail IsChange one others limited;
      }

some_text : (change : Change) (rest : List ℕ) → 0 < length (change_text change ++ rest)
unfolding change_text
some_text change rest =
    let text = header_text change ++ 10 ∷ lines_text change.lines in
    omega (arith, length-append text rest, length-append (header_text change) (10 ∷ lines_text change.lines))

pub left_done : (all read : List Change) (rest : List ℕ) → rest ≡ [] → Left all read rest → read ≡ all
left_done all read rest none left = go left.others left.whole left.spelt where
  go : (others : List Change) → all ≡ read ++ others → rest ≡ flat_map change_text others → read ≡ all
  go [] whole spelt = sym (whole ∙ append-nil read)
  go (one ∷ others) whole spelt =
      let empty : length (change_text one ++ flat_map change_text others) ≡ 0 = ap length (sym spelt ∙ none) in
      absurd (omega (arith, empty, some_text one (flat_map change_text others)))

-- ---- from piece to piece
pub kept_more : {E : Type 0} (result : Result (Unit {0}) E) (old new : KeptInput) (piece : List ℕ) → new.bytes.items ≡ old.bytes.items ++ piece
    → OnOk result ((size : Size) (input : List ℕ) → IsChangesInput size input old.changes → IsChangesInput size (input ++ piece) new.changes)
    → OnOk result ((size : Size) (input : List ℕ) → IsKept size input old → IsKept size (input ++ piece) new)
kept_more (Ok done_) old new piece more h = λ size input kept. record { read = h size input kept.read; bytes = more ∙ ap (λ (l : List ℕ). l ++ piece) kept.bytes }
kept_more (Err e) old new piece more h = tt

pub kept_read : (size : Size) (known : Option (List ℕ)) (kept new : KeptInput) → new.bytes.items ≡ kept.bytes.items → IfSome known (λ input. IsKept size input kept)
    → ((size : Size) (input : List ℕ) → IsChangesInput size input kept.changes → IsWholeInput size input new.changes) → IfSome known (λ input. IsKeptWhole size input new)
kept_read size None kept new same read is = tt
kept_read size (Some input) kept new same read is = record { read = is size input read.read; bytes = same ∙ read.bytes }

-- ---- what is answered
pub replied_joined : (bytes text made : List ℕ) (read : List Change) (reply : Answer) → text ≡ bytes → ((changes : List Change) → All IsChange changes → text ≡ flat_map change_text changes → read ≡ changes)
    → made ≡ flat_map change_text (joined read) → reply ≡ done made → (size : Size) (changes : List Change) → Begins size bytes changes [] → IsJoinReply size bytes reply
replied_joined bytes text made read reply same all made_is reply_is size changes begins =
    let spelt : text ≡ flat_map change_text changes = same ∙ begins.spelt ∙ append-nil (flat_map change_text changes) in
    let read_is : read ≡ changes = all changes begins.limited spelt in
    joined_all changes begins (reply_is ∙ ap done (made_is ∙ ap (λ (l : List Change). flat_map change_text (joined l)) read_is))

pub replied_fault : (size : Size) (input : List ℕ) (changes : List Change) (known : Option Fault) (fault : Fault) (reply : Answer) → known ≡ Some fault → reply ≡ fault_reply fault → Concludes size input changes known
    → IsJoinReply size input reply
replied_fault size input changes known NotText reply is e h =
    let P : Option Fault → Type 0 = λ f. Concludes size input changes f in
    no_text (subst P is h) e
replied_fault size input changes known (BadChange reason) reply is e h =
    let P : Option Fault → Type 0 = λ f. Concludes size input changes f in
    let found : IsUtf8 input × Stops size input reason = subst P is h in
    stopped reason found.0 found.1 e

pub replied_none : (size : Size) (input bytes : List ℕ) (changes : List Change) (known : Option Fault) (reply : Answer) → known ≡ None → bytes ≡ input
    → ((size : Size) (all : List Change) → Begins size bytes all [] → IsJoinReply size bytes reply) → Concludes size input changes known → IsJoinReply size input reply
replied_none size input bytes changes known reply is same all h =
    let P : Option Fault → Type 0 = λ f. Concludes size input changes f in
    let begins : Begins size input changes [] = subst P is h in
    let Q : List ℕ → Type 0 = λ l. Begins size l changes [] in
    subst (λ (l : List ℕ). IsJoinReply size l reply) same (all size changes (subst Q (sym same) begins))

pub kept_answered : (size : Size) (known old new : Option (List ℕ)) (kept : KeptInput) (reply : Answer) (status : ℕ) → IfSome known (λ input. IsKeptWhole size input kept)
    → ((size : Size) (input : List ℕ) → IsKeptWhole size input kept → IsJoinReply size input reply) → IsWritten reply old new status → IsAnswered (IsJoinReply size) known old new status
kept_answered size None old new kept reply status read is written = tt
kept_answered size (Some input) old new kept reply status read is written = (reply, is size input read, written)

pub kept_hinted : (size : Size) (known : Option (List ℕ)) (kept : KeptInput) (hint : Option Hint) → IfSome known (λ input. IsKeptWhole size input kept)
    → ((size : Size) (input : List ℕ) → IsWholeInput size input kept.changes → hint ≡ text_hint input) → IfSome known (λ input. hint ≡ text_hint input)
kept_hinted size None kept hint read is = tt
kept_hinted size (Some input) kept hint read is = is size input read.read
