-- Steps from what the calls of a command give to what the command answers.
use Rattle.std.proofs.Common.{◌≡◌, ℕ, ◌<◌, ◌≤◌, List, length, take, Option, Some, None, Result, Ok, Err, IfOk, inl, inr, refl, sym, ap, subst, ◌∙◌, arith}
use Rattle.std.specs.Prelude.{IfSome, IfErr}
use Rattle.std.specs.Result.{result_err}
use Rattle.std.specs.Str.{IsUtf8}
use Rattle.std.proofs.lemmas.List.{take_all, length-take}
use Rattle.std.proofs.lemmas.Bool.{cases_lt}
use Rattle.hex.specs.Hex.{decode_of}
use Rattle.hex.specs.declared.error.FromHexError.{FromHexError}
use Rattle.span_context.specs.declared.profile.Profile.{Profile}
use Rattle.span_context.specs.declared.context.Facts.{Facts}
use Rattle.bpf_words.specs.declared.refusal.WordError.{WordError}
use Rattle.bpf_words.specs.declared.refusal.WordError.TheVariants.{Empty, TooLong, LengthNotEight, Slot}
use Rattle.bpf_words.specs.Words.{IsProgram, IsRefused, program_of}
use Rattle.span_context.specs.Context.{SpanBytes, span_bytes, context_bytes}
use Rattle.semantics.specs.declared.Outcome.{Outcome}
use Rattle.semantics.specs.State.{State, start}
use Rattle.semantics.specs.Outcomes.{outcome_from}
use Rattle.semantics.specs.Step.{Program}
use Rattle.semantics.specs.Safe.{SafeIn}
use Rattle.verifier.specs.declared.refusal.VerifyError.{VerifyError}
use Rattle.verifier.specs.Structure.{IsStructured}
use Rattle.verifier.specs.Judged.{Rejects, IsJudged}
use Rattle.verifier.specs.Decides.{IsAllowed}
use Rattle.assembler.specs.declared.fault.AsmError.{AsmError}
use Rattle.assembler.specs.Text.{AsmText, AsmFault}
use Rattle.step_lines.specs.Steps.{steps_text}
use Rattle.hub_requests.specs.declared.SpanOptions.{SpanOptions}
use Rattle.hub_requests.specs.declared.Shown.{Shown}
use Rattle.hub_requests.specs.declared.Shown.TheVariants as shows
use Rattle.refusals.specs.declared.reason.Reason.TheVariants.{BadHex, Words, Source}
use Rattle.hub_commands.specs.Answers.{Answer, IsWritten, IsAnswered, done, behind}
use Rattle.hub_commands.specs.Digits.{AreDigits, StandFor}
use Rattle.hub_commands.specs.HexInput.{IsHexInput}
use Rattle.hub_commands.specs.declared.hex_input.HexInput.{HexInput}
use Rattle.hub_commands.specs.declared.hint.Hint.{Hint}
use Rattle.hub_commands.specs.Hexadecimal.{slot_lines, without_blanks}
use Rattle.hub_commands.specs.Hints.{digits_hint}
use Rattle.hub_commands.specs.Reasons.{refusal}
use Rattle.hub_commands.specs.Programs.{IsAsmReply, no_source, assembled, IsProgramReply, no_hex, no_program, program, facts_of, link_of, bytes_of, steps_of, run_steps_text, outcome_reply, IsSpanReply, no_text, ran, IsTracedReply, not_run, traced, IsShownReply}

-- what holds of an answer, by what it was said to be
pub mapped : {A E : Type 0} (P Q : A → Type 0) (result : Result A E) → IfOk result P → ((x : A) → P x → Q x) → IfOk result Q
mapped P Q (Ok x) h f = f x h
mapped P Q (Err e) h f = tt

-- a reply to what was read of a known input, and written, answers the input
pub answered : (IsReply : List ℕ → Answer → Type 0) (known old new : Option (List ℕ)) (input lent : List ℕ) (reply : Answer) (status : ℕ) → IfSome known (λ bytes. input ≡ bytes)
    → lent ≡ input → IsReply lent reply → IsWritten reply old new status → IsAnswered IsReply known old new status
answered IsReply None old new input lent reply status same lends is written = tt
answered IsReply (Some bytes) old new input lent reply status same lends is written = (reply, subst (λ (l : List ℕ). IsReply l reply) (lends ∙ same) is, written)

-- what holds of the bytes that a reader has left, where they are known
pub where_known : (known : Option (List ℕ)) (P : List ℕ → Type 0) → ((bytes : List ℕ) → known ≡ Some bytes → P bytes) → IfSome known P
where_known None P f = tt
where_known (Some bytes) P f = f bytes refl

pub asm_done : (input source bytes lent lines : List ℕ) (reply : Answer) → source ≡ input → IsUtf8 input → AsmText source bytes → lent ≡ bytes
    → lines ≡ slot_lines lent → reply ≡ done lines → IsAsmReply input reply
asm_done input source bytes lent lines reply same utf8 text is printed e =
    let P : List ℕ → Type 0 = λ s. AsmText s bytes in
    assembled bytes utf8 (subst P same text) (e ∙ ap done (printed ∙ ap slot_lines is))

pub asm_refused : {E : Type 0} (input source : List ℕ) (error : AsmError) (result : Result Answer E) → source ≡ input → IsUtf8 input
    → AsmFault source error → IfOk result (λ reply. reply ≡ refusal (Source error)) → IfOk result (IsAsmReply input)
asm_refused input source error (Ok reply) same utf8 fault e =
    let P : List ℕ → Type 0 = λ s. AsmFault s error in
    no_source error utf8 (subst P same fault) e
asm_refused input source error (Err e) same utf8 fault h = tt

module _ (Replies : List ℕ → Answer → Type 0) (digits lent : List ℕ) (same : lent ≡ digits) where
  pub hex_refused : (reply : Answer) → ((error : FromHexError) × (decode_of lent ≡ Err error)) → reply ≡ refusal BadHex → IsProgramReply Replies digits reply
  hex_refused reply found e =
      let P : List ℕ → Type 0 = λ d. decode_of d ≡ Err found.0 in
      no_hex found.0 (subst P same found.1) e

  pub words_refused : (bytes given : List ℕ) (error : WordError) (reply : Answer) → decode_of lent ≡ Ok bytes → given ≡ bytes → IsRefused given error
      → reply ≡ refusal (Words error) → IsProgramReply Replies digits reply
  words_refused bytes given error reply decoded is refused e =
      let P : List ℕ → Type 0 = λ d. decode_of d ≡ Ok bytes in
      let Q : List ℕ → Type 0 = λ b. IsRefused b error in
      no_program bytes error (subst P same decoded) (subst Q is refused) e

  pub program_answered : (bytes given : List ℕ) (reply : Answer) → decode_of lent ≡ Ok bytes → given ≡ bytes → IsProgram given → Replies given reply
      → IsProgramReply Replies digits reply
  program_answered bytes given reply decoded is right answered =
      let P : List ℕ → Type 0 = λ d. decode_of d ≡ Ok bytes in
      let Q : List ℕ → Type 0 = λ b. Replies b reply in
      program bytes (subst P same decoded) (subst IsProgram is right) (subst Q is answered)

too_many : (all : List ℕ) (error : WordError) → 32768 < length all → IsRefused (take 32769 all) error → IsRefused all error
too_many all Empty long refused = absurd (omega (arith, refused, length-take 32769 all))
too_many all TooLong long refused = long
too_many all LengthNotEight long refused = absurd (omega (arith, refused.1, length-take 32769 all))
too_many all (Slot slot fault) long refused = absurd (omega (arith, refused.whole.short, length-take 32769 all))

-- the same of the first bytes, which are enough to see that there are too many
refused_first : (all : List ℕ) (error : WordError) → IsRefused (take 32769 all) error → IsRefused all error
refused_first all error refused = elim (cases_lt 32768 (length all)) [
  | inl long ↦ too_many all error long refused
  | inr short ↦
      let P : List ℕ → Type 0 = λ bytes. IsRefused bytes error in
      subst P (take_all 32769 all (omega arith)) refused
]

pub first_refused : (Replies : List ℕ → Answer → Type 0) (digits bytes given : List ℕ) (error : WordError) (reply : Answer) → StandFor digits bytes → given ≡ bytes → IsRefused given error
    → reply ≡ refusal (Words error) → IsProgramReply Replies digits reply
first_refused Replies digits bytes given error reply stand is refused e =
    let P : List ℕ → Type 0 = λ b. IsRefused b error in
    no_program stand.0 error stand.1 (refused_first stand.0 error (subst P (is ∙ stand.2) refused)) e

pub first_answered : (Replies : List ℕ → Answer → Type 0) (digits bytes given : List ℕ) (reply : Answer) → StandFor digits bytes → given ≡ bytes → IsProgram given → Replies given reply
    → IsProgramReply Replies digits reply
first_answered Replies digits bytes given reply stand is right answered =
    let first : given ≡ take 32769 stand.0 = is ∙ stand.2 in
    let few : length stand.0 ≤ 32769 = omega (arith, right.whole.short, ap length first, length-take 32769 stand.0) in
    let whole : given ≡ stand.0 = first ∙ take_all 32769 stand.0 few in
    let Q : List ℕ → Type 0 = λ b. Replies b reply in
    program stand.0 stand.1 (subst IsProgram whole right) (subst Q whole answered)

-- what the verifier's answer says of a program
pub judged : (profile : Profile) (code : Program) (given : Result Program VerifyError) (left : Option VerifyError) → left ≡ result_err given → IfOk given (λ same. same ≡ code)
    → IfOk given (SafeIn profile) → IfOk given (λ _. IsStructured code) → IfErr given (Rejects profile code) → IfOk given (λ _. IsAllowed profile code) → IsJudged profile code left
judged profile code (Ok same) left e is seen structured rejects allowed = subst (IsJudged profile code) (sym e) (structured, subst (SafeIn profile) is seen, allowed)
judged profile code (Err error) left e is seen structured rejects allowed = subst (IsJudged profile code) (sym e) rejects

-- what is told of a run on what was made of the options and the text
run_as_defined : {T : Type 0} (tell : Program → SpanBytes → ℕ → State → T) (options : SpanOptions) (bytes input text lent link context : List ℕ) (facts : Facts) (limit : ℕ) (given : T) → text ≡ input → facts ≡ facts_of options text
    → context ≡ context_bytes facts → lent ≡ text → link ≡ link_of options → limit ≡ steps_of options.limit (program_of bytes) → given ≡ tell (program_of bytes) (span_bytes context lent link) limit start
    → given ≡ tell (program_of bytes) (bytes_of options input) (steps_of options.limit (program_of bytes)) start
run_as_defined {T} tell options bytes input text lent link context facts limit given same told made lends linked most is =
    let by_context = ap (λ (c : List ℕ). tell (program_of bytes) (span_bytes c lent link) limit start) (made ∙ ap context_bytes told) in
    let by_text = ap (λ (t : List ℕ). tell (program_of bytes) (span_bytes (context_bytes (facts_of options text)) t link) limit start) lends in
    let by_link = ap (λ (l : List ℕ). tell (program_of bytes) (span_bytes (context_bytes (facts_of options text)) text l) limit start) linked in
    let by_input = ap (λ (t : List ℕ). tell (program_of bytes) (bytes_of options t) limit start) same in
    let by_limit = ap (λ (n : ℕ). tell (program_of bytes) (bytes_of options input) n start) most in
    is ∙ by_context ∙ by_text ∙ by_link ∙ by_input ∙ by_limit

pub span_ran : {E : Type 0} (options : SpanOptions) (bytes input text lent link context : List ℕ) (facts : Facts) (limit : ℕ) (given : Outcome) (result : Result Answer E)
    → text ≡ input → IsUtf8 input → length text ≤ 131072 → facts ≡ facts_of options text → context ≡ context_bytes facts → lent ≡ text → link ≡ link_of options
    → limit ≡ steps_of options.limit (program_of bytes) → given ≡ outcome_from (program_of bytes) (span_bytes context lent link) limit start → IfOk result (λ reply. reply ≡ outcome_reply given) → IfOk result (IsSpanReply options input bytes)
span_ran options bytes input text lent link context facts limit given (Ok reply) same utf8 short told made lends linked most is e =
    let few : length input ≤ 131072 = omega (arith, ap length same) in
    ran (record { characters = utf8; short = few }) (e ∙ ap outcome_reply (run_as_defined outcome_from options bytes input text lent link context facts limit given same told made lends linked most is))
span_ran options bytes input text lent link context facts limit given (Err e) same utf8 short told made lends linked most is h = tt

pub span_traced : {E : Type 0} (options : SpanOptions) (bytes input text lent link context : List ℕ) (facts : Facts) (limit : ℕ) (given : Outcome) (steps : List ℕ) (result : Result Answer E)
    → text ≡ input → IsUtf8 input → length text ≤ 131072 → facts ≡ facts_of options text → context ≡ context_bytes facts → lent ≡ text → link ≡ link_of options
    → limit ≡ steps_of options.limit (program_of bytes) → given ≡ outcome_from (program_of bytes) (span_bytes context lent link) limit start
    → steps ≡ steps_text (program_of bytes) (span_bytes context lent link) limit start
    → IfOk result (λ reply. reply ≡ behind steps (outcome_reply given)) → IfOk result (IsTracedReply options input bytes)
span_traced options bytes input text lent link context facts limit given steps (Ok reply) same utf8 short told made lends linked most is printed e =
    let few : length input ≤ 131072 = omega (arith, ap length same) in
    let ended = run_as_defined outcome_from options bytes input text lent link context facts limit given same told made lends linked most is in
    let shown = run_as_defined steps_text options bytes input text lent link context facts limit steps same told made lends linked most printed in
    traced (record { characters = utf8; short = few })
    (e ∙ ap (λ (s : List ℕ). behind s (outcome_reply given)) shown ∙ ap (λ (o : Outcome). behind (run_steps_text options input bytes) (outcome_reply o)) ended)
span_traced options bytes input text lent link context facts limit given steps (Err e) same utf8 short told made lends linked most is printed h = tt

too_long : (options : SpanOptions) (text bytes : List ℕ) (reply : Answer) → 131072 < length text → IsSpanReply options (take 131073 text) bytes reply → IsSpanReply options text bytes reply
too_long options text bytes reply long (no_text wrong e) = no_text (λ right. absurd (omega (arith, right.short))) e
too_long options text bytes reply long (ran right e) = absurd (omega (arith, right.short, length-take 131073 text))

-- a byte past the limit is enough to see that a text is too long
past_limit : (options : SpanOptions) (text bytes : List ℕ) (reply : Answer) → IsSpanReply options (take 131073 text) bytes reply → IsSpanReply options text bytes reply
past_limit options text bytes reply given =
    elim (cases_lt 131072 (length text)) [
      | inl long ↦ too_long options text bytes reply long given
      | inr short ↦
          let P : List ℕ → Type 0 = λ t. IsSpanReply options t bytes reply in
          let whole : take 131073 text ≡ text = take_all 131073 text (omega arith) in
          subst P whole given
    ]

too_long_traced : (options : SpanOptions) (text bytes : List ℕ) (reply : Answer) → 131072 < length text → IsTracedReply options (take 131073 text) bytes reply → IsTracedReply options text bytes reply
too_long_traced options text bytes reply long (not_run wrong e) = not_run (λ right. absurd (omega (arith, right.short))) e
too_long_traced options text bytes reply long (traced right e) = absurd (omega (arith, right.short, length-take 131073 text))

past_limit_traced : (options : SpanOptions) (text bytes : List ℕ) (reply : Answer) → IsTracedReply options (take 131073 text) bytes reply → IsTracedReply options text bytes reply
past_limit_traced options text bytes reply given =
    elim (cases_lt 131072 (length text)) [
      | inl long ↦ too_long_traced options text bytes reply long given
      | inr short ↦
          let P : List ℕ → Type 0 = λ t. IsTracedReply options t bytes reply in
          let whole : take 131073 text ≡ text = take_all 131073 text (omega arith) in
          subst P whole given
    ]

pub past_limit_shown : (shown : Shown) (options : SpanOptions) (text bytes : List ℕ) (reply : Answer) → IsShownReply shown options (take 131073 text) bytes reply → IsShownReply shown options text bytes reply
past_limit_shown shows.Outcome options text bytes reply given = past_limit options text bytes reply given
past_limit_shown shows.Steps options text bytes reply given = past_limit_traced options text bytes reply given

-- ---- an input of hexadecimal digits
pub hex_answered : (IsReply : List ℕ → Answer → Type 0) (known old new : Option (List ℕ)) (kept : HexInput) (reply : Answer) (status : ℕ) → IfSome known (λ input. IsHexInput input kept)
    → ((input : List ℕ) → AreDigits (without_blanks input) kept.digits → IsReply input reply) → IsWritten reply old new status → IsAnswered IsReply known old new status
hex_answered IsReply None old new kept reply status read is written = tt
hex_answered IsReply (Some input) old new kept reply status read is written = (reply, is input read.digits, written)

pub hex_hinted : (known : Option (List ℕ)) (kept : HexInput) (hint : Option Hint) → IfSome known (λ input. IsHexInput input kept) → ((input : List ℕ) → IsHexInput input kept → hint ≡ digits_hint input)
    → IfSome known (λ input. hint ≡ digits_hint input)
hex_hinted None kept hint read is = tt
hex_hinted (Some input) kept hint read is = is input read
