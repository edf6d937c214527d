-- What the commands on programs answer: `asm`, `check`, `dis` and `run`.
use Rattle.std.specs.Prelude.{◌≡◌, ℕ, ◌≤◌, List, [], ◌++◌, length, codes, unwrap_or, Ok, Err}
use Rattle.std.specs.Fmt.{decimal}
use Rattle.std.specs.Str.{IsUtf8, chars}
use Rattle.hex.specs.Hex.{decode_of}
use Rattle.hex.specs.declared.error.FromHexError.{FromHexError}
use Rattle.span_context.specs.declared.profile.Profile.{Profile}
use Rattle.span_context.specs.declared.context.Facts.{Facts}
use Rattle.bpf_words.specs.declared.refusal.WordError.{WordError}
use Rattle.bpf_words.specs.Words.{IsProgram, IsRefused, program_of}
use Rattle.span_context.specs.Context.{SpanBytes, span_bytes, context_bytes}
use Rattle.semantics.specs.declared.FaultKind.{FaultKind}
use Rattle.semantics.specs.declared.FaultKind.TheVariants.{UnsetRegister, BadAddress, ReadOnly, UnsetStack}
use Rattle.semantics.specs.declared.FaultKind.TheVariants.{BadInstruction, OutOfCode, WriteR10}
use Rattle.semantics.specs.declared.Outcome.{Outcome}
use Rattle.semantics.specs.declared.Outcome.TheVariants.{Done, Fault, OutOfSteps}
use Rattle.semantics.specs.State.{start}
use Rattle.semantics.specs.Step.{Program}
use Rattle.semantics.specs.Outcomes.{outcome_from}
use Rattle.semantics.specs.Safe.{SafeIn}
use Rattle.verifier.specs.declared.refusal.VerifyError.{VerifyError}
use Rattle.verifier.specs.Structure.{IsStructured}
use Rattle.verifier.specs.Judged.{Rejects}
use Rattle.verifier.specs.Decides.{IsAllowed}
use Rattle.assembler.specs.declared.fault.AsmError.{AsmError}
use Rattle.assembler.specs.Text.{AsmText, AsmFault}
use Rattle.disassembler.specs.Canonical.{canonical}
use Rattle.step_lines.specs.Steps.{steps_text}
use Rattle.filters.specs.Filters.{longest_run}
use Rattle.filters.specs.declared.refusal.FilterError.TheVariants.{Program as OfProgram}
use Rattle.hub_requests.specs.declared.RunLimit.{RunLimit}
use Rattle.hub_requests.specs.declared.RunLimit.TheVariants.{Slots, Longest}
use Rattle.hub_requests.specs.declared.SpanOptions.{SpanOptions}
use Rattle.hub_requests.specs.declared.Shown.{Shown}
use Rattle.hub_requests.specs.declared.Shown.TheVariants as shows
use Rattle.refusals.specs.declared.reason.Reason.TheVariants.{TextRefused, BadHex, Words, Unverified, Source}
use Rattle.hub_commands.specs.Answers.{Answer, line, done, failed, behind}
use Rattle.hub_commands.specs.Hexadecimal.{without_blanks, slot_lines}
use Rattle.hub_commands.specs.Reasons.{refusal}

-- `asm`: of a source that is UTF-8, the slots that it is text of, or the first line at fault
pub data IsAsmReply (source : List ℕ) (reply : Answer) : Type 0 where
  no_text : ¬ (IsUtf8 source) → reply ≡ refusal TextRefused → IsAsmReply source reply
  no_source : (error : AsmError) → IsUtf8 source → AsmFault source error → reply ≡ refusal (Source error)
      → IsAsmReply source reply
  assembled : (bytes : List ℕ) → IsUtf8 source → AsmText source bytes → reply ≡ done (slot_lines bytes)
      → IsAsmReply source reply

-- of digits that are a program's bytes, what is answered to the program; else the first reason why they aren't
pub data IsProgramReply (Replies : List ℕ → Answer → Type 0) (digits : List ℕ) (reply : Answer) : Type 0 where
  no_hex : (error : FromHexError) → decode_of digits ≡ Err error → reply ≡ refusal BadHex
      → IsProgramReply Replies digits reply
  no_program : (bytes : List ℕ) (error : WordError) → decode_of digits ≡ Ok bytes → IsRefused bytes error
      → reply ≡ refusal (Words error)
      → IsProgramReply Replies digits reply
  program : (bytes : List ℕ) → decode_of digits ≡ Ok bytes → IsProgram bytes → Replies bytes reply
      → IsProgramReply Replies digits reply

-- `dis`: a program's canonical text
unfoldable pub IsDisReply : List ℕ → Answer → Type 0
IsDisReply input reply =
    IsProgramReply (λ bytes given. given ≡ done (canonical (program_of bytes))) (without_blanks input) reply

-- of a program: how many slots it has, where neither its structure nor the rules have a fault and every run of it on
-- what the profile lends ends with a number; or why it isn't accepted
pub data IsAcceptanceReply (profile : Profile) (bytes : List ℕ) (reply : Answer) : Type 0 where
  accepted : IsStructured (program_of bytes) → SafeIn profile (program_of bytes)
      → IsAllowed profile (program_of bytes)
      → reply ≡ done (line (codes "accepted " ++ decimal (length (program_of bytes))))
      → IsAcceptanceReply profile bytes reply
  rejected : (error : VerifyError) → Rejects profile (program_of bytes) error
      → reply ≡ refusal (Unverified (OfProgram error))
      → IsAcceptanceReply profile bytes reply

-- `check`: whether a program is accepted
unfoldable pub IsCheckReply : Profile → List ℕ → Answer → Type 0
IsCheckReply profile input reply = IsProgramReply (IsAcceptanceReply profile) (without_blanks input) reply

-- a text that a span may have
pub record IsSpanText (text : List ℕ) : Type 0 where
  pub characters : IsUtf8 text
  pub short : length text ≤ 131072

-- the text of the link that the options name, none where they name none
abbrev pub link_of : SpanOptions → List ℕ
link_of options = unwrap_or options.link []

-- what the options and the text say of the span
abbrev pub facts_of : SpanOptions → List ℕ → Facts
facts_of options text = record {
  text_len = length text;
  characters = length (chars text);
  flags = options.flags;
  color = options.color;
  link_len = length (link_of options);
  comments = options.comments;
  index = options.index;
  count = options.count;
  version = options.version;
}

-- what the span lends
abbrev pub bytes_of : SpanOptions → List ℕ → SpanBytes
bytes_of options text = span_bytes (context_bytes (facts_of options text)) text (link_of options)

abbrev pub fault_name : FaultKind → List ℕ
fault_name UnsetRegister = codes "F1 UnsetRegister"
fault_name BadAddress = codes "F2 BadAddress"
fault_name ReadOnly = codes "F3 ReadOnly"
fault_name UnsetStack = codes "F4 UnsetStack"
fault_name BadInstruction = codes "F5 BadInstruction"
fault_name OutOfCode = codes "F6 OutOfCode"
fault_name WriteR10 = codes "F7 WriteR10"

-- how many steps a run may take
abbrev pub steps_of : RunLimit → Program → ℕ
steps_of Slots code = length code
steps_of Longest code = longest_run

-- how the run on a span ends, of as many steps as the options let it take
abbrev pub run_outcome : SpanOptions → List ℕ → List ℕ → Outcome
run_outcome options text bytes =
    outcome_from (program_of bytes) (bytes_of options text) (steps_of options.limit (program_of bytes)) start

-- what is answered to the outcome of a run
abbrev pub outcome_reply : Outcome → Answer
outcome_reply (Done verdict) = done (line (codes "verdict " ++ decimal verdict))
outcome_reply (Fault slot kind) = failed (codes "fault " ++ decimal slot ++ codes " " ++ fault_name kind)
outcome_reply OutOfSteps = failed (codes "out of steps")

-- of a program on a span with a text
pub data IsSpanReply (options : SpanOptions) (text : List ℕ) (bytes : List ℕ) (reply : Answer) : Type 0 where
  no_text : ¬ (IsSpanText text) → reply ≡ refusal TextRefused → IsSpanReply options text bytes reply
  ran : IsSpanText text → reply ≡ outcome_reply (run_outcome options text bytes)
      → IsSpanReply options text bytes reply

-- what is printed of the steps of that run
abbrev pub run_steps_text : SpanOptions → List ℕ → List ℕ → List ℕ
run_steps_text options text bytes =
    steps_text (program_of bytes) (bytes_of options text) (steps_of options.limit (program_of bytes)) start

-- of a program on a span with a text: what `run` answers, behind the text of the steps where the program is run
pub data IsTracedReply (options : SpanOptions) (text : List ℕ) (bytes : List ℕ) (reply : Answer) : Type 0 where
  not_run : ¬ (IsSpanText text) → reply ≡ refusal TextRefused → IsTracedReply options text bytes reply
  traced : IsSpanText text
      → reply ≡ behind (run_steps_text options text bytes) (outcome_reply (run_outcome options text bytes))
      → IsTracedReply options text bytes reply

-- of a program on a span with a text, by what is shown of the run: how it ends, or first also its steps
abbrev pub IsShownReply : Shown → SpanOptions → List ℕ → List ℕ → Answer → Type 0
IsShownReply shows.Outcome = IsSpanReply
IsShownReply shows.Steps = IsTracedReply

-- `run` and `run --trace`: what the program does on the span; its bytes are looked at before the text
unfoldable pub IsRunReply : Shown → List ℕ → SpanOptions → List ℕ → Answer → Type 0
IsRunReply shown digits options text reply = IsProgramReply (IsShownReply shown options text) digits reply
