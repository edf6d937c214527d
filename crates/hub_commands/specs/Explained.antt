-- What `check --explain` replies.
use Rattle.std.specs.Prelude.{◌≡◌, ℕ, ◌+◌, min, Bool, if◌then◌else◌, List, [], ◌++◌, length, codes}
use Rattle.std.specs.Fmt.{decimal}
use Rattle.span_context.specs.declared.profile.Profile.{Profile}
use Rattle.span_context.specs.declared.profile.Profile.TheVariants.{Two}
use Rattle.span_context.specs.Context.{SpanBytes}
use Rattle.bpf_words.specs.Words.{program_of}
use Rattle.semantics.specs.State.{start}
use Rattle.semantics.specs.Step.{Program}
use Rattle.semantics.specs.Outcomes.{outcome, outcome_from}
use Rattle.semantics.specs.Safe.{IsSpan, SafeIn}
use Rattle.program_reads.specs.declared.reads.Reads.{Reads}
use Rattle.program_reads.specs.Reads.{Determines}
use Rattle.program_reads.specs.Lines.{read_lines}
use Rattle.verifier.specs.declared.refusal.VerifyError.{VerifyError}
use Rattle.verifier.specs.declared.refusal.VerifyError.TheVariants.{Structure, State, OutOfMemory}
use Rattle.need_trails.specs.Trail.{trail_text}
use Rattle.program_listing.specs.Listing.{instructions_text, slot_text, listing_text}
use Rattle.verifier.specs.Structure.{IsStructured}
use Rattle.verifier.specs.Judged.{Rejects}
use Rattle.verifier.specs.Decides.{IsAllowed}
use Rattle.filters.specs.declared.refusal.FilterError.TheVariants.{Program as OfProgram}
use Rattle.refusals.specs.declared.reason.Reason.TheVariants.{Unverified}
use Rattle.hub_commands.specs.Answers.{Answer, line, done}
use Rattle.hub_commands.specs.Hexadecimal.{without_blanks}
use Rattle.hub_commands.specs.Reasons.{refusal}
use Rattle.hub_commands.specs.Programs.{IsProgramReply}

-- ---- what is known of the program
-- the listing, where the whole program is asked for, up to a slot
abbrev pub listing_if : Bool → Profile → Program → ℕ → List ℕ
listing_if whole profile code end = if whole then listing_text profile code end else []

-- of a program that is refused: the instruction at fault, behind those above it where the whole program is asked for;
-- of one that is refused for what is known before it also that, and where what it wants was known last
unfoldable pub refused_text : Bool → Profile → Program → VerifyError → List ℕ
refused_text whole profile code (Structure slot fault) =
    instructions_text code (if whole then 0 else slot) (min (length code) (slot + 1))
refused_text whole profile code (State slot fault) =
    listing_if whole profile code slot ++ (slot_text profile code slot ++ trail_text profile code slot fault)
refused_text whole profile code OutOfMemory = []

-- of an accepted program: a number of steps that no run goes beyond, a list of what can be read that determines the
-- outcome, and the listing
pub record IsExplanation (whole : Bool) (profile : Profile) (code : Program) (text : List ℕ) : Type 0 where
  pub steps : ℕ
  pub most : (bytes : SpanBytes) → IsSpan bytes → outcome_from code bytes steps start ≡ outcome code bytes
  pub reads : Reads
  pub determines : Determines reads Two code
  pub is : text ≡ (line (codes "steps <= " ++ decimal steps) ++ read_lines profile reads)
      ++ listing_if whole profile code (length code)

-- of a program: what `check` answers, and behind it what is known of the program
pub data IsExplainedReply (whole : Bool) (profile : Profile) (bytes : List ℕ) (reply : Answer) : Type 0 where
  accepted : (text : List ℕ) → IsStructured (program_of bytes) → SafeIn profile (program_of bytes)
      → IsAllowed profile (program_of bytes) → IsExplanation whole profile (program_of bytes) text
      → reply ≡ done (line (codes "accepted " ++ decimal (length (program_of bytes))) ++ text)
      → IsExplainedReply whole profile bytes reply
  rejected : (error : VerifyError) → Rejects profile (program_of bytes) error
      → reply ≡ record (refusal (Unverified (OfProgram error))) {
        text = (refusal (Unverified (OfProgram error))).text ++ refused_text whole profile (program_of bytes) error;
      }
      → IsExplainedReply whole profile bytes reply

-- `check --explain`, and `check --explain=all` where the whole program is asked for: of digits that are a program's
-- bytes, that
unfoldable pub IsExplainReply : Bool → Profile → List ℕ → Answer → Type 0
IsExplainReply whole profile input reply = IsProgramReply (IsExplainedReply whole profile) (without_blanks input) reply
