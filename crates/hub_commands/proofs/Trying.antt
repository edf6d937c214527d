-- Cases, each with the verdict on its span.
use Rattle.std.proofs.Common.{◌≡◌, ℕ, List, [], ◌∷◌, ◌++◌, refl, sym, ap, subst, ◌∙◌, append_assoc}
use Rattle.std.specs.Prelude.{map, Option, None, Some, IfSome, Result, Ok, Err, IfOk}
use Rattle.semantics.specs.declared.Outcome.TheVariants.{Done}
use Rattle.semantics.specs.Step.{Program}
use Rattle.filters.specs.Filters.{whole_outcome}
use Rattle.hex.specs.Hex.{decode_of}
use Rattle.bpf_words.specs.Words.{IsProgram, program_of}
use Rattle.filters.specs.Accepted.{IsAccepted}
use Rattle.filters.specs.declared.rules.RuleSet.{RuleSet}
use Rattle.filter_cases.specs.Cases.{Case, AreCases, StopsAt}
use Rattle.filter_cases.specs.Refusal.{bad_case}
use Rattle.filter_cases.specs.declared.report.ReportForm.{ReportForm}
use Rattle.filter_cases.specs.Marks.{bytes_of}
use Rattle.filter_cases.specs.Report.{Tried}
use Rattle.hub_commands.specs.Answers.{Answer, refused}
use Rattle.hub_commands.specs.Tested.{verdict_in, tried_on, report_reply, IsTestedReply, tested, unread, IsTestReply}
use Rattle.hub_commands.proofs.Replies.{program_answered}

pub tried_more : (program : Program) (all new whole : List Tried) (items rest : List Case) (case : Case) (got : ℕ)
    → whole_outcome program (bytes_of case.marks case.text) ≡ Done got → items ≡ case ∷ rest → new ≡ all ++ record { case = case; got = got } ∷ []
    → all ++ map (tried_on program) items ≡ whole → new ++ map (tried_on program) rest ≡ whole
tried_more program all new whole items rest case got ended is pushed before =
    let one : Tried = record { case = case; got = got } in
    let same : one ≡ tried_on program case = ap (λ (v : ℕ). record { case = case; got = v }) (sym (ap verdict_in ended)) in
    ap (λ (l : List Tried). l ++ map (tried_on program) rest) pushed ∙ append_assoc all (one ∷ []) (map (tried_on program) rest)
    ∙ ap (λ (t : Tried). all ++ t ∷ map (tried_on program) rest) same ∙ ap (λ (l : List Case). all ++ map (tried_on program) l) (sym is) ∙ before

-- all lines are cases
pub tested_ok : {E : Type 0} (r : Result Answer E) (form : ReportForm) (input bytes : List ℕ) (cases : List Case) (all : List Tried) (program : Program) → AreCases input cases → all ≡ map (tried_on program) cases → program ≡ program_of bytes
    → IfOk r (λ answer. answer ≡ report_reply form all) → IfOk r (λ answer. (rule_set : RuleSet) → IsAccepted rule_set (program_of bytes) → IsTestedReply rule_set form input bytes answer)
tested_ok (Ok answer) form input bytes cases all program are is same said = λ rule_set accepted.
    tested cases accepted are (said ∙ ap (report_reply form) (is ∙ ap (λ (p : Program). map (tried_on p) cases) same))
tested_ok (Err e) form input bytes cases all program are is same said = tt

-- or one isn't
pub unread_ok : {E : Type 0} (r : Result Answer E) (form : ReportForm) (input bytes : List ℕ) (line : ℕ) → StopsAt input line
    → IfOk r (λ answer. answer ≡ refused (bad_case line)) → IfOk r (λ answer. (rule_set : RuleSet) → IsAccepted rule_set (program_of bytes) → IsTestedReply rule_set form input bytes answer)
unread_ok (Ok answer) form input bytes line stops said = λ rule_set accepted. unread line accepted stops said
unread_ok (Err e) form input bytes line stops said = tt

-- the digits are a program's
pub with_program : {E : Type 0} (r : Result Answer E) (known : Option (List ℕ)) (rule_set : RuleSet) (form : ReportForm) (digits bytes given words : List ℕ) → decode_of digits ≡ Ok bytes → given ≡ bytes → IsProgram given → words ≡ given
    → IfOk r (λ answer. IfSome known (λ input. IsTestedReply rule_set form input words answer)) → IfOk r (λ answer. IfSome known (λ input. IsTestReply rule_set form digits input answer))
unfolding IsTestReply
with_program (Ok answer) (Some input) rule_set form digits bytes given words decoded is right same said =
    program_answered (IsTestedReply rule_set form input) digits digits refl bytes given answer decoded is right (subst (λ w. IsTestedReply rule_set form input w answer) same said)
with_program (Ok answer) None rule_set form digits bytes given words decoded is right same said = tt
with_program (Err e) known rule_set form digits bytes given words decoded is right same said = tt
