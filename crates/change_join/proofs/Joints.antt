-- What is kept of a change that is put together, from one more to the next, and its text.
use Rattle.std.proofs.Common.{◌≡◌, ℕ, ◌+◌, List, [], ◌∷◌, ◌++◌, length, refl, sym, ap, ◌∙◌, append_assoc, length-append, String, Global}
use Rattle.std.specs.Prelude.{Result, Ok, Err, OnOk, IsTrue, if◌then◌else◌, is_ok}
use Rattle.std.specs.Fmt.{decimal}
use Rattle.std.specs.String.{string_bytes}
use Rattle.change_ops.specs.Changes.{Change, IsChange, operations}
use Rattle.change_ops.specs.Lines.{count_of_lines}
use Rattle.change_ops.specs.Spelling.{line_text, lines_text, form_text, change_text}
use Rattle.change_ops.specs.declared.line.Form.{Form}
use Rattle.change_ops.specs.declared.line.Line.{Line}
use Rattle.change_join.specs.Joined.{wider, can_join, both_of}
use Rattle.change_join.specs.Joints.{IsJoint}
use Rattle.change_join.specs.declared.joint.Joint.{Joint}
use Rattle.change_join.proofs.Both.{both_count, both_meant, both_is_change}

text-append : (lines more : List Line) → lines_text (lines ++ more) ≡ lines_text lines ++ lines_text more
unfolding lines_text
text-append [] more = refl
text-append (line ∷ lines) more =
    ap (λ (text : List ℕ). line_text line ++ 10 ∷ text) (text-append lines more) ∙ sym (append_assoc (line_text line) (10 ∷ lines_text lines) (lines_text more))

pub taken : {E : Type 0} (result : Result (Unit {0}) E) (old : Joint) (next : Change) (form : Form) (operations_now meant lines : ℕ) (text : String Global) → IsChange next → form ≡ wider old.form next.form
    → operations_now ≡ old.operations + count_of_lines next.lines → meant ≡ old.meant + length (operations next) → lines ≡ old.lines + length next.lines → OnOk result (string_bytes text ≡ string_bytes old.text ++ lines_text next.lines)
    → OnOk result ((change : Change) → IsJoint change old → IsTrue (can_join change next) → IsJoint (both_of change next) (record { form = form; node = old.node; operations = operations_now; meant = meant; lines = lines; text = text }))
taken (Ok done) old next form operations_now meant lines text limits form_is operations_is meant_is lines_is text_is = λ change joint can. record {
  limits = both_is_change change next can joint.limits limits;
  form = form_is ∙ ap (λ (f : Form). wider f next.form) joint.form;
  node = joint.node;
  operations = operations_is ∙ ap (λ (n : ℕ). n + count_of_lines next.lines) joint.operations ∙ sym (both_count change next);
  meant = meant_is ∙ ap (λ (n : ℕ). n + length (operations next)) joint.meant ∙ sym (both_meant change next);
  lines = lines_is ∙ ap (λ (n : ℕ). n + length next.lines) joint.lines ∙ sym (length-append change.lines next.lines);
  text = text_is ∙ ap (λ (t : List ℕ). t ++ lines_text next.lines) joint.text ∙ sym (text-append change.lines next.lines);
}
taken (Err e) old next form operations_now meant lines text limits form_is operations_is meant_is lines_is text_is = tt

pub written : {E : Type 0} (result : Result (Unit {0}) E) (joint : Joint) (word old new : List ℕ) → word ≡ form_text joint.form
    → OnOk result (new ≡ old ++ (word ++ 32 ∷ (decimal joint.node ++ 32 ∷ (decimal joint.lines ++ 10 ∷ string_bytes joint.text))))
    → OnOk result ((change : Change) → IsJoint change joint → new ≡ old ++ change_text change)
unfolding change_text
written (Ok done) joint word old new word_is h = λ change is.
    let lines = length change.lines in
    let text = lines_text change.lines in
    let parts : word ++ 32 ∷ (decimal joint.node ++ 32 ∷ (decimal joint.lines ++ 10 ∷ string_bytes joint.text)) ≡ form_text change.form ++ 32 ∷ (decimal change.node ++ 32 ∷ (decimal lines ++ 10 ∷ text)) =
    λ i. (word_is ∙ ap form_text is.form) i ++ 32 ∷ (decimal (is.node i) ++ 32 ∷ (decimal (is.lines i) ++ 10 ∷ is.text i)) in
    let one = append_assoc (form_text change.form) (32 ∷ (decimal change.node ++ 32 ∷ decimal lines)) (10 ∷ text) in
    let two = append_assoc (decimal change.node) (32 ∷ decimal lines) (10 ∷ text) in
    h ∙ ap (λ (x : List ℕ). old ++ x) (parts ∙ sym (one ∙ ap (λ (x : List ℕ). form_text change.form ++ 32 ∷ x) two))
written (Err e) joint word old new word_is h = tt

-- what a call that appends says of a success
pub pushed : {E : Type 0} (result : Result (Unit {0}) E) (old new text whole : List ℕ) → new ≡ (if is_ok result then old ++ text else old) → text ≡ whole → OnOk result (new ≡ old ++ whole)
pushed (Ok done) old new text whole is same = is ∙ ap (λ (x : List ℕ). old ++ x) same
pushed (Err e) old new text whole is same = tt
