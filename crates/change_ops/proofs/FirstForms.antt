-- The changes of the first form spell plain operations out.
use Rattle.std.proofs.Common.{◌≡◌, ℕ, ◌≤◌, List, [], ◌∷◌, ◌++◌, map, length, refl, sym, ap, subst, ◌∙◌, arith}
use Rattle.std.specs.Prelude.{codes}
use Rattle.std.specs.Fmt.{decimal}
use Rattle.std.specs.List.{AllByRecursion}
use Rattle.std.proofs.lemmas.Bool.{false≢true}
use Rattle.std.proofs.lemmas.List.{length-map}
use Rattle.change_ops.specs.Lines.{ops_of_lines, count_of_lines}
use Rattle.change_ops.specs.Changes.{IsLine, IsChange}
use Rattle.change_ops.specs.Spelling.{◌␣◌, op_text, lines_text, change_text}
use Rattle.change_ops.specs.FirstForm.{ops_text, spelled_out, IsPlainOp, ArePlainOps, FirstFormIsPlain}
use Rattle.change_ops.specs.declared.operation.Op.{Op}
use Rattle.change_ops.specs.declared.line.Form.{Form}
use Rattle.change_ops.specs.declared.line.Form.TheVariants.{First}
use Rattle.change_ops.specs.declared.line.Line.{Line}
use Rattle.change_ops.specs.declared.line.Line.TheVariants.{Operation, Run, Removals, Revivals}

-- the lines of a change of the first form are its operations
pub lines_are_ops : (node : ℕ) (lines : List Line) → AllByRecursion (IsLine First node) lines → AllByRecursion (IsPlainOp node) (ops_of_lines lines) × (lines ≡ map Operation (ops_of_lines lines))
unfolding ops_of_lines
lines_are_ops node [] h = (tt, refl)
lines_are_ops node (Operation op ∷ lines) h =
    let rest = lines_are_ops node lines h.1 in
    let one : IsPlainOp node op = record { own = h.0.own; within = h.0.within; character = h.0.characters; had = h.0.formed } in
    ((one, rest.0), ap (λ (ls : List Line). Operation op ∷ ls) rest.1)
lines_are_ops node (Run run ∷ lines) h = absurd (false≢true h.0.formed)
lines_are_ops node (Removals run ∷ lines) h = absurd (false≢true h.0.formed)
lines_are_ops node (Revivals run ∷ lines) h = absurd (false≢true h.0.formed)

pub ops_are_lines : (node : ℕ) (ops : List Op) → AllByRecursion (IsPlainOp node) ops → AllByRecursion (IsLine First node) (map Operation ops)
ops_are_lines node [] h = tt
ops_are_lines node (op ∷ ops) h =
    let one : IsLine First node (Operation op) = record { own = h.0.own; within = h.0.within; characters = h.0.character; formed = h.0.had } in
    (one, ops_are_lines node ops h.1)

pub ops_again : (ops : List Op) → ops_of_lines (map Operation ops) ≡ ops
unfolding ops_of_lines
ops_again [] = refl
ops_again (op ∷ ops) = ap (λ (os : List Op). op ∷ os) (ops_again ops)

-- each of them is one of the 256
counted : (ops : List Op) → count_of_lines (map Operation ops) ≡ length ops
unfolding count_of_lines
counted [] = refl
counted (op ∷ ops) = let others = counted ops in omega arith

spelled : (ops : List Op) → lines_text (map Operation ops) ≡ ops_text ops
unfolding lines_text ops_text
spelled [] = refl
spelled (op ∷ ops) = ap (λ (text : List ℕ). op_text op ++ 10 ∷ text) (spelled ops)

each : (form : Form) (node : ℕ) (lines : List Line) → IsChange (record { form = form; node = node; lines = lines }) → form ≡ First
    → ArePlainOps node (ops_of_lines lines) × (record { form = form; node = node; lines = lines } ≡ spelled_out node (ops_of_lines lines))
each form node lines h is =
    let all : AllByRecursion (IsLine First node) lines = subst (λ (f : Form). AllByRecursion (IsLine f node) lines) is h.lines in
    let l = lines_are_ops node lines all in
    let same : length lines ≡ length (ops_of_lines lines) = ap length l.1 ∙ length-map (ops_of_lines lines) Operation in
    let some : 1 ≤ length (ops_of_lines lines) = omega (arith, h.some) in
    let count : count_of_lines lines ≡ length (ops_of_lines lines) = ap count_of_lines l.1 ∙ counted (ops_of_lines lines) in
    let all_few = h.few in
    let few : length (ops_of_lines lines) ≤ 256 = omega arith in
    (record { named = h.named; known = h.known; some = some; few = few; each = l.0 }, (λ i. record { form = is i; node = node; lines = l.1 i }))

all : (node : ℕ) (ops : List Op) → ArePlainOps node ops → IsChange (spelled_out node ops)
all node ops h =
    let same = ops_again ops in
    let long : length (map Operation ops) ≡ length ops = length-map ops Operation in
    let some : 1 ≤ length (map Operation ops) = omega (arith, h.some) in
    let count = counted ops in
    let all_few = h.few in
    let few : count_of_lines (map Operation ops) ≤ 256 = omega arith in
    let small : length ops ≤ 262144 = omega arith in
    record { named = h.named; known = h.known; some = some; few = few; meant = subst (λ (os : List Op). length os ≤ 262144) (sym same) small; lines = ops_are_lines node ops h.each }

text : (node : ℕ) (ops : List Op) → change_text (spelled_out node ops) ≡ (codes "change" ␣ decimal node ␣ decimal (length ops)) ++ 10 ∷ ops_text ops
unfolding change_text
text node ops = (λ i. (codes "change" ␣ decimal node ␣ decimal (length-map ops Operation i)) ++ 10 ∷ spelled ops i)

pub first_form_is_plain : FirstFormIsPlain
first_form_is_plain = record {
  each = λ change h is. each change.form change.node change.lines h is;
  all = λ node ops h. (all node ops h, ops_again ops);
  text = text;
}
