use Rattle.std.proofs.Common.{rules}
use Rattle.filter_cases.specs.Cases.{Case, SaysCase}
use Rattle.filter_cases.specs.Escapes.{Quoted}
use Rattle.filter_cases.proofs.CaseForms.{unspaced_line, other_line}
use Rattle.filter_cases.proofs.case.case_of.Goals as goal

pub returns-in_default-behind : goal.returns-in_default-behind
returns-in_default-behind c = λ case form.
    let found : Quoted c.in-Some-2.text.items c.in-Some-2.after.now c.in-Some.input.now = search rules in
    unspaced_line c.args.line.now c.in-Some.input.now c.in-Some.ensures c.in-Some-2.text.items c.in-Some-2.after.now found c.in_default-behind.ensures case form

pub returns-in_default-3 : goal.returns-in_default-3
returns-in_default-3 c = λ case form.
    let found : Quoted c.in-Some-2.text.items c.in-Some-2.after.now c.in-Some.input.now = search rules in
    let wrong : (other : Case) → SaysCase other c.in-Some-2.text.items c.in-Some-behind.rest.now → ⊥ = search rules in
    other_line c.args.line.now c.in-Some.input.now c.in-Some.ensures c.in-Some-2.text.items c.in-Some-2.after.now c.in-Some-behind.rest.now found
    c.in-Some-behind.ensures wrong case form
