use Rattle.std.proofs.Common.{◌≡◌, ℕ, zero, suc, ◌+◌, ◌-◌, ◌<◌, ◌≤◌, List, [], ◌∷◌, length, get_or, set, replicate, ◌∙◌, subst, sym, ap, rules, arith, ⊎_elim}
use Rattle.std.proofs.lemmas.List.{get_or-set_same, get_or-set_other, length-set}
use Rattle.std.proofs.lemmas.Bool.{cases_eq}
use Rattle.semantics.specs.State.{start}
use Rattle.semantics.specs.Outcomes.{outcome, outcome_from}
use Rattle.bpf_words.specs.Words.{program_of}
use Rattle.verifier.proofs.Enough.{AreEnough, IsMore, enough_none, enough_over, enough_more, enough_first}
use Rattle.hub_commands.proofs.explain.most_steps.Goals.{in-Some, in_default}
use Rattle.hub_commands.proofs.explain.most_steps.Goals as goal

none_above : (n k : ℕ) → get_or (replicate n 0) k 0 ≤ 0
none_above zero k = omega arith
none_above (suc n) zero = omega arith
none_above (suc n) (suc k) = none_above n k

few_more : (steps : List ℕ) (slot count most : ℕ) → ((k : ℕ) → get_or steps k 0 ≤ most) → count ≤ most + 1 → slot < length steps → (k : ℕ) → get_or (set steps slot count) k 0 ≤ most + 1
few_more steps slot count most few small within k =
    ⊎_elim
    (λ (here : k ≡ slot).
    let is : get_or (set steps slot count) k 0 ≡ count = ap (λ j. get_or (set steps slot count) j 0) here ∙ get_or-set_same steps slot count 0 within in
    omega arith)
    (λ (apart : k ≡ slot → ⊥).
    let is : get_or (set steps slot count) k 0 ≡ get_or steps k 0 = get_or-set_other steps slot k count 0 apart in
    let less = few k in
    omega arith)
    (cases_eq k slot)

pub loop-done-init : goal.loop-done-init
loop-done-init c =
    let program = program_of c.args.words.now in
    let from : length program ≡ length program - 0 = omega arith in
    let zeros : c.in_ok-steps.steps.items ≡ replicate (length program) 0 = c.in_ok-steps.ensures.items_if_clones_equal (λ y same. search rules) ∙ ap (λ n. replicate n 0) c.len.ensures.value in
    record {
      size = search rules;
      few = λ k. subst (λ xs. get_or xs k 0 ≤ 0) (sym zeros) (none_above (length program) k);
      enough = subst (λ n. AreEnough program c.in_ok-steps.steps.items n) from (enough_none program c.in_ok-steps.steps.items);
    }

pub loop-done-preserved : goal.loop-done-preserved
loop-done-preserved c =
    let program = program_of c.args.words.now in
    let slot = c.len-in-loop-done.result - 1 - c.loop-done.done in
    let old = c.loop-done.steps.items in
    let size : c.len-in-loop-done.result ≡ length program = c.len-in-loop-done.ensures.value in
    let test : c.loop-done.done < c.len-done-end.result = c.loop-done-test.true in
    let ends : c.len-done-end.result ≡ length program = c.len-done-end.ensures.value in
    let here : slot ≡ length program - (c.loop-done.done + 1) = omega arith in
    let above : length program - c.loop-done.done ≡ slot + 1 = omega arith in
    let held : length old ≡ length program = c.loop-done.invariant.size in
    let within : slot < length old = omega arith in
    let enough : AreEnough program old (slot + 1) = subst (λ n. AreEnough program old n) above c.loop-done.invariant.enough in
    elim c.match-insn.branch [
      | in-Some w ↦
          let count = w.steps_from.result in
          let same : w.deref.result.now ≡ old = w.deref.ensures.value in
          let more : IsMore old slot w.in-Some.insn count = subst (λ xs. IsMore xs slot w.in-Some.insn count) same (record { some = w.steps_from.ensures.some; falls = w.steps_from.ensures.falls; jumps = w.steps_from.ensures.jumps }) in
          let small : count ≤ c.loop-done.done + 1 = w.steps_from.ensures.bound c.loop-done.done (λ k. subst (λ xs. get_or xs k 0 ≤ c.loop-done.done) (sym same) (c.loop-done.invariant.few k)) in
          rw w.steps-is
          (record {
            size = length-set old slot count ∙ held;
            few = few_more old slot count c.loop-done.done c.loop-done.invariant.few small within;
            enough = subst (λ n. AreEnough program (set old slot count) n) here
                (enough_more program old slot count w.in-Some.insn c.requires.structured w.in-Some.ensures.value within more enough);
          })
      | in_default w ↦
          rw w.steps-is
          (record {
            size = held;
            few = λ k. (let less = c.loop-done.invariant.few k in omega arith);
            enough = subst (λ n. AreEnough program old n) here (enough_over program old slot w.in_default.ensures.value enough);
          })
    ]

-- an entry that is there is the same whatever is read for one that isn't
got : (xs : List ℕ) (i x : ℕ) → i < length xs → x ≡ get_or xs i x → x ≡ get_or xs i 0
got [] i x h e = absurd (omega arith)
got (y ∷ ys) zero x h e = e
got (y ∷ ys) (suc i) x h e = got ys i x (omega arith) e

pub returns : goal.returns
returns c =
    let program = program_of c.args.words.now in
    let last : length program - c.loop-done.done ≡ 0 = omega (arith, c.len-done-end.ensures.value, c.loop-done-test.false) in
    let all : AreEnough program c.loop-done.steps.items 0 = subst (λ n. AreEnough program c.loop-done.steps.items n) last c.loop-done.invariant.enough in
    let within : 0 < length c.loop-done.steps.items = omega (arith, c.loop-done.invariant.size, c.len.ensures.value, c.len.ensures.some) in
    let is : c.index.result.now ≡ get_or c.loop-done.steps.items 0 0 = got c.loop-done.steps.items 0 c.index.result.now within c.index.ensures in
    λ bytes span. subst (λ n. outcome_from program bytes n start ≡ outcome program bytes) (sym is)
    (enough_first program c.loop-done.steps.items c.requires.safe all bytes span)
