-- The edges of a comparison, as the rules take them.
use Rattle.std.proofs.Common.{◌≡◌, ℕ, Bool, true, false, cond, nat_eq, Option, Some, None, Result, Ok, Err, option_map, refl, sym, ap, ◌∙◌, subst}
use Rattle.std.specs.Option.{option_and_then}
use Rattle.bpf_words.specs.declared.instruction.Width.{Width}
use Rattle.bpf_words.specs.declared.instruction.Operand.{Operand}
use Rattle.bpf_words.specs.declared.instruction.Operand.TheVariants.{Immediate, Source}
use Rattle.bpf_words.specs.declared.instruction.Comparison.{Comparison}
use Rattle.abstract_state.specs.declared.refusal.Refusal.{Refusal}
use Rattle.abstract_state.specs.declared.state.AbsState.{AbsState}
use Rattle.abstract_state.specs.declared.step.Flow.{Flow}
use Rattle.abstract_state.specs.declared.step.Flow.TheVariants.{Live, Dead}
use Rattle.abstract_state.specs.Estimate.{Estimate}
use Rattle.abstract_state.specs.Addresses.{Content, ANumber, InContext, InStack, InRegion}
use Rattle.abstract_state.specs.Situation.{Situation, Least, Registers, situation_of, with_content, with_least, put, IsSituation, IsSituationIn, Flows, AnswersStep, longer, lengthened, read}
use Rattle.abstract_state.specs.Steps.{after}
use Rattle.abstract_state.specs.Edges.{Both, two, put_right, raised, refined, edge, sides_on, right_side, unless, is_register, ways, branched}

with_content_same : (r : ℕ) (h : Content) (a b : Registers) (i : ℕ) → a i ≡ b i → with_content r h a i ≡ with_content r h b i
with_content_same r h a b i e = ap (λ (o : Option Content). cond (nat_eq i r) (Some h) o) e

-- what is written into a register of a situation is written into that of a state that shows it
pub shows_put : (a b : AbsState) (s : Situation) (r : ℕ) (h : Content) → IsSituation a s → IsSituation b (put r h (situation_of a)) → IsSituation b (put r h s)
shows_put a b s r h old new = record {
  registers = λ i less. new.registers i less ∙ with_content_same r h (situation_of a).registers s.registers i (old.registers i less);
  slots = λ i less. new.slots i less ∙ old.slots i less;
  least = new.least ∙ old.least;
}

shows_again : (a b : AbsState) (s : Situation) → IsSituation a s → IsSituation b (situation_of a) → IsSituation b s
shows_again a b s old new = record {
  registers = λ i less. new.registers i less ∙ old.registers i less;
  slots = λ i less. new.slots i less ∙ old.slots i less;
  least = new.least ∙ old.least;
}

pub shows_put_right : (a b : AbsState) (s : Situation) (o : Operand) (h : Content) → IsSituation a s → IsSituation b (put_right o h (situation_of a)) → IsSituation b (put_right o h s)
shows_put_right a b s (Immediate value) h old new = shows_again a b s old new
shows_put_right a b s (Source r) h old new = shows_put a b s r h old new

with_least_flows : (o : Option Least) (a b : AbsState) (s : Situation) (flow : Flow) → IsSituation a s → Flows (option_map (with_least (situation_of a)) o) flow b → Flows (option_map (with_least s) o) flow b
with_least_flows None a b s flow old h = h
with_least_flows (Some least) a b s flow old h = (
  h.0,
  record {
    registers = λ i less. h.1.registers i less ∙ old.registers i less;
    slots = λ i less. h.1.slots i less ∙ old.slots i less;
    least = h.1.least;
  },
)

lengthened_flows : (q : Estimate) (a b : AbsState) (s : Situation) (flow : Flow) → IsSituation a s → Flows (lengthened q (situation_of a)) flow b → Flows (lengthened q s) flow b
unfolding lengthened
lengthened_flows q a b s flow old h =
    subst (λ (l : Least). Flows (option_map (with_least s) (longer q l)) flow b) old.least (with_least_flows (longer q (situation_of a).least) a b s flow old h)

pub raised_flows : (k : Content) (a b : AbsState) (s : Situation) (flow : Flow) → IsSituation a s → Flows (raised k (situation_of a)) flow b → Flows (raised k s) flow b
unfolding raised
raised_flows (ANumber q) a b s flow old h = lengthened_flows q a b s flow old h
raised_flows (InRegion r q) a b s flow old h = lengthened_flows q a b s flow old h
raised_flows (InContext p) a b s flow old h = (h.0, shows_again a b s old h.1)
raised_flows (InStack p) a b s flow old h = (h.0, shows_again a b s old h.1)

live_dead : (f : Flow) → f ≡ Live → f ≡ Dead → ⊥
live_dead f e g = cc

pub flows_live : (o : Option Situation) (k : Content) (a b : AbsState) (first second : Flow) → Flows o first a → first ≡ Live → Flows (raised k (situation_of a)) second b → Flows (option_and_then (raised k) o) second b
flows_live None k a b first second h live next = absurd (live_dead first live h)
flows_live (Some s) k a b first second h live next = raised_flows k a b s second h.1 next

pub flows_dead : (o : Option Situation) (k : Content) (a b : AbsState) (first : Flow) → Flows o first a → first ≡ Dead → Flows (option_and_then (raised k) o) Dead b
flows_dead None k a b first h dead = refl
flows_dead (Some s) k a b first h dead = absurd (live_dead first h.0 dead)

-- ---- an edge, where nothing is refused, and where a part is
pub edge_ok : (w : Width) (c : Comparison) (l : ℕ) (r : Operand) (taken : Bool) (s : Situation) (a b : Content) (told : Option Both) → read (s.registers l) ≡ Ok a → right_side w s.registers r ≡ Ok b → sides_on w c taken a b ≡ Ok told → edge w c l r taken s ≡ Ok (refined l r (unless (is_register l r) (two a b) told) s)
unfolding edge
edge_ok w c l r taken s a b told ea eb et = rw ea (rw eb (rw et refl))

pub edge_left : (w : Width) (c : Comparison) (l : ℕ) (r : Operand) (taken : Bool) (s : Situation) (e : Refusal) → read (s.registers l) ≡ Err e → edge w c l r taken s ≡ Err e
unfolding edge
edge_left w c l r taken s e ea = rw ea refl

pub edge_right : (w : Width) (c : Comparison) (l : ℕ) (r : Operand) (taken : Bool) (s : Situation) (a : Content) (e : Refusal) → read (s.registers l) ≡ Ok a → right_side w s.registers r ≡ Err e → edge w c l r taken s ≡ Err e
unfolding edge
edge_right w c l r taken s a e ea eb = rw ea (rw eb refl)

pub edge_sides : (w : Width) (c : Comparison) (l : ℕ) (r : Operand) (taken : Bool) (s : Situation) (a b : Content) (e : Refusal) → read (s.registers l) ≡ Ok a → right_side w s.registers r ≡ Ok b → sides_on w c taken a b ≡ Err e → edge w c l r taken s ≡ Err e
unfolding edge
edge_sides w c l r taken s a b e ea eb et = rw ea (rw eb (rw et refl))

-- nothing is left of the sides, and these aren't one register
pub edge_dead : (w : Width) (c : Comparison) (l : ℕ) (r : Operand) (taken : Bool) (s : Situation) (a b : Content) → read (s.registers l) ≡ Ok a → right_side w s.registers r ≡ Ok b → sides_on w c taken a b ≡ Ok None → is_register l r ≡ false → edge w c l r taken s ≡ Ok None
unfolding refined
edge_dead w c l r taken s a b ea eb et apart = edge_ok w c l r taken s a b None ea eb et ∙ ap (λ (t : Bool). Ok (refined l r (unless t (two a b) None) s)) apart

-- ---- both edges
ok_err : (f : Flow) (e : Refusal) (answer : Result Flow Refusal) → answer ≡ Ok f → answer ≡ Err e → ⊥
ok_err f e answer p q = cc

one_err : (d e : Refusal) (answer : Result Flow Refusal) → answer ≡ Err d → answer ≡ Err e → d ≡ e
one_err d e answer p q = cc

pub answers_err : (r : Result (Option Situation) Refusal) (answer : Result Flow Refusal) (a : AbsState) (e : Refusal) → AnswersStep r answer a → answer ≡ Err e → r ≡ Err e
answers_err (Ok o) answer a e h is = absurd (ok_err h.0 e answer h.1 is)
answers_err (Err x) answer a e h is = ap (λ (d : Refusal). Err d) (one_err x e answer h is)

pub answers_ok : (r : Result (Option Situation) Refusal) (answer : Result Flow Refusal) (a : AbsState) (flow : Flow) → AnswersStep r answer a → answer ≡ Ok flow → (o : Option Situation) × (r ≡ Ok o) × Flows o flow a
answers_ok (Ok o) answer a flow h is = let one : h.0 ≡ flow = cc in (o, refl, subst (λ (f : Flow). Flows o f a) one h.2)
answers_ok (Err x) answer a flow h is = absurd (ok_err flow x answer is h)

shows_live_in : (o : Option Situation) (flow : Flow) (a : AbsState) → Flows o flow a → IsSituationIn (after flow a) o
shows_live_in None flow a h = subst (λ (f : Flow). after f a ≡ None) (sym h) refl
shows_live_in (Some s) flow a h = (a, subst (λ (f : Flow). after f a ≡ Some a) (sym h.0) refl, h.1)

pub shows_live : (o : Option Situation) (flow : Flow) (a : AbsState) (l : Option AbsState) → Flows o flow a → l ≡ after flow a → IsSituationIn l o
shows_live o flow a l h is = subst (λ (x : Option AbsState). IsSituationIn x o) (sym is) (shows_live_in o flow a h)

pub branched_ok : (w : Width) (c : Comparison) (l : ℕ) (r : Operand) (s : Situation) (t u : Option Situation) → edge w c l r true s ≡ Ok t → edge w c l r false s ≡ Ok u → branched w c l r s ≡ Ok (ways t u)
unfolding branched
branched_ok w c l r s t u et eu = rw et (rw eu refl)

pub branched_first : (w : Width) (c : Comparison) (l : ℕ) (r : Operand) (s : Situation) (e : Refusal) → edge w c l r true s ≡ Err e → branched w c l r s ≡ Err e
unfolding branched
branched_first w c l r s e et = rw et refl

pub branched_second : (w : Width) (c : Comparison) (l : ℕ) (r : Operand) (s : Situation) (t : Option Situation) (e : Refusal) → edge w c l r true s ≡ Ok t → edge w c l r false s ≡ Err e → branched w c l r s ≡ Err e
unfolding branched
branched_second w c l r s t e et eu = rw et (rw eu refl)
