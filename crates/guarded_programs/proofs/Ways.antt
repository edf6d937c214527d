-- Each fact that an instruction gives is known on the way.
use Rattle.std.proofs.Common.{◌≡◌, ℕ, ℤ, ◌+◌, ◌-◌, ◌/◌, ◌^◌, ◌<◌, ◌≤◌, true, false, Option, Some, None, Result, Ok, Err, List, refl, subst, arith}
use Rattle.std.specs.Int.{cast_unsigned, w64}
use Rattle.std.specs.Prelude.{option_map, ⊤}
use Rattle.span_context.specs.declared.profile.Profile.{Profile}
use Rattle.span_context.specs.declared.size.Size.TheVariants.{Double}
use Rattle.span_context.specs.ContextField.{size_of}
use Rattle.bpf_words.specs.declared.instruction.Insn.{Insn}
use Rattle.bpf_words.specs.declared.instruction.Insn.TheVariants.{Compute, Negate, Extend, Convert, Jump, JumpLong, Branch, Load, LoadSigned, Store, LoadWide, Exit}
use Rattle.bpf_words.specs.declared.instruction.Arithmetic.TheVariants as operation
use Rattle.bpf_words.specs.declared.instruction.Comparison.{Comparison}
use Rattle.bpf_words.specs.declared.instruction.Operand.{Operand}
use Rattle.bpf_words.specs.declared.instruction.Operand.TheVariants.{Immediate, Source}
use Rattle.bpf_words.specs.declared.instruction.Width.{Width}
use Rattle.bpf_words.specs.declared.instruction.Width.TheVariants.{Narrow, Full}
use Rattle.semantics.specs.Value.{bits_of, bytes_kept, cut}
use Rattle.semantics.specs.Memory.{bytes_in}
use Rattle.abstract_state.specs.declared.refusal.Refusal.{Refusal}
use Rattle.abstract_state.specs.declared.relation.Relation.{Relation}
use Rattle.abstract_state.specs.Estimate.{Estimate, constant}
use Rattle.abstract_state.specs.Comparing.{told_on}
use Rattle.abstract_state.specs.Addresses.{Content, ANumber, answer_of, then_answer, width_of}
use Rattle.abstract_state.specs.Situation.{Situation, operand_of}
use Rattle.abstract_state.specs.Stepping as steps
use Rattle.abstract_state.specs.Edges as edges
use Rattle.abstract_state.specs.Edges.{right_side, edge}
use Rattle.value_marks.specs.Marking.{Marking}
use Rattle.value_marks.specs.Copies.{copies_tell}
use Rattle.tracked_state.specs.Tracked.{TrackedSituation, tracked}
use Rattle.tracked_state.specs.Rules.{TrackedWays, followed_marking, told_edge, told_ways, exit}
use Rattle.verifier.specs.Decides.{ways, led}
use Rattle.guarded_rules.specs.Facts.{Register, Slot, Kind, Number, AddressIn, Property, Any, AtLeast, AtMost, Behind, Value, Of, ContextAt, StackAt, Fact, Holds, Long, Stored}
use Rattle.guarded_rules.specs.Says.{of_kind, greatest, HasTail, HasProperty, Says, IsKind, Has, content_in, Entails, EntailsIn, OnSituation}
use Rattle.guarded_rules.specs.Sums.{Exactly}
use Rattle.guarded_rules.specs.Tests.{Side, Left, Right, at_side, Tells}
use Rattle.guarded_rules.specs.Values.{IsRead}
use Rattle.guarded_rules.specs.Steps.{Spares}
use Rattle.guarded_rules.proofs.Kept.{set_says}
use Rattle.guarded_rules.proofs.Tests.{ToldSays, told_tells, told_never}
use Rattle.guarded_rules.proofs.Edges.{edge_keeps, edge_left, edge_right, edge_long, edge_never}
use Rattle.guarded_rules.proofs.Telling.{copies_entail}
use Rattle.guarded_rules.proofs.Values.{constant_says}
use Rattle.guarded_rules.proofs.Steps.{step_keeps, move_gives, add_gives, number_gives, wide_gives, field_gives, bytes_give}
use Rattle.guarded_rules.proofs.Low.{word_moves, low_moves, low_adds, negate_gives, extend_gives, convert_gives, signed_gives}
use Rattle.guarded_rules.proofs.Offsets.{stack_moves, context_moves}
use Rattle.guarded_rules.proofs.Stack.{spill_gives, spill_keeps, spill_sets, fill_gives, bytes_set, bytes_keep, part_gives}
use Rattle.guarded_rules.proofs.Constants.{constant_moves, constant_adds}
use Rattle.guarded_rules.proofs.Differences.{take_gives}
use Rattle.guarded_rules.proofs.Maps.{takes_both, sums_map, tells_map, excludes_map}
use Rattle.guarded_programs.specs.Gives as rule
use Rattle.guarded_programs.specs.Gives.{Way, Falls, Jumps, is_taken, Weaker, At, Reads, Sides, Below, IsTested, Gives}
use Rattle.guarded_programs.proofs.Known.{AllHold, one_at, at_says, reads_hold, one_read, kind_read, read_says, right_holds, side_says}

abbrev pub EntailsTracked : Option TrackedSituation → Fact → Type 0
EntailsTracked None f = Unit {0}
EntailsTracked (Some t) f = Entails t.situation f

abbrev pub at_way : Way → TrackedWays → Option TrackedSituation
at_way Falls w = w.untaken
at_way Jumps w = w.taken

-- what an instruction leads to on a way, where it isn't refused
abbrev pub OnWay : Way → Fact → Result TrackedWays Refusal → Type 0
OnWay way f (Ok w) = EntailsTracked (at_way way w) f
OnWay way f (Err fault) = Unit {0}

-- ---- instructions that lead to the next one
stepped_way : (way : Way) (f : Fact) (m : Option Marking) (r : Result (Option Situation) Refusal) → OnSituation f r → OnWay way f (answer_of (ways None) (answer_of (option_map (tracked m)) r))
stepped_way Falls f m (Ok None) h = tt
stepped_way Falls f m (Ok (Some s)) h = h
stepped_way Jumps f m (Ok o) h = tt
stepped_way way f m (Err fault) h = tt

-- ---- comparisons
mapped : (f : Fact) (m : Option Marking) (o : Option Situation) → EntailsIn o f → EntailsTracked (option_map (tracked m) o) f
mapped f m None h = tt
mapped f m (Some s) h = h

told_entails : (f : Fact) (left : ℕ) (right : Operand) (m : Option Marking) (o : Option Situation) → EntailsIn o f → EntailsTracked (told_edge left right m o) f
told_entails f left right m None h = tt
told_entails f left right m (Some s) h = mapped f m (copies_tell left right m s) (copies_entail f left right m s h)

abbrev by_way : Way → Result (Option Situation) Refusal → Result (Option Situation) Refusal → Result (Option Situation) Refusal
by_way Falls jumping falling = falling
by_way Jumps jumping falling = jumping

branch_way : (way : Way) (f : Fact) (left : ℕ) (right : Operand) (m : Option Marking) (jumping falling : Result (Option Situation) Refusal) → OnSituation f (by_way way jumping falling) → OnWay way f (answer_of (told_ways left right m) (then_answer (λ taken. then_answer (λ untaken. Ok (edges.ways taken untaken)) falling) jumping))
branch_way Falls f left right m (Ok a) (Ok b) h = told_entails f left right m b h
branch_way Jumps f left right m (Ok a) (Ok b) h = told_entails f left right m a h
branch_way way f left right m (Ok a) (Err fault) h = tt
branch_way way f left right m (Err fault) falling h = tt

edge_way : (profile : Profile) (slot : ℕ) (way : Way) (f : Fact) (width : Width) (c : Comparison) (left : ℕ) (right : Operand) (distance : ℤ) (t : TrackedSituation) → OnSituation f (edge width c left right (is_taken way) t.situation) → OnWay way f (led profile slot (Branch width c left right distance) t)
unfolding led edges.branched
edge_way profile slot Falls f width c left right distance t h = branch_way Falls f left right t.marking (edge width c left right true t.situation) (edge width c left right false t.situation) h
edge_way profile slot Jumps f width c left right distance t h = branch_way Jumps f left right t.marking (edge width c left right true t.situation) (edge width c left right false t.situation) h

exit_way : (way : Way) (f : Fact) (r : Result ⊤ Refusal) → OnWay way f (answer_of (λ done. ways None None) r)
exit_way Falls f (Ok done) = tt
exit_way Jumps f (Ok done) = tt
exit_way way f (Err fault) = tt

jump_way : (way : Way) (f : Fact) (t : TrackedSituation) → Entails t.situation f → OnWay way f (Ok (ways (Some t) None))
jump_way Falls f t h = tt
jump_way Jumps f t h = h

-- ---- what an instruction spares
keeps_way : (profile : Profile) (slot : ℕ) (insn : Insn) (way : Way) (f : Fact) (t : TrackedSituation) → Spares insn f → Entails t.situation f → OnWay way f (led profile slot insn t)
unfolding led
keeps_way profile slot (Compute width op d operand) way f t spares h = stepped_way way f (followed_marking slot (Compute width op d operand) t) (steps.stepped profile (Compute width op d operand) t.situation) (step_keeps profile (Compute width op d operand) t.situation f spares h)
keeps_way profile slot (Negate width d) way f t spares h = stepped_way way f (followed_marking slot (Negate width d) t) (steps.stepped profile (Negate width d) t.situation) (step_keeps profile (Negate width d) t.situation f spares h)
keeps_way profile slot (Extend extension d source) way f t spares h = stepped_way way f (followed_marking slot (Extend extension d source) t) (steps.stepped profile (Extend extension d source) t.situation) (step_keeps profile (Extend extension d source) t.situation f spares h)
keeps_way profile slot (Convert conversion bits d) way f t spares h = stepped_way way f (followed_marking slot (Convert conversion bits d) t) (steps.stepped profile (Convert conversion bits d) t.situation) (step_keeps profile (Convert conversion bits d) t.situation f spares h)
keeps_way profile slot (Jump distance) way f t spares h = jump_way way f t h
keeps_way profile slot (JumpLong distance) way f t spares h = jump_way way f t h
keeps_way profile slot (Branch width c left right distance) Falls f t spares h = edge_way profile slot Falls f width c left right distance t (edge_keeps f width c left right false t.situation h)
keeps_way profile slot (Branch width c left right distance) Jumps f t spares h = edge_way profile slot Jumps f width c left right distance t (edge_keeps f width c left right true t.situation h)
keeps_way profile slot (Load size d base offset) way f t spares h = stepped_way way f (followed_marking slot (Load size d base offset) t) (steps.stepped profile (Load size d base offset) t.situation) (step_keeps profile (Load size d base offset) t.situation f spares h)
keeps_way profile slot (LoadSigned size d base offset) way f t spares h = stepped_way way f (followed_marking slot (LoadSigned size d base offset) t) (steps.stepped profile (LoadSigned size d base offset) t.situation) (step_keeps profile (LoadSigned size d base offset) t.situation f spares h)
keeps_way profile slot (Store size base offset value) way f t spares h = stepped_way way f (followed_marking slot (Store size base offset value) t) (steps.stepped profile (Store size base offset value) t.situation) (step_keeps profile (Store size base offset value) t.situation f spares h)
keeps_way profile slot (LoadWide d value) way f t spares h = stepped_way way f (followed_marking slot (LoadWide d value) t) (steps.stepped profile (LoadWide d value) t.situation) (step_keeps profile (LoadWide d value) t.situation f spares h)
keeps_way profile slot Exit way f t spares h = exit_way way f (exit t)

-- ---- weaker facts
weaker_has : (k : Kind) (p q : Property) (o : Option Content) → ((a : Estimate) → HasProperty q a → HasProperty p a) → IsKind k q o → IsKind k p o
weaker_has k p q o less h = record { estimate = h.estimate; is = h.is; says = record { proper = h.says.proper; word = h.says.word; has = less h.estimate h.says.has } }

fewer_tail : (m n : ℕ) (t : Option ℕ) → m ≤ n → HasTail n t → HasTail m t
fewer_tail m n None less h = absurd h
fewer_tail m n (Some t) less h = omega (arith, less, h)

weaker_entails : (f g : Fact) (s : Situation) → Weaker f g → Entails s g → Entails s f
weaker_entails f g s (rule.any {k = k} {p = p} place) h = weaker_has k Any p (content_in s place) (λ a held. tt) h
weaker_entails f g s (rule.zero {k = k} {p = p} place) h = weaker_has k (AtLeast 0) p (content_in s place) (λ a held. omega arith) h
weaker_entails f g s (rule.lower {k = k} place m n less) h = weaker_has k (AtLeast m) (AtLeast n) (content_in s place) (λ a held. omega (arith, less, held)) h
weaker_entails f g s (rule.higher {k = k} place m n less) h = weaker_has k (AtMost m) (AtMost n) (content_in s place) (λ a held. omega (arith, less, held)) h
weaker_entails f g s (rule.nearer {k = k} place region m n less) h = weaker_has k (Behind region m) (Behind region n) (content_in s place) (λ a held. fewer_tail m n _ less held) h
weaker_entails f g s (rule.shorter region m n less) h = omega (arith, less, h)

weaker_in : (f g : Fact) (o : Option TrackedSituation) → Weaker f g → EntailsTracked o g → EntailsTracked o f
weaker_in f g None less h = tt
weaker_in f g (Some t) less h = weaker_entails f g t.situation less h

weaker_way : (way : Way) (f g : Fact) (r : Result TrackedWays Refusal) → Weaker f g → OnWay way g r → OnWay way f r
weaker_way way f g (Ok w) less h = weaker_in f g (at_way way w) less h
weaker_way way f g (Err fault) less h = tt

-- ---- tests
kind_high : (k : Kind) (n : ℕ) → n ≤ greatest k → n < 2 ^ 64
kind_high Number n few = omega (arith, few)
kind_high (AddressIn region) n few = omega (arith, few)

fits : (width : Width) (k : Kind) (x : Estimate) (P : Property → Type 0) → Says k Any x → ((p : Property) → P p → HasProperty p x) → Below width P → x.range.high < 2 ^ bits_of width
fits Full k x P says each below = kind_high k x.range.high says.word
fits Narrow k x P says each below = let top : x.range.high ≤ below.0 = each (AtMost below.0) below.1 in omega (arith, top, below.2)

-- what a test of two sides of one kind reads
record IsPair (width : Width) (k : Kind) (left : ℕ) (right : Operand) (s : Situation) (Before : Side → Property → Type 0) : Type 0 where
  x : Estimate
  y : Estimate
  left_is : s.registers left ≡ Some (of_kind k x)
  right_is : right_side width s.registers right ≡ Ok (of_kind k y)
  left_says : Says k Any x
  right_says : Says k Any y
  each : (side : Side) (p : Property) → Before side p → HasProperty p (at_side side x y)
  left_few : x.range.high < 2 ^ bits_of width
  right_few : y.range.high < 2 ^ bits_of width

pair_of : (before : List Fact) (width : Width) (c : Comparison) (way : Way) (k : Kind) (left : ℕ) (right : Operand) (r : Relation) (s : Situation) → AllHold before s → IsTested before width c way k left right r → IsPair width k left right s (Sides before width k left right)
pair_of before width c way k left right r s holds tested =
    let one = one_at before s left k holds (tested.sides Left) in
    let two = one_read k (right_side width s.registers right) (right_holds before s width k right Any holds (tested.sides Right)) in
    let each = side_says before s width k left right one.estimate two.estimate holds one.is two.is in
    record {
      x = one.estimate;
      y = two.estimate;
      left_is = one.is;
      right_is = two.is;
      left_says = one.says;
      right_says = two.says;
      each = each;
      left_few = fits width k one.estimate (Sides before width k left right Left) one.says (each Left) (tested.fit Left);
      right_few = fits width k two.estimate (Sides before width k left right Right) two.says (each Right) (tested.fit Right);
    }

pair_tells : (before : List Fact) (width : Width) (c : Comparison) (way : Way) (k : Kind) (left : ℕ) (right : Operand) (r : Relation) (s : Situation) (side : Side) (p : Property) (tested : IsTested before width c way k left right r) (pair : IsPair width k left right s (Sides before width k left right)) → Tells r (Sides before width k left right) side p → ToldSays k side p (told_on width c (is_taken way) pair.x pair.y)
pair_tells before width c way k left right r s side p tested pair tells =
    told_tells width c (is_taken way) pair.x pair.y r k side p tested.plain tested.relation pair.left_few pair.right_few pair.left_says pair.right_says
    (tells_map r (Sides before width k left right) (λ z q. HasProperty q (at_side z pair.x pair.y)) side p pair.each tells)

-- ---- an operand of 32 bits
record IsLowRead (p : Property) (r : Result Content Refusal) : Type 0 where
  estimate : Estimate
  is : r ≡ Ok (ANumber estimate)
  says : Says Number p estimate
  few : estimate.range.high < 2 ^ 32

low_read : (before : List Fact) (s : Situation) (operand : Operand) (p : Property) → AllHold before s → Reads before operand (Of Number p) → Below Narrow (λ q. Reads before operand (Of Number q)) → IsLowRead p (operand_of s.registers operand)
low_read before s operand p holds there low =
    let y = kind_read p (operand_of s.registers operand) (reads_hold before s operand (Of Number p) holds there) in
    record {
      estimate = y.estimate;
      is = y.is;
      says = y.says;
      few = fits Narrow Number y.estimate (λ q. Reads before operand (Of Number q)) (set_says Number p y.estimate y.says)
          (λ q held. read_says Number q y.estimate (operand_of s.registers operand) y.is (reads_hold before s operand (Of Number q) holds held)) low;
    }

read_value : (v : Value) (r : Result Content Refusal) (c : Content) → IsRead v r → r ≡ Ok c → Has v (Some c)
read_value v r c h is = subst (λ (q : Result Content Refusal). IsRead v q) is h

-- ---- all facts
pub gives_known : (profile : Profile) (before : List Fact) (insn : Insn) (way : Way) (f : Fact) (slot : ℕ) (t : TrackedSituation) → AllHold before t.situation → Gives profile before insn way f → OnWay way f (led profile slot insn t)
unfolding led
gives_known profile before insn way f slot t holds (rule.weaken e g less gives) = weaker_way way e g (led profile slot insn t) less (gives_known profile before insn way g slot t holds gives)
gives_known profile before insn way f slot t holds (rule.keeps e there spares) = keeps_way profile slot insn way e t spares (holds e there)
gives_known profile before insn way f slot t holds (rule.ended e) = exit_way Falls e (exit t)
gives_known profile before insn way f slot t holds (rule.jumped distance e) = tt
gives_known profile before insn way f slot t holds (rule.jumped_long distance e) = tt
gives_known profile before insn way f slot t holds (rule.moves d operand v there) =
    let insn2 = Compute Full operation.Mov d operand in
    stepped_way Falls (Holds (Register d) v) (followed_marking slot insn2 t) (steps.stepped profile insn2 t.situation)
    (move_gives profile d operand t.situation v (reads_hold before t.situation operand v holds there))
gives_known profile before insn way f slot t holds (rule.wide d value p few exact) =
    stepped_way Falls (Holds (Register d) (Of Number p)) (followed_marking slot (LoadWide d value) t) (steps.stepped profile (LoadWide d value) t.situation)
    (wide_gives profile d value t.situation (Of Number p) (record { estimate = constant value; is = refl; says = constant_says p value few exact }))
gives_known profile before insn way f slot t holds (rule.sums {k = k} {l = l} {m = m} {p = p} d operand kinds one other sums) =
    let insn2 = Compute Full operation.Add d operand in
    let x = one_at before t.situation d k holds one in
    let y = one_read l (operand_of t.situation.registers operand) (reads_hold before t.situation operand (Of l Any) holds other) in
    stepped_way Falls (Holds (Register d) (Of m p)) (followed_marking slot insn2 t) (steps.stepped profile insn2 t.situation)
    (add_gives profile d operand t.situation k l m p x.estimate y.estimate kinds x.is y.is x.says y.says
    (sums_map profile Full (At before d k) (λ q. Reads before operand (Of l q)) (λ q. HasProperty q x.estimate) (λ q. HasProperty q y.estimate) p
    (λ q there. at_says before t.situation d k x.estimate q holds x.is there)
    (λ q there. read_says l q y.estimate (operand_of t.situation.registers operand) y.is (reads_hold before t.situation operand (Of l q) holds there)) sums))
gives_known profile before insn way f slot t holds (rule.computes width op d operand differs one other) =
    let insn2 = Compute width op d operand in
    let x = one_at before t.situation d Number holds one in
    let y = one_read Number (operand_of t.situation.registers operand) (reads_hold before t.situation operand (Of Number Any) holds other) in
    stepped_way Falls (Holds (Register d) (Of Number (AtMost (2 ^ bits_of width - 1)))) (followed_marking slot insn2 t) (steps.stepped profile insn2 t.situation)
    (number_gives profile width op d operand t.situation x.estimate y.estimate differs x.is y.is x.says y.says)
gives_known profile before insn way f slot t holds (rule.field d base offset start g k p there at few fields) =
    let insn2 = Load (size_of g) d base offset in
    stepped_way Falls (Holds (Register d) (Of k p)) (followed_marking slot insn2 t) (steps.stepped profile insn2 t.situation)
    (field_gives profile d base offset t.situation start g k p (holds (Holds (Register base) (ContextAt start)) there) at few fields)
gives_known profile before insn way f slot t holds (rule.loads size d base offset region there) =
    let insn2 = Load size d base offset in
    let a = one_at before t.situation base (AddressIn region) holds there in
    stepped_way Falls _ (followed_marking slot insn2 t) (steps.stepped profile insn2 t.situation)
    (bytes_give profile size d base offset t.situation region a.estimate a.is)
gives_known profile before insn way f slot t holds (rule.tells_left {k = k} {p = p} width c left right distance r tested tells) =
    let pair = pair_of before width c way k left right r t.situation holds tested in
    edge_way profile slot way (Holds (Register left) (Of k p)) width c left right distance t
    (edge_left width c left right (is_taken way) t.situation k p pair.x pair.y tested.apart pair.left_is pair.right_is
    (pair_tells before width c way k left right r t.situation Left p tested pair tells))
gives_known profile before insn way f slot t holds (rule.tells_right {k = k} {p = p} width c left right distance r tested tells) =
    let pair = pair_of before width c way k left (Source right) r t.situation holds tested in
    edge_way profile slot way (Holds (Register right) (Of k p)) width c left (Source right) distance t
    (edge_right width c left right (is_taken way) t.situation k p pair.x pair.y tested.apart pair.left_is pair.right_is
    (pair_tells before width c way k left (Source right) r t.situation Right p tested pair tells))
gives_known profile before insn way f slot t holds (rule.tells_long {k = k} width c left right distance r region m n side tested low tail) =
    let pair = pair_of before width c way k left right r t.situation holds tested in
    edge_way profile slot way (Long region (m + n)) width c left right distance t
    (edge_long width c left right (is_taken way) t.situation k region m n side pair.x pair.y tested.apart pair.left_is pair.right_is
    (pair_tells before width c way k left right r t.situation side (AtLeast m) tested pair low)
    (pair_tells before width c way k left right r t.situation side (Behind region n) tested pair tail))
gives_known profile before insn way f slot t holds (rule.never {k = k} width c left right distance r e tested excludes) =
    let pair = pair_of before width c way k left right r t.situation holds tested in
    edge_way profile slot way e width c left right distance t
    (edge_never e width c left right (is_taken way) t.situation k pair.x pair.y tested.apart pair.left_is pair.right_is
    (told_never width c (is_taken way) pair.x pair.y r tested.plain tested.relation pair.left_few pair.right_few
    (excludes_map r (Sides before width k left right) (λ z q. HasProperty q (at_side z pair.x pair.y)) pair.each excludes)))
gives_known profile before insn way f slot t holds (rule.moves_word width d operand there) =
    let insn2 = Compute width operation.Mov d operand in
    let y = one_read Number (operand_of t.situation.registers operand) (reads_hold before t.situation operand (Of Number Any) holds there) in
    stepped_way Falls (Holds (Register d) (Of Number (AtMost (2 ^ bits_of width - 1)))) (followed_marking slot insn2 t) (steps.stepped profile insn2 t.situation)
    (word_moves profile width d operand t.situation y.estimate y.is y.says)
gives_known profile before insn way f slot t holds (rule.moves_low d operand p there low) =
    let insn2 = Compute Narrow operation.Mov d operand in
    let y = low_read before t.situation operand p holds there low in
    stepped_way Falls (Holds (Register d) (Of Number p)) (followed_marking slot insn2 t) (steps.stepped profile insn2 t.situation)
    (low_moves profile d operand t.situation p y.estimate y.is y.says y.few)
gives_known profile before insn way f slot t holds (rule.sums_low {p = p} d operand one other few too sums) =
    let insn2 = Compute Narrow operation.Add d operand in
    let x = one_at before t.situation d Number holds one in
    let y = one_read Number (operand_of t.situation.registers operand) (reads_hold before t.situation operand (Of Number Any) holds other) in
    let First : (q : Property) → At before d Number q → HasProperty q x.estimate = λ q there. at_says before t.situation d Number x.estimate q holds x.is there in
    let Second : (q : Property) → Reads before operand (Of Number q) → HasProperty q y.estimate = λ q there. read_says Number q y.estimate (operand_of t.situation.registers operand) y.is (reads_hold before t.situation operand (Of Number q) holds there) in
    stepped_way Falls (Holds (Register d) (Of Number p)) (followed_marking slot insn2 t) (steps.stepped profile insn2 t.situation)
    (low_adds profile d operand t.situation p x.estimate y.estimate x.is y.is x.says y.says
    (fits Narrow Number x.estimate (At before d Number) x.says First few) (fits Narrow Number y.estimate (λ q. Reads before operand (Of Number q)) y.says Second too)
    (sums_map profile Narrow (At before d Number) (λ q. Reads before operand (Of Number q)) (λ q. HasProperty q x.estimate) (λ q. HasProperty q y.estimate) p First Second sums))
gives_known profile before insn way f slot t holds (rule.negates width d there) =
    let x = one_at before t.situation d Number holds there in
    stepped_way Falls (Holds (Register d) (Of Number (AtMost (2 ^ bits_of width - 1)))) (followed_marking slot (Negate width d) t) (steps.stepped profile (Negate width d) t.situation)
    (negate_gives profile width d t.situation x.estimate x.is)
gives_known profile before insn way f slot t holds (rule.extends extension d source there) =
    let x = one_at before t.situation source Number holds there in
    stepped_way Falls (Holds (Register d) (Of Number (AtMost (2 ^ bits_of (width_of extension) - 1)))) (followed_marking slot (Extend extension d source) t) (steps.stepped profile (Extend extension d source) t.situation)
    (extend_gives profile extension d source t.situation x.estimate x.is)
gives_known profile before insn way f slot t holds (rule.converts conversion bits d there) =
    let x = one_at before t.situation d Number holds there in
    stepped_way Falls (Holds (Register d) (Of Number (AtMost (256 ^ bytes_kept bits - 1)))) (followed_marking slot (Convert conversion bits d) t) (steps.stepped profile (Convert conversion bits d) t.situation)
    (convert_gives profile conversion bits d t.situation x.estimate x.is)
gives_known profile before insn way f slot t holds (rule.loads_signed size d base offset) =
    stepped_way Falls (Holds (Register d) (Of Number (AtMost (2 ^ 64 - 1)))) (followed_marking slot (LoadSigned size d base offset) t) (steps.stepped profile (LoadSigned size d base offset) t.situation)
    (signed_gives profile size d base offset t.situation)
gives_known profile before insn way f slot t holds (rule.spills base offset operand n v place whole there) =
    stepped_way Falls (Holds (Slot (n / 8)) v) (followed_marking slot (Store Double base offset operand) t) (steps.stepped profile (Store Double base offset operand) t.situation)
    (spill_gives profile base offset operand t.situation place.begin n v (holds (Holds (Register base) (StackAt place.begin)) place.holds) place.at place.few whole
    (λ value ev. read_value v (operand_of t.situation.registers operand) value (reads_hold before t.situation operand v holds there) ev))
gives_known profile before insn way f slot t holds (rule.spills_beside base offset operand n e place whole there beside) =
    stepped_way Falls e (followed_marking slot (Store Double base offset operand) t) (steps.stepped profile (Store Double base offset operand) t.situation)
    (spill_keeps profile e base offset operand t.situation place.begin n (holds (Holds (Register base) (StackAt place.begin)) place.holds) place.at place.few whole beside (holds e there))
gives_known profile before insn way f slot t holds (rule.spills_number base offset operand n byte place whole there same) =
    let y = one_read Number (operand_of t.situation.registers operand) (reads_hold before t.situation operand (Of Number Any) holds there) in
    stepped_way Falls (Stored byte) (followed_marking slot (Store Double base offset operand) t) (steps.stepped profile (Store Double base offset operand) t.situation)
    (spill_sets profile base offset operand t.situation place.begin n byte y.estimate (holds (Holds (Register base) (StackAt place.begin)) place.holds) place.at place.few whole y.is
    (λ differ. absurd (differ same)))
gives_known profile before insn way f slot t holds (rule.fills d base offset n v place whole there) =
    stepped_way Falls (Holds (Register d) v) (followed_marking slot (Load Double d base offset) t) (steps.stepped profile (Load Double d base offset) t.situation)
    (fill_gives profile d base offset t.situation place.begin n v (holds (Holds (Register base) (StackAt place.begin)) place.holds) place.at place.few whole (holds (Holds (Slot (n / 8)) v) there))
gives_known profile before insn way f slot t holds (rule.stores size base offset operand n byte place part there low high) =
    let y = one_read Number (operand_of t.situation.registers operand) (reads_hold before t.situation operand (Of Number Any) holds there) in
    stepped_way Falls (Stored byte) (followed_marking slot (Store size base offset operand) t) (steps.stepped profile (Store size base offset operand) t.situation)
    (bytes_set profile size base offset operand t.situation place.begin n byte y.estimate (holds (Holds (Register base) (StackAt place.begin)) place.holds) place.at place.few part y.is low high)
gives_known profile before insn way f slot t holds (rule.stores_beside size base offset operand n e place part there held spared) =
    let y = one_read Number (operand_of t.situation.registers operand) (reads_hold before t.situation operand (Of Number Any) holds there) in
    stepped_way Falls e (followed_marking slot (Store size base offset operand) t) (steps.stepped profile (Store size base offset operand) t.situation)
    (bytes_keep profile e size base offset operand t.situation place.begin n y.estimate (holds (Holds (Register base) (StackAt place.begin)) place.holds) place.at place.few part y.is spared (holds e held))
gives_known profile before insn way f slot t holds (rule.loads_part size d base offset n differs there) =
    stepped_way Falls (Holds (Register d) (Of Number (AtMost (256 ^ bytes_in size - 1)))) (followed_marking slot (Load size d base offset) t) (steps.stepped profile (Load size d base offset) t.situation)
    (part_gives profile size d base offset t.situation n differs (holds (Holds (Register base) (StackAt n)) there))
gives_known profile before insn way f slot t holds (rule.displaces_stack d value begin n there is few) =
    let insn2 = Compute Full operation.Add d (Immediate value) in
    stepped_way Falls (Holds (Register d) (StackAt n)) (followed_marking slot insn2 t) (steps.stepped profile insn2 t.situation)
    (stack_moves profile d value t.situation begin n (holds (Holds (Register d) (StackAt begin)) there) is few)
gives_known profile before insn way f slot t holds (rule.displaces_context d value begin n there is few) =
    let insn2 = Compute Full operation.Add d (Immediate value) in
    stepped_way Falls (Holds (Register d) (ContextAt n)) (followed_marking slot insn2 t) (steps.stepped profile insn2 t.situation)
    (context_moves profile d value t.situation begin n (holds (Holds (Register d) (ContextAt begin)) there) is few)
gives_known profile before insn way f slot t holds (rule.takes {k = k} {p = p} d operand most one other top half takes) =
    let insn2 = Compute Full operation.Sub d operand in
    let x = one_at before t.situation d k holds one in
    let y = one_read Number (operand_of t.situation.registers operand) (reads_hold before t.situation operand (Of Number Any) holds other) in
    let First : (q : Property) → At before d k q → HasProperty q x.estimate = λ q there. at_says before t.situation d k x.estimate q holds x.is there in
    let Second : (q : Property) → Reads before operand (Of Number q) → HasProperty q y.estimate = λ q there. read_says Number q y.estimate (operand_of t.situation.registers operand) y.is (reads_hold before t.situation operand (Of Number q) holds there) in
    let high = Second (AtMost most) top in
    stepped_way Falls (Holds (Register d) (Of k p)) (followed_marking slot insn2 t) (steps.stepped profile insn2 t.situation)
    (take_gives profile d operand t.situation k p x.estimate y.estimate x.is y.is x.says y.says (omega (arith, high, half))
    (takes_both (At before d k) (λ q. Reads before operand (Of Number q)) (λ q. HasProperty q x.estimate) (λ q. HasProperty q y.estimate) p First Second takes))
gives_known profile before insn way f slot t holds (rule.moves_constant d value p exact) =
    let insn2 = Compute Narrow operation.Mov d (Immediate value) in
    stepped_way Falls (Holds (Register d) (Of Number p)) (followed_marking slot insn2 t) (steps.stepped profile insn2 t.situation)
    (constant_moves profile d value t.situation p exact)
gives_known profile before insn way f slot t holds (rule.sums_constant {p = p} d value one few sums) =
    let insn2 = Compute Narrow operation.Add d (Immediate value) in
    let x = one_at before t.situation d Number holds one in
    let First : (q : Property) → At before d Number q → HasProperty q x.estimate = λ q there. at_says before t.situation d Number x.estimate q holds x.is there in
    stepped_way Falls (Holds (Register d) (Of Number p)) (followed_marking slot insn2 t) (steps.stepped profile insn2 t.situation)
    (constant_adds profile d value t.situation p x.estimate x.is x.says (fits Narrow Number x.estimate (At before d Number) x.says First few)
    (sums_map profile Narrow (At before d Number) (Exactly (cut Narrow (cast_unsigned w64 value))) (λ q. HasProperty q x.estimate) (Exactly (cut Narrow (cast_unsigned w64 value))) p First (λ q h. h) sums))
