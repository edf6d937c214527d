-- What is known of an input of changes goes on from piece to piece, to its end.
use Rattle.std.proofs.Common.{◌≡◌, ◌≢◌, ℕ, ◌+◌, ◌<◌, ◌≤◌, List, [], ◌∷◌, ◌++◌, length, take, drop, get_or, Option, Some, None, refl, sym, ap, subst, ◌∙◌, append_assoc, length-append, arith}
use Rattle.std.specs.Prelude.{Bool, true, false, not, is_some, Result, Ok, Err, IfSome, OnOk}
use Rattle.span_flatten.specs.Spans.{Span, AreSpans}
use Rattle.span_lines.specs.SpanLines.{span_lines}
use Rattle.change_history.specs.Accepted.{operations_of}
use Rattle.hub_commands.specs.Answers.{Answer, IsWritten, IsAnswered, done}
use Rattle.hub_commands.specs.Hints.{text_hint}
use Rattle.hub_commands.specs.declared.hint.Hint.{Hint}
use Rattle.hub_commands.specs.declared.changes_input.ChangesInput.{ChangesInput}
use Rattle.std.specs.Str.{IsUtf8}
use Rattle.std.proofs.lemmas.List.{append-nil, take-append-drop, length-take-le, get_or-take, take_at, drop_at, get_or_append_left, get_or-append-add}
use Rattle.std.proofs.lemmas.Str.{IsUtf8-nil, IsUtf8-append, IsUtf8-take, IsUtf8-drop, IsCharBoundary-at_seam, IsCharBoundary-from_take, IsCharBoundary-after_ascii}
use Rattle.change_ops.specs.Changes.{Change}
use Rattle.change_ops.specs.declared.size.Size.{Size}
use Rattle.change_ops.specs.Spelling.{change_text}
use Rattle.change_ops.specs.declared.refusal.ChangeError.TheVariants.{Truncated}
use Rattle.refusals.specs.declared.reason.ChangeReason.{ChangeReason}
use Rattle.refusals.specs.declared.reason.Reason.TheVariants.{Unread}
use Rattle.hub_commands.specs.SpansReply.{Begins, IsStopped, unread, unaccepted, Stops, IsSpansReply, no_text, shown, stopped}
use Rattle.hub_commands.specs.Stopping.{StopsAt, Takes}
use Rattle.hub_commands.specs.declared.spans.Stop.{Stop}
use Rattle.hub_commands.specs.declared.spans.Stop.TheVariants as stop
use Rattle.hub_commands.specs.ChangesInput.{IsTextUpTo, Advances, EndsWith, TakesLines, Holds, Concludes, IsChangesInput, IsWholeInput, fault_reply}
use Rattle.hub_commands.specs.declared.changes_input.Fault.{Fault}
use Rattle.hub_commands.specs.declared.changes_input.Fault.TheVariants.{NotText, Change as BadChange}
use Rattle.hub_commands.proofs.Appending.{refused_more, spells_more}
use Rattle.hub_commands.proofs.Accepting.{begins_more}

-- ---- a text in two parts
utf8_front : (bs xs ys : List ℕ) → bs ≡ xs ++ ys → IsUtf8 bs → IsUtf8 ys → IsUtf8 xs
utf8_front bs xs ys e all behind =
    let first : take (length xs) bs ≡ xs = ap (λ (l : List ℕ). take (length xs) l) e ∙ take_at xs ys (length xs) refl in
    subst IsUtf8 first (IsUtf8-take bs (length xs) all (IsCharBoundary-at_seam bs xs ys e behind))

utf8_rest : (bs xs ys : List ℕ) → bs ≡ xs ++ ys → IsUtf8 bs → IsUtf8 xs → IsUtf8 ys
utf8_rest bs xs ys e all front =
    let first : take (length xs) bs ≡ xs = ap (λ (l : List ℕ). take (length xs) l) e ∙ take_at xs ys (length xs) refl in
    let last : drop (length xs) bs ≡ ys = ap (λ (l : List ℕ). drop (length xs) l) e ∙ drop_at xs ys (length xs) refl in
    let short : length xs ≤ length bs = omega (arith, ap length e, length-append xs ys) in
    subst IsUtf8 last (IsUtf8-drop bs (length xs) all (IsCharBoundary-from_take bs (length xs) all short (subst IsUtf8 (sym first) front)))

utf8_both : (bs xs ys : List ℕ) → bs ≡ xs ++ ys → IsUtf8 xs → IsUtf8 ys → IsUtf8 bs
utf8_both bs xs ys e front behind = subst IsUtf8 (sym e) (IsUtf8-append xs ys front behind)

-- what is cut behind a line feed
utf8_lines : (bs lines behind : List ℕ) (last : ℕ) → bs ≡ lines ++ behind → length lines ≡ last + 1 → get_or lines last 0 ≡ 10 → IsUtf8 bs → IsUtf8 lines
utf8_lines bs lines behind last e long feed all =
    let n = last + 1 in
    let short : last < length bs = omega (arith, ap length e, length-append lines behind) in
    let there : get_or bs last 0 ≡ 10 = ap (λ (l : List ℕ). get_or l last 0) e ∙ get_or_append_left lines behind 0 last (omega arith) ∙ feed in
    let first : take n bs ≡ lines = ap (λ (l : List ℕ). take n l) e ∙ take_at lines behind n long in
    subst IsUtf8 first (IsUtf8-take bs n all (IsCharBoundary-after_ascii bs last all short (omega (arith, there))))

-- ---- changes one behind the other
pub advances_none : (size : Size) (old : List Change) (text : List ℕ) → Advances size old text old text
advances_none size old text = record { taken = record { before = []; whole = refl; text = IsUtf8-nil }; follows = λ input behind front. front }

takes_more : (size : Size) (old new : List Change) (text rest behind : List ℕ) → Takes size old text new rest → Takes size old (text ++ behind) new (rest ++ behind)
takes_more size old new text rest behind t = record { change = t.change; spells = spells_more behind text t.change rest t.spells; accepted = t.accepted; more = t.more }

pub advances_more : (size : Size) (old mid new : List Change) (text rest after : List ℕ) → Advances size old text mid rest → Takes size mid rest new after → IsUtf8 rest → IsUtf8 after → Advances size old text new after
advances_more size old mid new text rest after a t whole left =
    let one = change_text t.change in
    let split : rest ≡ one ++ after = t.spells.1 in
    record {
      taken = record {
        before = a.taken.before ++ one;
        whole = a.taken.whole ∙ ap (λ (l : List ℕ). a.taken.before ++ l) split ∙ sym (append_assoc a.taken.before one after);
        text = IsUtf8-append a.taken.before one a.taken.text (utf8_front rest one after split whole left);
      };
      follows = λ input behind front. begins_more size input (rest ++ behind) (after ++ behind) mid new (a.follows input behind front) (takes_more size mid new rest after behind t);
    }

-- ---- where the changes stop
pub stopped_there : (size : Size) (old new : List Change) (text : List ℕ) (why : Stop) (reason : ChangeReason) → why ≡ stop.Refused reason → text ≢ [] → new ≡ old → StopsAt size old text why → EndsWith size new text (Some reason)
stopped_there size old new text why reason is some same here =
    let P : Stop → Type 0 = λ s. StopsAt size old text s in
    let because : IsStopped size old text reason = subst P is here in
    let Q : List Change → Type 0 = λ changes. IsStopped size changes text reason in
    (some, subst Q (sym same) because)

stopped_more : (size : Size) (changes : List Change) (text behind : List ℕ) (reason : ChangeReason) → reason.reason ≢ Unread Truncated → IsStopped size changes text reason → IsStopped size changes (text ++ behind) reason
stopped_more size changes text behind reason other (unread error fault is) =
    unread error (refused_more behind text error fault (λ same. other (ap (λ (r : ChangeReason). r.reason) is ∙ ap Unread same))) is
stopped_more size changes text behind reason other (unaccepted change rest error spells because right is) =
    unaccepted change (rest ++ behind) error (spells_more behind text change rest spells) because right is

some_more : (text behind : List ℕ) → text ≢ [] → text ++ behind ≢ []
some_more [] behind some = absurd (some refl)
some_more (byte ∷ text) behind some = λ same. cc

pub lines_refused : (size : Size) (old new : List Change) (lines rest : List ℕ) (reason : ChangeReason) → Advances size old lines new rest → EndsWith size new rest (Some reason) → reason.reason ≢ Unread Truncated
    → (input behind : List ℕ) → Begins size input old (lines ++ behind) → Stops size input reason
lines_refused size old new lines rest reason a stop other input behind front = record {
  changes = new;
  rest = rest ++ behind;
  before = a.follows input behind front;
  left = some_more rest behind stop.0;
  here = stopped_more size new rest behind reason other stop.1;
}

-- ---- from piece to piece
up_to_more : (input left piece : List ℕ) → IsTextUpTo input left → IsTextUpTo (input ++ piece) (left ++ piece)
up_to_more input left piece t = record { before = t.before; whole = ap (λ (l : List ℕ). l ++ piece) t.whole ∙ append_assoc t.before left piece; text = t.text }

begins_longer : (size : Size) (input left piece : List ℕ) (changes : List Change) → Begins size input changes left → Begins size (input ++ piece) changes (left ++ piece)
begins_longer size input left piece changes b = record { spelt = ap (λ (l : List ℕ). l ++ piece) b.spelt ∙ append_assoc _ left piece; limited = b.limited; accepted = b.accepted }

pub pushed : (size : Size) (input left piece : List ℕ) (changes : List Change) (fault : Option Fault) → Holds size input changes left fault → Holds size (input ++ piece) changes (left ++ piece) fault
pushed size input left piece changes None h = (up_to_more input left piece h.0, begins_longer size input left piece changes h.1)
pushed size input left piece changes (Some NotText) h = λ more. subst (λ (l : List ℕ). ¬ (IsUtf8 l)) (sym (append_assoc input piece more)) (h (piece ++ more))
pushed size input left piece changes (Some (BadChange reason)) h =
    (up_to_more input left piece h.0, λ more. subst (λ (l : List ℕ). Stops size l reason) (sym (append_assoc input piece more)) (h.1 (piece ++ more)))

pub pushed_no_text : (size : Size) (input left piece : List ℕ) (changes : List Change) → Holds size input changes left (Some NotText) → Holds size (input ++ piece) changes left (Some NotText)
pushed_no_text size input left piece changes h = pushed size input left piece changes (Some NotText) h

-- what is kept of an input for a document of the size
pub held_at : (size : Size) (input : List ℕ) (kept : ChangesInput) → IsChangesInput size input kept → Holds size input kept.history.changes kept.left.items kept.fault
held_at size input kept read =
    let P : Size → Type 0 = λ s. Holds s input kept.history.changes kept.left.items kept.fault in
    subst P read.of read.held

-- ---- lines that have ended
pub record IsCut (left lines behind : List ℕ) (last : ℕ) : Type 0 where
  pub split : left ≡ lines ++ behind
  pub long : length lines ≡ last + 1
  pub feed : get_or lines last 0 ≡ 10

pub cut_here : (left lent again lines behind : List ℕ) (last : ℕ) → lent ≡ left → again ≡ left → lines ≡ take (last + 1) again → behind ≡ drop (last + 1) again
    → last < length lent → get_or lent last 0 ≡ 10 → IsCut left lines behind last
cut_here left lent again lines behind last is is_again front back small feed =
    let n = last + 1 in
    let first : lines ≡ take n left = front ∙ ap (λ (l : List ℕ). take n l) is_again in
    let other : behind ≡ drop n left = back ∙ ap (λ (l : List ℕ). drop n l) is_again in
    let enough : n ≤ length left = omega (arith, ap length is) in
    record {
      split = sym (take-append-drop n left) ∙ ap (λ (l : List ℕ). l ++ drop n left) (sym first) ∙ ap (λ (l : List ℕ). lines ++ l) (sym other);
      long = ap length first ∙ length-take-le n left enough;
      feed = ap (λ (l : List ℕ). get_or l last 0) first ∙ get_or-take n left last 0 (omega arith) ∙ ap (λ (l : List ℕ). get_or l last 0) (sym is) ∙ feed;
    }

module _ (size : Size) (input left lines behind : List ℕ) (split : left ≡ lines ++ behind) where
  past_lines : IsTextUpTo input left → IsUtf8 lines → IsTextUpTo input behind
  past_lines t text = record {
    before = t.before ++ lines;
    whole = t.whole ∙ ap (λ (l : List ℕ). t.before ++ l) split ∙ sym (append_assoc t.before lines behind);
    text = IsUtf8-append t.before lines t.text text;
  }

  pub held_advanced : (old new : List Change) (rest : List ℕ) → Holds size input old left None → Advances size old lines new rest → Holds size input new (rest ++ behind) None
  held_advanced old new rest h a =
      let seam : lines ++ behind ≡ a.taken.before ++ (rest ++ behind) = ap (λ (l : List ℕ). l ++ behind) a.taken.whole ∙ append_assoc a.taken.before rest behind in
      let before = h.0.before in (
        record {
          before = before ++ a.taken.before;
          whole = h.0.whole ∙ ap (λ (l : List ℕ). before ++ l) (split ∙ seam) ∙ sym (append_assoc before a.taken.before (rest ++ behind));
          text = IsUtf8-append before a.taken.before h.0.text a.taken.text;
        },
        a.follows input behind (subst (λ (l : List ℕ). Begins size input old l) split h.1),
      )

  pub held_refused : (old new : List Change) (reason : ChangeReason) → Holds size input old left None → IsUtf8 lines → ((whole after : List ℕ) → Begins size whole old (lines ++ after) → Stops size whole reason)
      → Holds size input new behind (Some (BadChange reason))
  held_refused old new reason h text stops = (
    past_lines h.0 text,
    λ more.
        let longer : Begins size (input ++ more) old (left ++ more) = begins_longer size input left more old h.1 in
        let seam : left ++ more ≡ lines ++ (behind ++ more) = ap (λ (l : List ℕ). l ++ more) split ∙ append_assoc lines behind more in
        stops (input ++ more) (behind ++ more) (subst (λ (l : List ℕ). Begins size (input ++ more) old l) seam longer),
  )

  pub held_behind : (changes : List Change) (fault : Option Fault) → fault ≢ None → Holds size input changes left fault → IsUtf8 lines → Holds size input changes behind fault
  held_behind changes None some h text = absurd (some refl)
  held_behind changes (Some NotText) some h text = h
  held_behind changes (Some (BadChange reason)) some h text = (past_lines h.0 text, h.1)

  module _ (last : ℕ) (long : length lines ≡ last + 1) (feed : get_or lines last 0 ≡ 10) (wrong : ¬ (IsUtf8 lines)) where
    no_text_here : IsTextUpTo input left → (more : List ℕ) → ¬ (IsUtf8 (input ++ more))
    no_text_here t more all =
        let front = t.before ++ lines in
        let whole : input ++ more ≡ front ++ (behind ++ more) =
        ap (λ (l : List ℕ). l ++ more) (t.whole ∙ ap (λ (l : List ℕ). t.before ++ l) split ∙ sym (append_assoc t.before lines behind)) ∙ append_assoc front behind more in
        let long_front : length front ≡ (length t.before + last) + 1 = omega (arith, length-append t.before lines) in
        let there : get_or front (length t.before + last) 0 ≡ 10 = get_or-append-add t.before lines last 0 ∙ feed in
        let text : IsUtf8 front = utf8_lines (input ++ more) front (behind ++ more) (length t.before + last) whole long_front there all in
        wrong (utf8_rest front t.before lines refl text t.text)

    pub held_no_text : (changes : List Change) (fault : Option Fault) → Holds size input changes left fault → Holds size input changes left (Some NotText)
    held_no_text changes None h = no_text_here h.0
    held_no_text changes (Some NotText) h = h
    held_no_text changes (Some (BadChange reason)) h = no_text_here h.0

  -- what the calls give where no fault is known yet
  module _ (old new : List Change) (rest : List ℕ) (fault : Option Fault) (refusal : Option ChangeReason) (none : fault ≡ None) (h : Holds size input old left fault)
      (taken : TakesLines size old lines new rest refusal) where
    unhurt : Holds size input old left None
    unhurt = let P : Option Fault → Type 0 = λ f. Holds size input old left f in subst P none h

    pub read_on : refusal ≡ None → Holds size input new (rest ++ behind) fault
    read_on is =
        let P : Option ChangeReason → Type 0 = λ r. TakesLines size old lines new rest r in
        let Q : Option Fault → Type 0 = λ f. Holds size input new (rest ++ behind) f in
        subst Q (sym none) (held_advanced old new rest unhurt (subst P is taken))

    pub read_fault : (reason : ChangeReason) → IsUtf8 lines → refusal ≡ Some reason → Holds size input new (rest ++ behind) (Some (BadChange reason))
    read_fault reason text is =
        let P : Option ChangeReason → Type 0 = λ r. TakesLines size old lines new rest r in
        let Q : List ℕ → Type 0 = λ l. Holds size input new (l ++ behind) (Some (BadChange reason)) in
        let found : TakesLines size old lines new rest (Some reason) = subst P is taken in
        subst Q (sym found.0) (held_refused old new reason unhurt text found.1)

-- ---- the end of the input
pub none_left : (rest : List ℕ) → length rest ≡ 0 → rest ≡ []
none_left [] e = refl
none_left (byte ∷ rest) e = absurd (omega arith)

module _ (size : Size) (input left : List ℕ) where
  pub concluded_no_text : (changes : List Change) → Holds size input changes left (Some NotText) → Concludes size input changes (Some NotText)
  concluded_no_text changes h = subst (λ (l : List ℕ). ¬ (IsUtf8 l)) (append-nil input) (h [])

  pub concluded_left : (changes : List Change) (fault : Option Fault) → ¬ (IsUtf8 left) → Holds size input changes left fault → Concludes size input changes (Some NotText)
  concluded_left changes None wrong h = λ all. wrong (utf8_rest input h.0.before left h.0.whole all h.0.text)
  concluded_left changes (Some NotText) wrong h = concluded_no_text changes h
  concluded_left changes (Some (BadChange reason)) wrong h = λ all. wrong (utf8_rest input h.0.before left h.0.whole all h.0.text)

  pub concluded_before : (changes : List Change) (fault : Option Fault) → fault ≢ None → IsUtf8 left → Holds size input changes left fault → Concludes size input changes fault
  concluded_before changes None some text h = absurd (some refl)
  concluded_before changes (Some NotText) some text h = concluded_no_text changes h
  concluded_before changes (Some (BadChange reason)) some text h =
      (utf8_both input h.0.before left h.0.whole h.0.text text, subst (λ (l : List ℕ). Stops size l reason) (append-nil input) (h.1 []))

  ends_at : (old new : List Change) (rest : List ℕ) → Holds size input old left None → Advances size old left new rest → Begins size input new rest
  ends_at old new rest h a =
      subst (λ (l : List ℕ). Begins size input new l) (append-nil rest) (a.follows input [] (subst (λ (l : List ℕ). Begins size input old l) (sym (append-nil left)) h.1))

  pub concluded_all : (old new : List Change) (rest : List ℕ) → Holds size input old left None → Advances size old left new rest → EndsWith size new rest None → Concludes size input new None
  concluded_all old new rest h a none = subst (λ (l : List ℕ). Begins size input new l) none (ends_at old new rest h a)

  pub concluded_refused : (old new : List Change) (rest : List ℕ) (reason : ChangeReason) → IsUtf8 left → Holds size input old left None → Advances size old left new rest → EndsWith size new rest (Some reason)
      → Concludes size input new (Some (BadChange reason))
  concluded_refused old new rest reason text h a stop =
      (utf8_both input h.0.before left h.0.whole h.0.text text, record { changes = new; rest = rest; before = ends_at old new rest h a; left = stop.0; here = stop.1 })

  -- what the calls at the end give
  module _ (old new : List Change) (text rest : List ℕ) (fault : Option Fault) (refusal : Option ChangeReason) (lent : text ≡ left) (none : fault ≡ None) (h : Holds size input old left fault)
      (taken : Advances size old text new rest) (stop : EndsWith size new rest refusal) where
    fine : Holds size input old left None
    fine = let P : Option Fault → Type 0 = λ f. Holds size input old left f in subst P none h

    over : Advances size old left new rest
    over = let P : List ℕ → Type 0 = λ l. Advances size old l new rest in subst P lent taken

    pub ended_all : refusal ≡ None → Concludes size input new fault
    ended_all is =
        let P : Option ChangeReason → Type 0 = λ r. EndsWith size new rest r in
        let Q : Option Fault → Type 0 = λ f. Concludes size input new f in
        subst Q (sym none) (concluded_all old new rest fine over (subst P is stop))

    pub ended_refused : (reason : ChangeReason) → IsUtf8 left → refusal ≡ Some reason → Concludes size input new (Some (BadChange reason))
    ended_refused reason text is =
        let P : Option ChangeReason → Type 0 = λ r. EndsWith size new rest r in
        concluded_refused old new rest reason text fine over (subst P is stop)

-- ---- what an option is, by its tests
pub none_of : {X : Type 0} (o : Option X) → ((x : X) → o ≡ Some x → ⊥) → o ≡ None
none_of None other = refl
none_of (Some x) other = absurd (other x refl)

pub is_unset : {X : Type 0} (o : Option X) (b : Bool) → is_some o ≡ not b → b ≡ true → o ≡ None
is_unset None b e is = refl
is_unset (Some x) true e is = absurd cc
is_unset (Some x) false e is = absurd cc

pub is_set : {X : Type 0} (o : Option X) (b : Bool) → is_some o ≡ not b → b ≡ false → o ≢ None
is_set None true e is = absurd cc
is_set None false e is = absurd cc
is_set (Some x) b e is = λ none. cc

pub no_some : {X : Type 0} (o : Option X) → is_some o ≡ false → o ≡ None
no_some None e = refl
no_some (Some x) e = absurd cc

pub not_none : {X : Type 0} (o : Option X) → is_some o ≡ true → o ≢ None
not_none None e = absurd cc
not_none (Some x) e = λ none. cc

-- ---- what is answered
pub answers_fault : (size : Size) (input : List ℕ) (changes : List Change) (known : Option Fault) (fault : Fault) (reply : Answer) → known ≡ Some fault → reply ≡ fault_reply fault → Concludes size input changes known
    → IsSpansReply size input reply
answers_fault size input changes known NotText reply is e h =
    let P : Option Fault → Type 0 = λ f. Concludes size input changes f in
    no_text (subst P is h) e
answers_fault size input changes known (BadChange reason) reply is e h =
    let P : Option Fault → Type 0 = λ f. Concludes size input changes f in
    let found : IsUtf8 input × Stops size input reason = subst P is h in
    stopped reason found.0 found.1 e

pub answers_spans : (size : Size) (input : List ℕ) (changes : List Change) (known : Option Fault) (reply : Answer) → known ≡ None
    → ((spans : List Span) × AreSpans (operations_of changes) spans × (reply ≡ done (span_lines spans))) → Concludes size input changes known → IsSpansReply size input reply
answers_spans size input changes known reply is made h =
    let P : Option Fault → Type 0 = λ f. Concludes size input changes f in
    shown changes made.0 (subst P is h) made.1 made.2

-- ---- a reply to what was read of a known input
pub whole_answered : (size : Size) (known old new : Option (List ℕ)) (kept : ChangesInput) (reply : Answer) (status : ℕ) → IfSome known (λ input. IsWholeInput size input kept)
    → ((size : Size) (input : List ℕ) → IsWholeInput size input kept → IsSpansReply size input reply) → IsWritten reply old new status → IsAnswered (IsSpansReply size) known old new status
whole_answered size None old new kept reply status read is written = tt
whole_answered size (Some input) old new kept reply status read is written = (reply, is size input read, written)

pub whole_hinted : (size : Size) (known : Option (List ℕ)) (kept : ChangesInput) (hint : Option Hint) → IfSome known (λ input. IsWholeInput size input kept)
    → ((size : Size) (input : List ℕ) → IsWholeInput size input kept → hint ≡ text_hint input) → IfSome known (λ input. hint ≡ text_hint input)
whole_hinted size None kept hint read is = tt
whole_hinted size (Some input) kept hint read is = is size input read

pub whole_read : (size : Size) (known : Option (List ℕ)) (kept more : ChangesInput) → IfSome known (λ input. IsChangesInput size input kept)
    → ((size : Size) (input : List ℕ) → IsChangesInput size input kept → IsWholeInput size input more) → IfSome known (λ input. IsWholeInput size input more)
whole_read size None kept more read is = tt
whole_read size (Some input) kept more read is = is size input read

pub on_ok : {A E : Type 0} (P Q : Type 0) (result : Result A E) → OnOk result P → (P → Q) → OnOk result Q
on_ok P Q (Ok x) h f = f h
on_ok P Q (Err e) h f = tt
