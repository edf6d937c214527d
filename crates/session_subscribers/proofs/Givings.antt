-- How items that are given add up.
use Rattle.std.proofs.Common.{◌≡◌, ℕ, ◌+◌, ◌<◌, ◌≤◌, List, [], ◌∷◌, ◌++◌, arith, refl, sym, ap, subst, ◌∙◌, append_assoc, append-nil, length-append, drop}
use Rattle.std.specs.Prelude.{Result, Ok, Err, OnErr}
use Rattle.std.specs.List.{flat_map}
use Rattle.std.proofs.lemmas.List.Concat.{flat_map-append}
use mathlib.Core.List.{IsPrefix}
use Rattle.span_flatten.specs.Version.{Version}
use Rattle.version_history.specs.Tokens.{Token}
use Rattle.feeds.specs.Batches.{Item, items_of}
use Rattle.stream_readers.specs.Readers.{Reader, Reads}
use Rattle.stream_readers.proofs.Readings.{read_none, read_both}
use Rattle.session_lines.specs.Replies.{reply_text}
use Rattle.session_lines.specs.declared.reply.Reply.{Reply}
use Rattle.session_subscribers.specs.Items.{item_reply, item_line, Takes, TakesShort, Gives, GivesShort}

-- what is printed for some, and then for others
printed_both : (one more : List Item) (out out' out'' : List ℕ) → out' ≡ out ++ flat_map item_line one → out'' ≡ out' ++ flat_map item_line more → out'' ≡ out ++ flat_map item_line (one ++ more)
printed_both one more out out' out'' first second =
    second ∙ ap (λ l. l ++ flat_map item_line more) first ∙ append_assoc out (flat_map item_line one) (flat_map item_line more) ∙ ap (λ l. out ++ l) (sym (flat_map-append item_line one more))

-- ---- of what is pending
pub takes_none : (r : Reader) (out : List ℕ) → Takes 0 r r out out
takes_none r out = record { items = []; program = refl; next = refl; pending = refl; printed = sym (append-nil out); many = refl }

-- one item more is given, and its line appended
pub takes_more : (n : ℕ) (item : Item) (reply : Reply) (a b c : Reader) (out out' out'' : List ℕ) → Takes n a b out out' → c.program ≡ b.program → c.next ≡ b.next → b.pending ≡ item ∷ c.pending → reply ≡ item_reply item.what
    → out'' ≡ out' ++ (reply_text reply ++ 10 ∷ []) → Takes (n + 1) a c out out''
takes_more n item reply a b c out out' out'' taken program next pending is printed = record {
  items = taken.items ++ item ∷ [];
  program = program ∙ taken.program;
  next = next ∙ taken.next;
  pending = taken.pending ∙ ap (λ l. taken.items ++ l) pending ∙ sym (append_assoc taken.items (item ∷ []) c.pending);
  printed =
      let line : out'' ≡ out' ++ flat_map item_line (item ∷ []) = printed ∙ ap (λ r. out' ++ (reply_text r ++ 10 ∷ [])) is ∙ ap (λ l. out' ++ l) (sym (append-nil (item_line item))) in
      printed_both taken.items (item ∷ []) out out' out'' taken.printed line;
  many = omega (arith, length-append taken.items (item ∷ []), taken.many);
}

-- or its line isn't
pub takes_unshown : (n most : ℕ) (item : Item) (a b c : Reader) (out out' out'' : List ℕ) → n < most → Takes n a b out out' → c.program ≡ b.program → c.next ≡ b.next → b.pending ≡ item ∷ c.pending → out'' ≡ out'
    → TakesShort most a c out out''
takes_unshown n most item a b c out out' out'' lt taken program next pending same = record {
  shown = taken.items;
  unshown = item ∷ [];
  program = program ∙ taken.program;
  next = next ∙ taken.next;
  pending = taken.pending ∙ ap (λ l. taken.items ++ l) pending ∙ sym (append_assoc taken.items (item ∷ []) c.pending);
  printed = same ∙ taken.printed;
  few = omega (arith, taken.many, lt);
  last = omega arith;
}

-- the batch of a version isn't empty
not_empty : (xs : List Item) (x : Item) → xs ++ x ∷ [] ≡ [] → ⊥
not_empty [] x e = cc
not_empty (y ∷ xs) x e = cc

-- ---- of the versions that there are
module _ (all : List (Token Version)) where
  -- nothing is judged where pending items are given
  reads_pending : (items : List Item) (a b : Reader) → b.program ≡ a.program → b.next ≡ a.next → a.pending ≡ items ++ b.pending → Reads all a items b
  reads_pending items a b program next pending = record {
    versions = [];
    are = (drop a.next all, refl);
    program = program;
    next = omega (arith, next);
    joined = sym pending ∙ sym (append-nil a.pending);
  }

  pub takes_gives : (n : ℕ) (a b : Reader) (out out' : List ℕ) → Takes n a b out out' → Gives all n a b out out'
  takes_gives n a b out out' taken = record {
    items = taken.items;
    reads = reads_pending taken.items a b taken.program taken.next taken.pending;
    printed = taken.printed;
    many = taken.many;
  }

  pub short_gives : (most : ℕ) (a b : Reader) (out out' : List ℕ) → TakesShort most a b out out' → GivesShort all most a b out out'
  short_gives most a b out out' taken = record {
    shown = taken.shown;
    unshown = taken.unshown;
    reads = reads_pending (taken.shown ++ taken.unshown) a b taken.program taken.next taken.pending;
    printed = taken.printed;
    few = taken.few;
    last = taken.last;
  }

  pub gives_none : (r : Reader) (out : List ℕ) → Gives all 0 r r out out
  gives_none r out = record { items = []; reads = read_none all r; printed = sym (append-nil out); many = refl }

  pub gives_both : (n m k : ℕ) (a b c : Reader) (out out' out'' : List ℕ) → k ≡ n + m → Gives all n a b out out' → Gives all m b c out' out'' → Gives all k a c out out''
  gives_both n m k a b c out out' out'' is one two = record {
    items = one.items ++ two.items;
    reads = read_both all a b c one.items two.items one.reads two.reads;
    printed = printed_both one.items two.items out out' out'' one.printed two.printed;
    many = omega (arith, length-append one.items two.items, one.many, two.many, is);
  }

  -- items are given before
  pub given_short : (n m most : ℕ) (a b c : Reader) (out out' out'' : List ℕ) → n + m ≤ most → Gives all n a b out out' → GivesShort all m b c out' out'' → GivesShort all most a c out out''
  given_short n m most a b c out out' out'' le one two = record {
    shown = one.items ++ two.shown;
    unshown = two.unshown;
    reads = subst (λ l. Reads all a l c) (sym (append_assoc one.items two.shown two.unshown)) (read_both all a b c one.items (two.shown ++ two.unshown) one.reads two.reads);
    printed = printed_both one.items two.shown out out' out'' one.printed two.printed;
    few = omega (arith, length-append one.items two.shown, one.many, two.few, le);
    last = two.last;
  }

  -- a version more is judged
  pub one_judged : (version : Token Version) (a b : Reader) (out : List ℕ) → IsPrefix (version ∷ []) (drop a.next all) → a.pending ≡ [] → b ≡ record { program = a.program; next = a.next + 1; pending = items_of a.program version } → Gives all 0 a b out out
  one_judged version a b out here none is = record {
    items = [];
    reads = record {
      versions = version ∷ [];
      are = here;
      program = ap (λ (r : Reader). r.program) is;
      next = ap (λ (r : Reader). r.next) is;
      joined = ap (λ (r : Reader). r.pending) is ∙ sym (append-nil (items_of a.program version)) ∙ ap (λ l. l ++ (items_of a.program version ++ [])) (sym none);
    };
    printed = sym (append-nil out);
    many = refl;
  }

-- what is so where an error is answered, whichever it is
pub where_err : {T E : Type 0} (r : Result T E) (P : Type 0) → P → OnErr r P
where_err (Ok t) P p = tt
where_err (Err e) P p = p
