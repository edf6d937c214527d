-- How the lines of a change are gathered, and what comes of them.
use Rattle.std.proofs.Common.{◌≡◌, ℕ, ◌+◌, ◌<◌, Bool, true, false, List, [], ◌∷◌, ◌++◌, length, map, Option, Result, All, refl, sym, ap, subst, ◌∙◌, arith, length-append, append_assoc}
use Rattle.std.specs.Prelude.{IsTrue, IsFalse}
use Rattle.std.specs.Io.KnownBytes.{Consumes}
use Rattle.std.proofs.KnownBytes.{Consumes-nil, Consumes-trans}
use Rattle.std.proofs.lemmas.List.{append-nil, map-append}
use Rattle.std.proofs.lemmas.List.Concat.{flat_map-append}
use Rattle.std.proofs.lemmas.List.Elements.{All-push, All-cons}
use Rattle.change_ops.specs.Changes.{Change}
use Rattle.change_ops.specs.declared.refusal.ChangeError.{ChangeError}
use Rattle.session_lines.specs.Lines.{LineReader, IsLine, Arrives, joined}
use Rattle.session_lines.specs.Foreign.{is_foreign}
use Rattle.session_lines.specs.Changes.{is_header, right_header, followers, legible, text_of}
use Rattle.session_lines.specs.Gathering.{IsSettled, KeepsLine, IsReadAs, Gathers}
use Rattle.session_lines.specs.Requests.{changed, IsRead, ChangeLines, change, cut, long_within, GoesOn}
use Rattle.session_lines.proofs.Lining.{over_since}
use Rattle.session_lines.proofs.Settled.{read_on}
use Rattle.session_lines.specs.declared.reader.Arrival.TheVariants as arrival
use Rattle.session_lines.specs.declared.request.Gathered.TheVariants.{AllThere, Cut, TooLong}
use Rattle.session_lines.specs.declared.request.Next.{Next}
use Rattle.session_lines.specs.declared.request.Next.TheVariants as next

-- `count` lines were gathered; the text is that of all of them, or what is read of it is settled by some of them
pub record GatheredSoFar (settled : Bool) (count : ℕ) (old : Option (List ℕ)) (had : List ℕ) (now : Option (List ℕ)) (text : List ℕ) : Type 0 where
  pub lines : List (List ℕ)
  pub are_lines : All IsLine lines
  pub many : length lines ≡ count
  pub front : Consumes old now (joined lines)
  pub more : List ℕ
  pub whole : had ++ text_of lines ≡ text ++ more
  pub kept : settled ≡ false → more ≡ []
  pub read : settled ≡ true → IsSettled text

pub gathered_none : (old : Option (List ℕ)) (had : List ℕ) → GatheredSoFar false 0 old had old had
gathered_none old had = record {
  lines = [];
  are_lines = λ k d lt. absurd (omega arith);
  many = refl;
  front = Consumes-nil old;
  more = [];
  whole = refl;
  kept = λ unsettled. refl;
  read = λ yes. absurd (cc);
}

-- the text is read as that of all lines
read_as : (settled : Bool) (count : ℕ) (old : Option (List ℕ)) (had : List ℕ) (now : Option (List ℕ)) (text : List ℕ) (g : GatheredSoFar settled count old had now text)
    → IsReadAs text (had ++ text_of g.lines)
read_as true count old had now text g = λ read r. subst (λ (t : List ℕ). IsRead t read) (sym g.whole) (read_on text g.more read (g.read refl) r)
read_as false count old had now text g = λ read r.
    subst (λ (t : List ℕ). IsRead t read) (sym (g.whole ∙ ap (λ (m : List ℕ). text ++ m) (g.kept refl) ∙ append-nil text)) r

one_joined : (lines : List (List ℕ)) (line : List ℕ) → joined (lines ++ line ∷ []) ≡ joined lines ++ (line ++ 10 ∷ [])
one_joined lines line =
    flat_map-append (λ (l : List ℕ). l ++ 10 ∷ []) lines (line ∷ []) ∙ ap (λ (t : List ℕ). joined lines ++ t) (append-nil (line ++ 10 ∷ []))

one_more : (had line : List ℕ) (lines : List (List ℕ)) → had ++ text_of (lines ++ line ∷ []) ≡ (had ++ text_of lines) ++ (legible line ++ 10 ∷ [])
one_more had line lines =
    let mapped : map legible (lines ++ line ∷ []) ≡ map legible lines ++ legible line ∷ [] = map-append legible lines (line ∷ []) in
    let all : text_of (lines ++ line ∷ []) ≡ text_of lines ++ (legible line ++ 10 ∷ []) = ap joined mapped ∙ one_joined (map legible lines) (legible line) in
    ap (λ (t : List ℕ). had ++ t) all ∙ sym (append_assoc had (text_of lines) (legible line ++ 10 ∷ []))

pub gathered_more : (settled next : Bool) (count : ℕ) (old now : Option (List ℕ)) (new : LineReader) (had text longer : List ℕ) → GatheredSoFar settled count old had now text
    → Arrives now arrival.Whole new → KeepsLine settled text (legible new.line ++ 10 ∷ []) next longer → GatheredSoFar next (count + 1) old had new.left longer
gathered_more true next count old now new had text longer g a e = record {
  lines = g.lines ++ new.line ∷ [];
  are_lines = All-push IsLine g.lines new.line g.are_lines a.shape.0;
  many = length-append g.lines (new.line ∷ []) ∙ ap (λ (n : ℕ). n + 1) g.many;
  front = subst (Consumes old new.left) (sym (one_joined g.lines new.line)) (Consumes-trans old now new.left (joined g.lines) (new.line ++ 10 ∷ []) g.front (subst (Consumes now new.left) a.shape.1 a.front));
  more = g.more ++ (legible new.line ++ 10 ∷ []);
  whole =
      one_more had new.line g.lines ∙ ap (λ (t : List ℕ). t ++ (legible new.line ++ 10 ∷ [])) g.whole ∙ append_assoc text g.more (legible new.line ++ 10 ∷ [])
      ∙ ap (λ (t : List ℕ). t ++ (g.more ++ (legible new.line ++ 10 ∷ []))) (sym e.1);
  kept = λ unsettled. absurd (cc (unsettled, e.0));
  read = λ yes. subst IsSettled (sym e.1) (g.read refl);
}
gathered_more false next count old now new had text longer g a e = record {
  lines = g.lines ++ new.line ∷ [];
  are_lines = All-push IsLine g.lines new.line g.are_lines a.shape.0;
  many = length-append g.lines (new.line ∷ []) ∙ ap (λ (n : ℕ). n + 1) g.many;
  front = subst (Consumes old new.left) (sym (one_joined g.lines new.line)) (Consumes-trans old now new.left (joined g.lines) (new.line ++ 10 ∷ []) g.front (subst (Consumes now new.left) a.shape.1 a.front));
  more = [];
  whole =
      let same : had ++ text_of g.lines ≡ text = g.whole ∙ ap (λ (m : List ℕ). text ++ m) (g.kept refl) ∙ append-nil text in
      one_more had new.line g.lines ∙ ap (λ (t : List ℕ). t ++ (legible new.line ++ 10 ∷ [])) same ∙ sym e.0 ∙ sym (append-nil longer);
  kept = λ unsettled. refl;
  read = e.1;
}

pub gathered_all : (settled : Bool) (count i : ℕ) (old now : Option (List ℕ)) (had text : List ℕ) → GatheredSoFar settled i old had now text → i ≡ count → Gathers count old had AllThere now text
gathered_all settled count i old now had text g e = record {
  lines = g.lines;
  last = [];
  are_lines = g.are_lines;
  front = subst (Consumes old now) (sym (append-nil (joined g.lines))) g.front;
  read = read_as settled i old had now text g;
  ends = (g.many ∙ e, refl);
}

pub gathered_cut : (settled : Bool) (count i : ℕ) (old now : Option (List ℕ)) (new : LineReader) (had text : List ℕ) → GatheredSoFar settled i old had now text → i < count → Arrives now arrival.Unended new
    → Gathers count old had Cut new.left text
gathered_cut settled count i old now new had text g lt a = record {
  lines = g.lines;
  last = new.line;
  are_lines = g.are_lines;
  front = Consumes-trans old now new.left (joined g.lines) new.line g.front (subst (Consumes now new.left) a.shape.2 a.front);
  read = read_as settled i old had now text g;
  ends = (subst (λ (n : ℕ). n < count) (sym g.many) lt, a.shape.0, over_since old now new.left (joined g.lines) g.front a.shape.3);
}

pub gathered_end : (settled : Bool) (count i : ℕ) (old now : Option (List ℕ)) (new : LineReader) (had text : List ℕ) → GatheredSoFar settled i old had now text → i < count → Arrives now arrival.End new
    → Gathers count old had Cut new.left text
gathered_end settled count i old now new had text g lt a = record {
  lines = g.lines;
  last = [];
  are_lines = g.are_lines;
  front = Consumes-trans old now new.left (joined g.lines) [] g.front (subst (Consumes now new.left) a.shape.0 a.front);
  read = read_as settled i old had now text g;
  ends = (subst (λ (n : ℕ). n < count) (sym g.many) lt, record { one = tt; short = omega arith }, over_since old now new.left (joined g.lines) g.front a.shape.1);
}

pub gathered_long : (settled : Bool) (count i : ℕ) (old now : Option (List ℕ)) (new : LineReader) (had text : List ℕ) → GatheredSoFar settled i old had now text → i < count → Arrives now arrival.TooLong new
    → Gathers count old had TooLong new.left text
gathered_long settled count i old now new had text g lt a = record {
  lines = g.lines;
  last = a.taken;
  are_lines = g.are_lines;
  front = Consumes-trans old now new.left (joined g.lines) a.taken g.front a.front;
  read = read_as settled i old had now text g;
  ends = (subst (λ (n : ℕ). n < count) (sym g.many) lt, a.shape);
}

-- ---- a change whose first line was read
change_front : (old left new : Option (List ℕ)) (line last : List ℕ) (lines : List (List ℕ)) → Consumes old left (line ++ 10 ∷ []) → Consumes left new (joined lines ++ last)
    → Consumes old new (joined (line ∷ lines) ++ last)
change_front old left new line last lines f g =
    subst (Consumes old new) (sym (append_assoc (line ++ 10 ∷ []) (joined lines) last)) (Consumes-trans old left new (line ++ 10 ∷ []) (joined lines ++ last) f g)

lines_of : (line : List ℕ) (lines : List (List ℕ)) → IsLine line → All IsLine lines → IsFalse (is_foreign line) → IsTrue (is_header line) → ChangeLines line lines
lines_of line lines h all own first = record { own = own; first = first; are_lines = All-cons IsLine line lines h all }

pub goes_on_all : (count : ℕ) (left new : Option (List ℕ)) (line text : List ℕ) (what : Next) (read : Result Change ChangeError) → count ≡ followers (right_header line)
    → Gathers count left (legible line ++ 10 ∷ []) AllThere new text → IsRead text read → what ≡ changed read → GoesOn line left what new
goes_on_all count left new line text what read e g r is = λ old h own first front.
    change line g.lines read (lines_of line g.lines h g.are_lines own first) (g.ends.0 ∙ e)
    (subst (Consumes old new) (append-nil (joined (line ∷ g.lines))) (change_front old left new line [] g.lines front (subst (λ (l : List ℕ). Consumes left new (joined g.lines ++ l)) g.ends.1 g.front)))
    (g.read read r) is

pub goes_on_cut : (count : ℕ) (left new : Option (List ℕ)) (line text : List ℕ) (what : Next) (read : Result Change ChangeError) → count ≡ followers (right_header line)
    → Gathers count left (legible line ++ 10 ∷ []) Cut new text → IsRead text read → what ≡ changed read → GoesOn line left what new
goes_on_cut count left new line text what read e g r is = λ old h own first front.
    cut line g.lines g.last read (lines_of line g.lines h g.are_lines own first) (subst (λ (n : ℕ). length g.lines < n) e g.ends.0) g.ends.1
    (change_front old left new line g.last g.lines front g.front) (over_since old left new (line ++ 10 ∷ []) front g.ends.2)
    (g.read read r) is

pub goes_on_long : (count : ℕ) (left new : Option (List ℕ)) (line text : List ℕ) → count ≡ followers (right_header line)
    → Gathers count left (legible line ++ 10 ∷ []) TooLong new text → GoesOn line left next.TooLong new
goes_on_long count left new line text e g = λ old h own first front.
    long_within line g.lines g.last (lines_of line g.lines h g.are_lines own first) (subst (λ (n : ℕ). length g.lines < n) e g.ends.0) g.ends.1
    (change_front old left new line g.last g.lines front g.front) refl

-- ---- the same, as the parts are lent
module _ (count : ℕ) (left new : Option (List ℕ)) (line lent had text : List ℕ) (is : lent ≡ line) (begun : had ≡ [] ++ (legible lent ++ 10 ∷ [])) (wanted : count ≡ followers (right_header lent)) where
  first_count : count ≡ followers (right_header line)
  first_count = wanted ∙ ap (λ (l : List ℕ). followers (right_header l)) is

  first_text : had ≡ legible line ++ 10 ∷ []
  first_text = begun ∙ ap (λ (l : List ℕ). legible l ++ 10 ∷ []) is

  pub lent_all : (what : Next) (read : Result Change ChangeError) → Gathers count left had AllThere new text → IsRead text read → what ≡ changed read → GoesOn line left what new
  lent_all what read g r e = goes_on_all count left new line text what read first_count (subst (λ (t : List ℕ). Gathers count left t AllThere new text) first_text g) r e

  pub lent_cut : (what : Next) (read : Result Change ChangeError) → Gathers count left had Cut new text → IsRead text read → what ≡ changed read → GoesOn line left what new
  lent_cut what read g r e = goes_on_cut count left new line text what read first_count (subst (λ (t : List ℕ). Gathers count left t Cut new text) first_text g) r e

  pub lent_long : Gathers count left had TooLong new text → GoesOn line left next.TooLong new
  lent_long g = goes_on_long count left new line text first_count (subst (λ (t : List ℕ). Gathers count left t TooLong new text) first_text g)
