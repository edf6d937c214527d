-- The terms of a line one after the other, as a loop finds them.
use Rattle.std.proofs.Common.{◌≡◌, ℕ, suc, ◌≤◌, List, [], ◌∷◌, ◌++◌, length, take, Option, Some, None, refl, sym, ap, ◌∙◌, append_assoc, arith}
use Rattle.std.specs.Option.{option_map}
use Rattle.std.proofs.lemmas.List.{append-nil, take_all, take-append-le}
use Rattle.assembler_lines.specs.declared.token.Token.{Token}
use Rattle.assembler_lines.specs.declared.token.Term as declared
use Rattle.assembler_lines.specs.Tokens.{Lexeme, tokens_of}
use Rattle.assembler_lines.specs.Terms.{Term, term_of, terms_of, ◌>>=◌}
use Rattle.assembler_lines.specs.Scanning.{lexeme, term_seen, terms_seen}

abbrev With : List declared.Term → Option (List Term) → Option (List Term)
With front o = option_map (λ ts. take 10 (terms_seen front ++ ts)) o

joined : (front : List declared.Term) (x : declared.Term) → terms_seen (front ++ x ∷ []) ≡ terms_seen front ++ term_seen x ∷ []
joined [] x = refl
joined (t ∷ front) x = ap (λ (ts : List Term). term_seen t ∷ ts) (joined front x)

seen_length : (front : List declared.Term) → length (terms_seen front) ≡ length front
seen_length [] = refl
seen_length (x ∷ front) = ap suc (seen_length front)

regroup : (front : List declared.Term) (x : declared.Term) (o : Option (List Term)) → With front (o >>= λ ts. Some (term_seen x ∷ ts)) ≡ With (front ++ x ∷ []) o
regroup front x None = refl
regroup front x (Some ts) = rw joined (ap (λ (xs : List Term). Some (take 10 xs)) (simp append_assoc))

overfull : (front : List declared.Term) (x : declared.Term) (o : Option (List Term)) → length front ≡ 10 → With front (o >>= λ ts. Some (term_seen x ∷ ts)) ≡ With front o
overfull front x None full = refl
overfull front x (Some ts) full =
    let n = seen_length front in
    ap (λ (xs : List Term). Some xs) (take-append-le 10 (terms_seen front) (term_seen x ∷ ts) (omega arith) ∙ sym (take-append-le 10 (terms_seen front) ts (omega arith)))

read_step : (rest after : List ℕ) (t : Token) (x : declared.Term) → tokens_of rest ≡ lexeme t ∷ tokens_of after → option_map term_seen (Some x) ≡ term_of (lexeme t)
    → terms_of (tokens_of rest) ≡ (terms_of (tokens_of after) >>= λ ts. Some (term_seen x ∷ ts))
unfolding terms_of
read_step rest after t x step term = rw (step, ← term) refl

pub one_more : (front : List declared.Term) (t : Token) (x : declared.Term) (rest after : List ℕ) (total : Option (List Term)) → tokens_of rest ≡ lexeme t ∷ tokens_of after
    → option_map term_seen (Some x) ≡ term_of (lexeme t) → With front (terms_of (tokens_of rest)) ≡ total → With (front ++ x ∷ []) (terms_of (tokens_of after)) ≡ total
one_more front t x rest after total step term so_far =
    sym (regroup front x (terms_of (tokens_of after))) ∙ ap (With front) (sym (read_step rest after t x step term)) ∙ so_far

pub one_over : (front : List declared.Term) (t : Token) (x : declared.Term) (rest after : List ℕ) (total : Option (List Term)) → length front ≡ 10 → tokens_of rest ≡ lexeme t ∷ tokens_of after
    → option_map term_seen (Some x) ≡ term_of (lexeme t) → With front (terms_of (tokens_of rest)) ≡ total → With front (terms_of (tokens_of after)) ≡ total
one_over front t x rest after total full step term so_far =
    sym (overfull front x (terms_of (tokens_of after)) full) ∙ ap (With front) (sym (read_step rest after t x step term)) ∙ so_far

pub all_found : (front : List declared.Term) (rest : List ℕ) (total : Option (List Term)) → length front ≤ 10 → tokens_of rest ≡ [] → With front (terms_of (tokens_of rest)) ≡ total → Some (terms_seen front) ≡ total
unfolding terms_of
all_found front rest total fits e so_far =
    let n = seen_length front in
    ap (λ (xs : List Term). Some xs) (sym (rw append-nil (take_all 10 (terms_seen front) (omega arith)))) ∙ ap (λ (ts : List Lexeme). With front (terms_of ts)) (sym e) ∙ so_far

pub none_found : (front : List declared.Term) (t : Token) (rest after : List ℕ) (total : Option (List Term)) → tokens_of rest ≡ lexeme t ∷ tokens_of after → None ≡ term_of (lexeme t)
    → With front (terms_of (tokens_of rest)) ≡ total → None ≡ total
unfolding terms_of
none_found front t rest after total step term so_far =
    let e : With front (terms_of (tokens_of rest)) ≡ None = rw (step, ← term) refl in sym e ∙ so_far
