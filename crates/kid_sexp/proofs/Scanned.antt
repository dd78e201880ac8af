-- The machine finds the tokens of the grammar, and so each text in the alphabet has just one list of tokens.
use Rattle.std.proofs.Common.{◌≡◌, ℕ, ◌+◌, suc, Bool, true, false, not, cond, eqb, List, [], ◌∷◌, ◌++◌, length, refl, sym, ap, ◌∙◌, subst, append_assoc, arith}
use Rattle.std.specs.List.{list_all}
use Rattle.std.proofs.lemmas.Bool.{and_parts, and_from, not-true, not-false, not_from_false, eqb-true}
use Rattle.std.proofs.lemmas.List.{append-nil}
use Rattle.kid_sexp.specs.Token.{Mark, opens_at, closes_at, word_of}
use Rattle.kid_sexp.specs.Alphabet.{is_blank, in_alphabet, in_word, IsClean}
use Rattle.kid_sexp.specs.Tokens.{Tokens, done, separator, remark, opening, closing, run, is_line_end, ends_or}
use Rattle.kid_sexp.specs.Scan.{Mode, between, comment, inside, next, bracket, scan, scanned}
use Rattle.kid_sexp.proofs.Alphabets.{Kind, blank, opens, closes, semicolon, letter, kind_of, blank_each, word_byte}

scan-blank : (at : ℕ) (rest : List ℕ) (b : ℕ) → is_blank b ≡ true → scan between at (b ∷ rest) ≡ scan between (at + 1) rest
scan-blank at rest = blank_each (λ b. scan between at (b ∷ rest) ≡ scan between (at + 1) rest) refl refl refl refl

-- a comment is skipped
scan-comment : (skipped rest : List ℕ) (at : ℕ) → list_all (λ b. not (is_line_end b)) skipped ≡ true → ends_or is_line_end rest ≡ true
    → scan comment at (skipped ++ rest) ≡ scan between (at + length skipped) rest
scan-comment [] [] at all ends = refl
scan-comment [] (b ∷ rest) at all ends =
    let P : ℕ → Type 0 = λ c. scan comment at (c ∷ rest) ≡ scan between (at + 0) (c ∷ rest) in
    subst P (sym (eqb-true b 10 ends)) (ap (λ n. scan between (n + 1) rest) (let e : at ≡ at + 0 = omega arith in e))
scan-comment (b ∷ skipped) rest at all ends =
    let parts = and_parts (not (is_line_end b)) (list_all (λ c. not (is_line_end c)) skipped) all in
    ap (λ t. scan (cond t between comment) (at + 1) (skipped ++ rest)) (not-true (is_line_end b) parts.0)
    ∙ scan-comment skipped rest (at + 1) parts.1 ends
    ∙ ap (λ n. scan between n rest) (let e : at + 1 + length skipped ≡ at + suc (length skipped) = omega arith in e)

-- in a word, at a byte of a word
scan-letter : (b : ℕ) (rest acc : List ℕ) (at : ℕ) → in_word b ≡ true → scan (inside acc) at (b ∷ rest) ≡ scan (inside (acc ++ b ∷ [])) (at + 1) rest
scan-letter b rest acc at h =
    let w = word_byte b h in
    ap (λ t. cond t [] (word_of acc ∷ bracket at b) ++ scan (cond (eqb b 59) comment (cond t (inside (acc ++ b ∷ [])) between)) (at + 1) rest) h
    ∙ ap (λ t. scan (cond t comment (inside (acc ++ b ∷ []))) (at + 1) rest) w.3

-- in a word, where it ends
scan-ended : (rest acc : List ℕ) (at : ℕ) → ends_or (λ b. not (in_word b)) rest ≡ true → scan (inside acc) at rest ≡ word_of acc ∷ scan between at rest
scan-ended [] acc at ends = refl
scan-ended (b ∷ rest) acc at ends =
    let no_letter = not-true (in_word b) ends in
    ap (λ t. cond t [] (word_of acc ∷ bracket at b) ++ scan (cond (eqb b 59) comment (cond t (inside (acc ++ b ∷ [])) between)) (at + 1) rest) no_letter
    ∙ sym (ap (λ t. word_of acc ∷ (bracket at b ++ scan (cond (eqb b 59) comment (cond t (inside (b ∷ [])) between)) (at + 1) rest)) no_letter)

scan-first : (b : ℕ) (rest : List ℕ) (at : ℕ) → in_word b ≡ true → scan between at (b ∷ rest) ≡ scan (inside (b ∷ [])) (at + 1) rest
scan-first b rest at h =
    let w = word_byte b h in
    let after : Mode = next between b in
    ap (λ t. cond t (opens_at at ∷ []) (cond (eqb b 41) (closes_at at ∷ []) []) ++ scan after (at + 1) rest) w.1
    ∙ ap (λ t. cond t (closes_at at ∷ []) [] ++ scan after (at + 1) rest) w.2
    ∙ ap (λ t. scan (cond t comment (cond (in_word b) (inside (b ∷ [])) between)) (at + 1) rest) w.3
    ∙ ap (λ t. scan (cond t (inside (b ∷ [])) between) (at + 1) rest) h

scan-word : (letters rest acc : List ℕ) (at : ℕ) → list_all in_word letters ≡ true → ends_or (λ b. not (in_word b)) rest ≡ true
    → scan (inside acc) at (letters ++ rest) ≡ word_of (acc ++ letters) ∷ scan between (at + length letters) rest
scan-word [] rest acc at all ends =
    scan-ended rest acc at ends ∙ ap (λ w. word_of w ∷ scan between at rest) (sym (append-nil acc))
    ∙ ap (λ n. word_of (acc ++ []) ∷ scan between n rest) (let e : at ≡ at + 0 = omega arith in e)
scan-word (b ∷ letters) rest acc at all ends =
    let parts = and_parts (in_word b) (list_all in_word letters) all in
    scan-letter b (letters ++ rest) acc at parts.0 ∙ scan-word letters rest (acc ++ b ∷ []) (at + 1) parts.1 ends
    ∙ ap (λ w. word_of w ∷ scan between (at + 1 + length letters) rest) (append_assoc acc (b ∷ []) letters)
    ∙ ap (λ n. word_of (acc ++ b ∷ letters) ∷ scan between n rest) (let e : at + 1 + length letters ≡ at + suc (length letters) = omega arith in e)

pub scan-tokens : {at : ℕ} {bytes : List ℕ} {marks : List Mark} → Tokens at bytes marks → scan between at bytes ≡ marks
scan-tokens done = refl
scan-tokens (separator {at = at} {b = b} {rest = rest} h t) = scan-blank at rest b h ∙ scan-tokens t
scan-tokens (remark {at = at} skipped rest all ends t) = scan-comment skipped rest (at + 1) all ends ∙ scan-tokens t
scan-tokens (opening {at = at} t) = ap (λ ms. opens_at at ∷ ms) (scan-tokens t)
scan-tokens (closing {at = at} t) = ap (λ ms. closes_at at ∷ ms) (scan-tokens t)
scan-tokens (run {at = at} {first = first} others rest all ends t) =
    let parts = and_parts (in_word first) (list_all in_word others) all in
    scan-first first (others ++ rest) at parts.0 ∙ scan-word others rest (first ∷ []) (at + 1) parts.1 ends
    ∙ ap (λ ms. word_of (first ∷ others) ∷ ms) (scan-tokens t)

-- the tokens of a text are unique
pub tokens_same : {at : ℕ} {bytes : List ℕ} {marks others : List Mark} → Tokens at bytes marks → Tokens at bytes others → marks ≡ others
tokens_same t u = sym (scan-tokens t) ∙ scan-tokens u

-- ---- each text in the alphabet has tokens

abbrev HasTokens : List ℕ → Type 0
HasTokens bytes = (at : ℕ) → (marks : List Mark) × Tokens at bytes marks

-- Of these bytes a front passes the test, and the rest is over or goes on with a byte that stops. It has tokens.
record Front (test stop : ℕ → Bool) (bytes : List ℕ) : Type 0 where
  front : List ℕ
  rest : List ℕ
  whole : bytes ≡ front ++ rest
  all : list_all test front ≡ true
  ends : ends_or stop rest ≡ true
  tokens : HasTokens rest

abbrev Comment : List ℕ → Type 0
Comment bytes = Front (λ b. not (is_line_end b)) is_line_end bytes

abbrev Word : List ℕ → Type 0
Word bytes = Front in_word (λ b. not (in_word b)) bytes

over : (test stop : ℕ → Bool) → Front test stop []
over test stop = record { front = []; rest = []; whole = refl; all = refl; ends = refl; tokens = λ at. ([], done) }

front-more : (test stop : ℕ → Bool) (b : ℕ) (bytes : List ℕ) (t : Bool) → test b ≡ t → (test b ≡ false → stop b ≡ true)
    → HasTokens (b ∷ bytes) → Front test stop bytes → Front test stop (b ∷ bytes)
front-more test stop b bytes true e stops here f = record {
  front = b ∷ f.front;
  rest = f.rest;
  whole = ap (λ bs. b ∷ bs) f.whole;
  all = and_from (test b) _ e f.all;
  ends = f.ends;
  tokens = f.tokens;
}
front-more test stop b bytes false e stops here f =
    record { front = []; rest = b ∷ bytes; whole = refl; all = refl; ends = stops e; tokens = here }

tokens-more : (b : ℕ) (bytes : List ℕ) → Kind b → HasTokens bytes → Comment bytes → Word bytes → HasTokens (b ∷ bytes)
tokens-more b bytes (blank h) here c w = λ at. let m = here (at + 1) in (m.0, separator h m.1)
tokens-more b bytes (opens e) here c w =
    subst (λ x. HasTokens (x ∷ bytes)) (sym e) (λ at. let m = here (at + 1) in (opens_at at ∷ m.0, opening m.1))
tokens-more b bytes (closes e) here c w =
    subst (λ x. HasTokens (x ∷ bytes)) (sym e) (λ at. let m = here (at + 1) in (closes_at at ∷ m.0, closing m.1))
tokens-more b bytes (semicolon e) here c w =
    subst (λ x. HasTokens (x ∷ bytes)) (sym e) (λ at.
    let m = c.tokens (at + 1 + length c.front) in
    (m.0, subst (λ bs. Tokens at (59 ∷ bs) m.0) (sym c.whole) (remark c.front c.rest c.all c.ends m.1)))
tokens-more b bytes (letter h) here c w = λ at.
    let m = w.tokens (at + 1 + length w.front) in (
      word_of (b ∷ w.front) ∷ m.0,
      subst (λ bs. Tokens at (b ∷ bs) (word_of (b ∷ w.front) ∷ m.0)) (sym w.whole) (run w.front w.rest (and_from (in_word b) _ h w.all) w.ends m.1),
    )

tokens-all : (bytes : List ℕ) → IsClean bytes → HasTokens bytes × Comment bytes × Word bytes
tokens-all [] clean = ((λ at. ([], done)), over _ _, over _ _)
tokens-all (b ∷ bytes) clean =
    let parts = and_parts (in_alphabet b) (list_all in_alphabet bytes) clean in
    let had = tokens-all bytes parts.1 in
    let here = tokens-more b bytes (kind_of b parts.0) had.0 had.1 had.2 in (
      here,
      front-more (λ c. not (is_line_end c)) is_line_end b bytes (not (is_line_end b)) refl (λ e. not-false (is_line_end b) e) here had.1,
      front-more in_word (λ c. not (in_word c)) b bytes (in_word b) refl (λ e. not_from_false (in_word b) e) here had.2,
    )

pub scanned-tokens : (bytes : List ℕ) → IsClean bytes → Tokens 0 bytes (scanned bytes)
scanned-tokens bytes clean =
    let m = (tokens-all bytes clean).0 0 in
    subst (λ marks. Tokens 0 bytes marks) (sym (scan-tokens m.1)) m.1
