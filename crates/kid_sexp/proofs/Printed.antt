-- The one-space text of a forest spells it, and a forest that is spelled can be printed.
use Rattle.std.proofs.Common.{◌≡◌, ℕ, ◌+◌, ◌≤◌, Bool, true, not, List, [], ◌∷◌, ◌++◌, length, map, refl, sym, ap, ◌∙◌, subst, append_assoc}
use Rattle.std.specs.Prelude.{IsTrue, IfOk, Result, Ok, Err}
use Rattle.std.specs.List.{list_all}
use Rattle.std.proofs.lemmas.Bool.{and_parts, and_from, or_right}
use Rattle.std.proofs.lemmas.List.Folds.{list_all-append}
use Rattle.kid_sexp.specs.Token.{Token, opens, closes, word, Mark, opens_at, closes_at, word_of, token}
use Rattle.kid_sexp.specs.TokenCode.{tokens_code}
use Rattle.kid_sexp.specs.Plain.{Plain, Plains, atom, list, none, more, depth}
use Rattle.kid_sexp.specs.PlainTokens.{flat, flat_tree, flat_before}
use Rattle.kid_sexp.specs.PlainCode.{plains_code}
use Rattle.kid_sexp.specs.Alphabet.{is_blank, is_visible, in_alphabet, in_word, IsClean}
use Rattle.kid_sexp.specs.Tokens.{Tokens, done, separator, remark, opening, closing, run, ends_or}
use Rattle.kid_sexp.specs.Spells.{Spells}
use Rattle.kid_sexp.specs.Printing.{tree_text, members, further, text, is_word, is_printable_tree, is_printable}
use Rattle.kid_sexp.specs.declared.fault.ReadFault.{ReadFault}
use Rattle.kid_sexp.specs.Reading.{reading}
use Rattle.kid_sexp.specs.Gives.{Gives}
use Rattle.kid_sexp.proofs.Alphabets.{word_byte}
use Rattle.kid_sexp.proofs.Scanned.{tokens_same}
use Rattle.kid_sexp.proofs.Spelled.{reading-spelled}

-- wherever they stand, these bytes have these tokens
abbrev Reads : List ℕ → List Token → Type 0
Reads bytes tokens = (at : ℕ) → (marks : List Mark) × Tokens at bytes marks × (map token marks ≡ tokens)

abbrev ends_word : List ℕ → Bool
ends_word rest = ends_or (λ b. not (in_word b)) rest

Reads-opening : (rest : List ℕ) (after : List Token) → Reads rest after → Reads (40 ∷ rest) (opens ∷ after)
Reads-opening rest after r = λ at. let m = r (at + 1) in (opens_at at ∷ m.0, opening m.1, ap (λ ts. opens ∷ ts) m.2)

Reads-closing : (rest : List ℕ) (after : List Token) → Reads rest after → Reads (41 ∷ rest) (closes ∷ after)
Reads-closing rest after r = λ at. let m = r (at + 1) in (closes_at at ∷ m.0, closing m.1, ap (λ ts. closes ∷ ts) m.2)

Reads-blank : (b : ℕ) (rest : List ℕ) (after : List Token) → is_blank b ≡ true → Reads rest after → Reads (b ∷ rest) after
Reads-blank b rest after h r = λ at. let m = r (at + 1) in (m.0, separator h m.1, m.2)

Reads-word : (bytes rest : List ℕ) (after : List Token) → is_word bytes ≡ true → ends_word rest ≡ true → Reads rest after
    → Reads (bytes ++ rest) (word bytes ∷ after)
Reads-word [] rest after p ends r = absurd (let no : ⊥ = cc in no)
Reads-word (b ∷ bytes) rest after p ends r = λ at.
    let m = r (at + 1 + length bytes) in
    (word_of (b ∷ bytes) ∷ m.0, run bytes rest p ends m.1, ap (λ ts. word (b ∷ bytes) ∷ ts) m.2)

further-ends : (ts : Plains) (rest : List ℕ) → ends_word rest ≡ true → ends_word (further ts ++ rest) ≡ true
further-ends none rest ends = ends
further-ends (more t ts) rest ends = refl

mutual
  Reads-tree : (t : Plain) (rest : List ℕ) (after : List Token) → is_printable_tree t ≡ true → ends_word rest ≡ true
      → Reads rest after → Reads (tree_text t ++ rest) (flat_tree t after)
  Reads-tree (atom bytes) rest after p ends r = Reads-word bytes rest after p ends r
  Reads-tree (list inner) rest after p ends r =
      subst (λ bs. Reads (40 ∷ bs) (opens ∷ flat_before inner (closes ∷ after))) (sym (append_assoc (members inner) (41 ∷ []) rest))
      (Reads-opening _ _ (Reads-members inner (41 ∷ rest) (closes ∷ after) p refl (Reads-closing rest after r)))

  Reads-members : (ts : Plains) (rest : List ℕ) (after : List Token) → is_printable ts ≡ true → ends_word rest ≡ true
      → Reads rest after → Reads (members ts ++ rest) (flat_before ts after)
  Reads-members none rest after p ends r = r
  Reads-members (more t ts) rest after p ends r =
      let parts = and_parts (is_printable_tree t) (is_printable ts) p in
      subst (λ bs. Reads bs (flat_tree t (flat_before ts after))) (sym (append_assoc (tree_text t) (further ts) rest))
      (Reads-tree t (further ts ++ rest) (flat_before ts after) parts.0 (further-ends ts rest ends) (Reads-further ts rest after parts.1 ends r))

  Reads-further : (ts : Plains) (rest : List ℕ) (after : List Token) → is_printable ts ≡ true → ends_word rest ≡ true
      → Reads rest after → Reads (further ts ++ rest) (flat_before ts after)
  Reads-further none rest after p ends r = r
  Reads-further (more t ts) rest after p ends r =
      let parts = and_parts (is_printable_tree t) (is_printable ts) p in
      Reads-blank 32 _ _ refl
      (subst (λ bs. Reads bs (flat_tree t (flat_before ts after))) (sym (append_assoc (tree_text t) (further ts) rest))
      (Reads-tree t (further ts ++ rest) (flat_before ts after) parts.0 (further-ends ts rest ends) (Reads-further ts rest after parts.1 ends r)))

Reads-text : (ts : Plains) → is_printable ts ≡ true → Reads (text ts) (flat ts)
Reads-text none p = λ at. ([], done, refl)
Reads-text (more t ts) p =
    let parts = and_parts (is_printable_tree t) (is_printable ts) p in
    subst (λ bs. Reads bs (flat_tree t (flat ts))) (sym (append_assoc (tree_text t) (10 ∷ []) (text ts)))
    (Reads-tree t (10 ∷ text ts) (flat ts) parts.0 refl (Reads-blank 10 (text ts) (flat ts) refl (Reads-text ts parts.1)))

-- ---- its bytes lie in the alphabet

clean_append : (xs ys : List ℕ) → IsClean xs → IsClean ys → IsClean (xs ++ ys)
clean_append xs ys h k = list_all-append in_alphabet xs ys ∙ and_from _ _ h k

clean_word : (bytes : List ℕ) → list_all in_word bytes ≡ true → IsClean bytes
clean_word [] h = refl
clean_word (b ∷ bytes) h =
    let parts = and_parts (in_word b) (list_all in_word bytes) h in
    and_from (in_alphabet b) _ (or_right (is_blank b) (is_visible b) (word_byte b parts.0).0) (clean_word bytes parts.1)

clean_atom : (bytes : List ℕ) → is_word bytes ≡ true → IsClean bytes
clean_atom [] h = refl
clean_atom (b ∷ bytes) h = clean_word (b ∷ bytes) h

mutual
  clean_tree : (t : Plain) → is_printable_tree t ≡ true → IsClean (tree_text t)
  clean_tree (atom bytes) p = clean_atom bytes p
  clean_tree (list inner) p = clean_append (members inner) (41 ∷ []) (clean_members inner p) refl

  clean_members : (ts : Plains) → is_printable ts ≡ true → IsClean (members ts)
  clean_members none p = refl
  clean_members (more t ts) p =
      let parts = and_parts (is_printable_tree t) (is_printable ts) p in
      clean_append (tree_text t) (further ts) (clean_tree t parts.0) (clean_further ts parts.1)

  clean_further : (ts : Plains) → is_printable ts ≡ true → IsClean (further ts)
  clean_further none p = refl
  clean_further (more t ts) p =
      let parts = and_parts (is_printable_tree t) (is_printable ts) p in
      clean_append (tree_text t) (further ts) (clean_tree t parts.0) (clean_further ts parts.1)

clean_text : (ts : Plains) → is_printable ts ≡ true → IsClean (text ts)
clean_text none p = refl
clean_text (more t ts) p =
    let parts = and_parts (is_printable_tree t) (is_printable ts) p in
    clean_append (tree_text t ++ 10 ∷ []) (text ts) (clean_append (tree_text t) (10 ∷ []) (clean_tree t parts.0) refl) (clean_text ts parts.1)

pub text-spells : (ts : Plains) → is_printable ts ≡ true → depth ts ≤ 250 → Spells (text ts) ts
text-spells ts p shallow =
    let m = Reads-text ts p 0 in
    record { clean = clean_text ts p; marks = m.0; tokens = m.1; same = m.2; shallow = shallow }

-- what is read of the text of a forest is that forest, also where that could be too deep
pub text-only : (ts us : Plains) → is_printable ts ≡ true → reading (text ts) ≡ Ok us → us ≡ ts
text-only ts us p e =
    let m = Reads-text ts p 0 in
    let s = reading-spelled (text ts) us e in
    let same : flat us ≡ flat ts = sym s.same ∙ ap (map token) (tokens_same s.tokens m.1) ∙ m.2 in
    plains_code.inj us ts (ap tokens_code.code same)

-- ---- what is spelled is printable

abbrev is_token : Token → Bool
is_token opens = true
is_token closes = true
is_token (word bytes) = is_word bytes

tokens-are : {at : ℕ} {bytes : List ℕ} {marks : List Mark} → Tokens at bytes marks → list_all is_token (map token marks) ≡ true
tokens-are done = refl
tokens-are (separator h t) = tokens-are t
tokens-are (remark skipped rest all ends t) = tokens-are t
tokens-are (opening t) = tokens-are t
tokens-are (closing t) = tokens-are t
tokens-are (run others rest all ends t) = and_from _ _ all (tokens-are t)

mutual
  printable-flat_tree : (t : Plain) (after : List Token) → list_all is_token (flat_tree t after) ≡ true
      → (is_printable_tree t ≡ true) × (list_all is_token after ≡ true)
  printable-flat_tree (atom bytes) after h = and_parts (is_word bytes) (list_all is_token after) h
  printable-flat_tree (list inner) after h = printable-flat_before inner (closes ∷ after) h

  printable-flat_before : (ts : Plains) (after : List Token) → list_all is_token (flat_before ts after) ≡ true
      → (is_printable ts ≡ true) × (list_all is_token after ≡ true)
  printable-flat_before none after h = (refl, h)
  printable-flat_before (more t ts) after h =
      let first = printable-flat_tree t (flat_before ts after) h in
      let others = printable-flat_before ts after first.1 in
      (and_from _ _ first.0 others.0, others.1)

pub spelled-printable : (bytes : List ℕ) (forest : Plains) → Spells bytes forest → is_printable forest ≡ true
spelled-printable bytes forest s =
    (printable-flat_before forest [] (subst (λ (ts : List Token). list_all is_token ts ≡ true) s.same (tokens-are s.tokens))).0

pub read-printable : (bytes : List ℕ) (r : Result Plains ReadFault) → Gives r (reading bytes) → IfOk r (λ forest. IsTrue (is_printable forest))
read-printable bytes (Ok forest) gives = spelled-printable bytes forest (reading-spelled bytes forest gives)
read-printable bytes (Err fault) gives = tt
