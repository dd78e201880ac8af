-- The term of a value has that value, no free name, and no operator on words or rows.
use Rattle.std.proofs.Common.{◌≡◌, ℕ, ◌+◌, ◌<◌, ◌≤◌, suc, Bool, false, List, [], ◌∷◌, ◌++◌, length, get_or, drop, map, refl, sym, ap, ◌∙◌, arith, subst, add-one, drop-cons}
use Rattle.std.specs.Prelude.{◌||◌, IfOk, Result, Ok, Err}
use Rattle.std.proofs.lemmas.List.{append_assoc, append-nil, drop_all}
use Rattle.kid_value.specs.Canonical.{IsCanonical, AreCanonical, EntriesAreCanonical}
use Rattle.kid_value.specs.PlainValue.{PlainValue, int, bool, pair, set, seq, map_of, tag, PlainValues, none, more, PlainEntries, no_entry, entry, items, row, entries, table, entry_heights}
use Rattle.kid_value.specs.Rows.Kinds.{set_from, set_of_all, sequence_from, map_from}
use Rattle.kid_value.specs.Rows.Map as map_rows
use Rattle.kid_value.specs.ValueMap.{keys, put_entry, put_entry_by}
use Rattle.kid_value.specs.ValueOrder.{Before}
use Rattle.kid_value.specs.ValueSet.{AllAfter, Ascends, put, put_by, set_of}
use Rattle.kid_value.specs.ValueView.{plain, plain_entry}
use Rattle.kid_value.specs.declared.memory.Memory.{Memory}
use Rattle.kid_value.specs.declared.value.Value.{Value}
use Rattle.kid_value.proofs.PlaceLemmas.{greater-before}
use Rattle.kid_value.proofs.RowLemmas.{row_items, entries_table, table_entries}
use Rattle.kid_term.specs.Eval.{Env, Calls, eval, evals}
use Rattle.kid_term.specs.PlainTerm.{PlainTerm, term, term_row}
use Rattle.kid_term.specs.Quote.{empty_map, quote, quotes, all_put}
use Rattle.kid_term.specs.Quote as spec
use Rattle.kid_term.specs.Substitution.{mentions, some_mentions}
use Rattle.kid_term.specs.TermView.{plain_term}
use Rattle.kid_term.specs.WordTerms.{holds_word_operator, some_hold_word_operator}
use Rattle.kid_term.specs.declared.Term.{Term}

none_of : {b c : Bool} → b ≡ false → c ≡ false → (b || c) ≡ false
none_of p q = rw p q

put-first : (v : PlainValue) (vs : List PlainValue) → AllAfter v vs → put v vs ≡ v ∷ vs
put-first v [] a = refl
put-first v (y ∷ ys) a = ap (λ o. put_by o v y ys (put v ys)) a.0

-- the set of ascending values is these
set_of-ascending : (vs : List PlainValue) → Ascends vs → set_of vs ≡ vs
set_of-ascending [] a = refl
set_of-ascending (v ∷ vs) a = ap (put v) (set_of-ascending vs a.1) ∙ put-first v vs a.0

-- a key that is after all others is put behind them
put_entry-last : (k v : PlainValue) (es ds : List (PlainValue × PlainValue)) → Ascends (keys (es ++ (k, v) ∷ ds)) → put_entry k v es ≡ es ++ (k, v) ∷ []
put_entry-last k v [] ds a = refl
put_entry-last k v (e ∷ es) ds a =
    ap (λ o. put_entry_by o k v e es (put_entry k v es)) (greater-before e.0 k (before e.0 es a.0))
    ∙ ap (λ z. e ∷ z) (put_entry-last k v es ds a.1)
  where
    before : (x : PlainValue) (bs : List (PlainValue × PlainValue)) → AllAfter x (keys (bs ++ (k, v) ∷ ds)) → Before x k
    before x [] b = b.0
    before x (c ∷ bs) b = before x bs b.1

module _ (calls : Calls) (env : Env) where
  mutual
    pub eval-quote : (v : PlainValue) → IsCanonical v → eval calls env (quote v) ≡ v
    eval-quote (int n) c = refl
    eval-quote (bool b) c = refl
    eval-quote (pair a b) c = let e = eval-quote a c.0 in let f = eval-quote b c.1 in λ i. pair (e i) (f i)
    eval-quote (set vs) c = ap set_of_all (evals-quotes vs c.1) ∙ ap set_from (set_of-ascending (items vs) c.0) ∙ ap set (row_items vs)
    eval-quote (seq vs) c = ap sequence_from (evals-quotes vs c) ∙ ap seq (row_items vs)
    eval-quote (map_of es) c = eval-all_put empty_map [] es refl c.0 c.1 ∙ ap map_of (table_entries es)
    eval-quote (tag n) c = refl

    evals-quotes : (vs : PlainValues) → AreCanonical vs → evals calls env (quotes vs) ≡ items vs
    evals-quotes none c = refl
    evals-quotes (more v vs) c = let e = eval-quote v c.0 in let f = evals-quotes vs c.1 in λ i. e i ∷ f i

    -- what is put onto entries stands behind them
    eval-all_put : (m : PlainTerm) (done : List (PlainValue × PlainValue)) (es : PlainEntries) → eval calls env m ≡ map_from done
        → Ascends (keys (done ++ entries es)) → EntriesAreCanonical es → eval calls env (all_put m es) ≡ map_from (done ++ entries es)
    eval-all_put m done no_entry p a c = p ∙ ap map_from (sym (append-nil done))
    eval-all_put m done (entry k v es) p a c =
        let e = eval-quote k c.0 in
        let f = eval-quote v c.1 in
        let again : (done ++ (k, v) ∷ []) ++ entries es ≡ done ++ (k, v) ∷ entries es = append_assoc done ((k, v) ∷ []) (entries es) in
        let put-in : eval calls env (spec.put m (quote k) (quote v)) ≡ map_from (done ++ (k, v) ∷ [])
        = (λ i. map_rows.put (p i) (e i) (f i)) ∙ ap (λ z. map_from (put_entry k v z)) (entries_table done) ∙ ap map_from (put_entry-last k v done (entries es) a) in
        eval-all_put (spec.put m (quote k) (quote v)) (done ++ (k, v) ∷ []) es put-in (subst (λ z. Ascends (keys z)) (sym again) a) c.2 ∙ ap map_from again

module _ (x : List ℕ) where
  mutual
    pub mentions-quote : (v : PlainValue) → mentions x (quote v) ≡ false
    mentions-quote (int n) = refl
    mentions-quote (bool b) = refl
    mentions-quote (pair a b) = none_of (mentions-quote a) (none_of (mentions-quote b) refl)
    mentions-quote (set vs) = mentions-quotes vs
    mentions-quote (seq vs) = mentions-quotes vs
    mentions-quote (map_of es) = mentions-all_put empty_map es refl
    mentions-quote (tag n) = refl

    mentions-quotes : (vs : PlainValues) → some_mentions x (quotes vs) ≡ false
    mentions-quotes none = refl
    mentions-quotes (more v vs) = none_of (mentions-quote v) (mentions-quotes vs)

    mentions-all_put : (m : PlainTerm) (es : PlainEntries) → mentions x m ≡ false → mentions x (all_put m es) ≡ false
    mentions-all_put m no_entry p = p
    mentions-all_put m (entry k v es) p = mentions-all_put (spec.put m (quote k) (quote v)) es (none_of p (none_of (mentions-quote k) (none_of (mentions-quote v) refl)))

-- no operator on words or rows stands in it
mutual
  pub wordless-quote : (v : PlainValue) → holds_word_operator (quote v) ≡ false
  wordless-quote (int n) = refl
  wordless-quote (bool b) = refl
  wordless-quote (pair a b) = none_of (wordless-quote a) (none_of (wordless-quote b) refl)
  wordless-quote (set vs) = wordless-quotes vs
  wordless-quote (seq vs) = wordless-quotes vs
  wordless-quote (map_of es) = wordless-all_put empty_map es refl
  wordless-quote (tag n) = refl

  wordless-quotes : (vs : PlainValues) → some_hold_word_operator (quotes vs) ≡ false
  wordless-quotes none = refl
  wordless-quotes (more v vs) = none_of (wordless-quote v) (wordless-quotes vs)

  wordless-all_put : (m : PlainTerm) (es : PlainEntries) → holds_word_operator m ≡ false → holds_word_operator (all_put m es) ≡ false
  wordless-all_put m no_entry p = p
  wordless-all_put m (entry k v es) p = wordless-all_put (spec.put m (quote k) (quote v)) es (none_of p (none_of (wordless-quote k) (none_of (wordless-quote v) refl)))

-- the terms of a row of values
pub quotes-row : (vs : List Value) → term_row (map (λ v. quote (plain v)) vs) ≡ quotes (row (map plain vs))
quotes-row [] = refl
quotes-row (v ∷ vs) = ap (term (quote (plain v))) (quotes-row vs)

cons_at : {A : Type 0} (xs : List A) (i : ℕ) (item : A) → i < length xs → item ≡ get_or xs i item → drop i xs ≡ item ∷ drop (i + 1) xs
cons_at {A = A} xs i item within is = rw add-one (drop-cons xs i item within ∙ ap (λ (t : A). t ∷ drop (suc i) xs) (sym is))

pub entries_deep : (es : List (Value × Value)) (i : ℕ) (e : Value × Value) (n : ℕ) → i < length es → e ≡ get_or es i e
    → entry_heights (table (map plain_entry (drop i es))) ≤ n → entry_heights (table (map plain_entry (drop (i + 1) es))) ≤ n
entries_deep es i e n within is le =
    let cut : entry_heights (table (map plain_entry (e ∷ drop (i + 1) es))) ≤ n = subst (λ (xs : List (Value × Value)). entry_heights (table (map plain_entry xs)) ≤ n) (cons_at es i e within is) le in
    omega arith

-- with one entry more put in, the rest makes the same map
pub put-step : (old new key value total : PlainTerm) (es : List (Value × Value)) (i : ℕ) (e : Value × Value) → i < length es → e ≡ get_or es i e
    → key ≡ quote (plain e.0) → value ≡ quote (plain e.1) → new ≡ spec.put old key value
    → all_put old (table (map plain_entry (drop i es))) ≡ total → all_put new (table (map plain_entry (drop (i + 1) es))) ≡ total
put-step old new key value total es i e within is p q r told =
    (λ j. all_put ((r ∙ (λ k. spec.put old (p k) (q k))) j) (table (map plain_entry (drop (i + 1) es))))
    ∙ ap (λ (ds : List (Value × Value)). all_put old (table (map plain_entry ds))) (sym (cons_at es i e within is)) ∙ told

pub put-end : (old total : PlainTerm) (es : List (Value × Value)) (i : ℕ) → length es ≤ i → all_put old (table (map plain_entry (drop i es))) ≡ total → old ≡ total
put-end old total es i over told = ap (λ (ds : List (Value × Value)). all_put old (table (map plain_entry ds))) (sym (drop_all i es over)) ∙ told

-- what is a value's term has that value
pub quoted-value : (r : Result Term Memory) (v : PlainValue) → IsCanonical v → IfOk r (λ t. plain_term t ≡ quote v) → IfOk r (λ t. (calls : Calls) (env : Env) → eval calls env (plain_term t) ≡ v)
quoted-value (Ok t) v c p = λ calls env. ap (eval calls env) p ∙ eval-quote calls env v c
quoted-value (Err e) v c p = p
