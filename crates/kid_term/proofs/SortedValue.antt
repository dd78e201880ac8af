-- A term that has a sort has a value of that sort wherever the names have values of theirs, and every integer on the way is small.
use Rattle.std.proofs.Common.{◌≡◌, ℕ, ◌+◌, ℤ, Bool, true, false, List, [], ◌∷◌, Result, Ok, Err, refl, sym, ap, ◌∙◌, cond, subst, arith, length}
use Rattle.std.specs.Prelude.{◌&&◌, ◌||◌, ◌≤ℤ◌, int_le, nat_le, nat_eq, pos, negsuc}
use Rattle.std.specs.List.{list_all}
use Rattle.std.proofs.lemmas.Int.{ints as int_rules}
use Rattle.std.proofs.lemmas.Bool.Decides.{nat_tests}
use Rattle.kid_value.specs.PlainValue as value
use Rattle.kid_value.specs.PlainValue.{PlainValue, int, bool, pair, set, seq, map_of, items}
use Rattle.kid_value.specs.PlainSort.{PlainSort, never, bools, ints, pairs, sets, seqs, maps, enums, has_sort, has_never}
use Rattle.kid_value.specs.SortOrder.{is_subsort}
use Rattle.kid_value.specs.SortLimits.{in_limits, is_allowed, is_bounded, sort_depth}
use Rattle.kid_value.specs.SortCount.{count_of}
use Rattle.kid_value.specs.Canonical.{IsCanonical}
use Rattle.kid_value.specs.Least.{least_value}
use Rattle.kid_value.specs.Rows.Parts.{members_of}
use Rattle.kid_value.proofs.NameLemmas.{least_from-among}
use Rattle.kid_value.proofs.SortLemmas.{and_parts, and_both, int_le-itself}
use Rattle.kid_term.specs.PlainTerm.{PlainHead, op, call, cast, PlainTerm, var, number, truth, tag, app, bind, PlainTerms, no_term, term, node_count, depth}
use Rattle.kid_term.specs.declared.operator.Op.TheVariants.{Logic, Number, Pair, Set, Seq, Map, Word}
use Rattle.kid_term.specs.declared.operator.SeqOp.{SeqOp}
use Rattle.kid_term.specs.declared.operator.SeqOp.TheVariants.{Total}
use Rattle.kid_term.specs.declared.operator.Binder.{Binder}
use Rattle.kid_term.specs.Names.{same_name, Names, is_named, PlainDef, latest_over, latest_first}
use Rattle.kid_term.specs.Eval.{Env, Calls, value_at, call_at, cast_value, head_value, eval, evals, bound, def_value, calls_over, calls_of}
use Rattle.kid_term.specs.Small.{is_small, is_small_or_short, Checks, check_at, op_small, head_small, stays_small, all_stay_small, def_small, checks_over, checks_of}
use Rattle.kid_term.specs.Sorted.{Fault, Size, TermDeep, Kind, Bounds, Shadow, allowed, with_set, ◌>>=◌}
use Rattle.kid_term.specs.SeqRows.{seq_value}
use Rattle.kid_term.specs.SeqSorts.{seq_sort}
use Rattle.kid_term.specs.Written.{Numbers, written}
use Rattle.kid_term.specs.Sorting.{sort_at, call_sort, cast_sort, head_sort, binder_sort, unshadowed, fit_parameters, least_sort, least_sorts, sort_of}
use Rattle.kid_term.specs.Fitting.{IsOfSort, AreOfSorts, Fits, AreAllowed, IsSound, AreSoundOver, AreSound}
use Rattle.kid_term.specs.Laws.{SortsAreKept}
use Rattle.kid_term.proofs.Inversions.{bind_ok, ok, ok_same, allowed_ok, with_one_ok, with_set_ok, one_value}
use Rattle.kid_term.proofs.LogicSound.{Sound, truth_sound, logic_sound, IsOfSort-subsort}
use Rattle.kid_term.proofs.NumberSound.{interval_sound, number_sound}
use Rattle.kid_term.proofs.PairSound.{pair_sound}
use Rattle.kid_term.proofs.SetSound.{set_evaluates}
use Rattle.kid_term.proofs.SeqSound.{seq_sound, total_small}
use Rattle.kid_term.proofs.MapSound.{map_sound}
use Rattle.kid_term.proofs.RowSound.{word_sound}
use Rattle.kid_term.proofs.WrittenValues.{AreWritten, written_values}
use Rattle.kid_term.proofs.Members.{list_all-Each, members_sound}
use Rattle.kid_term.proofs.BinderSound.{Evaluates, binder_sound}

-- an integer of an allowed sort is small
pub small_of : (s : PlainSort) (v : PlainValue) → Sound s v → is_small v ≡ true
small_of (ints lo hi) (int n) h = by lo hi n h.of_sort.has h.sort_allowed
  where
    by : (lo hi n : ℤ) → (int_le lo n && int_le n hi) ≡ true → (int_le lo hi && int_le (negsuc 4611686018427387903) lo && int_le hi (pos 4611686018427387904)) ≡ true → is_small (int n) ≡ true
    by lo hi n p q = grind (arith, int_rules)
small_of s (bool b) h = refl
small_of s (pair v w) h = refl
small_of s (set vs) h = refl
small_of s (seq vs) h = refl
small_of s (map_of es) h = refl
small_of s (value.tag n) h = refl
small_of never (int n) h = let no' : false ≡ true = h.of_sort.has in cc
small_of bools (int n) h = let no' : false ≡ true = h.of_sort.has in cc
small_of (pairs a b) (int n) h = let no' : false ≡ true = h.of_sort.has in cc
small_of (sets a) (int n) h = let no' : false ≡ true = h.of_sort.has in cc
small_of (seqs a m) (int n) h = let no' : false ≡ true = h.of_sort.has in cc
small_of (maps a b) (int n) h = let no' : false ≡ true = h.of_sort.has in cc
small_of (enums ns) (int n) h = let no' : false ≡ true = h.of_sort.has in cc

-- a sequence of an allowed sort is short
short_of : (s : PlainSort) (v : PlainValue) → Sound s v → is_small_or_short v ≡ true
short_of s (int n) h = small_of s (int n) h
short_of s (bool b) h = refl
short_of s (pair v w) h = refl
short_of s (set vs) h = refl
short_of s (map_of es) h = refl
short_of s (value.tag n) h = refl
short_of (seqs a n) (seq vs) h =
    let p = and_parts (nat_le (length (items vs)) n) (list_all (has_sort a) (items vs)) h.of_sort.has in
    let q = and_parts (nat_le (sort_depth a + 1) 8) (is_bounded a && nat_le n 65536) h.sort_allowed in
    let r = and_parts (is_bounded a) (nat_le n 65536) q.1 in
    by (length (items vs)) n p.0 r.1
  where
    by : (m n : ℕ) → nat_le m n ≡ true → nat_le n 65536 ≡ true → in_limits (pos m) ≡ true
    by m n p q = grind (arith, int_rules, nat_tests)
short_of never (seq vs) h = let no' : false ≡ true = h.of_sort.has in cc
short_of bools (seq vs) h = let no' : false ≡ true = h.of_sort.has in cc
short_of (ints lo hi) (seq vs) h = let no' : false ≡ true = h.of_sort.has in cc
short_of (pairs a b) (seq vs) h = let no' : false ≡ true = h.of_sort.has in cc
short_of (sets a) (seq vs) h = let no' : false ≡ true = h.of_sort.has in cc
short_of (maps a b) (seq vs) h = let no' : false ≡ true = h.of_sort.has in cc
short_of (enums ns) (seq vs) h = let no' : false ≡ true = h.of_sort.has in cc

all_short : (ss : List PlainSort) (vs : List PlainValue) → list_all is_allowed ss ≡ true → AreOfSorts ss vs → list_all is_small_or_short vs ≡ true
all_short [] [] q h = refl
all_short [] (v ∷ vs) q h = absurd h
all_short (s ∷ ss) [] q h = absurd h
all_short (s ∷ ss) (v ∷ vs) q h =
    let r = and_parts (is_allowed s) (list_all is_allowed ss) q in
    and_both (is_small_or_short v) (list_all is_small_or_short vs) (short_of s v (record { of_sort = h.0; sort_allowed = r.0 })) (all_short ss vs r.1 h.1)

or_none : (b c : Bool) → (b || c) ≡ false → (b ≡ false) × (c ≡ false)
or_none true c p = cc
or_none false c p = (refl, p)

-- the least value of a sort is of that sort, where the sort holds no sort without values
least_sorted : (a : PlainSort) → is_bounded a ≡ true → has_never a ≡ false → has_sort a (least_value a) ≡ true
least_sorted never p q = cc
least_sorted bools p q = refl
least_sorted (ints lo hi) p q =
    let r = and_parts (int_le lo hi && int_le (negsuc 4611686018427387903) lo) (int_le hi (pos 4611686018427387904)) p in
    and_both (int_le lo lo) (int_le lo hi) (int_le-itself lo) (and_parts (int_le lo hi) (int_le (negsuc 4611686018427387903) lo) r.0).0
least_sorted (pairs a b) p q =
    let r = and_parts (is_bounded a) (is_bounded b) p in
    let n = or_none (has_never a) (has_never b) q in
    and_both (has_sort a (least_value a)) (has_sort b (least_value b)) (least_sorted a r.0 n.0) (least_sorted b r.1 n.1)
least_sorted (sets a) p q = refl
least_sorted (seqs a n) p q = and_both (nat_le 0 n) true (zero_le n) refl
  where
    zero_le : (n : ℕ) → nat_le 0 n ≡ true
    zero_le n = grind (arith, nat_tests)
least_sorted (maps a b) p q = refl
least_sorted (enums []) p q = cc
least_sorted (enums (n ∷ ns)) p q = least_from-among n ns

least_canonical : (a : PlainSort) → IsCanonical (least_value a)
least_canonical never = tt
least_canonical bools = tt
least_canonical (ints lo hi) = tt
least_canonical (pairs a b) = (least_canonical a, least_canonical b)
least_canonical (sets a) = (tt, tt)
least_canonical (seqs a n) = tt
least_canonical (maps a b) = (tt, tt)
least_canonical (enums ns) = tt

cast_sound : (a s : PlainSort) (ss : List PlainSort) (vs : List PlainValue) → cast_sort a ss ≡ Ok s → AreOfSorts ss vs → Sound s (cast_value a vs)
cast_sound a s ss vs p h =
    let r = with_one_ok ss (λ _. cond (has_never a) (Err Bounds) (allowed a)) s p in
    let w = one_value r.0 vs (subst (λ z. AreOfSorts z vs) r.1 h) in
    subst (λ z. Sound s (cast_value a z)) (sym w.1) (by_never w.0 w.2.canonical (has_never a) refl r.2)
  where
    by_sort : (v : PlainValue) → IsCanonical v → IsOfSort a (least_value a) → (c : Bool) → has_sort a v ≡ c → IsOfSort a (cond c v (least_value a))
    by_sort v k l true e = record { has = e; canonical = k }
    by_sort v k l false e = l

    by_never : (v : PlainValue) → IsCanonical v → (c : Bool) → has_never a ≡ c → cond c (Err Bounds) (allowed a) ≡ ok s → Sound s (cast_value a (v ∷ []))
    by_never v k true e q = cc
    by_never v k false e q =
        let x = allowed_ok a s q in
        let y = and_parts (nat_le (sort_depth a) 8) (is_bounded a) (ap is_allowed x.0 ∙ x.1) in
        record {
          of_sort = subst (λ z. IsOfSort z (cast_value a (v ∷ []))) x.0
              (by_sort v k (record { has = least_sorted a y.1 e; canonical = least_canonical a }) (has_sort a v) refl);
          sort_allowed = x.1;
        }

-- a tag is of the sort of that name alone
tag_sound : (n : List ℕ) (s : PlainSort) → allowed (enums (n ∷ [])) ≡ ok s → Sound s (value.tag n)
tag_sound n s p =
    let has_name : has_sort (enums (n ∷ [])) (value.tag n) ≡ true = least_from-among n [] in
    subst (λ z. Sound z (value.tag n)) (ok_same (enums (n ∷ [])) s p) (record { of_sort = record { has = has_name; canonical = tt }; sort_allowed = refl })

seq_evaluates : (o : SeqOp) (ss : List PlainSort) (vs : List PlainValue) (s : PlainSort) → seq_sort o ss ≡ Ok s → AreOfSorts ss vs → Evaluates s (seq_value o vs) (op_small (Seq o) vs)
seq_evaluates Total ss vs s p h = record { sound = seq_sound Total ss vs s p h; stays = total_small ss vs s p h }
seq_evaluates o ss vs s p h = record { sound = seq_sound o ss vs s p h; stays = refl }

-- calls give values of the declared sorts, and their evaluation stays small
pub record CallsFit (known : List PlainDef) (calls : Calls) (checks : Checks) : Type 0 where
  pub fits : (f : List ℕ) (ss : List PlainSort) (vs : List PlainValue) (s : PlainSort) → call_sort f known ss ≡ Ok s → AreOfSorts ss vs → Evaluates s (call_at f calls vs) (check_at f checks vs)

pub Fits-more : (x : List ℕ) (a : PlainSort) (v : PlainValue) (names : Names) (env : Env) → IsOfSort a v → Fits names env → Fits ((x, a) ∷ names) ((x, v) ∷ env)
Fits-more x a v names env hv h y s p = by (same_name y x) p
  where
    by : (c : Bool) → cond c (ok a) (sort_at y names) ≡ ok s → IsOfSort s (cond c v (value_at y env))
    by true q = subst (λ z. IsOfSort z v) (ok_same a s q) hv
    by false q = h y s q

pub AreAllowed-more : (x : List ℕ) (a : PlainSort) (names : Names) → is_allowed a ≡ true → AreAllowed names → AreAllowed ((x, a) ∷ names)
AreAllowed-more x a names ha h y s p = by (same_name y x) p
  where
    by : (c : Bool) → cond c (ok a) (sort_at y names) ≡ ok s → is_allowed s ≡ true
    by true q = subst (λ z. is_allowed z ≡ true) (ok_same a s q) ha
    by false q = h y s q

-- the element sort of an allowed set sort is allowed
pub element_allowed : (a : PlainSort) → is_allowed (sets a) ≡ true → is_allowed a ≡ true
element_allowed a p =
    let r = and_parts (nat_le (sort_depth a + 1) 8) (is_bounded a && nat_le (count_of a) 65536) p in
    and_both (nat_le (sort_depth a) 8) (is_bounded a) (less (sort_depth a) r.0) (and_parts (is_bounded a) (nat_le (count_of a) 65536) r.1).0
  where
    less : (n : ℕ) → nat_le (n + 1) 8 ≡ true → nat_le n 8 ≡ true
    less n h = grind (arith, nat_tests)

unshadowed_ok : (x : List ℕ) (names : Names) (a s : PlainSort) → unshadowed x names a ≡ Ok s → a ≡ s
unshadowed_ok x names a s p = by (is_named x names) p
  where
    by : (c : Bool) → cond c (Err Shadow) (ok a) ≡ ok s → a ≡ s
    by true p = cc
    by false p = cc

abbrev oks : List PlainSort → Result (List PlainSort) Fault
oks ss = Ok ss

ok_lists : (a b : List PlainSort) → oks a ≡ oks b → a ≡ b
ok_lists a b p = cc

-- the values of terms and what their evaluation meets
pub record AllEvaluate (ss : List PlainSort) (vs : List PlainValue) (small : Bool) : Type 0 where
  pub of_sorts : AreOfSorts ss vs
  pub sorts_allowed : list_all is_allowed ss ≡ true
  pub stay : small ≡ true

-- the sorts that a sorted binder is made of
pub record BinderSorts (known : List PlainDef) (names : Names) (b : Binder) (x : List ℕ) (u t : PlainTerm) (s : PlainSort) : Type 0 where
  pub element : PlainSort
  pub body : PlainSort
  pub of_set : least_sort known names u ≡ Ok (sets element)
  pub of_body : least_sort known ((x, element) ∷ names) t ≡ Ok body
  pub made : binder_sort b element body ≡ Ok s

pub binder_ok : (known : List PlainDef) (names : Names) (b : Binder) (x : List ℕ) (u t : PlainTerm) (s : PlainSort) → least_sort known names (bind b x u t) ≡ Ok s → BinderSorts known names b x u t s
binder_ok known names b x u t s p =
    let r = bind_ok (least_sort known names u) (λ set. with_set set (λ e. least_sort known ((x, e) ∷ names) t >>= λ body. binder_sort b e body >>= unshadowed x names)) s p in
    let q = with_set_ok r.0 (λ e. least_sort known ((x, e) ∷ names) t >>= λ body. binder_sort b e body >>= unshadowed x names) s r.2 in
    let w = bind_ok (least_sort known ((x, q.0) ∷ names) t) (λ body. binder_sort b q.0 body >>= unshadowed x names) s q.2 in
    let y = bind_ok (binder_sort b q.0 w.0) (unshadowed x names) s w.2 in
    record { element = q.0; body = w.0; of_set = r.1 ∙ ap ok q.1; of_body = w.1; made = y.1 ∙ ap ok (unshadowed_ok x names y.0 s y.2) }

module _ (known : List PlainDef) (calls : Calls) (checks : Checks) (fit : CallsFit known calls checks) where
  head_sound : (g : PlainHead) (ns : Numbers) (ss : List PlainSort) (vs : List PlainValue) (s : PlainSort) → head_sort known g ns ss ≡ Ok s → list_all is_allowed ss ≡ true
      → AreOfSorts ss vs → AreWritten ns vs → Evaluates s (head_value calls g vs) (head_small checks g vs)
  head_sound (op (Logic o)) ns ss vs s p q h e = record { sound = logic_sound o ss vs s p h; stays = refl }
  head_sound (op (Number o)) ns ss vs s p q h e = record { sound = number_sound o ss vs s p h; stays = refl }
  head_sound (op (Pair o)) ns ss vs s p q h e = record { sound = pair_sound o ss vs s p h; stays = refl }
  head_sound (op (Set o)) ns ss vs s p q h e = set_evaluates o ss vs s p q h
  head_sound (op (Seq o)) ns ss vs s p q h e = seq_evaluates o ss vs s p h
  head_sound (op (Map o)) ns ss vs s p q h e = record { sound = map_sound o ss vs s p h; stays = refl }
  head_sound (op (Word o)) ns ss vs s p q h e = record { sound = word_sound o ns ss vs s p h e; stays = all_short ss vs q h }
  head_sound (call f) ns ss vs s p q h e = fit.fits f ss vs s p h
  head_sound (cast a) ns ss vs s p q h e = record { sound = cast_sound a s ss vs p h; stays = refl }

  -- a binder over a set of e, given what is shown of the set and of the body at each member
  bound_sound : (b : Binder) (x : List ℕ) (u t : PlainTerm) (env : Env) (e body s : PlainSort)
      → Evaluates (sets e) (eval calls env u) (stays_small calls checks env u)
      → ((v : PlainValue) → IsOfSort e v → Evaluates body (eval calls ((x, v) ∷ env) t) (stays_small calls checks ((x, v) ∷ env) t))
      → binder_sort b e body ≡ Ok s
      → Evaluates s (eval calls env (bind b x u t)) (stays_small calls checks env (bind b x u t))
  bound_sound b x u t env e body s k l p =
      let m = members_sound e (eval calls env u) k.sound.of_sort in
      let w = binder_sound b e body s (members_of (eval calls env u)) (λ v. eval calls ((x, v) ∷ env) t) p k.sound.sort_allowed m (λ v hv. (l v hv).sound.of_sort) in
      record {
        sound = w.sound;
        stays = and_both _ _
            (and_both _ _ k.stays (list_all-Each (IsOfSort e) (λ v. stays_small calls checks ((x, v) ∷ env) t) (λ v hv. (l v hv).stays) (members_of (eval calls env u)) m.each))
            w.stays;
      }

  mutual
    pub evaluates : (t : PlainTerm) (names : Names) (env : Env) (s : PlainSort) → least_sort known names t ≡ Ok s → AreAllowed names → Fits names env
        → Evaluates s (eval calls env t) (stays_small calls checks env t)
    evaluates (var x) names env s p a h =
        let k : Sound s (value_at x env) = record { of_sort = h x s p; sort_allowed = a x s p } in
        record { sound = k; stays = small_of s (value_at x env) k }
    evaluates (number n) names env s p a h = let k = interval_sound n n n s (itself n) (itself n) p in record { sound = k; stays = small_of s (int n) k }
      where
        itself : (n : ℤ) → n ≤ℤ n
        itself n = omega (arith, int_rules)
    evaluates (truth b) names env s p a h = record { sound = truth_sound b s p; stays = refl }
    evaluates (tag n) names env s p a h = record { sound = tag_sound n s p; stays = refl }
    evaluates (app g ts) names env s p a h =
        let r = bind_ok (least_sorts known names ts) (head_sort known g (written ts)) s p in
        let k = all_evaluate ts names env r.0 r.1 a h in
        let w = head_sound g (written ts) r.0 (evals calls env ts) s r.2 k.sorts_allowed k.of_sorts (written_values calls env ts) in
        record {
          sound = w.sound;
          stays = and_both _ _ (and_both (all_stay_small calls checks env ts) (head_small checks g (evals calls env ts)) k.stay w.stays) (small_of s (head_value calls g (evals calls env ts)) w.sound);
        }
    evaluates (bind b x u t) names env s p a h =
        let r = binder_ok known names b x u t s p in
        let k = evaluates u names env (sets r.element) r.of_set a h in
        bound_sound b x u t env r.element r.body s k
        (λ v hv. evaluates t ((x, r.element) ∷ names) ((x, v) ∷ env) r.body r.of_body (AreAllowed-more x r.element names (element_allowed r.element k.sound.sort_allowed) a)
        (Fits-more x r.element v names env hv h)) r.made

    pub all_evaluate : (ts : PlainTerms) (names : Names) (env : Env) (ss : List PlainSort) → least_sorts known names ts ≡ Ok ss → AreAllowed names → Fits names env
        → AllEvaluate ss (evals calls env ts) (all_stay_small calls checks env ts)
    all_evaluate no_term names env ss p a h =
        record {
          of_sorts = subst (λ z. AreOfSorts z []) (ok_lists [] ss p) tt;
          sorts_allowed = subst (λ z. list_all is_allowed z ≡ true) (ok_lists [] ss p) refl;
          stay = refl;
        }
    all_evaluate (term t ts) names env ss p a h =
        let r = bind_ok (least_sort known names t) (λ s. least_sorts known names ts >>= λ us. Ok (s ∷ us)) ss p in
        let q = bind_ok (least_sorts known names ts) (λ us. Ok (r.0 ∷ us)) ss r.2 in
        let k = evaluates t names env r.0 r.1 a h in
        let l = all_evaluate ts names env q.0 q.1 a h in
        record {
          of_sorts = subst (λ z. AreOfSorts z (eval calls env t ∷ evals calls env ts)) (ok_lists (r.0 ∷ q.0) ss q.2) (k.sound.of_sort, l.of_sorts);
          sorts_allowed = subst (λ z. list_all is_allowed z ≡ true) (ok_lists (r.0 ∷ q.0) ss q.2) (and_both (is_allowed r.0) (list_all is_allowed q.0) k.sound.sort_allowed l.sorts_allowed);
          stay = and_both (stays_small calls checks env t) (all_stay_small calls checks env ts) k.stays l.stay;
        }

-- ---- definitions

fit-length : (ps : Names) (ss : List PlainSort) (vs : List PlainValue) → fit_parameters ps ss ≡ true → AreOfSorts ss vs → length vs ≡ length ps
fit-length [] [] [] p h = refl
fit-length [] [] (v ∷ vs) p h = absurd h
fit-length [] (s ∷ ss) vs p h = cc
fit-length (q ∷ ps) [] vs p h = cc
fit-length (q ∷ ps) (s ∷ ss) [] p h = absurd h
fit-length (q ∷ ps) (s ∷ ss) (v ∷ vs) p h =
    let r = and_parts (is_subsort s q.1) (fit_parameters ps ss) p in
    let e : length vs ≡ length ps = fit-length ps ss vs r.1 h.1 in omega arith

-- the parameters fit their arguments
Fits-bound : (ps : Names) (ss : List PlainSort) (vs : List PlainValue) → fit_parameters ps ss ≡ true → AreOfSorts ss vs → Fits ps (bound ps vs)
Fits-bound [] ss vs p h = λ x s e. cc
Fits-bound (q ∷ ps) [] vs p h = cc
Fits-bound (q ∷ ps) (s ∷ ss) [] p h = absurd h
Fits-bound (q ∷ ps) (s ∷ ss) (v ∷ vs) p h =
    let r = and_parts (is_subsort s q.1) (fit_parameters ps ss) p in
    Fits-more q.0 q.1 v ps (bound ps vs) (IsOfSort-subsort s q.1 v r.0 h.0) (Fits-bound ps ss vs r.1 h.1)

nothing_fits : CallsFit [] [] []
nothing_fits = record { fits = λ f ss vs s p h. cc }

-- one more sound definition
defined_fits : (known : List PlainDef) (calls : Calls) (checks : Checks) (d : PlainDef) → CallsFit known calls checks → IsSound known d
    → CallsFit (d ∷ known) ((d.name, def_value calls d) ∷ calls) ((d.name, def_small calls checks d) ∷ checks)
defined_fits known calls checks d fit sound = record { fits = λ f ss vs s p h. by f ss vs s h (same_name f d.name) p }
  where
    called : (ss : List PlainSort) (vs : List PlainValue) → AreOfSorts ss vs → fit_parameters d.parameters ss ≡ true → Evaluates d.sort (def_value calls d vs) (def_small calls checks d vs)
    called ss vs h p =
        let k = evaluates known calls checks fit d.body d.parameters (bound d.parameters vs) sound.of_body sound.body_sorted sound.parameters_allowed (Fits-bound d.parameters ss vs p h) in
        let e : nat_eq (length vs) (length d.parameters) ≡ true = counted (length vs) (length d.parameters) (fit-length d.parameters ss vs p h) in
        rw e
        (record {
          sound = record { of_sort = IsOfSort-subsort sound.of_body d.sort (eval calls (bound d.parameters vs) d.body) sound.within k.sound.of_sort; sort_allowed = sound.sort_allowed };
          stays = k.stays;
        })
      where
        counted : (m n : ℕ) → m ≡ n → nat_eq m n ≡ true
        counted m n e = grind (arith, nat_tests)

    by_fit : (ss : List PlainSort) (vs : List PlainValue) (s : PlainSort) → AreOfSorts ss vs → (c : Bool) → fit_parameters d.parameters ss ≡ c → cond c (ok d.sort) (Err Kind) ≡ ok s
        → Evaluates s (def_value calls d vs) (def_small calls checks d vs)
    by_fit ss vs s h true e q = subst (λ z. Evaluates z (def_value calls d vs) (def_small calls checks d vs)) (ok_same d.sort s q) (called ss vs h e)
    by_fit ss vs s h false e q = cc

    by : (f : List ℕ) (ss : List PlainSort) (vs : List PlainValue) (s : PlainSort) → AreOfSorts ss vs → (c : Bool)
        → cond c (cond (fit_parameters d.parameters ss) (ok d.sort) (Err Kind)) (call_sort f known ss) ≡ ok s
        → Evaluates s (cond c (def_value calls d vs) (call_at f calls vs)) (cond c (def_small calls checks d vs) (check_at f checks vs))
    by f ss vs s h true q = by_fit ss vs s h (fit_parameters d.parameters ss) refl q
    by f ss vs s h false q = fit.fits f ss vs s q h

defs_fit : (ds known : List PlainDef) (calls : Calls) (checks : Checks) → CallsFit known calls checks → AreSoundOver known ds
    → CallsFit (latest_over known ds) (calls_over calls ds) (checks_over calls checks ds)
defs_fit [] known calls checks fit sound = fit
defs_fit (d ∷ ds) known calls checks fit sound =
    defs_fit ds (d ∷ known) ((d.name, def_value calls d) ∷ calls) ((d.name, def_small calls checks d) ∷ checks) (defined_fits known calls checks d fit sound.0) sound.1

-- the calls of sound definitions fit
pub calls_fit : (ds : List PlainDef) → AreSound ds → CallsFit (latest_first ds) (calls_of ds) (checks_of ds)
calls_fit ds sound = defs_fit ds [] [] [] nothing_fits sound

-- a term with a sort is neither too large nor too deep, and has that least sort
pub sort_of_ok : (defs : List PlainDef) (names : Names) (t : PlainTerm) (s : PlainSort) → sort_of defs names t ≡ Ok s
    → (nat_le (node_count t) 4096 ≡ true) × (nat_le (depth t) 128 ≡ true) × (least_sort (latest_first defs) names t ≡ Ok s)
sort_of_ok defs names t s p = by (nat_le (node_count t) 4096) (nat_le (depth t) 128) p
  where
    by : (c d : Bool) → cond c (cond d (least_sort (latest_first defs) names t) (Err TermDeep)) (Err Size) ≡ ok s → (c ≡ true) × (d ≡ true) × (least_sort (latest_first defs) names t ≡ Ok s)
    by true true q = (refl, refl, q)
    by true false q = cc
    by false d q = cc

pub sorted_evaluates : (defs : List PlainDef) (names : Names) (env : Env) (t : PlainTerm) (s : PlainSort) → AreSound defs → AreAllowed names → Fits names env → sort_of defs names t ≡ Ok s
    → Evaluates s (eval (calls_of defs) env t) (stays_small (calls_of defs) (checks_of defs) env t)
sorted_evaluates defs names env t s sound a h p =
    evaluates (latest_first defs) (calls_of defs) (checks_of defs) (calls_fit defs sound) t names env s (sort_of_ok defs names t s p).2 a h

pub sorted-kept : SortsAreKept
sorted-kept defs names env t s sound a h p = let k = sorted_evaluates defs names env t s sound a h p in record { of_sort = k.sound.of_sort; small = k.stays }
