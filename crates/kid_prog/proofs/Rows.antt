-- Statements and names as they are taken in.
use Rattle.std.proofs.Common.{◌≡◌, ℕ, ◌+◌, ◌<◌, ◌≤◌, List, [], ◌∷◌, ◌++◌, length, get_or, drop, Option, Some, None, refl, sym, ap, ◌∙◌, append_assoc, append-nil}
use Rattle.std.proofs.lemmas.List.{drop_all}
use Rattle.kid_sexp.specs.declared.tree.Tree.{Tree}
use Rattle.kid_sexp.specs.declared.tree.Tree.TheVariants.{Atom}
use Rattle.kid_sexp.specs.Plain.{list}
use Rattle.kid_sexp.specs.Tree.{plain, plains}
use Rattle.kid_value.specs.PlainSort.{PlainSort}
use Rattle.kid_value.specs.SortOrder.{both}
use Rattle.kid_term.specs.Names.{Names}
use Rattle.kid_codec.specs.Reading.{◌>>=◌}
use Rattle.kid_codec.proofs.Each.{cons_at}
use Rattle.kid_prog.specs.PlainStmt.{PlainStmt, PlainStmts, no_stmt, stmt, stmts, stmt_row}
use Rattle.kid_prog.specs.StmtShape.{stmt_of_word, spelled_stmt, spelled_stmts, spelled_if, spelled_for}
use Rattle.kid_prog.specs.Forms.{named_list, spelled_names}

-- a list that begins with a word
pub listed : (ts : List Tree) (t : Tree) (rest : List Tree) (w : List ℕ) → ts ≡ t ∷ rest → t ≡ Atom w
    → spelled_stmt (list (plains ts)) ≡ stmt_of_word w (plains rest) (spelled_if (plains rest)) (spelled_for (plains rest))
listed ts t rest w p q = ap (λ (us : List Tree). spelled_stmt (list (plains us))) p ∙ ap (λ (u : Tree). spelled_stmt (list (plains (u ∷ rest)))) q

-- the statements so far, and then those
abbrev pub stmts_after : List PlainStmt → Option PlainStmts → Option PlainStmts
stmts_after done rest = rest >>= λ ss. Some (stmt_row (done ++ stmts ss))

stmt_taken : (done new : List PlainStmt) (s : PlainStmt) (rest : Option PlainStmts) → new ≡ done ++ s ∷ [] → stmts_after done (both stmt (Some s) rest) ≡ stmts_after new rest
stmt_taken done new s None is = refl
stmt_taken done new s (Some ss) is =
    ap (λ (l : List PlainStmt). Some (stmt_row l)) (sym (append_assoc done (s ∷ []) (stmts ss)) ∙ ap (λ (l : List PlainStmt). l ++ stmts ss) (sym is))

stmts_front : (done : List PlainStmt) (trees : List Tree) (i : ℕ) (item : Tree) → i < length trees → item ≡ get_or trees i item
    → stmts_after done (spelled_stmts (plains (drop i trees))) ≡ stmts_after done (both stmt (spelled_stmt (plain item)) (spelled_stmts (plains (drop (i + 1) trees))))
stmts_front done trees i item within is = ap (λ (ts : List Tree). stmts_after done (spelled_stmts (plains ts))) (cons_at trees i item within is)

-- where the next tree is a statement, it is taken in
pub stmts-step : (done new : List PlainStmt) (trees : List Tree) (i : ℕ) (item : Tree) (s : PlainStmt) (total : Option PlainStmts) → i < length trees → item ≡ get_or trees i item
    → spelled_stmt (plain item) ≡ Some s → new ≡ done ++ s ∷ []
    → stmts_after done (spelled_stmts (plains (drop i trees))) ≡ total → stmts_after new (spelled_stmts (plains (drop (i + 1) trees))) ≡ total
stmts-step done new trees i item s total within is reads grows told =
    sym (stmt_taken done new s (spelled_stmts (plains (drop (i + 1) trees))) grows)
    ∙ ap (λ (o : Option PlainStmt). stmts_after done (both stmt o (spelled_stmts (plains (drop (i + 1) trees))))) (sym reads)
    ∙ sym (stmts_front done trees i item within is) ∙ told

-- where it is none, the whole is none
pub stmts-none : (done : List PlainStmt) (trees : List Tree) (i : ℕ) (item : Tree) (total : Option PlainStmts) → i < length trees → item ≡ get_or trees i item
    → spelled_stmt (plain item) ≡ None → stmts_after done (spelled_stmts (plains (drop i trees))) ≡ total → total ≡ None
stmts-none done trees i item total within is reads told =
    sym told ∙ stmts_front done trees i item within is
    ∙ ap (λ (o : Option PlainStmt). stmts_after done (both stmt o (spelled_stmts (plains (drop (i + 1) trees))))) reads

pub stmts-end : (done : List PlainStmt) (trees : List Tree) (i : ℕ) (total : Option PlainStmts) → length trees ≤ i
    → stmts_after done (spelled_stmts (plains (drop i trees))) ≡ total → total ≡ Some (stmt_row done)
stmts-end done trees i total over told =
    sym told ∙ ap (λ (ts : List Tree). stmts_after done (spelled_stmts (plains ts))) (drop_all i trees over)
    ∙ ap (λ (l : List PlainStmt). Some (stmt_row l)) (append-nil done)

row-stmts : (ss : PlainStmts) → stmt_row (stmts ss) ≡ ss
row-stmts no_stmt = refl
row-stmts (stmt s ss) = ap (stmt s) (row-stmts ss)

-- after none, those alone
pub stmts-begin : (o : Option PlainStmts) → stmts_after [] o ≡ o
stmts-begin None = refl
stmts-begin (Some ss) = ap Some (row-stmts ss)

-- the names so far, and then those
abbrev pub names_after : Names → Option Names → Option Names
names_after done rest = rest >>= λ ns. Some (done ++ ns)

name_taken : (done new : Names) (n : List ℕ × PlainSort) (rest : Option Names) → new ≡ done ++ n ∷ [] → names_after done (both (λ m ns. m ∷ ns) (Some n) rest) ≡ names_after new rest
name_taken done new n None is = refl
name_taken done new n (Some ns) is = ap Some (sym (append_assoc done (n ∷ []) ns) ∙ ap (λ (l : Names). l ++ ns) (sym is))

names_front : (done : Names) (trees : List Tree) (i : ℕ) (item : Tree) → i < length trees → item ≡ get_or trees i item
    → names_after done (spelled_names (plains (drop i trees))) ≡ names_after done (both (λ m ns. m ∷ ns) (named_list (plain item)) (spelled_names (plains (drop (i + 1) trees))))
names_front done trees i item within is = ap (λ (ts : List Tree). names_after done (spelled_names (plains ts))) (cons_at trees i item within is)

-- where the next tree is a name with a sort, it is taken in
pub names-step : (done new : Names) (trees : List Tree) (i : ℕ) (item : Tree) (n : List ℕ × PlainSort) (total : Option Names) → i < length trees → item ≡ get_or trees i item
    → named_list (plain item) ≡ Some n → new ≡ done ++ n ∷ []
    → names_after done (spelled_names (plains (drop i trees))) ≡ total → names_after new (spelled_names (plains (drop (i + 1) trees))) ≡ total
names-step done new trees i item n total within is reads grows told =
    sym (name_taken done new n (spelled_names (plains (drop (i + 1) trees))) grows)
    ∙ ap (λ (o : Option (List ℕ × PlainSort)). names_after done (both (λ m ns. m ∷ ns) o (spelled_names (plains (drop (i + 1) trees))))) (sym reads)
    ∙ sym (names_front done trees i item within is) ∙ told

pub names-end : (done : Names) (trees : List Tree) (i : ℕ) (total : Option Names) → length trees ≤ i
    → names_after done (spelled_names (plains (drop i trees))) ≡ total → total ≡ Some done
names-end done trees i total over told =
    sym told ∙ ap (λ (ts : List Tree). names_after done (spelled_names (plains ts))) (drop_all i trees over)
    ∙ ap Some (append-nil done)
