-- Names as they are taken in.
use Rattle.std.proofs.Common.{◌≡◌, ℕ, ◌+◌, ◌<◌, List, [], ◌∷◌, ◌++◌, length, get_or, drop, Option, Some, None, refl, sym, ap, ◌∙◌, append_assoc}
use Rattle.kid_sexp.specs.declared.tree.Tree.{Tree}
use Rattle.kid_sexp.specs.Tree.{plain, plains}
use Rattle.kid_value.specs.PlainSort.{PlainSort}
use Rattle.kid_value.specs.SortOrder.{both}
use Rattle.kid_term.specs.Names.{Names}
use Rattle.kid_codec.specs.Reading.{◌>>=◌}
use Rattle.kid_codec.proofs.Each.{cons_at}
use Rattle.kid_theory.specs.Shapes.{declared_list, declared_each}

-- the names so far, and then those
abbrev pub names_after : Names → Option Names → Option Names
names_after done rest = rest >>= λ ns. Some (done ++ ns)

name_taken : (done new : Names) (n : List ℕ × PlainSort) (rest : Option Names) → new ≡ done ++ n ∷ [] → names_after done (both (λ m ns. m ∷ ns) (Some n) rest) ≡ names_after new rest
name_taken done new n None is = refl
name_taken done new n (Some ns) is = ap Some (sym (append_assoc done (n ∷ []) ns) ∙ ap (λ (l : Names). l ++ ns) (sym is))

names_front : (done : Names) (trees : List Tree) (i : ℕ) (item : Tree) → i < length trees → item ≡ get_or trees i item
    → names_after done (declared_each (plains (drop i trees))) ≡ names_after done (both (λ m ns. m ∷ ns) (declared_list (plain item)) (declared_each (plains (drop (i + 1) trees))))
names_front done trees i item within is = ap (λ (ts : List Tree). names_after done (declared_each (plains ts))) (cons_at trees i item within is)

-- where the next tree is a name with a sort, it is taken in
pub names-step : (done new : Names) (trees : List Tree) (i : ℕ) (item : Tree) (n : List ℕ × PlainSort) (total : Option Names) → i < length trees → item ≡ get_or trees i item
    → declared_list (plain item) ≡ Some n → new ≡ done ++ n ∷ []
    → names_after done (declared_each (plains (drop i trees))) ≡ total → names_after new (declared_each (plains (drop (i + 1) trees))) ≡ total
names-step done new trees i item n total within is reads grows told =
    sym (name_taken done new n (declared_each (plains (drop (i + 1) trees))) grows)
    ∙ ap (λ (o : Option (List ℕ × PlainSort)). names_after done (both (λ m ns. m ∷ ns) o (declared_each (plains (drop (i + 1) trees))))) (sym reads)
    ∙ sym (names_front done trees i item within is) ∙ told
