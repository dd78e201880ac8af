-- Terms and moves of a theory: read one after another, and each term by its spelling.
use Rattle.std.proofs.Common.{◌≡◌, Bool, true, false, if◌then◌else◌, Some, None, refl, ap, ◌∙◌}
use Rattle.kid_sexp.specs.Plain.{Plain}
use Rattle.kid_term.specs.PlainTerm.{PlainTerm}
use Rattle.kid_term.specs.WordTerms.{holds_word_operator}
use Rattle.kid_codec.specs.TermSpelling.{spelled_term}
use Rattle.kid_codec.proofs.Each.{ReadsEach}
use Rattle.kid_codec.proofs.Found.{same_some, bind_some}
use Rattle.kid_lines.specs.LineReading.{spelled_move}
use Rattle.kid_theory.specs.Shapes.{if_theory_term, theory_term, theory_terms, spelled_moves}

pub theory_terms_each : ReadsEach theory_term theory_terms
theory_terms_each = record { at_none = refl; at_more = λ t ts. refl }

pub moves_each : ReadsEach spelled_move spelled_moves
moves_each = record { at_none = refl; at_more = λ t ts. refl }

unless-same : (b : Bool) (t u : PlainTerm) → (if b then None else Some t) ≡ Some u → t ≡ u
unless-same true t u p = cc
unless-same false t u p = same_some t u p

pub theory_term-spelled : (t : Plain) (u : PlainTerm) → theory_term t ≡ Some u → spelled_term t ≡ Some u
theory_term-spelled t u e =
    let m = bind_some (spelled_term t) if_theory_term u e in
    m.1 ∙ ap Some (unless-same (holds_word_operator m.0) m.0 u m.2)
