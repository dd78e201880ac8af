use Rattle.std.proofs.Common.{◌≡◌, ◌∙◌, sym, subst, ap, Ok}
use Rattle.kid_term.specs.TermView.{plain_term}
use Rattle.kid_moves.specs.MoveView.{plain_move}
use Rattle.kid_kernel.specs.FactAnswers.{Stepped}
use Rattle.kid_kernel.specs.Held.{AllSorted}
use Rattle.kid_kernel.specs.Moves.{moved, stepped}
use Rattle.kid_kernel.specs.TheoryView.{plain_theory}
use Rattle.kid_kernel.proofs.StepLemmas.{step_kept, step_returns, facts_of}
use Rattle.kid_kernel.proofs.facts.Facts.step.Goals as goal

pub moved-requires-clause-sound : goal.moved-requires-clause-sound
moved-requires-clause-sound c = (c.self.invariant.0 (plain_theory c.args.theory.now) (c.requires ∙ ap (λ f. f.theory) (sym c.self.view_is))).theory.sound

pub moved-requires-clause-sorted : goal.moved-requires-clause-sorted
moved-requires-clause-sorted c =
    subst (AllSorted c.args.theory.now.signature.definitions c.self.inside.names) (sym c.items.ensures)
    (c.self.invariant.0 (plain_theory c.args.theory.now) (c.requires ∙ ap (λ f. f.theory) (sym c.self.view_is))).sorted

pub invariant_of-self : goal.invariant_of-self
invariant_of-self c =
    step_kept c.pushed.result c.self.inside.tag.numbers (plain_theory c.args.theory.now) c.self.inside.names c.self.inside.starts c.self.inside.items c.pushed.new.facts (plain_move c.args.step.now)
    (plain_term c.in_ok-fact.fact) c.pushed.ensures.facts c.pushed.ensures.counted c.self.invariant (c.requires ∙ ap (λ f. f.theory) (sym c.self.view_is))
    (subst (λ fs. moved (plain_theory c.args.theory.now) c.self.inside.names fs (plain_move c.args.step.now) ≡ Ok (plain_term c.in_ok-fact.fact)) c.items.ensures c.in_ok-fact.ensures)

pub returns : goal.returns
returns c =
    subst (λ f. Stepped c.pushed.result f (facts_of c.self.inside.tag.numbers c.self.inside.names c.self.inside.starts c.pushed.new.facts) (stepped (plain_theory c.args.theory.now) f (plain_move c.args.step.now)))
    c.self.view_is
    (step_returns c.pushed.result c.self.inside.tag.numbers (plain_theory c.args.theory.now) c.self.inside.names c.self.inside.starts c.self.inside.items c.pushed.new.facts (plain_move c.args.step.now)
    (plain_term c.in_ok-fact.fact) c.pushed.ensures.facts c.self.invariant.1
    (subst (λ fs. moved (plain_theory c.args.theory.now) c.self.inside.names fs (plain_move c.args.step.now) ≡ Ok (plain_term c.in_ok-fact.fact)) c.items.ensures c.in_ok-fact.ensures))
