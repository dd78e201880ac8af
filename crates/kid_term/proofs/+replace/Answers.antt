use Rattle.std.proofs.Common.{sym, ap, ◌∙◌, get_or, arith}
use Rattle.kid_term.specs.TermView.{plain_term}
use Rattle.kid_term.proofs.ReplaceLemmas.{replaces_among, refuses_among, refuses_past}
use Rattle.kid_term.proofs.+replace.Goals as goal

pub Terms::replace_at-returns-then-at-len : goal.Terms::replace_at-returns-then-at-len
Terms::replace_at-returns-then-at-len t c = refuses_past c.args.self c.self.inside.items.items c.args.i c.args.path.now (plain_term c.args.new) c.self.view_is (omega arith)

pub Terms::replace_at-returns-in-Ok : goal.Terms::replace_at-returns-in-Ok
Terms::replace_at-returns-in-Ok t c =
    replaces_among c.args.self c.self.inside.items.items c.args.i c.args.path.now (plain_term c.args.new) (plain_term c.in-Ok.old) c.replace-child.result c.in-Ok.whole c.replace-child.new.dest
    c.self.view_is (omega arith) (c.replace-child.ensures.value ∙ c.index_mut.ensures.value ∙ ap (get_or c.self.inside.items.items c.args.i) (sym c.replace-child.ensures.value)) c.in-Ok.ensures

pub Terms::replace_at-returns-in-Err : goal.Terms::replace_at-returns-in-Err
Terms::replace_at-returns-in-Err t c =
    refuses_among c.args.self c.self.inside.items.items c.args.i c.args.path.now (plain_term c.args.new) (plain_term c.in-Err.new) c.replace-child.result c.in-Err.whole c.replace-child.new.dest
    c.self.view_is (omega arith) (c.replace-child.ensures.value ∙ c.index_mut.ensures.value ∙ ap (get_or c.self.inside.items.items c.args.i) (sym c.replace-child.ensures.value)) c.in-Err.ensures
