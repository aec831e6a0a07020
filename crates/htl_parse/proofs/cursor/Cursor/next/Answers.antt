use Rattle.std.proofs.Common.{List, ◌+◌, drop, sym, subst, ap, ◌∙◌}
use Rattle.htl_parse.proofs.{Words.Placed, Words.next_kind, Words.NextIs, Standing.next-first, Standing.kind-at}
use Rattle.htl_parse.proofs.cursor.Cursor.next.Goals as goal

pub returns-clause-kind : goal.returns-clause-kind
returns-clause-kind c = c.kind.ensures.kind ∙ sym (kind-at c.self.inside.place c.self.inside.place c.self.inside.tokens.now.tokens) ∙ ap next_kind c.self.view_is

pub returns-clause-first : goal.returns-clause-first
returns-clause-first c =
    subst (λ (ts : List Placed). NextIs ts c.kind.result) c.self.view_is
    (next-first c.self.inside.place (drop c.self.inside.place c.self.inside.tokens.now.tokens) (drop (c.self.inside.place + 1) c.self.inside.tokens.now.tokens) c.kind.result c.kind.ensures.first)
