use Rattle.std.proofs.Common.{◌≡◌, List, ◌∷◌, ◌+◌, drop, sym, subst, ap, ◌∙◌}
use Rattle.htl_parse.proofs.{Words.Placed, Words.Put, Words.next_kind, Words.behind, Words.place_at, Standing.next-is, Standing.kind-at}
use Rattle.htl_text.specs.declared.token.Token.TheVariants as token
use Rattle.htl_parse.proofs.cursor.Cursor.next_name.Goals as goal

pub name-requires : goal.name-requires
name-requires c = sym (kind-at c.self.inside.place c.self.inside.place c.self.inside.tokens.now.tokens) ∙ ap next_kind c.self.view_is ∙ c.requires

pub returns : goal.returns
returns c =
    subst (λ (ts : List Placed). ts ≡ Put (place_at ts) (token.Ident c.name.result) ∷ behind ts) c.self.view_is
    (next-is c.self.inside.place (drop c.self.inside.place c.self.inside.tokens.now.tokens) (drop (c.self.inside.place + 1) c.self.inside.tokens.now.tokens) (token.Ident c.name.result) c.name.ensures.first)
