use Rattle.std.proofs.Common.{rules, ◌≡◌, List, ◌∷◌, ◌+◌, drop, sym, subst, ap, ◌∙◌}
use Rattle.htl_parse.proofs.{Words.Placed, Words.Put, Words.next_kind, Words.behind, Words.place_at, Standing.next-is, Standing.kind-at}
use Rattle.htl_text.specs.declared.token.Token.TheVariants as token
use Rattle.htl_parse.proofs.cursor.Cursor.next_number.Goals as goal

pub number-requires : goal.number-requires
number-requires c = sym (kind-at c.self.inside.place c.self.inside.place c.self.inside.tokens.now.tokens) ∙ ap next_kind c.self.view_is ∙ c.requires

pub returns : goal.returns
returns c =
    let first =
    subst (λ (ts : List Placed). ts ≡ Put (place_at ts) (token.Number c.number.result) ∷ behind ts) c.self.view_is
    (next-is c.self.inside.place (drop c.self.inside.place c.self.inside.tokens.now.tokens) (drop (c.self.inside.place + 1) c.self.inside.tokens.now.tokens) (token.Number c.number.result) c.number.ensures.first) in
    search rules
