use Rattle.std.proofs.Common.{◌≡◌, List, ap, sym, subst, ◌∙◌}
use Rattle.htl_text.proofs.{Words.slice_get, Words.option_map, Words.kind_at, Words.kind_of, Words.TokenList, Words.Entry, AtPlaces.kinds-at, AtPlaces.first-at}
use Rattle.htl_text.proofs.tokens.Tokens.kind.Goals as goal

pub returns-clause-kind : goal.returns-clause-kind
returns-clause-kind c =
    subst (λ (t : TokenList). c.kind_at.result ≡ option_map kind_of (slice_get t.tokens c.args.place)) c.self.view_is
    (c.kind_at.ensures ∙ ap (λ (es : List Entry). kind_at es c.args.place) c.as_slice.ensures.value ∙ sym (kinds-at c.self.inside.source.items c.self.inside.entries.items c.args.place))

pub returns-clause-first : goal.returns-clause-first
returns-clause-first c = first-at c.args.self.now.tokens c.args.place c.kind_at.result (returns-clause-kind c)
