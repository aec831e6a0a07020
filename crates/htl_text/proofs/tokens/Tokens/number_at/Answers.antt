use Rattle.std.proofs.Common.{rules, to_z, of_z, w64, ℤ, ◌≡◌, ℕ, List, Some, length, ap, sym, subst, ◌∙◌, ◌<◌}
use Rattle.htl_text.proofs.{Words.slice_get, Words.option_map, Words.IsKept, Words.token_in, Words.kind_of, Words.TokenList, Words.Entry, Words.Token, AtPlaces.entry-below, AtPlaces.entry-kind, AtPlaces.token-at}
use Rattle.htl_text.specs.declared.token.Kind.TheVariants as kind
use Rattle.htl_text.specs.declared.token.Token.TheVariants as token
use Rattle.htl_text.proofs.tokens.Tokens.number_at.Goals as goal

pub entry_at-entry-requires : goal.entry_at-entry-requires
entry_at-entry-requires c =
    let wanted = subst (λ (t : TokenList). option_map kind_of (slice_get t.tokens c.args.place) ≡ Some kind.Number) (sym c.self.view_is) c.requires in
    subst (λ (es : List Entry). c.args.place < length es) (sym c.as_slice.ensures.value) (entry-below c.self.inside.source.items c.self.inside.entries.items c.args.place kind.Number wanted)

pub number_in-requires-clause-kept : goal.number_in-requires-clause-kept
number_in-requires-clause-kept c =
    let at : slice_get c.self.inside.entries.items c.args.place ≡ Some c.entry_at-entry.result = ap (λ (es : List Entry). slice_get es c.args.place) (sym c.as_slice.ensures.value) ∙ c.entry_at-entry.ensures in
    subst (λ (source : List ℕ). IsKept source c.entry_at-entry.result) (sym c.as_slice-source.ensures.value) (c.self.invariant.kept c.args.place c.entry_at-entry.result at)

pub number_in-requires-clause-kind : goal.number_in-requires-clause-kind
number_in-requires-clause-kind c =
    let at : slice_get c.self.inside.entries.items c.args.place ≡ Some c.entry_at-entry.result = ap (λ (es : List Entry). slice_get es c.args.place) (sym c.as_slice.ensures.value) ∙ c.entry_at-entry.ensures in
    let wanted = subst (λ (t : TokenList). option_map kind_of (slice_get t.tokens c.args.place) ≡ Some kind.Number) (sym c.self.view_is) c.requires in
    entry-kind c.self.inside.source.items c.self.inside.entries.items c.args.place kind.Number c.entry_at-entry.result at wanted

pub returns : goal.returns
returns c =
    let at : slice_get c.self.inside.entries.items c.args.place ≡ Some c.entry_at-entry.result = ap (λ (es : List Entry). slice_get es c.args.place) (sym c.as_slice.ensures.value) ∙ c.entry_at-entry.ensures in
    let same : to_z w64 (of_z w64 c.number_in.result) ≡ c.number_in.result = search rules in
    subst (λ (t : TokenList). slice_get t.tokens c.args.place ≡ Some (token.Number (to_z w64 (of_z w64 c.number_in.result)))) c.self.view_is
    (token-at c.self.inside.source.items c.self.inside.entries.items c.args.place c.entry_at-entry.result at
    ∙ ap (λ (source : List ℕ). Some (token_in source c.entry_at-entry.result)) (sym c.as_slice-source.ensures.value) ∙ ap (λ (t : Token). Some t) c.number_in.ensures
    ∙ ap (λ (x : ℤ). Some (token.Number x)) (sym same))
