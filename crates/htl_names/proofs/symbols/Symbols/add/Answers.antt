use Rattle.std.proofs.Common.{◌∙◌, sym, ap, ◌++◌, ◌∷◌, []}
use Rattle.htl_names.proofs.{Words.look_up, Words.insert_entry-new, SymbolLaws.lookup_is}
use Rattle.htl_names.specs.contracts.key.KeyPartialEq.TheImpl as key_impl
use Rattle.htl_names.proofs.symbols.Symbols.add.Goals as goal

pub returns : goal.returns
returns c =
    let is = lookup_is c.args.key c.self.inside.map.entries ∙ ap (look_up c.args.key) c.self.view_is in
    record {
      old = c.in_ok-old.ensures.old ∙ is;
      added = λ none.
          c.in_ok-old.ensures.entries ∙ insert_entry-new (key_impl.eq-value).it c.self.inside.map c.args.key c.args.number (sym c.in_ok-old.ensures.old ∙ none)
          ∙ ap (λ es. es ++ (c.args.key, c.args.number) ∷ []) c.self.view_is;
    }
